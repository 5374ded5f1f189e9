-- The cells of a stripe that are written anew, column after column.
use Rattle.std.proofs.Common.{◌≡◌, ◌≢◌, ◌⊎◌, inl, inr, ℕ, ◌+◌, ◌-◌, ◌<◌, ◌≤◌, List, [], ◌∷◌, ◌++◌, length, replicate, get_or, set, Bool, true, false, IsTrue, refl, sym, ap, ap₂, ◌∙◌, subst, arith, length-append}
use Rattle.std.specs.Prelude.{count_by}
use Rattle.std.specs.List.{range_with_len}
use Rattle.std.proofs.lemmas.Bool.{cases_eq, cases_lt}
use Rattle.std.proofs.lemmas.List.{append-nil, length-set, get_or-set_same, get_or-set_other, get_or_append_left, get_or-append_right, get_or-replicate, get_or_push}
use Rattle.disk_model.specs.Folder.{FolderView}
use Rattle.disk_model.specs.Sink.{SinkView}
use Rattle.snap_report.specs.Report.{ReportView}
use Rattle.snap_report.specs.Told.{Told}
use Rattle.snap_report.specs.declared.events.Event.{Event}
use Rattle.snap_report.proofs.ToldLemmas.{told_nothing, told_then}
use Rattle.stripe_reader.specs.Columns.{folder_at}
use Rattle.stripe_reader.specs.Starts.{StartsFit, starts_at}
use Rattle.stripe_reader.specs.WindowValue.{WindowValue}
use Rattle.stripe_examiner.specs.declared.marking.SlotMark.{SlotMark}
use Rattle.snap_fix.specs.declared.repairing.Repaired.{Repaired}
use Rattle.stripe_examiner.specs.Counts.{AreCounts}
use Rattle.stripe_examiner.specs.Facts.{StripeFacts}
use Rattle.snap_fix.specs.Mended.{Mended, answer_of, cell_news, is_repaired, is_written}
use Rattle.file_restorer.specs.Mending.{StatesFit}
use Rattle.repair_scope.specs.Plan.{FixPlan}
use Rattle.snap_fix.specs.Repairing.{FilesOutside, CanMend, MendsFiles, MendsNotFiles}
use Rattle.snap_fix.specs.RepairSteps.{column_outside, IsMendedAs, CanMendColumn, MendsColumn, MendsNotColumn}
use Rattle.file_restorer.specs.State.{FolderMakesBy, KeepsStarts}
use Rattle.snap_fix.specs.Underway.{AreMendCalls, FailsInMend, IsFixable, IsColumnUnderway}
use Rattle.stripe_examiner.specs.Showing.{ShowsFacts}
use Rattle.snap_fix.proofs.MendedCounts.{count_to-more}
use Rattle.snap_fix.proofs.RepairCellLemmas.{none_written}
use Rattle.snap_fix.proofs.RepairLemmas.{underway_same}
use Rattle.snap_fix.proofs.StartsKeptLemmas.{fails_before, keeps_starts_same, keeps_starts_then, makes_before}
use Rattle.stripe_examiner.proofs.TellingLemmas.{Joins, events_to, events_to-more, told_as}

module _ {W R : Type 0} (view : W → SinkView) (standing : R → ReportView) (stands : R → List Event → Type 0)
    (plan : FixPlan) (stripe i : ℕ) (window : WindowValue) (marks : List SlotMark) (known : Bool) (old : FilesOutside W R) where
  abbrev Shows : StripeFacts → Type 0
  Shows facts = ShowsFacts plan facts i marks known window

  -- the facts of a stripe are shown, and fit the answers of the first columns
  pub record AreMendedAs (answers : List Bool) (mended : Mended) : Type 0 where
    pub stripe_is : mended.facts.stripe ≡ stripe
    pub shows : Shows mended.facts
    pub answers_are : (k : ℕ) → k < length answers → answer_of mended k ≡ get_or answers k false

  -- a column was looked at
  pub record ColumnDone (k : ℕ) (answers : List Bool) (new : FilesOutside W R) : Type 0 where
    pub makes : (mended : Mended) → AreMendedAs answers mended
        → FolderMakesBy (AreMendCalls plan old.starts k mended) (folder_at old.folders k) (folder_at new.folders k)
    pub answered : (mended : Mended) → AreMendedAs answers mended → IsTrue (folder_at old.folders k).tells → is_repaired plan mended.facts k ≡ true → answer_of mended k ≡ true
    pub underway : (mended : Mended) → AreMendedAs answers mended → (stripes : List Mended) (first : FolderView) → IsFixable plan k first
        → IsColumnUnderway plan k stripes first (folder_at old.folders k) old.starts old.states
        → IsColumnUnderway plan k (stripes ++ mended ∷ []) first (folder_at new.folders k) new.starts new.states

  -- and one that was not is as it was
  pub record ColumnLeft (k : ℕ) (mid new : FilesOutside W R) : Type 0 where
    pub same_folder : folder_at new.folders k ≡ folder_at mid.folders k
    pub same_starts : starts_at new.starts.columns k ≡ starts_at mid.starts.columns k
    pub same_states : get_or new.states k [] ≡ get_or mid.states k []

  -- The first columns were looked at.
  pub record FilesSoFar (d : ℕ) (new : FilesOutside W R) (repaired : Repaired) : Type 0 where
    pub answers : List Bool
    pub as_many : length answers ≡ d
    pub starts_fit : StartsFit plan.table new.starts
    pub states_fit : StatesFit plan.table new.states
    pub stood : KeepsStarts old.starts new.starts
    pub folders : length new.folders ≡ length old.folders
    pub few : repaired.blocks ≤ d
    pub told : (mended : Mended) → AreMendedAs answers mended
        → Told view standing stands plan.table.columns (events_to (cell_news plan mended) d) old.lines new.lines old.reports new.reports
    pub counts : (mended : Mended) → AreMendedAs answers mended → AreCounts (events_to (cell_news plan mended) d) repaired.counts
    pub blocks : (mended : Mended) → AreMendedAs answers mended → repaired.blocks ≡ count_by (is_written plan mended) (range_with_len 0 d)
    pub done : (k : ℕ) → k < d → ColumnDone k answers new
    pub left : (k : ℕ) → d ≤ k → ColumnLeft k old new

  pub files_none : StartsFit plan.table old.starts → StatesFit plan.table old.states → FilesSoFar 0 old none_written
  files_none starts_fit states_fit = record {
    answers = [];
    as_many = refl;
    starts_fit = starts_fit;
    states_fit = states_fit;
    stood = keeps_starts_same old.starts;
    folders = refl;
    few = omega arith;
    told = λ mended shown. told_nothing view standing stands plan.table.columns old.lines old.reports;
    counts = λ mended shown. record { found = refl; left = refl };
    blocks = λ mended shown. refl;
    done = λ k none. absurd (omega (arith, none));
    left = λ k all. record { same_folder = refl; same_starts = refl; same_states = refl };
  }

  -- the next column can be looked at
  pub column_can : (d : ℕ) (mid : FilesOutside W R) (repaired : Repaired) → CanMend plan stripe i window marks known old.starts old.states old.folders
      → FilesSoFar d mid repaired → d < length plan.table.columns → (folder : FolderView) → folder ≡ folder_at mid.folders d
      → CanMendColumn plan stripe i d window marks known mid.starts mid.states folder
  column_can d mid repaired can so_far within folder folder_is = record {
    within = within;
    starts_fit = so_far.starts_fit;
    states_fit = so_far.states_fit;
    marks_are = can.marks_are;
    facts = can.facts;
    stripe_is = can.stripe_is;
    shows = can.shows;
    stripes = can.underway.stripes;
    first = folder_at can.underway.firsts d;
    fixable = can.underway.fixable d within;
    underway = underway_same plan d can.underway.stripes (folder_at can.underway.firsts d) (folder_at old.folders d) folder old.starts mid.starts old.states mid.states
        (folder_is ∙ left.same_folder) left.same_starts left.same_states (can.underway.underway.each d within);
  }
    where
      left : ColumnLeft d old mid
      left = so_far.left d (omega arith)

  -- a column that was looked at, and then stays
  done_stays : (k : ℕ) (answers more : List Bool) (mid new : FilesOutside W R) → ((mended : Mended) → AreMendedAs more mended → AreMendedAs answers mended)
      → ColumnLeft k mid new → ColumnDone k answers mid → ColumnDone k more new
  done_stays k answers more mid new fewer stays before = record {
    makes = λ mended shown. subst (FolderMakesBy (AreMendCalls plan old.starts k mended) (folder_at old.folders k)) (sym stays.same_folder) (before.makes mended (fewer mended shown));
    answered = λ mended shown. before.answered mended (fewer mended shown);
    underway = λ mended shown stripes first fixable was.
        underway_same plan k (stripes ++ mended ∷ []) first (folder_at mid.folders k) (folder_at new.folders k) mid.starts new.starts mid.states new.states
        stays.same_folder stays.same_starts stays.same_states (before.underway mended (fewer mended shown) stripes first fixable was);
  }

  -- what a step on one folder leaves
  module _ (d : ℕ) (mid new : FilesOutside W R) (folder folder_new : FolderView) (folder_is : folder ≡ folder_at mid.folders d)
      (there : d < length mid.folders) (folders_are : new.folders ≡ set mid.folders d folder_new) where
    here_new : folder_at new.folders d ≡ folder_new
    here_new = ap (λ (fs : List FolderView). folder_at fs d) folders_are ∙ get_or-set_same mid.folders d folder_new _ there

    other_new : (k : ℕ) → k ≢ d → folder_at new.folders k ≡ folder_at mid.folders k
    other_new k other = ap (λ (fs : List FolderView). folder_at fs k) folders_are ∙ get_or-set_other mid.folders d k folder_new _ other

    many_new : length new.folders ≡ length mid.folders
    many_new = ap (λ (fs : List FolderView). length fs) folders_are ∙ length-set mid.folders d folder_new

    -- one column more
    module _ (repaired more both : Repaired) (within : d < length plan.table.columns) (joins : Joins repaired.counts more.counts both.counts) (adds : both.blocks ≡ repaired.blocks + more.blocks)
        (so_far : FilesSoFar d mid repaired)
        (mends : MendsColumn view standing stands plan stripe i d window marks known
        (column_outside mid.starts mid.states folder mid.lines mid.reports) (column_outside new.starts new.states folder_new new.lines new.reports) more) where
      earlier : (mended : Mended) → AreMendedAs (so_far.answers ++ mends.answer ∷ []) mended → AreMendedAs so_far.answers mended
      earlier mended shown = record {
        stripe_is = shown.stripe_is;
        shows = shown.shows;
        answers_are = λ k below. shown.answers_are k (omega (arith, below, length-append so_far.answers (mends.answer ∷ []))) ∙ get_or_append_left so_far.answers (mends.answer ∷ []) false k below;
      }

      here : (mended : Mended) → AreMendedAs (so_far.answers ++ mends.answer ∷ []) mended → IsMendedAs plan stripe i d window marks known mends.answer mended
      here mended shown = record {
        stripe_is = shown.stripe_is;
        shows = shown.shows;
        answer_is = shown.answers_are d (omega (arith, so_far.as_many, length-append so_far.answers (mends.answer ∷ []))) ∙ get_or_push so_far.answers mends.answer false d so_far.as_many;
      }

      left_here : ColumnLeft d old mid
      left_here = so_far.left d (omega arith)

      stays : (k : ℕ) → k ≢ d → ColumnLeft k mid new
      stays k other = record { same_folder = other_new k other; same_starts = mends.keeps.same_starts k other; same_states = mends.keeps.same_states k other }

      done_here : ColumnDone d (so_far.answers ++ mends.answer ∷ []) new
      done_here = record {
        makes = λ mended shown.
            subst (FolderMakesBy (AreMendCalls plan old.starts d mended) (folder_at old.folders d)) (sym here_new)
            (subst (λ (v : FolderView). FolderMakesBy (AreMendCalls plan old.starts d mended) v folder_new) (folder_is ∙ left_here.same_folder)
            (makes_before plan old.starts mid.starts d mended so_far.stood (mends.makes mended (here mended shown))));
        answered = λ mended shown tells goes.
            (here mended shown).answer_is ∙ mends.answered mended (here mended shown) (subst (λ (v : FolderView). IsTrue v.tells) (sym (folder_is ∙ left_here.same_folder)) tells) goes;
        underway = λ mended shown stripes first fixable was.
            underway_same plan d (stripes ++ mended ∷ []) first folder_new (folder_at new.folders d) new.starts new.starts new.states new.states here_new refl refl
            (mends.underway mended (here mended shown) stripes first fixable
            (underway_same plan d stripes first (folder_at old.folders d) folder old.starts mid.starts old.states mid.states (folder_is ∙ left_here.same_folder) left_here.same_starts left_here.same_states was));
      }

      done_then : (k : ℕ) → k < d + 1 → (k ≡ d) ⊎ (k ≡ d → ⊥) → ColumnDone k (so_far.answers ++ mends.answer ∷ []) new
      done_then k below (inl same) = subst (λ (n : ℕ). ColumnDone n (so_far.answers ++ mends.answer ∷ []) new) (sym same) done_here
      done_then k below (inr other) = done_stays k so_far.answers (so_far.answers ++ mends.answer ∷ []) mid new earlier (stays k other) (so_far.done k (omega (arith, below, other)))

      left_then : (k : ℕ) → d + 1 ≤ k → ColumnLeft k old new
      left_then k past =
          let other : k ≢ d = λ same. omega (arith, past, same) in
          let before = so_far.left k (omega (arith, past)) in
          let after = stays k other in
          record {
            same_folder = after.same_folder ∙ before.same_folder;
            same_starts = after.same_starts ∙ before.same_starts;
            same_states = after.same_states ∙ before.same_states;
          }

      pub files_more : FilesSoFar (d + 1) new both
      files_more = record {
        answers = so_far.answers ++ mends.answer ∷ [];
        as_many = length-append so_far.answers (mends.answer ∷ []) ∙ ap (λ (n : ℕ). n + 1) so_far.as_many;
        starts_fit = mends.starts_fit;
        states_fit = mends.states_fit;
        stood = keeps_starts_then old.starts mid.starts new.starts so_far.stood mends.stood;
        folders = many_new ∙ so_far.folders;
        few = omega (arith, adds, so_far.few, mends.few);
        told = λ mended shown. told_as view standing stands plan.table.columns (events_to (cell_news plan mended) (d + 1)) (events_to (cell_news plan mended) d ++ cell_news plan mended d)
            old.lines new.lines old.reports new.reports (events_to-more (cell_news plan mended) d)
            (told_then view standing stands plan.table.columns (events_to (cell_news plan mended) d) (cell_news plan mended d) old.lines mid.lines new.lines old.reports mid.reports new.reports
            (so_far.told mended (earlier mended shown)) (mends.told mended (here mended shown)));
        counts = λ mended shown. subst (λ (events : List Event). AreCounts events both.counts) (sym (events_to-more (cell_news plan mended) d))
            (joins (events_to (cell_news plan mended) d) (cell_news plan mended d) (so_far.counts mended (earlier mended shown)) (mends.counts mended (here mended shown)));
        blocks = λ mended shown. adds ∙ ap₂ (λ (n m : ℕ). n + m) (so_far.blocks mended (earlier mended shown)) (mends.blocks mended (here mended shown))
            ∙ sym (count_to-more (is_written plan mended) d);
        done = λ k below. done_then k below (cases_eq k d);
        left = left_then;
      }

    -- its folder failed
    pub files_not : (repaired : Repaired) → d < length plan.table.columns → FilesSoFar d mid repaired
        → MendsNotColumn view standing stands plan stripe i d window marks known
        (column_outside mid.starts mid.states folder mid.lines mid.reports) (column_outside new.starts new.states folder_new new.lines new.reports)
        → MendsNotFiles view standing stands plan stripe i window marks known old new d
    files_not repaired within so_far fails = record {
      folders = many_new ∙ so_far.folders;
      broke = λ facts is shows.
          let mended : Mended = record { facts = facts; answers = answers } in
          let shown : AreMendedAs so_far.answers mended = first_shown facts is shows in (
            answers,
            λ k below tells goes. fit mended shown refl k below tells goes (cases_lt k d),
            told_as view standing stands plan.table.columns (events_to (cell_news plan mended) d) (events_to (cell_news plan mended) d ++ []) old.lines new.lines old.reports new.reports
                (sym (append-nil (events_to (cell_news plan mended) d)))
                (told_then view standing stands plan.table.columns (events_to (cell_news plan mended) d) [] old.lines mid.lines new.lines old.reports mid.reports new.reports
                (so_far.told mended shown) fails.told),
            let here = subst (FailsInMend plan old.starts d mended (folder_at old.folders d)) (sym here_new)
                (subst (λ (v : FolderView). FailsInMend plan old.starts d mended v folder_new) was
                (fails_before plan old.starts mid.starts d mended so_far.stood (fails.fails mended is shows))) in
                record {
                  in_column = record {
                    within = within;
                    before = λ k near.
                        subst (FolderMakesBy (AreMendCalls plan old.starts k mended) (folder_at old.folders k)) (sym (other_new k (λ same. omega (arith, same, near))))
                        ((so_far.done k near).makes mended shown);
                    here = here.fails.fails;
                    behind = λ k past below. other_new k (λ same. omega (arith, same, past)) ∙ (so_far.left k (omega (arith, past))).same_folder;
                  };
                  here = here;
                },
          );
    }
      where
        was : folder ≡ folder_at old.folders d
        was = folder_is ∙ (so_far.left d (omega arith)).same_folder

        -- a cell that was not come to is taken as written
        rest : List Bool
        rest = replicate (length plan.table.columns) true

        answers : List Bool
        answers = so_far.answers ++ rest

        first_shown : (facts : StripeFacts) → facts.stripe ≡ stripe → Shows facts → AreMendedAs so_far.answers (record { facts = facts; answers = answers })
        first_shown facts is shows = record { stripe_is = is; shows = shows; answers_are = λ k below. get_or_append_left so_far.answers rest false k below }

        fit : (mended : Mended) → AreMendedAs so_far.answers mended → mended.answers ≡ answers → (k : ℕ) → k < length plan.table.columns → IsTrue (folder_at old.folders k).tells
            → is_repaired plan mended.facts k ≡ true → (k < d) ⊎ (d ≤ k) → answer_of mended k ≡ true
        fit mended shown are k below tells goes (inl near) = (so_far.done k near).answered mended shown tells goes
        fit mended shown are k below tells goes (inr far) =
            ap (λ (bs : List Bool). get_or bs k false) are
            ∙ get_or-append_right so_far.answers rest d k false so_far.as_many far
            ∙ get_or-replicate (length plan.table.columns) (k - d) true false (omega (arith, far, below))

  -- all columns
  pub files_all : (d : ℕ) (new : FilesOutside W R) (repaired : Repaired) → length plan.table.columns ≡ d → FilesSoFar d new repaired
      → MendsFiles view standing stands plan stripe i window marks known old new repaired
  files_all d new repaired all so_far = record {
    answers = so_far.answers;
    as_many = so_far.as_many ∙ sym all;
    starts_fit = so_far.starts_fit;
    states_fit = so_far.states_fit;
    stood = so_far.stood;
    folders = so_far.folders;
    answered = λ facts is shows k within. (so_far.done k (omega (arith, within, all))).answered (record { facts = facts; answers = so_far.answers }) (shown facts is shows);
    told = λ facts is shows. told_as view standing stands plan.table.columns (events_to (cell_news plan (record { facts = facts; answers = so_far.answers })) (length plan.table.columns)) (events_to (cell_news plan (record { facts = facts; answers = so_far.answers })) d)
        old.lines new.lines old.reports new.reports (ap (events_to (cell_news plan (record { facts = facts; answers = so_far.answers }))) all) (so_far.told (record { facts = facts; answers = so_far.answers }) (shown facts is shows));
    counts = λ facts is shows. subst (λ (n : ℕ). AreCounts (events_to (cell_news plan (record { facts = facts; answers = so_far.answers })) n) repaired.counts) (sym all) (so_far.counts (record { facts = facts; answers = so_far.answers }) (shown facts is shows));
    blocks = λ facts is shows. so_far.blocks (record { facts = facts; answers = so_far.answers }) (shown facts is shows) ∙ ap (λ (n : ℕ). count_by (is_written plan (record { facts = facts; answers = so_far.answers })) (range_with_len 0 n)) (sym all);
    makes = λ facts is shows k within. (so_far.done k (omega (arith, within, all))).makes (record { facts = facts; answers = so_far.answers }) (shown facts is shows);
    underway = λ facts is shows stripes firsts fixable before. record {
      folders = so_far.folders ∙ before.folders;
      each = λ k within. (so_far.done k (omega (arith, within, all))).underway (record { facts = facts; answers = so_far.answers }) (shown facts is shows) stripes (folder_at firsts k) (fixable k within) (before.each k within);
    };
  }
    where
      shown : (facts : StripeFacts) → facts.stripe ≡ stripe → Shows facts → AreMendedAs so_far.answers (record { facts = facts; answers = so_far.answers })
      shown facts is shows = record { stripe_is = is; shows = shows; answers_are = λ k below. refl }
