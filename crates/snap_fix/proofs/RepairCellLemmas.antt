-- What becomes of the cell of a column of a stripe that is not written: it stays as it is, or it is lost.
use Rattle.std.proofs.Common.{◌≡◌, ◌⊎◌, inl, inr, ℕ, ◌<◌, List, [], ◌∷◌, ◌++◌, length, get_or, Bool, true, false, if◌then◌else◌, Option, Some, refl, sym, ap, ◌∙◌, subst, arith}
use Rattle.std.specs.Prelude.{◌&&◌, ◌||◌, ◌==◌, not}
use Rattle.std.proofs.Math.Bool.{or-false}
use Rattle.std.proofs.lemmas.Bool.{cases_eq, eq-eqb, ne_eqb}
use Rattle.std.proofs.lemmas.List.{get_or-set_other}
use Rattle.disk_model.specs.Folder.{FolderView, SomeFolderCalls}
use Rattle.disk_model.specs.Sink.{SinkView}
use Rattle.file_table.specs.Table.{records_in}
use Rattle.file_table.specs.declared.block.Cell.{Cell}
use Rattle.snap_report.specs.Report.{ReportView}
use Rattle.snap_report.specs.Told.{Told}
use Rattle.snap_report.specs.declared.events.Event.{Event}
use Rattle.snap_report.proofs.ToldLemmas.{told_nothing}
use Rattle.stripe_reader.specs.Starts.{StartsValue, StartsFit, starts_at, start_in}
use Rattle.stripe_reader.specs.WindowValue.{WindowValue}
use Rattle.stripe_reader.specs.declared.starts.Place.TheVariants.{Nowhere}
use Rattle.stripe_examiner.specs.declared.marking.SlotMark.{SlotMark}
use Rattle.snap_fix.specs.declared.repairing.Repaired.{Repaired}
use Rattle.file_restorer.specs.declared.state.FileState.{FileState}
use Rattle.stripe_examiner.specs.Counts.{AreCounts}
use Rattle.stripe_examiner.specs.Marks.{mark_in}
use Rattle.snap_fix.specs.Mended.{Mended, is_gone, is_repaired, is_written, is_of, loses, column_writes, answer_of, cell_news, mended_event}
use Rattle.file_restorer.specs.Mending.{StatesFit, with_state}
use Rattle.repair_scope.specs.Plan.{FixPlan, cell_at}
use Rattle.snap_fix.specs.RepairSteps.{ColumnOutside, IsMendedAs, CanMendColumn, MendsColumn, is_repaired_by}
use Rattle.stripe_examiner.specs.Findings.{is_lost_by}
use Rattle.file_restorer.specs.Order.{FolderWrites}
use Rattle.file_restorer.specs.State.{AreStepCalls, Write, HoldsTold, FolderMakesBy, KeepsStarts, state_in}
use Rattle.snap_fix.specs.StripeOrder.{stripe_writes}
use Rattle.snap_fix.specs.Underway.{AreMendCalls, IsMendCall, IsColumnUnderway, calls_of_cell}
use Rattle.file_restorer.proofs.FolderCallLemmas.{makes_by_none, no_step, some_none}
use Rattle.snap_fix.proofs.MendedFactsLemmas.{repaired_shown, lost_shown, writes_same, loses_by}
use Rattle.snap_fix.proofs.RepairLemmas.{record_still, column_lost, underway_more, state_same, state_other, row_same, states_fit-with}
use Rattle.snap_fix.proofs.StartsKeptLemmas.{keeps_starts_same}
use Rattle.snap_fix.proofs.StripeOrderLemmas.{nothing_written}
use Rattle.stripe_examiner.proofs.TellingLemmas.{told_as}
use Rattle.snap_fix.proofs.WritesLemmas.{writes_in-none}
use Rattle.snap_fix.proofs.RepairMarkLemmas.{and_false, or_true}

-- no block of it was written
abbrev pub none_written : Repaired
none_written = record { blocks = 0; counts = record { found = 0; left = 0 } }

module _ {W R : Type 0} (view : W → SinkView) (standing : R → ReportView) (stands : R → List Event → Type 0)
    (plan : FixPlan) (stripe i d : ℕ) (window : WindowValue) (marks : List SlotMark) (known : Bool) (old : ColumnOutside W R)
    (can : CanMendColumn plan stripe i d window marks known old.starts old.states old.folder) where
  abbrev mark : SlotMark
  mark = mark_in marks d

  abbrev Shown : Bool → Mended → Type 0
  Shown answer mended = IsMendedAs plan stripe i d window marks known answer mended

  abbrev records : ℕ
  records = length (records_in plan.table d)

  long : d < length old.states
  long = omega (arith, can.within, can.states_fit.columns)

  -- nothing is told or written of a cell that is not to be written
  module _ (stays : is_repaired_by plan stripe mark known d ≡ false) where
    repaired_not : (answer : Bool) (mended : Mended) → Shown answer mended → is_repaired plan mended.facts d ≡ false
    repaired_not answer mended shown = repaired_shown plan mended.facts stripe i d window marks known can.within shown.stripe_is shown.shows ∙ stays

    no_news : (mended : Mended) → Shown false mended → cell_news plan mended d ≡ []
    no_news mended shown = ap (λ (b : Bool). if b then mended_event mended.facts.stripe d (cell_at plan mended.facts.stripe d) (answer_of mended d) else []) (repaired_not false mended shown)

    not_written : (mended : Mended) → Shown false mended → is_written plan mended d ≡ false
    not_written mended shown = ap (λ (b : Bool). b && answer_of mended d) (repaired_not false mended shown)

    -- no call is made for it
    no_calls : (mended : Mended) → Shown false mended → (folder : FolderView) → FolderMakesBy (AreMendCalls plan old.starts d mended) folder folder
    no_calls mended shown folder =
        let Mend = IsMendCall plan old.starts d (mended ∷ []) in
        let gone_not : is_gone plan mended d ≡ false = ap (λ (b : Bool). b && not (answer_of mended d)) (repaired_not false mended shown) in
        makes_by_none (AreMendCalls plan old.starts d mended) folder (record {
          place = Nowhere;
          stood = λ is cell cell_is. absurd (let clash : true ≡ false = sym is ∙ repaired_not false mended shown in cc);
          touched = false;
          are = subst (λ (b : Bool). AreStepCalls Mend (if b then calls_of_cell plan d mended.facts Nowhere false (cell_at plan mended.facts.stripe d) else []) (is_gone plan mended d) [])
              (sym (repaired_not false mended shown))
              (subst (λ (missing : Bool). AreStepCalls Mend [] missing []) (sym gone_not) (no_step Mend));
        })

    -- of a record it loses the block of its cell, if that is lost
    loses_then : (lost : Bool) → is_lost_by plan stripe mark known d ≡ lost → (mended : Mended) → Shown false mended → (k : ℕ)
        → loses plan d k mended ≡ (is_of k (cell_at plan mended.facts.stripe d) && lost)
    loses_then lost lost_is mended shown k =
        loses_by plan d k mended lost false false (lost_shown plan mended.facts stripe i d window marks known can.within shown.stripe_is shown.shows ∙ lost_is)
        (repaired_not false mended shown) shown.answer_is
        ∙ ap (λ (b : Bool). is_of k (cell_at plan mended.facts.stripe d) && b) (or-false lost)

    holds_still : (mended : Mended) → Shown false mended → (stripes : List Mended) (first : FolderView) → IsColumnUnderway plan d stripes first old.folder old.starts old.states
        → HoldsTold (records_in plan.table d) (starts_at old.starts.columns d) (get_or old.states d []) (column_writes plan (stripes ++ mended ∷ []) d records) first old.folder
    holds_still mended shown stripes first before =
        subst (λ (ws : List (List Write)). HoldsTold (records_in plan.table d) (starts_at old.starts.columns d) (get_or old.states d []) ws first old.folder)
        (sym (writes_same plan stripes mended d records (not_written mended shown))) before.holds

    -- it is not lost either
    pub column_stays : is_lost_by plan stripe mark known d ≡ false → MendsColumn view standing stands plan stripe i d window marks known old old none_written
    column_stays lost_not = record {
      answer = false;
      starts_fit = can.starts_fit;
      states_fit = can.states_fit;
      keeps = record { same_starts = λ k other. refl; same_states = λ k other. refl };
      stood = keeps_starts_same old.starts;
      answered = λ mended shown tells goes. sym (repaired_not false mended shown) ∙ goes;
      told = λ mended shown. told_as view standing stands plan.table.columns (cell_news plan mended d) [] old.lines old.lines old.reports old.reports (no_news mended shown)
          (told_nothing view standing stands plan.table.columns old.lines old.reports);
      counts = λ mended shown. subst (λ (events : List Event). AreCounts events none_written.counts) (sym (no_news mended shown)) (record { found = refl; left = refl });
      blocks = λ mended shown. sym (ap (λ (b : Bool). if b then 1 else 0) (not_written mended shown));
      few = omega arith;
      makes = λ mended shown. no_calls mended shown old.folder;
      underway = λ mended shown stripes first fixable before.
          underway_more plan d stripes mended first old.folder old.folder old.starts old.starts old.states old.states before
          (some_none old.folder)
          (holds_still mended shown stripes first before)
          (λ k within. record_still plan d k mended old.folder.tells old.starts old.starts old.states old.states
          (sym (ap (λ (b : Bool). (state_in old.states d k).lost || b) (loses_then false lost_not mended shown k ∙ and_false (is_of k (cell_at plan mended.facts.stripe d)))
          ∙ or-false (state_in old.states d k).lost))
          refl refl refl (writes_in-none plan mended d k (not_written mended shown)))
          (λ told. nothing_written plan d first.tree stripes mended old.folder (not_written mended shown));
    }

    -- or it is lost
    pub column_loses : (cell : Cell) → cell_at plan stripe d ≡ Some cell → cell.rec < records → is_lost_by plan stripe mark known d ≡ true
        → (new : ColumnOutside W R) → new.starts ≡ old.starts → new.folder ≡ old.folder
        → new.states ≡ with_state old.states d cell.rec (record (state_in old.states d cell.rec) { lost = true })
        → Told view standing stands plan.table.columns [] old.lines new.lines old.reports new.reports
        → MendsColumn view standing stands plan stripe i d window marks known old new none_written
    column_loses cell cell_is rec lost_is new same_starts same_folder states_are nothing = record {
      answer = false;
      starts_fit = subst (StartsFit plan.table) (sym same_starts) can.starts_fit;
      states_fit = subst (StatesFit plan.table) (sym states_are) (states_fit-with plan old.states d cell.rec state can.within can.states_fit);
      keeps = record {
        same_starts = λ k other. ap (λ (s : StartsValue). starts_at s.columns k) same_starts;
        same_states = λ k other. ap (λ (s : List (List FileState)). get_or s k []) states_are ∙ get_or-set_other old.states d k _ [] other;
      };
      stood = subst (KeepsStarts old.starts) (sym same_starts) (keeps_starts_same old.starts);
      answered = λ mended shown tells goes. sym (repaired_not false mended shown) ∙ goes;
      told = λ mended shown. told_as view standing stands plan.table.columns (cell_news plan mended d) [] old.lines new.lines old.reports new.reports (no_news mended shown) nothing;
      counts = λ mended shown. subst (λ (events : List Event). AreCounts events none_written.counts) (sym (no_news mended shown)) (record { found = refl; left = refl });
      blocks = λ mended shown. sym (ap (λ (b : Bool). if b then 1 else 0) (not_written mended shown));
      few = omega arith;
      makes = λ mended shown. subst (FolderMakesBy (AreMendCalls plan old.starts d mended) old.folder) (sym same_folder) (no_calls mended shown old.folder);
      underway = λ mended shown stripes first fixable before.
          underway_more plan d stripes mended first old.folder new.folder old.starts new.starts old.states new.states before
          (subst (SomeFolderCalls old.folder) (sym same_folder) (some_none old.folder))
          (subst (λ (v : FolderView). HoldsTold (records_in plan.table d) (starts_at new.starts.columns d) (get_or new.states d []) (column_writes plan (stripes ++ mended ∷ []) d records) first v) (sym same_folder)
          (subst (λ (s : StartsValue). HoldsTold (records_in plan.table d) (starts_at s.columns d) (get_or new.states d []) (column_writes plan (stripes ++ mended ∷ []) d records) first old.folder) (sym same_starts)
          (subst (λ (s : List FileState). HoldsTold (records_in plan.table d) (starts_at old.starts.columns d) s (column_writes plan (stripes ++ mended ∷ []) d records) first old.folder)
          (sym (ap (λ (s : List (List FileState)). get_or s d []) states_are ∙ row_same old.states d cell.rec state long))
          (λ tells. column_lost (records_in plan.table d) (starts_at old.starts.columns d) (get_or old.states d []) (column_writes plan (stripes ++ mended ∷ []) d records) first.tree old.folder.tree cell.rec true rec
          (holds_still mended shown stripes first before tells)))))
          (λ k within. record_still plan d k mended old.folder.tells old.starts new.starts old.states new.states
          (ap (λ (s : List (List FileState)). (state_in s d k).lost) states_are ∙ by mended shown k within (cases_eq cell.rec k))
          (ap (λ (s : StartsValue). (start_in (starts_at s.columns d) k).size) same_starts)
          (ap (λ (s : List (List FileState)). (state_in s d k).size) states_are ∙ still (λ (s : FileState). s.size) refl k (cases_eq cell.rec k))
          (ap (λ (s : List (List FileState)). (state_in s d k).touched) states_are ∙ still (λ (s : FileState). s.touched) refl k (cases_eq cell.rec k))
          (writes_in-none plan mended d k (not_written mended shown)))
          (λ told. subst (FolderWrites (stripe_writes plan d first.tree stripes mended) old.folder) (sym same_folder)
          (nothing_written plan d first.tree stripes mended old.folder (not_written mended shown)));
    }
      where
        state : FileState
        state = record (state_in old.states d cell.rec) { lost = true }

        -- all else of each state stays
        still : {A : Type 0} (of : FileState → A) → of state ≡ of (state_in old.states d cell.rec) → (k : ℕ) → (cell.rec ≡ k) ⊎ (cell.rec ≡ k → ⊥)
            → of (state_in (with_state old.states d cell.rec state) d k) ≡ of (state_in old.states d k)
        still of same_of k (inl same) =
            ap (λ (n : ℕ). of (state_in (with_state old.states d cell.rec state) d n)) (sym same)
            ∙ ap of (state_same old.states d cell.rec state long (omega (arith, rec, can.states_fit.records d can.within))) ∙ same_of ∙ ap (λ (n : ℕ). of (state_in old.states d n)) same
        still of same_of k (inr other) = ap of (state_other old.states d cell.rec k state long (λ same. other (sym same)))

        here : (mended : Mended) → Shown false mended → (k : ℕ) → loses plan d k mended ≡ (cell.rec == k)
        here mended shown k =
            loses_then true lost_is mended shown k
            ∙ ap (λ (c : Option Cell). is_of k c && true) (ap (λ (s : ℕ). cell_at plan s d) shown.stripe_is ∙ cell_is) ∙ and_true (cell.rec == k)
          where
            and_true : (b : Bool) → (b && true) ≡ b
            and_true true = refl
            and_true false = refl

        by : (mended : Mended) → Shown false mended → (k : ℕ) → k < records → (cell.rec ≡ k) ⊎ (cell.rec ≡ k → ⊥)
            → (state_in (with_state old.states d cell.rec state) d k).lost ≡ ((state_in old.states d k).lost || loses plan d k mended)
        by mended shown k within (inl same) =
            ap (λ (n : ℕ). (state_in (with_state old.states d cell.rec state) d n).lost) (sym same)
            ∙ ap (λ (s : FileState). s.lost) (state_same old.states d cell.rec state long (omega (arith, rec, can.states_fit.records d can.within)))
            ∙ sym (ap (λ (b : Bool). (state_in old.states d k).lost || b) (here mended shown k ∙ eq-eqb cell.rec k same) ∙ or_true (state_in old.states d k).lost)
        by mended shown k within (inr other) =
            ap (λ (s : FileState). s.lost) (state_other old.states d cell.rec k state long (λ same. other (sym same)))
            ∙ sym (ap (λ (b : Bool). (state_in old.states d k).lost || b) (here mended shown k ∙ ne_eqb cell.rec k other) ∙ or-false (state_in old.states d k).lost)
