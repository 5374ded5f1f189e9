-- What becomes of the cell of a column of a stripe that is written anew: it is written, or its file is gone.
use Rattle.std.proofs.Common.{◌≡◌, ◌⊎◌, inl, inr, ℕ, ◌<◌, ◌≤◌, List, [], ◌∷◌, ◌++◌, length, get_or, Bool, true, false, if◌then◌else◌, IsTrue, Option, Some, refl, sym, ap, ap₂, ◌∙◌, subst, arith}
use Rattle.std.specs.Prelude.{◌&&◌, ◌||◌, ◌==◌, not}
use Rattle.std.proofs.Math.Bool.{or-false}
use Rattle.std.proofs.lemmas.Bool.{cases_eq, eq-eqb, ne_eqb}
use Rattle.std.proofs.lemmas.List.{get_or-set_other}
use Rattle.disk_model.specs.Folder.{FolderView, FolderCall}
use Rattle.disk_model.specs.Sink.{SinkView}
use Rattle.file_table.specs.Table.{record_at, records_in}
use Rattle.file_table.specs.declared.block.Cell.{Cell}
use Rattle.parity_writer.specs.WindowRow.{bytes_of}
use Rattle.snap_report.specs.Report.{ReportView}
use Rattle.snap_report.specs.declared.events.Event.{Event}
use Rattle.stripe_reader.specs.Starts.{StartsValue, StartsFit, starts_at, start_in}
use Rattle.stripe_reader.specs.WindowValue.{WindowValue, slot_at}
use Rattle.stripe_reader.specs.declared.starts.Place.{Place}
use Rattle.stripe_reader.specs.declared.starts.Place.TheVariants.{Lost, Nowhere}
use Rattle.stripe_examiner.specs.declared.marking.SlotMark.{SlotMark}
use Rattle.snap_fix.specs.declared.repairing.Repaired.{Repaired}
use Rattle.file_restorer.specs.declared.state.FileState.{FileState}
use Rattle.stripe_examiner.specs.Counts.{AreCounts}
use Rattle.stripe_examiner.specs.Facts.{StripeFacts, damaged_at}
use Rattle.stripe_examiner.specs.Marks.{mark_in}
use Rattle.snap_fix.specs.Mended.{Mended, is_gone, is_repaired, is_written, is_of, loses, column_writes, writes_in, answer_of, cell_news, mended_event, is_blocked_cell}
use Rattle.stripe_examiner.specs.Showing.{known_block, block_or_none, ShowsFacts, is_damaged_mark, is_known_mark}
use Rattle.file_restorer.specs.Breaking.{StepFails}
use Rattle.file_restorer.specs.Mending.{StatesFit, IsBlockCall, CanWrite, block_start, cell_path, mended_writes, with_state}
use Rattle.repair_scope.specs.Plan.{FixPlan, cell_at, entry_at, is_synced, selects_cell}
use Rattle.snap_fix.specs.RepairSteps.{ColumnOutside, IsMendedAs, CanMendColumn, MendsColumn, MendsNotColumn, WritesBlockOf, WritesNotBlockOf, is_repaired_by}
use Rattle.stripe_examiner.specs.Findings.{is_lost_by}
use Rattle.file_restorer.specs.Order.{FolderWrites, block_calls}
use Rattle.file_restorer.specs.State.{AreStepCalls, StopsAtMissing, Write, HoldsTold, FolderMakesBy, KeepsStarts, StaysPlace, StepMakes, has_some, size_after, state_in}
use Rattle.snap_fix.specs.Underway.{AreMendCalls, IsMendCall, SetsUpOneOf, calls_of_cell, repair_calls}
use Rattle.file_restorer.proofs.FolderCallLemmas.{makes_by_wider, well_wider}
use Rattle.file_restorer.proofs.FolderFailsLemmas.{step_fails_wider}
use Rattle.snap_fix.proofs.MendedFactsLemmas.{and_parts, block_known, repaired_shown, lost_shown, writes_same, writes_more, loses_by}
use Rattle.snap_fix.proofs.RepairLemmas.{RecordGoesOn, record_still, underway_more, state_same, state_other, states_fit-with, starts_fit-with}
use Rattle.snap_fix.proofs.StartsKeptLemmas.{keeps_starts_with}
use Rattle.snap_fix.proofs.StripeOrderLemmas.{cell_written}
use Rattle.stripe_examiner.proofs.TellingLemmas.{told_as}
use Rattle.snap_fix.proofs.WritesLemmas.{writes_in-other, writes_in-here}
use Rattle.snap_fix.proofs.RepairMarkLemmas.{or_true, or_swap, not_blocked, not_lost_by}

module _ {W R : Type 0} (view : W → SinkView) (standing : R → ReportView) (stands : R → List Event → Type 0)
    (plan : FixPlan) (stripe i d : ℕ) (window : WindowValue) (marks : List SlotMark) (known : Bool) (old : ColumnOutside W R)
    (can : CanMendColumn plan stripe i d window marks known old.starts old.states old.folder) where
  abbrev mark : SlotMark
  mark = mark_in marks d

  abbrev Shown : Bool → Mended → Type 0
  Shown answer mended = IsMendedAs plan stripe i d window marks known answer mended

  abbrev records : ℕ
  records = length (records_in plan.table d)

  long : d < length old.states
  long = omega (arith, can.within, can.states_fit.columns)

  module _ (cell : Cell) (cell_is : cell_at plan stripe d ≡ Some cell) (rec : cell.rec < records) (goes : is_repaired_by plan stripe mark known d ≡ true) where
    abbrev parts : (selects_cell plan stripe d ≡ true) × (is_damaged_mark mark.cell ≡ true) × (is_known_mark (is_synced plan stripe) mark known ≡ true) × (not (is_blocked_cell plan d (cell_at plan stripe d)) ≡ true)
    parts = and_parts (selects_cell plan stripe d) (is_damaged_mark mark.cell) (is_known_mark (is_synced plan stripe) mark known) (not (is_blocked_cell plan d (cell_at plan stripe d))) goes

    pub is_free : (entry_at plan d cell.rec).blocked ≡ false
    is_free = not_blocked (entry_at plan d cell.rec).blocked (ap (λ (c : Option Cell). not (is_blocked_cell plan d c)) (sym cell_is) ∙ parts.3)

    -- the facts that are shown have its block
    cell_of : (facts : StripeFacts) → facts.stripe ≡ stripe → cell_at plan facts.stripe d ≡ Some cell
    cell_of facts is = ap (λ (s : ℕ). cell_at plan s d) is ∙ cell_is

    damaged_of : (facts : StripeFacts) → ShowsFacts plan facts i marks known window → damaged_at plan facts d ≡ true
    damaged_of facts shows = shows.damaged d can.within ∙ parts.1

    block_of : (facts : StripeFacts) → facts.stripe ≡ stripe → ShowsFacts plan facts i marks known window → bytes_of (slot_at window i d) ≡ block_or_none (known_block plan facts d)
    block_of facts is shows = shows.block d can.within (damaged_of facts shows) (block_known plan facts stripe i d window marks known can.within is shows (damaged_of facts shows) ∙ parts.2)

    repaired_of : (facts : StripeFacts) → facts.stripe ≡ stripe → ShowsFacts plan facts i marks known window → is_repaired plan facts d ≡ true
    repaired_of facts is shows = repaired_shown plan facts stripe i d window marks known can.within is shows ∙ goes

    pub can_write : (bytes : List ℕ) → bytes ≡ bytes_of (slot_at window i d) → cell.index < length (record_at plan.table.columns d cell.rec).blocks
        → CanWrite plan.table d cell bytes old.starts old.states old.folder
    can_write bytes bytes_are index = record {
      column = can.within;
      rec = rec;
      block = index;
      long = ap (λ (bs : List ℕ). length bs) (bytes_are ∙ block_of can.facts can.stripe_is can.shows)
          ∙ can.shows.long d cell can.within (cell_of can.facts can.stripe_is) (damaged_of can.facts can.shows)
          (block_known plan can.facts stripe i d window marks known can.within can.stripe_is can.shows (damaged_of can.facts can.shows) ∙ parts.2);
      starts_fit = can.starts_fit;
      states_fit = can.states_fit;
      is_open = can.underway.calls.goes_on.closed ∙ can.fixable.is_open (omega (arith, rec));
      underway = λ told.
          let first_told : IsTrue can.first.tells = subst IsTrue can.underway.calls.goes_on.tells told in
          record {
            first = can.first.tree;
            writes = column_writes plan can.stripes d records;
            is_tree = can.fixable.is_tree first_told;
            holds = can.underway.holds first_told;
            free = can.fixable.free first_told cell.rec rec is_free;
          };
    }

    -- its calls
    module _ (bytes : List ℕ) (bytes_are : bytes ≡ bytes_of (slot_at window i d)) where
      abbrev place : Place
      place = (start_in (starts_at old.starts.columns d) cell.rec).place

      call_of : (mended : Mended) → mended.facts.stripe ≡ stripe → ShowsFacts plan mended.facts i marks known window → (call : FolderCall)
          → IsBlockCall place (cell_path plan.table d cell) (block_start plan.table cell) bytes call → IsMendCall plan old.starts d (mended ∷ []) call
      call_of mended is shows call = λ made. elim made [
        | inl write ↦ subst Mends (sym write) (record {
          mended = mended;
          is_one = (0, omega arith, refl);
          writes = record {
            repaired = repaired_of mended.facts is shows;
            cell = cell;
            cell_is = cell_of mended.facts is;
            path_is = refl;
            at_is = refl;
            bytes_are = bytes_are ∙ block_of mended.facts is shows;
          };
        })
        | inr up ↦ elim up [
          | inl back ↦ subst Mends (sym back.1) (sets_up Lost back.0)
          | inr anew ↦ subst Mends (sym anew.1) (sets_up Nowhere anew.0)
        ]
      ]
        where
          this : List Mended
          this = mended ∷ []

          Mends : FolderCall → Type 0
          Mends = IsMendCall plan old.starts d this

          sets_up : (there : Place) → place ≡ there → SetsUpOneOf plan old.starts d this there (cell_path plan.table d cell)
          sets_up there stood = record {
            mended = mended;
            is_one = (0, omega arith, refl);
            sets_up = record {
              repaired = repaired_of mended.facts is shows;
              cell = cell;
              cell_is = cell_of mended.facts is;
              path_is = refl;
              stood = stood;
            };
          }

      abbrev Block : FolderCall → Type 0
      Block = IsBlockCall place (cell_path plan.table d cell) (block_start plan.table cell) bytes

      abbrev touched : Bool
      touched = (state_in old.states d cell.rec).touched

      abbrev block_here : List FolderCall
      block_here = block_calls place touched (cell_path plan.table d cell) (block_start plan.table cell) bytes

      gone_by : (written : Bool) (mended : Mended) → Shown written mended → is_gone plan mended d ≡ not written
      gone_by written mended shown = ap₂ (λ (repaired answer : Bool). repaired && not answer) (repaired_of mended.facts shown.stripe_is shown.shows) shown.answer_is

      -- they are the calls of the block
      block_is : (facts : StripeFacts) → facts.stripe ≡ stripe → ShowsFacts plan facts i marks known window → repair_calls plan d facts place touched ≡ block_here
      block_is facts is shows =
          ap (λ (b : Bool). if b then calls_of_cell plan d facts place touched (cell_at plan facts.stripe d) else []) (repaired_of facts is shows)
          ∙ ap (calls_of_cell plan d facts place touched) (cell_of facts is)
          ∙ ap (λ (bs : List ℕ). block_calls place touched (cell_path plan.table d cell) (block_start plan.table cell) bs) (sym (bytes_are ∙ block_of facts is shows))

      stood_here : (mended : Mended) → mended.facts.stripe ≡ stripe → (other : Cell) → cell_at plan mended.facts.stripe d ≡ Some other
          → StaysPlace (start_in (starts_at old.starts.columns d) other.rec).place place
      stood_here mended is other other_is =
          let both : Some cell ≡ Some other = sym (cell_of mended.facts is) ∙ other_is in
          let same : cell ≡ other = cc in
          subst (λ (c : Cell). StaysPlace (start_in (starts_at old.starts.columns d) c.rec).place place) same (inl refl)

      calls_of : (written : Bool) (mended : Mended) → Shown written mended → (new : FolderView) → StepMakes Block block_here (not written) old.folder new
          → FolderMakesBy (AreMendCalls plan old.starts d mended) old.folder new
      calls_of written mended shown new makes =
          let gone = gone_by written mended shown in
          let just_these = sym (block_is mended.facts shown.stripe_is shown.shows) in
          makes_by_wider (AreStepCalls Block block_here (not written)) (AreMendCalls plan old.starts d mended) (λ done are. record {
            place = place;
            stood = λ is other other_is. stood_here mended shown.stripe_is other other_is;
            touched = touched;
            are = record {
              each = λ k none within. well_wider Block (IsMendCall plan old.starts d (mended ∷ [])) (call_of mended shown.stripe_is shown.shows) (get_or done k none) (are.each k none within);
              found = are.found ∙ sym gone;
              just = λ none. are.just (sym gone ∙ none) ∙ just_these;
              stops = λ missed. subst (λ (calls : List FolderCall). StopsAtMissing calls done) just_these (are.stops (sym gone ∙ missed));
            };
          }) makes

      -- a call failed
      pub column_not : (new : ColumnOutside W R) → WritesNotBlockOf view standing stands plan.table d cell bytes old new
          → MendsNotColumn view standing stands plan stripe i d window marks known old new
      column_not new fails = record {
        told = fails.told;
        fails = λ mended is shows.
            let Mend = IsMendCall plan old.starts d (mended ∷ []) in
            record {
              place = place;
              stood = λ other other_is. stood_here mended is other other_is;
              touched = touched;
              fails = subst (λ (calls : List FolderCall). StepFails Mend calls old.folder new.folder) (sym (block_is mended.facts is shows))
                  (step_fails_wider Block Mend block_here (call_of mended is shows) fails.fails);
            };
      }

      -- it was written, or its file was gone
      module _ (new : ColumnOutside W R) (repaired : Repaired) (writes : WritesBlockOf view standing stands plan.table stripe d cell bytes old new repaired) where
        news : (mended : Mended) → Shown writes.written mended → cell_news plan mended d ≡ mended_event stripe d (Some cell) writes.written
        news mended shown =
            ap (λ (b : Bool). if b then mended_event mended.facts.stripe d (cell_at plan mended.facts.stripe d) (answer_of mended d) else []) (repaired_of mended.facts shown.stripe_is shown.shows)
            ∙ ap (λ (c : Option Cell). mended_event mended.facts.stripe d c (answer_of mended d)) (cell_of mended.facts shown.stripe_is)
            ∙ ap₂ (λ (s : ℕ) (b : Bool). mended_event s d (Some cell) b) shown.stripe_is shown.answer_is

        written_is : (mended : Mended) → Shown writes.written mended → is_written plan mended d ≡ writes.written
        written_is mended shown =
            ap₂ (λ (b answer : Bool). b && answer) (repaired_of mended.facts shown.stripe_is shown.shows) shown.answer_is

        one_at_most : (b : Bool) → (if b then 1 else 0) ≤ 1
        one_at_most true = omega arith
        one_at_most false = omega arith

        writes_are : (mended : Mended) → Shown writes.written mended → (stripes : List Mended)
            → column_writes plan (stripes ++ mended ∷ []) d records ≡ mended_writes plan.table cell bytes writes.written (column_writes plan stripes d records)
        writes_are mended shown stripes = by writes.written (written_is mended shown)
          where
            by : (b : Bool) → is_written plan mended d ≡ b → column_writes plan (stripes ++ mended ∷ []) d records ≡ mended_writes plan.table cell bytes b (column_writes plan stripes d records)
            by true is = writes_more plan stripes mended d records cell bytes rec (cell_of mended.facts shown.stripe_is) is (bytes_are ∙ block_of mended.facts shown.stripe_is shown.shows)
            by false is = writes_same plan stripes mended d records is

        loses_is : (mended : Mended) → Shown writes.written mended → (k : ℕ) → loses plan d k mended ≡ ((cell.rec == k) && not writes.written)
        loses_is mended shown k =
            loses_by plan d k mended (is_lost_by plan stripe mark known d) true writes.written (lost_shown plan mended.facts stripe i d window marks known can.within shown.stripe_is shown.shows)
            (repaired_of mended.facts shown.stripe_is shown.shows) shown.answer_is
            ∙ ap₂ (λ (c : Option Cell) (l : Bool). is_of k c && (l || not writes.written)) (cell_of mended.facts shown.stripe_is) (not_lost mark goes)
          where
            not_lost : (m : SlotMark) → is_repaired_by plan stripe m known d ≡ true → is_lost_by plan stripe m known d ≡ false
            not_lost m repaired =
                not_lost_by (selects_cell plan stripe d) (is_damaged_mark m.cell) (is_known_mark (is_synced plan stripe) m known) (not (is_blocked_cell plan d (cell_at plan stripe d))) repaired

        lost_is : (mended : Mended) → Shown writes.written mended → (k : ℕ) → k < records → (cell.rec ≡ k) ⊎ (cell.rec ≡ k → ⊥)
            → (state_in new.states d k).lost ≡ ((state_in old.states d k).lost || loses plan d k mended)
        lost_is mended shown k within (inl same) =
            ap (λ (s : List (List FileState)). (state_in s d k).lost) writes.states_are
            ∙ ap (λ (n : ℕ). (state_in (with_state old.states d cell.rec writes.state) d n).lost) (sym same)
            ∙ ap (λ (s : FileState). s.lost) (state_same old.states d cell.rec writes.state long (omega (arith, rec, can.states_fit.records d can.within)))
            ∙ writes.lost ∙ ap (λ (n : ℕ). not writes.written || (state_in old.states d n).lost) same
            ∙ or_swap (not writes.written) (state_in old.states d k).lost
            ∙ sym (ap (λ (b : Bool). (state_in old.states d k).lost || b) (loses_is mended shown k ∙ ap (λ (b : Bool). b && not writes.written) (eq-eqb cell.rec k same)))
        lost_is mended shown k within (inr other) =
            ap (λ (s : List (List FileState)). (state_in s d k).lost) writes.states_are
            ∙ ap (λ (s : FileState). s.lost) (state_other old.states d cell.rec k writes.state long (λ same. other (sym same)))
            ∙ sym (ap (λ (b : Bool). (state_in old.states d k).lost || b) (loses_is mended shown k ∙ ap (λ (b : Bool). b && not writes.written) (ne_eqb cell.rec k other)) ∙ or-false (state_in old.states d k).lost)

        stood : KeepsStarts old.starts new.starts
        stood = subst (KeepsStarts old.starts) (sym writes.starts_are) (keeps_starts_with old.starts d cell.rec writes.place
            (omega (arith, can.within, can.starts_fit.columns)) (omega (arith, rec, can.starts_fit.records d can.within)) writes.stood)

        -- what becomes of each record
        of_written : {A : Type 0} (of : FileState → A) (k : ℕ) → cell.rec ≡ k → of (state_in new.states d k) ≡ of writes.state
        of_written of k same =
            ap (λ (s : List (List FileState)). of (state_in s d k)) writes.states_are
            ∙ ap (λ (n : ℕ). of (state_in (with_state old.states d cell.rec writes.state) d n)) (sym same)
            ∙ ap of (state_same old.states d cell.rec writes.state long (omega (arith, rec, can.states_fit.records d can.within)))

        of_other : {A : Type 0} (of : FileState → A) (k : ℕ) → (cell.rec ≡ k → ⊥) → of (state_in new.states d k) ≡ of (state_in old.states d k)
        of_other of k other =
            ap (λ (s : List (List FileState)). of (state_in s d k)) writes.states_are ∙ ap of (state_other old.states d cell.rec k writes.state long (λ same. other (sym same)))

        abbrev written_here : Bool → List Write
        written_here written = if written then record { at = block_start plan.table cell; bytes = bytes } ∷ [] else []

        in_stripe : (mended : Mended) → Shown writes.written mended → (k : ℕ) → cell.rec ≡ k → writes_in plan d k mended ≡ written_here writes.written
        in_stripe mended shown k same =
            writes_in-here plan mended d k cell writes.written (cell_of mended.facts shown.stripe_is) same (written_is mended shown)
            ∙ ap (λ (bs : List ℕ). if writes.written then record { at = block_start plan.table cell; bytes = bs } ∷ [] else []) (sym (bytes_are ∙ block_of mended.facts shown.stripe_is shown.shows))

        some_written : (b : Bool) → has_some (written_here b) ≡ b
        some_written true = refl
        some_written false = refl

        goes_on : (mended : Mended) → Shown writes.written mended → (k : ℕ) → k < records → (cell.rec ≡ k) ⊎ (cell.rec ≡ k → ⊥)
            → RecordGoesOn plan d k mended old.folder.tells old.starts new.starts old.states new.states
        goes_on mended shown k within (inl same) = record {
          lost = lost_is mended shown k within (inl same);
          start = (stood d k).0;
          size = of_written (λ (s : FileState). s.size) k same ∙ writes.size
              ∙ ap₂ (λ (n : ℕ) (ws : List Write). size_after (state_in old.states d n).size ws) same (sym (in_stripe mended shown k same));
          stays = λ was. of_written (λ (s : FileState). s.touched) k same ∙ writes.stays_touched (ap (λ (n : ℕ). (state_in old.states d n).touched) same ∙ was);
          wrote = λ some. of_written (λ (s : FileState). s.touched) k same
              ∙ writes.touched (sym (ap has_some (in_stripe mended shown k same) ∙ some_written writes.written) ∙ some);
          touched = λ tells.
              let did : writes.written ≡ true = writes.there tells in
              of_written (λ (s : FileState). s.touched) k same ∙ writes.touched did
              ∙ sym (ap (λ (b : Bool). (state_in old.states d k).touched || b) (ap has_some (in_stripe mended shown k same) ∙ some_written writes.written ∙ did) ∙ or_true (state_in old.states d k).touched);
        }
        goes_on mended shown k within (inr other) = record_still plan d k mended old.folder.tells old.starts new.starts old.states new.states
            (lost_is mended shown k within (inr other)) (stood d k).0 (of_other (λ (s : FileState). s.size) k other) (of_other (λ (s : FileState). s.touched) k other)
            (writes_in-other plan mended d k cell (cell_of mended.facts shown.stripe_is) other)

        pub column_written : MendsColumn view standing stands plan stripe i d window marks known old new repaired
        column_written = record {
          answer = writes.written;
          starts_fit = subst (StartsFit plan.table) (sym writes.starts_are) (starts_fit-with plan old.starts d cell.rec writes.place can.within can.starts_fit);
          states_fit = subst (StatesFit plan.table) (sym writes.states_are) (states_fit-with plan old.states d cell.rec writes.state can.within can.states_fit);
          keeps = record {
            same_starts = λ k other. ap (λ (s : StartsValue). starts_at s.columns k) writes.starts_are ∙ get_or-set_other old.starts.columns d k _ [] other;
            same_states = λ k other. ap (λ (s : List (List FileState)). get_or s k []) writes.states_are ∙ get_or-set_other old.states d k _ [] other;
          };
          stood = stood;
          answered = λ mended shown tells goes_on. writes.there tells;
          told = λ mended shown. told_as view standing stands plan.table.columns (cell_news plan mended d) (mended_event stripe d (Some cell) writes.written) old.lines new.lines old.reports new.reports
              (news mended shown) writes.told;
          counts = λ mended shown. subst (λ (events : List Event). AreCounts events repaired.counts) (sym (news mended shown)) writes.counts;
          blocks = λ mended shown. writes.blocks ∙ ap (λ (b : Bool). if b then 1 else 0) (sym (written_is mended shown));
          few = omega (arith, writes.blocks, one_at_most writes.written);
          makes = λ mended shown. calls_of writes.written mended shown new.folder writes.makes;
          underway = λ mended shown stripes first fixable before.
              let tells : old.folder.tells ≡ first.tells = before.calls.goes_on.tells in
              underway_more plan d stripes mended first old.folder new.folder old.starts new.starts old.states new.states before
              (record { done = writes.makes.done; goes_on = writes.makes.goes_on })
              (subst (λ (ws : List (List Write)). HoldsTold (records_in plan.table d) (starts_at new.starts.columns d) (get_or new.states d []) ws first new.folder)
              (sym (writes_are mended shown stripes))
              (writes.holds first (column_writes plan stripes d records) (sym tells) (λ told. fixable.free told cell.rec rec is_free) fixable.is_tree before.holds))
              (λ k within. goes_on mended shown k within (cases_eq cell.rec k))
              (λ told.
              let first_told : IsTrue first.tells = subst IsTrue tells told in
              let did : writes.written ≡ true = writes.there told in
              cell_written plan d first.tree stripes mended cell old.folder new.folder (start_in (starts_at old.starts.columns d) cell.rec) (state_in old.states d cell.rec)
              (get_or (column_writes plan stripes d records) cell.rec []) old.folder.tree
              (written_is mended shown ∙ did) (cell_of mended.facts shown.stripe_is) ((before.holds first_told).each cell.rec rec) (before.touched first_told cell.rec rec)
              (subst (λ (bs : List ℕ). FolderWrites (block_calls place (state_in old.states d cell.rec).touched (cell_path plan.table d cell) (block_start plan.table cell) bs) old.folder new.folder)
              (bytes_are ∙ block_of mended.facts shown.stripe_is shown.shows) (writes.wrote did)));
        }
