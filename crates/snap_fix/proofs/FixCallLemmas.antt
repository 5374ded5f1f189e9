-- All calls of a fix on a folder, while blocks are written and when files are finished, are those of a fix.
use Rattle.std.proofs.Common.{◌≡◌, inl, inr, ⊎_elim, ℕ, ◌<◌, ◌&&◌, not, is_some, List, length, Bool, true, false, Option, Some, refl, sym, ap, ◌∙◌, subst}
use Rattle.disk_model.specs.Folder.{FolderView, FolderCall, ListFiles, Look, ReadAt, Make, WriteAt, SetSize, SetStamp, Rename}
use Rattle.file_table.specs.Table.{column_at, record_at, records_in}
use Rattle.file_table.specs.declared.block.Cell.{Cell}
use Rattle.file_table.proofs.CellInLemmas.{cell_in-Some}
use Rattle.snap_report.specs.Answer.{is_reading}
use Rattle.stripe_reader.specs.Columns.{folder_at}
use Rattle.stripe_reader.specs.Starts.{StartsValue, start_in, starts_at}
use Rattle.stripe_reader.specs.declared.starts.Place.{Place}
use Rattle.stripe_reader.specs.declared.starts.Place.TheVariants.{Plain, Lost, Nowhere}
use Rattle.stripe_reader.specs.declared.starts.Start.{Start}
use Rattle.file_restorer.specs.declared.finishing.Finish.{Finish}
use Rattle.file_restorer.specs.declared.state.FileState.{FileState}
use Rattle.snap_fix.specs.Ending.{FinishesColumn, FinishesOne}
use Rattle.stripe_examiner.specs.Facts.{StripeFacts, damaged_at}
use Rattle.file_restorer.specs.Finishing.{IsFinishCall, IsWholeCall}
use Rattle.snap_fix.specs.FixCourse.{IsFixCall, IsForPlace, IsForRecord, MakeFixCalls, WritesFiles, Written}
use Rattle.snap_fix.specs.Mended.{Mended, has_lost, is_blocked_cell, is_repaired}
use Rattle.stripe_examiner.specs.Showing.{known_block}
use Rattle.repair_scope.specs.Plan.{FixPlan, cell_at, entry_at, has_selected, is_in_scope, selects_cell}
use Rattle.file_restorer.specs.State.{AnyCall, FolderMakes, KeepsStarts, StaysPlace, record_path, state_in}
use Rattle.snap_fix.specs.Underway.{IsMendCall, IsStripeCall, SetsUpOneOf}
use Rattle.snap_fix.proofs.FinishPartsLemmas.{finish_calls_any}
use Rattle.file_restorer.proofs.FolderCallLemmas.{makes_any_wider, makes_then}
use Rattle.snap_fix.proofs.KeptStartsLemmas.{stripes_any}
use Rattle.snap_fix.proofs.MendedFactsLemmas.{and_parts}
use Rattle.snap_fix.proofs.RepairMarkLemmas.{both, not_blocked}

-- ---- the record of a cell that is written

-- it is selected, and isn't blocked
pub for_cell : (plan : FixPlan) (facts : StripeFacts) (d : ℕ) (cell : Cell) (path : List ℕ) → is_repaired plan facts d ≡ true
    → cell_at plan facts.stripe d ≡ Some cell → path ≡ record_path (records_in plan.table d) cell.rec → IsForRecord plan d cell.rec path
for_cell plan facts d cell path repaired cell_is path_is =
    let here = cell_at plan facts.stripe d in
    let parts = and_parts (selects_cell plan facts.stripe d) (damaged_at plan facts d) (is_some (known_block plan facts d)) (not (is_blocked_cell plan d here)) repaired in
    record {
      within = (cell_in-Some (column_at plan.table.columns d) facts.stripe cell cell_is).within;
      path_is = path_is;
      selected = both (is_in_scope plan facts.stripe) (entry_at plan d cell.rec).selected
          (ap (λ (c : Option Cell). is_in_scope plan facts.stripe && has_selected plan d c) (sym cell_is) ∙ parts.0);
      free = not_blocked (entry_at plan d cell.rec).blocked (ap (λ (c : Option Cell). not (is_blocked_cell plan d c)) (sym cell_is) ∙ parts.3);
    }

-- ---- while blocks are written

for_place : (plan : FixPlan) (starts : StartsValue) (d : ℕ) (stripes : List Mended) (place : Place) (path : List ℕ)
    → SetsUpOneOf plan starts d stripes place path → IsForPlace plan starts d place path
for_place plan starts d stripes place path is =
    let its = is.sets_up in
    (its.cell.rec, for_cell plan is.mended.facts d its.cell path its.repaired its.cell_is its.path_is, its.stood)

pub mend_is_fix : (plan : FixPlan) (starts : StartsValue) (d : ℕ) (stripes : List Mended) (call : FolderCall) → IsMendCall plan starts d stripes call → IsFixCall plan starts d stripes call
mend_is_fix plan starts d stripes ListFiles is = is
mend_is_fix plan starts d stripes (Look path lost) is = tt
mend_is_fix plan starts d stripes (ReadAt path lost at n) is = tt
mend_is_fix plan starts d stripes (Make path) is = for_place plan starts d stripes Nowhere path is
mend_is_fix plan starts d stripes (WriteAt path at bytes) is = is
mend_is_fix plan starts d stripes (SetSize path size) is = absurd is
mend_is_fix plan starts d stripes (SetStamp path stamp) is = absurd is
mend_is_fix plan starts d stripes (Rename path true) is = absurd is
mend_is_fix plan starts d stripes (Rename path false) is = for_place plan starts d stripes Lost path is

reading_is_fix : (plan : FixPlan) (starts : StartsValue) (d : ℕ) (stripes : List Mended) (call : FolderCall) → is_reading call ≡ true → IsFixCall plan starts d stripes call
reading_is_fix plan starts d stripes ListFiles is = absurd cc
reading_is_fix plan starts d stripes (Look path lost) is = tt
reading_is_fix plan starts d stripes (ReadAt path lost at n) is = tt
reading_is_fix plan starts d stripes (Make path) is = absurd cc
reading_is_fix plan starts d stripes (WriteAt path at bytes) is = absurd cc
reading_is_fix plan starts d stripes (SetSize path size) is = absurd cc
reading_is_fix plan starts d stripes (SetStamp path stamp) is = absurd cc
reading_is_fix plan starts d stripes (Rename path lost) is = absurd cc

pub stripe_is_fix : (plan : FixPlan) (starts : StartsValue) (d : ℕ) (stripes : List Mended) (call : FolderCall) → IsStripeCall plan starts d stripes call → IsFixCall plan starts d stripes call
stripe_is_fix plan starts d stripes call is = ⊎_elim (reading_is_fix plan starts d stripes call) (mend_is_fix plan starts d stripes call) is

-- ---- when files are finished

-- a file that was nowhere or under the other name was so at first
was_lost : (before after : Place) → StaysPlace before after → after ≡ Lost → before ≡ Lost
was_lost before after stays is = ⊎_elim (λ same. sym same ∙ is) (λ both. both.0) stays

was_nowhere : (before after : Place) → StaysPlace before after → after ≡ Nowhere → before ≡ Nowhere
was_nowhere before after stays is = ⊎_elim (λ same. sym same ∙ is) (λ both. let clash : Plain ≡ Nowhere = sym both.1 ∙ is in cc) stays

both_flags : (selected blocked : Bool) → (selected && not blocked) ≡ true → (selected ≡ true) × (blocked ≡ false)
both_flags true false is = (refl, refl)
both_flags true true is = absurd cc
both_flags false blocked is = absurd cc

module _ (plan : FixPlan) (d : ℕ) (stripes : List Mended) (begun later : StartsValue) (states : List (List FileState)) (stood : KeepsStarts begun later)
    (lost : (i : ℕ) → i < length (records_in plan.table d) → (state_in states d i).lost ≡ has_lost plan stripes d i) where
  pub finish_is_fix : (call : FolderCall) → FinishesOne plan d later states call → IsFixCall plan begun d stripes call
  finish_is_fix call is = by (state_in states d i).lost refl is.is
    where
      i : ℕ
      i = is.i

      start : Start
      start = start_in (starts_at later.columns d) i

      path : List ℕ
      path = record_path (records_in plan.table d) i

      for_record : IsForRecord plan d i path
      for_record =
          let flags = both_flags (entry_at plan d i).selected (entry_at plan d i).blocked is.finished in
          record { within = is.within; path_is = refl; selected = flags.0; free = flags.1 }

      fix_call : FolderCall → Type 0
      fix_call = IsFixCall plan begun d stripes

      by_whole : has_lost plan stripes d i ≡ false → IsWholeCall (entry_at plan d i).listed start (state_in states d i) path (record_at plan.table.columns d i).meta call → fix_call call
      by_whole whole (inl (place, call_is)) =
          subst fix_call (sym call_is) (i, for_record, was_lost (start_in (starts_at begun.columns d) i).place start.place (stood d i).1 place)
      by_whole whole (inr (inl (gone, place, call_is))) =
          subst fix_call (sym call_is) (i, for_record, was_nowhere (start_in (starts_at begun.columns d) i).place start.place (stood d i).1 place)
      by_whole whole (inr (inr (inl (size, call_is)))) = subst fix_call (sym call_is) (i, for_record, whole, refl)
      by_whole whole (inr (inr (inr (stamped, call_is)))) = subst fix_call (sym call_is) (i, for_record, whole, refl)

      by : (b : Bool) → (state_in states d i).lost ≡ b
          → IsFinishCall b (entry_at plan d i).listed start (state_in states d i) path (record_at plan.table.columns d i).meta call → fix_call call
      by false is_lost its = by_whole (sym (lost i is.within) ∙ is_lost) its
      by true is_lost its = subst fix_call (sym its.1) (i, for_record, sym (lost i is.within) ∙ is_lost, tt)

-- ---- of all folders

module _ (plan : FixPlan) (begun : StartsValue) (stripes : List Mended) (firsts news : List FolderView) where
  -- blocks were written
  pub fix_calls_of_writing : ((d : ℕ) → d < length plan.table.columns → FolderMakes (AnyCall (IsStripeCall plan begun d stripes)) (folder_at firsts d) (folder_at news d))
      → MakeFixCalls plan begun stripes firsts news
  fix_calls_of_writing makes d below = makes_any_wider (IsStripeCall plan begun d stripes) (IsFixCall plan begun d stripes) (stripe_is_fix plan begun d stripes) (makes d below)

  module _ (written : Written) (writes : WritesFiles plan begun stripes firsts written) where
    -- all blocks were written, and then some files finished
    pub fix_calls_of : ((d : ℕ) → d < length plan.table.columns
        → FolderMakes (AnyCall (FinishesOne plan d written.starts written.states)) (folder_at written.folders d) (folder_at news d))
        → MakeFixCalls plan begun stripes firsts news
    fix_calls_of finishes d below =
        makes_then (AnyCall (IsFixCall plan begun d stripes))
        (makes_any_wider (IsStripeCall plan begun d stripes) (IsFixCall plan begun d stripes) (stripe_is_fix plan begun d stripes) (stripes_any plan begun d stripes (writes.makes d below)))
        (makes_any_wider (FinishesOne plan d written.starts written.states) (IsFixCall plan begun d stripes)
        (finish_is_fix plan d stripes begun written.starts written.states writes.stood (writes.underway.each d below).lost) (finishes d below))

    -- and then all of them
    pub fix_calls_of_all : (finishes : List (List Finish)) → ((d : ℕ) → d < length plan.table.columns
        → FinishesColumn plan written.starts written.states d finishes (folder_at written.folders d) (folder_at news d))
        → MakeFixCalls plan begun stripes firsts news
    fix_calls_of_all finishes finished = fix_calls_of (λ d below. finish_calls_any plan d written.starts written.states finishes (finished d below).makes)
