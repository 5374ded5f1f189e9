-- The block of a cell was written, or its file was gone, so that the cell is lost.
use Rattle.std.proofs.Common.{◌≡◌, ℕ, ◌<◌, List, [], ◌∷◌, length, get_or, set, if◌then◌else◌, Bool, true, false, not, Some, refl, sym, ap, ◌∙◌, subst, arith}
use Rattle.std.proofs.lemmas.List.{set-set, length-set}
use Rattle.disk_model.specs.Folder.{FolderView, FolderCall}
use Rattle.disk_model.specs.Sink.{SinkView}
use Rattle.file_table.specs.Table.{TableValue, records_in}
use Rattle.file_table.specs.declared.block.Cell.{Cell}
use Rattle.snap_report.specs.Report.{ReportView}
use Rattle.snap_report.specs.Told.{Told}
use Rattle.snap_report.specs.declared.events.Event.{Event}
use Rattle.snap_report.specs.declared.pages.Lines.{Lines}
use Rattle.stripe_reader.specs.Starts.{StartsValue, start_in, starts_at}
use Rattle.file_restorer.specs.declared.state.FileState.{FileState}
use Rattle.snap_fix.specs.Mended.{mended_event}
use Rattle.file_restorer.specs.Mending.{CanWrite, IsBlockCall, MendsCell, block_start, cell_path, mended_writes, with_state}
use Rattle.file_restorer.specs.Order.{block_calls}
use Rattle.snap_fix.specs.RepairSteps.{WritesBlockOf, column_outside}
use Rattle.file_restorer.specs.State.{HoldsColumn, HoldsTold, StepMakes, size_after, state_in}
use Rattle.snap_fix.proofs.RepairLemmas.{column_lost, row_same, state_same}

-- a state that is replaced twice
state_twice : (states : List (List FileState)) (d i : ℕ) (one other : FileState) → d < length states → with_state (with_state states d i one) d i other ≡ with_state states d i other
state_twice states d i one other column =
    ap (λ (row : List FileState). set (set states d (set (get_or states d []) i one)) d (set row i other)) (row_same states d i one column)
    ∙ ap (λ (row : List FileState). set (set states d (set (get_or states d []) i one)) d row) (set-set (get_or states d []) i one other)
    ∙ set-set states d (set (get_or states d []) i one) (set (get_or states d []) i other)

module _ {W R : Type 0} (view : W → SinkView) (standing : R → ReportView) (stands : R → List Event → Type 0)
    (table : TableValue) (stripe d : ℕ) (cell : Cell) (bytes : List ℕ) (starts starts_new : StartsValue) (states states_new : List (List FileState)) (folder folder_new : FolderView)
    (can : CanWrite table d cell bytes starts states folder) (lines lines_new : Lines W) (reports reports_new : List R) (written : Bool)
    (mends : MendsCell table d cell bytes written starts states folder starts_new states_new folder_new) where
  abbrev Block : FolderCall → Type 0
  Block = IsBlockCall (start_in (starts_at starts.columns d) cell.rec).place (cell_path table d cell) (block_start table cell) bytes

  abbrev calls : List FolderCall
  calls = block_calls (start_in (starts_at starts.columns d) cell.rec).place (state_in states d cell.rec).touched (cell_path table d cell) (block_start table cell) bytes

  -- it was written
  pub block_written : written ≡ true → Told view standing stands table.columns (mended_event stripe d (Some cell) true) lines lines_new reports reports_new
      → WritesBlockOf view standing stands table stripe d cell bytes (column_outside starts states folder lines reports) (column_outside starts_new states_new folder_new lines_new reports_new)
      (record { blocks = 1; counts = record { found = 0; left = 0 } })
  block_written is told = record {
    written = true;
    place = mends.place;
    state = mends.state;
    starts_are = mends.starts_are;
    states_are = mends.states_are;
    stood = mends.stood;
    there = λ tells. refl;
    wrote = λ yes. mends.wrote is;
    size = mends.size ∙ ap (λ (b : Bool). size_after (state_in states d cell.rec).size (if b then record { at = block_start table cell; bytes = bytes } ∷ [] else [])) is;
    touched = λ yes. mends.touched is;
    stays_touched = mends.stays_touched;
    lost = mends.same_lost;
    told = told;
    counts = record { found = refl; left = refl };
    blocks = refl;
    makes = subst (λ (b : Bool). StepMakes Block calls (not b) folder folder_new) is mends.makes;
    holds = λ first writes same free tree held.
        subst (λ (b : Bool). HoldsTold (records_in table d) (starts_at starts_new.columns d) (get_or states_new d []) (mended_writes table cell bytes b writes) first folder_new) is
        (mends.holds first writes same free tree held);
  }

  -- it is lost
  pub block_lost : written ≡ false → (states_then : List (List FileState)) → states_then ≡ with_state states_new d cell.rec (record (state_in states_new d cell.rec) { lost = true })
      → Told view standing stands table.columns (mended_event stripe d (Some cell) false) lines lines_new reports reports_new
      → WritesBlockOf view standing stands table stripe d cell bytes (column_outside starts states folder lines reports) (column_outside starts_new states_then folder_new lines_new reports_new)
      (record { blocks = 0; counts = record { found = 1; left = 1 } })
  block_lost is states_then then_is told = record {
    written = false;
    place = mends.place;
    state = record mends.state { lost = true };
    starts_are = mends.starts_are;
    states_are = then_is
        ∙ ap (λ (s : List (List FileState)). with_state s d cell.rec (record (state_in s d cell.rec) { lost = true })) mends.states_are
        ∙ ap (λ (s : FileState). with_state (with_state states d cell.rec mends.state) d cell.rec (record s { lost = true }))
        (state_same states d cell.rec mends.state long (omega (arith, can.rec, can.states_fit.records d can.column)))
        ∙ state_twice states d cell.rec mends.state (record mends.state { lost = true }) long;
    stood = mends.stood;
    there = λ tells. sym is ∙ mends.there tells;
    wrote = λ yes. absurd (let clash : false ≡ true = yes in cc);
    size = mends.size ∙ ap (λ (b : Bool). size_after (state_in states d cell.rec).size (if b then record { at = block_start table cell; bytes = bytes } ∷ [] else [])) is;
    touched = λ yes. absurd (let clash : false ≡ true = yes in cc);
    stays_touched = mends.stays_touched;
    lost = refl;
    told = told;
    counts = record { found = refl; left = refl };
    blocks = refl;
    makes = subst (λ (b : Bool). StepMakes Block calls (not b) folder folder_new) is mends.makes;
    holds = λ first writes same free tree held tells.
        subst (λ (s : List FileState). HoldsColumn (records_in table d) (starts_at starts_new.columns d) s writes first.tree folder_new.tree)
        (sym (ap (λ (s : List (List FileState)). get_or s d []) then_is ∙ row_same states_new d cell.rec _ long_new))
        (column_lost (records_in table d) (starts_at starts_new.columns d) (get_or states_new d []) writes first.tree folder_new.tree cell.rec true can.rec
        (subst (λ (b : Bool). HoldsTold (records_in table d) (starts_at starts_new.columns d) (get_or states_new d []) (mended_writes table cell bytes b writes) first folder_new) is
        (mends.holds first writes same free tree held) tells));
  }
    where
      long : d < length states
      long = omega (arith, can.column, can.states_fit.columns)

      long_new : d < length states_new
      long_new = omega (arith, long, ap (λ (s : List (List FileState)). length s) mends.states_are, length-set states d (set (get_or states d []) cell.rec mends.state))
