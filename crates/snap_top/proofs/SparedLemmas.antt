-- Cells and levels that a fix leaves alone keep their bytes, wherever it is stopped.
use Rattle.std.proofs.Common.{◌≡◌, ◌⊎◌, inl, inr, ⊎_elim, ℕ, ◌+◌, ◌*◌, ◌&&◌, Bool, true, false, Some, refl, sym, ap, ◌∙◌, arith}
use Rattle.std.specs.Prelude.{is_some, not}
use Rattle.disk_model.specs.Files.{Files}
use Rattle.disk_model.specs.Opener.{folder_held}
use Rattle.disk_model.specs.Tree.{Tree}
use Rattle.file_table.specs.declared.block.Cell.{Cell}
use Rattle.parity_writer.specs.Keeps.{IsOutside}
use Rattle.snap_fix.specs.Fixing.{facts_of}
use Rattle.snap_fix.specs.Mended.{Mended, is_blocked_cell, is_repaired}
use Rattle.snap_fix.specs.Stopped.{FixStop, IsCellSpared}
use Rattle.snap_fix.specs.Underway.{IsMendedLevel}
use Rattle.stripe_examiner.specs.Facts.{StripeFacts, damaged_at}
use Rattle.repair_scope.specs.Plan.{FixPlan, cell_at, selects_cell}
use Rattle.stripe_examiner.specs.Showing.{known_block}
use Rattle.snap_top.specs.Fix.{FixRun, MayStandFixed}
use Rattle.snap_top.specs.Began.{IsFixOf}
use Rattle.snap_top.specs.Entry.{Entry, Exit}
use Rattle.snap_top.specs.Spared.{IsNotMended, SparesCells, SparesLevels}
use Rattle.snap_top.specs.Stopping.{FolderStandsIn, stop_of}
use Rattle.snap_top.proofs.KeptLemmas.{made_in}
use Rattle.snap_top.proofs.StoppingLemmas.{SaysOfStops, stop_is}
use Rattle.snap_top.proofs.SyncedLemmas.{outside}

never : {A : Type 0} → true ≡ false → A
never clash = absurd cc

-- ---- cells

none_of_four : (selected damaged known blocked : Bool) → ((damaged ≡ false) ⊎ (selected ≡ false)) ⊎ ((known ≡ false) ⊎ (blocked ≡ true)) → (selected && damaged && known && not blocked) ≡ false
none_of_four false damaged known blocked why = refl
none_of_four true false known blocked why = refl
none_of_four true true false blocked why = refl
none_of_four true true true true why = refl
none_of_four true true true false why = ⊎_elim (λ found. ⊎_elim never never found) (λ rest. ⊎_elim never (λ is. never (sym is)) rest) why

not_repaired : (plan : FixPlan) (facts : StripeFacts) (d : ℕ) (cell : Cell) → cell_at plan facts.stripe d ≡ Some cell → IsNotMended plan facts d cell → is_repaired plan facts d ≡ false
not_repaired plan facts d cell cell_is why =
    none_of_four (selects_cell plan facts.stripe d) (damaged_at plan facts d) (is_some (known_block plan facts d)) (is_blocked_cell plan d (cell_at plan facts.stripe d)) (by why)
  where
    by : IsNotMended plan facts d cell
        → ((damaged_at plan facts d ≡ false) ⊎ (selects_cell plan facts.stripe d ≡ false)) ⊎ ((is_some (known_block plan facts d) ≡ false) ⊎ (is_blocked_cell plan d (cell_at plan facts.stripe d) ≡ true))
    by (inl found) = inl found
    by (inr (inl unknown)) = inr (inl unknown)
    by (inr (inr blocked)) = inr (inr (ap (is_blocked_cell plan d) cell_is ∙ blocked))

pub cells_spared : SaysOfStops → (before : Entry) (exit : Exit) (run : FixRun) (d : ℕ) (left : Tree) → IsFixOf before exit run → FolderStandsIn before exit d left
    → SparesCells run d (folder_held before.opener d).tree left
cells_spared says before exit run d left is at cell file alone there =
    let stop : FixStop = stop_of run d (folder_held before.opener d).tree left in
    let spared : IsCellSpared stop cell = record {
      are = is.over.finds.are;
      none = λ mended one here. not_repaired run.plan mended.facts d cell here (alone.alone mended.facts (made_in (λ (it : Mended). it.facts) run.stripes mended one) here);
    } in
    says.cells stop cell file (stop_is says.listed before exit run d left is at) spared alone.within there

-- ---- levels

pub levels_spared : (run : FixRun) (old new : Files) → MayStandFixed run old new → SparesLevels run old new
levels_spared run old new keeps r stripe p x alone near has = keeps.bytes r (stripe * run.plan.table.shape.block_size + p) x apart has
  where
    apart : (other : ℕ) → IsMendedLevel run.plan (facts_of run.stripes) r other → IsOutside run.plan.table.shape.block_size other (stripe * run.plan.table.shape.block_size + p)
    apart other of = outside run.plan.table.shape.block_size other stripe (stripe * run.plan.table.shape.block_size + p) (λ same. never (sym of.3 ∙ alone of.0 of.1 (of.2 ∙ same))) (omega arith) (omega (arith, near))
