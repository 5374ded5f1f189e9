-- What surely stands of a cell that is written in no stripe, wherever a fix is stopped or breaks off.
use Rattle.std.proofs.Common.{◌≡◌, ⊎_elim, ℕ, List, ◌+◌, ◌<◌, ◌≤◌, not, length, is_some, Some, sym, ap, ap₂, ◌∙◌, arith}
use Rattle.std.specs.Option.{option_map}
use Rattle.std.proofs.lemmas.Bool.{cases_eq, false≢true}
use Rattle.std.proofs.lemmas.List.Elements.{All-contains}
use Rattle.file_table.specs.Cells.{cell_seen}
use Rattle.file_table.specs.Table.{column_at}
use Rattle.file_table.specs.declared.block.Cell.{Cell}
use Rattle.file_table.proofs.CellInLemmas.{cell_in-Some}
use Rattle.disk_model.specs.Tree.{File}
use Rattle.stripe_examiner.specs.Facts.{damaged_at}
use Rattle.stripe_examiner.specs.Known.{AreFacts}
use Rattle.repair_scope.specs.Plan.{cell_at, selects_cell}
use Rattle.stripe_examiner.specs.Showing.{known_block}
use Rattle.stripe_examiner.proofs.ShownLemmas.{known_long}
use Rattle.file_restorer.specs.Mending.{block_start}
use Rattle.file_restorer.proofs.RecordPathsLemmas.{table_paths}
use Rattle.snap_fix.specs.Fixing.{facts_of}
use Rattle.snap_fix.specs.Mended.{is_blocked_cell}
use Rattle.snap_fix.specs.Stopped.{FixStop, IsCellSpared, IsInWritten, IsSpared, IsStop, StandsInCell, StandsSpared, cell_length, path_at, records_of}
use Rattle.snap_fix.specs.Underway.{WritesOneOf}
use Rattle.snap_fix.proofs.MendedFactsLemmas.{and_parts}
use Rattle.snap_fix.proofs.PresentCellLemmas.{blocks_apart}
use Rattle.snap_fix.proofs.RestoredEvents.{contains_facts}

module _ (stop : FixStop) (stops : IsStop stop) (cell : Cell) (spared : IsCellSpared stop cell) (rec : cell.rec < length (records_of stop)) where
  abbrev size : ℕ
  size = stop.plan.table.shape.block_size

  -- a block that is written is no longer than a block
  written_short : (path : List ℕ) (at : ℕ) (bytes : List ℕ) (writes : WritesOneOf stop.plan stop.d stop.stripes path at bytes) → length bytes ≤ size
  written_short path at bytes writes =
      let plan = stop.plan in
      let facts = writes.mended.facts in
      let its = writes.writes in
      let parts = and_parts (selects_cell plan facts.stripe stop.d) (damaged_at plan facts stop.d) (is_some (known_block plan facts stop.d)) (not (is_blocked_cell plan stop.d (cell_at plan facts.stripe stop.d))) its.repaired in
      let of = column_at plan.table.columns stop.d in
      let long = known_long plan facts (All-contains (AreFacts plan) (facts_of stop.stripes) facts spared.are (contains_facts stop.stripes writes.mended writes.is_one)) stops.valid.shape.levels.most stop.d (cell_seen of its.cell) stops.column (ap (option_map (cell_seen of)) its.cell_is) parts.1 parts.2 in
      omega (arith, long, ap (λ (all : List ℕ). length all) its.bytes_are)

  -- none covers the cell
  unwritten : (p : ℕ) → p < cell_length stop cell → ¬ (IsInWritten stop (path_at stop cell.rec) (block_start stop.plan.table cell + p))
  unwritten p less covers =
      let its = covers.writes.writes in
      let other = its.cell in
      let paths = table_paths stop.plan.table stop.d stops.valid stops.column in
      let other_rec = (cell_in-Some (column_at stop.plan.table.columns stop.d) covers.writes.mended.facts.stripe other its.cell_is).within in
      let same_rec : other.rec ≡ cell.rec = ⊎_elim (λ one. one) (λ apart. absurd (paths.distinct cell.rec other.rec rec other_rec apart (sym its.path_is))) (cases_eq other.rec cell.rec) in
      let same_index : other.index ≡ cell.index = ⊎_elim (λ one. one) (λ apart. absurd (⊎_elim
      (λ below. omega (arith, below, covers.from, its.at_is))
      (λ past. omega (arith, past, covers.before, its.at_is))
      (blocks_apart size (cell_length stop cell) (length covers.bytes) cell.index other.index p (omega arith) (written_short _ _ _ covers.writes) (λ same. apart (sym same)) less))) (cases_eq other.index cell.index) in
      let same : other ≡ cell = ap₂ (λ (r n : ℕ). (let made : Cell = record { rec = r; index = n } in made)) same_rec same_index in
      false≢true (sym (spared.none covers.writes.mended covers.writes.is_one (its.cell_is ∙ ap (λ (it : Cell). Some it) same)) ∙ its.repaired)

  is_spared : (p : ℕ) → p < cell_length stop cell → IsSpared stop cell.rec (block_start stop.plan.table cell + p)
  is_spared p less = record { unwritten = unwritten p less; within = λ none. omega (arith, less) }

  pub cell_stands : (before : File) → StandsSpared stop cell.rec before → StandsInCell stop cell before
  cell_stands before stands = record {
    after = stands.after;
    there = stands.there;
    bytes = λ p b less has.
        let kept = stands.bytes (block_start stop.plan.table cell + p) has.within (is_spared p less) in
        record { within = kept.0; is = kept.1 ∙ has.is };
  }
