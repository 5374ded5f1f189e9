-- In a valid table each cell of a synced stripe has its hash, so a row that has the closed cells has the recorded hashes.
use Rattle.std.proofs.Common.{◌≡◌, ℕ, zero, suc, ◌<◌, List, [], ◌∷◌, length, get_or, Option, None, Some, IsSome, refl, sym, ◌∙◌, subst, arith}
use Rattle.std.specs.List.{Contains, flat_map}
use Rattle.std.specs.Option.{option_map}
use Rattle.std.proofs.lemmas.List.{get_or-map, get_or_default, length-map}
use Rattle.std.proofs.lemmas.List.Elements.{All-contains, Contains-append_left, Contains-append_right}
use Rattle.block_hash.specs.declared.Digest16.{Digest16}
use Rattle.file_table.specs.Cells.{cell_in, cell_seen, cell_view, stripe_view}
use Rattle.file_table.specs.Table.{Column, IsAt, Record, TableValue, block_in, blocks_of, column_at, column_blocks, no_block, no_column, no_record, record_in}
use Rattle.file_table.specs.Valid.{IsValid}
use Rattle.file_table.specs.declared.block.Block.{Block}
use Rattle.file_table.specs.declared.block.Cell.{Cell}
use Rattle.parity_writer.specs.Parity.{Row}
use Rattle.parity_writer.specs.Sound.{HasCells, IsRowOf, IsSynced, closed_cells}
use Rattle.parity_writer.proofs.CellsLemmas.{IsHashed, row_of_cells}

-- what file_table says of the cell of a column at a position
abbrev pub FindsCell : Type 0
FindsCell = (column : Column) (position : ℕ) (cell : Cell) → cell_in column position ≡ Some cell → IsAt column position cell.rec cell.index

contains_flat : {X A : Type 0} (f : X → List A) (xs : List X) (k : ℕ) (d : X) (a : A) → k < length xs → Contains (f (get_or xs k d)) a → Contains (flat_map f xs) a
contains_flat f [] k d a within there = absurd (omega (arith, within))
contains_flat f (x ∷ xs) zero d a within there = Contains-append_left (f x) (flat_map f xs) a there
contains_flat f (x ∷ xs) (suc k) d a within there = Contains-append_right (f x) (flat_map f xs) a (contains_flat f xs k d a (omega (arith, within)) there)

some_digest : (found : Option Digest16) → IsSome found → (digest : Digest16) × (found ≡ Some digest)
some_digest None some = absurd cc
some_digest (Some digest) some = (digest, refl)

module _ (finds : FindsCell) (table : TableValue) (valid : IsValid table) (stripe : ℕ) (synced : IsSynced table stripe) where
  -- the block of a cell is one of the table's
  block_of : (d : ℕ) → d < length table.columns → (cell : Cell) → IsAt (column_at table.columns d) stripe cell.rec cell.index
      → Contains (blocks_of table.columns) (block_in (record_in (column_at table.columns d) cell.rec) cell.index)
  block_of d below cell at =
      let column : Column = column_at table.columns d in
      let blocks : List Block = (record_in column cell.rec).blocks in
      let block : Block = block_in (record_in column cell.rec) cell.index in
      let here : Contains blocks block = (cell.index, at.index_within, get_or_default blocks cell.index block no_block at.index_within) in
      contains_flat column_blocks table.columns d no_column block below
      (contains_flat (λ (kept : Record). kept.blocks) column.records cell.rec no_record block at.within here)

  hashed_in : (d : ℕ) → d < length table.columns → (found : Option Cell) → cell_in (column_at table.columns d) stripe ≡ found → IsHashed (option_map (cell_seen (column_at table.columns d)) found)
  hashed_in d below None is = tt
  hashed_in d below (Some cell) is =
      let at = finds (column_at table.columns d) stripe cell is in
      let block : Block = block_in (record_in (column_at table.columns d) cell.rec) cell.index in
      some_digest block.hash
      (All-contains (λ (it : Block). it.position ≡ stripe → IsSome it.hash) (blocks_of table.columns) block (valid.infos.hashed stripe synced.within synced.mark) (block_of d below cell at) at.position_is)

  is_hashed : (d : ℕ) → d < length (stripe_view table stripe).cells → IsHashed (get_or (stripe_view table stripe).cells d None)
  is_hashed d within =
      let view = λ (column : Column). cell_view column stripe in
      let long : length (stripe_view table stripe).cells ≡ length table.columns = length-map table.columns view in
      let below : d < length table.columns = omega (arith, within, long) in
      subst IsHashed (sym (get_or-map view table.columns d no_column None below)) (hashed_in d below (cell_in (column_at table.columns d) stripe) refl)

  pub row_with_cells : (row : Row) → length row ≡ length table.columns → HasCells table.shape (closed_cells table stripe) row → IsRowOf table.shape (stripe_view table stripe) row
  row_with_cells row as_many has =
      row_of_cells table.shape (stripe_view table stripe) row (as_many ∙ sym (length-map table.columns (λ (column : Column). cell_view column stripe))) is_hashed has
