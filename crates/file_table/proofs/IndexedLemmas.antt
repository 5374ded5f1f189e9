-- A look-up in the index of a column finds its one cell at a position.
use Rattle.std.proofs.Common.{◌≡◌, ◌≢◌, inl, inr, ℕ, ◌<◌, List, [], length, get_or, sym, ap, ◌∙◌, subst, arith}
use Rattle.std.specs.List.{All, Contains}
use Rattle.std.proofs.lemmas.List.{get_or_default, get_or-map, length-map, length-set, get_or-set_same, get_or-set_other}
use Rattle.std.proofs.lemmas.Bool.Decides.{eqb_tells}
use Rattle.block_hash.specs.declared.Digest16.{Digest16}
use Rattle.file_table.specs.declared.block.Block.{Block}
use Rattle.file_table.specs.declared.block.Cell.{Cell}
use Rattle.file_table.specs.declared.index.Spot.{Spot}
use Rattle.file_table.specs.Table.{Column, IsAt, column_at, record_at, column_blocks, positions_of, column_with_hash, with_hash, no_column, no_block}
use Rattle.file_table.specs.Cells.{IsCellOf}
use Rattle.file_table.specs.Index.{IsIndex, AreIndexes}
use Rattle.file_table.proofs.CellLemmas.{place, place_within, place_reads}
use Rattle.file_table.proofs.IndexLemmas.{place_of_spot, no_spot}
use Rattle.file_table.proofs.HashLemmas.{column_positions}

-- the index of a column, as the code reads it
module _ (columns : List Column) (indexes : List (List Spot)) (d position : ℕ) (spots : List Spot) (are : AreIndexes columns indexes) (d_in : d < length columns) (read : spots ≡ get_or indexes d spots) where
  index_is : IsIndex (positions_of (column_blocks (column_at columns d))) spots
  index_is =
      let there : d < length indexes = omega (arith, are.count) in
      subst (IsIndex (positions_of (column_blocks (column_at columns d)))) (get_or_default indexes d [] spots there ∙ sym read) (are.each d d_in)

  pub place_in : (at : ℕ) → Contains spots (record { position = position; place = at }) → at < length (column_blocks (column_at columns d))
  place_in at held =
      let found = place_of_spot (positions_of (column_blocks (column_at columns d))) spots (record { position = position; place = at }) index_is held in
      omega (arith, found.0, length-map (column_blocks (column_at columns d)) (λ (b : Block). b.position))

  pub cell_found : (at : ℕ) (cell : Cell) → Contains spots (record { position = position; place = at }) → IsCellOf (column_at columns d) at cell → IsAt (column_at columns d) position cell.rec cell.index
  cell_found at cell held is =
      let found = place_of_spot (positions_of (column_blocks (column_at columns d))) spots (record { position = position; place = at }) index_is held in
      let stands : get_or (positions_of (column_blocks (column_at columns d))) at 0 ≡ (get_or (column_blocks (column_at columns d)) at no_block).position =
      get_or-map (λ (b : Block). b.position) (column_blocks (column_at columns d)) at no_block 0 (place_in at held) in
      record {
        within = is.within;
        index_within = is.index_within;
        position_is = ap (λ (b : Block). b.position) is.block_is ∙ sym stands ∙ found.1;
      }

  pub nowhere : All (λ (spot : Spot). spot.position ≢ position) spots → (i index : ℕ) → ¬ (IsAt (column_at columns d) position i index)
  nowhere none i index at =
      no_spot (positions_of (column_blocks (column_at columns d))) spots position index_is none (place (column_at columns d) i index position at)
      (place_within (column_at columns d) i index position at) (place_reads (column_at columns d) i index position at)

-- the indexes stay those of the columns when a block gets its hash
pub AreIndexes-hash : (columns : List Column) (indexes : List (List Spot)) (d i index : ℕ) (hash : Digest16) → d < length columns → i < length (column_at columns d).records → index < length (record_at columns d i).blocks
    → AreIndexes columns indexes → AreIndexes (with_hash columns d i index hash) indexes
AreIndexes-hash columns indexes d i index hash d_in i_in index_in are =
    let now : Column = column_with_hash (column_at columns d) i index hash in
    let long : length (with_hash columns d i index hash) ≡ length columns = length-set columns d now in
    let each : (e : ℕ) → e < length (with_hash columns d i index hash) → IsIndex (positions_of (column_blocks (column_at (with_hash columns d i index hash) e))) (get_or indexes e []) = λ e e_in.
    let inside : e < length columns = omega arith in
    elim (eqb_tells e d) [
      | inl same ↦
          let read : column_at (with_hash columns d i index hash) e ≡ now = ap (column_at (with_hash columns d i index hash)) same.1 ∙ get_or-set_same columns d now no_column d_in in
          let positions : positions_of (column_blocks (column_at (with_hash columns d i index hash) e)) ≡ positions_of (column_blocks (column_at columns e)) =
          ap (λ (c : Column). positions_of (column_blocks c)) read ∙ column_positions (column_at columns d) i index hash i_in index_in ∙ ap (λ (n : ℕ). positions_of (column_blocks (column_at columns n))) (sym same.1) in
          rw positions (are.each e inside)
      | inr other ↦
          let read : column_at (with_hash columns d i index hash) e ≡ column_at columns e = get_or-set_other columns d e now no_column other.1 in
          rw read (are.each e inside)
    ] in
    record { count = are.count ∙ sym long; each = each }
