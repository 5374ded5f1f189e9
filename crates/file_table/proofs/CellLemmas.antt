-- A position stands in one block of a column.
use Rattle.std.proofs.Common.{◌≡◌, ◌≢◌, inl, inr, ℕ, ◌+◌, ◌<◌, ◌≤◌, List, length, get_or, take, sym, ap, ◌∙◌, arith, Some}
use Rattle.std.specs.List.{AllPairs, sum_by}
use Rattle.std.proofs.lemmas.List.{get_or-map, length-map, take-take}
use Rattle.std.proofs.lemmas.List.Concat.{length-flat_map, get_or-flat_map}
use Rattle.std.proofs.lemmas.List.Sums.{sum_by_more, sum_by_more_le, sum_by-take-le}
use Rattle.std.proofs.lemmas.Bool.{cases_lt}
use Rattle.file_table.specs.declared.block.Block.{Block}
use Rattle.file_table.specs.declared.block.Cell.{Cell}
use Rattle.file_table.specs.Table.{Record, Column, IsAt, record_in, block_in, column_blocks, positions_of, no_record, no_block}
use Rattle.file_table.proofs.BuildingLemmas.{blocks_in}

abbrev blocks_long : Record → ℕ
blocks_long kept = length kept.blocks

-- where the blocks of a record begin among those of all
offset : List Record → ℕ → ℕ
offset records i = sum_by blocks_long (take i records)

offset_is : (records : List Record) (i : ℕ) → length (blocks_in (take i records)) ≡ offset records i
unfolding offset
offset_is records i = length-flat_map (λ (r : Record). r.blocks) (take i records)

offset_more : (records : List Record) (i j : ℕ) → i < j → i < length records → offset records i + length (get_or records i no_record).blocks ≤ offset records j
unfolding offset
offset_more records i j less within =
    let up : i + 1 ≤ j = omega arith in
    let more : sum_by blocks_long (take (i + 1) records) ≡ sum_by blocks_long (take i records) + length (get_or records i no_record).blocks = sum_by_more blocks_long records i no_record within in
    let part : sum_by blocks_long (take (i + 1) (take j records)) ≤ sum_by blocks_long (take j records) = sum_by-take-le blocks_long (take j records) (i + 1) in
    let same : sum_by blocks_long (take (i + 1) (take j records)) ≡ sum_by blocks_long (take (i + 1) records) = ap (sum_by blocks_long) (take-take (i + 1) j records up) in
    omega arith

-- the block of a record among those of all
module _ (column : Column) (i index position : ℕ) (at : IsAt column position i index) where
  pub place : ℕ
  place = offset column.records i + index

  pub place_within : place < length (positions_of (column_blocks column))
  unfolding place offset
  place_within =
      let all : length (column_blocks column) ≡ sum_by blocks_long column.records = length-flat_map (λ (r : Record). r.blocks) column.records in
      let long : length (positions_of (column_blocks column)) ≡ length (column_blocks column) = length-map (column_blocks column) (λ (b : Block). b.position) in
      let most : sum_by blocks_long (take i column.records) + length (record_in column i).blocks ≤ sum_by blocks_long column.records = sum_by_more_le blocks_long column.records i no_record at.within in
      omega (arith, at.index_within)

  pub place_reads : get_or (positions_of (column_blocks column)) place 0 ≡ position
  unfolding place
  place_reads =
      let long : length (positions_of (column_blocks column)) ≡ length (column_blocks column) = length-map (column_blocks column) (λ (b : Block). b.position) in
      let below : offset column.records i + index < length (positions_of (column_blocks column)) = unfold place in place_within in
      let inside : offset column.records i + index < length (column_blocks column) = omega arith in
      let read : get_or (column_blocks column) (length (blocks_in (take i column.records)) + index) no_block ≡ block_in (record_in column i) index =
      get_or-flat_map (λ (r : Record). r.blocks) column.records i index no_record no_block at.within at.index_within in
      get_or-map (λ (b : Block). b.position) (column_blocks column) (offset column.records i + index) no_block 0 inside
      ∙ ap (λ (n : ℕ). (get_or (column_blocks column) (n + index) no_block).position) (sym (offset_is column.records i))
      ∙ ap (λ (b : Block). b.position) read
      ∙ at.position_is

-- one position is at one place
places_equal : (column : Column) (m n position : ℕ) → AllPairs (λ a b. a ≢ b) (positions_of (column_blocks column)) → m < length (positions_of (column_blocks column)) → n < length (positions_of (column_blocks column))
    → get_or (positions_of (column_blocks column)) m 0 ≡ position → get_or (positions_of (column_blocks column)) n 0 ≡ position → m ≡ n
places_equal column m n position once m_in n_in m_is n_is =
    elim (cases_lt m n) [
      | inl less ↦ absurd (once m n 0 less n_in (m_is ∙ sym n_is))
      | inr le ↦ elim (cases_lt n m) [
        | inl less ↦ absurd (once n m 0 less m_in (n_is ∙ sym m_is))
        | inr ge ↦ omega arith
      ]
    ]

pub cell_once : (column : Column) (position i a j b : ℕ) → AllPairs (λ x y. x ≢ y) (positions_of (column_blocks column)) → IsAt column position i a → IsAt column position j b → (i ≡ j) × (a ≡ b)
unfolding place
cell_once column position i a j b once at_i at_j =
    let same : offset column.records i + a ≡ offset column.records j + b = places_equal column _ _ position once (place_within column i a position at_i) (place_within column j b position at_j) (place_reads column i a position at_i) (place_reads column j b position at_j) in
    let i_in : i < length column.records = at_i.within in
    let j_in : j < length column.records = at_j.within in
    let a_in : a < length (record_in column i).blocks = at_i.index_within in
    let b_in : b < length (record_in column j).blocks = at_j.index_within in
    elim (cases_lt i j) [
      | inl less ↦ absurd (omega (arith, offset_more column.records i j less i_in))
      | inr le ↦ elim (cases_lt j i) [
        | inl less ↦ absurd (omega (arith, offset_more column.records j i less j_in))
        | inr ge ↦
            let equal : i ≡ j = omega arith in
            let offsets : offset column.records i ≡ offset column.records j = ap (offset column.records) equal in
            (equal, omega arith)
      ]
    ]

-- the cell that is found is the only one
pub only_cell : (column : Column) (position : ℕ) (cell : Cell) → AllPairs (λ x y. x ≢ y) (positions_of (column_blocks column)) → IsAt column position cell.rec cell.index → (i index : ℕ) → IsAt column position i index → Some cell ≡ Some (let other : Cell = record { rec = i; index = index } in other)
only_cell column position cell once at i index other =
    let same = cell_once column position cell.rec cell.index i index once at other in
    ap (λ (n : ℕ). let found : Cell = record { rec = n; index = cell.index } in Some found) same.0
    ∙ ap (λ (n : ℕ). let found : Cell = record { rec = i; index = n } in Some found) same.1
