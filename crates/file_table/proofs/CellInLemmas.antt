-- The cell of a column at a position is the one place where the position stands.
use Rattle.std.proofs.Common.{◌≡◌, ◌≢◌, inl, inr, ℕ, ◌+◌, ◌<◌, zero, suc, List, [], ◌∷◌, length, get_or, refl, sym, ◌∙◌, subst, arith, add-one, Some, None, Option}
use Rattle.std.specs.List.{AllPairs}
use Rattle.std.specs.Option.{option_map}
use Rattle.std.proofs.lemmas.Option.{same_Some}
use Rattle.std.proofs.lemmas.Bool.Decides.{eqb_tells}
use Rattle.file_table.specs.declared.block.Block.{Block}
use Rattle.file_table.specs.declared.block.Cell.{Cell}
use Rattle.file_table.specs.Table.{Record, Column, IsAt, IsBlockAt, column_blocks, positions_of, no_record, no_block}
use Rattle.file_table.specs.Cells.{block_at, cell_or, cell_among, cell_in, one_later}
use Rattle.file_table.proofs.CellLemmas.{only_cell}

-- the first of some blocks decides, or the later ones do
module _ (block : Block) (blocks : List Block) (position : ℕ) where
  block_at-here : block.position ≡ position → block_at (block ∷ blocks) position ≡ Some 0
  block_at-here same = elim (eqb_tells block.position position) [ inl is ↦ rw is.0 refl | inr other ↦ absurd (other.1 same) ]

  block_at-later : block.position ≢ position → block_at (block ∷ blocks) position ≡ option_map (λ (index : ℕ). index + 1) (block_at blocks position)
  block_at-later other = elim (eqb_tells block.position position) [ inl is ↦ absurd (other is.1) | inr is ↦ rw is.0 refl ]

  later_block : (found : Option ℕ) (index : ℕ) → ((n : ℕ) → found ≡ Some n → IsBlockAt blocks position n) → option_map (λ (n : ℕ). n + 1) found ≡ Some index → IsBlockAt (block ∷ blocks) position index
  later_block None index held is = cc
  later_block (Some n) index held is =
      let next : n + 1 ≡ index = same_Some (n + 1) index is in
      let at : IsBlockAt blocks position n = held n refl in
      record {
        within = omega (arith, at.within);
        position_is = subst (λ (k : ℕ). (get_or (block ∷ blocks) k no_block).position ≡ position) next (rw add-one at.position_is);
      }

  no_later_block : (found : Option ℕ) → option_map (λ (n : ℕ). n + 1) found ≡ None → found ≡ None
  no_later_block None is = refl
  no_later_block (Some n) is = cc

block_at-Some : (blocks : List Block) (position index : ℕ) → block_at blocks position ≡ Some index → IsBlockAt blocks position index
block_at-Some [] position index is = cc
block_at-Some (block ∷ blocks) position index is = elim (eqb_tells block.position position) [
  | inl same ↦
      let first : 0 ≡ index = same_Some 0 index (sym (block_at-here block blocks position same.1) ∙ is) in
      record {
        within = omega arith;
        position_is = subst (λ (k : ℕ). (get_or (block ∷ blocks) k no_block).position ≡ position) first same.1;
      }
  | inr other ↦
      later_block block blocks position (block_at blocks position) index (λ (n : ℕ) at. block_at-Some blocks position n at)
      (sym (block_at-later block blocks position other.1) ∙ is)
]

block_at-None : (blocks : List Block) (position : ℕ) → block_at blocks position ≡ None → (index : ℕ) → index < length blocks → (get_or blocks index no_block).position ≢ position
block_at-None [] position is index within at = absurd (omega arith)
block_at-None (block ∷ blocks) position is zero within at = let here : block_at (block ∷ blocks) position ≡ Some 0 = block_at-here block blocks position at in cc
block_at-None (block ∷ blocks) position is (suc index) within at = elim (eqb_tells block.position position) [
  | inl same ↦ let here : block_at (block ∷ blocks) position ≡ Some 0 = block_at-here block blocks position same.1 in cc
  | inr other ↦
      block_at-None blocks position (no_later_block block blocks position (block_at blocks position) (sym (block_at-later block blocks position other.1) ∙ is)) index (omega arith) at
]

-- the block of this number of this record of a list stands at this position
record IsAmong (records : List Record) (position i index : ℕ) : Type 0 where
  within : i < length records
  index_within : index < length (get_or records i no_record).blocks
  position_is : (get_or (get_or records i no_record).blocks index no_block).position ≡ position

first_cell : (kept : Record) (records : List Record) (position : ℕ) (found : Option ℕ) (cell : Cell) → ((n : ℕ) → found ≡ Some n → IsBlockAt kept.blocks position n)
    → (later : Option Cell) → ((c : Cell) → later ≡ Some c → IsAmong records position c.rec c.index) → cell_or found later ≡ Some cell → IsAmong (kept ∷ records) position cell.rec cell.index
first_cell kept records position (Some index) cell held later among is =
    let at : IsBlockAt kept.blocks position index = held index refl in
    let made : Cell = record { rec = 0; index = index } in
    let same : made ≡ cell = same_Some made cell is in
    subst (λ (c : Cell). IsAmong (kept ∷ records) position c.rec c.index) same
    (record { within = omega arith; index_within = at.within; position_is = at.position_is })
first_cell kept records position None cell held None among is = cc
first_cell kept records position None cell held (Some c) among is =
    let at : IsAmong records position c.rec c.index = among c refl in
    let same : one_later c ≡ cell = same_Some (one_later c) cell is in
    subst (λ (found : Cell). IsAmong (kept ∷ records) position found.rec found.index) same
    (record { within = omega (arith, at.within); index_within = rw add-one at.index_within; position_is = rw add-one at.position_is })

cell_among-Some : (records : List Record) (position : ℕ) (cell : Cell) → cell_among records position ≡ Some cell → IsAmong records position cell.rec cell.index
cell_among-Some [] position cell is = cc
cell_among-Some (kept ∷ records) position cell is =
    first_cell kept records position (block_at kept.blocks position) cell (block_at-Some kept.blocks position)
    (cell_among records position) (λ (c : Cell) at. cell_among-Some records position c at) is

no_cell_or : (found : Option ℕ) (later : Option Cell) → cell_or found later ≡ None → (found ≡ None) × (later ≡ None)
no_cell_or None None is = (refl, refl)
no_cell_or None (Some c) is = cc
no_cell_or (Some index) later is = cc

cell_among-None : (records : List Record) (position : ℕ) → cell_among records position ≡ None → (i index : ℕ) → ¬ (IsAmong records position i index)
cell_among-None [] position is i index at = absurd (omega (arith, at.within))
cell_among-None (kept ∷ records) position is zero index at =
    let none = no_cell_or (block_at kept.blocks position) (cell_among records position) is in
    block_at-None kept.blocks position none.0 index at.index_within at.position_is
cell_among-None (kept ∷ records) position is (suc i) index at =
    let none = no_cell_or (block_at kept.blocks position) (cell_among records position) is in
    cell_among-None records position none.1 i index (record { within = omega (arith, at.within); index_within = at.index_within; position_is = at.position_is })

-- what `cell_in` gives stands at the position
pub cell_in-Some : (column : Column) (position : ℕ) (cell : Cell) → cell_in column position ≡ Some cell → IsAt column position cell.rec cell.index
cell_in-Some column position cell is =
    let at = cell_among-Some column.records position cell is in
    record { within = at.within; index_within = at.index_within; position_is = at.position_is }

-- where it gives none, no block does
pub cell_in-None : (column : Column) (position : ℕ) → cell_in column position ≡ None → (i index : ℕ) → ¬ (IsAt column position i index)
cell_in-None column position is i index at =
    cell_among-None column.records position is i index (record { within = at.within; index_within = at.index_within; position_is = at.position_is })

-- a block that stands at a position is what it gives, where each position is used once
pub cell_in_only : (column : Column) (position : ℕ) → AllPairs (λ x y. x ≢ y) (positions_of (column_blocks column)) → (i index : ℕ) → IsAt column position i index
    → cell_in column position ≡ Some (let other : Cell = record { rec = i; index = index } in other)
cell_in_only column position once i index at = by_case (cell_in column position) refl
  where
    by_case : (found : Option Cell) → cell_in column position ≡ found → found ≡ Some (let other : Cell = record { rec = i; index = index } in other)
    by_case None is = absurd (cell_in-None column position is i index at)
    by_case (Some cell) is = only_cell column position cell once (cell_in-Some column position cell is) i index at

-- where no block stands, it gives none
pub cell_in_nowhere : (column : Column) (position : ℕ) → ((i index : ℕ) → ¬ (IsAt column position i index)) → cell_in column position ≡ None
cell_in_nowhere column position none = by_case (cell_in column position) refl
  where
    by_case : (found : Option Cell) → cell_in column position ≡ found → found ≡ None
    by_case None is = refl
    by_case (Some cell) is = absurd (none cell.rec cell.index (cell_in-Some column position cell is))
