-- A row of a stripe has the cells that close it, and the other way round; and it has the same levels with empty blocks up to its columns.
use Rattle.std.proofs.Common.{◌≡◌, inl, inr, ℕ, zero, suc, ◌+◌, ◌-◌, ◌<◌, ◌≤◌, List, [], ◌∷◌, ◌++◌, length, map, get_or, Bool, Option, None, Some, refl, sym, ◌∙◌, ap, subst, arith}
use Rattle.std.proofs.lemmas.Bool.{cases_lt}
use Rattle.std.proofs.lemmas.List.{get_or_past, get_or_append_left, get_or-append_right, length-append}
use Rattle.std.proofs.lemmas.List.FromFn.{get_or-map-range_with_len, length-map-range_with_len}
use Rattle.block_hash.specs.declared.Digest16.{Digest16}
use Rattle.cauchy.specs.Matrix.{byte_of, parity_byte, parity_of as level_of}
use Rattle.file_table.specs.Cells.{CellView, StripeView}
use Rattle.file_table.specs.Table.{TableValue}
use Rattle.file_table.specs.declared.info.Mark.{Mark}
use Rattle.file_table.specs.declared.shape.Shape.{Shape}
use Rattle.disk_model.specs.Files.{Files}
use Rattle.parity_writer.specs.Parity.{Row}
use Rattle.parity_writer.specs.Sound.{Closed, HasCell, HasCells, IsBlockAt, IsClosedBlock, IsRowOf, IsSynced, PastCell, PastRow, Sound, across, closed_cell, closed_cells, closed_row, closed_row_by, last_row, past_cell, real_length}
use Rattle.parity_writer.proofs.PaddedLemmas.{SameBytes}
use Rattle.parity_writer.proofs.SumLemmas.{byte_of_level}

-- ---- the rows of a stripe

pub one_more : (row : Row) (rows : List Row) → 0 < length (row ∷ rows)
one_more row rows = omega arith

-- ---- the cells of a synced stripe

pub closed_is : (table : TableValue) (stripe : ℕ) → IsSynced table stripe → closed_row table stripe ≡ Some (closed_cells table stripe)
closed_is table stripe synced = ap (λ (mark : Mark). closed_row_by mark (closed_cells table stripe)) synced.mark

cells_are : (table : TableValue) (stripe : ℕ) (cells : PastRow) → IsSynced table stripe → closed_row table stripe ≡ Some cells → closed_cells table stripe ≡ cells
cells_are table stripe cells synced is =
    let both : Some (closed_cells table stripe) ≡ Some cells = sym (closed_is table stripe synced) ∙ is in
    cc

-- what soundness says of a synced stripe, and what it asks for
pub cells_of : (table : TableValue) (files : Files) (snapshot : Closed) (is_changed : ℕ → ℕ → Bool) → Sound table files snapshot is_changed → (stripe : ℕ) → IsSynced table stripe
    → HasCells table.shape (closed_cells table stripe) (last_row snapshot stripe)
cells_of table files snapshot is_changed sound stripe synced = sound.rows stripe (closed_cells table stripe) synced (closed_is table stripe synced)

pub rows_by : (table : TableValue) (snapshot : Closed) → ((stripe : ℕ) → IsSynced table stripe → HasCells table.shape (closed_cells table stripe) (last_row snapshot stripe))
    → (stripe : ℕ) (cells : PastRow) → IsSynced table stripe → closed_row table stripe ≡ Some cells → HasCells table.shape cells (last_row snapshot stripe)
rows_by table snapshot has stripe cells synced is =
    subst (λ (them : PastRow). HasCells table.shape them (last_row snapshot stripe)) (cells_are table stripe cells synced is) (has stripe synced)

-- what a column is closed with, also where it has no cell
pub closed_cell_at : (shape : Shape) (cells : List (Option CellView)) (d : ℕ) → get_or (map (closed_cell shape) cells) d None ≡ closed_cell shape (get_or cells d None)
closed_cell_at shape [] d = refl
closed_cell_at shape (seen ∷ cells) zero = refl
closed_cell_at shape (seen ∷ cells) (suc d) = closed_cell_at shape cells d

-- ---- a row with the recorded hashes has the closed cells

has_cell : (shape : Shape) (seen : Option CellView) (block : List ℕ) → IsBlockAt shape seen block → HasCell shape (closed_cell shape seen) block
has_cell shape None block is = is
has_cell shape (Some cell) block is =
    subst (λ (hash : Option Digest16). HasCell shape (past_cell (real_length shape cell) hash) block) (sym is.hash) (record { is_hash = refl; zeros = is.zeros })

pub row_has_cells : (shape : Shape) (seen : StripeView) (row : Row) → IsRowOf shape seen row → HasCells shape (map (closed_cell shape) seen.cells) row
row_has_cells shape seen row is d = elim (cases_lt d (length seen.cells)) [
  | inl below ↦
      subst (λ (cell : Option PastCell). HasCell shape cell (get_or row d [])) (sym (closed_cell_at shape seen.cells d))
      (has_cell shape (get_or seen.cells d None) (get_or row d []) (is.blocks d below))
  | inr past ↦
      subst (λ (cell : Option PastCell). HasCell shape cell (get_or row d []))
      (sym (closed_cell_at shape seen.cells d ∙ ap (closed_cell shape) (get_or_past seen.cells d None past)))
      (λ i. ap (λ (block : List ℕ). get_or block i 0) (get_or_past row d [] (omega (arith, past, is.as_many))))
]

-- ---- and the other way round, where each cell has its hash and there are as many blocks

abbrev pub IsHashed : Option CellView → Type 0
IsHashed None = Unit {0}
IsHashed (Some cell) = (digest : Digest16) × (cell.hash ≡ Some digest)

is_block : (shape : Shape) (seen : Option CellView) (block : List ℕ) → IsHashed seen → HasCell shape (closed_cell shape seen) block → IsBlockAt shape seen block
is_block shape None block hashed has = has
is_block shape (Some cell) block hashed has =
    let moved : IsClosedBlock shape (record { length = real_length shape cell; hash = hashed.0 }) block
    = subst (λ (hash : Option Digest16). HasCell shape (past_cell (real_length shape cell) hash) block) hashed.1 has in
    record { hash = hashed.1 ∙ ap (λ (d : Digest16). Some d) moved.is_hash; zeros = moved.zeros }

pub row_of_cells : (shape : Shape) (seen : StripeView) (row : Row) → length row ≡ length seen.cells → ((d : ℕ) → d < length seen.cells → IsHashed (get_or seen.cells d None))
    → HasCells shape (map (closed_cell shape) seen.cells) row → IsRowOf shape seen row
row_of_cells shape seen row as_many hashed has = record {
  as_many = as_many;
  blocks = λ d below.
      is_block shape (get_or seen.cells d None) (get_or row d []) (hashed d below)
      (subst (λ (cell : Option PastCell). HasCell shape cell (get_or row d [])) (closed_cell_at shape seen.cells d) (has d));
}

-- ---- a row across its columns

pub length-across : (columns : ℕ) (row : Row) → length (across columns row) ≡ columns
length-across columns row = length-map-range_with_len (λ (d : ℕ). get_or row d []) 0 columns

pub across_at : (columns : ℕ) (row : Row) (d : ℕ) → d < columns → get_or (across columns row) d [] ≡ get_or row d []
across_at columns row d below = get_or-map-range_with_len (λ (k : ℕ). get_or row k []) 0 columns d d [] below (omega arith)

module _ (shape : Shape) (cells : PastRow) (row : Row) (has : HasCells shape cells row) (columns : ℕ) (all : length cells ≤ columns) where
  -- behind the columns there are zeros
  zeros_behind : (d p : ℕ) → columns ≤ d → byte_of row d p ≡ 0
  zeros_behind d p past =
      let zeros : HasCell shape None (get_or row d []) = subst (λ (cell : Option PastCell). HasCell shape cell (get_or row d [])) (get_or_past cells d None (omega (arith, past, all))) (has d) in
      zeros p

  pub across_cells : HasCells shape cells (across columns row)
  across_cells d = elim (cases_lt d columns) [
    | inl below ↦ subst (λ (block : List ℕ). HasCell shape (get_or cells d None) block) (sym (across_at columns row d below)) (has d)
    | inr past ↦
        subst (λ (cell : Option PastCell). HasCell shape cell (get_or (across columns row) d [])) (sym (get_or_past cells d None (omega (arith, past, all))))
        (λ i. ap (λ (block : List ℕ). get_or block i 0) (get_or_past (across columns row) d [] (omega (arith, past, length-across columns row))))
  ]

  pub across_bytes : (d p : ℕ) → byte_of (across columns row) d p ≡ byte_of row d p
  across_bytes d p = elim (cases_lt d columns) [
    | inl below ↦ ap (λ (block : List ℕ). get_or block p 0) (across_at columns row d below)
    | inr past ↦
        ap (λ (block : List ℕ). get_or block p 0) (get_or_past (across columns row) d [] (omega (arith, past, length-across columns row)))
        ∙ sym (zeros_behind d p past)
  ]

-- ---- rows with the same bytes, though one is longer, have the same levels

-- what cauchy says of a column without a block
abbrev pub NoBlock : Type 0
NoBlock = (level size : ℕ) (row : List (List ℕ)) → level_of level size (row ++ [] ∷ []) ≡ level_of level size row

abbrev longer : ℕ → Row → Row
longer zero row = row
longer (suc n) row = longer n (row ++ [] ∷ [])

length-longer : (n : ℕ) (row : Row) → length (longer n row) ≡ length row + n
length-longer zero row = omega arith
length-longer (suc n) row = length-longer n (row ++ [] ∷ []) ∙ omega (arith, length-append row ([] ∷ []))

longer_level : NoBlock → (level size n : ℕ) (row : Row) → level_of level size (longer n row) ≡ level_of level size row
longer_level none level size zero row = refl
longer_level none level size (suc n) row = longer_level none level size n (row ++ [] ∷ []) ∙ none level size row

-- a row of one block, which is empty
abbrev one_empty : Row
one_empty = [] ∷ []

more_bytes : (row : Row) (c p : ℕ) → byte_of (row ++ [] ∷ []) c p ≡ byte_of row c p
more_bytes row c p = elim (cases_lt c (length row)) [
  | inl below ↦ ap (λ (block : List ℕ). get_or block p 0) (get_or_append_left row ([] ∷ []) [] c below)
  | inr past ↦
      ap (λ (block : List ℕ). get_or block p 0) (get_or-append_right row ([] ∷ []) (length row) c [] refl past ∙ nothing (c - length row))
      ∙ sym (ap (λ (block : List ℕ). get_or block p 0) (get_or_past row c [] past))
]
  where
    nothing : (k : ℕ) → get_or one_empty k [] ≡ []
    nothing zero = refl
    nothing (suc k) = refl

longer_bytes : (n : ℕ) (row : Row) (c p : ℕ) → byte_of (longer n row) c p ≡ byte_of row c p
longer_bytes zero row c p = refl
longer_bytes (suc n) row c p = longer_bytes n (row ++ [] ∷ []) c p ∙ more_bytes row c p

pub same_levels_by : SameBytes → NoBlock → (level size : ℕ) (one other : Row) → ((c p : ℕ) → byte_of one c p ≡ byte_of other c p) → level_of level size one ≡ level_of level size other
same_levels_by same none level size one other bytes =
    sym (longer_level none level size (length other) one)
    ∙ same level size (longer (length other) one) (longer (length one) other) (omega (arith, length-longer (length other) one, length-longer (length one) other))
    (λ c p within near. longer_bytes (length other) one c p ∙ bytes c p ∙ sym (longer_bytes (length one) other c p))
    ∙ longer_level none level size (length one) other

pub same_parity_by : SameBytes → NoBlock → (level size : ℕ) (one other : Row) → ((c p : ℕ) → byte_of one c p ≡ byte_of other c p) → (i : ℕ) → i < size → parity_byte level one i ≡ parity_byte level other i
same_parity_by same none level size one other bytes i below =
    sym (byte_of_level level size one i below) ∙ ap (λ (its : List ℕ). get_or its i 0) (same_levels_by same none level size one other bytes) ∙ byte_of_level level size other i below
