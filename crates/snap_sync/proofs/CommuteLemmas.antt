-- Stripes may be closed in any order.
use Rattle.std.proofs.Common.{◌≡◌, ◌≢◌, inl, inr, ℕ, zero, suc, ◌<◌, List, [], ◌∷◌, ◌++◌, length, get_or, set, Bool, true, false, not, Option, None, Some, refl, sym, ap, ap₂, ◌∙◌, subst, arith}
use Rattle.std.specs.List.{All, AllPairs, filter}
use Rattle.std.proofs.lemmas.Bool.{cases_eq}
use Rattle.std.proofs.lemmas.List.{get_or-set_same, get_or-set_other, set-set, set_comm}
use Rattle.block_hash.specs.declared.Digest16.{Digest16}
use Rattle.file_table.specs.Cells.{block_at, cell_or, cell_among, cell_in, with_cell_hashed, column_closed, columns_closed}
use Rattle.file_table.specs.Table.{Record, Column, TableValue, IsAt, record_in, block_in, no_record, no_block, record_with_hash, column_with_hash}
use Rattle.file_table.specs.declared.block.Block.{Block}
use Rattle.file_table.specs.declared.block.Cell.{Cell}
use Rattle.file_table.specs.declared.info.Info.{Info}
use Rattle.snap_sync.specs.Closing.{synced_now, with_closed}
use Rattle.stripe_findings.specs.Reading.{StripeReading, digests_of}
use Rattle.snap_sync.proofs.CellLemmas.{FindsCells}
use Rattle.snap_sync.proofs.ListFacts.{kept_pass}

-- ---- where cells stand

-- a block that is written with its position stands where it stood
block_at-set : (blocks : List Block) (index : ℕ) (block : Block) (position : ℕ) → index < length blocks → block.position ≡ (get_or blocks index no_block).position
    → block_at (set blocks index block) position ≡ block_at blocks position
block_at-set [] index block position within same = absurd (omega arith)
block_at-set (first ∷ blocks) zero block position within same = rw same refl
block_at-set (first ∷ blocks) (suc index) block position within same = rw (block_at-set blocks index block position (omega arith) same) refl

-- and so does a record whose blocks do
cell_among-set : (records : List Record) (i : ℕ) (kept : Record) (position : ℕ) → i < length records → block_at kept.blocks position ≡ block_at (get_or records i no_record).blocks position
    → cell_among (set records i kept) position ≡ cell_among records position
cell_among-set [] i kept position within same = absurd (omega arith)
cell_among-set (first ∷ records) zero kept position within same = ap (λ (found : Option ℕ). cell_or found (cell_among records position)) same
cell_among-set (first ∷ records) (suc i) kept position within same = ap (cell_or (block_at first.blocks position)) (cell_among-set records i kept position (omega arith) same)

module _ (finds : FindsCells) where
  hashed_cell : (column : Column) (stripe : ℕ) (hash : Digest16) (found : Option Cell) → cell_in column stripe ≡ found → (other : ℕ) → cell_in (with_cell_hashed column hash found) other ≡ cell_in column other
  hashed_cell column stripe hash None is other = refl
  hashed_cell column stripe hash (Some cell) is other =
      let at : IsAt column stripe cell.rec cell.index = finds column stripe cell is in
      cell_among-set column.records cell.rec (record_with_hash (record_in column cell.rec) cell.index hash) other at.within
      (block_at-set (record_in column cell.rec).blocks cell.index (record { position = (block_in (record_in column cell.rec) cell.index).position; hash = Some hash }) other at.index_within refl)

  -- closing a stripe moves no cell
  pub closed_cell : (column : Column) (stripe : ℕ) (hash : Option Digest16) (other : ℕ) → cell_in (column_closed stripe hash column) other ≡ cell_in column other
  closed_cell column stripe None other = refl
  closed_cell column stripe (Some hash) other = hashed_cell column stripe hash (cell_in column stripe) refl other

-- ---- two cells of a column

-- two hashes in one record
module _ (kept : Record) (x y : ℕ) (one other : Digest16) (apart : x ≢ y) where
  two_in_record : record_with_hash (record_with_hash kept y other) x one ≡ record_with_hash (record_with_hash kept x one) y other
  two_in_record =
      let block_x : Block = record { position = (block_in kept x).position; hash = Some one } in
      let block_y : Block = record { position = (block_in kept y).position; hash = Some other } in
      let read_x : get_or (set kept.blocks y block_y) x no_block ≡ get_or kept.blocks x no_block = get_or-set_other kept.blocks y x block_y no_block apart in
      let read_y : get_or (set kept.blocks x block_x) y no_block ≡ get_or kept.blocks y no_block = get_or-set_other kept.blocks x y block_x no_block (λ same. apart (sym same)) in
      ap (λ (b : Block). let r : Record = record { path = kept.path; meta = kept.meta; blocks = set (set kept.blocks y block_y) x (record { position = b.position; hash = Some one }) } in r) read_x
      ∙ ap (λ (blocks : List Block). let r : Record = record { path = kept.path; meta = kept.meta; blocks = blocks } in r) (set_comm kept.blocks y x block_y block_x (λ same. apart (sym same)))
      ∙ ap (λ (b : Block). let r : Record = record { path = kept.path; meta = kept.meta; blocks = set (set kept.blocks x block_x) y (record { position = b.position; hash = Some other }) } in r) (sym read_y)

module _ (column : Column) (one other : Digest16) where
  abbrev named : List Record → Column
  named records = record { name = column.name; records = records }

  -- in two records
  two_records : (i x j y : ℕ) → i ≢ j → column_with_hash (column_with_hash column j y other) i x one ≡ column_with_hash (column_with_hash column i x one) j y other
  two_records i x j y apart =
      let record_i : Record = record_with_hash (record_in column i) x one in
      let record_j : Record = record_with_hash (record_in column j) y other in
      let read_i : get_or (set column.records j record_j) i no_record ≡ get_or column.records i no_record = get_or-set_other column.records j i record_j no_record apart in
      let read_j : get_or (set column.records i record_i) j no_record ≡ get_or column.records j no_record = get_or-set_other column.records i j record_i no_record (λ same. apart (sym same)) in
      ap (λ (r : Record). named (set (set column.records j record_j) i (record_with_hash r x one))) read_i
      ∙ ap named (set_comm column.records j i record_j record_i (λ same. apart (sym same)))
      ∙ ap (λ (r : Record). named (set (set column.records i record_i) j (record_with_hash r y other))) (sym read_j)

  -- in one
  one_record : (i x y : ℕ) → i < length column.records → x ≢ y → column_with_hash (column_with_hash column i y other) i x one ≡ column_with_hash (column_with_hash column i x one) i y other
  one_record i x y within apart =
      let kept : Record = record_in column i in
      let with_x : Record = record_with_hash kept x one in
      let with_y : Record = record_with_hash kept y other in
      ap (λ (r : Record). named (set (set column.records i with_y) i (record_with_hash r x one))) (get_or-set_same column.records i with_y no_record within)
      ∙ ap named (set-set column.records i with_y (record_with_hash with_y x one))
      ∙ ap (λ (r : Record). named (set column.records i r)) (two_in_record kept x y one other apart)
      ∙ ap named (sym (set-set column.records i with_x (record_with_hash with_x y other)))
      ∙ ap (λ (r : Record). named (set (set column.records i with_x) i (record_with_hash r y other))) (sym (get_or-set_same column.records i with_x no_record within))

  two_hashes : (a b : ℕ) (first second : Cell) → a ≢ b → IsAt column a first.rec first.index → IsAt column b second.rec second.index
      → column_with_hash (column_with_hash column second.rec second.index other) first.rec first.index one ≡ column_with_hash (column_with_hash column first.rec first.index one) second.rec second.index other
  two_hashes a b first second apart at_a at_b = elim (cases_eq first.rec second.rec) [
    | inr elsewhere ↦ two_records first.rec first.index second.rec second.index elsewhere
    | inl same ↦
        let blocks_apart : first.index ≢ second.index = λ index.
        apart (sym at_a.position_is ∙ ap₂ (λ (i x : ℕ). (block_in (record_in column i) x).position) same index ∙ at_b.position_is) in
        subst (λ (j : ℕ). column_with_hash (column_with_hash column j second.index other) first.rec first.index one ≡ column_with_hash (column_with_hash column first.rec first.index one) j second.index other) same
        (one_record first.rec first.index second.index at_a.within blocks_apart)
  ]

-- ---- columns and tables

module _ (finds : FindsCells) (a b : ℕ) (apart : a ≢ b) where
  cells_comm : (column : Column) (one other : Digest16) (first second : Option Cell) → cell_in column a ≡ first → cell_in column b ≡ second
      → with_cell_hashed (with_cell_hashed column other second) one first ≡ with_cell_hashed (with_cell_hashed column one first) other second
  cells_comm column one other None second is_first is_second = refl
  cells_comm column one other (Some first) None is_first is_second = refl
  cells_comm column one other (Some first) (Some second) is_first is_second = two_hashes column one other a b first second apart (finds column a first is_first) (finds column b second is_second)

  column_comm : (column : Column) (one other : Option Digest16) → column_closed a one (column_closed b other column) ≡ column_closed b other (column_closed a one column)
  column_comm column None other = refl
  column_comm column (Some one) None = refl
  column_comm column (Some one) (Some other) =
      let with_b : Column = column_closed b (Some other) column in
      let with_a : Column = column_closed a (Some one) column in
      ap (with_cell_hashed with_b one) (closed_cell finds column b (Some other) a)
      ∙ cells_comm column one other (cell_in column a) (cell_in column b) refl refl
      ∙ ap (with_cell_hashed with_a other) (sym (closed_cell finds column a (Some one) b))

  columns_comm : (ones others : List (Option Digest16)) (columns : List Column) → columns_closed a ones (columns_closed b others columns) ≡ columns_closed b others (columns_closed a ones columns)
  columns_comm ones others [] = refl
  columns_comm [] [] (column ∷ columns) = refl
  columns_comm [] (other ∷ others) (column ∷ columns) = refl
  columns_comm (one ∷ ones) [] (column ∷ columns) = refl
  columns_comm (one ∷ ones) (other ∷ others) (column ∷ columns) = ap₂ (λ (c : Column) (cs : List Column). c ∷ cs) (column_comm column one other) (columns_comm ones others columns)

pub closed_comm : FindsCells → (now : ℕ) (one other : StripeReading) (table : TableValue) → one.stripe ≢ other.stripe → with_closed now one (with_closed now other table) ≡ with_closed now other (with_closed now one table)
closed_comm finds now one other table apart = ap₂ (λ (columns : List Column) (infos : List Info). let t : TableValue = record { shape = table.shape; columns = columns; infos = infos } in t)
    (columns_comm finds one.stripe other.stripe apart (digests_of one) (digests_of other) table.columns)
    (set_comm table.infos other.stripe one.stripe (synced_now now) (synced_now now) (λ same. apart (sym same)))

-- ---- steps that commute may be taken in any order

module _ {X : Type 0} (step : ℕ → X → X) (comm : (a b : ℕ) (x : X) → a ≢ b → step a (step b x) ≡ step b (step a x)) where
  abbrev pub steps : List ℕ → X → X
  steps [] x = x
  steps (n ∷ ns) x = steps ns (step n x)

  pub steps-append : (first more : List ℕ) (x : X) → steps (first ++ more) x ≡ steps more (steps first x)
  steps-append [] more x = refl
  steps-append (n ∷ first) more x = steps-append first more (step n x)

  to_front : (before : List ℕ) (n : ℕ) (behind : List ℕ) (x : X) → All (λ (m : ℕ). m ≢ n) before → steps (before ++ n ∷ behind) x ≡ steps (before ++ behind) (step n x)
  to_front [] n behind x apart = refl
  to_front (m ∷ before) n behind x apart =
      to_front before n behind (step m x) (λ k d within. apart (suc k) d (omega arith))
      ∙ ap (steps (before ++ behind)) (comm n m x (λ same. apart 0 m (omega arith) (sym same)))

  -- those that do not pass, and then those that do
  pub steps_apart : (p : ℕ → Bool) (ns : List ℕ) (x : X) → AllPairs (λ (a b : ℕ). a ≢ b) ns → steps (filter (λ (n : ℕ). not (p n)) ns ++ filter p ns) x ≡ steps ns x
  steps_apart p [] x distinct = refl
  steps_apart p (n ∷ ns) x distinct = by_case (p n) refl (steps_apart p ns (step n x) (λ i j d less below. distinct (suc i) (suc j) d (omega arith) (omega arith)))
    where
      others : List ℕ
      others = filter (λ (m : ℕ). not (p m)) ns

      by_case : (b : Bool) → p n ≡ b → steps (filter (λ (m : ℕ). not (p m)) ns ++ filter p ns) (step n x) ≡ steps ns (step n x)
          → steps (filter (λ (m : ℕ). not (p m)) (n ∷ ns) ++ filter p (n ∷ ns)) x ≡ steps (n ∷ ns) x
      by_case true is rest = rw is (to_front (filter (λ (m : ℕ). not (p m)) ns) n (filter p ns) x
          (kept_pass (λ (m : ℕ). not (p m)) (λ (m : ℕ). m ≢ n) ns (λ k d within passes same. distinct 0 (suc k) d (omega arith) (omega arith) (sym same))) ∙ rest)
      by_case false is rest = rw is rest
