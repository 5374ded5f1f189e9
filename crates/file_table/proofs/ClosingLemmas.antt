-- Stripes closed one after another: names, files, positions and lengths stay, and each closed stripe has its hashes and its info.
use Rattle.std.proofs.Common.{◌≡◌, ◌≢◌, inl, inr, ℕ, ◌+◌, ◌<◌, ◌≤◌, zero, suc, List, [], ◌∷◌, ◌++◌, length, map, get_or, set, take, refl, sym, ap, ◌∙◌, subst, arith, add-one, Some, None, Option}
use Rattle.std.specs.List.{Contains}
use Rattle.std.proofs.lemmas.List.{length-set, get_or-set_same}
use Rattle.std.proofs.lemmas.Bool.Decides.{eqb_tells}
use Rattle.block_hash.specs.declared.Digest16.{Digest16}
use Rattle.file_table.specs.declared.block.Cell.{Cell}
use Rattle.file_table.specs.declared.info.Info.{Info}
use Rattle.file_table.specs.Table.{Record, Column, TableValue, IsAt, column_at, record_in, block_in, info_at, positions_of, no_column, no_info, record_with_hash, column_with_hash}
use Rattle.file_table.specs.Cells.{cell_in, CellView, cell_view, StripeView, stripe_view, with_cell_hashed, column_closed, columns_closed, closed_at}
use Rattle.file_table.specs.Closing.{Closing, closed, AreApart, IsNoneOf, cell_given, cells_given, closed_view, HasSameFiles, DiffersInHashesAndInfos}
use Rattle.file_table.proofs.CellInLemmas.{cell_in-Some}
use Rattle.file_table.proofs.HashLemmas.{positions-set}
use Rattle.file_table.proofs.ViewLemmas.{cell_stays, other_record, same_record, view-hashed, stripe_view-closed}

-- ---- a column

-- what one block with a hash leaves of its record, it leaves of each
module _ (column : Column) (i index : ℕ) (hash : Digest16) (i_in : i < length column.records) (index_in : index < length (record_in column i).blocks) where
  field_stays : {X : Type 0} (field : Record → X) → field (record_with_hash (record_in column i) index hash) ≡ field (record_in column i)
      → (j : ℕ) → field (record_in (column_with_hash column i index hash) j) ≡ field (record_in column j)
  field_stays field here j = elim (eqb_tells j i) [
    | inl same ↦
        ap (λ (n : ℕ). field (record_in (column_with_hash column i index hash) n)) same.1
        ∙ ap field (same_record column i index hash i_in index_in) ∙ here ∙ ap (λ (n : ℕ). field (record_in column n)) (sym same.1)
    | inr other ↦ ap field (other_record column i index hash i_in index_in j other.1)
  ]

  positions_stay : positions_of (record_with_hash (record_in column i) index hash).blocks ≡ positions_of (record_in column i).blocks
  positions_stay = positions-set (record_in column i).blocks index (record { position = (block_in (record_in column i) index).position; hash = Some hash }) index_in refl

  pub same_files-hash : HasSameFiles column (column_with_hash column i index hash)
  same_files-hash = record {
    name = refl;
    count = length-set column.records i (record_with_hash (record_in column i) index hash);
    path = field_stays (λ (r : Record). r.path) refl;
    meta = field_stays (λ (r : Record). r.meta) refl;
    positions = field_stays (λ (r : Record). positions_of r.blocks) positions_stay;
    cell = cell_stays column i index hash i_in index_in;
  }

pub same_files : (column : Column) → HasSameFiles column column
same_files column = record { name = refl; count = refl; path = λ i. refl; meta = λ i. refl; positions = λ i. refl; cell = λ position. refl }

pub same_files_then : (a b c : Column) → HasSameFiles a b → HasSameFiles b c → HasSameFiles a c
same_files_then a b c first second = record {
  name = second.name ∙ first.name;
  count = second.count ∙ first.count;
  path = λ i. second.path i ∙ first.path i;
  meta = λ i. second.meta i ∙ first.meta i;
  positions = λ i. second.positions i ∙ first.positions i;
  cell = λ position. second.cell position ∙ first.cell position;
}

pub same_files-closed : (column : Column) (stripe : ℕ) (hash : Option Digest16) → HasSameFiles column (column_closed stripe hash column)
same_files-closed column stripe None = same_files column
same_files-closed column stripe (Some hash) = by_case (cell_in column stripe) refl
  where
    by_case : (found : Option Cell) → cell_in column stripe ≡ found → HasSameFiles column (with_cell_hashed column hash found)
    by_case None is = same_files column
    by_case (Some cell) is =
        let at : IsAt column stripe cell.rec cell.index = cell_in-Some column stripe cell is in
        same_files-hash column cell.rec cell.index hash at.within at.index_within

-- ---- all columns

pub length-columns_closed : (stripe : ℕ) (hashes : List (Option Digest16)) (columns : List Column) → length (columns_closed stripe hashes columns) ≡ length columns
length-columns_closed stripe hashes [] = refl
length-columns_closed stripe [] (column ∷ columns) = refl
length-columns_closed stripe (hash ∷ hashes) (column ∷ columns) = ap suc (length-columns_closed stripe hashes columns)

no_column-closed : (stripe : ℕ) (hash : Option Digest16) → no_column ≡ column_closed stripe hash no_column
no_column-closed stripe None = refl
no_column-closed stripe (Some hash) = refl

pub column_at-closed : (stripe : ℕ) (hashes : List (Option Digest16)) (columns : List Column) (d : ℕ)
    → column_at (columns_closed stripe hashes columns) d ≡ column_closed stripe (get_or hashes d None) (column_at columns d)
column_at-closed stripe hashes [] d = no_column-closed stripe (get_or hashes d None)
column_at-closed stripe [] (column ∷ columns) d = refl
column_at-closed stripe (hash ∷ hashes) (column ∷ columns) zero = refl
column_at-closed stripe (hash ∷ hashes) (column ∷ columns) (suc d) = column_at-closed stripe hashes columns d

-- The columns of which the first have their hashes: the next one is as it was, with its own there is one more, and with all of them they are closed.
pub column_at-ahead : (stripe : ℕ) (hashes : List (Option Digest16)) (columns : List Column) (d : ℕ) → column_at (columns_closed stripe (take d hashes) columns) d ≡ column_at columns d
column_at-ahead stripe hashes [] d = refl
column_at-ahead stripe [] (column ∷ columns) zero = refl
column_at-ahead stripe [] (column ∷ columns) (suc d) = refl
column_at-ahead stripe (hash ∷ hashes) (column ∷ columns) zero = refl
column_at-ahead stripe (hash ∷ hashes) (column ∷ columns) (suc d) = column_at-ahead stripe hashes columns d

columns_closed-suc : (stripe : ℕ) (hashes : List (Option Digest16)) (columns : List Column) (d : ℕ) → d < length columns → d < length hashes
    → set (columns_closed stripe (take d hashes) columns) d (column_closed stripe (get_or hashes d None) (column_at columns d)) ≡ columns_closed stripe (take (suc d) hashes) columns
columns_closed-suc stripe hashes [] d within given = absurd (omega arith)
columns_closed-suc stripe [] (column ∷ columns) d within given = absurd (omega arith)
columns_closed-suc stripe (hash ∷ hashes) (column ∷ []) zero within given = refl
columns_closed-suc stripe (hash ∷ hashes) (column ∷ next ∷ columns) zero within given = refl
columns_closed-suc stripe (hash ∷ hashes) (column ∷ columns) (suc d) within given =
    ap (λ (cs : List Column). column_closed stripe hash column ∷ cs) (columns_closed-suc stripe hashes columns d (omega arith) (omega arith))

pub columns_closed-next : (stripe : ℕ) (hashes : List (Option Digest16)) (columns : List Column) (d : ℕ) → d < length columns → d < length hashes
    → set (columns_closed stripe (take d hashes) columns) d (column_closed stripe (get_or hashes d None) (column_at columns d)) ≡ columns_closed stripe (take (d + 1) hashes) columns
columns_closed-next stripe hashes columns d within given = rw add-one (columns_closed-suc stripe hashes columns d within given)

pub columns_closed-all : (stripe : ℕ) (hashes : List (Option Digest16)) (columns : List Column) (n : ℕ) → length columns ≤ n → columns_closed stripe (take n hashes) columns ≡ columns_closed stripe hashes columns
columns_closed-all stripe hashes [] n all = refl
columns_closed-all stripe hashes (column ∷ columns) zero all = absurd (omega arith)
columns_closed-all stripe [] (column ∷ columns) (suc n) all = refl
columns_closed-all stripe (hash ∷ hashes) (column ∷ columns) (suc n) all = ap (λ (cs : List Column). column_closed stripe hash column ∷ cs) (columns_closed-all stripe hashes columns n (omega arith))

-- ---- a table: what stays

pub differs-none : (table : TableValue) → DiffersInHashesAndInfos table table
differs-none table = record { shape = refl; columns = refl; stripes = refl; files = λ d. same_files (column_at table.columns d) }

pub differs_then : (a b c : TableValue) → DiffersInHashesAndInfos a b → DiffersInHashesAndInfos b c → DiffersInHashesAndInfos a c
differs_then a b c first second = record {
  shape = second.shape ∙ first.shape;
  columns = second.columns ∙ first.columns;
  stripes = second.stripes ∙ first.stripes;
  files = λ d. same_files_then (column_at a.columns d) (column_at b.columns d) (column_at c.columns d) (first.files d) (second.files d);
}

pub differs-closed_at : (table : TableValue) (stripe : ℕ) (hashes : List (Option Digest16)) (info : Info) → DiffersInHashesAndInfos table (closed_at stripe hashes info table)
differs-closed_at table stripe hashes info = record {
  shape = refl;
  columns = length-columns_closed stripe hashes table.columns;
  stripes = length-set table.infos stripe info;
  files = λ d. subst (HasSameFiles (column_at table.columns d)) (sym (column_at-closed stripe hashes table.columns d)) (same_files-closed (column_at table.columns d) stripe (get_or hashes d None));
}

pub differs-closed : (closings : List Closing) (table : TableValue) → DiffersInHashesAndInfos table (closed closings table)
differs-closed [] table = differs-none table
differs-closed (closing ∷ closings) table =
    let next : TableValue = closed_at closing.stripe closing.hashes closing.info table in
    differs_then table next (closed closings next) (differs-closed_at table closing.stripe closing.hashes closing.info) (differs-closed closings next)

-- ---- what is seen

cell_view-given : (column : Column) (stripe : ℕ) (hash : Option Digest16) → cell_view (column_closed stripe hash column) stripe ≡ cell_given hash (cell_view column stripe)
cell_view-given column stripe None = refl
cell_view-given column stripe (Some hash) = view-hashed column stripe hash

abbrev cells_at : ℕ → List Column → List (Option CellView)
cells_at stripe columns = map (λ (column : Column). cell_view column stripe) columns

cells-given : (stripe : ℕ) (hashes : List (Option Digest16)) (columns : List Column) → cells_at stripe (columns_closed stripe hashes columns) ≡ cells_given hashes (cells_at stripe columns)
cells-given stripe hashes [] = refl
cells-given stripe [] (column ∷ columns) = refl
cells-given stripe (hash ∷ hashes) (column ∷ columns) =
    let first : cell_view (column_closed stripe hash column) stripe ≡ cell_given hash (cell_view column stripe) = cell_view-given column stripe hash in
    let rest : cells_at stripe (columns_closed stripe hashes columns) ≡ cells_given hashes (cells_at stripe columns) = cells-given stripe hashes columns in
    ap (λ (seen : Option CellView). seen ∷ cells_at stripe (columns_closed stripe hashes columns)) first
    ∙ ap (λ (cells : List (Option CellView)). cell_given hash (cell_view column stripe) ∷ cells) rest

-- of the stripe that is closed
pub stripe_view-itself : (table : TableValue) (closing : Closing) → closing.stripe < length table.infos
    → stripe_view (closed_at closing.stripe closing.hashes closing.info table) closing.stripe ≡ closed_view closing (stripe_view table closing.stripe)
stripe_view-itself table closing within =
    let stripe : ℕ = closing.stripe in
    let infos : info_at (set table.infos stripe closing.info) stripe ≡ closing.info = get_or-set_same table.infos stripe closing.info no_info within in
    ap (λ (i : Info). let v : StripeView = record { info = i; cells = cells_at stripe (columns_closed stripe closing.hashes table.columns) } in v) infos
    ∙ ap (λ (cs : List (Option CellView)). let v : StripeView = record { info = closing.info; cells = cs } in v) (cells-given stripe closing.hashes table.columns)

-- of a stripe that is none of those that are closed
pub stripe_view-none : (closings : List Closing) (table : TableValue) (stripe : ℕ) → IsNoneOf stripe closings → stripe_view (closed closings table) stripe ≡ stripe_view table stripe
stripe_view-none [] table stripe apart = refl
stripe_view-none (closing ∷ closings) table stripe apart =
    let first : closing.stripe ≢ stripe = apart 0 closing (omega arith) in
    stripe_view-none closings (closed_at closing.stripe closing.hashes closing.info table) stripe (λ k d within. apart (suc k) d (omega arith))
    ∙ stripe_view-closed table closing.stripe stripe closing.hashes closing.info (λ same. first (sym same))

-- of each stripe that is closed, once
pub stripe_view-once : (closings : List Closing) (table : TableValue) (k : ℕ) (d : Closing) → AreApart closings → k < length closings → (get_or closings k d).stripe < length table.infos
    → stripe_view (closed closings table) (get_or closings k d).stripe ≡ closed_view (get_or closings k d) (stripe_view table (get_or closings k d).stripe)
stripe_view-once [] table k d apart inside within = absurd (omega arith)
stripe_view-once (closing ∷ closings) table zero d apart inside within =
    stripe_view-none closings (closed_at closing.stripe closing.hashes closing.info table) closing.stripe
    (λ j e below same. apart 0 (suc j) e (omega arith) (omega arith) (sym same))
    ∙ stripe_view-itself table closing within
stripe_view-once (closing ∷ closings) table (suc k) d apart inside within =
    let next : TableValue = closed_at closing.stripe closing.hashes closing.info table in
    let long : length next.infos ≡ length table.infos = length-set table.infos closing.stripe closing.info in
    let other : closing.stripe ≢ (get_or closings k d).stripe = apart 0 (suc k) d (omega arith) (omega arith) in
    stripe_view-once closings next k d (λ a b e less below. apart (suc a) (suc b) e (omega arith) (omega arith)) (omega arith) (omega (arith, long, within))
    ∙ ap (closed_view (get_or closings k d)) (stripe_view-closed table closing.stripe (get_or closings k d).stripe closing.hashes closing.info (λ same. other (sym same)))

pub stripe_view-contained : (closings : List Closing) (table : TableValue) (closing : Closing) → AreApart closings → Contains closings closing → closing.stripe < length table.infos
    → stripe_view (closed closings table) closing.stripe ≡ closed_view closing (stripe_view table closing.stripe)
stripe_view-contained closings table closing apart held within =
    let is : get_or closings held.0 closing ≡ closing = held.2 in
    subst (λ (c : Closing). stripe_view (closed closings table) c.stripe ≡ closed_view c (stripe_view table c.stripe)) is
    (stripe_view-once closings table held.0 closing apart held.1 (subst (λ (c : Closing). c.stripe < length table.infos) (sym is) within))

-- closing some stripes, then others
pub closed-append : (first second : List Closing) (table : TableValue) → closed (first ++ second) table ≡ closed second (closed first table)
closed-append [] second table = refl
closed-append (closing ∷ first) second table = closed-append first second (closed_at closing.stripe closing.hashes closing.info table)
