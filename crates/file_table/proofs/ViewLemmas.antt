-- Closing a stripe gives its own cells their hashes, and leaves what is seen of every other stripe.
use Rattle.std.proofs.Common.{◌≡◌, ◌≢◌, inl, inr, ℕ, ◌<◌, zero, suc, List, [], ◌∷◌, length, map, get_or, set, refl, sym, ap, ◌∙◌, arith, Some, None, Option}
use Rattle.std.specs.Option.{option_map}
use Rattle.std.proofs.lemmas.List.{get_or-set_same, get_or-set_other}
use Rattle.std.proofs.lemmas.Bool.Decides.{eqb_tells}
use Rattle.block_hash.specs.declared.Digest16.{Digest16}
use Rattle.file_table.specs.declared.block.Block.{Block}
use Rattle.file_table.specs.declared.block.Cell.{Cell}
use Rattle.file_table.specs.declared.info.Info.{Info}
use Rattle.file_table.specs.Table.{Record, Column, TableValue, IsAt, record_in, block_in, info_at, no_record, no_block, no_info, record_with_hash, column_with_hash}
use Rattle.file_table.specs.Cells.{block_at, cell_or, cell_among, cell_in, CellView, cell_seen, cell_view, StripeView, stripe_view, with_cell_hashed, column_closed, columns_closed, closed_at}
use Rattle.file_table.proofs.CellInLemmas.{cell_in-Some}

-- a block that is written with its position stands where it stood
block_at-set : (blocks : List Block) (index : ℕ) (block : Block) (position : ℕ) → index < length blocks → block.position ≡ (get_or blocks index no_block).position
    → block_at (set blocks index block) position ≡ block_at blocks position
block_at-set [] index block position within same = absurd (omega arith)
block_at-set (first ∷ blocks) zero block position within same = rw same refl
block_at-set (first ∷ blocks) (suc index) block position within same = rw (block_at-set blocks index block position (omega arith) same) refl

-- and so does a record whose blocks do
cell_among-set : (records : List Record) (i : ℕ) (kept : Record) (position : ℕ) → i < length records → block_at kept.blocks position ≡ block_at (get_or records i no_record).blocks position
    → cell_among (set records i kept) position ≡ cell_among records position
cell_among-set [] i kept position within same = absurd (omega arith)
cell_among-set (first ∷ records) zero kept position within same = ap (λ (found : Option ℕ). cell_or found (cell_among records position)) same
cell_among-set (first ∷ records) (suc i) kept position within same = ap (cell_or (block_at first.blocks position)) (cell_among-set records i kept position (omega arith) same)

-- a column with the hash of one block
module _ (column : Column) (i index : ℕ) (hash : Digest16) (i_in : i < length column.records) (index_in : index < length (record_in column i).blocks) where
  abbrev new_record : Record
  new_record = record_with_hash (record_in column i) index hash

  abbrev new_column : Column
  new_column = column_with_hash column i index hash

  pub cell_stays : (position : ℕ) → cell_in new_column position ≡ cell_in column position
  cell_stays position = cell_among-set column.records i new_record position i_in
      (block_at-set (record_in column i).blocks index (record { position = (block_in (record_in column i) index).position; hash = Some hash }) position index_in refl)

  pub other_record : (j : ℕ) → j ≢ i → record_in new_column j ≡ record_in column j
  other_record j other = get_or-set_other column.records i j new_record no_record other

  pub same_record : record_in new_column i ≡ new_record
  same_record = get_or-set_same column.records i new_record no_record i_in

  other_block : (a : ℕ) → a ≢ index → block_in new_record a ≡ block_in (record_in column i) a
  other_block a other = get_or-set_other (record_in column i).blocks index a (record { position = (block_in (record_in column i) index).position; hash = Some hash }) no_block other

  -- another cell is seen as before
  pub seen_stays : (j a : ℕ) → (block_in (record_in column j) a).position ≢ (block_in (record_in column i) index).position → cell_seen new_column (record { rec = j; index = a }) ≡ cell_seen column (record { rec = j; index = a })
  seen_stays j a apart = elim (eqb_tells j i) [
    | inr other ↦ ap (λ (r : Record). let v : CellView = record { path = r.path; meta = r.meta; index = a; hash = (block_in r a).hash } in v) (other_record j other.1)
    | inl same ↦
        let not_here : a ≢ index = λ at. apart (ap (λ (n : ℕ). (block_in (record_in column n) a).position) same.1 ∙ ap (λ (n : ℕ). (block_in (record_in column i) n).position) at) in
        let read : record_in new_column j ≡ new_record = ap (record_in new_column) same.1 ∙ same_record in
        ap (λ (r : Record). let v : CellView = record { path = r.path; meta = r.meta; index = a; hash = (block_in r a).hash } in v) read
        ∙ ap (λ (b : Block). let v : CellView = record { path = (record_in column i).path; meta = (record_in column i).meta; index = a; hash = b.hash } in v) (other_block a not_here)
        ∙ ap (λ (n : ℕ). cell_seen column (record { rec = n; index = a })) (sym same.1)
  ]

  -- the cell itself is seen with the hash
  pub seen_hashed : cell_seen new_column (record { rec = i; index = index }) ≡ record (cell_seen column (record { rec = i; index = index })) { hash = Some hash }
  seen_hashed =
      let made : Block = record { position = (block_in (record_in column i) index).position; hash = Some hash } in
      ap (λ (r : Record). let v : CellView = record { path = r.path; meta = r.meta; index = index; hash = (block_in r index).hash } in v) same_record
      ∙ ap (λ (b : Block). let v : CellView = record { path = (record_in column i).path; meta = (record_in column i).meta; index = index; hash = b.hash } in v)
      (get_or-set_same (record_in column i).blocks index made no_block index_in)

-- what is seen at another position, in a column with a hash at one
pub view_stays : (column : Column) (position other : ℕ) (cell : Cell) (hash : Digest16) → IsAt column position cell.rec cell.index → other ≢ position
    → cell_view (column_with_hash column cell.rec cell.index hash) other ≡ cell_view column other
view_stays column position other cell hash at apart =
    let now : Column = column_with_hash column cell.rec cell.index hash in
    ap (option_map (cell_seen now)) (cell_stays column cell.rec cell.index hash at.within at.index_within other) ∙ by_case (cell_in column other) refl
  where
    by_case : (found : Option Cell) → cell_in column other ≡ found → option_map (cell_seen (column_with_hash column cell.rec cell.index hash)) found ≡ option_map (cell_seen column) found
    by_case None is = refl
    by_case (Some there) is =
        let held : IsAt column other there.rec there.index = cell_in-Some column other there is in
        let elsewhere : (block_in (record_in column there.rec) there.index).position ≢ (block_in (record_in column cell.rec) cell.index).position = λ same. apart (sym held.position_is ∙ same ∙ at.position_is) in
        ap (λ (v : CellView). Some v) (seen_stays column cell.rec cell.index hash at.within at.index_within there.rec there.index elsewhere)

pub view-closed : (column : Column) (stripe other : ℕ) (hash : Option Digest16) → other ≢ stripe → cell_view (column_closed stripe hash column) other ≡ cell_view column other
view-closed column stripe other None apart = refl
view-closed column stripe other (Some hash) apart = by_case (cell_in column stripe) refl
  where
    by_case : (found : Option Cell) → cell_in column stripe ≡ found → cell_view (with_cell_hashed column hash found) other ≡ cell_view column other
    by_case None is = refl
    by_case (Some cell) is = view_stays column stripe other cell hash (cell_in-Some column stripe cell is) apart

-- what is seen of the cell itself
pub view-hashed : (column : Column) (stripe : ℕ) (hash : Digest16) → cell_view (column_closed stripe (Some hash) column) stripe ≡ option_map (λ (seen : CellView). record seen { hash = Some hash }) (cell_view column stripe)
view-hashed column stripe hash = by_case (cell_in column stripe) refl
  where
    by_case : (found : Option Cell) → cell_in column stripe ≡ found → cell_view (with_cell_hashed column hash found) stripe ≡ option_map (λ (seen : CellView). record seen { hash = Some hash }) (option_map (cell_seen column) found)
    by_case None is = ap (option_map (cell_seen column)) is
    by_case (Some cell) is =
        let at : IsAt column stripe cell.rec cell.index = cell_in-Some column stripe cell is in
        ap (option_map (cell_seen (column_with_hash column cell.rec cell.index hash))) (cell_stays column cell.rec cell.index hash at.within at.index_within stripe ∙ is)
        ∙ ap (λ (v : CellView). Some v) (seen_hashed column cell.rec cell.index hash at.within at.index_within)

pub cells-closed : (stripe other : ℕ) (hashes : List (Option Digest16)) (columns : List Column) → other ≢ stripe
    → map (λ (column : Column). cell_view column other) (columns_closed stripe hashes columns) ≡ map (λ (column : Column). cell_view column other) columns
cells-closed stripe other hashes [] apart = refl
cells-closed stripe other [] (column ∷ columns) apart = refl
cells-closed stripe other (hash ∷ hashes) (column ∷ columns) apart =
    let first : cell_view (column_closed stripe hash column) other ≡ cell_view column other = view-closed column stripe other hash apart in
    let rest : map (λ (c : Column). cell_view c other) (columns_closed stripe hashes columns) ≡ map (λ (c : Column). cell_view c other) columns = cells-closed stripe other hashes columns apart in
    cc

-- what is seen of another stripe stays
pub stripe_view-closed : (table : TableValue) (stripe other : ℕ) (hashes : List (Option Digest16)) (info : Info) → other ≢ stripe
    → stripe_view (closed_at stripe hashes info table) other ≡ stripe_view table other
stripe_view-closed table stripe other hashes info apart =
    let infos : info_at (set table.infos stripe info) other ≡ info_at table.infos other = get_or-set_other table.infos stripe other info no_info apart in
    let cells : map (λ (column : Column). cell_view column other) (columns_closed stripe hashes table.columns) ≡ map (λ (column : Column). cell_view column other) table.columns = cells-closed stripe other hashes table.columns apart in
    ap (λ (i : Info). let v : StripeView = record { info = i; cells = map (λ (column : Column). cell_view column other) (columns_closed stripe hashes table.columns) } in v) infos
    ∙ ap (λ (cs : List (Option CellView)). let v : StripeView = record { info = info_at table.infos other; cells = cs } in v) cells
