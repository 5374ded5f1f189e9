-- The snapshot's row across all columns: it has the recorded hashes, and bytes and levels of the row.
use Rattle.std.proofs.Common.{◌≡◌, ℕ, ◌<◌, ◌≤◌, List, [], ◌∷◌, length, get_or, Bool, true, refl, sym, ◌∙◌, subst, arith}
use Rattle.std.proofs.lemmas.Bool.{and_parts}
use Rattle.std.proofs.lemmas.List.{length-map}
use Rattle.cauchy.specs.Matrix.{byte_of, parity_byte}
use Rattle.cauchy.specs.Recovery.{AreBytes}
use Rattle.disk_model.specs.Folder.{FolderView}
use Rattle.file_table.specs.Cells.{cell_view, stripe_view}
use Rattle.file_table.specs.Table.{Column, TableValue, info_at, is_synced_mark}
use Rattle.file_table.specs.Valid.{IsValid}
use Rattle.file_table.specs.declared.info.Mark.{Mark}
use Rattle.file_table.specs.declared.info.Mark.TheVariants.{Pending, Synced}
use Rattle.parity_writer.specs.Parity.{HasLevel, Row}
use Rattle.parity_writer.specs.Sound.{HasCells, IsRowOf, IsSynced, across, closed_cell, closed_cells}
use Rattle.parity_writer.specs.WindowRow.{bytes_of}
use Rattle.parity_writer.proofs.CellsLemmas.{across_bytes, across_cells, length-across}
use Rattle.stripe_reader.specs.Starts.{StartsValue}
use Rattle.stripe_examiner.specs.Facts.{StripeFacts, slot_of, wanted_in}
use Rattle.stripe_examiner.specs.Known.{AreFacts, whole_levels}
use Rattle.stripe_examiner.specs.Present.{ArePresent}
use Rattle.stripe_examiner.specs.Search.{wanted_at}
use Rattle.repair_scope.specs.Plan.{FixPlan, is_searched}
use Rattle.snap_fix.specs.Genuine.{HasGenuineFacts, IsBlockIn, IsGenuine, TellsIntactLevels}

-- facts of a stripe whose row of the snapshot has as many blocks as there are columns
pub record HasExactFacts (plan : FixPlan) (starts : StartsValue) (firsts : List FolderView) (snapshot : Row) (facts : StripeFacts) : Type 0 where
  pub valid : IsValid plan.table
  pub are : AreFacts plan facts
  pub searched : is_searched plan facts.stripe ≡ true
  pub present : ArePresent plan starts firsts (facts ∷ [])
  pub was : IsRowOf plan.table.shape (stripe_view plan.table facts.stripe) snapshot
  pub genuine : IsGenuine plan snapshot facts

-- what parity_writer says of a row that has the closed cells, and of rows with the same bytes
abbrev pub RowOfCells : Type 0
RowOfCells = (table : TableValue) (stripe : ℕ) (row : Row) → IsValid table → IsSynced table stripe → length row ≡ length table.columns → HasCells table.shape (closed_cells table stripe) row
    → IsRowOf table.shape (stripe_view table stripe) row

abbrev pub SameParity : Type 0
SameParity = (level block_size : ℕ) (one other : Row) → ((column p : ℕ) → byte_of one column p ≡ byte_of other column p) → (i : ℕ) → i < block_size → parity_byte level one i ≡ parity_byte level other i

synced_mark : (mark : Mark) → is_synced_mark mark ≡ true → mark ≡ Synced
synced_mark Pending is = absurd cc
synced_mark Synced is = refl

pub searched_is_synced : (plan : FixPlan) (facts : StripeFacts) → AreFacts plan facts → is_searched plan facts.stripe ≡ true → IsSynced plan.table facts.stripe
searched_is_synced plan facts are searched = record {
  within = are.within;
  mark = synced_mark (info_at plan.table.infos facts.stripe).mark (and_parts _ _ searched).0;
}

-- ---- a row with the closed cells, across all columns

module _ (plan : FixPlan) (facts : StripeFacts) (snapshot : Row) (was : HasCells plan.table.shape (closed_cells plan.table facts.stripe) snapshot) where
  abbrev columns : ℕ
  columns = length plan.table.columns

  abbrev wide : Row
  wide = across columns snapshot

  fits : length (closed_cells plan.table facts.stripe) ≤ columns
  fits =
      let views : length (stripe_view plan.table facts.stripe).cells ≡ columns = length-map plan.table.columns (λ (column : Column). cell_view column facts.stripe) in
      let cells : length (closed_cells plan.table facts.stripe) ≡ length (stripe_view plan.table facts.stripe).cells
      = length-map (stripe_view plan.table facts.stripe).cells (closed_cell plan.table.shape) in
      omega (arith, views, cells)

  pub wide_bytes : (d p : ℕ) → byte_of wide d p ≡ byte_of snapshot d p
  wide_bytes d p = across_bytes plan.table.shape (closed_cells plan.table facts.stripe) snapshot was columns fits d p

  pub wide_row : RowOfCells → IsValid plan.table → IsSynced plan.table facts.stripe → IsRowOf plan.table.shape (stripe_view plan.table facts.stripe) wide
  wide_row row_of valid synced =
      row_of plan.table facts.stripe wide valid synced (length-across columns snapshot) (across_cells plan.table.shape (closed_cells plan.table facts.stripe) snapshot was columns fits)

  pub wide_are_bytes : AreBytes snapshot → AreBytes wide
  wide_are_bytes bytes c p = subst (λ (x : ℕ). x < 256) (sym (wide_bytes c p)) (bytes c p)

  -- a block of that row is the snapshot's, and the other way round
  pub from_wide : (d : ℕ) (bytes : List ℕ) → IsBlockIn plan.table.shape.block_size wide d bytes → IsBlockIn plan.table.shape.block_size snapshot d bytes
  from_wide d bytes is p less = is p less ∙ wide_bytes d p

  in_wide : (d : ℕ) (bytes : List ℕ) → IsBlockIn plan.table.shape.block_size snapshot d bytes → IsBlockIn plan.table.shape.block_size wide d bytes
  in_wide d bytes is p less = is p less ∙ sym (wide_bytes d p)

  -- so no hash is met by chance for the one, where none is for the other
  pub wide_genuine : IsGenuine plan snapshot facts → IsGenuine plan wide facts
  wide_genuine genuine = record {
    present = λ d cell below seen gift. in_wide d (bytes_of (slot_of facts d)) (genuine.present d cell below seen gift);
    given = λ d cell bytes below seen gift is_gift. in_wide d bytes (genuine.given d cell bytes below seen gift is_gift);
    recovered = λ remainders are choice blocks one follows j within right p less.
        genuine.recovered remainders are choice blocks one follows j within right p less ∙ sym (wide_bytes (wanted_at (wanted_in plan facts) j).column p);
  }

  pub genuine_from_wide : IsGenuine plan wide facts → IsGenuine plan snapshot facts
  genuine_from_wide genuine = record {
    present = λ d cell below seen gift. from_wide d (bytes_of (slot_of facts d)) (genuine.present d cell below seen gift);
    given = λ d cell bytes below seen gift is_gift. from_wide d bytes (genuine.given d cell bytes below seen gift is_gift);
    recovered = λ remainders are choice blocks one follows j within right p less.
        genuine.recovered remainders are choice blocks one follows j within right p less ∙ wide_bytes (wanted_at (wanted_in plan facts) j).column p;
  }

  module _ (same : SameParity) where
    pub wide_parity : (level i : ℕ) → i < plan.table.shape.block_size → parity_byte level wide i ≡ parity_byte level snapshot i
    wide_parity level i below = same level plan.table.shape.block_size wide snapshot wide_bytes i below

    pub wide_tells : (is_intact : ℕ → Bool) → TellsIntactLevels plan facts snapshot is_intact → TellsIntactLevels plan facts wide is_intact
    wide_tells is_intact tells k other within =
        let told = tells k other within in
        let r : ℕ = get_or (whole_levels facts.levels) k other in
        (λ it p less. told.0 it p less ∙ sym (wide_parity r p less), λ intact. told.1 (λ p less. intact p less ∙ wide_parity r p less))

    -- it has the levels of the snapshot's
    pub level_from_wide : (level stripe : ℕ) (file : List ℕ) → HasLevel plan.table.shape.block_size level stripe wide file → HasLevel plan.table.shape.block_size level stripe snapshot file
    level_from_wide level stripe file is i below = let there = is i below in record { within = there.within; is = there.is ∙ wide_parity level i below }

    pub level_of_wide : (level stripe : ℕ) (file : List ℕ) → HasLevel plan.table.shape.block_size level stripe snapshot file → HasLevel plan.table.shape.block_size level stripe wide file
    level_of_wide level stripe file is i below = let there = is i below in record { within = there.within; is = there.is ∙ sym (wide_parity level i below) }

-- ---- the facts of a stripe by that row

pub exact : RowOfCells → (plan : FixPlan) (starts : StartsValue) (firsts : List FolderView) (snapshot : Row) (facts : StripeFacts) → HasGenuineFacts plan starts firsts snapshot facts
    → HasExactFacts plan starts firsts (across (length plan.table.columns) snapshot) facts
exact row_of plan starts firsts snapshot facts has = record {
  valid = has.valid;
  are = has.are;
  searched = has.searched;
  present = has.present;
  was = wide_row plan facts snapshot has.was row_of has.valid (searched_is_synced plan facts has.are has.searched);
  genuine = wide_genuine plan facts snapshot has.was has.genuine;
}
