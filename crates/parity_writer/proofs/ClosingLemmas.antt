-- What is seen of a stripe that is closed, and what stays sound.
use Rattle.std.proofs.Common.{◌≡◌, ◌≢◌, inl, inr, ℕ, zero, suc, ◌<◌, List, [], ◌∷◌, length, map, get_or, Bool, if◌then◌else◌, Option, None, Some, refl, sym, ◌∙◌, ap, ap₂, subst, arith}
use Rattle.std.specs.List.{All, AllPairs}
use Rattle.std.specs.Option.{option_map}
use Rattle.std.proofs.lemmas.Bool.{cases_eq, eq-eqb, ne_eqb}
use Rattle.std.proofs.lemmas.List.{length-set}
use Rattle.block_hash.specs.declared.Digest16.{Digest16}
use Rattle.disk_model.specs.Files.{Files, parity_of}
use Rattle.file_table.specs.Cells.{CellView, StripeView, seen_with, cell_view, stripe_view, column_closed, columns_closed, closed_at}
use Rattle.file_table.specs.Table.{Column, TableValue}
use Rattle.file_table.specs.declared.info.Info.{Info}
use Rattle.file_table.specs.declared.shape.Shape.{Shape}
use Rattle.parity_writer.specs.Closing.{Closing, closed_by, snapshot_by, changed_behind, changed_by, closed_by_all, snapshot_by_all, changed_by_all, IsClosing}
use Rattle.parity_writer.specs.Parity.{Row, HasLevel}
use Rattle.parity_writer.proofs.CellsLemmas.{cells_of, one_more, row_has_cells, rows_by}
use Rattle.parity_writer.specs.Sound.{IsSynced, IsBlockAt, IsRowOf, Sound, Closed, last_row, newest, HasCells, closed_cells, closed_cell}

-- what file_table says of closing a stripe
abbrev pub LeavesTheOthers : Type 0
LeavesTheOthers = (table : TableValue) (stripe other : ℕ) (info : Info) (hashes : List (Option Digest16)) → other ≢ stripe → stripe_view (closed_at stripe hashes info table) other ≡ stripe_view table other

abbrev pub GivesItsHashes : Type 0
GivesItsHashes = (column : Column) (stripe : ℕ) (hash : Digest16) → cell_view (column_closed stripe (Some hash) column) stripe ≡ option_map (seen_with hash) (cell_view column stripe)

-- what a cell is seen as once it is given a hash, or none
abbrev pub view_with : Option Digest16 → Option CellView → Option CellView
view_with None seen = seen
view_with (Some hash) seen = option_map (seen_with hash) seen

abbrev pub views_with : List (Option Digest16) → List (Option CellView) → List (Option CellView)
views_with hashes [] = []
views_with [] (seen ∷ views) = seen ∷ views
views_with (hash ∷ hashes) (seen ∷ views) = view_with hash seen ∷ views_with hashes views

-- what is seen at a stripe of columns
abbrev pub views_at : ℕ → List Column → List (Option CellView)
views_at stripe columns = map (λ (column : Column). cell_view column stripe) columns

pub length-views_with : (hashes : List (Option Digest16)) (views : List (Option CellView)) → length (views_with hashes views) ≡ length views
length-views_with hashes [] = refl
length-views_with [] (seen ∷ views) = refl
length-views_with (hash ∷ hashes) (seen ∷ views) = ap (λ (n : ℕ). suc n) (length-views_with hashes views)

-- each view with the hash that it is given
pub view_in : (hashes : List (Option Digest16)) (views : List (Option CellView)) (d : ℕ) → get_or (views_with hashes views) d None ≡ view_with (get_or hashes d None) (get_or views d None)
view_in [] [] d = refl
view_in (None ∷ hashes) [] zero = refl
view_in (Some hash ∷ hashes) [] zero = refl
view_in (hash ∷ hashes) [] (suc d) = view_in hashes [] d
view_in [] (seen ∷ views) d = refl
view_in (hash ∷ hashes) (seen ∷ views) zero = refl
view_in (hash ∷ hashes) (seen ∷ views) (suc d) = view_in hashes views d

module _ (gives : GivesItsHashes) where
  column_seen : (column : Column) (stripe : ℕ) (hash : Option Digest16) → cell_view (column_closed stripe hash column) stripe ≡ view_with hash (cell_view column stripe)
  column_seen column stripe None = refl
  column_seen column stripe (Some hash) = gives column stripe hash

  -- what is seen of the stripe that is closed
  pub closed_views : (stripe : ℕ) (hashes : List (Option Digest16)) (columns : List Column) → views_at stripe (columns_closed stripe hashes columns) ≡ views_with hashes (views_at stripe columns)
  closed_views stripe hashes [] = refl
  closed_views stripe [] (column ∷ columns) = refl
  closed_views stripe (hash ∷ hashes) (column ∷ columns) = ap₂ (λ (one : Option CellView) (more : List (Option CellView)). one ∷ more) (column_seen column stripe hash) (closed_views stripe hashes columns)

-- the same row stands where the same cells are seen
pub same_row : (table : TableValue) (seen other : StripeView) (row : Row) → seen.cells ≡ other.cells → IsRowOf table.shape seen row → IsRowOf table.shape other row
same_row table seen other row same is = record {
  as_many = is.as_many ∙ ap length same;
  blocks = λ d below.
      subst (λ (cells : List (Option CellView)). IsBlockAt table.shape (get_or cells d None) (get_or row d [])) same
      (is.blocks d (subst (λ (cells : List (Option CellView)). d < length cells) (sym same) below));
}

module _ (leaves : LeavesTheOthers) where
  module _ (closing : Closing) (table : TableValue) (stripe : ℕ) where
    -- another stripe is synced as before
    was_synced : stripe ≢ closing.stripe → IsSynced (closed_by closing table) stripe → IsSynced table stripe
    was_synced other synced = record {
      within = omega (arith, synced.within, length-set table.infos closing.stripe closing.info);
      mark = sym (ap (λ (seen : StripeView). seen.info.mark) (leaves table closing.stripe stripe closing.info closing.hashes other)) ∙ synced.mark;
    }

    here : (snapshot : Closed) → stripe ≡ closing.stripe → last_row (snapshot_by closing snapshot) stripe ≡ closing.row
    here snapshot same = ap (λ (b : Bool). newest (if b then closing.row ∷ snapshot stripe else snapshot stripe)) (eq-eqb stripe closing.stripe same)

    there : (snapshot : Closed) → stripe ≢ closing.stripe → last_row (snapshot_by closing snapshot) stripe ≡ last_row snapshot stripe
    there snapshot other = ap (λ (b : Bool). newest (if b then closing.row ∷ snapshot stripe else snapshot stripe)) (ne_eqb stripe closing.stripe other)

    there_changed : (is_changed : ℕ → ℕ → Bool) (level : ℕ) → stripe ≢ closing.stripe → changed_by table.shape.levels closing is_changed stripe level ≡ is_changed stripe level
    there_changed is_changed level other = ap (λ (b : Bool). if b then changed_behind table.shape.levels is_changed stripe level else is_changed stripe level) (ne_eqb stripe closing.stripe other)

  -- one stripe is closed
  pub closed_sound : (closing : Closing) (table : TableValue) (files : Files) (snapshot : Closed) (is_changed : ℕ → ℕ → Bool) → Sound table files snapshot is_changed → IsClosing table closing
      → ((level : ℕ) → level < table.shape.levels → HasLevel table.shape.block_size level closing.stripe closing.row (parity_of files level))
      → Sound (closed_by closing table) files (snapshot_by closing snapshot) (changed_by table.shape.levels closing is_changed)
  closed_sound closing table files snapshot is_changed sound closes holds = record {
    was_closed = λ stripe synced. elim (cases_eq stripe closing.stripe) [
      | inl same ↦
          subst (λ (b : Bool). 0 < length (if b then closing.row ∷ snapshot stripe else snapshot stripe)) (sym (eq-eqb stripe closing.stripe same)) (one_more closing.row (snapshot stripe))
      | inr other ↦
          subst (λ (b : Bool). 0 < length (if b then closing.row ∷ snapshot stripe else snapshot stripe)) (sym (ne_eqb stripe closing.stripe other))
          (sound.was_closed stripe (was_synced closing table stripe other synced))
    ];
    rows = rows_by (closed_by closing table) (snapshot_by closing snapshot) (λ stripe synced. elim (cases_eq stripe closing.stripe) [
      | inl same ↦
          subst (λ (row : Row). HasCells table.shape (closed_cells (closed_by closing table) stripe) row) (sym (here closing table stripe snapshot same))
          (subst (λ (at : ℕ). HasCells table.shape (closed_cells (closed_by closing table) at) closing.row) (sym same)
          (row_has_cells table.shape (stripe_view (closed_by closing table) closing.stripe) closing.row closes))
      | inr other ↦
          subst (λ (row : Row). HasCells table.shape (closed_cells (closed_by closing table) stripe) row) (sym (there closing table stripe snapshot other))
          (subst (λ (seen : StripeView). HasCells table.shape (map (closed_cell table.shape) seen.cells) (last_row snapshot stripe)) (sym (leaves table closing.stripe stripe closing.info closing.hashes other))
          (cells_of table files snapshot is_changed sound stripe (was_synced closing table stripe other synced)))
    ]);
    sums = λ stripe level synced below unchanged. elim (cases_eq stripe closing.stripe) [
      | inl same ↦
          subst (λ (row : Row). HasLevel table.shape.block_size level stripe row (parity_of files level)) (sym (here closing table stripe snapshot same))
          (subst (λ (at : ℕ). HasLevel table.shape.block_size level at closing.row (parity_of files level)) (sym same) (holds level below))
      | inr other ↦
          subst (λ (row : Row). HasLevel table.shape.block_size level stripe row (parity_of files level)) (sym (there closing table stripe snapshot other))
          (sound.sums stripe level (was_synced closing table stripe other synced) below (sym (there_changed closing table stripe is_changed level other) ∙ unchanged))
    ];
  }

  module _ (gives : GivesItsHashes) where
    -- a stripe that is still to be closed, after another one was
    still_closing : (first closing : Closing) (table : TableValue) → closing.stripe ≢ first.stripe → IsClosing table closing → IsClosing (closed_by first table) closing
    still_closing first closing table other closes =
        let before : views_at closing.stripe (columns_closed first.stripe first.hashes table.columns) ≡ views_at closing.stripe table.columns = ap (λ (seen : StripeView). seen.cells) (leaves table first.stripe closing.stripe first.info first.hashes other) in
        let one = closed_views gives closing.stripe closing.hashes table.columns in
        let two = closed_views gives closing.stripe closing.hashes (columns_closed first.stripe first.hashes table.columns) in
        same_row table (stripe_view (closed_by closing table) closing.stripe) (stripe_view (closed_by closing (closed_by first table)) closing.stripe) closing.row
        (one ∙ ap (views_with closing.hashes) (sym before) ∙ sym two) closes

    -- stripes are closed one after another
    pub all_closed_sound : (closings : List Closing) (table : TableValue) (files : Files) (snapshot : Closed) (is_changed : ℕ → ℕ → Bool) → AllPairs (λ (a b : Closing). a.stripe ≢ b.stripe) closings
        → All (IsClosing table) closings
        → All (λ (closing : Closing). (level : ℕ) → level < table.shape.levels → HasLevel table.shape.block_size level closing.stripe closing.row (parity_of files level)) closings
        → Sound table files snapshot is_changed
        → Sound (closed_by_all closings table) files (snapshot_by_all closings snapshot) (changed_by_all table.shape.levels closings is_changed)
    all_closed_sound [] table files snapshot is_changed once close hold sound = sound
    all_closed_sound (closing ∷ closings) table files snapshot is_changed once close hold sound =
        all_closed_sound closings (closed_by closing table) files (snapshot_by closing snapshot) (changed_by table.shape.levels closing is_changed)
        (λ i j d less below. once (suc i) (suc j) d (omega (arith, less)) (omega (arith, below)))
        (λ k d below. still_closing closing (get_or closings k d) table (λ same. once 0 (suc k) d (omega arith) (omega (arith, below)) (sym same)) (close (suc k) d (omega (arith, below))))
        (λ k d below. hold (suc k) d (omega (arith, below)))
        (closed_sound closing table files snapshot is_changed sound (close 0 closing (omega arith)) (hold 0 closing (omega arith)))

-- fewer stripes are synced, and those as before
pub fewer_synced_sound : (table other : TableValue) (files : Files) (snapshot : Closed) (is_changed : ℕ → ℕ → Bool) → Sound table files snapshot is_changed → other.shape ≡ table.shape
    → ((stripe : ℕ) → IsSynced other stripe → IsSynced table stripe × ((stripe_view other stripe).cells ≡ (stripe_view table stripe).cells)) → Sound other files snapshot is_changed
fewer_synced_sound table other files snapshot is_changed sound same_shape were = record {
  was_closed = λ stripe synced. sound.was_closed stripe (were stripe synced).0;
  rows = rows_by other snapshot (λ stripe synced.
      let was = were stripe synced in
      subst (λ (shape : Shape). HasCells shape (map (closed_cell shape) (stripe_view other stripe).cells) (last_row snapshot stripe)) (sym same_shape)
      (subst (λ (cells : List (Option CellView)). HasCells table.shape (map (closed_cell table.shape) cells) (last_row snapshot stripe)) (sym was.1)
      (cells_of table files snapshot is_changed sound stripe was.0)));
  sums = λ stripe level synced below unchanged.
      subst (λ (shape : Shape). HasLevel shape.block_size level stripe (last_row snapshot stripe) (parity_of files level)) (sym same_shape)
      (sound.sums stripe level (were stripe synced).0 (omega (arith, below, ap (λ (shape : Shape). shape.levels) same_shape)) unchanged);
}
