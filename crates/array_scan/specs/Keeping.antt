-- What a layout keeps of the stripes of the table that it was laid out over.
use Rattle.std.specs.Prelude.{◌≡◌, ℕ, ◌<◌, length, slice_index_or, Option, None, Some}
use Rattle.file_table.specs.Cells.{CellView, stripe_view}
use Rattle.file_table.specs.Table.{TableValue, info_at}
use Rattle.file_table.specs.declared.info.Mark.TheVariants.{Synced}

-- a stripe of the table that is marked synced
pub record IsMarkedSynced (table : TableValue) (stripe : ℕ) : Type 0 where
  pub within : stripe < length table.infos
  pub mark : (info_at table.infos stripe).mark ≡ Synced

-- there is no block, or one of the same length and hash
abbrev pub SameBlock : Option CellView → Option CellView → Type 0
SameBlock None None = Unit {0}
SameBlock None (Some old) = ⊥
SameBlock (Some new) None = ⊥
SameBlock (Some new) (Some old) = (new.meta.size ≡ old.meta.size) × (new.index ≡ old.index) × (new.hash ≡ old.hash)

-- Each stripe that a table calls synced another calls synced too, with blocks of the same lengths and hashes.
pub record KeepsStripes (new old : TableValue) : Type 0 where
  pub shape : new.shape ≡ old.shape
  pub columns : length new.columns ≡ length old.columns
  pub synced : (stripe : ℕ) → IsMarkedSynced new stripe → IsMarkedSynced old stripe
  pub blocks : (stripe d : ℕ) → IsMarkedSynced new stripe → d < length new.columns →
      SameBlock (slice_index_or (stripe_view new stripe).cells d None) (slice_index_or (stripe_view old stripe).cells d None)
