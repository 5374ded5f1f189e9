-- What is known of a stripe that was looked at: what was read of its cells, which of them are damaged, what the spare gave, what the
-- levels hold, and its row, where it is known.
use Rattle.std.specs.Prelude.{◌≡◌, ℕ, ◌&&◌, not, List, [], length, filter, get_or, map, slice_index_or, is_some, Bool, true, false, if◌then◌else◌, Option, None, Some}
use Rattle.std.specs.List.{range_with_len}
use Rattle.block_hash.specs.declared.Digest16.{Digest16}
use Rattle.block_hash.specs.declared.Kind.{Kind}
use Rattle.folder_listing.specs.Kept.{each_column}
use Rattle.file_table.specs.Cells.{CellView}
use Rattle.file_table.specs.declared.shape.Shape.{Shape}
use Rattle.parity_writer.specs.LevelsValue.{LevelValue}
use Rattle.parity_writer.specs.Parity.{Row}
use Rattle.parity_writer.specs.Sound.{real_length}
use Rattle.parity_writer.specs.WindowRow.{bytes_of}
use Rattle.stripe_reader.specs.Agreeing.{agrees, hashed}
use Rattle.stripe_reader.specs.SlotValue.{SlotValue}
use Rattle.stripe_reader.specs.WindowValue.{no_slot}
use Rattle.stripe_examiner.specs.declared.search.Wanted.{Wanted}
use Rattle.repair_scope.specs.Plan.{FixPlan, seen_at, is_searched, is_synced}

-- The stripe, what was read of its cells, what the spare gave, both column by column, what was read of its levels, and its
-- row: of each cell the bytes of its block, where all of them are known.
pub record StripeFacts : Type 0 where
  pub stripe : ℕ
  pub slots : List SlotValue
  pub gifts : List (Option (List ℕ))
  pub levels : List LevelValue
  pub row : Option Row

abbrev pub slot_of : StripeFacts → ℕ → SlotValue
slot_of facts d = slice_index_or facts.slots d no_slot

abbrev pub gift_of : StripeFacts → ℕ → Option (List ℕ)
gift_of facts d = get_or facts.gifts d None

-- a cell is damaged: its block did not come whole, or it has another hash than the recorded one
abbrev pub is_damaged : Kind → Option CellView → SlotValue → Bool
is_damaged kind None slot = false
is_damaged kind (Some cell) slot = not (is_some slot.digest && agrees kind cell.hash slot)

abbrev pub damaged_at : FixPlan → StripeFacts → ℕ → Bool
damaged_at plan facts d = is_damaged plan.table.shape.kind (seen_at plan facts.stripe d) (slot_of facts d)

-- a cell is sought: the row that is searched for at its stripe has its block. Each cell of a synced stripe is; of a pending one no row is
-- searched for
abbrev pub is_sought : FixPlan → ℕ → ℕ → Bool
is_sought plan stripe d = is_synced plan stripe

-- a cell is asked of the spare: it is damaged and has a recorded hash, in a stripe whose damaged blocks are searched for
abbrev pub has_hash : Option CellView → Bool
has_hash None = false
has_hash (Some cell) = is_some cell.hash

abbrev pub is_asked : FixPlan → StripeFacts → ℕ → Bool
is_asked plan facts d =
    is_searched plan facts.stripe && damaged_at plan facts d && has_hash (seen_at plan facts.stripe d)

-- a cell is missing: it is damaged, and the spare did not give its block
abbrev pub is_missing : FixPlan → StripeFacts → ℕ → Bool
is_missing plan facts d = damaged_at plan facts d && not (is_some (gift_of facts d))

-- the missing cells, by their columns, and what is searched for: their real lengths and recorded hashes
abbrev pub missing_in : FixPlan → StripeFacts → List ℕ
missing_in plan facts = filter (is_missing plan facts) (range_with_len 0 (length plan.table.columns))

abbrev pub hash_or_none : Option Digest16 → Digest16
hash_or_none None = record { 0 = [] }
hash_or_none (Some recorded) = recorded

abbrev pub wanted_by : Shape → ℕ → Option CellView → Wanted
wanted_by shape d None = record { column = d; length = 0; hash = hash_or_none None }
wanted_by shape d (Some cell) = record { column = d; length = real_length shape cell; hash = hash_or_none cell.hash }

abbrev pub wanted_at : FixPlan → StripeFacts → ℕ → Wanted
wanted_at plan facts d = wanted_by plan.table.shape d (seen_at plan facts.stripe d)

abbrev pub wanted_in : FixPlan → StripeFacts → List Wanted
wanted_in plan facts = map (wanted_at plan facts) (missing_in plan facts)

-- the row as it is before the search: no bytes of a missing cell, what the spare gave, and what came of the others
abbrev pub gift_or : Option (List ℕ) → List ℕ → List ℕ
gift_or None bytes = bytes
gift_or (Some given) bytes = given

abbrev pub bytes_before : FixPlan → StripeFacts → ℕ → List ℕ
bytes_before plan facts d =
    if is_missing plan facts d then [] else gift_or (gift_of facts d) (bytes_of (slot_of facts d))

abbrev pub row_before : FixPlan → StripeFacts → Row
row_before plan facts = each_column (bytes_before plan facts) (length plan.table.columns)

-- What the spare gives is the block that was asked of it: its bytes have the real length and the recorded hash.
pub record IsGift (shape : Shape) (cell : CellView) (given : List ℕ) : Type 0 where
  pub long : length given ≡ real_length shape cell
  pub hash_is : cell.hash ≡ Some (hashed shape given)

abbrev pub IsGiftFor : Shape → Option CellView → Option (List ℕ) → Type 0
IsGiftFor shape cell None = Unit {0}
IsGiftFor shape None (Some given) = ⊥
IsGiftFor shape (Some cell) (Some given) = IsGift shape cell given

-- a gift is for a cell that was asked of the spare
pub record IsGiven (plan : FixPlan) (facts : StripeFacts) (d : ℕ) : Type 0 where
  pub is : IsGiftFor plan.table.shape (seen_at plan facts.stripe d) (gift_of facts d)
  pub asked : is_some (gift_of facts d) ≡ true → is_asked plan facts d ≡ true
