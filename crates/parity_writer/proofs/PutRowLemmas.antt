-- The rows of a window into which a block was put.
use Rattle.std.proofs.Common.{◌≡◌, ◌≢◌, ℕ, ◌<◌, ◌≤◌, List, [], length, set, sym, ◌∙◌, ap}
use Rattle.std.proofs.lemmas.List.{get_or-map, get_or-set_other, get_or-set_same, map-set, set-get_or}
use Rattle.stripe_reader.specs.Slot.{slot_given}
use Rattle.stripe_reader.specs.SlotValue.{SlotValue}
use Rattle.stripe_reader.specs.WindowValue.{WindowValue, lane_at, no_slot, slot_at, window_given}
use Rattle.parity_writer.specs.WindowRow.{bytes_of, bytes_in, row_at}
use Rattle.parity_writer.proofs.ReadRowLemmas.{whole_bytes}

module _ (window : WindowValue) (i d : ℕ) (bytes : List ℕ) (column : d < length window.lanes) where
  abbrev lane : List SlotValue
  lane = lane_at window d

  abbrev slot : SlotValue
  slot = slot_given window.block_size bytes (slot_at window i d)

  pub put_row : i < length lane → length bytes ≤ window.block_size → row_at (window_given window i d bytes) i ≡ set (row_at window i) d bytes
  put_row there few =
      map-set (bytes_in i) window.lanes d (set lane i slot)
      ∙ ap (set (row_at window i) d) (ap bytes_of (get_or-set_same lane i slot no_slot there) ∙ whole_bytes bytes window.block_size few)

  pub other_rows : (k : ℕ) → k ≢ i → row_at (window_given window i d bytes) k ≡ row_at window k
  other_rows k other =
      map-set (bytes_in k) window.lanes d (set lane i slot)
      ∙ ap (set (row_at window k) d) (ap bytes_of (get_or-set_other lane i k slot no_slot other) ∙ sym (get_or-map (bytes_in k) window.lanes d [] [] column))
      ∙ set-get_or (row_at window k) d []
