-- A block that is put into a slot of a window.
use Rattle.std.proofs.Common.{◌≡◌, ℕ, ◌<◌, List, length, get_or, set, sym, ◌∙◌, ap, subst, arith}
use Rattle.std.proofs.lemmas.List.{length-set}
use Rattle.std.proofs.lemmas.List.Elements.{All-set}
use Rattle.stripe_reader.specs.Slot.{slot_given}
use Rattle.stripe_reader.specs.SlotValue.{SlotValue}
use Rattle.stripe_reader.specs.WindowValue.{WindowValue, IsLane, IsWindow}
use Rattle.stripe_reader.proofs.ColumnLemmas.{length-resized}

module _ (window : WindowValue) (d i : ℕ) (lane other : List SlotValue) (is : IsWindow window) (column : d < length window.lanes) (stripe : i < window.count) (lane_is : lane ≡ get_or window.lanes d other) where
  its_lane : IsLane window.block_size window.room lane
  its_lane = subst (IsLane window.block_size window.room) (sym lane_is) (is.lanes d other column)

  pub slot_there : (held : List SlotValue) → held ≡ get_or window.lanes d other → i < length held
  slot_there held held_is = let same = ap length (held_is ∙ sym lane_is) in omega (arith, stripe, is.within, its_lane.as_many, same)

  -- a slot has a block of the window's size
  pub slot_size : (slot : SlotValue) → slot ≡ get_or lane i slot → length slot.block ≡ window.block_size
  slot_size slot slot_is = ap (λ (it : SlotValue). length it.block) slot_is ∙ its_lane.blocks i slot (omega (arith, stripe, is.within, its_lane.as_many))

  -- and so it has with another one in its place
  pub put_kept : (slot new : SlotValue) (bytes : List ℕ) → slot ≡ get_or lane i slot → new ≡ slot_given (length slot.block) bytes slot
      → IsWindow (record window { lanes = set window.lanes d (set lane i new) })
  put_kept slot new bytes slot_is new_is = record {
    within = is.within;
    lanes = All-set (IsLane window.block_size window.room) window.lanes d (set lane i new) (record {
      as_many = length-set lane i new ∙ its_lane.as_many;
      blocks = All-set (λ (it : SlotValue). length it.block ≡ window.block_size) lane i new
          (ap (λ (it : SlotValue). length it.block) new_is ∙ length-resized bytes (length slot.block) ∙ slot_size slot slot_is) its_lane.blocks;
    }) is.lanes;
    cells = record { as_many = is.cells.as_many ∙ sym (length-set window.lanes d (set lane i new)); each = is.cells.each };
  }
