-- How a window is kept.
use Rattle.std.specs.Prelude.{◌≡◌, ℕ, ◌*◌, length}
use Rattle.stripe_reader.specs.declared.window.Window.TheInside.{Inside}
use Rattle.stripe_reader.specs.WindowValue.{WindowValue, IsWindow}

-- the window
abbrev pub window_of : Inside → WindowValue
window_of window = record { room = window.room; block_size = window.block_size; lanes = window.lanes.items; cells = window.cells.items; count = window.count }

-- a window with room for so many digests: one for each slot
pub record HasDigests (value : WindowValue) (count : ℕ) : Type 0 where
  pub window : IsWindow value
  pub digests : count ≡ length value.lanes * value.room

-- its lanes have room for what it says, and there is room for their digests
abbrev pub IsKept : Inside → Type 0
IsKept window = HasDigests (window_of window) (length window.digests.items)
