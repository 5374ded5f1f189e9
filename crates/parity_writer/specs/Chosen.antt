-- The chosen stripes of a window, and what is written of them.
use Rattle.std.specs.Prelude.{◌≡◌, ℕ, zero, suc, ◌<◌, List, [], length, Bool, true, false, get_or, if◌then◌else◌}
use Rattle.std.specs.List.{range_with_len, flat_map}
use Rattle.disk_model.specs.Vault.{VaultCall}
use Rattle.stripe_reader.specs.WindowValue.{WindowValue}
use Rattle.parity_writer.specs.Calls.{sum_calls}
use Rattle.parity_writer.specs.Parity.{Rows, with_row}
use Rattle.parity_writer.specs.WindowRow.{row_at}

-- which stripes a window was read for, and which of them are chosen
pub record Choice : Type 0 where
  pub stripes : List ℕ
  pub chosen : List Bool

-- the stripe of a number, and whether it is chosen
abbrev pub stripe_in : Choice → ℕ → ℕ
stripe_in choice i = get_or choice.stripes i 0

abbrev pub is_chosen : Choice → ℕ → Bool
is_chosen choice i = get_or choice.chosen i false

-- one of the chosen stripes
pub record IsChosen (choice : Choice) (stripe : ℕ) : Type 0 where
  pub i : ℕ
  pub within : i < length choice.stripes
  pub stripe_is : stripe_in choice i ≡ stripe
  pub chosen : is_chosen choice i ≡ true

-- the writes of the levels of the stripe of a number: none where it is not chosen
abbrev pub choice_calls : ℕ → WindowValue → Choice → ℕ → List VaultCall
choice_calls levels window choice i =
    if is_chosen choice i then sum_calls levels window.block_size (stripe_in choice i) (row_at window i) else []

-- of the first so many stripes, one after another
abbrev pub window_calls : ℕ → WindowValue → Choice → ℕ → List VaultCall
window_calls levels window choice count = flat_map (choice_calls levels window choice) (range_with_len 0 count)

-- the rows with those of the chosen stripes among the first so many of a window
abbrev pub rows_with : WindowValue → Choice → ℕ → Rows → Rows
rows_with window choice zero rows = rows
rows_with window choice (suc i) rows =
    if is_chosen choice i then with_row (stripe_in choice i) (row_at window i) (rows_with window choice i rows)
    else rows_with window choice i rows
