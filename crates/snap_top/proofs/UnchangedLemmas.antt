-- What counts as changed from outside once stripes were closed.
use Rattle.std.proofs.Common.{◌≡◌, ℕ, ◌<◌, Bool, true, false, if◌then◌else◌, Option, None, Some, is_some, refl, ap}
use Rattle.std.specs.Prelude.{nat_lt}
use Rattle.std.proofs.lemmas.Bool.{lt-ltb}
use Rattle.parity_writer.specs.Closing.{changed_behind}
use Rattle.parity_writer.specs.Parity.{Row, Rows}
use Rattle.snap_sync.specs.Soundness.{changed_without}

-- what was not changed, is not without the first levels
pub behind_unchanged : (levels : ℕ) (is_changed : ℕ → ℕ → Bool) (stripe level : ℕ) → is_changed stripe level ≡ false → changed_behind levels is_changed stripe level ≡ false
behind_unchanged levels is_changed stripe level is = by (nat_lt level levels)
  where
    by : (below : Bool) → (if below then false else is_changed stripe level) ≡ false
    by true = refl
    by false = is

-- none of the first levels is
pub first_unchanged : (levels : ℕ) (is_changed : ℕ → ℕ → Bool) (stripe level : ℕ) → level < levels → changed_behind levels is_changed stripe level ≡ false
first_unchanged levels is_changed stripe level below = ap (λ (it : Bool). if it then false else is_changed stripe level) (lt-ltb level levels below)

-- what was not changed, is not once some stripes were closed
pub unchanged_without : (levels : ℕ) (rows : Rows) (is_changed : ℕ → ℕ → Bool) (stripe level : ℕ) → is_changed stripe level ≡ false → changed_without levels rows is_changed stripe level ≡ false
unchanged_without levels rows is_changed stripe level is = by (rows stripe)
  where
    by : (row : Option Row) → (if is_some row then changed_behind levels is_changed stripe level else is_changed stripe level) ≡ false
    by None = is
    by (Some row) = behind_unchanged levels is_changed stripe level is
