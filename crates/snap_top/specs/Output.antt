-- What a run printed that went to its end, and its status.
use Rattle.std.specs.Prelude.{◌≡◌, ◌↔◌, ◌⊎◌, ℕ, ◌≤◌, Bool, false, IsTrue}

-- The status of a run that went to its end: 3 exactly where the output failed, 0 exactly where it did not and all is well, and else 1.
pub record IsEndStatus (status : ℕ) (output_failed : Bool) (IsWell : Type 0) : Type 0 where
  pub failed : (status ≡ 3) ↔ IsTrue output_failed
  pub clean : (status ≡ 0) ↔ ((output_failed ≡ false) × IsWell)
  pub only : (status ≤ 1) ⊎ (status ≡ 3)
