-- The calls that give a level its length.
use Rattle.std.proofs.Common.{◌≡◌, ◌≢◌, ℕ, ◌==◌, Bool, List, [], ◌∷◌, length, if◌then◌else◌, ap}
use Rattle.std.proofs.lemmas.Bool.{eq-eqb, ne_eqb}
use Rattle.disk_model.specs.Files.{Files, parity_of}
use Rattle.disk_model.specs.Vault.{VaultCall, ParityLen, ParitySetLen}
use Rattle.parity_writer.specs.Calls.{level_calls}

abbrev by_test : ℕ → ℕ → Bool → List VaultCall
by_test bytes level is_right = ParityLen level ∷ (if is_right then [] else ParitySetLen level bytes ∷ [])

-- a length that is right stays
pub right_length : (bytes level : ℕ) (files : Files) → length (parity_of files level) ≡ bytes → level_calls bytes files level ≡ ParityLen level ∷ []
right_length bytes level files same = ap (by_test bytes level) (eq-eqb (length (parity_of files level)) bytes same)

-- another one is set
pub other_length : (bytes level : ℕ) (files : Files) → length (parity_of files level) ≢ bytes → level_calls bytes files level ≡ ParityLen level ∷ ParitySetLen level bytes ∷ []
other_length bytes level files differs = ap (by_test bytes level) (ne_eqb (length (parity_of files level)) bytes differs)

-- they depend on the level's bytes alone
pub same_level_calls : (bytes level : ℕ) (files others : Files) → parity_of files level ≡ parity_of others level → level_calls bytes files level ≡ level_calls bytes others level
same_level_calls bytes level files others same = ap (λ (xs : List ℕ). by_test bytes level (length xs == bytes)) same
