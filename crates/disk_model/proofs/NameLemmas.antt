-- What the tests of a disk's name say together.
use Rattle.std.proofs.Common.{◌≡◌, ◌≢◌, ℕ, ◌≤◌, ◌==◌, ◌↔◌, List, length, Bool, true, false, IsTrue, arith, subst, sym, ◌∙◌}
use Rattle.std.specs.List.{list_all, Contains}
use Rattle.std.proofs.lemmas.Bool.{eqb-false}
use Rattle.disk_model.specs.Name.{IsName, is_name_byte, level_names}

-- a text that is neither empty nor too long nor a level's name is a name exactly where its bytes are allowed
pub IsName-tests : (name bytes : List ℕ) (empty level all : Bool) → bytes ≡ name
    → empty ≡ (length bytes == 0) → empty ≡ false → length bytes ≤ 64
    → (IsTrue level ↔ Contains level_names bytes) → level ≡ false → all ≡ list_all is_name_byte bytes
    → (IsTrue all ↔ IsName name)
IsName-tests name bytes empty level all same empty_is some short level_is no_level all_is =
    let other : length bytes ≢ 0 = eqb-false (length bytes) 0 (sym empty_is ∙ some) in
    let long : 1 ≤ length bytes = omega arith in
    let free : ¬ (Contains level_names bytes) = λ held. let there : level ≡ true = level_is.1 held in cc in (
      λ (is : IsTrue all). subst IsName same (record { some = long; short = short; bytes = sym all_is ∙ is; no_level = free }),
      λ (is : IsName name). all_is ∙ (subst IsName (sym same) is).bytes,
    )
