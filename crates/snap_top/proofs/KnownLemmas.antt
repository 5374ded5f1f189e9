-- Names that a configuration knows.
use Rattle.std.proofs.Common.{◌≡◌, ℕ, suc, ◌<◌, List, ◌∷◌, length, drop, get_or, false, Some, refl, sym, ap, ◌∙◌}
use Rattle.std.proofs.Math.Seq.{drop-cons}
use Rattle.std.proofs.lemmas.Option.{slice_get-get_or}
use Rattle.std.specs.Prelude.{slice_get}
use Rattle.array_setup.specs.Setup.{SetupValue}
use Rattle.snap_top.specs.Known.{first_unknown, is_known}

-- the first unknown one, by its first name
is_first : (setup : SetupValue) (name : List ℕ) (names : List (List ℕ)) → is_known setup name ≡ false → first_unknown setup (name ∷ names) ≡ Some name
is_first setup name names unknown = rw (unknown) refl

-- the name of a number is unknown
pub unknown_at : (setup : SetupValue) (names : List (List ℕ)) (i : ℕ) (d : List ℕ) → i < length names → is_known setup (get_or names i d) ≡ false → first_unknown setup (drop i names) ≡ slice_get names i
unknown_at setup names i d below unknown =
    ap (first_unknown setup) (drop-cons names i d below) ∙ is_first setup (get_or names i d) (drop (suc i) names) unknown ∙ sym (slice_get-get_or names i d below)
