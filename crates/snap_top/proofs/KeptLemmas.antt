-- What is kept of a list is among it, and what passes is kept.
use Rattle.std.proofs.Common.{◌≡◌, zero, suc, List, [], ◌∷◌, map, Bool, true, false, if◌then◌else◌, refl, ap, ◌∙◌, arith}
use Rattle.std.specs.List.{Contains, filter}
use Rattle.std.proofs.lemmas.List.{get_or-map, length-map}

pub kept_in : {X : Type 0} (p : X → Bool) (xs : List X) (x : X) → Contains xs x → p x ≡ true → Contains (filter p xs) x
kept_in p [] x (k, within, same) is = absurd (omega (arith, within))
kept_in p (y ∷ ys) x (zero, within, same) is = let here : p y ≡ true = ap p same ∙ is in rw here (0, omega arith, same)
kept_in {X} p (y ∷ ys) x (suc k, within, same) is = by (p y) refl (kept_in p ys x (k, omega (arith, within), same) is)
  where
    by : (b : Bool) → p y ≡ b → Contains (filter p ys) x → Contains (filter p (y ∷ ys)) x
    by true here has = rw here (suc has.0, omega (arith, has.1), has.2)
    by false here has = rw here has

pub among_all : {X : Type 0} (p : X → Bool) (xs : List X) (x : X) → Contains (filter p xs) x → Contains xs x
among_all p [] x has = has
among_all {X} p (y ∷ ys) x has = by (p y) has (λ it. among_all p ys x it)
  where
    later : Contains ys x → Contains (y ∷ ys) x
    later it = (suc it.0, omega (arith, it.1), it.2)

    by : (b : Bool) → Contains (if b then y ∷ filter p ys else filter p ys) x → (Contains (filter p ys) x → Contains ys x) → Contains (y ∷ ys) x
    by true (zero, within, same) rest = (0, omega arith, same)
    by true (suc k, within, same) rest = later (rest (k, omega (arith, within), same))
    by false it rest = later (rest it)

-- what is made of an element is among what is made of all
pub made_in : {X Y : Type 0} (g : X → Y) (xs : List X) (x : X) → Contains xs x → Contains (map g xs) (g x)
made_in g xs x (k, within, same) = let long = length-map xs g in (k, omega (arith, within, long), get_or-map g xs k x (g x) within ∙ ap g same)
