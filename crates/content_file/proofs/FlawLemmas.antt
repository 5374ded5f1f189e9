-- Steps of reading that tells flaws: what they found where all went well, and when all goes well.
use Rattle.std.proofs.Common.{◌≡◌, ℕ, Bool, true, false, List, Option, Some, None, refl, ap, ◌∙◌}
use Rattle.content_file.specs.Flaw.{Flaw, Read, Good, Bad, ◌>>=◌, and_then, found_or, passed_or}

value_or : {A : Type 0} → A → Read A → A
value_or d (Good x) = x
value_or d (Bad why field) = d

pub good_is : {A : Type 0} (x y : A) → Good x ≡ Good y → x ≡ y
unfolding value_or
good_is x y e = ap (value_or x) e

is_good : {A : Type 0} → Read A → Bool
is_good (Good x) = true
is_good (Bad why field) = false

pub not_bad : {A P : Type 0} (why : Flaw) (field : List ℕ) (x : A) → Bad why field ≡ Good x → P
unfolding is_good
not_bad why field x e = let no : false ≡ true = ap is_good e in absurd cc

-- the value of a step that went well
pub good_then : {A B P : Type 0} (r : Read A) (f : A → Read B) (y : B) → (r >>= f) ≡ Good y → ((x : A) → r ≡ Good x → f x ≡ Good y → P) → P
unfolding and_then
good_then (Good x) f y e go = go x refl e
good_then (Bad why field) f y e go = not_bad why field y e

pub found_is : {A : Type 0} (why : Flaw) (field : List ℕ) (o : Option A) (x : A) → found_or why field o ≡ Good x → o ≡ Some x
unfolding found_or
found_is why field (Some x) y e = ap (λ z. Some z) (good_is x y e)
found_is why field None y e = not_bad why field y e

pub passed_is : {A : Type 0} (why : Flaw) (field : List ℕ) (b : Bool) (x y : A) → passed_or why field b x ≡ Good y → (b ≡ true) × (x ≡ y)
unfolding passed_or
passed_is why field true x y e = (refl, good_is x y e)
passed_is why field false x y e = not_bad why field y e

-- a step that goes well, and then what follows
pub then_good : {A B : Type 0} (r : Read A) (f : A → Read B) (x : A) (y : B) → r ≡ Good x → f x ≡ Good y → (r >>= f) ≡ Good y
unfolding and_then
then_good r f x y e g = ap (λ s. s >>= f) e ∙ g

pub found_good : {A : Type 0} (why : Flaw) (field : List ℕ) (o : Option A) (x : A) → o ≡ Some x → found_or why field o ≡ Good x
unfolding found_or
found_good why field o x e = ap (found_or why field) e

pub passed_good : {A : Type 0} (why : Flaw) (field : List ℕ) (b : Bool) (x : A) → b ≡ true → passed_or why field b x ≡ Good x
unfolding passed_or
passed_good why field b x e = ap (λ t. passed_or why field t x) e
