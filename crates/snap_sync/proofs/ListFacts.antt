-- Lists made by a function of each element, and lists of which some elements are kept.
use Rattle.std.proofs.Common.{◌≡◌, ℕ, zero, suc, ◌+◌, ◌<◌, List, [], ◌∷◌, ◌++◌, length, map, take, min, get_or, Bool, true, false, not, if◌then◌else◌, refl, sym, ap, ◌∙◌, subst, arith}
use Rattle.std.specs.List.{All, Contains, filter, flat_map, list_all, count_by}
use Rattle.std.proofs.lemmas.Bool.{and_from, and_parts}
use Rattle.std.proofs.lemmas.List.Elements.{All-cons, All-nil}
use Rattle.std.proofs.lemmas.List.Filters.{length-filter_both}
use Rattle.std.proofs.lemmas.List.Sums.{length-filter}
use Rattle.std.proofs.lemmas.List.{get_or_append_left, get_or-append-add, get_or-take, length-append, length-take}

-- an element of the first or of the second of two lists is one of both
pub contains_left : {X : Type 0} (xs ys : List X) (x : X) → Contains xs x → Contains (xs ++ ys) x
contains_left {X} xs ys x has =
    let long : length (xs ++ ys) ≡ length xs + length ys = length-append xs ys in
    (has.0, omega (arith, has.1, long), get_or_append_left xs ys x has.0 has.1 ∙ has.2)

pub contains_right : {X : Type 0} (xs ys : List X) (x : X) → Contains ys x → Contains (xs ++ ys) x
contains_right {X} xs ys x has =
    let long : length (xs ++ ys) ≡ length xs + length ys = length-append xs ys in
    (length xs + has.0, omega (arith, has.1, long), get_or-append-add xs ys has.0 x ∙ has.2)

-- of lists joined nothing is left just where each is empty
module _ {X A : Type 0} (p : X → Bool) (f : X → List A) where
  pub none_joined : ((x : X) → p x ≡ true → f x ≡ []) → (xs : List X) → list_all p xs ≡ true → flat_map f xs ≡ []
  none_joined none [] all = refl
  none_joined none (x ∷ xs) all =
      let both = and_parts (p x) (list_all p xs) all in
      ap (λ (front : List A). front ++ flat_map f xs) (none x both.0) ∙ none_joined none xs both.1

  nil_parts : (xs ys : List A) → xs ++ ys ≡ [] → (xs ≡ []) × (ys ≡ [])
  nil_parts [] ys is = (refl, is)
  nil_parts (x ∷ xs) ys is = cc

  pub all_where_none : ((x : X) → f x ≡ [] → p x ≡ true) → (xs : List X) → flat_map f xs ≡ [] → list_all p xs ≡ true
  all_where_none right [] is = refl
  all_where_none right (x ∷ xs) is =
      let both = nil_parts (f x) (flat_map f xs) is in
      and_from (p x) (list_all p xs) (right x both.0) (all_where_none right xs both.1)

-- an element of what is made of one of a list
pub contains_joined : {X A : Type 0} (f : X → List A) (xs : List X) (i : ℕ) (d : X) (a : A) → i < length xs → Contains (f (get_or xs i d)) a → Contains (flat_map f xs) a
contains_joined f [] i d a within has = absurd (omega arith)
contains_joined f (x ∷ xs) zero d a within has = contains_left (f x) (flat_map f xs) a has
contains_joined f (x ∷ xs) (suc i) d a within has = contains_right (f x) (flat_map f xs) a (contains_joined f xs i d a (omega arith) has)

-- what passes and what does not are all
pub count_others : {X : Type 0} (p : X → Bool) (xs : List X) → count_by p xs + count_by (λ x. not (p x)) xs ≡ length xs
count_others {X} p xs =
    let q : X → Bool = λ x. not (p x) in
    let both : length (filter p xs) + length (filter q xs) ≡ length xs = length-filter_both p q (λ x. refl) xs in
    let one : length (filter p xs) ≡ count_by p xs = length-filter p xs in
    let other : length (filter q xs) ≡ count_by q xs = length-filter q xs in
    omega (arith, both, one, other)

-- a list of which each element passes is kept whole
pub filter_all : {X : Type 0} (p : X → Bool) (xs : List X) → All (λ x. p x ≡ true) xs → filter p xs ≡ xs
filter_all p [] all = refl
filter_all {X} p (x ∷ xs) all =
    ap (λ (b : Bool). if b then x ∷ filter p xs else filter p xs) (all 0 x (omega arith))
    ∙ ap (λ (ys : List X). x ∷ ys) (filter_all p xs (λ k d within. all (suc k) d (omega arith)))

-- Elements that are made again by what they give: those that pass are so too.
pub kept_made : {X Y : Type 0} (p : X → Bool) (f : Y → X) (g : X → Y) (xs : List X) → All (λ x. p x ≡ true → x ≡ f (g x)) xs → filter p xs ≡ map f (map g (filter p xs))
kept_made p f g [] made = refl
kept_made {X} {Y} p f g (x ∷ xs) made = by_case (p x) refl (made 0 x (omega arith)) (kept_made p f g xs (λ k d within. made (suc k) d (omega arith)))
  where
    by_case : (b : Bool) → p x ≡ b → (p x ≡ true → x ≡ f (g x)) → filter p xs ≡ map f (map g (filter p xs)) → filter p (x ∷ xs) ≡ map f (map g (filter p (x ∷ xs)))
    by_case true is here rest = rw is (ap (λ (y : X). y ∷ filter p xs) (here is) ∙ ap (λ (ys : List X). f (g x) ∷ ys) rest)
    by_case false is here rest = rw is rest

-- what passes is among all, and passes
pub kept_among : {X Y : Type 0} (p : X → Bool) (g : X → Y) (xs : List X) → All (Contains (map g xs)) (map g (filter p xs))
kept_among p g [] = All-nil (Contains [])
kept_among {X} {Y} p g (x ∷ xs) = by_case (p x) refl (λ k d within. one_more (get_or (map g (filter p xs)) k d) (kept_among p g xs k d within))
  where
    one_more : (y : Y) → Contains (map g xs) y → Contains (g x ∷ map g xs) y
    one_more y has = (suc has.0, omega (arith, has.1), has.2)

    by_case : (b : Bool) → p x ≡ b → All (Contains (g x ∷ map g xs)) (map g (filter p xs)) → All (Contains (g x ∷ map g xs)) (map g (filter p (x ∷ xs)))
    by_case true is rest = rw is (All-cons (Contains (g x ∷ map g xs)) (g x) (map g (filter p xs)) (0, omega arith, refl) rest)
    by_case false is rest = rw is rest

pub kept_pass : {X : Type 0} (p : X → Bool) (P : X → Type 0) (xs : List X) → All (λ x. p x ≡ true → P x) xs → All P (filter p xs)
kept_pass p P [] each = All-nil P
kept_pass {X} p P (x ∷ xs) each = by_case (p x) refl (each 0 x (omega arith)) (kept_pass p P xs (λ k d within. each (suc k) d (omega arith)))
  where
    by_case : (b : Bool) → p x ≡ b → (p x ≡ true → P x) → All P (filter p xs) → All P (filter p (x ∷ xs))
    by_case true is here rest = rw is (All-cons P x (filter p xs) (here is) rest)
    by_case false is here rest = rw is rest

-- what holds of what each element gives
pub All-through : {X Y : Type 0} (g : X → Y) (P : Y → Type 0) (xs : List X) → All (λ x. P (g x)) xs → All P (map g xs)
All-through g P [] each = All-nil P
All-through g P (x ∷ xs) each = All-cons P (g x) (map g xs) (each 0 x (omega arith)) (All-through g P xs (λ k d within. each (suc k) d (omega arith)))

-- one that passes counts
some_kept : {X : Type 0} (p : X → Bool) (xs : List X) (i : ℕ) (d : X) → i < length xs → p (get_or xs i d) ≡ true → 0 < length (filter p xs)
some_kept p [] i d within is = absurd (omega arith)
some_kept {X} p (x ∷ xs) zero d within is = rw is (omega arith)
some_kept {X} p (x ∷ xs) (suc i) d within is = by_case (p x) refl (some_kept p xs i d (omega arith) is)
  where
    by_case : (b : Bool) → p x ≡ b → 0 < length (filter p xs) → 0 < length (filter p (x ∷ xs))
    by_case true here rest = rw here (omega arith)
    by_case false here rest = rw here rest

pub count_some : {X : Type 0} (p : X → Bool) (xs : List X) (i : ℕ) (d : X) → i < length xs → p (get_or xs i d) ≡ true → 0 < count_by p xs
count_some p xs i d within is = let some : 0 < length (filter p xs) = some_kept p xs i d within is in let same : length (filter p xs) ≡ count_by p xs = length-filter p xs in omega (arith, some, same)

-- what holds of each of a list, holds of the first so many of it
pub All-take : {X : Type 0} (P : X → Type 0) (n : ℕ) (xs : List X) → All P xs → All P (take n xs)
All-take P n xs each k d within =
    let long : length (take n xs) ≡ min n (length xs) = length-take n xs in
    subst P (sym (get_or-take n xs k d (omega (arith, within, long)))) (each k d (omega (arith, within, long)))

pub All-left : {X : Type 0} (P : X → Type 0) (xs ys : List X) → All P (xs ++ ys) → All P xs
All-left P xs ys each k d within = let long : length (xs ++ ys) ≡ length xs + length ys = length-append xs ys in subst P (get_or_append_left xs ys d k within) (each k d (omega (arith, within, long)))

pub All-first : {X : Type 0} (P : X → Type 0) (all xs ys : List X) (n : ℕ) → all ≡ xs ++ ys → All P all → All P (take n xs)
All-first {X} P all xs ys n is each = All-take P n xs (All-left P xs ys (subst (All P) is each))

pub contains_first : {X : Type 0} (xs : List X) (n : ℕ) (x : X) → Contains (take n xs) x → Contains xs x
contains_first xs n x has =
    let long : length (take n xs) ≡ min n (length xs) = length-take n xs in
    (has.0, omega (arith, has.1, long), sym (get_or-take n xs has.0 x (omega (arith, has.1, long))) ∙ has.2)

-- ---- filters

pub filter-map : {X Y : Type 0} (p : Y → Bool) (f : X → Y) (xs : List X) → filter p (map f xs) ≡ map f (filter (λ x. p (f x)) xs)
filter-map p f [] = refl
filter-map {X} {Y} p f (x ∷ xs) = by_case (p (f x)) refl (filter-map p f xs)
  where
    by_case : (b : Bool) → p (f x) ≡ b → filter p (map f xs) ≡ map f (filter (λ y. p (f y)) xs) → filter p (map f (x ∷ xs)) ≡ map f (filter (λ y. p (f y)) (x ∷ xs))
    by_case true is rest = rw is (ap (λ (zs : List Y). f x ∷ zs) rest)
    by_case false is rest = rw is rest

pub filter_same : {X : Type 0} (p q : X → Bool) (xs : List X) → All (λ x. p x ≡ q x) xs → filter p xs ≡ filter q xs
filter_same p q [] same = refl
filter_same {X} p q (x ∷ xs) same =
    ap (λ (b : Bool). if b then x ∷ filter p xs else filter p xs) (same 0 x (omega arith))
    ∙ ap (λ (ys : List X). if q x then x ∷ ys else ys) (filter_same p q xs (λ k d within. same (suc k) d (omega arith)))

pub filter_none : {X : Type 0} (p : X → Bool) (xs : List X) → All (λ x. p x ≡ false) xs → filter p xs ≡ []
filter_none p [] none = refl
filter_none {X} p (x ∷ xs) none =
    ap (λ (b : Bool). if b then x ∷ filter p xs else filter p xs) (none 0 x (omega arith)) ∙ filter_none p xs (λ k d within. none (suc k) d (omega arith))

-- what passes the narrower of two passes both
pub filter_within : {X : Type 0} (p q : X → Bool) (xs : List X) → ((x : X) → p x ≡ true → q x ≡ true) → filter p xs ≡ filter p (filter q xs)
filter_within p q [] wider = refl
filter_within {X} p q (x ∷ xs) wider = by_case (q x) refl (p x) refl (filter_within p q xs wider)
  where
    by_case : (a : Bool) → q x ≡ a → (b : Bool) → p x ≡ b → filter p xs ≡ filter p (filter q xs) → filter p (x ∷ xs) ≡ filter p (filter q (x ∷ xs))
    by_case true q_is true p_is rest = rw q_is (rw p_is (ap (λ (ys : List X). x ∷ ys) rest))
    by_case true q_is false p_is rest = rw q_is (rw p_is rest)
    by_case false q_is true p_is rest = let both : q x ≡ true = wider x p_is in cc
    by_case false q_is false p_is rest = rw q_is (rw p_is rest)
