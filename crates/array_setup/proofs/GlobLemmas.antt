-- How a pattern is walked: from one star to the next, and from one slash to the next.
use Rattle.std.proofs.Common.{◌≡◌, ℕ, zero, suc, ◌+◌, List, [], ◌∷◌, ◌++◌, length, drop, Bool, true, false, ◌==◌, ◌&&◌, ◌||◌, not, if◌then◌else◌, Option, None, Some, is_some, chars, IsUtf8, refl, sym, ap, ◌∙◌, arith, zero-add, suc-add}
use Rattle.std.proofs.lemmas.Bool.Decides.{nat_tests}
use Rattle.std.proofs.lemmas.List.{append-nil, drop-drop}
use Rattle.array_setup.proofs.TextLemmas.{has_byte-append, has_byte-chars, chars-cut_star}
use Rattle.array_setup.proofs.BoolLemmas.{and_assoc, and_false, and_or, and_swap, first_false, or_and, or_less, or_true, rest_false}
use Rattle.array_setup.specs.Glob.{star, stands_for, single, is_empty, fits, fits_text}
use Rattle.array_setup.specs.Pattern.{has_byte}
use Rattle.array_setup.specs.Walk.{IsCut, IsFirstOf, IsLastOf, strip, first_strip}

-- ---- one character of a pattern at a time

pub fits-nil : (name : List ℕ) → fits [] name ≡ is_empty name
unfolding fits
fits-nil name = refl

pub fits-star : (rest name : List ℕ) → fits (42 ∷ rest) name ≡ star (fits rest) name
unfolding fits
fits-star rest name = refl

pub fits-single : (p : ℕ) (rest name : List ℕ) → p == 42 ≡ false → fits (p ∷ rest) name ≡ single p (fits rest) name
unfolding fits
fits-single p rest name other = rw other refl

-- ---- what a part without a star takes off the front

-- where something is left, what a test says of it
abbrev pub left : Option (List ℕ) → (List ℕ → Bool) → Bool
left None test = false
left (Some rest) test = test rest

pub fits-strip : (part rest name : List ℕ) → has_byte 42 part ≡ false → fits (part ++ rest) name ≡ left (strip part name) (fits rest)
fits-strip [] rest name plain = refl
fits-strip (p ∷ part) rest [] plain = fits-single p (part ++ rest) [] (first_false _ _ plain)
fits-strip (p ∷ part) rest (c ∷ name) plain =
    fits-single p (part ++ rest) (c ∷ name) (first_false _ _ plain) ∙ cases (stands_for p c) (fits-strip part rest name (rest_false _ _ plain))
  where
    cases : (b : Bool) → fits (part ++ rest) name ≡ left (strip part name) (fits rest) → (b && fits (part ++ rest) name) ≡ left (if b then strip part name else None) (fits rest)
    cases true same = same
    cases false same = refl

-- of a choice that gave something, which one it was
chosen : (b : Bool) (o : Option (List ℕ)) (rest : List ℕ) → (if b then o else None) ≡ Some rest → o ≡ Some rest
chosen true o rest is = is
chosen false o rest is = absurd (cc)

strip-drop : (part name rest : List ℕ) → strip part name ≡ Some rest → rest ≡ drop (length part) name
strip-drop [] name rest is = cc
strip-drop (p ∷ part) [] rest is = absurd (cc)
strip-drop (p ∷ part) (c ∷ name) rest is = strip-drop part name rest (chosen (stands_for p c) _ rest is)

-- ---- from one star to the next

-- what is left at a later place is a tail of what is left at an earlier one
first_strip-drop : (part name rest : List ℕ) → first_strip part name ≡ Some rest → (k : ℕ) × (rest ≡ drop (k + length part) name)
first_strip-drop part [] rest is = (0, rw zero-add (strip-drop part [] rest is))
first_strip-drop part (c ∷ name) rest is = cases (strip part (c ∷ name)) (strip-drop part (c ∷ name)) (first_strip-drop part name) is
  where
    cases : (o : Option (List ℕ)) → ((x : List ℕ) → o ≡ Some x → x ≡ drop (length part) (c ∷ name)) → ((x : List ℕ) → first_strip part name ≡ Some x → (k : ℕ) × (x ≡ drop (k + length part) name))
        → (if is_some o then o else first_strip part name) ≡ Some rest → (k : ℕ) × (rest ≡ drop (k + length part) (c ∷ name))
    cases None here later same = let found = later rest same in (suc found.0, rw suc-add found.1)
    cases (Some x) here later same = (0, rw zero-add (here rest same))

plain-drop : (k : ℕ) (name : List ℕ) → has_byte 47 name ≡ false → has_byte 47 (drop k name) ≡ false
plain-drop zero name plain = plain
plain-drop (suc k) [] plain = plain
plain-drop (suc k) (c ∷ name) plain = plain-drop k name (rest_false _ _ plain)

-- a star that can take a front can give what a test says of a tail
star-drop : (test : List ℕ → Bool) (k : ℕ) (name : List ℕ) → has_byte 47 name ≡ false → star test (drop k name) ≡ true → star test name ≡ true
star-drop test zero name plain passes = passes
star-drop test (suc k) [] plain passes = passes
star-drop test (suc k) (c ∷ name) plain passes =
    let later : star test name ≡ true = star-drop test k name (rest_false _ _ plain) passes in
    let other : c == 47 ≡ false = first_false _ _ plain in
    rw (other, later) (or_true (test (c ∷ name)))

-- a star, a part without one and another star: the part is taken off at the first place where it can be
pub star-part : (part rest name : List ℕ) → has_byte 42 part ≡ false → has_byte 47 name ≡ false
    → star (fits (part ++ 42 ∷ rest)) name ≡ left (first_strip part name) (star (fits rest))
unfolding fits
star-part part rest [] plain none = fits-strip part (42 ∷ rest) [] plain
star-part part rest (c ∷ name) plain none =
    cases (strip part (c ∷ name)) (first_strip part name) (first_false (c == 47) (has_byte 47 name) none) (strip-drop part (c ∷ name)) (first_strip-drop part name)
    (fits-strip part (42 ∷ rest) (c ∷ name) plain) (star-part part rest name plain (rest_false _ _ none))
  where
    tail : (x y : List ℕ) (k : ℕ) → x ≡ drop (length part) (c ∷ name) → y ≡ drop (k + length part) name → y ≡ drop (suc k) x
    tail x y k is_x is_y = let same : suc (k + length part) ≡ length part + suc k = omega arith in rw (is_x, is_y, drop-drop) (ap (λ n. drop n (c ∷ name)) same)

    from_next : (x : List ℕ) → x ≡ drop (length part) (c ∷ name) → (next : Option (List ℕ)) → ((y : List ℕ) → next ≡ Some y → (k : ℕ) × (y ≡ drop (k + length part) name))
        → left next (star (fits rest)) ≡ true → star (fits rest) x ≡ true
    from_next x is_x None later passes = absurd (cc)
    from_next x is_x (Some y) later passes =
        let found = later y refl in
        star-drop (fits rest) (suc found.0) x (rw is_x (plain-drop (length part) (c ∷ name) none)) (rw (← tail x y found.0 is_x found.1) passes)

    cases : (here next : Option (List ℕ)) → c == 47 ≡ false → ((x : List ℕ) → here ≡ Some x → x ≡ drop (length part) (c ∷ name))
        → ((x : List ℕ) → next ≡ Some x → (k : ℕ) × (x ≡ drop (k + length part) name)) → fits (part ++ 42 ∷ rest) (c ∷ name) ≡ left here (fits (42 ∷ rest))
        → star (fits (part ++ 42 ∷ rest)) name ≡ left next (star (fits rest))
        → fits (part ++ 42 ∷ rest) (c ∷ name) || (not (c == 47) && star (fits (part ++ 42 ∷ rest)) name) ≡ left (if is_some here then here else next) (star (fits rest))
    cases None next other from_here later now after = rw (now, other, after) refl
    cases (Some x) next other from_here later now after = rw (now, other, after) (or_less _ _ (from_next x (from_here x refl) next later))

-- ---- the last part, from its end

not_empty : (name : List ℕ) (c : ℕ) → is_empty (name ++ c ∷ []) ≡ false
not_empty [] c = refl
not_empty (d ∷ name) c = refl

-- a pattern without a star that isn't empty fits no empty name
fits-end : (part : List ℕ) (p : ℕ) → has_byte 42 (part ++ p ∷ []) ≡ false → fits (part ++ p ∷ []) [] ≡ false
fits-end [] p plain = fits-single p [] [] (first_false _ _ plain)
fits-end (q ∷ part) p plain = fits-single q (part ++ p ∷ []) [] (first_false _ _ plain)

fits-last : (part : List ℕ) (p c : ℕ) (name : List ℕ) → has_byte 42 (part ++ p ∷ []) ≡ false → fits (part ++ p ∷ []) (name ++ c ∷ []) ≡ (stands_for p c && fits part name)
fits-last [] p c [] plain = fits-single p [] (c ∷ []) (first_false _ _ plain)
fits-last [] p c (d ∷ name) plain =
    fits-single p [] (d ∷ (name ++ c ∷ [])) (first_false _ _ plain) ∙ ap (λ b. stands_for p d && b) (fits-nil (name ++ c ∷ []) ∙ not_empty name c) ∙ and_false (stands_for p d)
    ∙ sym (ap (λ b. stands_for p c && b) (fits-nil (d ∷ name)) ∙ and_false (stands_for p c))
fits-last (q ∷ part) p c [] plain =
    fits-single q (part ++ p ∷ []) (c ∷ []) (first_false _ _ plain) ∙ ap (λ b. stands_for q c && b) (fits-end part p (rest_false _ _ plain)) ∙ and_false (stands_for q c)
    ∙ sym (ap (λ b. stands_for p c && b) (fits-single q part [] (first_false _ _ plain)) ∙ and_false (stands_for p c))
fits-last (q ∷ part) p c (d ∷ name) plain =
    fits-single q (part ++ p ∷ []) (d ∷ (name ++ c ∷ [])) (first_false _ _ plain) ∙ ap (λ b. stands_for q d && b) (fits-last part p c name (rest_false _ _ plain))
    ∙ and_swap (stands_for q d) (stands_for p c) (fits part name) ∙ sym (ap (λ b. stands_for p c && b) (fits-single q part (d ∷ name) (first_false _ _ plain)))

-- behind a star the last characters are compared first
pub star-last : (part : List ℕ) (p c : ℕ) (name : List ℕ) → has_byte 42 (part ++ p ∷ []) ≡ false → star (fits (part ++ p ∷ [])) (name ++ c ∷ []) ≡ (stands_for p c && star (fits part) name)
star-last part p c [] plain = rw (fits-last part p c [] plain, fits-end part p plain, and_false) (or_less _ _ (λ (wrong : false ≡ true). absurd (cc)))
star-last part p c (d ∷ name) plain =
    rw (fits-last part p c (d ∷ name) plain, star-last part p c name plain) (and_or (stands_for p c) (fits part (d ∷ name)) (not (d == 47)) (star (fits part) name))

pub star-end : (part : List ℕ) (p : ℕ) → has_byte 42 (part ++ p ∷ []) ≡ false → star (fits (part ++ p ∷ [])) [] ≡ false
star-end part p plain = fits-end part p plain

-- a star alone fits each name without a slash
pub star-nil : (name : List ℕ) → has_byte 47 name ≡ false → star (fits []) name ≡ true
star-nil [] none = fits-nil []
star-nil (c ∷ name) none =
    let other : c == 47 ≡ false = first_false (c == 47) (has_byte 47 name) none in
    let later : star (fits []) name ≡ true = star-nil name (rest_false (c == 47) (has_byte 47 name) none) in
    rw (other, later) (or_true (fits [] (c ∷ name)))

-- ---- from one slash to the next

-- a pattern with a slash fits no name without one
pub fits-no_slash_in_name : (part rest name : List ℕ) → has_byte 47 name ≡ false → fits (part ++ 47 ∷ rest) name ≡ false
unfolding fits
fits-no_slash_in_name [] rest [] none = refl
fits-no_slash_in_name [] rest (c ∷ name) none = rw (first_false (c == 47) (has_byte 47 name) none) refl
fits-no_slash_in_name (p ∷ part) rest name none =
    cases (p == 42) name none (λ n none'. fits-no_slash_in_name part rest n none')
  where
    stars : (n : List ℕ) → has_byte 47 n ≡ false → ((m : List ℕ) → has_byte 47 m ≡ false → fits (part ++ 47 ∷ rest) m ≡ false) → star (fits (part ++ 47 ∷ rest)) n ≡ false
    stars [] none' all = all [] none'
    stars (c ∷ n) none' all = rw (all (c ∷ n) none', stars n (rest_false (c == 47) (has_byte 47 n) none') all, and_false) refl

    ones : (n : List ℕ) → has_byte 47 n ≡ false → ((m : List ℕ) → has_byte 47 m ≡ false → fits (part ++ 47 ∷ rest) m ≡ false) → single p (fits (part ++ 47 ∷ rest)) n ≡ false
    ones [] none' all = refl
    ones (c ∷ n) none' all = rw (all n (rest_false (c == 47) (has_byte 47 n) none'), and_false) refl

    cases : (b : Bool) (n : List ℕ) → has_byte 47 n ≡ false → ((m : List ℕ) → has_byte 47 m ≡ false → fits (part ++ 47 ∷ rest) m ≡ false)
        → (if b then star (fits (part ++ 47 ∷ rest)) n else single p (fits (part ++ 47 ∷ rest)) n) ≡ false
    cases true n none' all = stars n none' all
    cases false n none' all = ones n none' all

-- a character of a pattern that isn't a slash stands for no slash
stands_for-slash : (p : ℕ) → p == 47 ≡ false → stands_for p 47 ≡ false
stands_for-slash p other = grind (arith, nat_tests)

-- a pattern without a slash fits no name with one
pub fits-no_slash_in_pattern : (part name rest : List ℕ) → has_byte 47 part ≡ false → has_byte 47 name ≡ false → fits part (name ++ 47 ∷ rest) ≡ false
unfolding fits
fits-no_slash_in_pattern [] [] rest none plain = refl
fits-no_slash_in_pattern [] (c ∷ name) rest none plain = refl
fits-no_slash_in_pattern (p ∷ part) name rest none plain =
    cases (p == 42) name plain (λ n plain'. fits-no_slash_in_pattern part n rest (rest_false (p == 47) (has_byte 47 part) none) plain')
  where
    stars : (n : List ℕ) → has_byte 47 n ≡ false → ((m : List ℕ) → has_byte 47 m ≡ false → fits part (m ++ 47 ∷ rest) ≡ false) → star (fits part) (n ++ 47 ∷ rest) ≡ false
    stars [] plain' all = rw (all [] plain') refl
    stars (c ∷ n) plain' all = rw (all (c ∷ n) plain', stars n (rest_false (c == 47) (has_byte 47 n) plain') all, and_false) refl

    ones : (n : List ℕ) → has_byte 47 n ≡ false → ((m : List ℕ) → has_byte 47 m ≡ false → fits part (m ++ 47 ∷ rest) ≡ false) → single p (fits part) (n ++ 47 ∷ rest) ≡ false
    ones [] plain' all = rw (stands_for-slash p (first_false (p == 47) (has_byte 47 part) none)) refl
    ones (c ∷ n) plain' all = rw (all n (rest_false (c == 47) (has_byte 47 n) plain'), and_false) refl

    cases : (b : Bool) (n : List ℕ) → has_byte 47 n ≡ false → ((m : List ℕ) → has_byte 47 m ≡ false → fits part (m ++ 47 ∷ rest) ≡ false)
        → (if b then star (fits part) (n ++ 47 ∷ rest) else single p (fits part) (n ++ 47 ∷ rest)) ≡ false
    cases true n plain' all = stars n plain' all
    cases false n plain' all = ones n plain' all

-- cut at their first slashes, a pattern fits a name just where both parts do
pub fits-slash : (part pattern name rest : List ℕ) → has_byte 47 part ≡ false → has_byte 47 name ≡ false
    → fits (part ++ 47 ∷ pattern) (name ++ 47 ∷ rest) ≡ (fits part name && fits pattern rest)
unfolding fits
fits-slash [] pattern [] rest none plain = refl
fits-slash [] pattern (c ∷ name) rest none plain = rw (first_false (c == 47) (has_byte 47 name) plain) refl
fits-slash (p ∷ part) pattern name rest none plain =
    cases (p == 42) name plain (λ n plain'. fits-slash part pattern n rest (rest_false (p == 47) (has_byte 47 part) none) plain')
  where
    stars : (n : List ℕ) → has_byte 47 n ≡ false → ((m : List ℕ) → has_byte 47 m ≡ false → fits (part ++ 47 ∷ pattern) (m ++ 47 ∷ rest) ≡ (fits part m && fits pattern rest))
        → star (fits (part ++ 47 ∷ pattern)) (n ++ 47 ∷ rest) ≡ (star (fits part) n && fits pattern rest)
    stars [] plain' all = rw (all [] plain') (or_less _ _ (λ (wrong : false ≡ true). absurd (cc)))
    stars (c ∷ n) plain' all =
        rw (all (c ∷ n) plain', stars n (rest_false (c == 47) (has_byte 47 n) plain') all, first_false (c == 47) (has_byte 47 n) plain') (or_and (fits pattern rest) (fits part (c ∷ n)) (star (fits part) n))

    ones : (n : List ℕ) → has_byte 47 n ≡ false → ((m : List ℕ) → has_byte 47 m ≡ false → fits (part ++ 47 ∷ pattern) (m ++ 47 ∷ rest) ≡ (fits part m && fits pattern rest))
        → single p (fits (part ++ 47 ∷ pattern)) (n ++ 47 ∷ rest) ≡ (single p (fits part) n && fits pattern rest)
    ones [] plain' all = rw (stands_for-slash p (first_false (p == 47) (has_byte 47 part) none)) refl
    ones (c ∷ n) plain' all = rw (all n (rest_false (c == 47) (has_byte 47 n) plain')) (and_assoc (stands_for p c) (fits part n) (fits pattern rest))

    cases : (b : Bool) (n : List ℕ) → has_byte 47 n ≡ false → ((m : List ℕ) → has_byte 47 m ≡ false → fits (part ++ 47 ∷ pattern) (m ++ 47 ∷ rest) ≡ (fits part m && fits pattern rest))
        → (if b then star (fits (part ++ 47 ∷ pattern)) (n ++ 47 ∷ rest) else single p (fits (part ++ 47 ∷ pattern)) (n ++ 47 ∷ rest)) ≡ ((if b then star (fits part) n else single p (fits part) n) && fits pattern rest)
    cases true n plain' all = stars n plain' all
    cases false n plain' all = ones n plain' all

-- ---- the steps of the walks

-- what is left is stripped as the whole
pub record IsStripped (part name wanted rest : List ℕ) : Type 0 where
  pub wanted_text : IsUtf8 wanted
  pub rest_text : IsUtf8 rest
  pub same : strip (chars part) (chars name) ≡ strip (chars wanted) (chars rest)

pub strip-done : (part name wanted rest : List ℕ) → IsStripped part name wanted rest → chars wanted ≡ [] → strip (chars part) (chars name) ≡ Some (chars rest)
strip-done part name wanted rest is none = is.same ∙ rw none refl

pub strip-short : (part name wanted rest after : List ℕ) (p : ℕ) → IsStripped part name wanted rest → IsFirstOf wanted p after → chars rest ≡ []
    → strip (chars part) (chars name) ≡ None
strip-short part name wanted rest after p is some none = is.same ∙ rw (some.chars, none) refl

pub strip-other : (part name wanted rest after next : List ℕ) (p c : ℕ) → IsStripped part name wanted rest → IsFirstOf wanted p after → IsFirstOf rest c next → stands_for p c ≡ false
    → strip (chars part) (chars name) ≡ None
strip-other part name wanted rest after next p c is some found other = is.same ∙ rw (some.chars, found.chars, other) refl

pub strip-next : (part name wanted rest after next : List ℕ) (p c : ℕ) → IsStripped part name wanted rest → IsFirstOf wanted p after → IsFirstOf rest c next → stands_for p c ≡ true
    → IsStripped part name after next
strip-next part name wanted rest after next p c is some found same =
    record { wanted_text = some.text; rest_text = found.text; same = is.same ∙ rw (some.chars, found.chars, same) refl }

-- what is left has the same first place
pub record IsFirstStripped (part name rest : List ℕ) : Type 0 where
  pub rest_text : IsUtf8 rest
  pub same : first_strip (chars part) (chars name) ≡ first_strip (chars part) (chars rest)

strip_here : (part name rest : List ℕ) → strip part name ≡ Some rest → first_strip part name ≡ Some rest
strip_here part [] rest here = here
strip_here part (c ∷ name) rest here = rw here refl

pub first_strip-here : (part name rest found : List ℕ) → IsFirstStripped part name rest → strip (chars part) (chars rest) ≡ Some found
    → first_strip (chars part) (chars name) ≡ Some found
first_strip-here part name rest found is here = is.same ∙ strip_here (chars part) (chars rest) found here

pub first_strip-short : (part name rest : List ℕ) → IsFirstStripped part name rest → strip (chars part) (chars rest) ≡ None → chars rest ≡ []
    → first_strip (chars part) (chars name) ≡ None
first_strip-short part name rest is here none = is.same ∙ rw none (rw none at here)

pub first_strip-next : (part name rest next : List ℕ) (c : ℕ) → IsFirstStripped part name rest → strip (chars part) (chars rest) ≡ None → IsFirstOf rest c next
    → IsFirstStripped part name next
first_strip-next part name rest next c is here found =
    record { rest_text = found.text; same = is.same ∙ rw found.chars (rw (rw found.chars at here) refl) }

-- what a star, a part and a name that are left say of those at the start
pub record IsLeft (part name wanted rest : List ℕ) : Type 0 where
  pub wanted_text : IsUtf8 wanted
  pub rest_text : IsUtf8 rest
  pub same : star (fits (chars part)) (chars name) ≡ star (fits (chars wanted)) (chars rest)
  pub plain : has_byte 42 (chars wanted) ≡ false
  pub no_slash : has_byte 47 (chars rest) ≡ false

pub end-done : (part name wanted rest : List ℕ) → IsLeft part name wanted rest → chars wanted ≡ [] → star (fits (chars part)) (chars name) ≡ true
end-done part name wanted rest is none = is.same ∙ rw none (star-nil (chars rest) is.no_slash)

pub end-short : (part name wanted rest before : List ℕ) (p : ℕ) → IsLeft part name wanted rest → chars wanted ≡ before ++ p ∷ [] → chars rest ≡ []
    → star (fits (chars part)) (chars name) ≡ false
end-short part name wanted rest before p is some none = is.same ∙ rw (some, none) (star-end before p (rw (← some) is.plain))

last_step : (part name wanted rest before front : List ℕ) (p c : ℕ) → IsLeft part name wanted rest → chars wanted ≡ before ++ p ∷ [] → chars rest ≡ front ++ c ∷ []
    → star (fits (chars part)) (chars name) ≡ (stands_for p c && star (fits before) front)
last_step part name wanted rest before front p c is some found = is.same ∙ rw (some, found) (star-last before p c front (rw (← some) is.plain))

pub end-other : (part name wanted rest before front : List ℕ) (p c : ℕ) → IsLeft part name wanted rest → chars wanted ≡ before ++ p ∷ [] → chars rest ≡ front ++ c ∷ []
    → stands_for p c ≡ false → star (fits (chars part)) (chars name) ≡ false
end-other part name wanted rest before front p c is some found other =
    last_step part name wanted rest before front p c is some found ∙ ap (λ b. b && star (fits before) front) other

pub end-next : (part name wanted rest before front : List ℕ) (p c : ℕ) → IsLeft part name wanted rest → IsLastOf wanted before p → IsLastOf rest front c → stands_for p c ≡ true
    → IsLeft part name before front
end-next part name wanted rest before front p c is some found same =
    record {
      wanted_text = some.text;
      rest_text = found.text;
      same = last_step part name wanted rest (chars before) (chars front) p c is some.chars found.chars ∙ ap (λ b. b && star (fits (chars before)) (chars front)) same;
      plain = first_false _ _ (sym (has_byte-append 42 (chars before) (p ∷ [])) ∙ rw (← some.chars) is.plain);
      no_slash = first_false _ _ (sym (has_byte-append 47 (chars front) (c ∷ [])) ∙ rw (← found.chars) is.no_slash);
    }

-- what a star, a pattern and a name that are left say of those at the start
pub record IsBehindStar (pattern name parts rest : List ℕ) : Type 0 where
  pub parts_text : IsUtf8 parts
  pub rest_text : IsUtf8 rest
  pub same : star (fits (chars pattern)) (chars name) ≡ star (fits (chars parts)) (chars rest)
  pub no_slash : has_byte 47 (chars rest) ≡ false

behind_step : (pattern name parts rest part after : List ℕ) → IsBehindStar pattern name parts rest → chars parts ≡ part ++ 42 ∷ after → has_byte 42 part ≡ false
    → star (fits (chars pattern)) (chars name) ≡ left (first_strip part (chars rest)) (star (fits after))
behind_step pattern name parts rest part after is cut plain = is.same ∙ rw cut (star-part part after (chars rest) plain is.no_slash)

pub behind-none : (pattern name parts rest part after : List ℕ) → IsBehindStar pattern name parts rest → IsCut 42 parts part after
    → first_strip (chars part) (chars rest) ≡ None → star (fits (chars pattern)) (chars name) ≡ false
behind-none pattern name parts rest part after is cut none =
    behind_step pattern name parts rest (chars part) (chars after) is (chars-cut_star parts part after cut) (has_byte-chars 42 part cut.front (omega arith) cut.first)
    ∙ ap (λ o. left o (star (fits (chars after)))) none

pub behind-next : (pattern name parts rest part after next : List ℕ) → IsBehindStar pattern name parts rest → IsCut 42 parts part after → IsUtf8 next
    → first_strip (chars part) (chars rest) ≡ Some (chars next) → IsBehindStar pattern name after next
behind-next pattern name parts rest part after next is cut text some =
    let found = first_strip-drop (chars part) (chars rest) (chars next) some in
    let plain = has_byte-chars 42 part cut.front (omega arith) cut.first in
    record {
      parts_text = cut.back;
      rest_text = text;
      same = behind_step pattern name parts rest (chars part) (chars after) is (chars-cut_star parts part after cut) plain ∙ ap (λ o. left o (star (fits (chars after)))) some;
      no_slash = rw found.1 (plain-drop (found.0 + length (chars part)) (chars rest) is.no_slash);
    }

-- a pattern without a star, and the part before the first one
pub fits-plain : (pattern name : List ℕ) → has_byte 42 pattern ≡ false → fits pattern name ≡ left (strip pattern name) (fits [])
fits-plain pattern name plain = rw append-nil at (fits-strip pattern [] name plain)

pub fits-front : (part after name : List ℕ) → has_byte 42 part ≡ false → fits (part ++ 42 ∷ after) name ≡ left (strip part name) (star (fits after))
fits-front part after name plain = fits-strip part (42 ∷ after) name plain ∙ cases (strip part name)
  where
    cases : (o : Option (List ℕ)) → left o (fits (42 ∷ after)) ≡ left o (star (fits after))
    cases None = refl
    cases (Some rest) = fits-star after rest

-- the whole pattern, by the names of both as texts
pub text-done : (pattern name rest : List ℕ) → IsUtf8 pattern → has_byte 42 pattern ≡ false → strip (chars pattern) (chars name) ≡ Some (chars rest)
    → fits_text pattern name ≡ is_empty (chars rest)
text-done pattern name rest utf8 plain some =
    fits-plain (chars pattern) (chars name) (has_byte-chars 42 pattern utf8 (omega arith) plain) ∙ ap (λ o. left o (fits [])) some ∙ fits-nil (chars rest)

pub text-short : (pattern name : List ℕ) → IsUtf8 pattern → has_byte 42 pattern ≡ false → strip (chars pattern) (chars name) ≡ None → fits_text pattern name ≡ false
text-short pattern name utf8 plain none =
    fits-plain (chars pattern) (chars name) (has_byte-chars 42 pattern utf8 (omega arith) plain) ∙ ap (λ o. left o (fits [])) none

text_front : (pattern name part after : List ℕ) → IsCut 42 pattern part after → fits_text pattern name ≡ left (strip (chars part) (chars name)) (star (fits (chars after)))
text_front pattern name part after cut =
    ap (λ p. fits p (chars name)) (chars-cut_star pattern part after cut) ∙ fits-front (chars part) (chars after) (chars name) (has_byte-chars 42 part cut.front (omega arith) cut.first)

pub text-star : (pattern name part after rest : List ℕ) → IsCut 42 pattern part after → strip (chars part) (chars name) ≡ Some (chars rest)
    → fits_text pattern name ≡ star (fits (chars after)) (chars rest)
text-star pattern name part after rest cut some = text_front pattern name part after cut ∙ ap (λ o. left o (star (fits (chars after)))) some

pub text-none : (pattern name part after : List ℕ) → IsCut 42 pattern part after → strip (chars part) (chars name) ≡ None → fits_text pattern name ≡ false
text-none pattern name part after cut none = text_front pattern name part after cut ∙ ap (λ o. left o (star (fits (chars after)))) none

pub text-plain : (name part rest : List ℕ) → IsUtf8 name → has_byte 47 name ≡ false → strip (chars part) (chars name) ≡ Some (chars rest) → has_byte 47 (chars rest) ≡ false
text-plain name part rest utf8 none some =
    rw (strip-drop (chars part) (chars name) (chars rest) some) (plain-drop (length (chars part)) (chars name) (has_byte-chars 47 name utf8 (omega arith) none))
