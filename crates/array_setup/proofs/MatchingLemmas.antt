-- How a pattern with slashes is walked along a path.
use Rattle.std.proofs.Common.{◌≡◌, ◌≢◌, ℕ, ◌-◌, List, [], ◌∷◌, ◌++◌, length, take, map, Bool, true, false, ◌==◌, ◌&&◌, ◌||◌, if◌then◌else◌, chars, IsUtf8, IsTrue, refl, ap, ◌∙◌, arith, append_assoc, length-append}
use Rattle.std.proofs.lemmas.Bool.Decides.{nat_tests}
use Rattle.std.proofs.lemmas.Str.{chars-nil, chars-append}
use Rattle.std.proofs.Math.Seq.{take-append_seam}
use Rattle.std.specs.List.{list_any}
use Rattle.array_setup.proofs.BoolLemmas.{first_false, rest_false}
use Rattle.array_setup.proofs.ComponentsLemmas.{directories-alone, directories-slash}
use Rattle.array_setup.proofs.GlobLemmas.{fits-no_slash_in_name, fits-no_slash_in_pattern, fits-slash, fits-nil}
use Rattle.array_setup.proofs.TextLemmas.{has_byte-chars, cut_parts, chars-slash}
use Rattle.array_setup.specs.Glob.{fits, fits_text}
use Rattle.array_setup.specs.Matching.{directories, matches, matches_below, matches_name, matches_whole, matches_whole_directory, parts_before_last}
use Rattle.array_setup.specs.Pattern.{has_byte, is_pattern, starts_with_slash, ends_with_slash}
use Rattle.disk_model.specs.Path.{components}

-- ---- some of a list

any-map : {A B : Type 0} (test : B → Bool) (f : A → B) (xs : List A) → list_any test (map f xs) ≡ list_any (λ x. test (f x)) xs
any-map test f [] = refl
any-map test f (x ∷ xs) = ap (λ b. test (f x) || b) (any-map test f xs)

any-same : {A : Type 0} (one other : A → Bool) (xs : List A) → ((x : A) → one x ≡ other x) → list_any one xs ≡ list_any other xs
any-same one other [] same = refl
any-same one other (x ∷ xs) same = rw (same x, any-same one other xs same) refl

any-and : {A : Type 0} (b : Bool) (test : A → Bool) (xs : List A) → list_any (λ x. b && test x) xs ≡ (b && list_any test xs)
any-and true test xs = refl
any-and false test [] = refl
any-and false test (x ∷ xs) = any-and false test xs

or_false_and : (a b : Bool) → ((a && false) || (a && b)) ≡ (a && b)
or_false_and true b = refl
or_false_and false b = refl

or_and_less : (a b : Bool) → ((a && true) || (a && b)) ≡ a
or_and_less true b = refl
or_and_less false b = refl

-- ---- slashes at the end

pub ends-slash : (front : List ℕ) → ends_with_slash (front ++ 47 ∷ []) ≡ true
ends-slash [] = refl
ends-slash (b ∷ []) = refl
ends-slash (a ∷ b ∷ front) = ends-slash (b ∷ front)

ends-append : (front : List ℕ) (b : ℕ) (back : List ℕ) → ends_with_slash (front ++ b ∷ back) ≡ ends_with_slash (b ∷ back)
ends-append [] b back = refl
ends-append (a ∷ []) b back = refl
ends-append (a ∷ c ∷ front) b back = ends-append (c ∷ front) b back

ends-none : (text : List ℕ) → has_byte 47 text ≡ false → ends_with_slash text ≡ false
ends-none [] none = refl
ends-none (b ∷ []) none = first_false (b == 47) false none
ends-none (a ∷ b ∷ text) none = ends-none (b ∷ text) (rest_false (a == 47) (has_byte 47 (b ∷ text)) none)

-- a text that ends with a slash has a front
pub ends_front : (text : List ℕ) → ends_with_slash text ≡ true → (front : List ℕ) × (text ≡ front ++ 47 ∷ [])
ends_front [] ends = absurd (cc)
ends_front (b ∷ []) ends = let is : b ≡ 47 = grind (arith, nat_tests) in ([], rw is refl)
ends_front (a ∷ b ∷ text) ends = let found = ends_front (b ∷ text) ends in (a ∷ found.0, ap (λ t. a ∷ t) found.1)

-- ---- texts cut at their first slashes

-- what is known of a text without slashes
pub record IsPart (part : List ℕ) : Type 0 where
  pub text : IsUtf8 part
  pub plain : has_byte 47 part ≡ false

chars_cut : (part rest : List ℕ) → IsPart part → chars (part ++ 47 ∷ rest) ≡ chars part ++ 47 ∷ chars rest
chars_cut part rest is = rw (chars-append part (47 ∷ rest) is.text, chars-slash) refl

chars_plain : (part : List ℕ) → IsPart part → has_byte 47 (chars part) ≡ false
chars_plain part is = has_byte-chars 47 part is.text (omega arith) is.plain

text-slash : (part pattern component path : List ℕ) → IsPart part → IsPart component → fits_text (part ++ 47 ∷ pattern) (component ++ 47 ∷ path) ≡ (fits_text part component && fits_text pattern path)
text-slash part pattern component path is is' =
    rw (chars_cut part pattern is, chars_cut component path is') (fits-slash (chars part) (chars pattern) (chars component) (chars path) (chars_plain part is) (chars_plain component is'))

-- ---- a pattern below the root

-- below the first parts, where some of the pattern is left
directories_below : (part after component rest : List ℕ) → IsPart part → IsPart component
    → list_any (λ d. fits_text (part ++ 47 ∷ after) (d ++ 47 ∷ [])) (directories (component ++ 47 ∷ rest))
    ≡ ((fits_text part component && fits_text after []) || (fits_text part component && list_any (λ d. fits_text after (d ++ 47 ∷ [])) (directories rest)))
directories_below part after component rest is is' =
    let deeper : (d : List ℕ) → fits_text (part ++ 47 ∷ after) ((component ++ 47 ∷ d) ++ 47 ∷ []) ≡ (fits_text part component && fits_text after (d ++ 47 ∷ [])) = λ d.
    ap (λ t. fits_text (part ++ 47 ∷ after) t) (append_assoc component (47 ∷ d) (47 ∷ [])) ∙ text-slash part after component (d ++ 47 ∷ []) is is' in
    let others : list_any (λ d. fits_text (part ++ 47 ∷ after) (d ++ 47 ∷ [])) (map (λ d. component ++ 47 ∷ d) (directories rest))
    ≡ (fits_text part component && list_any (λ d. fits_text after (d ++ 47 ∷ [])) (directories rest)) =
    any-map (λ d. fits_text (part ++ 47 ∷ after) (d ++ 47 ∷ [])) (λ d. component ++ 47 ∷ d) (directories rest)
    ∙ any-same (λ d. fits_text (part ++ 47 ∷ after) ((component ++ 47 ∷ d) ++ 47 ∷ [])) (λ d. fits_text part component && fits_text after (d ++ 47 ∷ [])) (directories rest) deeper
    ∙ any-and (fits_text part component) (λ d. fits_text after (d ++ 47 ∷ [])) (directories rest) in
    rw (directories-slash component rest is'.plain, others, text-slash part after component [] is is') refl

pub below-last : (part component rest : List ℕ) → IsPart part → IsPart component → matches_below (part ++ 47 ∷ []) (component ++ 47 ∷ rest) ≡ fits_text part component
below-last part component rest is is' =
    let none : fits_text [] [] ≡ true = rw chars-nil (fits-nil []) in
    rw (ends-slash part, directories_below part [] component rest is is', none) (or_and_less (fits_text part component) _)

pub below-next : (part after component rest : List ℕ) → IsPart part → IsPart component → IsUtf8 after → after ≢ []
    → matches_below (part ++ 47 ∷ after) (component ++ 47 ∷ rest) ≡ (fits_text part component && matches_below after rest)
below-next part [] component rest is is' utf8 some = absurd (some refl)
below-next part (b ∷ after) component rest is is' utf8 some =
    rw (ends-append part 47 (b ∷ after)) (cases (ends_with_slash (b ∷ after)) refl)
  where
    cases : (ends : Bool) → ends_with_slash (b ∷ after) ≡ ends
        → (if ends then list_any (λ d. fits_text (part ++ 47 ∷ (b ∷ after)) (d ++ 47 ∷ [])) (directories (component ++ 47 ∷ rest)) else fits_text (part ++ 47 ∷ (b ∷ after)) (component ++ 47 ∷ rest))
        ≡ (fits_text part component && (if ends then list_any (λ d. fits_text (b ∷ after) (d ++ 47 ∷ [])) (directories rest) else fits_text (b ∷ after) rest))
    cases true at_end =
        let found = ends_front (b ∷ after) at_end in
        let front = (cut_parts 47 (b ∷ after) found.0 [] utf8 (omega arith) found.1).0 in
        let cut : chars (b ∷ after) ≡ chars found.0 ++ 47 ∷ chars [] = ap chars found.1 ∙ rw (chars-append found.0 (47 ∷ []) front, chars-slash) refl in
        let no_more : fits_text (b ∷ after) [] ≡ false = rw (cut, chars-nil) (fits-no_slash_in_name (chars found.0) [] [] refl) in
        rw (directories_below part (b ∷ after) component rest is is', no_more) (or_false_and (fits_text part component) _)
    cases false at_end = text-slash part (b ∷ after) component rest is is'

-- a pattern of fewer parts, and one of more
pub below-short : (pattern component rest : List ℕ) → IsPart pattern → IsPart component → matches_below pattern (component ++ 47 ∷ rest) ≡ false
below-short pattern component rest is is' =
    rw (ends-none pattern is.plain, chars_cut component rest is') (fits-no_slash_in_pattern (chars pattern) (chars component) (chars rest) (chars_plain pattern is) (chars_plain component is'))

pub below-long : (part after path : List ℕ) → IsPart part → IsPart path → matches_below (part ++ 47 ∷ after) path ≡ false
below-long part after path is is' = cases (ends_with_slash (part ++ 47 ∷ after))
  where
    cases : (ends : Bool) → (if ends then list_any (λ d. fits_text (part ++ 47 ∷ after) (d ++ 47 ∷ [])) (directories path) else fits_text (part ++ 47 ∷ after) path) ≡ false
    cases true = rw (directories-alone path is'.plain) refl
    cases false = rw (chars_cut part after is) (fits-no_slash_in_name (chars part) (chars after) (chars path) (chars_plain path is'))

pub below-alone : (pattern path : List ℕ) → has_byte 47 pattern ≡ false → matches_below pattern path ≡ fits_text pattern path
below-alone pattern path none = rw (ends-none pattern none) refl

-- ---- the four forms

root : (pattern path : List ℕ) → fits_text (47 ∷ pattern) (47 ∷ path) ≡ fits_text pattern path
unfolding fits
root pattern path =
    rw (chars-slash pattern, chars-slash path) (fits-slash [] (chars pattern) [] (chars path) refl refl)

pub matches-root : (pattern path : List ℕ) → pattern ≢ [] → matches (47 ∷ pattern) path ≡ matches_below pattern path
matches-root [] path some = absurd (some refl)
matches-root (b ∷ pattern) path some = cases (ends_with_slash (b ∷ pattern))
  where
    cases : (ends : Bool) → (if ends then matches_whole_directory (47 ∷ b ∷ pattern) path else matches_whole (47 ∷ b ∷ pattern) path)
        ≡ (if ends then list_any (λ d. fits_text (b ∷ pattern) (d ++ 47 ∷ [])) (directories path) else fits_text (b ∷ pattern) path)
    cases true = any-same _ _ (directories path) (λ d. root (b ∷ pattern) (d ++ 47 ∷ []))
    cases false = root (b ∷ pattern) path

-- a pattern is more than a slash
pub more_than_slash : (pattern : List ℕ) → IsTrue (is_pattern (47 ∷ pattern)) → pattern ≢ []
more_than_slash [] valid = absurd (cc)
more_than_slash (b ∷ pattern) valid = λ is. cc

starts-none : (pattern : List ℕ) → ((rest : List ℕ) → pattern ≢ 47 ∷ rest) → starts_with_slash pattern ≡ false
starts-none [] none = refl
starts-none (b ∷ pattern) none = cases (b == 47) refl
  where
    cases : (is : Bool) → b == 47 ≡ is → is ≡ false
    cases true is = let same : b ≡ 47 = grind (arith, nat_tests) in absurd (none pattern (ap (λ a. a ∷ pattern) same))
    cases false is = refl

pub matches-directory : (pattern front path : List ℕ) → ((rest : List ℕ) → pattern ≢ 47 ∷ rest) → pattern ≡ front ++ 47 ∷ []
    → matches pattern path ≡ list_any (fits_text front) (parts_before_last (components path))
matches-directory pattern front path none spelled =
    let taken : take (length pattern - 1) pattern ≡ front =
    ap (λ n. take n pattern) (omega (arith, ap length spelled, length-append front (47 ∷ []))) ∙ ap (take (length front)) spelled ∙ take-append_seam front (47 ∷ []) in
    rw (starts-none pattern none, ap ends_with_slash spelled ∙ ends-slash front, taken) refl

pub matches-name : (pattern path : List ℕ) → ((rest : List ℕ) → pattern ≢ 47 ∷ rest) → ((front : List ℕ) → pattern ≢ front ++ 47 ∷ [])
    → matches pattern path ≡ matches_name pattern path
matches-name pattern path none none' = rw (starts-none pattern none, cases (ends_with_slash pattern) refl) refl
  where
    cases : (ends : Bool) → ends_with_slash pattern ≡ ends → ends ≡ false
    cases true is = let found = ends_front pattern is in absurd (none' found.0 found.1)
    cases false is = refl
