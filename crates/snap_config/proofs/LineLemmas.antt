-- Lines without what stands round them.
use Rattle.std.proofs.Common.{◌≡◌, ◌≢◌, ℕ, suc, ◌+◌, ◌-◌, ◌<◌, List, [], ◌∷◌, ◌++◌, length, get_or, take, drop, Bool, true, false, ◌==◌, ◌&&◌, if◌then◌else◌, None, Some, IsUtf8, IsCharBoundary, refl, sym, ap, ◌∙◌, arith, length-append}
use Rattle.memchr.specs.Find.{IsFirstByte, is_byte2}
use Rattle.std.proofs.lemmas.Bool.Decides.{nat_tests}
use Rattle.std.proofs.lemmas.List.Sums.{position_or_len_is}
use Rattle.std.proofs.lemmas.Str.{IsUtf8-take, IsUtf8-drop, IsCharBoundary-after_ascii, IsCharBoundary-before_ascii}
use Rattle.std.proofs.Math.Seq.{take-append_seam, get_or-append_seam}
use Rattle.std.specs.List.{position_or_len}
use Rattle.array_setup.proofs.BoolLemmas.{not_true}
use Rattle.snap_config.specs.Line.{is_blank, starts_with_blank, ends_with_blank, trim_front, trim_end, without_return}

-- ---- carriage returns

pub return-here : (front : List ℕ) → without_return (front ++ 13 ∷ []) ≡ front
return-here [] = refl
return-here (b ∷ []) = refl
return-here (a ∷ b ∷ front) = ap (λ rest. a ∷ rest) (return-here (b ∷ front))

pub return-none : (line : List ℕ) → ((front : List ℕ) → line ≢ front ++ 13 ∷ []) → line ≡ without_return line
return-none [] none = refl
return-none (b ∷ []) none = cases (b == 13) refl
  where
    cases : (is : Bool) → b == 13 ≡ is → b ∷ [] ≡ (if is then [] else b ∷ [])
    cases true is = let same : b ≡ 13 = grind (arith, nat_tests) in absurd (none [] (ap (λ c. c ∷ []) same))
    cases false is = refl
return-none (a ∷ b ∷ line) none = ap (λ rest. a ∷ rest) (return-none (b ∷ line) (λ front same. none (a ∷ front) (ap (λ rest. a ∷ rest) same)))

-- ---- blanks at the front

blank_small : (b : ℕ) → is_blank b ≡ true → b < 128
blank_small b blank = grind (arith, nat_tests)

pub record IsTrimmedFront (text rest : List ℕ) : Type 0 where
  pub rest_text : IsUtf8 rest
  pub same : trim_front text ≡ trim_front rest

pub front_boundary : (rest : List ℕ) → IsUtf8 rest → starts_with_blank rest ≡ true → IsCharBoundary rest 1
front_boundary [] utf8 blank = absurd (cc)
front_boundary (b ∷ rest) utf8 blank = IsCharBoundary-after_ascii (b ∷ rest) 0 utf8 (omega arith) (blank_small b blank)

drop_one : (b : ℕ) (rest : List ℕ) → drop 1 (b ∷ rest) ≡ rest
drop_one b rest = refl

pub front-next : (text rest : List ℕ) → IsTrimmedFront text rest → starts_with_blank rest ≡ true → IsTrimmedFront text (drop 1 rest)
front-next text [] is blank = absurd (cc)
front-next text (b ∷ rest) is blank =
    record { rest_text = IsUtf8-drop (b ∷ rest) 1 is.rest_text (front_boundary (b ∷ rest) is.rest_text blank); same = is.same ∙ rw blank refl }

pub front-done : (text rest : List ℕ) → IsTrimmedFront text rest → starts_with_blank rest ≡ false → rest ≡ trim_front text
front-done text [] is plain = sym is.same
front-done text (b ∷ rest) is plain = sym (is.same ∙ rw plain refl)

-- ---- blanks at the end

trim_end-blank : (front : List ℕ) (b : ℕ) → is_blank b ≡ true → trim_end (front ++ b ∷ []) ≡ trim_end front
trim_end-blank [] b blank = rw blank refl
trim_end-blank (a ∷ front) b blank = rw (trim_end-blank front b blank) refl

not_empty : (a : ℕ) (text : List ℕ) → ends_with_blank (a ∷ text) ≡ false → trim_end (a ∷ text) ≡ a ∷ text
not_empty a [] plain = rw plain refl
not_empty a (b ∷ text) plain = rw (not_empty b text plain) (cases (is_blank a))
  where
    cases : (blank : Bool) → (if blank && false then [] else a ∷ b ∷ text) ≡ a ∷ b ∷ text
    cases true = refl
    cases false = refl

-- what ends with a blank
last_blank : (rest : List ℕ) → ends_with_blank rest ≡ true → (front : List ℕ) × (b : ℕ) × (rest ≡ front ++ b ∷ []) × (is_blank b ≡ true)
last_blank [] blank = absurd (cc)
last_blank (b ∷ []) blank = ([], b, refl, blank)
last_blank (a ∷ b ∷ rest) blank =
    let found = last_blank (b ∷ rest) blank in
    (a ∷ found.0, found.1, ap (λ text. a ∷ text) found.2, found.3)

pub ends-last : (front : List ℕ) (b : ℕ) → ends_with_blank (front ++ b ∷ []) ≡ is_blank b
ends-last [] b = refl
ends-last (a ∷ []) b = refl
ends-last (a ∷ c ∷ front) b = ends-last (c ∷ front) b

pub ends-index : (text : List ℕ) → 0 < length text → ends_with_blank text ≡ is_blank (get_or text (length text - 1) 0)
ends-index [] some = absurd (omega arith)
ends-index (b ∷ []) some = refl
ends-index (a ∷ b ∷ text) some =
    let place : length (a ∷ b ∷ text) - 1 ≡ suc (length (b ∷ text) - 1) = omega arith in
    ends-index (b ∷ text) (omega arith) ∙ sym (ap (λ n. is_blank (get_or (a ∷ b ∷ text) n 0)) place)

pub record IsTrimmedEnd (text rest : List ℕ) : Type 0 where
  pub rest_text : IsUtf8 rest
  pub same : trim_end text ≡ trim_end rest

pub record IsBlankEnd (rest : List ℕ) : Type 0 where
  pub some : 0 < length rest
  pub boundary : IsCharBoundary rest (length rest - 1)
  pub same : trim_end (take (length rest - 1) rest) ≡ trim_end rest

pub blank_end : (rest : List ℕ) → IsUtf8 rest → ends_with_blank rest ≡ true → IsBlankEnd rest
blank_end rest utf8 blank =
    let found = last_blank rest blank in
    let count : length rest ≡ length found.0 + 1 = ap length found.2 ∙ length-append found.0 (found.1 ∷ []) in
    let place : length rest - 1 ≡ length found.0 = omega (arith, count) in
    let taken : take (length rest - 1) rest ≡ found.0 = ap (λ n. take n rest) place ∙ ap (take (length found.0)) found.2 ∙ take-append_seam found.0 (found.1 ∷ []) in
    let here : get_or rest (length rest - 1) 0 ≡ found.1 = ap (λ n. get_or rest n 0) place ∙ ap (λ t. get_or t (length found.0) 0) found.2 ∙ get_or-append_seam found.0 found.1 [] 0 in
    let small : found.1 < 128 = blank_small found.1 found.3 in
    record {
      some = omega (arith, count);
      boundary = IsCharBoundary-before_ascii rest (length rest - 1) (omega (arith, count)) (omega (arith, here, small));
      same = ap trim_end taken ∙ sym (ap trim_end found.2 ∙ trim_end-blank found.0 found.1 found.3);
    }

pub end-next : (text rest left : List ℕ) → IsTrimmedEnd text rest → ends_with_blank rest ≡ true → left ≡ take (length rest - 1) rest → IsTrimmedEnd text left
end-next text rest left is blank taken =
    let end = blank_end rest is.rest_text blank in
    rw taken (record { rest_text = IsUtf8-take rest (length rest - 1) is.rest_text end.boundary; same = is.same ∙ sym end.same })

pub end-done : (text rest : List ℕ) → IsTrimmedEnd text rest → ends_with_blank rest ≡ false → rest ≡ trim_end text
end-done text [] is plain = sym is.same
end-done text (b ∷ rest) is plain = sym (is.same ∙ not_empty b rest plain)

-- ---- words

pub word-some : (text : List ℕ) (end : ℕ) → IsFirstByte (is_byte2 32 9) text (Some end) → end ≡ position_or_len is_blank text
word-some text end found =
    sym (position_or_len_is is_blank text end 0 (omega (arith, found.0.high)) (λ k below. not_true (is_blank (get_or text k 0)) (λ passes. found.0.before k (omega arith) below passes)) (λ below. found.1))

pub word-none : (text : List ℕ) → IsFirstByte (is_byte2 32 9) text None → length text ≡ position_or_len is_blank text
word-none text nowhere =
    sym (position_or_len_is is_blank text (length text) 0 (omega arith) (λ k below. not_true (is_blank (get_or text k 0)) (λ passes. nowhere k (omega arith) below passes)) (λ below. absurd (omega (arith, below))))
