-- The last line of a fix that tells of one block: some block was written.
use Rattle.std.proofs.Common.{◌≡◌, ℕ, zero, suc, ◌+◌, ◌-◌, ◌<◌, ◌≤◌, inl, inr, List, [], ◌∷◌, ◌++◌, length, get_or, codes, refl, sym, ap, ◌∙◌, arith}
use Rattle.std.specs.Fmt.{decimal}
use Rattle.std.specs.Str.Parse.{IsNumeral}
use Rattle.std.proofs.lemmas.Bool.{cases_lt}
use Rattle.std.proofs.lemmas.Fmt.{decimal_digit, decimal_is_IsNumeral}
use Rattle.std.proofs.lemmas.List.{get_or-append_right, get_or_append_left, length-append}
use Rattle.std.proofs.lemmas.Str.Parse.{digit_at}
use Rattle.snap_report.specs.EndLines.{fix_text}
use Rattle.snap_report.specs.EventLines.{joined}
use Rattle.stripe_examiner.specs.Counts.{at_most}

-- the line, and its parts where no block was fixed
abbrev pub one_fixed : List ℕ
one_fixed = codes "fix: 1 blocks and 0 parities fixed, 0 findings left\n"

abbrev none_before : List ℕ
none_before = codes "fix: 0 blocks and "

abbrev none_behind : List ℕ
none_behind = codes " parities fixed, 0 findings left\n"

none_fixed : (parities : ℕ) → fix_text 0 parities 0 ≡ none_before ++ (decimal parities ++ none_behind)
none_fixed parities =
    ap (λ (none : List ℕ). joined (codes "fix: " ∷ none ∷ codes " blocks and " ∷ decimal parities ∷ codes " parities fixed, " ∷ none ∷ codes " findings left\n" ∷ []))
    (decimal_digit 0 (omega arith))

-- a byte behind a front
behind : (front rest : List ℕ) (n i : ℕ) → length front ≡ n → get_or (front ++ rest) (n + i) 0 ≡ get_or rest i 0
behind front rest n i long = get_or-append_right front rest n (n + i) 0 long (omega arith) ∙ ap (λ (k : ℕ). get_or rest k 0) (omega arith)

-- no digits stand between these parts so that it is that line
not_one : (front head digits : List ℕ) → IsNumeral 10 digits → front ++ (none_before ++ (digits ++ none_behind)) ≡ head ++ one_fixed → ⊥
not_one front head digits are same = elim (cases_lt (length digits) 2) [
  | inl one ↦ single one
  | inr more ↦ several more
]
  where
    eighteen : length none_before ≡ 18
    eighteen = refl

    as_long : length front + length digits ≡ length head + 1
    as_long =
        let whole : length front + length (none_before ++ (digits ++ none_behind)) ≡ length head + length one_fixed
        = sym (length-append front (none_before ++ (digits ++ none_behind))) ∙ ap (λ (text : List ℕ). length text) same ∙ length-append head one_fixed in
        let parts : length (none_before ++ (digits ++ none_behind)) ≡ length none_before + (length digits + length none_behind)
        = length-append none_before (digits ++ none_behind) ∙ ap (λ (n : ℕ). length none_before + n) (length-append digits none_behind) in
        let behind_it : length none_behind ≡ 33 = refl in
        let all : length one_fixed ≡ 52 = refl in
        omega (arith, whole, parts, eighteen, behind_it, all)

    at : (n i : ℕ) → length front + n ≡ length head + i → get_or (none_before ++ (digits ++ none_behind)) n 0 ≡ get_or one_fixed i 0
    at n i places =
        sym (behind front (none_before ++ (digits ++ none_behind)) (length front) n refl)
        ∙ ap (λ (text : List ℕ). get_or text (length front + n) 0) same
        ∙ ap (λ (k : ℕ). get_or (head ++ one_fixed) k 0) places
        ∙ behind head one_fixed (length head) i refl

    single : length digits < 2 → ⊥
    single one =
        let some = are.0 in
        let clash : 48 ≡ 49 = at 5 5 (omega (arith, as_long, some, one)) in
        omega (arith, clash)

    several : 2 ≤ length digits → ⊥
    several more =
        let n : ℕ = length digits in
        let place : length front + (18 + (n - 2)) ≡ length head + 17 = omega (arith, as_long, more) in
        let space : get_or digits (n - 2) 0 ≡ 32
        = sym (get_or_append_left digits none_behind 0 (n - 2) (omega (arith, more))) ∙ sym (behind none_before (digits ++ none_behind) 18 (n - 2) eighteen) ∙ at (18 + (n - 2)) 17 place in
        omega (arith, space, digit_at digits (n - 2) are.1 (omega (arith, more)))

-- a fix that printed that line, and left nothing, wrote some block
pub some_written : (blocks parities left : ℕ) (front head : List ℕ) → left ≡ 0 → front ++ fix_text (at_most blocks) (at_most parities) (at_most left) ≡ head ++ one_fixed → 0 < blocks
some_written zero parities left front head none same =
    absurd (not_one front head (decimal (at_most parities)) (decimal_is_IsNumeral (at_most parities) (omega arith)).0
    (ap (λ (text : List ℕ). front ++ text) (sym (none_fixed (at_most parities))) ∙ ap (λ (n : ℕ). front ++ fix_text 0 (at_most parities) (at_most n)) (sym none) ∙ same))
some_written (suc blocks) parities left front head none same = omega arith
