-- Tests of every number below a bound, which are computed.
use Rattle.std.proofs.Common.{◌≡◌, ℕ, zero, suc, ◌<◌, Bool, true, false, cond, refl, ap, ◌∙◌, inl, inr, arith}
use Rattle.std.proofs.lemmas.Bool.{cases_lt}

-- each number below n passes
abbrev pub all_below : (ℕ → Bool) → ℕ → Bool
all_below test zero = true
all_below test (suc n) = cond (test n) (all_below test n) false

pub both_true : (b c : Bool) → cond b c false ≡ true → (b ≡ true) × (c ≡ true)
both_true true c h = (refl, h)
both_true false c h = cc

pub passes_below : (test : ℕ → Bool) (n i : ℕ) → all_below test n ≡ true → i < n → test i ≡ true
passes_below test zero i h within = absurd (omega arith)
passes_below test (suc n) i h within =
    let both = both_true (test n) (all_below test n) h in
    elim (cases_lt i n) [
      | inl below ↦ passes_below test n i both.1 below
      | inr above ↦ let last : i ≡ n = omega arith in ap test last ∙ both.0
    ]
