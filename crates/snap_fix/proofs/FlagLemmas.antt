-- The flags of the levels that were written, level after level.
use Rattle.std.proofs.Common.{◌≡◌, ◌≢◌, inl, inr, ℕ, ◌+◌, ◌<◌, ◌≤◌, ◌||◌, List, length, get_or, set, Bool, true, false, refl, sym, ap, ◌∙◌, subst, arith}
use Rattle.std.proofs.lemmas.Bool.Decides.{eqb_tells}
use Rattle.std.proofs.lemmas.List.{get_or-set_same, get_or-set_other}
use Rattle.stripe_examiner.specs.Facts.{StripeFacts}
use Rattle.snap_fix.specs.Mended.{is_wrong_level}
use Rattle.repair_scope.specs.Plan.{FixPlan}
use Rattle.snap_fix.specs.Repairing.{FlagsWritten}

-- the wrong ones among the first levels have their flags
pub record FlagsSoFar (plan : FixPlan) (facts : StripeFacts) (r : ℕ) (before after : List Bool) : Type 0 where
  pub first : (k : ℕ) → k < r → get_or after k false ≡ (get_or before k false || is_wrong_level plan facts k)
  pub rest : (k : ℕ) → r ≤ k → get_or after k false ≡ get_or before k false

or_false : (one : Bool) → one ≡ (one || false)
or_false true = refl
or_false false = refl

or_true : (one : Bool) → true ≡ (one || true)
or_true true = refl
or_true false = refl

module _ (plan : FixPlan) (facts : StripeFacts) where
  pub flags_none : (flags : List Bool) → FlagsSoFar plan facts 0 flags flags
  flags_none flags = record { first = λ k below. absurd (omega (arith, below)); rest = λ k least. refl }

  -- a level that is not wrong
  pub flags_skip : (r : ℕ) (before after : List Bool) → is_wrong_level plan facts r ≡ false → FlagsSoFar plan facts r before after
      → FlagsSoFar plan facts (r + 1) before after
  flags_skip r before after right so_far = record {
    first = λ k below. elim (eqb_tells k r) [
      | inl same ↦ subst (λ (n : ℕ). get_or after n false ≡ (get_or before n false || is_wrong_level plan facts n)) (sym same.1)
          (so_far.rest r (omega arith) ∙ or_false (get_or before r false) ∙ sym (ap (λ (b : Bool). get_or before r false || b) right))
      | inr other ↦ let apart = other.1 in so_far.first k (omega (arith, below, apart))
    ];
    rest = λ k least. so_far.rest k (omega (arith, least));
  }

  -- a wrong one
  pub flags_more : (r : ℕ) (before after : List Bool) → r < length after → is_wrong_level plan facts r ≡ true → FlagsSoFar plan facts r before after
      → FlagsSoFar plan facts (r + 1) before (set after r true)
  flags_more r before after within wrong so_far = record {
    first = λ k below. elim (eqb_tells k r) [
      | inl same ↦ subst (λ (n : ℕ). get_or (set after r true) n false ≡ (get_or before n false || is_wrong_level plan facts n)) (sym same.1)
          (get_or-set_same after r true false within ∙ or_true (get_or before r false) ∙ sym (ap (λ (b : Bool). get_or before r false || b) wrong))
      | inr other ↦ let apart = other.1 in get_or-set_other after r k true false apart ∙ so_far.first k (omega (arith, below, apart))
    ];
    rest = λ k least.
        let apart : k ≢ r = λ same. absurd (omega (arith, least, same)) in
        get_or-set_other after r k true false apart ∙ so_far.rest k (omega (arith, least));
  }

  pub flags_all : (r : ℕ) (before after : List Bool) → length after ≡ length before → length before ≤ r → FlagsSoFar plan facts r before after
      → FlagsWritten plan facts before after
  flags_all r before after long all so_far = (long, λ k below. so_far.first k (omega (arith, below, all)))
