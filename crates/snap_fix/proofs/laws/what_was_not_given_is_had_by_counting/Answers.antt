use Rattle.std.proofs.Common.{Bool, ◌≡◌, ◌⊎◌, inl, inr, ℕ, List, true, false, Option, None, is_some, sym, ap, ◌∙◌}
use Rattle.stripe_examiner.specs.Facts.{StripeFacts, gift_of}
use Rattle.repair_scope.specs.Plan.{FixPlan}
use Rattle.snap_fix.specs.Genuine.{IsRestorableStripe}
use Rattle.snap_fix.specs.Restored.{IsGivenBlock}
use Rattle.snap_fix.proofs.laws.what_was_not_given_is_had_by_counting.Goals as goal

-- what was not given is had by its stripe
by_stripe : (plan : FixPlan) (facts : StripeFacts) (is_intact : ℕ → Bool) (d : ℕ) → gift_of facts d ≡ None
    → IsGivenBlock plan facts d ⊎ IsRestorableStripe plan facts is_intact → IsRestorableStripe plan facts is_intact
by_stripe plan facts is_intact d none (inl given) =
    absurd (let clash : false ≡ true = sym (ap (λ (gift : Option (List ℕ)). is_some gift) none) ∙ given.1 in cc)
by_stripe plan facts is_intact d none (inr enough) = enough

pub returns : goal.returns
returns c = λ plan facts is_intact d synced none. (
  λ can. by_stripe plan facts is_intact d none can.had,
  λ enough. record { sought = synced; had = inr enough },
)
