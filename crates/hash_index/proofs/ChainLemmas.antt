-- Links, followed from one to the next, are a filter.
use Rattle.std.proofs.Common.{◌≡◌, ℕ, ◌<◌, zero, suc, List, [], ◌∷◌, length, drop, get_or, cond, Bool, true, false, refl, ap, ◌∙◌, arith}
use Rattle.std.specs.List.{filter}

-- a test of two that tells whether they are the same
pub record Alike {X : Type 0} (same : X → X → Bool) : Type 0 where
  pub joined : (x y z : X) → same x y ≡ true → same x z ≡ same y z

pub filter_from : {X : Type 0} (same : X → X → Bool) → Alike same → (x y d : X) (later : List X) (k : ℕ) → k < length later → get_or later k d ≡ y → same x y ≡ true
    → ((j : ℕ) → j < k → same x (get_or later j d) ≡ false) → filter (same x) later ≡ y ∷ filter (same y) (drop (suc k) later)
filter_from same alike x y d [] k within at is none = absurd (omega arith)
filter_from same alike x y d (z ∷ later) zero within at is none =
    ap (λ (t : Bool). cond t (z ∷ filter (same x) later) (filter (same x) later)) (ap (same x) at ∙ is)
    ∙ (λ i. at i ∷ filter (λ other. alike.joined x y other is i) later)
filter_from same alike x y d (z ∷ later) (suc k) within at is none =
    ap (λ (t : Bool). cond t (z ∷ filter (same x) later) (filter (same x) later)) (none 0 (omega arith))
    ∙ filter_from same alike x y d later k (omega arith) at is (λ j below. none (suc j) (omega arith))

-- where no element passes, none is left
pub filter_none : {X : Type 0} (test : X → Bool) (xs : List X) (d : X) → ((k : ℕ) → k < length xs → test (get_or xs k d) ≡ false) → filter test xs ≡ []
filter_none test [] d none = refl
filter_none test (x ∷ xs) d none =
    ap (λ (t : Bool). cond t (x ∷ filter test xs) (filter test xs)) (none 0 (omega arith)) ∙ filter_none test xs d (λ k within. none (suc k) (omega arith))
