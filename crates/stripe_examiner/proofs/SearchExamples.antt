-- Choices of levels, written out.
use Rattle.std.proofs.Common.{◌≡◌, [], ◌∷◌, refl}
use Rattle.stripe_examiner.specs.Search.{choices}

-- two of three levels, in their order
pub two_of_three : choices 2 (0 ∷ 1 ∷ 2 ∷ []) ≡ (0 ∷ 1 ∷ []) ∷ (0 ∷ 2 ∷ []) ∷ (1 ∷ 2 ∷ []) ∷ []
two_of_three = refl

-- all of two, and three of two
pub two_of_two : choices 2 (1 ∷ 4 ∷ []) ≡ (1 ∷ 4 ∷ []) ∷ []
two_of_two = refl

pub three_of_two : choices 3 (1 ∷ 4 ∷ []) ≡ []
three_of_two = refl
