-- Parts appended one after another.
use Rattle.std.proofs.Common.{◌≡◌, List, ◌++◌, ap, ◌∙◌, append_assoc}

-- a part, and then another that is this one
pub then_appended : {A : Type 0} (out mid new first part second : List A) → mid ≡ out ++ first → new ≡ mid ++ part → part ≡ second → new ≡ out ++ (first ++ second)
then_appended out mid new first part second one two same =
    two ∙ ap (λ xs. mid ++ xs) same ∙ ap (λ xs. xs ++ second) one ∙ append_assoc out first second
