-- What holds of every part of a path, part after part.
use Rattle.std.proofs.Common.{◌≡◌, ◌≢◌, ◌⊎◌, inl, inr, ◌↔◌, ℕ, suc, ◌+◌, ◌<◌, List, [], ◌∷◌, length, take, drop, arith, sym, ◌∙◌, ap, subst, add-one}
use Rattle.std.proofs.lemmas.Bool.Decides.{eqb_tells}
use Rattle.std.proofs.Math.Seq.{take-length}
use Rattle.std.specs.List.{AllByRecursion}
use Rattle.disk_model.specs.Path.{components, IsFirstSlash}
use Rattle.disk_model.proofs.PathLemmas.{components-no_slash, components-slash}

abbrev pub OfParts : (List ℕ → Type 0) → List ℕ → Type 0
OfParts P bytes = AllByRecursion P (components bytes)

module _ (P : List ℕ → Type 0) where
  split_at_slash : (rest : List ℕ) (end : ℕ) → IsFirstSlash rest end → end ≢ length rest → components rest ≡ take end rest ∷ components (drop (suc end) rest)
  split_at_slash rest end first inside =
      let within : end < length rest = omega (arith, first.within, inside) in
      components-slash rest end within first.before (first.here within)

  one_part : (rest part : List ℕ) (end : ℕ) → IsFirstSlash rest end → part ≡ take end rest → end ≡ length rest → (components rest ≡ rest ∷ []) × (part ≡ rest)
  one_part rest part end first front at_end = (
    components-no_slash rest (λ i below. first.before i (omega (arith, at_end, below))),
    front ∙ ap (λ (n : ℕ). take n rest) at_end ∙ take-length rest,
  )

  -- where the rest has no slash, it alone is to have the property
  pub last_part : (bytes rest part : List ℕ) (end : ℕ) → (OfParts P bytes ↔ OfParts P rest) → IsFirstSlash rest end → part ≡ take end rest → end ≡ length rest → P part → OfParts P bytes
  last_part bytes rest part end same first front at_end is =
      let one = one_part rest part end first front at_end in
      same.1 (subst (AllByRecursion P) (sym one.0) (subst P one.1 is, tt))

  -- the part before the first slash has the property wherever all have
  first_of_all : (rest part : List ℕ) (end : ℕ) → (end ≡ length rest) ⊎ (end ≢ length rest) → IsFirstSlash rest end → part ≡ take end rest → OfParts P rest → P part
  first_of_all rest part end (inl at_end) first front all =
      let one = one_part rest part end first front at_end in
      subst P (sym one.1) (subst (AllByRecursion P) one.0 all).0
  first_of_all rest part end (inr inside) first front all =
      subst P (sym front) (subst (AllByRecursion P) (split_at_slash rest end first inside) all).0

  eq_or_not : (a b : ℕ) → (a ≡ b) ⊎ (a ≢ b)
  eq_or_not a b = elim (eqb_tells a b) [ inl same ↦ inl same.1 | inr other ↦ inr other.1 ]

  pub bad_part : (bytes rest part : List ℕ) (end : ℕ) → (OfParts P bytes ↔ OfParts P rest) → IsFirstSlash rest end → part ≡ take end rest → ¬ (P part) → ¬ (OfParts P bytes)
  bad_part bytes rest part end same first front bad all = bad (first_of_all rest part end (eq_or_not end (length rest)) first front (same.0 all))

  -- with such a part passed, all depends on what stands after the slash
  pub more_parts : (bytes rest part : List ℕ) (end : ℕ) → (OfParts P bytes ↔ OfParts P rest) → IsFirstSlash rest end → part ≡ take end rest → end ≢ length rest → P part → (OfParts P bytes ↔ OfParts P (drop (end + 1) rest))
  more_parts bytes rest part end same first front inside is =
      let parts : components rest ≡ take end rest ∷ components (drop (end + 1) rest) = rw add-one (split_at_slash rest end first inside) in (
        λ all. (subst (AllByRecursion P) parts (same.0 all)).1,
        λ all. same.1 (subst (AllByRecursion P) (sym parts) (subst P front is, all)),
      )
