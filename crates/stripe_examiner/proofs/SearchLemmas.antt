-- What is found among some choices, from what is found among the first and among the rest.
use Rattle.std.proofs.Common.{◌≡◌, ◌≢◌, ℕ, zero, suc, ◌+◌, List, [], ◌∷◌, ◌++◌, length, map, refl, sym, ap, ◌∙◌, subst, add-zero, add-one, zero-add, arith}
use Rattle.std.specs.List.{All}
use Rattle.std.proofs.lemmas.List.{append_assoc, append-nil, get_or_append_left, get_or-append-add, length-append, map-append}
use Rattle.std.proofs.lemmas.List.Elements.{All-append, All-cons, All-head, All-nil}
use Rattle.file_table.specs.declared.shape.Shape.{Shape}
use Rattle.stripe_examiner.specs.declared.search.Wanted.{Wanted}
use Rattle.stripe_examiner.specs.Search.{choices, choices_after, FindsAmong, IsAcceptable, IsAccepted, NoneAcceptable}

module _ (shape : Shape) (wanteds : List Wanted) (remainders : List ℕ) (first rest : List (List ℕ)) where
  pub finds_first : (blocks : List ℕ) → FindsAmong shape wanteds remainders first blocks → FindsAmong shape wanteds remainders (first ++ rest) blocks
  finds_first blocks found =
      record {
        earlier = found.earlier;
        choice = found.choice;
        later = found.later ++ rest;
        parts = ap (λ (tried : List (List ℕ)). tried ++ rest) found.parts ∙ append_assoc found.earlier (found.choice ∷ found.later) rest;
        none_before = found.none_before;
        accepted = found.accepted;
      }

  pub none_of_both : NoneAcceptable shape wanteds remainders first → NoneAcceptable shape wanteds remainders rest → NoneAcceptable shape wanteds remainders (first ++ rest)
  none_of_both none others = All-append (λ (choice : List ℕ). IsAcceptable shape wanteds remainders choice → ⊥) first rest none others

  pub finds_rest : (blocks : List ℕ) → NoneAcceptable shape wanteds remainders first → FindsAmong shape wanteds remainders rest blocks
      → FindsAmong shape wanteds remainders (first ++ rest) blocks
  finds_rest blocks none found =
      record {
        earlier = first ++ found.earlier;
        choice = found.choice;
        later = found.later;
        parts = ap (λ (tried : List (List ℕ)). first ++ tried) found.parts ∙ sym (append_assoc first found.earlier (found.choice ∷ found.later));
        none_before = All-append (λ (choice : List ℕ). IsAcceptable shape wanteds remainders choice → ⊥) first found.earlier none found.none_before;
        accepted = found.accepted;
      }

-- ---- the choices that begin with chosen levels

starts : (chosen : List ℕ) (level : ℕ) (tried : List (List ℕ))
    → map (λ (choice : List ℕ). chosen ++ choice) (map (λ (choice : List ℕ). level ∷ choice) tried) ≡ map (λ (choice : List ℕ). (chosen ++ level ∷ []) ++ choice) tried
starts chosen level [] = refl
starts chosen level (choice ∷ tried) =
    ap (λ (one : List ℕ). one ∷ map (λ (c : List ℕ). chosen ++ c) (map (λ (c : List ℕ). level ∷ c) tried)) (sym (append_assoc chosen (level ∷ []) choice))
    ∙ ap (λ (others : List (List ℕ)). ((chosen ++ level ∷ []) ++ choice) ∷ others) (starts chosen level tried)

-- those that go on with the first level, and those that go on without it
pub choices_after-cons : (chosen : List ℕ) (k level : ℕ) (levels : List ℕ)
    → choices_after chosen (suc k) (level ∷ levels) ≡ choices_after (chosen ++ level ∷ []) k levels ++ choices_after chosen (suc k) levels
choices_after-cons chosen k level levels =
    map-append (λ (choice : List ℕ). chosen ++ choice) (map (λ (choice : List ℕ). level ∷ choice) (choices k levels)) (choices (suc k) levels)
    ∙ ap (λ (tried : List (List ℕ)). tried ++ choices_after chosen (suc k) levels) (starts chosen level (choices k levels))

-- where all are chosen, there is only this choice
choices_after-all : (chosen levels : List ℕ) (m n : ℕ) → length chosen ≡ n → m + length chosen ≡ n → choices_after chosen m levels ≡ chosen ∷ []
choices_after-all chosen levels zero n all count = ap (λ (choice : List ℕ). choice ∷ []) (append-nil chosen)
choices_after-all chosen levels (suc m) n all count = absurd (omega arith)

-- where none is left and more have to be chosen, there is no choice
choices_after-none : (chosen levels : List ℕ) (m n : ℕ) → length levels ≡ 0 → length chosen ≢ n → m + length chosen ≡ n → choices_after chosen m levels ≡ []
choices_after-none chosen levels zero n none more count = absurd (more (sym (zero-add (length chosen)) ∙ count))
choices_after-none chosen [] (suc m) n none more count = refl
choices_after-none chosen (level ∷ levels) (suc m) n none more count = absurd (omega arith)

All-left : (P : List ℕ → Type 0) (first rest : List (List ℕ)) → All P (first ++ rest) → All P first
All-left P first rest each = λ k d hk. subst P (get_or_append_left first rest d k hk) (each k d (omega (arith, length-append first rest)))

All-right : (P : List ℕ → Type 0) (first rest : List (List ℕ)) → All P (first ++ rest) → All P rest
All-right P first rest each = λ k d hk. subst P (get_or-append-add first rest k d) (each (length first + k) d (omega (arith, length-append first rest)))

-- what is so of every choice that begins with the chosen levels, and has so many
abbrev pub OfChoices : ℕ → List ℕ → List ℕ → (List (List ℕ) → Type 0) → Type 0
OfChoices n chosen levels Holds = (m : ℕ) → m + length chosen ≡ n → Holds (choices_after chosen m levels)

-- ---- where all are chosen

module _ (shape : Shape) (wanteds : List Wanted) (remainders : List ℕ) (n : ℕ) (chosen levels : List ℕ) (all : length chosen ≡ n) where
  pub last_fits : (P : List ℕ → Type 0) → OfChoices n chosen levels (All P) → P chosen
  last_fits P each =
      All-head P chosen [] (subst (All P) (choices_after-all chosen levels 0 n all (zero-add (length chosen) ∙ all)) (each 0 (zero-add (length chosen) ∙ all)))

  pub last_found : (blocks : List ℕ) → IsAccepted shape wanteds remainders chosen blocks
      → OfChoices n chosen levels (λ tried. FindsAmong shape wanteds remainders tried blocks)
  last_found blocks accepted m count =
      record {
        earlier = [];
        choice = chosen;
        later = [];
        parts = choices_after-all chosen levels m n all count;
        none_before = All-nil (λ (choice : List ℕ). IsAcceptable shape wanteds remainders choice → ⊥);
        accepted = accepted;
      }

  pub last_none : (IsAcceptable shape wanteds remainders chosen → ⊥) → OfChoices n chosen levels (NoneAcceptable shape wanteds remainders)
  last_none refused m count =
      let Refused : List ℕ → Type 0 = λ (choice : List ℕ). IsAcceptable shape wanteds remainders choice → ⊥ in
      subst (All Refused) (sym (choices_after-all chosen levels m n all count)) (All-cons Refused chosen [] refused (All-nil Refused))

-- ---- where none is left

pub nothing_left : (shape : Shape) (wanteds : List Wanted) (remainders : List ℕ) (n : ℕ) (chosen levels : List ℕ) → length levels ≡ 0 → length chosen ≢ n
    → OfChoices n chosen levels (NoneAcceptable shape wanteds remainders)
nothing_left shape wanteds remainders n chosen levels none more m count =
    let Refused : List ℕ → Type 0 = λ (choice : List ℕ). IsAcceptable shape wanteds remainders choice → ⊥ in
    subst (All Refused) (sym (choices_after-none chosen levels m n none more count)) (All-nil Refused)

-- ---- with the first level and without it

module _ (shape : Shape) (wanteds : List Wanted) (remainders : List ℕ) (n : ℕ) (chosen longer levels rest : List ℕ) (level : ℕ) (is_longer : longer ≡ chosen ++ level ∷ [])
    (is_first : levels ≡ level ∷ rest) where
  both : (m : ℕ) → choices_after chosen (suc m) levels ≡ choices_after longer m rest ++ choices_after chosen (suc m) rest
  both m =
      ap (λ (those : List ℕ). choices_after chosen (suc m) those) is_first ∙ choices_after-cons chosen m level rest
      ∙ ap (λ (start : List ℕ). choices_after start m rest ++ choices_after chosen (suc m) rest) (sym is_longer)

  one_more : length longer ≡ suc (length chosen)
  one_more = ap length is_longer ∙ length-append chosen (level ∷ []) ∙ add-one (length chosen)

  -- from both to each
  pub with_fits : (P : List ℕ → Type 0) → OfChoices n chosen levels (All P) → OfChoices n longer rest (All P)
  with_fits P each m count =
      All-left P (choices_after longer m rest) (choices_after chosen (suc m) rest) (subst (All P) (both m) (each (suc m) (omega (arith, one_more))))

  pub without_fits : (P : List ℕ → Type 0) → length chosen ≢ n → OfChoices n chosen levels (All P) → OfChoices n chosen rest (All P)
  without_fits P more each zero count = absurd (more (sym (zero-add (length chosen)) ∙ count))
  without_fits P more each (suc m) count =
      All-right P (choices_after longer m rest) (choices_after chosen (suc m) rest) (subst (All P) (both m) (each (suc m) count))

  -- from each to both
  pub with_found : (blocks : List ℕ) → length chosen ≢ n → OfChoices n longer rest (λ tried. FindsAmong shape wanteds remainders tried blocks)
      → OfChoices n chosen levels (λ tried. FindsAmong shape wanteds remainders tried blocks)
  with_found blocks more found zero count = absurd (more (sym (zero-add (length chosen)) ∙ count))
  with_found blocks more found (suc m) count =
      subst (λ (tried : List (List ℕ)). FindsAmong shape wanteds remainders tried blocks) (sym (both m))
      (finds_first shape wanteds remainders (choices_after longer m rest) (choices_after chosen (suc m) rest) blocks (found m (omega (arith, one_more))))

  pub without_found : (blocks : List ℕ) → length chosen ≢ n → OfChoices n longer rest (NoneAcceptable shape wanteds remainders)
      → OfChoices n chosen rest (λ tried. FindsAmong shape wanteds remainders tried blocks)
      → OfChoices n chosen levels (λ tried. FindsAmong shape wanteds remainders tried blocks)
  without_found blocks more none found zero count = absurd (more (sym (zero-add (length chosen)) ∙ count))
  without_found blocks more none found (suc m) count =
      subst (λ (tried : List (List ℕ)). FindsAmong shape wanteds remainders tried blocks) (sym (both m))
      (finds_rest shape wanteds remainders (choices_after longer m rest) (choices_after chosen (suc m) rest) blocks (none m (omega (arith, one_more))) (found (suc m) count))

  pub neither_found : length chosen ≢ n → OfChoices n longer rest (NoneAcceptable shape wanteds remainders) → OfChoices n chosen rest (NoneAcceptable shape wanteds remainders)
      → OfChoices n chosen levels (NoneAcceptable shape wanteds remainders)
  neither_found more none others zero count = absurd (more (sym (zero-add (length chosen)) ∙ count))
  neither_found more none others (suc m) count =
      subst (NoneAcceptable shape wanteds remainders) (sym (both m))
      (none_of_both shape wanteds remainders (choices_after longer m rest) (choices_after chosen (suc m) rest) (none m (omega (arith, one_more))) (others (suc m) count))

-- ---- from all levels

abbrev from_start : List (List ℕ) → List (List ℕ)
from_start tried = map (λ (choice : List ℕ). [] ++ choice) tried

choices_after-start : (tried : List (List ℕ)) → from_start tried ≡ tried
choices_after-start [] = refl
choices_after-start (choice ∷ tried) = ap (λ (others : List (List ℕ)). choice ∷ others) (choices_after-start tried)

module _ (n : ℕ) (levels : List ℕ) (Holds : List (List ℕ) → Type 0) where
  pub from_choices : Holds (choices n levels) → OfChoices n [] levels Holds
  from_choices holds m count =
      let is : n ≡ m = omega arith in
      subst Holds (sym (choices_after-start (choices m levels))) (subst (λ (k : ℕ). Holds (choices k levels)) is holds)

  pub to_choices : OfChoices n [] levels Holds → Holds (choices n levels)
  to_choices of_all = subst Holds (choices_after-start (choices n levels)) (of_all n (add-zero n))
