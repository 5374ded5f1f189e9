-- Parts that are read one after another without a flaw.
use Rattle.std.proofs.Common.{◌≡◌, ℕ, zero, suc, ◌+◌, ◌<◌, List, [], ◌∷◌, ◌++◌, length, refl, sym, subst, ◌∙◌, append_assoc, append-nil, arith}
use Rattle.std.specs.List.{flat_map}
use Rattle.std.proofs.lemmas.List.{length_push}
use Rattle.content_file.specs.Flaw.{Read, Good}
use Rattle.content_file.specs.FirstFlaw.{read_many}
use Rattle.content_file.proofs.Fields.{IsBytes, Takes, takes_then}
use Rattle.content_file.proofs.FlawLemmas.{good_is, good_then}

-- so many parts were read after these, and what holds of each front holds of all
pub record ManyTaken {A : Type 0} (spelled : A → List ℕ) (P : List A → Type 0) (n : ℕ) (before : List A) (bytes : List ℕ) (all : List A) (rest : List ℕ) : Type 0 where
  pub more : List A
  pub all_is : all ≡ before ++ more
  pub as_many : length more ≡ n
  pub takes : Takes bytes (flat_map spelled more) rest
  pub holds : P all

-- the next part is spelled at the front, and the property goes on to it
abbrev pub TakesNext : {A : Type 0} → (List A → List ℕ → Read (A × List ℕ)) → (A → List ℕ) → (List A → Type 0) → ℕ → Type 0
TakesNext {A} next spelled P total = (before : List A) (bytes : List ℕ) (x : A) (rest : List ℕ) → length before < total → P before → IsBytes bytes
    → next before bytes ≡ Good (x, rest) → Takes bytes (spelled x) rest × P (before ++ x ∷ [])

pub many_taken : {A : Type 0} (next : List A → List ℕ → Read (A × List ℕ)) (spelled : A → List ℕ) (P : List A → Type 0) (total : ℕ) → TakesNext next spelled P total
    → (n : ℕ) (before : List A) (bytes : List ℕ) (all : List A) (rest : List ℕ) → length before + n ≡ total → P before → IsBytes bytes
    → read_many next n before bytes ≡ Good (all, rest) → ManyTaken spelled P n before bytes all rest
unfolding read_many
many_taken {A} next spelled P total step zero before bytes all rest count holds fits e =
    subst (λ (p : List A × List ℕ). ManyTaken spelled P zero before bytes p.0 p.1) (good_is (before, bytes) (all, rest) e)
    (record { more = []; all_is = sym (append-nil before); as_many = refl; takes = record { parts = refl; rest_fits = fits }; holds = holds })
many_taken {A} next spelled P total step (suc n) before bytes all rest count holds fits e =
    good_then _ _ _ e (λ part e0 r0.
    let s = step before bytes part.0 part.1 (omega arith) holds fits e0 in
    let longer = length_push before part.0 in
    let m = many_taken next spelled P total step n (before ++ part.0 ∷ []) part.1 all rest (omega (arith, longer)) s.1 s.0.rest_fits r0 in
    let all : Takes bytes (spelled part.0 ++ flat_map spelled m.more) rest = takes_then bytes (spelled part.0) part.1 (flat_map spelled m.more) rest s.0 m.takes in
    record {
      more = part.0 ∷ m.more;
      all_is = m.all_is ∙ append_assoc before (part.0 ∷ []) m.more;
      as_many = omega (arith, m.as_many);
      takes = all;
      holds = m.holds;
    })
