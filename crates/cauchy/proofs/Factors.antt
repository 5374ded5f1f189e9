-- Products of several elements, up to the order and the grouping of the factors.
use Rattle.std.proofs.Common.{◌≡◌, ℕ, zero, suc, ◌<◌, Bool, true, false, cond, leb, List, [], ◌∷◌, get_or, refl, sym, ap, ◌∙◌, arith}
use Rattle.gf256.specs.Field.{product}
use Rattle.gf256.proofs.Theorems.{product_lt, product_comm, product_assoc, times_one}

-- a product, as a tree over numbered elements
pub data Factors : Type 0 where
  element : ℕ → Factors
  times : Factors → Factors → Factors

-- its value, where the elements are given as a list, which goes on as ones
abbrev pub value : List ℕ → Factors → ℕ
value env (element k) = get_or env k 1
value env (times s t) = product (value env s) (value env t)

-- the product of a list of numbered elements
abbrev pub listed : List ℕ → List ℕ → ℕ
listed env [] = 1
listed env (k ∷ ks) = product (get_or env k 1) (listed env ks)

-- the factors from left to right, before the rest
abbrev pub flattened : Factors → List ℕ → List ℕ
flattened (element k) rest = k ∷ rest
flattened (times s t) rest = flattened s (flattened t rest)

-- a number put in order into a list
abbrev pub inserted : ℕ → List ℕ → List ℕ
inserted k [] = k ∷ []
inserted k (m ∷ ms) = cond (leb k m) (k ∷ m ∷ ms) (m ∷ inserted k ms)

abbrev pub ordered : List ℕ → List ℕ
ordered [] = []
ordered (k ∷ ks) = inserted k (ordered ks)

-- the list has elements of the field alone
abbrev pub AreElements : List ℕ → Type 0
AreElements [] = Unit {0}
AreElements (x ∷ xs) = (x < 256) × AreElements xs

pub element_lt : (env : List ℕ) → AreElements env → (k : ℕ) → get_or env k 1 < 256
element_lt [] h k = omega arith
element_lt (x ∷ xs) h zero = h.0
element_lt (x ∷ xs) h (suc k) = element_lt xs h.1 k

listed_lt : (env : List ℕ) → AreElements env → (ks : List ℕ) → listed env ks < 256
listed_lt env h [] = omega arith
listed_lt env h (k ∷ ks) = product_lt (get_or env k 1) (listed env ks) (element_lt env h k) (listed_lt env h ks)

pub value_lt : (env : List ℕ) → AreElements env → (t : Factors) → value env t < 256
value_lt env h (element k) = element_lt env h k
value_lt env h (times s t) = product_lt (value env s) (value env t) (value_lt env h s) (value_lt env h t)

listed-flattened : (env : List ℕ) → AreElements env → (t : Factors) (rest : List ℕ) → listed env (flattened t rest) ≡ product (value env t) (listed env rest)
listed-flattened env h (element k) rest = refl
listed-flattened env h (times s t) rest =
    listed-flattened env h s (flattened t rest) ∙ ap (product (value env s)) (listed-flattened env h t rest)
    ∙ sym (product_assoc (value env s) (value env t) (listed env rest) (value_lt env h s) (value_lt env h t) (listed_lt env h rest))

-- the first two of three factors change places
pub product_left_comm : (a b c : ℕ) → a < 256 → b < 256 → c < 256 → product a (product b c) ≡ product b (product a c)
product_left_comm a b c ha hb hc =
    sym (product_assoc a b c ha hb hc) ∙ ap (λ (x : ℕ). product x c) (product_comm a b ha hb) ∙ product_assoc b a c hb ha hc

listed-inserted : (env : List ℕ) → AreElements env → (k : ℕ) (ks : List ℕ) → listed env (inserted k ks) ≡ product (get_or env k 1) (listed env ks)
listed-inserted env h k [] = refl
listed-inserted env h k (m ∷ ms) =
    elim (leb k m) as (λ (b : Bool). listed env (cond b (k ∷ m ∷ ms) (m ∷ inserted k ms)) ≡ product (get_or env k 1) (product (get_or env m 1) (listed env ms))) [
      | true ↦ refl
      | false ↦ ap (product (get_or env m 1)) (listed-inserted env h k ms)
          ∙ product_left_comm (get_or env m 1) (get_or env k 1) (listed env ms) (element_lt env h m) (element_lt env h k) (listed_lt env h ms)
    ]

listed-ordered : (env : List ℕ) → AreElements env → (ks : List ℕ) → listed env (ordered ks) ≡ listed env ks
listed-ordered env h [] = refl
listed-ordered env h (k ∷ ks) = listed-inserted env h k (ordered ks) ∙ ap (product (get_or env k 1)) (listed-ordered env h ks)

normal : (env : List ℕ) → AreElements env → (t : Factors) → value env t ≡ listed env (ordered (flattened t []))
normal env h t =
    sym (times_one (value env t) (value_lt env h t)) ∙ sym (listed-flattened env h t []) ∙ sym (listed-ordered env h (flattened t []))

-- two products of the same factors are equal
pub same_factors : (env : List ℕ) → AreElements env → (s t : Factors) → ordered (flattened s []) ≡ ordered (flattened t []) → value env s ≡ value env t
same_factors env h s t same = normal env h s ∙ ap (listed env) same ∙ sym (normal env h t)
