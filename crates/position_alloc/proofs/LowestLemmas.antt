-- A finite set has a least number that it does not hold, and only one.
use Rattle.std.proofs.Common.{◌≡◌, ◌≢◌, ◌&&◌, eqb, ℕ, zero, suc, ◌+◌, ◌-◌, ◌<◌, ◌≤◌, Bool, true, false, cond, not, refl, ap, ◌∙◌, inl, inr, arith}
use Rattle.std.proofs.lemmas.Bool.{cases_lt, eqb-true, eq-eqb}
use Rattle.std.specs.Cmp.{nat_cmp_total, unsigned_tied}
use Rattle.std.specs.Ordering.{nat_cmp, eq_by_cmp}
use Rattle.std.specs.FinSet.{FinSet, contains, len, empty, remove, empty_of_len, contains-empty, contains-remove, len-remove}
use Rattle.position_alloc.specs.Lowest.{free_from, lowest_free, IsLowestFree}

-- numbers tie in their order where they are equal
pub tied_same : (q p : ℕ) → q ≡ p → eq_by_cmp nat_cmp q p ≡ true
tied_same q p same = unsigned_tied q p ∙ eq-eqb q p same

pub tied_apart : (q p : ℕ) → q ≢ p → eq_by_cmp nat_cmp q p ≡ false
tied_apart q p apart =
    (elim (eqb q p) as (λ (b : Bool). eqb q p ≡ b → eq_by_cmp nat_cmp q p ≡ false) [
      | true ↦ λ same. absurd (apart (eqb-true q p same))
      | false ↦ λ other. unsigned_tied q p ∙ other
    ]) refl

-- a set with a member is not empty
some_member : (s : FinSet nat_cmp) (p : ℕ) → contains s p ≡ true → 0 < len s
some_member s p there =
    elim (cases_lt 0 (len s)) [
      | inl more ↦ more
      | inr none ↦
          let bare : s ≡ empty = empty_of_len s (omega arith) in
          let absent : contains s p ≡ false = ap (λ (t : FinSet nat_cmp). contains t p) bare ∙ contains-empty nat_cmp p in
          cc
    ]

-- a set that holds the first n numbers has as many
pub holds_first : (n : ℕ) (s : FinSet nat_cmp) → ((q : ℕ) → q < n → contains s q ≡ true) → n ≤ len s
holds_first zero s all = omega arith
holds_first (suc n) s all =
    let there : contains s n ≡ true = all n (omega arith) in
    let shorter : len (remove s n) ≡ len s - 1 = len-remove nat_cmp_total s n ∙ ap (λ (b : Bool). cond b (len s - 1) (len s)) there in
    let rest : n ≤ len (remove s n) = holds_first n (remove s n) (λ q h. still q h) in
    omega (arith, some_member s n there)
  where
    still : (q : ℕ) → q < n → contains (remove s n) q ≡ true
    still q h =
        let apart : q ≢ n = omega arith in
        contains-remove nat_cmp_total s n q ∙ ap (λ (b : Bool). not b && contains s q) (tied_apart q n apart) ∙ all q (omega arith)

-- what the search from k on finds
record IsFound (s : FinSet nat_cmp) (k n p : ℕ) : Type 0 where
  low : k ≤ p
  high : p ≤ k + n
  free : p < k + n → contains s p ≡ false
  before : (q : ℕ) → k ≤ q → q < p → contains s q ≡ true

found : (s : FinSet nat_cmp) (k n : ℕ) → IsFound s k n (free_from s k n)
found s k zero = record { low = omega arith; high = omega arith; free = λ h. absurd (omega arith); before = λ q low high. absurd (omega arith) }
found s k (suc n) =
    (elim (contains s k) as (λ (b : Bool). contains s k ≡ b → IsFound s k (suc n) (cond b (free_from s (k + 1) n) k)) [
      | true ↦ λ there.
          let rest = found s (k + 1) n in
          record {
            low = omega (arith, rest.low);
            high = omega (arith, rest.high);
            free = λ h. rest.free (omega arith);
            before = λ q low high.
                elim (cases_lt k q) [
                  | inl later ↦ rest.before q (omega arith) high
                  | inr first ↦ let same : q ≡ k = omega arith in ap (contains s) same ∙ there
                ];
          }
      | false ↦ λ absent.
          record { low = omega arith; high = omega arith; free = λ h. absent; before = λ q low high. absurd (omega arith) }
    ]) refl

pub is_lowest : (s : FinSet nat_cmp) → IsLowestFree s (lowest_free s)
unfolding lowest_free
is_lowest s =
    let search = found s 0 (len s) in
    let p : ℕ = free_from s 0 (len s) in
    record {
      free =
          (elim (contains s p) as (λ (b : Bool). contains s p ≡ b → b ≡ false) [
            | false ↦ λ absent. refl
            | true ↦ λ there. absurd (omega (arith, holds_first (p + 1) s (λ q h. up_to q h there), last there))
          ]) refl;
      below = λ q h. search.before q (omega arith) h;
    }
  where
    last : contains s (free_from s 0 (len s)) ≡ true → len s ≤ free_from s 0 (len s)
    last there =
        elim (cases_lt (free_from s 0 (len s)) (len s)) [
          | inl below ↦
              let absent : contains s (free_from s 0 (len s)) ≡ false = (found s 0 (len s)).free (omega arith) in
              cc
          | inr above ↦ above
        ]

    up_to : (q : ℕ) → q < free_from s 0 (len s) + 1 → contains s (free_from s 0 (len s)) ≡ true → contains s q ≡ true
    up_to q h there =
        elim (cases_lt q (free_from s 0 (len s))) [
          | inl below ↦ (found s 0 (len s)).before q (omega arith) below
          | inr above ↦ let same : q ≡ free_from s 0 (len s) = omega arith in ap (contains s) same ∙ there
        ]

pub at_most : (s : FinSet nat_cmp) → lowest_free s ≤ len s
unfolding lowest_free
at_most s = omega (arith, (found s 0 (len s)).high)

no_less : (s : FinSet nat_cmp) (p q : ℕ) → IsLowestFree s p → IsLowestFree s q → p ≤ q
no_less s p q one other =
    elim (cases_lt q p) [
      | inl below ↦
          let there : contains s q ≡ true = one.below q below in
          let absent : contains s q ≡ false = other.free in
          cc
      | inr above ↦ above
    ]

pub only_lowest : (s : FinSet nat_cmp) (p : ℕ) → IsLowestFree s p → p ≡ lowest_free s
only_lowest s p is = omega (arith, no_less s p (lowest_free s) is (is_lowest s), no_less s (lowest_free s) p (is_lowest s) is)

-- below a bound, where fewer are taken
pub lowest_lt : (s : FinSet nat_cmp) (bound : ℕ) → len s < bound → lowest_free s < bound
lowest_lt s bound h = omega (arith, at_most s)
