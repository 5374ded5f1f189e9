-- Bytes of lost columns that are recovered part by part.
use Rattle.std.proofs.Common.{◌≡◌, ◌≢◌, ℕ, ◌+◌, ◌-◌, ◌*◌, ◌<◌, ◌≤◌, ◌⊎◌, List, add-one, length, get_or, set, length-set, get_or-set_same, get_or-set_other, refl, sym, ap, ◌∙◌, inl, inr, arith}
use Rattle.std.proofs.lemmas.Bool.{cases_lt, cases_eq}
use Rattle.std.proofs.Math.Nat.{mul-le-mul_right}
use Rattle.std.specs.Int.Bits.{bit_xor}
use Rattle.gf256.specs.Field.{product, sum_below}
use Rattle.gf256.proofs.Theorems.{product_comm}
use Rattle.cauchy.specs.Lanes.{StoresFrom}
use Rattle.cauchy.specs.Solving.{recovered, RecoversWithin}
use Rattle.cauchy.specs.System.{byte_in}
use Rattle.cauchy.proofs.Sums.{sum_below-same}

-- nothing is recovered yet
pub RecoversWithin-none : (start end block count : ℕ) (m : ℕ → ℕ → ℕ) (old : List ℕ) → RecoversWithin start end 0 block count m old old
RecoversWithin-none start end block count m old =
    record {
      same_length = refl;
      within = λ p j low high hj. absurd (omega arith);
      before = λ p j hp hj. refl;
      after = λ p j low hp hj. refl;
      later = λ p j hp low hj. refl;
    }

pub RecoversWithin-empty : (start block count : ℕ) (m : ℕ → ℕ → ℕ) (old : List ℕ) → RecoversWithin start start count block count m old old
RecoversWithin-empty start block count m old =
    record {
      same_length = refl;
      within = λ p j low high hj. absurd (omega arith);
      before = λ p j hp hj. refl;
      after = λ p j low hp hj. refl;
      later = λ p j hp low hj. refl;
    }

pub recovered-same : (m : ℕ → ℕ → ℕ) (count : ℕ) (one other : ℕ → ℕ) (j : ℕ) → ((i : ℕ) → i < count → one i ≡ other i) → recovered m count one j ≡ recovered m count other j
recovered-same m count one other j same =
    sum_below-same (λ i. product (m i j) (one i)) (λ i. product (m i j) (other i)) count (λ i h. ap (product (m i j)) (same i h))

-- one more level
pub recovered-more : (m : ℕ → ℕ → ℕ) (count : ℕ) (given : ℕ → ℕ) (j : ℕ)
    → recovered m (count + 1) given j ≡ bit_xor (recovered m count given j) (product (m count j) (given count))
recovered-more m count given j = ap (λ (n : ℕ). recovered m n given j) (add-one count)

-- one part of each block, and the next
pub RecoversWithin-then : (start middle end block count : ℕ) (m : ℕ → ℕ → ℕ) (old half new : List ℕ) → start ≤ middle → middle ≤ end → end ≤ block
    → RecoversWithin start middle count block count m old half → RecoversWithin middle end count block count m half new
    → RecoversWithin start end count block count m old new
RecoversWithin-then start middle end block count m old half new low high most first second =
    record {
      same_length = second.same_length ∙ first.same_length;
      within = λ p j from to hj.
          elim (cases_lt p middle) [
            | inl below ↦ second.before p j below hj ∙ first.within p j from below hj
            | inr above ↦
                second.within p j above to hj
                ∙ recovered-same m count (byte_in block half p) (byte_in block old p) j (λ i hi. first.after p i above (omega arith) hi)
          ];
      before = λ p j hp hj. second.before p j (omega arith) hj ∙ first.before p j hp hj;
      after = λ p j from hp hj. second.after p j from hp hj ∙ first.after p j (omega arith) hp hj;
      later = λ p j hp from hj. absurd (omega arith);
    }

-- ---- a part of one block more

pub block_within : (block j k : ℕ) → j < k → j * block + block ≤ k * block
block_within block j k h = omega (arith, mul-le-mul_right {m = j + 1} {n = k} block (omega arith))

-- a place in another block lies before or after this part of block j
pub apart_places : (block j k p q width : ℕ) → p + width ≤ block → q < block → k ≢ j
    → (k * block + q < j * block + p) ⊎ (j * block + p + width ≤ k * block + q)
apart_places block j k p q width fits hq apart =
    elim (cases_lt k j) [
      | inl below ↦ inl (omega (arith, block_within block k j below))
      | inr above ↦ let over : j < k = omega arith in inr (omega (arith, block_within block j k over))
    ]

module _ (start end width block count j : ℕ) (m : ℕ → ℕ → ℕ) (old half new : List ℕ) (values : ℕ → ℕ) (fits : start + width ≤ block) (size : end ≡ start + width) (hj : j < count)
    (stored : StoresFrom (j * block + start) width values half new) where
  other_block : (p k : ℕ) → p < block → k ≢ j → byte_in block new p k ≡ byte_in block half p k
  other_block p k hp apart =
      elim (apart_places block j k start p width fits hp apart) [
        | inl below ↦ stored.before (k * block + p) below
        | inr above ↦ stored.after (k * block + p) above
      ]

  other_place : (p k : ℕ) → p < block → (p < start) ⊎ (end ≤ p) → byte_in block new p k ≡ byte_in block half p k
  other_place p k hp outside =
      elim (cases_eq k j) [
        | inl same ↦
            elim outside [
              | inl below ↦ stored.before (k * block + p) (rw same (omega arith))
              | inr above ↦ stored.after (k * block + p) (rw same (omega arith))
            ]
        | inr apart ↦ other_block p k hp apart
      ]

  pub RecoversWithin-column : ((k : ℕ) → k < width → values k ≡ recovered m count (byte_in block old (start + k)) j)
      → RecoversWithin start end j block count m old half → RecoversWithin start end (j + 1) block count m old new
  RecoversWithin-column made sofar =
      record {
        same_length = stored.same_length ∙ sofar.same_length;
        within = λ p k low high hk.
            elim (cases_lt k j) [
              | inl earlier ↦
                  let apart : k ≢ j = omega arith in
                  other_block p k (omega arith) apart ∙ sofar.within p k low high earlier
              | inr this ↦
                  let same : k ≡ j = omega arith in
                  let here : start + (p - start) ≡ p = omega arith in
                  let place : j * block + start + (p - start) ≡ j * block + p = omega arith in
                  ap (byte_in block new p) same ∙ ap (λ (x : ℕ). get_or new x 0) (sym place) ∙ stored.within (p - start) (omega arith)
                  ∙ made (p - start) (omega arith) ∙ ap (λ (x : ℕ). recovered m count (byte_in block old x) j) here
                  ∙ ap (recovered m count (byte_in block old p)) (sym same)
            ];
        before = λ p k hp hk. other_place p k (omega arith) (inl hp) ∙ sofar.before p k hp hk;
        after = λ p k from hp hk. other_place p k hp (inr from) ∙ sofar.after p k from hp hk;
        later = λ p k hp from hk.
            let apart : k ≢ j = omega arith in other_block p k hp apart ∙ sofar.later p k hp (omega arith) hk;
      }

-- one byte that is written
pub StoresFrom-set : (start x : ℕ) (half : List ℕ) → start < length half → StoresFrom start 1 (λ k. x) half (set half start x)
StoresFrom-set start x half within =
    record {
      same_length = length-set half start x;
      within = λ k h. let here : start + k ≡ start = omega arith in ap (λ (p : ℕ). get_or (set half start x) p 0) here ∙ get_or-set_same half start x 0 within;
      before = λ k h. let other : k ≢ start = omega arith in get_or-set_other half start k x 0 other;
      after = λ k h. let other : k ≢ start = omega arith in get_or-set_other half start k x 0 other;
    }

-- the factors of each product change places
pub recovered-turned : (n : ℕ) (m : ℕ → ℕ → ℕ) (given : ℕ → ℕ) (j : ℕ) → ((i : ℕ) → i < n → m i j < 256) → ((i : ℕ) → i < n → given i < 256)
    → recovered m n given j ≡ sum_below (λ i. product (given i) (m i j)) n
recovered-turned n m given j elements bytes =
    sum_below-same (λ i. product (m i j) (given i)) (λ i. product (given i) (m i j)) n
    (λ i hi. product_comm (m i j) (given i) (elements i hi) (bytes i hi))
