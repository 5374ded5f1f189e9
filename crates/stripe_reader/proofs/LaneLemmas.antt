-- The slots of lanes by their numbers, and their digests.
use Rattle.std.proofs.Common.{zero, suc, ◌≡◌, ◌⊎◌, ℕ, ◌+◌, ◌-◌, ◌*◌, ◌/◌, ◌%◌, ◌<◌, ◌≤◌, List, [], ◌∷◌, length, take, drop, set, get_or, slice_index, Option, None, true, false, inl, inr, sym, ap, ap₂, ◌∙◌, subst, arith}
use Rattle.std.specs.Borrow.{Bor}
use Rattle.std.specs.List.{All, AllZip}
use Rattle.std.specs.Option.{is_some}
use Rattle.std.proofs.lemmas.Bool.{cases_lt}
use Rattle.std.proofs.lemmas.Bool.Decides.{eqb_tells}
use Rattle.std.proofs.lemmas.List.{get_or_default, get_or-drop, get_or-take, get_or-set_same, get_or-set_other, length-set, length-take, length-take-le}
use Rattle.std.proofs.lemmas.List.Elements.{All-from_get_or}
use Rattle.std.proofs.lemmas.Nat.{div_below, div-mul-add, mod_below, mod-mul-add}
use Rattle.block_hash.specs.declared.Digest16.{Digest16}
use Rattle.file_table.specs.declared.shape.Shape.{Shape}
use Rattle.stripe_reader.specs.Fetched.{IsUnhashedFront}
use Rattle.stripe_reader.specs.HashedLanes.{AreDigests, AreSlotDigests, AreSomeDigests, IsNumber, digest_at, lane_in, numbered}
use Rattle.stripe_reader.specs.Hashing.{IsUnhashed, found_bytes, hashed, slot_in}
use Rattle.stripe_reader.specs.SlotValue.{SlotValue}
use Rattle.stripe_reader.specs.WindowValue.{no_slot}

module _ (shape : Shape) (count : ℕ) (lanes : List (List SlotValue)) (were : All (IsUnhashedFront shape.block_size count) lanes) where
  -- ---- the slots of numbers

  pub number_is : (at : ℕ) → at < length lanes * count → IsNumber count lanes at
  number_is at lt =
      let some : 0 < count = some_count count (length lanes) at lt in
      let lane : at / count < length lanes = div_below at count (length lanes) some lt in
      let front : at % count < count = mod_below at count some in
      let room = (were (at / count) [] lane).enough in
      record { within = lt; lane = lane; front = front; slot = omega (arith, front, room) }
    where
      some_count : (count many at : ℕ) → at < many * count → 0 < count
      some_count zero many at lt = absurd (omega arith)
      some_count (suc count) many at lt = omega arith

  pub unhashed_at : (at : ℕ) → IsNumber count lanes at → IsUnhashed shape.block_size (numbered lanes count at)
  unhashed_at at number =
      let lane = get_or lanes (at / count) [] in
      let front = were (at / count) [] number.lane in
      subst (IsUnhashed shape.block_size) (get_or-take count lane (at % count) no_slot number.front)
      (front.unhashed (at % count) no_slot (omega (arith, number.front, front.enough, length-take count lane)))

  -- so many bytes came of its block as the block has, or fewer
  pub came_at : (at : ℕ) → IsNumber count lanes at → (numbered lanes count at).cell.got ≤ length (numbered lanes count at).block
  came_at at number = let slot = unhashed_at at number in omega (arith, slot.got, slot.block)

  -- what was lent of their blocks is no longer than a block
  pub lent_short : (eight : List ℕ) (blocks : List (Bor (List ℕ))) → All (IsNumber count lanes) eight → length blocks ≡ length eight
      → ((j : ℕ) (none : Bor (List ℕ)) → j < length blocks → (get_or blocks j none).now ≡ found_bytes (numbered lanes count (get_or eight j 0)))
      → All (λ (block : Bor (List ℕ)). length block.now ≤ shape.block_size) blocks
  lent_short eight blocks numbers as_many are = λ j none lt.
      let at : ℕ = get_or eight j 0 in
      let number = numbers j 0 (omega (arith, lt, as_many)) in
      let slot = numbered lanes count at in
      omega (arith, ap length (are j none lt), length-take-le slot.cell.got slot.block (came_at at number), (unhashed_at at number).got)

-- ---- digests, one of which is made

module _ (shape : Shape) (count : ℕ) (lanes : List (List SlotValue)) (start : ℕ) (digests : List (Option Digest16)) (i : ℕ) (new : Option Digest16)
    (within : i < length digests) (is : new ≡ digest_at shape count lanes (start + i)) where
  pub some_set : AreSomeDigests shape count lanes start digests → AreSomeDigests shape count lanes start (set digests i new)
  some_set some k other lt = elim (eqb_tells k i) [
    | inl same ↦
        subst (λ (n : ℕ). (get_or (set digests i new) n other ≡ None) ⊎ (get_or (set digests i new) n other ≡ digest_at shape count lanes (start + n))) (sym same.1)
        (inr (get_or-set_same digests i new other within ∙ is))
    | inr apart ↦
        subst (λ (it : Option Digest16). (it ≡ None) ⊎ (it ≡ digest_at shape count lanes (start + k))) (sym (get_or-set_other digests i k new other apart.1))
        (some k other (omega (arith, lt, length-set digests i new)))
  ]

  pub made_set : ((k : ℕ) (other : Option Digest16) → k < i → get_or digests k other ≡ digest_at shape count lanes (start + k))
      → (k : ℕ) (other : Option Digest16) → k < i + 1 → get_or (set digests i new) k other ≡ digest_at shape count lanes (start + k)
  made_set made k other lt = elim (eqb_tells k i) [
    | inl same ↦
        subst (λ (n : ℕ). get_or (set digests i new) n other ≡ digest_at shape count lanes (start + n)) (sym same.1)
        (get_or-set_same digests i new other within ∙ is)
    | inr apart ↦ get_or-set_other digests i k new other apart.1 ∙ made k other (omega (arith, lt, apart.1))
  ]

-- one that was made before
pub made_before : (shape : Shape) (count : ℕ) (lanes : List (List SlotValue)) (start : ℕ) (digests : List (Option Digest16)) (i : ℕ) → i < length digests → AreSomeDigests shape count lanes start digests
    → is_some (get_or digests i None) ≡ true → ((k : ℕ) (other : Option Digest16) → k < i → get_or digests k other ≡ digest_at shape count lanes (start + k))
    → (k : ℕ) (other : Option Digest16) → k < i + 1 → get_or digests k other ≡ digest_at shape count lanes (start + k)
made_before shape count lanes start digests i within some there made k other lt = elim (eqb_tells k i) [
  | inl same ↦
      subst (λ (n : ℕ). get_or digests n other ≡ digest_at shape count lanes (start + n)) (sym same.1)
      (elim (some i other within) [
        | inl none ↦
            let gone : false ≡ true = subst (λ (it : Option Digest16). is_some it ≡ true) (get_or_default digests i None other within ∙ none) there in
            absurd cc
        | inr is ↦ is
      ])
  | inr apart ↦ made k other (omega (arith, lt, apart.1))
]

-- the digests of the front of a lane
pub front_digests : (shape : Shape) (count : ℕ) (lanes : List (List SlotValue)) (digests : List (Option Digest16)) (k : ℕ) (slots : List SlotValue) → slots ≡ lane_in lanes k
    → AreDigests shape count lanes 0 digests → k * count + count ≤ length digests → AreSlotDigests shape slots (take (k * count + count - k * count) (drop (k * count) digests))
front_digests shape count lanes digests k slots is are within i other lt =
    let low : i < k * count + count - k * count = omega (arith, lt, length-take (k * count + count - k * count) (drop (k * count) digests)) in
    let below : i < count = omega (arith, low) in
    let lane : lane_in lanes ((k * count + i) / count) ≡ slots = ap (lane_in lanes) (div-mul-add k count i below) ∙ sym is in
    let slot : numbered lanes count (k * count + i) ≡ slot_in slots i = ap₂ slot_in lane (mod-mul-add k count i below) in
    let place : 0 + (k * count + i) ≡ k * count + i = omega arith in
    get_or-take (k * count + count - k * count) (drop (k * count) digests) i other low ∙ get_or-drop (k * count) digests i other
    ∙ are (k * count + i) other (omega (arith, below, within)) ∙ ap (λ (it : SlotValue). (hashed shape it).digest) (ap (numbered lanes count) place ∙ slot)

-- ---- up to eight numbers that were found, and one more

module _ (P : ℕ → Type 0) where
  pub more_found : (found at : ℕ) (eight numbers : List ℕ) → P at → ((k : ℕ) → k < 8 → 0 < found → P (slice_index eight k))
      → ((k : ℕ) → k < found → slice_index numbers k ≡ slice_index eight k) → ((k : ℕ) → found ≤ k → k < 8 → slice_index numbers k ≡ at)
      → (k : ℕ) → k < 8 → P (slice_index numbers k)
  more_found found at eight numbers one so_far before behind k lt = elim (cases_lt k found) [
    | inl near ↦ subst P (sym (before k near)) (so_far k lt (omega (arith, near)))
    | inr far ↦ subst P (sym (behind k far lt)) one
  ]

  pub all_eight : (numbers : List ℕ) → length numbers ≡ 8 → ((k : ℕ) → k < 8 → P (slice_index numbers k)) → All P numbers
  all_eight numbers long each = All-from_get_or P numbers 0 (λ k lt. each k (omega (arith, lt, long)))

-- one of two lists of as many, place by place
zip_get : {A B : Type 0} (R : A → B → Type 0) (xs : List A) (ys : List B) (k : ℕ) (none : A) (other : B) → AllZip R xs ys → k < length xs → R (get_or xs k none) (get_or ys k other)
zip_get R [] ys k none other each below = absurd (omega (arith, below))
zip_get R (x ∷ xs) [] k none other each below = absurd each
zip_get R (x ∷ xs) (y ∷ ys) zero none other each below = each.0
zip_get R (x ∷ xs) (y ∷ ys) (suc k) none other each below = zip_get R xs ys k none other each.1 (omega (arith, below))

pub zip_at : {A B : Type 0} (R : A → B → Type 0) (Q : B → Type 0) (xs : List A) (ys : List B) (k : ℕ) (other : B) → AllZip R xs ys → k < length xs → ((none : A) → R (get_or xs k none) (get_or ys k other) → Q (get_or ys k other)) → Q (get_or ys k other)
zip_at R Q [] ys k other each below next = absurd (omega (arith, below))
zip_at R Q (x ∷ xs) ys k other each below next = next x (zip_get R (x ∷ xs) ys k x other each below)
