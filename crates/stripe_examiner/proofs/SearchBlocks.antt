-- Blocks that stand end to end.
use Rattle.std.proofs.Common.{◌≡◌, ℕ, zero, suc, ◌+◌, ◌*◌, ◌<◌, ◌≤◌, List, [], ◌∷◌, ◌++◌, length, get_or, drop, ap, ◌∙◌, arith, length-append}
use Rattle.std.specs.List.{All, flat_map}
use Rattle.std.proofs.Math.Nat.{mul-le-mul_right}
use Rattle.std.proofs.lemmas.List.{get_or-take, get_or-drop, get_or_append_left, get_or-append-add, length-take, length-drop}
use Rattle.std.proofs.lemmas.List.Elements.{All-head, All-tail, All-weaker}
use Rattle.cauchy.specs.System.{byte_in}
use Rattle.stripe_examiner.specs.Search.{block_in, given}

-- one of so many blocks lies within them
pub place_within : (size n j : ℕ) → j < n → j * size + size ≤ n * size
place_within size n j less = omega (arith, mul-le-mul_right {m = j + 1} {n = n} size (omega arith))

pub length-block_in : (size n : ℕ) (bytes : List ℕ) (j : ℕ) → length bytes ≡ n * size → j < n → length (block_in size bytes j) ≡ size
length-block_in size n bytes j long less =
    let within = place_within size n j less in
    omega (arith, length-take size (drop (j * size) bytes), length-drop (j * size) bytes, long, within)

pub block_byte : (size : ℕ) (bytes : List ℕ) (j p : ℕ) → p < size → get_or (block_in size bytes j) p 0 ≡ byte_in size bytes p j
block_byte size bytes j p less = get_or-take size (drop (j * size) bytes) p 0 less ∙ get_or-drop (j * size) bytes p 0

-- ---- blocks of one size that are joined

module _ (block : ℕ → List ℕ) (size : ℕ) where
  abbrev pub IsLong : ℕ → Type 0
  IsLong x = length (block x) ≡ size

  pub length-joined : (xs : List ℕ) → All IsLong xs → length (flat_map block xs) ≡ length xs * size
  length-joined [] each = omega arith
  length-joined (x ∷ xs) each =
      let first : length (block x) ≡ size = All-head IsLong x xs each in
      let rest = length-joined xs (All-tail IsLong x xs each) in
      omega (arith, length-append (block x) (flat_map block xs), first, rest)

  pub joined_byte : (xs : List ℕ) → All IsLong xs → (i p : ℕ) → i < length xs → p < size
      → byte_in size (flat_map block xs) p i ≡ get_or (block (get_or xs i 0)) p 0
  joined_byte [] each i p hi hp = absurd (omega arith)
  joined_byte (x ∷ xs) each zero p hi hp =
      let first : length (block x) ≡ size = All-head IsLong x xs each in
      let here : 0 * size + p ≡ p = omega arith in
      ap (λ (at : ℕ). get_or (block x ++ flat_map block xs) at 0) here
      ∙ get_or_append_left (block x) (flat_map block xs) 0 p (omega arith)
  joined_byte (x ∷ xs) each (suc i) p hi hp =
      let first : length (block x) ≡ size = All-head IsLong x xs each in
      let there : suc i * size + p ≡ length (block x) + (i * size + p) = omega (arith, first) in
      ap (λ (at : ℕ). get_or (block x ++ flat_map block xs) at 0) there
      ∙ get_or-append-add (block x) (flat_map block xs) (i * size + p) 0
      ∙ joined_byte xs (All-tail IsLong x xs each) i p (omega arith) hp

-- ---- the remainders of the chosen levels

pub each_long : (size : ℕ) (remainders choice : List ℕ) → length remainders ≡ 6 * size → All (λ level. level < 6) choice
    → All (λ level. length (block_in size remainders level) ≡ size) choice
each_long size remainders choice long below =
    All-weaker (λ level. level < 6) (λ level. length (block_in size remainders level) ≡ size)
    (λ level less. length-block_in size 6 remainders level long less) choice below

pub length-given : (size : ℕ) (remainders choice : List ℕ) → length remainders ≡ 6 * size → All (λ level. level < 6) choice
    → length (given size remainders choice) ≡ length choice * size
length-given size remainders choice long below = length-joined (block_in size remainders) size choice (each_long size remainders choice long below)

pub given_byte : (size : ℕ) (remainders choice : List ℕ) → length remainders ≡ 6 * size → All (λ level. level < 6) choice
    → (i p : ℕ) → i < length choice → p < size → byte_in size (given size remainders choice) p i ≡ byte_in size remainders p (get_or choice i 0)
given_byte size remainders choice long below i p hi hp =
    joined_byte (block_in size remainders) size choice (each_long size remainders choice long below) i p hi hp
    ∙ block_byte size remainders (get_or choice i 0) p hp
