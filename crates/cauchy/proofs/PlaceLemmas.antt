-- Bytes of blocks that stand end to end.
use Rattle.std.proofs.Common.{◌≡◌, ◌≢◌, ℕ, ◌+◌, ◌*◌, ◌<◌, List, length, set, refl, get_or-set_other, get_or-set_same, arith}
use Rattle.std.proofs.lemmas.Nat.{mul-add-lt, same_from_place}
use Rattle.cauchy.specs.System.{byte_in}

-- the place of a byte is within the blocks
pub place_within : (work : List ℕ) (count block j p : ℕ) → length work ≡ count * block → j < count → p < block → j * block + p < length work
place_within work count block j p size hj hp = omega (arith, mul-add-lt j block p count hj hp)

-- a byte that was written
pub byte_in-set_same : (work : List ℕ) (count block j p x : ℕ) → length work ≡ count * block → j < count → p < block
    → byte_in block (set work (j * block + p) x) p j ≡ x
byte_in-set_same work count block j p x size hj hp =
    let within : j * block + p < length work = place_within work count block j p size hj hp in rw get_or-set_same refl

-- a byte of another block
pub byte_in-set_block : (work : List ℕ) (block j k p x : ℕ) → p < block → k ≢ j → byte_in block (set work (j * block + p) x) p k ≡ byte_in block work p k
byte_in-set_block work block j k p x hp apart =
    let other : k * block + p ≢ j * block + p = λ same. apart (same_from_place k p j p block hp hp same).0 in rw get_or-set_other refl

-- a byte at another place of a block
pub byte_in-set_place : (work : List ℕ) (block j k p q x : ℕ) → p < block → q < block → q ≢ p → byte_in block (set work (j * block + p) x) q k ≡ byte_in block work q k
byte_in-set_place work block j k p q x hp hq apart =
    let other : k * block + q ≢ j * block + p = λ same. apart (same_from_place k q j p block hq hp same).1 in rw get_or-set_other refl
