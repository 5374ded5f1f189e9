-- A set of positions as bits of words, 64 positions a word, and the tree that finds the lowest free one.
use Rattle.std.specs.Prelude.{◌≡◌, ◌≢◌, ℕ, ◌+◌, ◌*◌, ◌/◌, ◌%◌, ◌<◌, ◌≤◌, ◌==◌, Bool, List, length, slice_index, filter, min}
use Rattle.std.specs.Int.{bit_at}
use Rattle.std.specs.List.{range_with_len}
use Rattle.std.specs.Ordering.{nat_cmp}
use Rattle.std.specs.FinSet.{FinSet, from_list}

-- the bit of a position is set
abbrev pub is_taken : List ℕ → ℕ → Bool
is_taken words p = bit_at (slice_index words (p / 64)) (p % 64) == 1

-- the positions whose bits are set
unfoldable pub taken_of : List ℕ → FinSet nat_cmp
taken_of words = from_list (filter (is_taken words) (range_with_len 0 (64 * length words)))

-- x is the lowest free position of word w, or the greatest u32 where the word is full
pub record IsLowestIn (w word x : ℕ) : Type 0 where
  pub below : (k : ℕ) → k < 64 → 64 * w + k < x → bit_at word k ≡ 1
  pub free : x < 4294967295 → (x / 64 ≡ w) × (bit_at word (x % 64) ≡ 0)

-- each inner node of a tree, but one, has the lesser of its two children. Node i has the children 2 i and 2 i + 1, and the
-- leaves are the nodes from count on
abbrev pub NodesHoldBut : ℕ → ℕ → List ℕ → Type 0
NodesHoldBut except count tree =
    (i : ℕ) → 1 ≤ i → i < count → i ≢ except → slice_index tree i ≡ min (slice_index tree (2 * i)) (slice_index tree (2 * i + 1))

-- leaf w has the lowest free position of word w
abbrev pub LeavesHold : List ℕ → List ℕ → Type 0
LeavesHold words tree =
    (w : ℕ) → w < length words → IsLowestIn w (slice_index words w) (slice_index tree (length words + w))

-- the tree of the words. Node 0 is none
pub record IsTree (words tree : List ℕ) : Type 0 where
  pub small : length words ≤ 2097152
  pub size : length tree ≡ 2 * length words
  pub nodes : NodesHoldBut 0 (length words) tree
  pub leaves : LeavesHold words tree
