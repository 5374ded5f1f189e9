-- Eight states at once, and eight blocks: what one lane of them is.
use Rattle.std.specs.Prelude.{ℕ, ◌<◌, List, [], ◌∷◌, map, slice_index, slice_index_or}
use Rattle.std.specs.Borrow.{Bor}
use Rattle.md5_lanes.specs.declared.state.State.{State}

-- something holds of the number of each lane
abbrev pub EachLane : (ℕ → Type 0) → Type 0
EachLane P = (i : ℕ) → i < 8 → P i

-- the state in lane i
abbrev pub lane : State → ℕ → List ℕ
lane state i =
    slice_index state.a i ∷ slice_index state.b i ∷ slice_index state.c i ∷ slice_index state.d i ∷ []

-- the words in lane i
abbrev pub lane_words : List (List ℕ) → ℕ → List ℕ
lane_words words i = map (λ lanes. slice_index lanes i) words

-- the bytes of block i
abbrev pub bytes_of : List (Bor (List ℕ)) → ℕ → List ℕ
bytes_of blocks i = slice_index_or (map (λ block. block.now) blocks) i []
