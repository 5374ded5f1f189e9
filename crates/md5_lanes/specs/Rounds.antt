-- Steps of the compression function on eight states at once.
use Rattle.std.specs.Prelude.{◌≡◌, ℕ, List}
use Rattle.md5.specs.Md5.{rounds}
use Rattle.md5_lanes.specs.Lanes.{EachLane, lane, lane_words}
use Rattle.md5_lanes.specs.declared.state.State.{State}

-- the state in each lane goes from what `from` steps made of some state to what `to` steps make of it
abbrev pub Advances : List (List ℕ) → State → State → ℕ → ℕ → Type 0
Advances words before after from to = (start : List ℕ) → EachLane (λ i.
    lane before i ≡ rounds start (lane_words words i) from → lane after i ≡ rounds start (lane_words words i) to)
