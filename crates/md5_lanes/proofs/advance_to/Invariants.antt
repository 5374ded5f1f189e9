use Rattle.std.proofs.Common.{◌≡◌, ℕ, ◌<◌, ◌++◌}
use Rattle.md5.specs.Md5.{hash_after, padded_message}
use Rattle.md5_lanes.specs.Lanes.{lane, bytes_of}
use Rattle.md5_lanes.proofs.advance_to.Given as goal

abbrev pub invariant-chunks : goal.invariant-chunks
invariant-chunks l = (i : ℕ) → i < 8 → lane l.fn.state i ≡ hash_after (padded_message (l.seed ++ bytes_of l.blocks i)) l.from
    → lane l.s i ≡ hash_after (padded_message (l.seed ++ bytes_of l.blocks i)) l.k
