use Rattle.std.proofs.Common.{◌≡◌, ℕ, ◌+◌, ◌<◌, ◌++◌, length, slice_index}
use Rattle.md5.specs.Md5.{padded_message}
use Rattle.md5_lanes.proofs.padding.edge.Given as goal

abbrev pub invariant-bytes : goal.invariant-bytes
invariant-bytes l = (length l.out ≡ 64) × ((j : ℕ) → j < l.i → slice_index l.out j ≡ slice_index (padded_message (l.seed ++ l.block)) (l.at + j))
