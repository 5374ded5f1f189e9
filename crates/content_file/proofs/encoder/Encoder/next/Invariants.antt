use Rattle.std.proofs.Common.{◌≡◌, ◌-◌, ◌≤◌, ◌++◌, length, take}
use Rattle.content_file.proofs.encoder.Encoder.next.Given as goal

abbrev pub invariant-loop-filled : goal.invariant-loop-filled
invariant-loop-filled l = record { long : length l.out ≡ length l.fn.out; within : l.filled ≤ length l.fn.out; given : take l.filled l.out ++ l.self ≡ l.fn.self }

abbrev pub decreases-loop-filled : goal.decreases-loop-filled
decreases-loop-filled l = length l.initial.out - l.filled
