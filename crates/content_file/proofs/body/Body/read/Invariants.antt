use Rattle.std.proofs.Common.{length, Some}
use Rattle.content_file.specs.Body.{GoesOn}
use Rattle.content_file.proofs.body.Body.read.Given as goal

abbrev pub invariant-loop-alloc : goal.invariant-loop-alloc
invariant-loop-alloc l = GoesOn (Some l.fn.self) l.bytes (Some l.self) l.rest

abbrev pub decreases-loop-alloc : goal.decreases-loop-alloc
decreases-loop-alloc l = length l.rest
