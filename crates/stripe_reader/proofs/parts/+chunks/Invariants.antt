use Rattle.std.proofs.Common.{◌+◌, ◌*◌, length}
use Rattle.stripe_reader.proofs.parts.+chunks.Given as goal

abbrev pub decreases-each_chunk : goal.decreases-each_chunk
decreases-each_chunk g l = 4 * length l.s.now

abbrev pub decreases-last_beside : goal.decreases-last_beside
decreases-last_beside g l = 4 * length l.front.now + 2

abbrev pub decreases-last_beside-others : goal.decreases-last_beside-others
decreases-last_beside-others g l = 4 * length l.front.now + 1
