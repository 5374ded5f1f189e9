use Rattle.std.proofs.Common.{chars}
use Rattle.array_setup.proofs.GlobLemmas.{first_strip-here}
use Rattle.array_setup.proofs.glob.first_strip.Goals as goal

pub returns-in-Some : goal.returns-in-Some
returns-in-Some c = first_strip-here c.args.part.now c.args.name.now c.loop-left.rest.now (chars c.in-Some.left.now) c.loop-left.invariant c.in-Some.ensures
