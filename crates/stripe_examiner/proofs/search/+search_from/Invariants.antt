use Rattle.std.proofs.Common.{length}
use Rattle.stripe_examiner.proofs.search.+search_from.Given as goal

abbrev pub decreases-search_from : goal.decreases-search_from
decreases-search_from l = length l.levels.now
