use Rattle.std.proofs.Common.{◌∙◌}
use Rattle.snap_top_breaks.proofs.front_of_sync.run_broken.Goals as goal

pub returns-clause-some : goal.returns-clause-some
returns-clause-some g c none = c.says_else.ensures c.if-not-says_else.false (c.as_slice-2.ensures.value ∙ none)
