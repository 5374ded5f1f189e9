use Rattle.std.proofs.Common.{sym, ◌∙◌}
use Rattle.snap_top_instances.proofs.SaidLemmas.{not_set}
use Rattle.snap_top_refusals.proofs.unheard.has_whole_level.Goals as goal

pub returns-clause-whole : goal.returns-clause-whole
returns-clause-whole c whole = sym c.has_split.ensures ∙ not_set c.has_split.result whole
