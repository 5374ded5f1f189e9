use Rattle.std.proofs.Common.{◌∙◌, sym, refl}
use Rattle.snap_top_stops.proofs.StoppedRunsLemmas.{is_there}
use Rattle.snap_top_stops.proofs.stopped_runs.has_content.Goals as goal

pub returns-in-Ok : goal.returns-in-Ok
returns-in-Ok c some = is_there _ _ (c.in-Ok.ensures.found refl) (sym c.is_some.ensures ∙ some)
