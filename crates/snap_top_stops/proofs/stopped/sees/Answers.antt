use Rattle.disk_memory.specs.Folder.{folder_view}
use Rattle.snap_top_stops.proofs.StoppedLemmas.{kept_trees, seen_none, seen_there}
use Rattle.snap_top_stops.proofs.stopped.sees.Goals as goal

pub returns-in-Some-clause-same : goal.returns-in-Some-clause-same
returns-in-Some-clause-same c =
    kept_trees folder_view _ c.args.disk c.in-Some.folder.now c.sees_in.new.folder c.sees_in.result c.in-Some.ensures.item.3.0 c.in-Some.ensures.value c.sees_in.ensures.same

pub returns-in-Some-clause-there : goal.returns-in-Some-clause-there
returns-in-Some-clause-there c =
    seen_there folder_view _ c.args.disk c.in-Some.folder.now c.args.name.now c.sees_in.result c.in-Some.ensures.item.3.0 c.in-Some.ensures.value c.sees_in.ensures.there

pub returns-in-Some-clause-none : goal.returns-in-Some-clause-none
returns-in-Some-clause-none c =
    seen_none folder_view _ c.args.disk c.in-Some.folder.now c.args.name.now c.sees_in.result c.in-Some.ensures.item.3.0 c.in-Some.ensures.value c.sees_in.ensures.none
