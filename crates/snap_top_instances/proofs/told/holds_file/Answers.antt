use Rattle.std.proofs.Common.{false, refl}
use Rattle.disk_model.specs.Tree.{path_of}
use Rattle.disk_memory.specs.Folder.{folder_view}
use Rattle.snap_top_instances.proofs.ToldLemmas.{first_holds}
use Rattle.snap_top_instances.proofs.told.holds_file.Goals as goal

pub returns-in-Ok : goal.returns-in-Ok
returns-in-Ok c _ =
    first_holds folder_view c.args.folders.items c.in-Some.folder.now c.in-Some.folder.now (path_of c.in_ok-path.path false) c.in-Some.ensures.item.3.0 c.in-Some.ensures.value (c.in-Ok.ensures.missing refl)
