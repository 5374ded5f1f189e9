use Rattle.std.proofs.Common.{arith}
use Rattle.std.proofs.lemmas.List.{length-map}
use Rattle.disk_memory.specs.Folder.{folder_view}
use Rattle.snap_top_restores.proofs.reached.is_one_disk.Goals as goal

pub returns-in-len1 : goal.returns-in-len1
returns-in-len1 c one =
    omega (arith, length-map c.args.folders.now folder_view, c.in-len1.len_at_least, c.in-len1.len_below)
