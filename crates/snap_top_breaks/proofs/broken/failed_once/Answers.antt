use Rattle.std.proofs.Common.{sym, ◌∙◌, arith}
use Rattle.std.proofs.lemmas.Bool.Decides.{Decides-eqb}
use Rattle.disk_memory.specs.Folder.{folder_view}
use Rattle.snap_top_breaks.proofs.BrokenLemmas.{failed_of}
use Rattle.snap_top_breaks.proofs.broken.failed_once.Goals as goal

pub returns-in-len1 : goal.returns-in-len1
returns-in-len1 c once =
    failed_of folder_view c.args.folders.now c.folder-item.result c.folder-item.result (omega (arith, c.in-len1.len_at_least, c.in-len1.len_below)) c.folder-item.is
    (sym c.faults.ensures ∙ (Decides-eqb c.faults.result 1).0 once)
