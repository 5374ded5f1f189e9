use Rattle.std.proofs.Common.{◌∙◌, Ok, Err}
use Rattle.std.proofs.lemmas.List.{length-map}
use Rattle.snap_top.specs.Task.{task_of}
use Rattle.snap_top.proofs.LoadLemmas.{reads_of, loads_of, loads_not_of, order_of}
use Rattle.snap_top.proofs.RunLemmas.{not_loaded, not_begun, answered}
use Rattle.snap_top.proofs.running.work_on.Goals as goal

pub returns-in-Err : goal.returns-in-Err
returns-in-Err g c =
    let load = c.load.ensures in
    not_loaded _ _ (task_of c.args.job.now) _ _ _ _ _ c.in-Err.fault (reads_of _ _ load.reads load.pieces) load.reads.changes (loads_not_of _ _ c.in-Err.fault c.in-Err.ensures.cause) (order_of _ _ (Err c.in-Err.fault) c.in-Err.ensures.order)

pub returns-in-Err-first_table : goal.returns-in-Err-first_table
returns-in-Err-first_table g c =
    let load = c.load.ensures in
    not_begun _ _ (task_of c.args.job.now) _ _ _ _ _ _ _ (reads_of _ _ load.reads load.pieces) load.reads.changes (loads_of _ _ _ c.in-Ok.ensures.loaded) (order_of _ _ (Ok c.in-Ok.loaded) c.in-Ok.ensures.order) c.in-Err-first_table.ensures.not

pub returns : goal.returns
returns g c =
    let load = c.load.ensures in
    answered _ _ (task_of c.args.job.now) _ _ _ _ _ _ _ _ _ _ _ (reads_of _ _ load.reads load.pieces) load.reads.changes (loads_of _ _ _ c.in-Ok.ensures.loaded) (order_of _ _ (Ok c.in-Ok.loaded) c.in-Ok.ensures.order) c.in-Ok-first_table.ensures.begins c.in-Ok-first_table.ensures.valid (length-map _ _ ∙ c.requires.folders) c.carry_out-answer.ensures
