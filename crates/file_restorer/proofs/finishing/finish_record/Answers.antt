use Rattle.file_restorer.proofs.FinishRecordLemmas.{is_failed, is_finished, is_gone, is_ready}
use Rattle.file_restorer.proofs.finishing.finish_record.Goals as goal

pub finish_file-requires-after_bounds : goal.finish_file-requires-after_bounds
finish_file-requires-after_bounds g c κs within =
    is_ready c.args.table.now c.args.d c.args.i c.args.listed c.args.starts.now c.args.states.now (g.F.Folder.view c.args.folder.now) c.requires
    c.path.result.now c.meta.result c.at-start.result c.at-state.result
    (record { path_is = c.path.ensures; meta_is = c.meta.ensures; start_is = c.at-start.ensures; state_is = c.at-state.ensures }) c.shape-shape.ensures.valid

pub returns-in-Ok-clause-finished : goal.returns-in-Ok-clause-finished
returns-in-Ok-clause-finished g c =
    is_finished c.args.table.now c.args.d c.args.i c.args.listed c.args.starts.now c.args.states.now (g.F.Folder.view c.args.folder.now) c.requires
    c.path.result.now c.meta.result c.at-start.result c.at-state.result
    (record { path_is = c.path.ensures; meta_is = c.meta.ensures; start_is = c.at-start.ensures; state_is = c.at-state.ensures })
    c.in-Ok.finish (g.F.Folder.view c.finish_file.new.folder) c.in-Ok.ensures.finished

pub returns-in-Err-Missing-clause-finished : goal.returns-in-Err-Missing-clause-finished
returns-in-Err-Missing-clause-finished g c =
    is_gone c.args.table.now c.args.d c.args.i c.args.listed c.args.starts.now c.args.states.now (g.F.Folder.view c.args.folder.now) c.requires
    c.path.result.now c.meta.result c.at-start.result c.at-state.result
    (record { path_is = c.path.ensures; meta_is = c.meta.ensures; start_is = c.at-start.ensures; state_is = c.at-state.ensures })
    c.in-Err-Missing.field-0 (g.F.Folder.view c.finish_file.new.folder) c.in-Err-Missing.field-0-is c.in-Err-Missing.ensures.broke

pub returns-in-Err-Failed-clause-failed : goal.returns-in-Err-Failed-clause-failed
returns-in-Err-Failed-clause-failed g c =
    is_failed c.args.table.now c.args.d c.args.i c.args.listed c.args.starts.now c.args.states.now (g.F.Folder.view c.args.folder.now) c.requires
    c.path.result.now c.meta.result c.at-start.result c.at-state.result
    (record { path_is = c.path.ensures; meta_is = c.meta.ensures; start_is = c.at-start.ensures; state_is = c.at-state.ensures })
    c.in-Err-Failed.field-0 (g.F.Folder.view c.finish_file.new.folder) c.in-Err-Failed.field-0-is c.in-Err-Failed.ensures.broke
