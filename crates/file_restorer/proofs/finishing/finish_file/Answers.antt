use Rattle.std.proofs.Common.{true, false}
use Rattle.file_restorer.proofs.FinishStepsLemmas.{file_finished}
use Rattle.file_restorer.proofs.finishing.finish_file.Goals as goal

pub returns-then-state-clause-finished : goal.returns-then-state-clause-finished
returns-then-state-clause-finished g c =
    file_finished c.finish_lost.result true c.args.path.now c.args.listed c.args.meta c.args.start c.args.state (g.F.Folder.view c.args.folder.now) (g.F.Folder.view c.finish_lost.new.folder)
    c.if-state.true (c.finish_lost.ensures.finished c.args.meta)

pub returns-else-state-clause-finished : goal.returns-else-state-clause-finished
returns-else-state-clause-finished g c =
    file_finished c.finish_whole.result false c.args.path.now c.args.listed c.args.meta c.args.start c.args.state (g.F.Folder.view c.args.folder.now) (g.F.Folder.view c.finish_whole.new.folder)
    c.if-state.false c.finish_whole.ensures.finished
