use Rattle.std.proofs.lemmas.Bool.{eq-eqb, ne_eqb}
use Rattle.file_restorer.proofs.FinishStepsLemmas.{breaks_size, size_kept, size_set}
use Rattle.file_restorer.proofs.finishing.fit_size.Goals as goal

pub returns-clause-broke : goal.returns-clause-broke
returns-clause-broke g c =
    breaks_size c.args.path.now c.args.before c.args.size c.set_size.result (g.F.Folder.view c.args.folder.now) (g.F.Folder.view c.set_size.new.self) (g.F.Folder.well_formed _)
    (ne_eqb c.args.before c.args.size c.if-before-size.false) c.set_size.ensures.call c.set_size.ensures.missing c.requires

pub returns-clause-sized : goal.returns-clause-sized
returns-clause-sized g c =
    size_set c.args.path.now c.args.before c.args.size c.set_size.result (g.F.Folder.view c.args.folder.now) (g.F.Folder.view c.set_size.new.self) (g.F.Folder.well_formed _)
    (ne_eqb c.args.before c.args.size c.if-before-size.false) c.set_size.ensures.call

pub returns-then-before-size-clause-sized : goal.returns-then-before-size-clause-sized
returns-then-before-size-clause-sized g c = size_kept c.args.path.now c.args.before c.args.size (g.F.Folder.view c.args.folder.now) (eq-eqb c.args.before c.args.size c.if-before-size.true)
