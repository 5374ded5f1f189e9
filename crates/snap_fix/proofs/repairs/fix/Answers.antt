use Rattle.std.proofs.Common.{inr, map}
use Rattle.array_setup.specs.Setup.{setup_value}
use Rattle.repair_scope.specs.Plan.{names_of}
use Rattle.snap_fix.proofs.AnswerLemmas.{if_err, if_ok}
use Rattle.snap_fix.proofs.repairs.fix.Goals as goal

pub fix_begun-requires-after_bounds : goal.fix_begun-requires-after_bounds
fix_begun-requires-after_bounds g c κs within = record {
  selection = c.args.task.now.selection.now;
  names = names_of (setup_value c.args.task.now.setup.now);
  olds = map g.F.Folder.view c.args.folders.now;
  began = record { begins = c.in_ok-begun.ensures.begun; folders_are = c.requires.array.folders_are; were_open = c.requires.open };
  levels = c.requires.array.levels;
  spare_is = c.requires.array.spare_is;
}

pub returns-clause-fixes : goal.returns-clause-fixes
returns-clause-fixes g c =
    if_ok c.fix_begun.result _ _ (λ end fixes. fixes c.args.task.now.selection.now (names_of (setup_value c.args.task.now.setup.now)) (map g.F.Folder.view c.args.folders.now)
    (record { begins = c.in_ok-begun.ensures.begun; folders_are = c.requires.array.folders_are; were_open = c.requires.open })) c.fix_begun.ensures.fixes

pub returns-clause-failed : goal.returns-clause-failed
returns-clause-failed g c =
    if_err c.fix_begun.result _ _ (λ fault broke. inr (broke c.args.task.now.selection.now (names_of (setup_value c.args.task.now.setup.now)) (map g.F.Folder.view c.args.folders.now)
    (record { begins = c.in_ok-begun.ensures.begun; folders_are = c.requires.array.folders_are; were_open = c.requires.open }))) c.fix_begun.ensures.broke
