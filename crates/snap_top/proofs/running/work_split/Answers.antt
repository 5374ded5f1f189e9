use Rattle.std.proofs.Common.{length, ap, sym, ◌∙◌}
use Rattle.array_setup.specs.Setup.{setup_value}
use Rattle.snap_top.proofs.LevelsLemmas.{shaped_parts, works_on_base}
use Rattle.snap_top.proofs.running.work_split.Goals as goal

pub new-split-requires-clause-counts : goal.new-split-requires-clause-counts
new-split-requires-clause-counts g c κs within = c.requires.opened.opened.parts_are ∙ c.requires.opened.counts_are

pub new-split-requires-clause-parts : goal.new-split-requires-clause-parts
new-split-requires-clause-parts g c κs within = shaped_parts _ _ _ (setup_value c.args.job.now.setup) _ c.requires.valid c.requires.opened

pub work_on-ending-requires-clause-levels : goal.work_on-ending-requires-clause-levels
work_on-ending-requires-clause-levels g c κs within = ap length (sym c.requires.opened.counts_are)

pub returns : goal.returns
returns g c = works_on_base _ _ g.V.Vault.view _ _ _ _ _ _ _ g.P.Shape.counts g.P.Shape.capacity _ _ _ _ _ c.new-split.ensures c.into_base.ensures c.work_on-ending.ensures
