use Rattle.std.proofs.Common.{◌≡◌, false, true, ap, sym, ◌∙◌}
use Rattle.array_setup.specs.Setup.{setup_value}
use Rattle.snap_top.specs.Levels.{is_split}
use Rattle.snap_top.specs.Task.{task_of}
use Rattle.snap_top.proofs.LevelsLemmas.{whole_levels, works_split, works_whole}
use Rattle.snap_top.proofs.running.work_by_levels.Goals as goal

pub work_on-ending-requires-clause-levels : goal.work_on-ending-requires-clause-levels
work_on-ending-requires-clause-levels g c κs within =
    let whole : is_split c.args.parts.items ≡ false = ap is_split (sym c.as_slice.ensures.value) ∙ sym c.has_split.ensures ∙ c.if-has_split.false in
    whole_levels _ (setup_value c.args.job.now.setup) _ c.requires.valid c.requires.opened whole

pub returns-then-has_split : goal.returns-then-has_split
returns-then-has_split g c =
    let split : is_split c.args.parts.items ≡ true = ap is_split (sym c.as_slice.ensures.value) ∙ sym c.has_split.ensures ∙ c.if-has_split.true in
    works_split _ _ (task_of c.args.job.now) _ _ (g.V.Vault.view c.args.vault) (g.V.Vault.view c.work_split.result.1) _ _ _ _ _ c.args.parts.items (setup_value c.args.job.now.setup)
    c.requires.opened.parts_are split c.work_split.ensures

pub returns : goal.returns
returns g c =
    let whole : is_split c.args.parts.items ≡ false = ap is_split (sym c.as_slice.ensures.value) ∙ sym c.has_split.ensures ∙ c.if-has_split.false in
    works_whole _ _ (task_of c.args.job.now) _ _ (g.V.Vault.view c.args.vault) (g.V.Vault.view c.work_on-ending.new.vault) _ _ _ _ _ c.args.parts.items (setup_value c.args.job.now.setup)
    c.requires.opened.parts_are whole c.work_on-ending.ensures
