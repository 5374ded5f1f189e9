use Rattle.std.proofs.Common.{sym, refl, ap, ◌∙◌, arith}
use Rattle.std.specs.Prelude.{get_or, take}
use Rattle.parity_writer.specs.LevelsValue.{no_level}
use Rattle.stripe_examiner.specs.Findings.{level_io_events}
use Rattle.repair_scope.specs.Plan.{seen}
use Rattle.stripe_examiner.proofs.StripeLemmas.{level_of_first, levels_as_many, levels_of_shape}
use Rattle.stripe_examiner.proofs.TellingLemmas.{tells_nothing, tells_more, told_to, counts_to}
use Rattle.stripe_examiner.proofs.telling.levels.tell_unread_levels.Goals as goal

pub loop-r-init : goal.loop-r-init
loop-r-init g c = tells_nothing _ _ _ _ _ _ _ (record { found = refl; left = refl })

pub loop-r-preserved : goal.loop-r-preserved
loop-r-preserved g c =
    tells_more _ _ _ _ (λ r. level_io_events (seen c.args.plan.now) c.args.stripe (get_or (take c.args.levels.now.count c.args.levels.now.levels) r no_level) r) c.loop-r.r _ _ _ _ _ _ _ _ _ _ (c.unread-found.ensures.value
    ∙ ap (λ level. level_io_events (seen c.args.plan.now) c.args.stripe level c.loop-r.r)
    (sym (level_of_first c.args.levels.now c.loop-r.r (omega (arith, c.loop-r-test.true, c.requires.count, levels_of_shape c.shape-r-end.ensures.shape))))) c.and-counts.ensures c.loop-r.invariant
    c.tell_found.ensures.told c.tell_found.ensures.counts

pub returns-clause-told : goal.returns-clause-told
returns-clause-told g c = told_to _ _ _ _ (λ r. level_io_events (seen c.args.plan.now) c.args.stripe (get_or (take c.args.levels.now.count c.args.levels.now.levels) r no_level) r) _ _ _ _ _ _ _ (omega (arith, levels_as_many c.args.levels.now c.requires.room, c.requires.count, levels_of_shape c.shape-r-end.ensures.shape)) c.loop-r.invariant

pub returns-clause-counts : goal.returns-clause-counts
returns-clause-counts g c = counts_to _ _ _ _ (λ r. level_io_events (seen c.args.plan.now) c.args.stripe (get_or (take c.args.levels.now.count c.args.levels.now.levels) r no_level) r) _ _ _ _ _ _ _ (omega (arith, levels_as_many c.args.levels.now c.requires.room, c.requires.count, levels_of_shape c.shape-r-end.ensures.shape)) c.loop-r.invariant
