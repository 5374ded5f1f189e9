use Rattle.std.proofs.Common.{◌∙◌}
use Rattle.disk_model.proofs.UntouchedLemmas.{same_levels}
use Rattle.stripe_examiner.specs.Surveyed.{plan_in}
use Rattle.stripe_examiner.proofs.AheadLemmas.{rooms_untouched}
use Rattle.stripe_examiner.proofs.beside.take_levels_of.Goals as goal

pub read_levels_of-requires-clause-levels : goal.read_levels_of-requires-clause-levels
read_levels_of-requires-clause-levels g c κs within = same_levels _ _ c.read_stripes_ahead.ensures ∙ c.requires.levels

pub returns : goal.returns
returns g c = rooms_untouched (plan_in c.args.survey.now) _ _ _ c.read_stripes_ahead.ensures _ _ c.read_levels_of.ensures
