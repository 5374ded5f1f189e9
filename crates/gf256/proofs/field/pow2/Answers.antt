use Rattle.std.proofs.Common.{◌∙◌}
use Rattle.gf256.proofs.PowerLemmas.{power_mod}
use Rattle.gf256.proofs.field.pow2.Goals as goal

pub returns : goal.returns
returns c = c.power_at.ensures ∙ power_mod c.args.n
