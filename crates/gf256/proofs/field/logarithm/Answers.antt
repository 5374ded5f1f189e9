use Rattle.std.proofs.Common.{arith}
use Rattle.gf256.proofs.TableLemmas.{log_lt, power_of_log}
use Rattle.gf256.proofs.field.logarithm.Goals as goal

pub returns-clause-below : goal.returns-clause-below
returns-clause-below c = log_lt c.args.a c.requires (omega arith)

pub returns-clause-power_is : goal.returns-clause-power_is
returns-clause-power_is c = power_of_log c.args.a c.requires (omega arith)
