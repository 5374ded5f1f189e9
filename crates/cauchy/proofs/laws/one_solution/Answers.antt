use Rattle.cauchy.proofs.MatrixLemmas.{solution_exists, solution_only}
use Rattle.cauchy.proofs.laws.one_solution.Goals as goal

pub returns : goal.returns
returns c = record { exists = solution_exists; only = solution_only }
