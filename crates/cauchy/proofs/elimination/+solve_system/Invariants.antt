use Rattle.arrayvec.specs.ArrayVec.{array_vec_len}
use Rattle.cauchy.proofs.elimination.+solve_system.Given as goal

abbrev pub decreases-solve_system : goal.decreases-solve_system
decreases-solve_system l = array_vec_len l.given.now
