use Rattle.snap_sync.proofs.FullLemmas.{full_exists, full_shape}
use Rattle.snap_sync.proofs.laws.there_is_a_full_sync.Goals as goal

pub returns-clause-there_is : goal.returns-clause-there_is
returns-clause-there_is c = λ setup old_table trees now files some all. full_exists setup old_table trees now files some all

pub returns-clause-shape : goal.returns-clause-shape
returns-clause-shape c = λ setup old_table trees now table files new is. full_shape setup old_table trees now files table new is
