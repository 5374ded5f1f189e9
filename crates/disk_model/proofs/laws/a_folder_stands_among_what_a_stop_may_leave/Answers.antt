use Rattle.disk_model.proofs.AnsweredLemmas.{answered_is_left, left_is_tree, left_then, left_later}
use Rattle.disk_model.proofs.laws.a_folder_stands_among_what_a_stop_may_leave.Goals as goal

pub returns-clause-answered : goal.returns-clause-answered
returns-clause-answered c = answered_is_left

pub returns-clause-tree : goal.returns-clause-tree
returns-clause-tree c = left_is_tree

pub returns-clause-then : goal.returns-clause-then
returns-clause-then c = left_then

pub returns-clause-later : goal.returns-clause-later
returns-clause-later c = left_later
