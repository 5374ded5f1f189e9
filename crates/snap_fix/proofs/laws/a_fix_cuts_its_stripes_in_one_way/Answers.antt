use Rattle.snap_fix.proofs.OneCutLemmas.{one_cut, one_cut_of}
use Rattle.snap_fix.proofs.laws.a_fix_cuts_its_stripes_in_one_way.Goals as goal

pub returns-clause-stripes : goal.returns-clause-stripes
returns-clause-stripes c plan windows others stripes readings more one two = one_cut_of plan windows others stripes readings more one two

pub returns-clause-windows : goal.returns-clause-windows
returns-clause-windows c plan windows others stripes readings one two = one_cut plan windows others stripes readings one two
