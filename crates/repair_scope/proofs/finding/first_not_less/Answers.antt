use Rattle.repair_scope.proofs.LookUpLemmas.{in_order, split_tied, split_between}
use Rattle.repair_scope.proofs.finding.first_not_less.Goals as goal

pub returns-in-Ok-clause-parts : goal.returns-in-Ok-clause-parts
returns-in-Ok-clause-parts c =
    split_tied c.args.files.now c.args.bytes.now c.in-Ok.place (in_order c.args.files.now c.requires) c.in-Ok.ensures.bound c.in-Ok.ensures.place

pub returns-in-Err-clause-parts : goal.returns-in-Err-clause-parts
returns-in-Err-clause-parts c = split_between c.args.files.now c.args.bytes.now c.in-Err.place (in_order c.args.files.now c.requires) c.in-Err.ensures.place
