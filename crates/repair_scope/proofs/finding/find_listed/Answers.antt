use Rattle.std.proofs.Common.{sym}
use Rattle.repair_scope.proofs.LookUpLemmas.{in_order, tied_paths, found_at, found_between}
use Rattle.repair_scope.proofs.finding.find_listed.Goals as goal

pub returns-in-Ok : goal.returns-in-Ok
returns-in-Ok c =
    let files = c.args.files.now in
    let d = c.index-files-i.result in
    sym (found_at files c.args.path.now c.in-Ok.i d (in_order files c.requires) c.in-Ok.ensures.bound (tied_paths _ _ (c.in-Ok.ensures.place d)))

pub returns-in-Err : goal.returns-in-Err
returns-in-Err c = sym (found_between c.args.files.now c.args.path.now c.in-Err.field-0 (in_order c.args.files.now c.requires) c.in-Err.ensures.place)
