use Rattle.std.proofs.Common.{◌≡◌, take, is_some, true, sym, ap, ◌∙◌, arith}
use Rattle.disk_model.specs.Tree.{listed}
use Rattle.repair_scope.specs.Blocked.{found_in}
use Rattle.repair_scope.proofs.LookUpLemmas.{inside_at, inside_nowhere}
use Rattle.repair_scope.proofs.finding.is_inside_one.Goals as goal

pub returns-then-is_some : goal.returns-then-is_some
returns-then-is_some c =
    let found : is_some (found_in (listed c.args.files.now) (take c.loop-end.end c.args.path.now)) ≡ true = ap is_some (sym c.find_listed.ensures) ∙ sym c.is_some.ensures ∙ c.if-is_some.true in
    sym (inside_at (listed c.args.files.now) c.args.path.now c.loop-end.end c.loop-end-test.true c.if-path-end-eq-SLASH.true found)

pub returns : goal.returns
returns c = sym (inside_nowhere (listed c.args.files.now) c.args.path.now (λ k within slash. c.loop-end.invariant k (omega arith) slash))
