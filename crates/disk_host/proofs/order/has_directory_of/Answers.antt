use Rattle.std.proofs.Common.{arith, rules, refl}
use Rattle.disk_host.proofs.OrderLemmas.{none_is_directory, some_is_directory}
use Rattle.disk_host.proofs.order.has_directory_of.Goals as goal

pub returns-clause-none : goal.returns-clause-none
returns-clause-none c = λ _. none_is_directory c.args.files.now c.args.path.now (λ k within slash. c.loop-end.invariant k (omega arith) slash)

pub returns-then-has_path-clause-some : goal.returns-then-has_path-clause-some
returns-then-has_path-clause-some c = λ is. some_is_directory c.args.files.now c.args.path.now c.loop-end.end (omega arith) (search rules) (c.if-has_path.ensures.0 refl)
