use Rattle.std.proofs.Common.{sym, ◌∙◌}
use Rattle.array_setup.proofs.KeepsLemmas.{hidden-next, hidden-done}
use Rattle.array_setup.proofs.kept.is_hidden.Goals as goal

pub loop-rest-preserved : goal.loop-rest-preserved
loop-rest-preserved c = hidden-next c.args.path.now c.loop-rest.rest.now _ _ c.loop-rest.invariant (sym c.starts_with_dot.ensures ∙ c.if-starts_with_dot.false) c.in-Some.ensures

pub returns-in-None : goal.returns-in-None
returns-in-None c = sym (hidden-done c.args.path.now c.loop-rest.rest.now c.loop-rest.invariant (sym c.starts_with_dot.ensures ∙ c.if-starts_with_dot.false) c.in-None.ensures)
