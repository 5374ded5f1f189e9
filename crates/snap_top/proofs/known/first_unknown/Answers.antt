use Rattle.std.proofs.Common.{sym, ap, ◌∙◌}
use Rattle.array_setup.specs.Setup.{setup_value}
use Rattle.snap_top.specs.Known.{is_known as is_known_to}
use Rattle.snap_top.proofs.KnownLemmas.{unknown_at}
use Rattle.snap_top.proofs.known.first_unknown.Goals as goal

pub returns-then-not-is_known-clause-some : goal.returns-then-not-is_known-clause-some
returns-then-not-is_known-clause-some c =
    let setup = setup_value c.args.setup.now in
    let name = c.as_str.ensures.value ∙ c.index-names-i.is in
    c.loop-i.invariant
    ∙ unknown_at setup c.args.names.now c.loop-i.i c.index-names-i.result c.loop-i-test.true (ap (is_known_to setup) (sym name) ∙ sym c.is_known.ensures ∙ c.if-not-is_known.true)
