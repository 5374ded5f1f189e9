use Rattle.std.proofs.Common.{◌+◌, sym}
use Rattle.snap_top.proofs.DupLemmas.{all_told, failed_told, first_left, one_told}
use Rattle.snap_top.proofs.dup.put_pairs.Goals as goal

pub put_pair-requires : goal.put_pair-requires
put_pair-requires g c =
    first_left g.W.Sink.view c.args.table.now.columns c.args.pairs.now c.args.lines.now c.loop-pair.lines c.loop-pair.pairs c.next.new.self c.in-Some.pair c.loop-pair.count c.in-Some.ensures c.loop-pair.invariant

pub loop-pair-preserved : goal.loop-pair-preserved
loop-pair-preserved g c =
    one_told g.W.Sink.view c.args.table.now.columns c.args.pairs.now c.args.lines.now c.loop-pair.lines c.loop-pair.pairs c.next.new.self c.in-Some.pair c.loop-pair.count c.put_pair.new.lines
    c.in-Some.ensures c.loop-pair.invariant c.put_pair.ensures

-- a write failed, and of what is left no more is written
pub returns-then-failed-clause-puts : goal.returns-then-failed-clause-puts
returns-then-failed-clause-puts g c =
    let told = one_told g.W.Sink.view c.args.table.now.columns c.args.pairs.now c.args.lines.now c.loop-pair.lines c.loop-pair.pairs c.next.new.self c.in-Some.pair c.loop-pair.count c.put_pair.new.lines
    c.in-Some.ensures c.loop-pair.invariant c.put_pair.ensures in
    failed_told g.W.Sink.view c.args.table.now.columns c.args.pairs.now c.args.lines.now c.put_pair.new.lines c.next.new.self (c.loop-pair.count + 1) (sym {b = c.put_pair.new.lines.failed} c.if-failed.ensures) told

pub returns-in_default-clause-puts : goal.returns-in_default-clause-puts
returns-in_default-clause-puts g c =
    all_told g.W.Sink.view c.args.table.now.columns c.args.pairs.now c.args.lines.now c.loop-pair.lines c.loop-pair.pairs c.loop-pair.count c.in_default.ensures.0 c.loop-pair.invariant
