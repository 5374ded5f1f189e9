use Rattle.snap_top.proofs.DupLemmas.{text_told}
use Rattle.snap_top.proofs.dup.tell_pairs.Goals as goal

pub returns-clause-puts : goal.returns-clause-puts
returns-clause-puts g c =
    text_told g.W.Sink.view c.args.table.now c.args.pairs.now c.put_pairs-count.result c.args.lines.now c.put_pairs-count.new.lines c.put_count.new.lines c.hand_on.new.self
    c.requires.all c.put_pairs-count.ensures.puts c.put_pairs-count.ensures.count c.put_count.ensures c.hand_on.ensures.puts
