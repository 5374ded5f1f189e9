use Rattle.snap_top_pairs.proofs.LostLemmas.{rows_of}
use Rattle.snap_top_pairs.proofs.lost.has_rows.Goals as goal

pub returns : goal.returns
returns c _ =
    rows_of c.args.table.now c.shape-found.result _ _ c.shape-found.ensures.shape c.if-found-eq0.false c.length.ensures.count c.if-length-eq0.false c.records.ensures c.if-records-eq0.false
