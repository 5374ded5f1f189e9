use Rattle.std.proofs.Common.{◌<◌, [], length, sym, ap, ◌∙◌, arith}
use Rattle.std.proofs.lemmas.List.{get_or-map, length-map, take_all}
use Rattle.cauchy.specs.Matrix.{parity_of as level_of}
use Rattle.parity_writer.specs.WindowRow.{bytes_in, row_at}
use Rattle.parity_writer.proofs.SumLemmas.{sum_more}
use Rattle.parity_writer.proofs.sums.sum_row.Goals as goal

pub loop-d-preserved : goal.loop-d-preserved
loop-d-preserved c =
    let lanes = c.args.window.now.lanes in
    let within : c.loop-d.d < length lanes = omega arith in
    sum_more c.args.level (length c.args.out.now) c.loop-d.d (row_at c.args.window.now c.args.i) c.cell_bytes.result.now c.loop-d.out c.add_bytes.new.out
    (omega (arith, within, length-map lanes (bytes_in c.args.i)))
    (c.cell_bytes.ensures.value ∙ sym (get_or-map (bytes_in c.args.i) lanes c.loop-d.d [] [] within))
    (c.loop-d.auto.out ∙ c.fill.ensures.len) c.add_bytes.ensures c.loop-d.invariant

pub returns : goal.returns
returns c =
    let lanes = c.args.window.now.lanes in
    c.loop-d.invariant ∙ ap (level_of c.args.level (length c.args.out.now)) (take_all c.loop-d.d (row_at c.args.window.now c.args.i) (omega (arith, c.columns-d-end.ensures, length-map lanes (bytes_in c.args.i))))
