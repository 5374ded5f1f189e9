use Rattle.std.proofs.Common.{◌≤◌, length, arith, sym, ◌∙◌}
use Rattle.hash_index.proofs.NumberingLemmas.{length-spots_from}
use Rattle.hash_index.proofs.StartLemmas.{starts_made, count_made}
use Rattle.hash_index.proofs.records.Records.new.Goals as goal

pub invariant_of-result : goal.invariant_of-result
invariant_of-result c =
    let columns = c.args.table.now.columns in
    let over : length columns ≤ c.loop-d.d = omega (arith, c.disks-disks.ensures.count, c.loop-d-test.false) in
    let valid = c.disks-disks.ensures.valid in
    let counted = count_made columns c.loop-d.d c.loop-d.count over c.loop-d.invariant.count in
    record {
      starts = starts_made columns c.loop-d.starts.items c.loop-d.d c.loop-d.count over c.loop-d.invariant.starts;
      count = counted ∙ sym (length-spots_from 0 columns);
      few = omega (arith, counted, valid.columns.few_records);
      few_columns = valid.columns.few;
    }

pub returns-clause-few : goal.returns-clause-few
returns-clause-few c =
    let columns = c.args.table.now.columns in
    omega (arith, length-spots_from 0 columns, c.disks-disks.ensures.valid.columns.few_records)
