use Rattle.std.proofs.Common.{arith, ap, length}
use Rattle.array_setup.specs.Setup.{setup_value}
use Rattle.snap_top.proofs.MatchingLemmas.{same_by_places, length-columns, length-disks}
use Rattle.snap_top.proofs.matching.first_other_disk.Goals as goal

pub returns : goal.returns
returns c =
    let table = c.args.table.now in
    let setup = setup_value c.args.setup.now in
    let disks = ap length c.as_slice.ensures in
    same_by_places _ _ c.loop-column.column
    (omega (arith, length-columns table, c.disks.ensures.count, c.max-columns.ensures, c.loop-column-test.false))
    (omega (arith, length-disks setup, c.requires.few_disks, c.max-columns.ensures, c.loop-column-test.false, disks))
    c.loop-column.invariant
