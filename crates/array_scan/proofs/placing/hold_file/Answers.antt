use Rattle.std.proofs.Common.{ℕ, ◌<◌, length, sym, ◌∙◌, subst}
use Rattle.file_table.specs.Table.{column_at}
use Rattle.array_scan.specs.Fates.{record_of}
use Rattle.array_scan.specs.Marks.{StandBelow}
use Rattle.array_scan.proofs.ColumnLemmas.{origin_within}
use Rattle.array_scan.proofs.PlacingLemmas.{blocks_below}
use Rattle.array_scan.proofs.placing.hold_file.Goals as goal

pub hold_blocks-requires-clause-below : goal.hold_blocks-requires-clause-below
hold_blocks-requires-clause-below c =
    let old = c.args.old.now in
    let records = (column_at old.columns c.args.d).records in
    let within : c.in-Some.rec < length records = origin_within (length records) c.args.file.now.fate c.in-Some.rec c.requires.sound.rec (sym c.origin.ensures ∙ c.in-Some.is) in
    subst (StandBelow (length c.args.held.now)) (sym c.blocks-in-Some.ensures)
    (subst (λ (n : ℕ). StandBelow n (record_of records c.in-Some.rec).blocks) (sym c.requires.long) (blocks_below old c.args.d c.in-Some.rec c.length-stripes.ensures.valid c.requires.column within))
