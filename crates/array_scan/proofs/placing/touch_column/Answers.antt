use Rattle.std.proofs.Common.{◌≡◌, ℕ, ◌+◌, ◌<◌, ◌≤◌, List, ◌++◌, length, ap, sym, ◌∙◌, subst, append_assoc, take, arith}
use Rattle.std.specs.List.{flat_map}
use Rattle.std.proofs.lemmas.List.{take_all}
use Rattle.file_table.specs.declared.block.Block.{Block}
use Rattle.file_table.specs.Table.{Record, column_at, positions_of}
use Rattle.array_scan.specs.Fates.{record_of}
use Rattle.array_scan.specs.Marks.{AreTouched, StandBelow}
use Rattle.array_scan.proofs.PlacingLemmas.{unheld, record_unheld, blocks_below}
use Rattle.array_scan.proofs.placing.touch_column.Goals as goal

pub touch_freed-requires-clause-below : goal.touch_freed-requires-clause-below
touch_freed-requires-clause-below c =
    let old = c.args.old.now in
    let rec = c.loop-rec.rec in
    let within : rec < length (column_at old.columns c.args.d).records = omega (arith, c.loop-rec-test.true, c.records-rec-end.ensures) in
    subst (StandBelow (length c.args.held.now)) (sym c.blocks-in-loop-rec.ensures)
    (subst (λ (n : ℕ). StandBelow n (record_of (column_at old.columns c.args.d).records rec).blocks) (sym c.requires.held) (blocks_below old c.args.d rec c.length-stripes.ensures.valid c.requires.column within))

pub loop-rec-preserved : goal.loop-rec-preserved
loop-rec-preserved c =
    λ touched are.
    let records = (column_at c.args.old.now.columns c.args.d).records in
    let rec = c.loop-rec.rec in
    let held = c.args.held.now in
    let within : rec < length records = omega (arith, c.loop-rec-test.true, c.records-rec-end.ensures) in
    let so_far = unheld held (positions_of (flat_map (λ (kept : Record). kept.blocks) (take rec records))) in
    let more : (touched ++ so_far) ++ unheld held (positions_of c.blocks-in-loop-rec.result.now)
    ≡ touched ++ unheld held (positions_of (flat_map (λ (kept : Record). kept.blocks) (take (rec + 1) records))) =
    append_assoc touched so_far (unheld held (positions_of c.blocks-in-loop-rec.result.now))
    ∙ ap (λ (bs : List Block). touched ++ (so_far ++ unheld held (positions_of bs))) c.blocks-in-loop-rec.ensures
    ∙ ap (λ (ps : List ℕ). touched ++ ps) (sym (record_unheld held records rec within)) in
    subst (AreTouched c.touch_freed.new.marks) more (c.touch_freed.ensures (touched ++ so_far) (c.loop-rec.invariant touched are))

pub returns : goal.returns
returns c =
    λ touched are.
    let records = (column_at c.args.old.now.columns c.args.d).records in
    let all : length records ≤ c.loop-rec.rec = omega (arith, c.loop-rec-test.false, c.records-rec-end.ensures) in
    subst (λ (rs : List Record). AreTouched c.loop-rec.marks (touched ++ unheld c.args.held.now (positions_of (flat_map (λ (kept : Record). kept.blocks) rs)))) (take_all c.loop-rec.rec records all)
    (c.loop-rec.invariant touched are)
