use Rattle.std.proofs.Common.{◌≡◌, ◌+◌, ◌-◌, ◌<◌, [], length, map, get_or, Bool, true, false, None, Some, cond, ap, sym, ◌∙◌, arith}
use Rattle.std.specs.List.{range_with_len}
use Rattle.file_table.specs.Table.{column_at}
use Rattle.array_scan.specs.declared.fault.ScanFault.TheVariants.{Emptied}
use Rattle.array_scan.specs.Layout.{sorted_of}
use Rattle.array_scan.specs.Refusals.{or_else, first_some, is_emptied, emptied_at}
use Rattle.array_scan.proofs.ColumnLemmas.{files_at, column_count, first_step}
use Rattle.array_scan.proofs.refusing.emptied.Goals as goal

pub returns-then-is_emptied : goal.returns-then-is_emptied
returns-then-is_emptied c =
    let old = c.args.old.now in
    let columns = c.args.columns.now in
    let files = sorted_of columns in
    let d = c.loop-d.d in
    let below : d < length old.columns = omega (arith, c.loop-d-test.true, c.disks-d-end.ensures.count) in
    let within : d < length columns = omega (arith, below, column_count old columns c.requires) in
    let here : is_emptied (column_at old.columns d).records (get_or files d []) ≡ true =
    ap (is_emptied (column_at old.columns d).records) (files_at columns d c.index-columns-d.result within ∙ sym c.deref.ensures.value) ∙ sym c.if-is_emptied.ensures in
    sym (sym c.loop-d.invariant ∙ first_step (emptied_at old files) (length old.columns) d below
    ∙ ap (λ (t : Bool). or_else (cond t (Some (Emptied d)) None) (first_some (map (emptied_at old files) (range_with_len (d + 1) (length old.columns - (d + 1)))))) here)

pub loop-d-preserved : goal.loop-d-preserved
loop-d-preserved c =
    let old = c.args.old.now in
    let columns = c.args.columns.now in
    let files = sorted_of columns in
    let d = c.loop-d.d in
    let below : d < length old.columns = omega (arith, c.loop-d-test.true, c.disks-d-end.ensures.count) in
    let within : d < length columns = omega (arith, below, column_count old columns c.requires) in
    let here : is_emptied (column_at old.columns d).records (get_or files d []) ≡ false =
    ap (is_emptied (column_at old.columns d).records) (files_at columns d c.index-columns-d.result within ∙ sym c.deref.ensures.value) ∙ sym c.if-is_emptied.ensures in
    sym (first_step (emptied_at old files) (length old.columns) d below
    ∙ ap (λ (t : Bool). or_else (cond t (Some (Emptied d)) None) (first_some (map (emptied_at old files) (range_with_len (d + 1) (length old.columns - (d + 1)))))) here) ∙ c.loop-d.invariant
