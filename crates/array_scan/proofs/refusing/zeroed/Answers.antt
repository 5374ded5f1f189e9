use Rattle.std.proofs.Common.{◌≡◌, ℕ, ◌+◌, ◌-◌, ◌<◌, [], length, map, get_or, All, Option, None, Some, ap, sym, ◌∙◌, subst, arith}
use Rattle.std.specs.List.{range_with_len}
use Rattle.std.specs.Option.{option_map}
use Rattle.file_table.specs.Table.{column_at}
use Rattle.array_scan.specs.declared.fault.ScanFault.TheVariants.{Zeroed}
use Rattle.array_scan.specs.Fates.{IsSound}
use Rattle.array_scan.specs.Layout.{sorted_of}
use Rattle.array_scan.specs.Refusals.{or_else, first_some, first_zeroed, zeroed_at}
use Rattle.array_scan.proofs.ColumnLemmas.{files_at, column_count, files_sound, first_step}
use Rattle.array_scan.proofs.refusing.zeroed.Goals as goal

pub first_zeroed-requires-clause-sound : goal.first_zeroed-requires-clause-sound
first_zeroed-requires-clause-sound c =
    let old = c.args.old.now in
    let d = c.loop-d.d in
    let below : d < length old.columns = omega (arith, c.loop-d-test.true, c.disks-d-end.ensures.count) in
    subst (All (IsSound (length (column_at old.columns d).records))) (sym c.deref.ensures.value) (files_sound old c.args.columns.now d c.index-columns-d.result c.requires below)

pub returns-in-Some : goal.returns-in-Some
returns-in-Some c =
    let old = c.args.old.now in
    let columns = c.args.columns.now in
    let files = sorted_of columns in
    let d = c.loop-d.d in
    let below : d < length old.columns = omega (arith, c.loop-d-test.true, c.disks-d-end.ensures.count) in
    let within : d < length columns = omega (arith, below, column_count old columns c.requires) in
    let here : first_zeroed (column_at old.columns d).records (get_or files d []) ≡ Some c.in-Some.rec =
    ap (first_zeroed (column_at old.columns d).records) (files_at columns d c.index-columns-d.result within ∙ sym c.deref.ensures.value) ∙ sym c.first_zeroed.ensures ∙ c.in-Some.is in
    sym (sym c.loop-d.invariant ∙ first_step (zeroed_at old files) (length old.columns) d below
    ∙ ap (λ (o : Option ℕ). or_else (option_map (λ (rec : ℕ). Zeroed d rec) o) (first_some (map (zeroed_at old files) (range_with_len (d + 1) (length old.columns - (d + 1)))))) here)

pub loop-d-preserved : goal.loop-d-preserved
loop-d-preserved c =
    let old = c.args.old.now in
    let columns = c.args.columns.now in
    let files = sorted_of columns in
    let d = c.loop-d.d in
    let below : d < length old.columns = omega (arith, c.loop-d-test.true, c.disks-d-end.ensures.count) in
    let within : d < length columns = omega (arith, below, column_count old columns c.requires) in
    let here : first_zeroed (column_at old.columns d).records (get_or files d []) ≡ None =
    ap (first_zeroed (column_at old.columns d).records) (files_at columns d c.index-columns-d.result within ∙ sym c.deref.ensures.value) ∙ sym c.first_zeroed.ensures ∙ c.in_default.is in
    sym (first_step (zeroed_at old files) (length old.columns) d below
    ∙ ap (λ (o : Option ℕ). or_else (option_map (λ (rec : ℕ). Zeroed d rec) o) (first_some (map (zeroed_at old files) (range_with_len (d + 1) (length old.columns - (d + 1)))))) here) ∙ c.loop-d.invariant
