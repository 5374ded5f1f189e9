use Rattle.std.proofs.Common.{◌<◌, ◌∙◌, [], get_or, length, map, sym, ap, subst, arith, List, ℕ}
use Rattle.disk_model.specs.Tree.{IsListing, listed}
use Rattle.folder_listing.specs.Kept.{ListedFile, lists_of}
use Rattle.array_setup.specs.Setup.{setup_value}
use Rattle.repair_scope.specs.Plan.{column_entries, entry_of, names_of}
use Rattle.file_table.specs.Table.{records_in}
use Rattle.repair_scope.proofs.PlacingLemmas.{list_at, listing_at, name_at, column_more}
use Rattle.repair_scope.proofs.entries.entries_of.Goals as goal

pub entries_of_column-requires-clause-order : goal.entries_of_column-requires-clause-order
entries_of_column-requires-clause-order c =
    let within : c.loop-d.d < length c.args.lists.now = omega arith in
    subst (λ files. IsListing (listed files)) (sym c.as_slice-files.ensures.value) (listing_at c.args.lists.now c.loop-d.d c.index-lists-d.result c.requires.order within)

pub loop-d-preserved : goal.loop-d-preserved
loop-d-preserved c =
    let setup = setup_value c.args.setup.now in
    let d = c.loop-d.d in
    let lists = lists_of c.args.lists.now in
    let within : d < length c.args.lists.now = omega arith in
    let name = name_at setup c.as_slice-disks.result.now d c.index-disks-d.result c.as_slice-disks.ensures (omega (arith, ap length c.as_slice-disks.ensures)) in
    let files = list_at c.args.lists.now d c.index-lists-d.result within in
    column_more (λ column. column.items) (column_entries c.args.selection.now (names_of setup) c.args.table.now lists) c.loop-d.columns.items _ c.in_ok-entries_of_column.field-0 d c.in_ok-push.ensures.items c.loop-d.invariant
    (c.in_ok-entries_of_column.ensures
    ∙ ap (λ (n : List ℕ). map (entry_of c.args.selection.now n (listed c.as_slice-files.result.now)) (records_in c.args.table.now d)) (c.as_str-name.ensures.value ∙ sym name)
    ∙ ap (λ (fs : List ListedFile). map (entry_of c.args.selection.now (get_or (names_of setup) d []) fs) (records_in c.args.table.now d)) (ap listed c.as_slice-files.ensures.value ∙ sym files))
