use Rattle.std.proofs.Common.{◌<◌, ◌∙◌, length, map, sym, ap, subst, arith, List}
use Rattle.disk_model.specs.Tree.{IsListing, listed}
use Rattle.file_table.specs.Table.{Record, records_in}
use Rattle.folder_listing.specs.Kept.{ListedFile, lists_of}
use Rattle.stripe_examiner.specs.Place.{start_of, column_starts}
use Rattle.repair_scope.proofs.PlacingLemmas.{list_at, listing_at, column_more}
use Rattle.stripe_examiner.proofs.places.starts_of.Goals as goal

pub starts_of_column-requires-clause-order : goal.starts_of_column-requires-clause-order
starts_of_column-requires-clause-order c =
    let within : c.loop-d.d < length c.args.lists.now = omega arith in
    subst (λ files. IsListing (listed files)) (sym c.as_slice-files.ensures.value) (listing_at c.args.lists.now c.loop-d.d c.index-lists-d.result c.requires.order within)

pub loop-d-preserved : goal.loop-d-preserved
loop-d-preserved c =
    let d = c.loop-d.d in
    let lists = lists_of c.args.lists.now in
    let within : d < length c.args.lists.now = omega arith in
    let files = list_at c.args.lists.now d c.index-lists-d.result within in
    column_more (λ column. column.items) (column_starts c.args.table.now lists) c.loop-d.columns.items _ c.in_ok-starts_of_column.field-0 d c.in_ok-push.ensures.items c.loop-d.invariant
    (c.in_ok-starts_of_column.ensures
    ∙ ap (λ (fs : List ListedFile). map (λ (kept : Record). start_of fs kept.path) (records_in c.args.table.now d)) (ap listed c.as_slice-files.ensures.value ∙ sym files))
