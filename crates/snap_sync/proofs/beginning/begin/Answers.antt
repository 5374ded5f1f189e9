use Rattle.std.proofs.Common.{map, All, sym, subst, arith}
use Rattle.std.proofs.lemmas.List.{length-map}
use Rattle.disk_model.specs.Tree.{IsListing}
use Rattle.file_table.specs.Valid.{IsValid}
use Rattle.file_table.specs.Table.{TableValue}
use Rattle.array_setup.specs.Setup.{setup_value}
use Rattle.folder_listing.specs.Kept.{lists_of}
use Rattle.folder_listing.specs.Listings.{ListsAll}
use Rattle.snap_sync.specs.Beginning.{BeginsNot}
use Rattle.snap_sync.specs.declared.fault.SyncFault.TheVariants.{Scan}
use Rattle.snap_sync.proofs.BeginLemmas.{lists_are_listings, layout_refused, all_listed}
use Rattle.snap_sync.proofs.beginning.begin.Goals as goal

pub lay_out_in_place-requires-clause-order : goal.lay_out_in_place-requires-clause-order
lay_out_in_place-requires-clause-order g c =
    let listed = lists_are_listings _ _ _ c.in_ok-lists.ensures.listed in
    subst (λ lists. All IsListing (lists_of lists)) (sym c.as_slice.ensures.value) listed

pub returns-in-Err-clause-failed : goal.returns-in-Err-clause-failed
returns-in-Err-clause-failed g c =
    let olds = map g.F.Folder.view c.args.folders.now in
    let news = map g.F.Folder.view c.listings.new.folders in
    let unlaid = c.in-Err.unlaid in
    subst (λ (table : TableValue). BeginsNot (setup_value c.args.setup.now) c.args.way.now c.args.old olds news (Scan unlaid.fault table)) (sym c.in-Err.ensures.back)
    (layout_refused (setup_value c.args.setup.now) c.args.way.now c.args.old olds news (lists_of c.as_slice.result.now) unlaid.fault
    (subst (λ lists. ListsAll olds news (lists_of lists)) (sym c.as_slice.ensures.value) c.in_ok-lists.ensures.listed) c.in-Err.ensures.refused)

pub returns-in_default-clause-failed : goal.returns-in_default-clause-failed
returns-in_default-clause-failed g c =
    let many = length-map c.args.folders.now g.F.Folder.view in
    all_listed _ _ _ (omega (arith, c.listings.auto.folders, length-map c.args.folders.now g.F.Folder.view, length-map c.listings.new.folders g.F.Folder.view)) c.in_ok-lists.ensures.listed

pub returns-clause-laid : goal.returns-clause-laid
returns-clause-laid g c =
    let olds = map g.F.Folder.view c.args.folders.now in
    let news = map g.F.Folder.view c.listings.new.folders in
    record {
      lists = lists_of c.as_slice.result.now;
      as_many = omega (arith, c.listings.auto.folders, length-map c.args.folders.now g.F.Folder.view, length-map c.listings.new.folders g.F.Folder.view);
      listed = subst (λ lists. ListsAll olds news (lists_of lists)) (sym c.as_slice.ensures.value) c.in_ok-lists.ensures.listed;
      unrefused = c.in-Ok.ensures.unrefused;
      start_is = c.in-Ok.ensures.laid;
      valid = subst IsValid c.table.view_is c.table.invariant.valid;
    }
