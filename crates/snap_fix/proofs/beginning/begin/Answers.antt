use Rattle.std.proofs.Common.{All, sym, subst, arith}
use Rattle.std.proofs.lemmas.List.{length-map}
use Rattle.disk_model.specs.Tree.{IsListing}
use Rattle.array_setup.specs.Setup.{setup_value}
use Rattle.folder_listing.specs.Kept.{lists_of}
use Rattle.repair_scope.specs.Plan.{EntriesFit, names_of}
use Rattle.snap_fix.proofs.BeginningLemmas.{lists_are_listings, all_listed, entries_fit}
use Rattle.snap_fix.proofs.beginning.begin.Goals as goal

pub listings-requires-after_bounds : goal.listings-requires-after_bounds
listings-requires-after_bounds g c κs within = omega (arith, c.disks-columns.ensures.valid.columns.few)

pub place_all-requires-clause-order : goal.place_all-requires-clause-order
place_all-requires-clause-order g c =
    let listed = lists_are_listings _ _ _ c.in-Ok.ensures.listed in
    subst (λ lists. All IsListing (lists_of lists)) (sym c.as_slice.ensures.value) listed

pub stripes_to_look_at-requires : goal.stripes_to_look_at-requires
stripes_to_look_at-requires g c =
    subst (EntriesFit c.args.table.now) (sym c.in-Ok-place_all.ensures.entries)
    (entries_fit c.args.selection.now (names_of (setup_value c.args.setup.now)) c.args.table.now (lists_of c.as_slice.result.now))

pub returns-in_default-make-clause-failed : goal.returns-in_default-make-clause-failed
returns-in_default-make-clause-failed g c =
    all_listed _ _ _ (omega (arith, c.listings.auto.folders, length-map c.args.folders.now g.F.Folder.view, length-map c.listings.new.folders g.F.Folder.view)) c.in-Ok.ensures.listed
