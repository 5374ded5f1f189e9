use Rattle.std.proofs.Common.{arith}
use Rattle.std.proofs.lemmas.List.{length-map}
use Rattle.folder_listing.proofs.ListingLemmas.{give_none, give_more, give_all}
use Rattle.folder_listing.proofs.listing.list_each.Goals as goal

pub loop-d-init : goal.loop-d-init
loop-d-init g c = give_none g.F.Folder.view c.args.folders.now c.args.listings.now c.args.faults.now c.requires

pub loop-d-preserved : goal.loop-d-preserved
loop-d-preserved g c =
    give_more g.F.Folder.view c.loop-d.d c.args.folders.now c.loop-d.folders _ c.list_one.new.folder c.loop-d.listings c.list_one.new.listing c.loop-d.faults c.list_one.result
    c.loop-d-test.true c.loop-d.invariant c.list_one.ensures

pub returns : goal.returns
returns g c = give_all c.loop-d.d _ _ _ _ (omega (arith, c.loop-d-test.false, length-map c.args.folders.now g.F.Folder.view)) c.loop-d.invariant
