use Rattle.std.proofs.Common.{map}
use Rattle.folder_listing.proofs.ListingLemmas.{GiveSome}
use Rattle.folder_listing.proofs.listing.list_each.Given as goal

abbrev pub invariant-loop-d : goal.invariant-loop-d
invariant-loop-d g l = GiveSome l.d (map g.F.Folder.view l.fn.folders) (map g.F.Folder.view l.folders) l.listings l.faults
