use Rattle.std.proofs.Common.{List, All, sym, subst}
use Rattle.disk_model.specs.Tree.{IsListing}
use Rattle.folder_listing.specs.declared.listing.Listing.{Listing}
use Rattle.folder_listing.specs.Kept.{lists_of}
use Rattle.array_scan_tests.proofs.tests.outcome.lay_in_place.Goals as goal

pub lay_out_in_place-requires-clause-order : goal.lay_out_in_place-requires-clause-order
lay_out_in_place-requires-clause-order c = subst (λ (lists : List Listing). All IsListing (lists_of lists)) (sym c.deref.ensures.value) c.requires.order
