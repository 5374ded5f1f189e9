use Rattle.std.proofs.Common.{List, All, sym, subst}
use Rattle.disk_model.specs.Tree.{IsListing}
use Rattle.folder_listing.specs.declared.listing.Listing.{Listing}
use Rattle.folder_listing.specs.Kept.{lists_of}
use Rattle.array_scan_tests.proofs.tests.outcome.lay.Goals as goal

pub lay_out-requires-clause-order : goal.lay_out-requires-clause-order
lay_out-requires-clause-order c = subst (λ (lists : List Listing). All IsListing (lists_of lists)) (sym c.deref.ensures.value) c.requires.order
