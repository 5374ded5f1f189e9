use Rattle.std.proofs.Common.{◌≡◌, length}
use Rattle.folder_listing.proofs.listing.empty_listings.Given as goal

abbrev pub invariant-loop : goal.invariant-loop
invariant-loop l = length l.listings.items ≡ l.counter
