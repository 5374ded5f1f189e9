use Rattle.std.proofs.Common.{refl}
use Rattle.disk_host.proofs.OrderLemmas.{makes_listing, listing_fits, listing_rises}
use Rattle.disk_host.proofs.order.is_listing.Goals as goal

pub returns-then-rises-clause-listing : goal.returns-then-rises-clause-listing
returns-then-rises-clause-listing c = λ is. makes_listing c.args.files.now (c.if-rises.ensures.order refl) (c.is_apart.ensures.apart is) c.requires

pub returns-then-rises-clause-refused : goal.returns-then-rises-clause-refused
returns-then-rises-clause-refused c = λ is found. c.is_apart.ensures.refused is (listing_fits c.args.files.now found)

pub returns-else-rises-clause-refused : goal.returns-else-rises-clause-refused
returns-else-rises-clause-refused c = λ is found. c.if-rises.ensures.refused refl (listing_rises c.args.files.now found)
