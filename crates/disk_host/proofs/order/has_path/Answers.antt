use Rattle.std.proofs.Common.{◌↔◌, IsTrue, Bool, sym, subst}
use Rattle.disk_host.specs.Listing.{HasPath}
use Rattle.disk_host.proofs.OrderLemmas.{found_exactly}
use Rattle.disk_host.proofs.order.has_path.Goals as goal

pub returns : goal.returns
returns c =
    subst (λ (is : Bool). IsTrue is ↔ HasPath c.args.files.now c.args.path.now) (sym c.is_ok.ensures.value)
    (found_exactly c.args.files.now c.args.path.now c.place_of.result c.requires c.place_of.ensures.bound c.place_of.ensures.place)
