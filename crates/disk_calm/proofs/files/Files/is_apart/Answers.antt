use Rattle.std.proofs.Common.{◌↔◌, Bool, IsTrue}
use Rattle.disk_model.specs.Tree.{IsApart}
use Rattle.disk_calm.specs.Files.{tree_of, HoldsNone}
use Rattle.disk_calm.proofs.ListingLemmas.{if_ok}
use Rattle.disk_calm.proofs.files.Files.is_apart.Goals as goal

pub returns : goal.returns
returns c =
    let tree = tree_of c.args.self.now.list.items in
    let path = c.args.path.now in
    let none = c.has_no_directory.ensures.0 c.if-not-has_no_directory.false in
    if_ok (λ (answer : Bool). IsTrue answer ↔ HoldsNone tree path) (λ (answer : Bool). IsTrue answer ↔ IsApart tree path) c.holds_none.result
    (λ answer holds. (λ t other file found. (none other file found, holds.0 t other file found), λ apart. holds.1 (λ other file found. (apart other file found).1)))
    c.holds_none.ensures
