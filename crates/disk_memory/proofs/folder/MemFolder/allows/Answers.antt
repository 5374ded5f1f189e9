use Rattle.std.proofs.Common.{Bool, ◌↔◌, IsTrue, true, false, ◌≡◌, refl, sym, ◌∙◌, subst}
use Rattle.disk_model.specs.Folder.{Allows}
use Rattle.disk_model.specs.Path.{IsValidPath}
use Rattle.disk_model.specs.Tree.{IsApart, path_of}
use Rattle.disk_calm.specs.Kept.{tree_in}
use Rattle.disk_memory.specs.Folder.{folder_view}
use Rattle.disk_calm.proofs.ListingLemmas.{if_ok}
use Rattle.disk_memory.proofs.folder.MemFolder.allows.Goals as goal

pub returns-then-not-is_valid_path : goal.returns-then-not-is_valid_path
returns-then-not-is_valid_path c =
    let name = c.as_str.ensures.value ∙ c.in_ok-text.ensures in
    (λ (no : false ≡ true). absurd (cc), λ allows. absurd (let yes = c.is_valid_path.ensures.1 (subst IsValidPath (sym name) allows.valid) in let no = c.if-not-is_valid_path.true in cc))

pub returns : goal.returns
returns c =
    let name = c.as_str.ensures.value ∙ c.in_ok-text.ensures in
    let path = c.as_bytes.ensures.value ∙ c.as_str-2.ensures.value ∙ c.in_ok-text.ensures in
    let tree = tree_in c.args.self.now.files in
    let valid = subst IsValidPath name (c.is_valid_path.ensures.0 c.if-not-is_valid_path.false) in
    if_ok (λ (answer : Bool). IsTrue answer ↔ IsApart tree c.as_bytes.result.now) (λ (answer : Bool). IsTrue answer ↔ Allows (folder_view c.args.self.now) (path_of c.args.path.now c.args.lost)) c.is_apart.result
    (λ answer is. (λ t. record { is_open = refl; valid = valid; apart = subst (IsApart tree) path (is.0 t) }, λ allows. is.1 (subst (IsApart tree) (sym path) allows.apart)))
    c.is_apart.ensures
