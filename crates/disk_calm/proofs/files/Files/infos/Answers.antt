use Rattle.std.proofs.Common.{◌≡◌, ◌∙◌, List, map, subst, sym, ap, Vec, Global}
use Rattle.disk_model.specs.Tree.{listed, listing_of, IsListing}
use Rattle.disk_model.specs.declared.meta.FileInfo.{FileInfo}
use Rattle.disk_calm.specs.Files.{info_of, tree_of}
use Rattle.disk_calm.specs.declared.files.MemFile.{MemFile}
use Rattle.disk_calm.proofs.ListingLemmas.{listing_is, is_listing, if_ok}
use Rattle.disk_calm.proofs.files.Files.infos.Goals as goal

pub returns-clause-listing : goal.returns-clause-listing
returns-clause-listing c =
    let files = c.args.self.now.list.items in
    let at = ap (λ (fs : List MemFile). map info_of fs) c.deref.ensures.value in
    if_ok (λ (infos : Vec FileInfo Global). listed infos.items ≡ map info_of c.deref.result.now) (λ (infos : Vec FileInfo Global). IsListing (listed infos.items)) c.infos_of.result
    (λ infos is. subst IsListing (sym (is ∙ at)) (is_listing files c.args.self.now.kept)) c.infos_of.ensures

pub returns-clause-found : goal.returns-clause-found
returns-clause-found c =
    let files = c.args.self.now.list.items in
    let at = ap (λ (fs : List MemFile). map info_of fs) c.deref.ensures.value in
    if_ok (λ (infos : Vec FileInfo Global). listed infos.items ≡ map info_of c.deref.result.now) (λ (infos : Vec FileInfo Global). listed infos.items ≡ listing_of (tree_of files)) c.infos_of.result
    (λ infos is. is ∙ at ∙ listing_is files c.args.self.now.kept.rising) c.infos_of.ensures
