use Rattle.std.proofs.Common.{◌≡◌, ◌<◌, ◌↔◌, ◌∙◌, arith, length, subst, sym, ap, IsTrue, not}
use Rattle.file_table.specs.declared.stripes.Stripe.{Stripe}
use Rattle.file_table.specs.Builder.{building_of}
use Rattle.file_table.specs.Building.{BuildingValue}
use Rattle.file_table.specs.Stripes.{users_of, lacking_of}
use Rattle.file_table.specs.Valid.{IsHashedAt}
use Rattle.file_table.proofs.CallLemmas.{decides_hashed}
use Rattle.file_table.proofs.builder.Builder.next_has_hashes.Goals as goal

pub returns : goal.returns
returns c =
    let b = c.self.inside in
    let below : length b.infos.items < b.length = subst (λ (v : BuildingValue). length v.infos < v.length) (sym c.self.view_is) c.requires in
    let number : c.len.result ≡ length b.infos.items = omega arith in
    let read : c.at.result.unhashed ≡ lacking_of b.stripes (length b.infos.items) = ap (λ (stripe : Stripe). stripe.unhashed) c.at.ensures ∙ ap (lacking_of b.stripes) number in
    let decides = decides_hashed (building_of b) (users_of b.stripes) (lacking_of b.stripes) b.records b.due b.lacking b.end c.self.invariant (length b.infos.items) c.at.result.unhashed below read in
    subst (λ (v : BuildingValue). IsTrue (not c.at.result.unhashed) ↔ IsHashedAt v.columns (length v.infos)) c.self.view_is decides
