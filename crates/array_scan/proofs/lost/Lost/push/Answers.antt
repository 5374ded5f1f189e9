use Rattle.std.proofs.Common.{◌≡◌, ℕ, List, ap, sym, subst, ◌∙◌, length, Some, arith}
use Rattle.array_scan.specs.declared.lost.Node.{Node}
use Rattle.array_scan.specs.Lost.{Key, key_of, key_cmp, with_first}
use Rattle.std.specs.BTreeMap.{get, Updates}
use Rattle.array_scan.proofs.LostLemmas.{Left, left_pushed}
use Rattle.array_scan.proofs.lost.Lost.push.Goals as goal

pub returns : goal.returns
returns c records left =
    let lost = c.args.self.now in
    let next : c.copied-next.result ≡ get key_cmp lost.heads (key_of c.args.meta) = c.copied-next.ensures ∙ c.get.ensures.value ∙ ap (get key_cmp lost.heads) c.key_of-key.ensures in
    let at : c.len-at.result ≡ length lost.nodes.items = omega (arith, lost.nodes.ok.0, c.len-at.ensures) in
    let updates : Updates key_cmp lost.heads c.insert.new.self (key_of c.args.meta) (Some (length lost.nodes.items)) =
    subst (λ (key : Key). Updates key_cmp lost.heads c.insert.new.self key (Some (length lost.nodes.items))) c.key_of-key.ensures
    (subst (λ (n : ℕ). Updates key_cmp lost.heads c.insert.new.self c.key_of-key.result (Some n)) at c.in_ok-insert.ensures.updates) in
    subst (λ (nodes : List Node). Left nodes c.insert.new.self (with_first records c.args.rec c.args.meta)) (sym c.in_ok-push.ensures.items)
    (left_pushed lost.nodes.items lost.heads c.insert.new.self c.args.rec c.args.meta c.copied-next.result records next updates left)
