use Rattle.std.proofs.Common.{◌≡◌, ℕ, ◌<◌, List, Option, ap, sym, subst, ◌∙◌, length, get_or, Some, None}
use Rattle.std.specs.Borrow.{Bor}
use Rattle.std.specs.Option.{option_copied, IfSome, IsSome}
use Rattle.std.specs.BTreeMap.{get, Updates, UpdatesBy}
use Rattle.std.proofs.lemmas.List.{get_or_default}
use Rattle.array_scan.specs.declared.lost.Node.{Node}
use Rattle.array_scan.specs.Lost.{Key, key_of, key_cmp, node_at, no_node}
use Rattle.array_scan.proofs.LostLemmas.{taken_first, left_taken}
use Rattle.array_scan.proofs.lost.Lost.take.Goals as goal

-- what was copied is what stands there
copied_is : (nodes : List Node) (at : ℕ) (o : Option (Bor Node)) (node : Node) → Some node ≡ option_copied o → IfSome o (λ x. x.now ≡ get_or nodes at x.now) → at < length nodes → node ≡ node_at nodes at
copied_is nodes at None node is read within = absurd cc
copied_is nodes at (Some x) node is read within =
    let same : node ≡ x.now = cc in
    same ∙ read ∙ get_or_default nodes at x.now no_node within

none_copied : (o : Option (Bor Node)) → None ≡ option_copied o → IsSome o → ⊥
none_copied None is some = cc
none_copied (Some x) is some = cc

pub returns-in_default-copied-clause-first : goal.returns-in_default-copied-clause-first
returns-in_default-copied-clause-first c records left =
    let lost = c.args.self.now in
    let head : get key_cmp lost.heads (key_of c.args.meta) ≡ Some c.in-Some.at = ap (get key_cmp lost.heads) (sym c.key_of-key.ensures) ∙ sym c.get.ensures.value ∙ sym c.copied.ensures ∙ c.in-Some.is in
    let within : c.in-Some.at < length lost.nodes.items = (taken_first lost.nodes.items lost.heads c.args.meta c.in-Some.at records c.requires head left).0 in
    let there : c.in-Some.at < length c.deref.result.now = subst (λ (nodes : List Node). c.in-Some.at < length nodes) (sym c.deref.ensures.value) within in
    absurd (none_copied c.get-2.result (sym c.in_default-copied.is ∙ c.copied-2.ensures) (c.get-2.ensures.lookup.2 there))

pub returns-in_ok-insert-in-Some-next-clause-first : goal.returns-in_ok-insert-in-Some-next-clause-first
returns-in_ok-insert-in-Some-next-clause-first c records left =
    let lost = c.args.self.now in
    let head : get key_cmp lost.heads (key_of c.args.meta) ≡ Some c.in-Some.at = ap (get key_cmp lost.heads) (sym c.key_of-key.ensures) ∙ sym c.get.ensures.value ∙ sym c.copied.ensures ∙ c.in-Some.is in
    let first = taken_first lost.nodes.items lost.heads c.args.meta c.in-Some.at records c.requires head left in
    let read = subst (λ (nodes : List Node). IfSome c.get-2.result (λ x. x.now ≡ get_or nodes c.in-Some.at x.now)) c.deref.ensures.value c.get-2.ensures.lookup.1 in
    let node : c.in-Some-copied.node ≡ node_at lost.nodes.items c.in-Some.at = copied_is lost.nodes.items c.in-Some.at c.get-2.result c.in-Some-copied.node (sym c.in-Some-copied.is ∙ c.copied-2.ensures) read first.0 in
    ap (λ (n : Node). Some n.rec) node ∙ first.1

pub returns-in_ok-insert-in-Some-next-clause-rest : goal.returns-in_ok-insert-in-Some-next-clause-rest
returns-in_ok-insert-in-Some-next-clause-rest c records left =
    let lost = c.args.self.now in
    let head : get key_cmp lost.heads (key_of c.args.meta) ≡ Some c.in-Some.at = ap (get key_cmp lost.heads) (sym c.key_of-key.ensures) ∙ sym c.get.ensures.value ∙ sym c.copied.ensures ∙ c.in-Some.is in
    let first = taken_first lost.nodes.items lost.heads c.args.meta c.in-Some.at records c.requires head left in
    let read = subst (λ (nodes : List Node). IfSome c.get-2.result (λ x. x.now ≡ get_or nodes c.in-Some.at x.now)) c.deref.ensures.value c.get-2.ensures.lookup.1 in
    let node : c.in-Some-copied.node ≡ node_at lost.nodes.items c.in-Some.at = copied_is lost.nodes.items c.in-Some.at c.get-2.result c.in-Some-copied.node (sym c.in-Some-copied.is ∙ c.copied-2.ensures) read first.0 in
    let updates : Updates key_cmp lost.heads c.insert.new.self (key_of c.args.meta) (Some c.in-Some-next.next) =
    subst (λ (key : Key). Updates key_cmp lost.heads c.insert.new.self key (Some c.in-Some-next.next)) c.key_of-key.ensures c.in_ok-insert-in-Some-next.ensures.updates in
    left_taken lost.nodes.items lost.heads c.insert.new.self c.args.meta c.in-Some.at (Some c.in-Some-next.next) records head (sym c.in-Some-next.is ∙ ap (λ (n : Node). n.next) node) updates left

pub returns-in-None-clause-first : goal.returns-in-None-clause-first
returns-in-None-clause-first c records left =
    let lost = c.args.self.now in
    let head : get key_cmp lost.heads (key_of c.args.meta) ≡ Some c.in-Some.at = ap (get key_cmp lost.heads) (sym c.key_of-key.ensures) ∙ sym c.get.ensures.value ∙ sym c.copied.ensures ∙ c.in-Some.is in
    let first = taken_first lost.nodes.items lost.heads c.args.meta c.in-Some.at records c.requires head left in
    let read = subst (λ (nodes : List Node). IfSome c.get-2.result (λ x. x.now ≡ get_or nodes c.in-Some.at x.now)) c.deref.ensures.value c.get-2.ensures.lookup.1 in
    let node : c.in-Some-copied.node ≡ node_at lost.nodes.items c.in-Some.at = copied_is lost.nodes.items c.in-Some.at c.get-2.result c.in-Some-copied.node (sym c.in-Some-copied.is ∙ c.copied-2.ensures) read first.0 in
    ap (λ (n : Node). Some n.rec) node ∙ first.1

pub returns-in-None-clause-rest : goal.returns-in-None-clause-rest
returns-in-None-clause-rest c records left =
    let lost = c.args.self.now in
    let head : get key_cmp lost.heads (key_of c.args.meta) ≡ Some c.in-Some.at = ap (get key_cmp lost.heads) (sym c.key_of-key.ensures) ∙ sym c.get.ensures.value ∙ sym c.copied.ensures ∙ c.in-Some.is in
    let first = taken_first lost.nodes.items lost.heads c.args.meta c.in-Some.at records c.requires head left in
    let read = subst (λ (nodes : List Node). IfSome c.get-2.result (λ x. x.now ≡ get_or nodes c.in-Some.at x.now)) c.deref.ensures.value c.get-2.ensures.lookup.1 in
    let node : c.in-Some-copied.node ≡ node_at lost.nodes.items c.in-Some.at = copied_is lost.nodes.items c.in-Some.at c.get-2.result c.in-Some-copied.node (sym c.in-Some-copied.is ∙ c.copied-2.ensures) read first.0 in
    let updates : UpdatesBy key_cmp (key_cmp (key_of c.args.meta)) lost.heads c.remove.new.self None =
    subst (λ (key : Key). UpdatesBy key_cmp (key_cmp key) lost.heads c.remove.new.self None) c.key_of-key.ensures c.remove.ensures.updates in
    left_taken lost.nodes.items lost.heads c.remove.new.self c.args.meta c.in-Some.at None records head (sym c.in-None.is ∙ ap (λ (n : Node). n.next) node) updates left
