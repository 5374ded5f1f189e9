-- Chains of vanished records, and what a record more or less makes of them.
use Rattle.std.proofs.Common.{◌≡◌, ℕ, ◌<◌, ◌==◌, ◌&&◌, List, [], ◌∷◌, ◌++◌, length, drop, cond, Bool, true, false, refl, sym, ap, ◌∙◌, subst, arith, length-append, Option, None, Some}
use Rattle.std.specs.List.{slice_get}
use Rattle.std.specs.BTreeMap.{BTreeMap, get, is_at, Updates, UpdatesBy}
use Rattle.std.specs.Ordering.{nat_cmp, int_cmp, ordering_then, is_eq}
use Rattle.std.specs.Cmp.{tied_then, unsigned_tied}
use Rattle.std.proofs.lemmas.Bool.{eqb-true}
use Rattle.std.proofs.lemmas.Bool.Decides.{Decides-int_eq}
use Rattle.std.proofs.lemmas.List.{get_or_append_left, get_or_at}
use Rattle.disk_model.specs.declared.meta.Meta.{Meta}
use Rattle.array_scan.specs.declared.lost.Node.{Node}
use Rattle.folder_listing.specs.Kept.{same_meta}
use Rattle.array_scan.specs.Fates.{may_move}
use Rattle.array_scan.specs.Lost.{Key, key_of, key_cmp, no_node, node_at, IsChain, with_first, without_first}

-- ---- keys

pub key_tied : (a b : Meta) → is_at (key_cmp (key_of a)) (key_of b) ≡ same_meta a b
key_tied a b =
    let size = nat_cmp a.size b.size in
    let seconds = int_cmp a.stamp.seconds b.stamp.seconds in
    let nanos = nat_cmp a.stamp.nanos b.stamp.nanos in
    sym (tied_then (ordering_then size seconds) nanos)
    ∙ ap (λ (t : Bool). t && is_eq nanos) (sym (tied_then size seconds))
    ∙ ap (λ (t : Bool). (t && is_eq seconds) && is_eq nanos) (unsigned_tied a.size b.size)
    ∙ ap (λ (t : Bool). ((a.size == b.size) && is_eq seconds) && t) (unsigned_tied a.stamp.nanos b.stamp.nanos)

pub both_true : (s t : Bool) → (s && t) ≡ true → (s ≡ true) × (t ≡ true)
both_true true t h = (refl, h)
both_true false t h = absurd cc

pub same_is : (a b : Meta) → same_meta a b ≡ true → a ≡ b
same_is a b h =
    let first = both_true _ _ h in
    let rest = both_true _ _ first.0 in
    let size : a.size ≡ b.size = eqb-true a.size b.size rest.0 in
    let seconds : a.stamp.seconds ≡ b.stamp.seconds = (Decides-int_eq a.stamp.seconds b.stamp.seconds).0 rest.1 in
    let nanos : a.stamp.nanos ≡ b.stamp.nanos = eqb-true a.stamp.nanos b.stamp.nanos first.1 in
    λ i. record { size = size i; stamp = record { seconds = seconds i; nanos = nanos i } }

-- ---- chains

pub IsChain-push : (nodes : List Node) (node : Node) (head : Option ℕ) (recs : List ℕ) → IsChain nodes head recs → IsChain (nodes ++ node ∷ []) head recs
IsChain-push nodes node None [] chain = tt
IsChain-push nodes node None (rec ∷ recs) chain = chain
IsChain-push nodes node (Some at) [] chain = chain
IsChain-push nodes node (Some at) (rec ∷ recs) chain =
    let same : node_at (nodes ++ node ∷ []) at ≡ node_at nodes at = get_or_append_left nodes (node ∷ []) no_node at chain.0 in
    let within : at < length (nodes ++ node ∷ []) = omega (arith, chain.0, length-append nodes (node ∷ [])) in
    let rest : IsChain (nodes ++ node ∷ []) (node_at (nodes ++ node ∷ []) at).next recs =
    subst (λ (n : Node). IsChain (nodes ++ node ∷ []) n.next recs) (sym same) (IsChain-push nodes node (node_at nodes at).next recs chain.2) in
    (within, ap (λ (n : Node). n.rec) same ∙ chain.1, rest)

IsChain-first : (nodes : List Node) (rec : ℕ) (next : Option ℕ) (recs : List ℕ) → IsChain nodes next recs → IsChain (nodes ++ record { rec = rec; next = next } ∷ []) (Some (length nodes)) (rec ∷ recs)
IsChain-first nodes rec next recs chain =
    let node : Node = record { rec = rec; next = next } in
    let same : node_at (nodes ++ node ∷ []) (length nodes) ≡ node = get_or_at nodes node [] no_node (length nodes) refl in
    let within : length nodes < length (nodes ++ node ∷ []) = omega (arith, length-append nodes (node ∷ [])) in
    let rest : IsChain (nodes ++ node ∷ []) (node_at (nodes ++ node ∷ []) (length nodes)).next recs =
    subst (λ (n : Node). IsChain (nodes ++ node ∷ []) n.next recs) (sym same) (IsChain-push nodes node next recs chain) in
    (within, ap (λ (n : Node). n.rec) same, rest)

-- of each size and stamp that a file may move by, these records are left
abbrev pub Left : List Node → BTreeMap Key ℕ → (Meta → List ℕ) → Type 0
Left nodes heads records = (meta : Meta) → may_move meta ≡ true → IsChain nodes (get key_cmp heads (key_of meta)) (records meta)

pub left_pushed : (nodes : List Node) (heads heads_new : BTreeMap Key ℕ) (rec : ℕ) (meta : Meta) (next : Option ℕ) (records : Meta → List ℕ)
    → next ≡ get key_cmp heads (key_of meta) → Updates key_cmp heads heads_new (key_of meta) (Some (length nodes)) → Left nodes heads records
    → Left (nodes ++ record { rec = rec; next = next } ∷ []) heads_new (with_first records rec meta)
left_pushed nodes heads heads_new rec meta next records head updates left other moves =
    let node : Node = record { rec = rec; next = next } in
    let found : get key_cmp heads_new (key_of other) ≡ cond (same_meta meta other) (Some (length nodes)) (get key_cmp heads (key_of other)) =
    updates.0 (key_of other) ∙ ap (λ (t : Bool). cond t (Some (length nodes)) (get key_cmp heads (key_of other))) (key_tied meta other) in
    subst (λ (h : Option ℕ). IsChain (nodes ++ node ∷ []) h (with_first records rec meta other)) (sym found)
    ((elim (same_meta meta other) as (λ (t : Bool). same_meta meta other ≡ t → IsChain (nodes ++ node ∷ []) (cond t (Some (length nodes)) (get key_cmp heads (key_of other))) (cond t (rec ∷ records other) (records other))) [
      | true ↦ λ same. IsChain-first nodes rec next (records other)
          (subst (λ (h : Option ℕ). IsChain nodes h (records other)) (ap (λ (m : Meta). get key_cmp heads (key_of m)) (sym (same_is meta other same)) ∙ sym head) (left other moves))
      | false ↦ λ apart. IsChain-push nodes node (get key_cmp heads (key_of other)) (records other) (left other moves)
    ]) refl)

-- ---- one taken

chain_first : (nodes : List Node) (at : ℕ) (recs : List ℕ) → IsChain nodes (Some at) recs → (at < length nodes) × (Some (node_at nodes at).rec ≡ slice_get recs 0) × IsChain nodes (node_at nodes at).next (drop 1 recs)
chain_first nodes at [] chain = absurd chain
chain_first nodes at (rec ∷ recs) chain = (chain.0, ap Some chain.1, chain.2)

chain_none : (nodes : List Node) (recs : List ℕ) → IsChain nodes None recs → recs ≡ []
chain_none nodes [] chain = refl
chain_none nodes (rec ∷ recs) chain = absurd chain

pub taken_first : (nodes : List Node) (heads : BTreeMap Key ℕ) (meta : Meta) (at : ℕ) (records : Meta → List ℕ) → may_move meta ≡ true → get key_cmp heads (key_of meta) ≡ Some at → Left nodes heads records
    → (at < length nodes) × (Some (node_at nodes at).rec ≡ slice_get (records meta) 0)
taken_first nodes heads meta at records moves head left =
    let all = chain_first nodes at (records meta) (subst (λ (h : Option ℕ). IsChain nodes h (records meta)) head (left meta moves)) in
    (all.0, all.1)

pub left_taken : (nodes : List Node) (heads heads_new : BTreeMap Key ℕ) (meta : Meta) (at : ℕ) (next : Option ℕ) (records : Meta → List ℕ)
    → get key_cmp heads (key_of meta) ≡ Some at → next ≡ (node_at nodes at).next → UpdatesBy key_cmp (key_cmp (key_of meta)) heads heads_new next → Left nodes heads records
    → Left nodes heads_new (without_first records meta)
left_taken nodes heads heads_new meta at next records head next_is updates left other moves =
    let found : get key_cmp heads_new (key_of other) ≡ cond (same_meta meta other) next (get key_cmp heads (key_of other)) =
    updates.0 (key_of other) ∙ ap (λ (t : Bool). cond t next (get key_cmp heads (key_of other))) (key_tied meta other) in
    subst (λ (h : Option ℕ). IsChain nodes h (without_first records meta other)) (sym found)
    ((elim (same_meta meta other) as (λ (t : Bool). same_meta meta other ≡ t → IsChain nodes (cond t next (get key_cmp heads (key_of other))) (cond t (drop 1 (records other)) (records other))) [
      | true ↦ λ same.
          let here : get key_cmp heads (key_of other) ≡ Some at = ap (λ (m : Meta). get key_cmp heads (key_of m)) (sym (same_is meta other same)) ∙ head in
          let all = chain_first nodes at (records other) (subst (λ (h : Option ℕ). IsChain nodes h (records other)) here (left other moves)) in
          subst (λ (h : Option ℕ). IsChain nodes h (drop 1 (records other))) (sym next_is) all.2
      | false ↦ λ apart. left other moves
    ]) refl)

pub none_first : (nodes : List Node) (heads : BTreeMap Key ℕ) (meta : Meta) (records : Meta → List ℕ) → may_move meta ≡ true → get key_cmp heads (key_of meta) ≡ None → Left nodes heads records
    → None ≡ slice_get (records meta) 0
none_first nodes heads meta records moves head left =
    ap (λ (recs : List ℕ). slice_get recs 0) (sym (chain_none nodes (records meta) (subst (λ (h : Option ℕ). IsChain nodes h (records meta)) head (left meta moves))))

pub left_same : (nodes : List Node) (heads : BTreeMap Key ℕ) (meta : Meta) (records : Meta → List ℕ) → get key_cmp heads (key_of meta) ≡ None → Left nodes heads records
    → Left nodes heads (without_first records meta)
left_same nodes heads meta records head left other moves =
    (elim (same_meta meta other) as (λ (t : Bool). same_meta meta other ≡ t → IsChain nodes (get key_cmp heads (key_of other)) (cond t (drop 1 (records other)) (records other))) [
      | true ↦ λ same.
          let here : get key_cmp heads (key_of other) ≡ None = ap (λ (m : Meta). get key_cmp heads (key_of m)) (sym (same_is meta other same)) ∙ head in
          let bare : records other ≡ [] = chain_none nodes (records other) (subst (λ (h : Option ℕ). IsChain nodes h (records other)) here (left other moves)) in
          subst (λ (recs : List ℕ). IsChain nodes (get key_cmp heads (key_of other)) (drop 1 recs)) (sym bare) (subst (λ (recs : List ℕ). IsChain nodes (get key_cmp heads (key_of other)) recs) bare (left other moves))
      | false ↦ λ apart. left other moves
    ]) refl
