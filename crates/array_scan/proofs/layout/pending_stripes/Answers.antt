use Rattle.std.proofs.Common.{◌≡◌, ℕ, ◌+◌, List, [], ◌∷◌, ◌++◌, filter, cond, Bool, refl, ap, sym, ◌∙◌, Vec}
use Rattle.std.specs.List.{range_with_len}
use Rattle.std.proofs.lemmas.List.{append-nil}
use Rattle.std.proofs.lemmas.List.Elements.{filter-append}
use Rattle.file_table.specs.declared.info.Info.{Info}
use Rattle.file_table.specs.Table.{info_at}
use Rattle.array_scan.specs.Layout.{is_pending}
use Rattle.folder_listing.proofs.JoinedLemmas.{range_more}
use Rattle.array_scan.proofs.layout.pending_stripes.Goals as goal
use Rattle.array_scan.proofs.layout.pending_stripes.Goals.{then-is_pending+in_ok-push, else-is_pending}

more : (p : ℕ → Bool) (n : ℕ) → filter p (range_with_len 0 (n + 1)) ≡ filter p (range_with_len 0 n) ++ cond (p n) (n ∷ []) []
more p n = ap (filter p) (range_more n) ∙ filter-append p (range_with_len 0 n) (n ∷ []) ∙ ap (λ (xs : List ℕ). filter p (range_with_len 0 n) ++ xs) (one (p n))
  where
    one : (t : Bool) → cond t (n ∷ []) [] ≡ cond t (n ∷ []) []
    one t = refl

pub loop-stripe-preserved : goal.loop-stripe-preserved
loop-stripe-preserved c =
    let infos = c.args.table.now.infos in
    let s = c.loop-stripe.stripe in
    let p : ℕ → Bool = λ stripe. is_pending (info_at infos stripe).mark in
    let here : p s ≡ c.is_pending.result = ap (λ (i : Info). is_pending i.mark) (sym c.info.ensures) ∙ sym c.is_pending.ensures in
    elim c.if-is_pending.branch [
      | then-is_pending+in_ok-push w ↦
          ap (λ (v : Vec ℕ _). v.items) w.pending-is ∙ w.in_ok-push.ensures.items ∙ ap (λ (xs : List ℕ). xs ++ s ∷ []) c.loop-stripe.invariant
          ∙ sym (more p s ∙ ap (λ (t : Bool). filter p (range_with_len 0 s) ++ cond t (s ∷ []) []) (here ∙ w.if-is_pending.true))
      | else-is_pending w ↦
          ap (λ (v : Vec ℕ _). v.items) w.pending-is ∙ c.loop-stripe.invariant
          ∙ sym (more p s ∙ ap (λ (t : Bool). filter p (range_with_len 0 s) ++ cond t (s ∷ []) []) (here ∙ w.if-is_pending.false) ∙ append-nil (filter p (range_with_len 0 s)))
    ]
