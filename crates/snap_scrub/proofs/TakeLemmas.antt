-- What a percentage takes of the stripes that a scrub may check.
use Rattle.std.proofs.Common.{◌≡◌, ℕ, ◌<◌, ◌≤◌, ◌^◌, List, ◌∷◌, ◌++◌, length, get_or, Bool, sym, ap, ◌∙◌, subst, arith}
use Rattle.std.specs.Prelude.{◌||◌, nat_lt, filter}
use Rattle.std.specs.List.{All, Contains}
use Rattle.std.specs.List.Sorted.{IsPermutation, IsSplitAroundByKey}
use Rattle.std.specs.Ordering.{nat_cmp}
use Rattle.std.proofs.lemmas.List.{get_or_default}
use Rattle.std.proofs.lemmas.Map.Keys.{ge_from_not_lt}
use Rattle.file_table.specs.Table.{TableValue, info_at}
use Rattle.file_table.specs.declared.info.Info.{Info}
use Rattle.array_setup.specs.declared.ways.ScrubPlan.{ScrubPlan}
use Rattle.array_setup.specs.declared.ways.ScrubPlan.TheVariants.{Percent}
use Rattle.snap_scrub.specs.Plan.{candidates, is_candidate, is_old, old_candidates, share_of, takes_oldest, takes}
use Rattle.snap_scrub.specs.Order.{order_in, recent_in, takes_before}
use Rattle.snap_scrub.proofs.SplitLemmas.{IsSplit}
use Rattle.snap_scrub.proofs.PlanLemmas.{filter_agrees, distinct_numbers, old_is, apart_by, before_first, before_recent}

-- the last check of a stripe
abbrev last_in : List Info → ℕ → ℕ
last_in infos stripe = (info_at infos stripe).last

-- what a percentage takes, once it is known what it takes for their age
pub taken_by : (table : TableValue) (plan : ScrubPlan) (percent days now end stripe : ℕ) → plan ≡ Percent percent → nat_lt (order_in table.infos stripe) end ≡ takes_oldest table percent days now stripe → takes_before table plan end stripe ≡ takes table plan days now stripe
taken_by table plan percent days now end stripe is same =
    ap (λ (p : ScrubPlan). takes_before table p end stripe) is
    ∙ ap (λ (t : Bool). (info_at table.infos stripe).bad || t) same
    ∙ sym (ap (λ (p : ScrubPlan). takes table p days now stripe) is)

module _ (table : TableValue) (stripes : List ℕ) (days now percent : ℕ) (are : stripes ≡ candidates table) (small : (i : ℕ) → get_or stripes i 0 < 2 ^ 32) where
  fit : All (λ s. s < 2 ^ 32) (candidates table)
  fit = subst (λ (xs : List ℕ). All (λ s. s < 2 ^ 32) xs) are (λ k d within. subst (λ (n : ℕ). n < 2 ^ 32) (get_or_default stripes k 0 d within) (small k))

  -- those before the first recent place are the old ones
  pub old_are : (recent : ℕ) → recent ≡ recent_in days now → filter (λ s. nat_lt (order_in table.infos s) recent) stripes ≡ old_candidates table days now
  old_are recent is =
      ap (λ (r : ℕ). filter (λ s. nat_lt (order_in table.infos s) r) stripes) is
      ∙ ap (filter (λ s. nat_lt (order_in table.infos s) (recent_in days now))) are
      ∙ filter_agrees (λ s. nat_lt (order_in table.infos s) (recent_in days now)) (λ s. is_old days now (info_at table.infos s)) (candidates table)
      (λ k d within. sym (old_is (last_in table.infos) days now 0 (candidates table) fit (get_or (candidates table) k d) (fit k d within)))

  shares : (share : ℕ) → share ≡ share_of percent (length stripes) → share ≡ share_of percent (length (candidates table))
  shares share is = is ∙ ap (λ (xs : List ℕ). share_of percent (length xs)) are

  -- all old ones are taken
  pub all_old : (recent share : ℕ) (old : List ℕ) → recent ≡ recent_in days now → old ≡ filter (λ s. nat_lt (order_in table.infos s) recent) stripes → share ≡ share_of percent (length stripes) → length old ≤ share → (s : ℕ) → Contains (candidates table) s → nat_lt (order_in table.infos s) recent ≡ takes_oldest table percent days now s
  all_old recent share old recent_is old_is_them share_is few s there =
      let long : length old ≡ length (old_candidates table days now) = ap length (old_is_them ∙ old_are recent recent_is) in
      ap (nat_lt (order_in table.infos s)) recent_is
      ∙ before_recent (last_in table.infos) days now (share_of percent (length (candidates table))) (candidates table) fit (omega (arith, long, few, shares share share_is)) s there

  -- those before the first that is left are taken
  pub some_left : (recent share : ℕ) (old front : List ℕ) (x : ℕ) (back : List ℕ) → recent ≡ recent_in days now → old ≡ filter (λ s. nat_lt (order_in table.infos s) recent) stripes → share ≡ share_of percent (length stripes) → IsPermutation old (front ++ x ∷ back) → length front ≡ share → IsSplitAroundByKey (order_in table.infos) nat_cmp front x back → (s : ℕ) → Contains (candidates table) s → nat_lt (order_in table.infos s) (order_in table.infos x) ≡ takes_oldest table percent days now s
  some_left recent share old front x back recent_is old_is_them share_is moved long parted s there =
      let split : IsSplit (order_in table.infos) (old_candidates table days now) front x back = record {
        moved = subst (λ (xs : List ℕ). IsPermutation xs (front ++ x ∷ back)) (old_is_them ∙ old_are recent recent_is) moved;
        once = distinct_numbers (is_candidate table) (λ stripe. is_old days now (info_at table.infos stripe)) (length table.infos);
        apart = apart_by (last_in table.infos) days now 0 (candidates table) fit;
        low = λ k d within. ge_from_not_lt _ _ (parted.0 k d within);
        high = λ k d within. ge_from_not_lt _ _ (parted.1 k d within);
      } in
      before_first (last_in table.infos) days now (share_of percent (length (candidates table))) (candidates table) fit front back x split (long ∙ shares share share_is) s there
