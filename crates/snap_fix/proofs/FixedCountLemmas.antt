-- What is counted of a stripe that is written anew, and which of its levels are flagged.
use Rattle.std.proofs.Common.{◌≡◌, ◌⊎◌, inl, inr, ℕ, ◌+◌, ◌<◌, ◌^◌, ◌-◌, ◌||◌, cond, min, List, [], ◌∷◌, ◌++◌, length, get_or, Bool, true, false, refl, sym, ap, ◌∙◌, subst, append_assoc, arith}
use Rattle.std.specs.Prelude.{if◌then◌else◌}
use Rattle.std.specs.List.{count_by, flat_map, range_with_len}
use Rattle.std.proofs.lemmas.List.{append-nil}
use Rattle.std.proofs.lemmas.List.Sums.{sum_by-append}
use Rattle.snap_report.specs.Kind.{is_finding, is_left}
use Rattle.snap_report.specs.declared.events.Event.{Event}
use Rattle.snap_report.specs.declared.events.Event.TheVariants.{FixedParity}
use Rattle.stripe_examiner.specs.declared.counts.Counts.{Counts}
use Rattle.snap_fix.specs.declared.fixing.Totals.{Totals}
use Rattle.stripe_examiner.specs.Counts.{AreCounts}
use Rattle.stripe_examiner.specs.Facts.{StripeFacts}
use Rattle.stripe_examiner.specs.Findings.{stripe_events}
use Rattle.snap_fix.specs.Fixing.{AreTotals, Writes}
use Rattle.snap_fix.specs.Mended.{Mended, all_cell_news, all_level_news, all_mended_events, is_wrong_level, level_news, written_in, wrong_in}
use Rattle.repair_scope.specs.Plan.{FixPlan}
use Rattle.snap_fix.specs.Repairing.{FlagsWritten}

-- ---- that a level was written is no finding

count_both : (test : Event → Bool) (one other : List Event) → count_by test (one ++ other) ≡ count_by test one + count_by test other
count_both test one other = sum_by-append (λ (event : Event). cond (test event) 1 0) one other

news_of : (test : Event → Bool) (event : Event) (wrong : Bool) → test event ≡ false → count_by test (if wrong then event ∷ [] else []) ≡ 0
news_of test event true none = ap (λ (b : Bool). 0 + cond b 1 0) none
news_of test event false none = refl

no_news : (test : Event → Bool) (plan : FixPlan) (facts : StripeFacts) → ((r : ℕ) → test (FixedParity facts.stripe r) ≡ false) → (rs : List ℕ)
    → count_by test (flat_map (level_news plan facts) rs) ≡ 0
no_news test plan facts none [] = refl
no_news test plan facts none (r ∷ rs) =
    let one : count_by test (level_news plan facts r) ≡ 0 = news_of test (FixedParity facts.stripe r) (is_wrong_level plan facts r) (none r) in
    omega (arith, count_both test (level_news plan facts r) (flat_map (level_news plan facts) rs), one, no_news test plan facts none rs)

-- counts stay where no more is found
pub counts_with_levels : (plan : FixPlan) (facts : StripeFacts) (events : List Event) (counts : Counts) → AreCounts events counts → AreCounts (events ++ all_level_news plan facts) counts
counts_with_levels plan facts events counts are =
    let rs : List ℕ = range_with_len 0 (length facts.levels) in
    let news : List Event = all_level_news plan facts in
    let found : count_by is_finding (events ++ news) ≡ count_by is_finding events + count_by is_finding news = count_both is_finding events news in
    let none_found : count_by is_finding news ≡ 0 = no_news is_finding plan facts (λ r. refl) rs in
    let left : count_by is_left (events ++ news) ≡ count_by is_left events + count_by is_left news = count_both is_left events news in
    let none_left : count_by is_left news ≡ 0 = no_news is_left plan facts (λ r. refl) rs in
    let same_found : count_by is_finding events ≡ count_by is_finding (events ++ news) = omega (arith, found, none_found) in
    let same_left : count_by is_left events ≡ count_by is_left (events ++ news) = omega (arith, left, none_left) in
    record {
      found = are.found ∙ ap (λ (n : ℕ). min n (2 ^ 64 - 1)) same_found;
      left = are.left ∙ ap (λ (n : ℕ). min n (2 ^ 64 - 1)) same_left;
    }

-- all events of a stripe, by what is found, its cells and its levels
pub events_apart : (plan : FixPlan) (mended : Mended) → all_mended_events plan (mended ∷ [])
    ≡ (stripe_events plan mended.facts ++ all_cell_news plan mended) ++ all_level_news plan mended.facts
events_apart plan mended =
    let found : List Event = stripe_events plan mended.facts in
    let cells : List Event = all_cell_news plan mended in
    let levels : List Event = all_level_news plan mended.facts in
    append-nil (found ++ (cells ++ levels)) ∙ sym (append_assoc found cells levels)

pub totals_of : (plan : FixPlan) (mended : Mended) (totals : Totals)
    → AreCounts (stripe_events plan mended.facts ++ all_cell_news plan mended) totals.counts
    → totals.blocks < 2 ^ 64 → totals.blocks ≡ written_in plan mended → totals.parities < 2 ^ 64 → totals.parities ≡ wrong_in plan mended
    → AreTotals plan (mended ∷ []) totals
totals_of plan mended totals counts few_blocks blocks few_parities parities = record {
  counts = subst (λ (events : List Event). AreCounts events totals.counts) (sym (events_apart plan mended))
      (counts_with_levels plan mended.facts (stripe_events plan mended.facts ++ all_cell_news plan mended) totals.counts counts);
  blocks = omega (arith, few_blocks, blocks);
  parities = omega (arith, few_parities, parities);
}

-- ---- the flags of the levels

flag_by : (after before wrong : Bool) → after ≡ (before || wrong)
    → (after ≡ true → (before ≡ true) ⊎ ((wrong || false) ≡ true)) × ((before ≡ true) ⊎ ((wrong || false) ≡ true) → after ≡ true)
flag_by after true wrong is = (λ _. inl refl, λ _. is)
flag_by after false true is = (λ _. inr refl, λ _. is)
flag_by after false false is = (λ set. let clash : false ≡ true = sym is ∙ set in absurd cc, λ some. elim some [ inl set ↦ absurd cc | inr set ↦ absurd cc ])

pub writes_one : (plan : FixPlan) (mended : Mended) (before after : List Bool) → FlagsWritten plan mended.facts before after → Writes plan (mended ∷ []) before after
writes_one plan mended before after flags =
    (flags.0, λ r below. flag_by (get_or after r false) (get_or before r false) (is_wrong_level plan mended.facts r) (flags.1 r below))
