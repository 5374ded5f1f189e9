-- Stripes cut into windows: what is read of their levels, and what is written, for some of them and then for others.
use Rattle.std.proofs.Common.{◌≡◌, ◌⊎◌, inl, inr, ℕ, zero, suc, ◌+◌, ◌-◌, ◌*◌, ◌≤◌, ◌<◌, List, [], ◌∷◌, ◌++◌, length, take, drop, min, get_or, All, false, refl, sym, ap, ap₂, ◌∙◌, subst, arith}
use Rattle.std.specs.List.{count_by, flat_map}
use Rattle.std.proofs.lemmas.Grind.{flat_map-append}
use Rattle.std.proofs.Math.Nat.{suc-mul}
use Rattle.std.proofs.lemmas.Bool.{cases_lt}
use Rattle.std.proofs.lemmas.List.{map-append, append-nil, length-append, get_or_append_left, get_or-append_right, take-append-drop}
use Rattle.std.proofs.lemmas.List.Elements.{All-nil, All-cons, All-append}
use Rattle.std.proofs.lemmas.List.Sums.{sum_by-append}
use Rattle.file_table.proofs.PrefixLemmas.{AllPairs-left}
use Rattle.disk_model.specs.Vault.{plain_done, VaultView, VaultCall}
use Rattle.parity_writer.specs.LevelReading.{LevelReading, has_failed}
use Rattle.snap_report.specs.Answer.{is_parity_io}
use Rattle.stripe_examiner.specs.Facts.{StripeFacts}
use Rattle.stripe_examiner.specs.Looking.{AreAllLevelsOf, numbers_of, unread_in}
use Rattle.repair_scope.specs.Plan.{FixPlan}
use Rattle.snap_fix.specs.FixRun.{AreAscending}
use Rattle.snap_fix.specs.Fixing.{facts_of}
use Rattle.snap_fix.specs.Mended.{Mended, all_mended_events, mended_events}
use Rattle.snap_fix.specs.Underway.{done_well, wrong_writes}
use Rattle.snap_fix.specs.Windows.{AreWindows, FillWindows, FixWindow, IsFixWindow, IsFull, all_wrong_writes, mend_calls, no_window, stripes_in, window_calls, window_size}
use Rattle.snap_fix.proofs.FixCountLemmas.{count_append, parity_io_in_stripe}

-- ---- windows, and then others

pub stripes_append : (ws vs : List FixWindow) → stripes_in (ws ++ vs) ≡ stripes_in ws ++ stripes_in vs
stripes_append ws vs = flat_map-append (λ (window : FixWindow). window.stripes) ws vs

-- full windows, and then others of which each but the last one is full
full_after : (plan : FixPlan) (ws vs : List FixWindow) → All (IsFull plan) ws → ((k : ℕ) → k + 1 < length vs → IsFull plan (get_or vs k no_window))
    → (k : ℕ) → k + 1 < length (ws ++ vs) → IsFull plan (get_or (ws ++ vs) k no_window)
full_after plan ws vs one two k below = at (cases_lt k (length ws))
  where
    at : (k < length ws) ⊎ (length ws ≤ k) → IsFull plan (get_or (ws ++ vs) k no_window)
    at (inl near) = subst (IsFull plan) (sym (get_or_append_left ws vs no_window k near)) (one k no_window near)
    at (inr far) = subst (IsFull plan) (sym (get_or-append_right ws vs (length ws) k no_window refl far))
        (two (k - length ws) (omega (arith, below, far, length-append ws vs)))

pub windows_append : (plan : FixPlan) (ws vs : List FixWindow) (xs ys : List StripeFacts) (rs ss : List (List LevelReading)) → All (IsFull plan) ws
    → AreWindows plan ws xs rs → AreWindows plan vs ys ss → AreWindows plan (ws ++ vs) (xs ++ ys) (rs ++ ss)
windows_append plan ws vs xs ys rs ss full one two = record {
  stripes_are = ap₂ (λ (a b : List StripeFacts). a ++ b) one.stripes_are two.stripes_are ∙ sym (stripes_append ws vs);
  readings_are = ap₂ (λ (a b : List (List LevelReading)). a ++ b) one.readings_are two.readings_are
      ∙ sym (flat_map-append (λ (window : FixWindow). window.readings) ws vs);
  each = All-append (IsFixWindow plan) ws vs one.each two.each;
  full = full_after plan ws vs full two.full;
}

-- no stripe is in no window
pub no_windows : (plan : FixPlan) → AreWindows plan [] [] []
no_windows plan = record {
  stripes_are = refl;
  readings_are = refl;
  each = All-nil (IsFixWindow plan);
  full = λ k below. absurd (omega (arith, below));
}

-- one window
pub one_window : (plan : FixPlan) (window : FixWindow) → IsFixWindow plan window → AreWindows plan (window ∷ []) window.stripes window.readings
one_window plan window is = record {
  stripes_are = sym (append-nil window.stripes);
  readings_are = sym (append-nil window.readings);
  each = All-cons (IsFixWindow plan) window [] is (All-nil (IsFixWindow plan));
  full = λ k below. absurd (omega (arith, below));
}

-- a window has room for a stripe
pub some_room : (plan : FixPlan) → 0 < window_size plan
some_room plan = omega arith

-- one window that some windows would fill is full
fills_one : (size many n : ℕ) → 0 < many → many ≤ size → many ≡ n * size → many ≡ size
fills_one size many zero some few is = absurd (omega (arith, some, is))
fills_one size many (suc zero) some few is = omega (arith, is)
fills_one size many (suc (suc n)) some few is = absurd (omega (arith, some, few, is))

fills_all : (plan : FixPlan) (ws : List FixWindow) (n : ℕ) → All (IsFixWindow plan) ws → ((k : ℕ) → k + 1 < length ws → IsFull plan (get_or ws k no_window))
    → length (stripes_in ws) ≡ n * window_size plan → All (IsFull plan) ws
fills_all plan [] n each full long = All-nil (IsFull plan)
fills_all plan (w ∷ []) n each full long =
    let is = each 0 w (omega arith) in
    let sum = length-append w.stripes [] in
    All-cons (IsFull plan) w [] (fills_one (window_size plan) (length w.stripes) n is.some is.few (omega (arith, sum, long))) (All-nil (IsFull plan))
fills_all plan (w ∷ v ∷ ws) zero each full long =
    let is = each 0 w (omega arith) in
    let sum = length-append w.stripes (stripes_in (v ∷ ws)) in
    absurd (omega (arith, is.some, sum, long))
fills_all plan (w ∷ v ∷ ws) (suc n) each full long =
    let here : IsFull plan w = full 0 (omega arith) in
    let sum = length-append w.stripes (stripes_in (v ∷ ws)) in
    All-cons (IsFull plan) w (v ∷ ws) here
    (fills_all plan (v ∷ ws) n (λ k none below. each (suc k) none (omega (arith, below))) (λ k below. full (suc k) (omega (arith, below))) (omega (arith, here, sum, long)))

-- a full window more fills one more
pub fill_more : (plan : FixPlan) (done count : ℕ) → FillWindows plan done → count ≡ window_size plan → FillWindows plan (done + count)
fill_more plan done count (k, is) full = (suc k, omega (arith, is, full, suc-mul k (window_size plan)))

-- a window takes all that is left, or is full
pub takes_all : (long done room count : ℕ) → done < long → count ≡ min (long - done) room → (long ≡ done + count) ⊎ (count ≡ room)
takes_all long done room count more is = at (cases_lt room (long - done))
  where
    at : (room < long - done) ⊎ (long - done ≤ room) → (long ≡ done + count) ⊎ (count ≡ room)
    at (inl less) = inr (omega (arith, is, less))
    at (inr enough) = inl (omega (arith, is, enough, more))

-- where stripes fill windows, each of theirs is full
pub all_full : (plan : FixPlan) (ws : List FixWindow) (xs : List StripeFacts) (rs : List (List LevelReading)) → AreWindows plan ws xs rs → FillWindows plan (length xs)
    → All (IsFull plan) ws
all_full plan ws xs rs are (n, long) =
    fills_all plan ws n are.each are.full (ap (λ (its : List StripeFacts). length its) (sym are.stripes_are) ∙ long)

pub calls_append : (plan : FixPlan) (ws vs : List FixWindow) → mend_calls plan (ws ++ vs) ≡ mend_calls plan ws ++ mend_calls plan vs
calls_append plan ws vs = flat_map-append (window_calls plan) ws vs

-- the writes for stripes, and for one more
pub writes_more : (plan : FixPlan) (xs : List StripeFacts) (facts : StripeFacts)
    → done_well (all_wrong_writes plan (xs ++ facts ∷ [])) ≡ done_well (all_wrong_writes plan xs) ++ done_well (wrong_writes plan facts)
writes_more plan xs facts =
    let here : flat_map (wrong_writes plan) (facts ∷ []) ≡ wrong_writes plan facts = append-nil (wrong_writes plan facts) in
    ap done_well (flat_map-append (wrong_writes plan) xs (facts ∷ []) ∙ ap (λ (calls : List VaultCall). all_wrong_writes plan xs ++ calls) here)
    ∙ map-append (λ (call : VaultCall). plain_done call false) (all_wrong_writes plan xs) (wrong_writes plan facts)

-- ---- the levels of some stripes, and of others

-- what was read of the levels of two lists of stripes, cut apart
pub record SplitLevels (size : ℕ) (v : VaultView) (xs ys : List StripeFacts) (readings : List (List LevelReading)) : Type 0 where
  pub front : List (List LevelReading)
  pub back : List (List LevelReading)
  pub whole_is : readings ≡ front ++ back
  pub first : AreAllLevelsOf size v xs front
  pub later : AreAllLevelsOf size v ys back

pub split_levels : (size : ℕ) (v : VaultView) (xs ys : List StripeFacts) (readings : List (List LevelReading)) → AreAllLevelsOf size v (xs ++ ys) readings → SplitLevels size v xs ys readings
split_levels size v [] ys readings are = record { front = []; back = readings; whole_is = refl; first = tt; later = are }
split_levels size v (facts ∷ xs) ys [] are = absurd are
split_levels size v (facts ∷ xs) ys (of ∷ readings) (here, are) =
    let rest = split_levels size v xs ys readings are in
    record {
      front = of ∷ rest.front;
      back = rest.back;
      whole_is = ap (λ (its : List (List LevelReading)). of ∷ its) rest.whole_is;
      first = (here, rest.first);
      later = rest.later;
    }

-- one list for each stripe
pub many_levels : (size : ℕ) (v : VaultView) (stripes : List StripeFacts) (readings : List (List LevelReading)) → AreAllLevelsOf size v stripes readings → length readings ≡ length stripes
many_levels size v [] [] are = refl
many_levels size v [] (of ∷ readings) are = absurd are
many_levels size v (facts ∷ stripes) [] are = absurd are
many_levels size v (facts ∷ stripes) (of ∷ readings) (here, are) = let more = many_levels size v stripes readings are in omega (arith, more)

-- no more levels are told as not read than were not read
pub parity_io_few : (plan : FixPlan) (v : VaultView) (stripes : List Mended) (readings : List (List LevelReading))
    → AreAllLevelsOf plan.table.shape.block_size v (facts_of stripes) readings → count_by is_parity_io (all_mended_events plan stripes) ≤ unread_in readings
parity_io_few plan v [] [] are = omega arith
parity_io_few plan v [] (of ∷ readings) are = absurd are
parity_io_few plan v (mended ∷ stripes) [] are = absurd are
parity_io_few plan v (mended ∷ stripes) (of ∷ readings) (here, are) =
    let one = parity_io_in_stripe plan mended plan.table.shape.block_size of here.as_many here.are_kept in
    let more = parity_io_few plan v stripes readings are in
    let counted = count_append is_parity_io (mended_events plan mended) (all_mended_events plan stripes) in
    let sum : unread_in (of ∷ readings) ≡ unread_in (of ∷ []) + unread_in readings = sum_by-append (count_by has_failed) (of ∷ []) readings in
    let only : unread_in (of ∷ []) ≡ 0 + count_by has_failed of = refl in
    omega (arith, one, more, counted, sum, only)

-- ---- the first of ascending stripes ascend

pub ascending_first : (n : ℕ) (all : List StripeFacts) → AreAscending (numbers_of all) → AreAscending (numbers_of (take n all))
ascending_first n all ascending =
    AllPairs-left (λ (a b : ℕ). a < b) (numbers_of (take n all)) (numbers_of (drop n all))
    (subst AreAscending (ap numbers_of (sym (take-append-drop n all)) ∙ map-append (λ (it : StripeFacts). it.stripe) (take n all) (drop n all)) ascending)
