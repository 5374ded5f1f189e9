-- The stripes that are read are the first pending ones: each is pending, and none comes twice. And where no checkpoint stands.
use Rattle.std.proofs.Common.{◌≡◌, ◌≢◌, ℕ, ◌+◌, ◌<◌, ◌≤◌, ◌%◌, ◌==◌, ◌&&◌, not, List, ◌++◌, length, map, take, get_or, Bool, true, false, Option, None, Some, All, refl, sym, ◌∙◌, ap, subst, length-append, arith}
use Rattle.std.specs.List.{AllPairs, range_with_len}
use Rattle.std.proofs.lemmas.Bool.{ne_eqb}
use Rattle.std.proofs.lemmas.List.{length-map, length-take, get_or-take, get_or-map, get_or_append_left, get_or-append-add}
use Rattle.std.proofs.lemmas.List.Elements.{All-filter, filter_passes}
use Rattle.std.proofs.lemmas.List.FromFn.{length-range_with_len, get_or-range_with_len, length-map-range_with_len, get_or-map-range_with_len}
use Rattle.std.proofs.lemmas.List.Kept.{AllPairs-filter}
use Rattle.std.proofs.lemmas.Simd.{map-map}
use Rattle.std.proofs.Math.Nat.{mod-eq_of_lt, mod-add-mod, zero-add}
use Rattle.array_scan.specs.Layout.{is_pending, pending_stripes}
use Rattle.file_table.specs.Table.{TableValue, info_at}
use Rattle.file_table.specs.declared.info.Mark.{Mark}
use Rattle.file_table.specs.declared.info.Mark.TheVariants.{Synced}
use Rattle.parity_writer.specs.Sound.{IsSynced}
use Rattle.parity_writer.specs.WindowRow.{bytes_of}
use Rattle.stripe_reader.specs.WindowValue.{WindowValue, Fits}
use Rattle.snap_sync.specs.Calls.{SyncPlan, no_reading, saves_after}
use Rattle.stripe_findings.specs.Reading.{StripeReading, stripes_of, slot_in, reading_at, readings_in, is_verified}
use Rattle.snap_sync.specs.Schedule.{is_checkpoint, window_count}
use Rattle.snap_sync.proofs.RowsLemmas.{IsWindowOf}

-- these stripes come next
pub record AreNext (start : TableValue) (readings : List StripeReading) (stripes : List ℕ) : Type 0 where
  pub many : ℕ
  pub first : stripes_of readings ++ stripes ≡ take many (pending_stripes start.infos)

range_below : (n : ℕ) → All (λ i. i < n) (range_with_len 0 n)
range_below n k d within =
    let below : k < n = omega (arith, length-range_with_len 0 n, within) in
    let at : get_or (range_with_len 0 n) k d ≡ k = omega (arith, get_or-range_with_len 0 n k d below) in
    subst (λ (i : ℕ). i < n) (sym at) below

range_ordered : (n : ℕ) → AllPairs (λ a b. a < b) (range_with_len 0 n)
range_ordered n i j d before within =
    let below : j < n = omega (arith, length-range_with_len 0 n, within) in
    omega (arith, before, get_or-range_with_len 0 n i d (omega (arith, before, below)), get_or-range_with_len 0 n j d below)

module _ (start : TableValue) where
  abbrev all : List ℕ
  all = pending_stripes start.infos

  abbrev test : ℕ → Bool
  test stripe = is_pending (info_at start.infos stripe).mark

  not_synced : (mark : Mark) → is_pending mark ≡ true → mark ≡ Synced → ⊥
  not_synced mark is same = absurd (let clash : false ≡ true = ap is_pending (sym same) ∙ is in cc)

  module _ (readings : List StripeReading) (stripes : List ℕ) (next : AreNext start readings stripes) where
    abbrev k : ℕ
    k = length readings

    many_read : length (stripes_of readings) ≡ k
    many_read = length-map readings (λ (reading : StripeReading). reading.stripe)

    within_all : length readings + length stripes ≤ length all
    within_all = omega (arith, ap (λ (xs : List ℕ). length xs) next.first, length-append (stripes_of readings) stripes, many_read, length-take next.many all)

    within_many : length readings + length stripes ≤ next.many
    within_many = omega (arith, ap (λ (xs : List ℕ). length xs) next.first, length-append (stripes_of readings) stripes, many_read, length-take next.many all)

    -- a stripe of these, and one that was read before, by their places among all
    next_is : (j : ℕ) → j < length stripes → get_or stripes j 0 ≡ get_or all (k + j) 0
    next_is j below =
        sym (get_or-append-add (stripes_of readings) stripes j 0)
        ∙ ap (λ (n : ℕ). get_or (stripes_of readings ++ stripes) (n + j) 0) many_read
        ∙ ap (λ (xs : List ℕ). get_or xs (k + j) 0) next.first
        ∙ get_or-take next.many all (k + j) 0 (omega (arith, below, within_many))

    read_is : (i : ℕ) → i < k → (get_or readings i no_reading).stripe ≡ get_or all i 0
    read_is i below =
        sym (get_or-map (λ (reading : StripeReading). reading.stripe) readings i no_reading 0 below)
        ∙ sym (get_or_append_left (stripes_of readings) stripes 0 i (omega (arith, below, many_read)))
        ∙ ap (λ (xs : List ℕ). get_or xs i 0) next.first
        ∙ get_or-take next.many all i 0 (omega (arith, below, within_many))

    pub next_below : (j : ℕ) → j < length stripes → get_or stripes j 0 < length start.infos
    next_below j below = subst (λ (s : ℕ). s < length start.infos) (sym (next_is j below))
        (All-filter test (λ s. s < length start.infos) (range_with_len 0 (length start.infos)) (range_below (length start.infos)) (k + j) 0 (omega (arith, below, within_all)))

    pub next_not_synced : (j : ℕ) → j < length stripes → IsSynced start (get_or stripes j 0) → ⊥
    next_not_synced j below synced =
        let is : test (get_or all (k + j) 0) ≡ true = filter_passes test (range_with_len 0 (length start.infos)) (k + j) 0 (omega (arith, below, within_all)) in
        not_synced (info_at start.infos (get_or stripes j 0)).mark (ap test (next_is j below) ∙ is) synced.mark

    pub next_differs : (i j : ℕ) → i < k → j < length stripes → (get_or readings i no_reading).stripe ≢ get_or stripes j 0
    next_differs i j before below same =
        let less = AllPairs-filter (λ a b. a < b) test (range_with_len 0 (length start.infos)) (range_ordered (length start.infos)) i (k + j) 0 (omega (arith, before)) (omega (arith, below, within_all)) in
        omega (arith, less, same, read_is i before, next_is j below)

-- a window that was read and judged
pub window_is_of : (start : TableValue) (stripes : List ℕ) (window : WindowValue) (chosen : List Bool) → Fits start window → chosen ≡ map (is_verified start) (readings_in stripes window)
    → IsWindowOf start (readings_in stripes window) window (record { stripes = stripes; chosen = chosen })
window_is_of start stripes window chosen fits chosen_is = record {
  block_size = fits.block_size;
  as_many = sym long;
  stripes = λ i below. ap (λ (reading : StripeReading). reading.stripe) (sym (at i below));
  chosen = λ i below. ap (λ (xs : List Bool). get_or xs i false) chosen_is ∙ get_or-map (is_verified start) (readings_in stripes window) i no_reading false below;
  rows = λ i below. sym (ap (λ (reading : StripeReading). map bytes_of reading.slots) (at i below) ∙ map-map bytes_of (slot_in i) window.lanes);
}
  where
    long : length (readings_in stripes window) ≡ length stripes
    long = length-map-range_with_len (reading_at stripes window) 0 (length stripes)

    at : (i : ℕ) → i < length (readings_in stripes window) → get_or (readings_in stripes window) i no_reading ≡ reading_at stripes window i
    at i below = get_or-map-range_with_len (reading_at stripes window) 0 (length stripes) i i no_reading (omega (arith, below, long)) (zero-add i)

-- no checkpoint stands within a window
none_before : (every : Option ℕ) (room all count j : ℕ) → 0 < j → j < window_count every room all count → is_checkpoint every (count + j) ≡ false
none_before None room all count j some short = refl
none_before (Some every) room all count j some short =
    let near : count % every + j < every = omega (arith, short) in
    let is : (count + j) % every ≡ count % every + j = sym (mod-add-mod count every j) ∙ mod-eq_of_lt near in
    ne_eqb ((count + j) % every) 0 (λ same. omega (arith, same, is, some))

pub none_within : (plan : SyncPlan) (room count j : ℕ) → 0 < j → j < window_count plan.every room plan.all count → saves_after plan (count + j) ≡ false
none_within plan room count j some short = ap (λ (b : Bool). b && not (count + j == plan.all)) (none_before plan.every room plan.all count j some short)
