-- Pending stripes are distinct, in their table and pending; and so are the stripes of readings of the first of them.
use Rattle.std.proofs.Common.{◌≡◌, ◌≢◌, ℕ, ◌+◌, ◌<◌, ◌≤◌, min, List, ◌++◌, length, take, get_or, true, sym, ap, ◌∙◌, subst, arith}
use Rattle.std.specs.List.{All, AllPairs, range_with_len}
use Rattle.std.proofs.lemmas.List.{get_or-map, get_or-take, length-map, length-take, length-append, take-map, take-take, take-append-le}
use Rattle.std.proofs.lemmas.List.FromFn.{length-range_with_len, get_or-range_with_len}
use Rattle.std.proofs.lemmas.List.Kept.{AllPairs-filter}
use Rattle.array_scan.specs.Layout.{is_pending, pending_stripes}
use Rattle.file_table.specs.Table.{TableValue, info_at}
use Rattle.file_table.specs.declared.info.Info.{Info}
use Rattle.stripe_findings.specs.Reading.{StripeReading, stripes_of}
use Rattle.snap_sync.proofs.ListFacts.{kept_pass}

-- the first so many of what was read are of the first so many pending stripes
pub first_stripes : (all readings ahead : List StripeReading) (count : ℕ) (pending : List ℕ) → all ≡ readings ++ ahead → count ≤ length readings
    → stripes_of all ≡ take (length all) pending → stripes_of (take count readings) ≡ take count pending
first_stripes all readings ahead count pending is within stripes =
    let long : length (readings ++ ahead) ≡ length readings + length ahead = length-append readings ahead in
    let all_long : length all ≡ length readings + length ahead = ap length is ∙ long in
    ap stripes_of (sym (take-append-le count readings ahead within) ∙ ap (take count) (sym is))
    ∙ sym (take-map (λ (reading : StripeReading). reading.stripe) count all)
    ∙ ap (take count) stripes
    ∙ take-take count (length all) pending (omega (arith, within, all_long))

module _ (infos : List Info) where
  range_below : All (λ (stripe : ℕ). stripe < length infos) (range_with_len 0 (length infos))
  range_below k d within =
      let long : length (range_with_len 0 (length infos)) ≡ length infos = length-range_with_len 0 (length infos) in
      let at : get_or (range_with_len 0 (length infos)) k d ≡ 0 + k = get_or-range_with_len 0 (length infos) k d (omega (arith, within, long)) in
      omega (arith, within, long, at)

  range_distinct : AllPairs (λ (a b : ℕ). a ≢ b) (range_with_len 0 (length infos))
  range_distinct i j d less below same =
      let long : length (range_with_len 0 (length infos)) ≡ length infos = length-range_with_len 0 (length infos) in
      let at_i : get_or (range_with_len 0 (length infos)) i d ≡ 0 + i = get_or-range_with_len 0 (length infos) i d (omega (arith, less, below, long)) in
      let at_j : get_or (range_with_len 0 (length infos)) j d ≡ 0 + j = get_or-range_with_len 0 (length infos) j d (omega (arith, below, long)) in
      omega (arith, less, at_i, at_j, same)

  pub pending_distinct : AllPairs (λ (a b : ℕ). a ≢ b) (pending_stripes infos)
  pending_distinct = AllPairs-filter (λ (a b : ℕ). a ≢ b) (λ (stripe : ℕ). is_pending (info_at infos stripe).mark) (range_with_len 0 (length infos)) range_distinct

  pub pending_below : All (λ (stripe : ℕ). stripe < length infos) (pending_stripes infos)
  pending_below = kept_pass (λ (stripe : ℕ). is_pending (info_at infos stripe).mark) (λ (stripe : ℕ). stripe < length infos) (range_with_len 0 (length infos))
      (λ k d within passes. range_below k d within)

  pub pending_marked : All (λ (stripe : ℕ). is_pending (info_at infos stripe).mark ≡ true) (pending_stripes infos)
  pending_marked = kept_pass (λ (stripe : ℕ). is_pending (info_at infos stripe).mark) (λ (stripe : ℕ). is_pending (info_at infos stripe).mark ≡ true) (range_with_len 0 (length infos))
      (λ k d within passes. passes)

-- readings of distinct pending stripes of a table
pub record AreOfPending (table : TableValue) (readings : List StripeReading) : Type 0 where
  pub distinct : AllPairs (λ (a b : StripeReading). a.stripe ≢ b.stripe) readings
  pub below : All (λ (reading : StripeReading). reading.stripe < length table.infos) readings
  pub pending : All (λ (reading : StripeReading). is_pending (info_at table.infos reading.stripe).mark ≡ true) readings

module _ (table : TableValue) (readings : List StripeReading) (count : ℕ) (stripes : stripes_of readings ≡ take count (pending_stripes table.infos)) where
  abbrev pending : List ℕ
  pending = pending_stripes table.infos

  stripe_in : (i : ℕ) → i < length readings → (i < count) × (i < length pending)
  stripe_in i within =
      let long : length (stripes_of readings) ≡ length readings = length-map readings (λ (r : StripeReading). r.stripe) in
      let same : length (stripes_of readings) ≡ length (take count pending) = ap length stripes in
      let first : length (take count pending) ≡ min count (length pending) = length-take count pending in
      (omega (arith, within, long, same, first), omega (arith, within, long, same, first))

  stripe_is : (i : ℕ) (d : StripeReading) (e : ℕ) → i < length readings → (get_or readings i d).stripe ≡ get_or pending i e
  stripe_is i d e within =
      sym (get_or-map (λ (r : StripeReading). r.stripe) readings i d e within)
      ∙ ap (λ (xs : List ℕ). get_or xs i e) stripes ∙ get_or-take count pending i e (stripe_in i within).0

  pub are_of_pending : AreOfPending table readings
  are_of_pending = record {
    distinct = λ i j d less below same.
        pending_distinct table.infos i j 0 less (stripe_in j below).1
        (sym (stripe_is i d 0 (omega (arith, less, below))) ∙ same ∙ stripe_is j d 0 below);
    below = λ i d within. subst (λ (s : ℕ). s < length table.infos) (sym (stripe_is i d 0 within)) (pending_below table.infos i 0 (stripe_in i within).1);
    pending = λ i d within. subst (λ (s : ℕ). is_pending (info_at table.infos s).mark ≡ true) (sym (stripe_is i d 0 within)) (pending_marked table.infos i 0 (stripe_in i within).1);
  }
