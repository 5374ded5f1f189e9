-- The stripes of a window closed, one after another.
use Rattle.std.proofs.Common.{◌≡◌, ℕ, ◌+◌, ◌<◌, List, [], ◌∷◌, ◌++◌, length, get_or, map, Bool, true, false, refl, sym, ap, ◌∙◌, subst, arith}
use Rattle.std.specs.Prelude.{if◌then◌else◌}
use Rattle.std.proofs.lemmas.List.FromFn.{get_or-map-range_with_len, length-map-range_with_len}
use Rattle.std.proofs.lemmas.List.{get_or-map}
use Rattle.file_table.specs.Closing.{DiffersInHashesAndInfos}
use Rattle.file_table.specs.Table.{TableValue}
use Rattle.stripe_reader.specs.WindowValue.{WindowValue}
use Rattle.snap_sync.specs.Closing.{HasDigests, with_closed, closed_by, closed}
use Rattle.stripe_findings.specs.Reading.{StripeReading, is_verified, reading_at, readings_in}
use Rattle.stripe_findings.proofs.SlotLemmas.{readings_to, readings_more}
use Rattle.snap_sync.proofs.StaysLemmas.{differs-closed, digests_of_verified, digests_stay}

-- some stripes, and then others
pub closed_by-append : (start : TableValue) (now : ℕ) (xs ys : List StripeReading) (table : TableValue)
    → closed_by start now (xs ++ ys) table ≡ closed_by start now ys (closed_by start now xs table)
closed_by-append start now [] ys table = refl
closed_by-append start now (x ∷ xs) ys table = closed_by-append start now xs ys (if is_verified start x then with_closed now x table else table)

-- one stripe more of a window
module _ (start : TableValue) (now : ℕ) (stripes : List ℕ) (window : WindowValue) (i : ℕ) where
  abbrev reading : StripeReading
  reading = reading_at stripes window i

  abbrev before : TableValue
  before = closed now start (readings_to stripes window i)

  closed-next : (verified : Bool) → is_verified start (reading_at stripes window i) ≡ verified
      → closed now start (readings_to stripes window (i + 1)) ≡ (if verified then with_closed now reading before else before)
  closed-next verified is =
      ap (closed now start) (readings_more stripes window i)
      ∙ closed_by-append start now (readings_to stripes window i) (reading ∷ []) start
      ∙ ap (λ (b : Bool). if b then with_closed now reading before else before) is

  pub closed-chosen : (mid next : TableValue) → is_verified start (reading_at stripes window i) ≡ true → mid ≡ closed now start (readings_to stripes window i)
      → next ≡ with_closed now (reading_at stripes window i) mid → next ≡ closed now start (readings_to stripes window (i + 1))
  closed-chosen mid next verified mid_is next_is = next_is ∙ ap (with_closed now reading) mid_is ∙ sym (closed-next true verified)

  pub closed-passed : (mid : TableValue) → is_verified start (reading_at stripes window i) ≡ false → mid ≡ closed now start (readings_to stripes window i)
      → mid ≡ closed now start (readings_to stripes window (i + 1))
  closed-passed mid pending mid_is = mid_is ∙ sym (closed-next false pending)

  -- the table in hand differs in hashes and infos alone
  pub in_hand : (mid : TableValue) → mid ≡ closed now start (readings_to stripes window i) → DiffersInHashesAndInfos start mid
  in_hand mid mid_is = subst (λ (t : TableValue). DiffersInHashesAndInfos start t) (sym mid_is) (differs-closed now start (readings_to stripes window i))

  -- its blocks came whole, in the table in hand too
  pub digests_in_hand : (mid : TableValue) → is_verified start (reading_at stripes window i) ≡ true → mid ≡ closed now start (readings_to stripes window i)
      → HasDigests mid (reading_at stripes window i)
  digests_in_hand mid verified mid_is =
      digests_stay start mid reading
      (in_hand mid mid_is)
      (digests_of_verified start reading verified)

-- whether the stripe of a number is verified
pub chosen_at : (table : TableValue) (stripes : List ℕ) (window : WindowValue) (chosen : List Bool) (i : ℕ) (d : Bool) → i < length stripes
    → chosen ≡ map (is_verified table) (readings_in stripes window) → get_or chosen i d ≡ is_verified table (reading_at stripes window i)
chosen_at table stripes window chosen i d within is =
    let count : ℕ = length stripes in
    let reading : StripeReading = reading_at stripes window i in
    ap (λ (bs : List Bool). get_or bs i d) is
    ∙ get_or-map (is_verified table) (readings_in stripes window) i reading d (omega (arith, length-map-range_with_len (reading_at stripes window) 0 count, within))
    ∙ ap (is_verified table) (get_or-map-range_with_len (reading_at stripes window) 0 count i i reading within (omega arith))
