-- The stripes that were read are the first pending ones.
use Rattle.std.proofs.Common.{◌≡◌, ◌≢◌, ℕ, ◌<◌, List, ◌++◌, length, take, drop, AllPairs, sym, ap, ap₂, ◌∙◌, subst, arith, length-append}
use Rattle.std.specs.List.{range_with_len}
use Rattle.std.proofs.lemmas.List.{map-append, length-map}
use Rattle.std.proofs.lemmas.List.FromFn.{length-range_with_len, get_or-range_with_len}
use Rattle.std.proofs.lemmas.List.Kept.{AllPairs-filter}
use Rattle.array_scan.specs.Layout.{pending_stripes, is_pending}
use Rattle.disk_model.specs.Folder.{FolderView}
use Rattle.file_table.specs.Table.{TableValue, info_at}
use Rattle.file_table.proofs.ListFacts.{AllPairs-take}
use Rattle.stripe_findings.specs.Reading.{StripeReading, AreRead, stripes_of}
use Rattle.snap_sync.specs.Reading.{ReadsFirst}
use Rattle.stripe_findings.proofs.ReadLemmas.{are_read_then, take_then}

range_apart : (n : ℕ) → AllPairs (λ a b. a ≢ b) (range_with_len 0 n)
range_apart n i j d before within =
    let below : j < n = omega (arith, length-range_with_len 0 n, within) in
    λ same. omega (arith, before, same, get_or-range_with_len 0 n i d (omega (arith, before, below)), get_or-range_with_len 0 n j d below)

pub distinct_of : (start : TableValue) (readings : List StripeReading) (olds news : List FolderView) → ReadsFirst start readings olds news → AllPairs (λ (a b : ℕ). a ≢ b) (stripes_of readings)
distinct_of start readings olds news reads =
    subst (AllPairs (λ a b. a ≢ b)) (sym reads.stripes)
    (AllPairs-take (λ a b. a ≢ b) (length readings) (pending_stripes start.infos)
    (AllPairs-filter (λ a b. a ≢ b) (λ (stripe : ℕ). is_pending (info_at start.infos stripe).mark) (range_with_len 0 (length start.infos)) (range_apart (length start.infos))))

pub length_stripes : (readings : List StripeReading) → length (stripes_of readings) ≡ length readings
length_stripes readings = length-map readings (λ (reading : StripeReading). reading.stripe)

-- stripes that come next were read
pub reads_more : (start : TableValue) (xs ys : List StripeReading) (stripes : List ℕ) (olds mid news : List FolderView) → ReadsFirst start xs olds mid → AreRead start ys mid news
    → stripes_of ys ≡ stripes → stripes ≡ take (length stripes) (drop (length xs) (pending_stripes start.infos)) → ReadsFirst start (xs ++ ys) olds news
reads_more start xs ys stripes olds mid news reads more stripes_are next = record {
  stripes =
      map-append (λ (reading : StripeReading). reading.stripe) xs ys
      ∙ ap₂ (λ (one two : List ℕ). one ++ two) reads.stripes (stripes_are ∙ next)
      ∙ take_then (pending_stripes start.infos) (length xs) (length stripes)
      ∙ ap (λ (n : ℕ). take n (pending_stripes start.infos)) (omega (arith, length-append xs ys, length_stripes ys, ap (λ (it : List ℕ). length it) stripes_are));
  read = are_read_then start xs ys olds mid news reads.read more;
}
