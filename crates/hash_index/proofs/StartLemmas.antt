-- Which column holds the record of a number, by the first numbers of columns.
use Rattle.std.proofs.Common.{◌≡◌, inl, inr, ℕ, ◌+◌, ◌-◌, ◌<◌, ◌≤◌, suc, List, [], ◌∷◌, ◌++◌, length, get_or, drop, sym, ap, subst, ◌∙◌, arith, append_assoc, true, false}
use Rattle.std.specs.List.Sorted.{IsNonDecreasing, IsPartitionPoint}
use Rattle.std.proofs.Math.Dec.{leb}
use Rattle.std.proofs.lemmas.Bool.{cases_lt, leb-true, leb-false}
use Rattle.std.proofs.lemmas.List.{append-nil, drop_all}
use Rattle.file_table.specs.Table.{Column, records_of, column_at, record_at}
use Rattle.hash_index.specs.declared.records.Place.{Place}
use Rattle.hash_index.specs.Duplicates.{Spot, spots_of}
use Rattle.hash_index.specs.Numbering.{starts_from, IsPlace}
use Rattle.hash_index.proofs.NumberingLemmas.{length-starts_from, starts_rise, starts_step, records_step, found_in}

-- where numbers part by whether they are at most another, the last of the first part is there, and the next is greater
module _ (starts : List ℕ) (number n : ℕ) (splits : IsPartitionPoint (λ (start : ℕ). leb start number ≡ true) (λ (start : ℕ). leb start number ≡ false) starts n) where
  pub some_begin : 0 < length starts → get_or starts 0 0 ≤ number → 0 < n
  some_begin some start = elim (cases_lt 0 n) [
    | inl less ↦ less
    | inr none ↦
        let past : number < get_or starts 0 0 = leb-false (get_or starts 0 0) number (splits.1 0 0 none some) in
        absurd (omega arith)
  ]

  pub last_begins : 0 < n → get_or starts (n - 1) 0 ≤ number
  last_begins some = leb-true (get_or starts (n - 1) 0) number (splits.0 (n - 1) 0 (omega arith) (omega arith))

  pub next_begins : 0 < n → (n - 1) + 1 < length starts → number < get_or starts ((n - 1) + 1) 0
  next_begins some within = leb-false (get_or starts ((n - 1) + 1) 0) number (splits.1 ((n - 1) + 1) 0 (omega arith) within)

-- ---- a table's numbers, made

pub starts_more : (columns : List Column) (items more : List ℕ) (d count found : ℕ) → d < length columns → found ≡ length (column_at columns d).records → more ≡ items ++ count ∷ []
    → items ++ starts_from count (drop d columns) ≡ starts_from 0 columns → more ++ starts_from (count + found) (drop (d + 1) columns) ≡ starts_from 0 columns
starts_more columns items more d count found within found_is more_is before =
    let rest = starts_from (count + found) (drop (d + 1) columns) in
    let step : count ∷ rest ≡ starts_from count (drop d columns) =
    ap (λ (n : ℕ). count ∷ starts_from (count + n) (drop (d + 1) columns)) found_is ∙ sym (starts_step columns d count within) in
    ap (λ (m : List ℕ). m ++ rest) more_is ∙ append_assoc items (count ∷ []) rest ∙ ap (λ (m : List ℕ). items ++ m) step ∙ before

pub starts_made : (columns : List Column) (items : List ℕ) (d count : ℕ) → length columns ≤ d → items ++ starts_from count (drop d columns) ≡ starts_from 0 columns → items ≡ starts_from 0 columns
starts_made columns items d count over all =
    sym (append-nil items) ∙ ap (λ (left : List Column). items ++ starts_from count left) (sym (drop_all d columns over)) ∙ all

pub count_more : (columns : List Column) (d count found : ℕ) → d < length columns → found ≡ length (column_at columns d).records
    → count + length (records_of (drop d columns)) ≡ length (records_of columns) → (count + found) + length (records_of (drop (d + 1) columns)) ≡ length (records_of columns)
count_more columns d count found within found_is before = omega (arith, records_step columns d within)

pub count_made : (columns : List Column) (d count : ℕ) → length columns ≤ d → count + length (records_of (drop d columns)) ≡ length (records_of columns) → count ≡ length (records_of columns)
count_made columns d count over all =
    let none : length (records_of (drop d columns)) ≡ 0 = ap (λ (left : List Column). length (records_of left)) (drop_all d columns over) in
    omega arith

-- ---- the column of a number

pub starts_some : (columns : List Column) (starts : List ℕ) (number : ℕ) → starts ≡ starts_from 0 columns → number < length (spots_of columns) → 0 < length starts
starts_some [] starts number is within = absurd (omega arith)
starts_some (column ∷ columns) starts number is within = let count = ap length is in omega arith

pub starts_begin : (columns : List Column) (starts : List ℕ) (number : ℕ) → starts ≡ starts_from 0 columns → number < length (spots_of columns) → get_or starts 0 0 ≤ number
starts_begin [] starts number is within = absurd (omega arith)
starts_begin (column ∷ columns) starts number is within = let first = ap (λ (s : List ℕ). get_or s 0 0) is in omega arith

pub starts_ordered : (columns : List Column) (starts : List ℕ) → starts ≡ starts_from 0 columns → IsNonDecreasing starts
starts_ordered columns starts is = subst IsNonDecreasing (sym is) (starts_rise 0 columns)

pub place_found : (columns : List Column) (starts : List ℕ) (number disk begin : ℕ) → starts ≡ starts_from 0 columns → number < length (spots_of columns) → disk < length starts
    → begin ≡ get_or starts disk 0 → get_or starts disk 0 ≤ number → (disk + 1 < length starts → number < get_or starts (disk + 1) 0)
    → IsPlace columns number (let place : Place = record { disk = disk; rec = number - begin } in place)
place_found columns starts number disk begin is within inside begin_is begins last =
    let rec : ℕ = number - begin in
    let count = length-starts_from 0 columns in
    let long : length starts ≡ length (starts_from 0 columns) = ap length is in
    let here : get_or starts disk 0 ≡ get_or (starts_from 0 columns) disk 0 = ap (λ (s : List ℕ). get_or s disk 0) is in
    let one : disk + 1 ≡ suc disk = omega arith in
    let next : get_or starts (disk + 1) 0 ≡ get_or (starts_from 0 columns) (suc disk) 0 =
    ap (λ (s : List ℕ). get_or s (disk + 1) 0) is ∙ ap (λ (n : ℕ). get_or (starts_from 0 columns) n 0) one in
    let found = found_in 0 0 columns number disk rec (omega arith) (omega arith) (λ more. let below = last (omega arith) in omega arith) within in
    let zero_is : 0 + disk ≡ disk = omega arith in
    record {
      disk_within = omega arith;
      rec_within = found.within;
      spot_is = found.is ∙ ap (λ (d : ℕ). let spot : Spot = record { disk = d; rec = rec; kept = record_at columns disk rec } in spot) zero_is;
    }
