-- What is kept of the levels of a stripe tells what was read of them.
use Rattle.std.proofs.Common.{◌≡◌, ◌≢◌, ℕ, suc, ◌+◌, ◌-◌, ◌*◌, ◌/◌, ◌<◌, List, [], ◌∷◌, ◌++◌, length, get_or, replicate, Bool, true, false, None, Some, refl, sym, ap, ap₂, ◌∙◌, subst, arith}
use Rattle.std.specs.Prelude.{◌==◌, bytes_eq, slice_range, if◌then◌else◌}
use Rattle.std.specs.List.{range_with_len, flat_map}
use Rattle.std.specs.Cmp.Lexicographic.{bytes_decides}
use Rattle.std.proofs.lemmas.Bool.{eqb-true, eqb-false}
use Rattle.std.proofs.lemmas.List.{append-nil, length-map, take_all}
use Rattle.std.proofs.lemmas.List.FromFn.{length-range_with_len, get_or-range_with_len}
use Rattle.std.proofs.lemmas.Simd.{map-map}
use Rattle.cauchy.specs.Levels.{HoldsLevel}
use Rattle.cauchy.specs.Matrix.{parity_of as level_of, parity_byte}
use Rattle.disk_model.specs.Bytes.{resized}
use Rattle.disk_model.specs.Vault.{VaultView}
use Rattle.file_table.specs.Table.{TableValue}
use Rattle.parity_writer.specs.LevelReading.{LevelReading, ReadsLevels, kept_level}
use Rattle.parity_writer.specs.LevelsValue.{LevelValue, LevelsValue}
use Rattle.parity_writer.specs.Parity.{Row}
use Rattle.parity_writer.specs.WindowRow.{row_at, bytes_of}
use Rattle.parity_writer.specs.declared.levels.LevelRead.TheVariants as here
use Rattle.snap_report.specs.declared.events.Event.{Event}
use Rattle.snap_report.specs.declared.events.Event.TheVariants.{Parity}
use Rattle.stripe_findings.specs.Reading.{StripeReading, reading_at, row_of, slot_in}
use Rattle.stripe_reader.specs.WindowValue.{WindowValue}
use Rattle.snap_scrub.specs.Findings.{level_event, level_events, level_events_at}
use Rattle.snap_scrub.specs.Levels.{kept_event, kept_events, kept_events_at}
use Rattle.snap_scrub.specs.Reading.{ScrubReading}

-- the row of a stripe of a window
pub row_of_window : (stripes : List ℕ) (window : WindowValue) (i : ℕ) → row_of (reading_at stripes window i) ≡ row_at window i
row_of_window stripes window i = map-map bytes_of (slot_in i) window.lanes

-- the sum of a level, as it is cut out of those of its stripe
pub sum_in : (sums : List ℕ) (size level : ℕ) (row : Row) → length sums ≡ 6 * size → HoldsLevel size row level sums
    → slice_range sums (level * (length sums / 6)) (level * (length sums / 6) + length sums / 6) ≡ level_of level size row
sum_in sums size level row room holds =
    let one : length sums / 6 ≡ size = omega (arith, room) in
    subst (λ (n : ℕ). slice_range sums (level * n) (level * n + n) ≡ level_of level size row) (sym one) holds

length-level_of : (level size : ℕ) (row : Row) → length (level_of level size row) ≡ size
unfolding level_of
length-level_of level size row = length-map (range_with_len 0 size) (parity_byte level row) ∙ length-range_with_len 0 size

bytes_differ : (a b : List ℕ) → length a ≢ length b → bytes_eq a b ≡ false
bytes_differ a b apart = by_case (bytes_eq a b) refl
  where
    by_case : (t : Bool) → bytes_eq a b ≡ t → t ≡ false
    by_case true is = absurd (apart (ap length ((bytes_decides a b).0 is)))
    by_case false is = refl

resized_same : (bytes : List ℕ) (n : ℕ) → length bytes ≡ n → resized bytes n ≡ bytes
resized_same bytes n is =
    let none : n - length bytes ≡ 0 = omega (arith, is) in
    ap₂ (λ (front back : List ℕ). front ++ back) (take_all n bytes (omega (arith, is))) (ap (λ (k : ℕ). replicate k 0) none)
    ∙ append-nil bytes

-- the finding of a level, by what is kept of it
kept_says : (size stripe r : ℕ) (row : Row) (reading : LevelReading) → kept_event size stripe r row (kept_level size reading).state (kept_level size reading).block ≡ level_event size stripe r row reading
kept_says size stripe r row None = refl
kept_says size stripe r row (Some bytes) = by_length (length bytes == size) refl
  where
    by_length : (t : Bool) → (length bytes == size) ≡ t
        → kept_event size stripe r row (if t then here.Bytes else here.Short) (resized bytes size) ≡ level_event size stripe r row (Some bytes)
    by_length true is =
        ap (λ (block : List ℕ). kept_event size stripe r row here.Bytes block) (resized_same bytes size (eqb-true (length bytes) size is))
    by_length false is =
        let apart : length bytes ≢ length (level_of r size row) = λ same. eqb-false (length bytes) size is (same ∙ length-level_of r size row) in
        ap (λ (t : Bool). if t then [] else Parity stripe r ∷ []) (sym (bytes_differ bytes (level_of r size row) apart))

-- two lists of events by numbers
flat_map_agrees : (f g : ℕ → List Event) (ns : List ℕ) → ((k d : ℕ) → k < length ns → f (get_or ns k d) ≡ g (get_or ns k d)) → flat_map f ns ≡ flat_map g ns
flat_map_agrees f g [] same = refl
flat_map_agrees f g (n ∷ ns) same = ap₂ (λ (front back : List Event). front ++ back) (same 0 0 (omega arith)) (flat_map_agrees f g ns (λ k d within. same (suc k) d (omega arith)))

-- the findings of the levels of a stripe, by what is kept of them
module _ (size stripe count : ℕ) (row : Row) (levels : LevelsValue) (old new : VaultView) (reads : ReadsLevels size stripe count levels.levels old new) (table : TableValue) (cells : StripeReading)
    (size_is : size ≡ table.shape.block_size) (stripe_is : stripe ≡ cells.stripe) (row_is : row ≡ row_of cells) where
  abbrev reading : ScrubReading
  reading = record { cells = cells; levels = reads.readings }

  one : (r : ℕ) → r < count → level_events_at table reading r ≡ kept_events_at size stripe row levels r
  one r below =
      let came : LevelReading = get_or reads.readings r None in
      sym (ap (λ (level : LevelValue). kept_event size stripe r row level.state level.block) (reads.are_kept r below)
      ∙ kept_says size stripe r row came
      ∙ ap (λ (n : ℕ). level_event n stripe r row came) size_is
      ∙ ap (λ (n : ℕ). level_event table.shape.block_size n r row came) stripe_is
      ∙ ap (λ (blocks : Row). level_event table.shape.block_size cells.stripe r blocks came) row_is)

  pub levels_say : level_events table (record { cells = cells; levels = reads.readings }) ≡ kept_events size stripe row levels count
  levels_say =
      ap (λ (n : ℕ). flat_map (level_events_at table reading) (range_with_len 0 n)) reads.as_many
      ∙ flat_map_agrees (level_events_at table reading) (kept_events_at size stripe row levels) (range_with_len 0 count)
      (λ k d within.
      let long : length (range_with_len 0 count) ≡ count = length-range_with_len 0 count in
      let at : get_or (range_with_len 0 count) k d ≡ 0 + k = get_or-range_with_len 0 count k d (omega arith) in
      one (get_or (range_with_len 0 count) k d) (omega arith))
