-- A level that was read, and what the file holds.
use Rattle.std.proofs.Common.{◌≡◌, ◌≢◌, ◌↔◌, inl, inr, ℕ, zero, suc, ◌^◌, cond, ◌∷◌, ◌+◌, ◌-◌, ◌*◌, ◌<◌, ◌≤◌, min, List, [], length, drop, get_or, Bool, true, false, if◌then◌else◌, None, Some, refl, sym, ◌∙◌, ap, arith}
use Rattle.std.specs.List.{count_by}
use Rattle.std.proofs.lemmas.List.Sums.{sum_by-cons}
use Rattle.disk_model.specs.Cause.{RoseBy}
use Rattle.std.proofs.lemmas.Bool.{cases_eq, eq-eqb, ne_eqb}
use Rattle.std.proofs.lemmas.List.{get_or-take, get_or-drop, length-take, length-drop}
use Rattle.cauchy.specs.Matrix.{parity_of as level_of}
use Rattle.disk_model.specs.Bytes.{read_from}
use Rattle.parity_writer.specs.LevelReading.{LevelReading, has_failed, kept_level, state_by}
use Rattle.parity_writer.specs.Parity.{Row, HasLevel}
use Rattle.parity_writer.specs.declared.levels.LevelRead.TheVariants as here
use Rattle.parity_writer.proofs.LevelsLemmas.{resized_same}
use Rattle.parity_writer.proofs.SumLemmas.{byte_of_level, level_of_bytes}

-- the state of a level by how many bytes came
module _ (size : ℕ) (bytes : List ℕ) where
  pub state_whole : length bytes ≡ size → state_by size (length bytes) ≡ here.Bytes
  state_whole same = ap (λ (b : Bool). if b then here.Bytes else here.Short) (eq-eqb (length bytes) size same)

  pub state_short : length bytes ≢ size → state_by size (length bytes) ≡ here.Short
  state_short other = ap (λ (b : Bool). if b then here.Bytes else here.Short) (ne_eqb (length bytes) size other)

  is_whole : state_by size (length bytes) ≡ here.Bytes → length bytes ≡ size
  is_whole is = elim (cases_eq (length bytes) size) [
    | inl same ↦ same
    | inr other ↦ absurd (let short = state_short other in cc)
  ]

  -- fewer bytes came than a block has
  pub short_exactly : length bytes ≤ size → (state_by size (length bytes) ≡ here.Short) ↔ (length bytes < size)
  short_exactly few = (
    λ short. elim (cases_eq (length bytes) size) [
      | inl same ↦ absurd (let whole = state_whole same in cc)
      | inr other ↦ omega (arith, few, other)
    ],
    λ less. state_short (omega (arith, less)),
  )

-- the vault failed
pub unread_exactly : (size : ℕ) (reading : LevelReading) → ((kept_level size reading).state ≡ here.Unread) ↔ (reading ≡ None)
unread_exactly size None = (λ is. refl, λ is. refl)
unread_exactly size (Some bytes) = (
  λ unread. elim (cases_eq (length bytes) size) [
    | inl same ↦ absurd (let whole = state_whole size bytes same in cc)
    | inr other ↦ absurd (let short = state_short size bytes other in cc)
  ],
  λ none. cc,
)

-- the block of a stripe in a file, as it is read
module _ (size level stripe : ℕ) (row : Row) (file : List ℕ) where
  abbrev block : List ℕ
  block = read_from file (stripe * size) size

  count : length block ≡ min size (length file - stripe * size)
  count = length-take size (drop (stripe * size) file) ∙ ap (min size) (length-drop (stripe * size) file)

  byte : (i : ℕ) → i < size → get_or block i 0 ≡ get_or file (stripe * size + i) 0
  byte i below = get_or-take size (drop (stripe * size) file) i 0 below ∙ get_or-drop (stripe * size) file i 0

  -- where the file has the level, the whole block comes, and is the sum
  has_whole : HasLevel size level stripe row file → length block ≡ size
  has_whole has = elim (cases_eq size 0) [
    | inl none ↦ omega (arith, none, count)
    | inr some ↦ let last = (has (size - 1) (omega (arith, some))).within in omega (arith, some, last, count)
  ]

  has_bytes : HasLevel size level stripe row file → block ≡ level_of level size row
  has_bytes has = level_of_bytes level size row block (has_whole has) (λ i below. byte i below ∙ (has i below).is)

  -- and where the sum came whole, the file has it
  bytes_has : length block ≡ size → block ≡ level_of level size row → HasLevel size level stripe row file
  bytes_has whole is i below = record {
    within = omega (arith, below, whole, count);
    is = sym (byte i below) ∙ ap (λ (bytes : List ℕ). get_or bytes i 0) is ∙ byte_of_level level size row i below;
  }

  -- the same of what is kept
  pub level_has : (bytes : List ℕ) → bytes ≡ block → HasLevel size level stripe row file ↔ (((kept_level size (Some bytes)).state ≡ here.Bytes) × ((kept_level size (Some bytes)).block ≡ level_of level size row))
  level_has bytes same = (
    λ has.
        let whole : length bytes ≡ size = ap length same ∙ has_whole has in
        (state_whole size bytes whole, resized_same bytes size whole ∙ same ∙ has_bytes has),
    λ both.
        let whole : length bytes ≡ size = is_whole size bytes both.0 in
        bytes_has (ap length (sym same) ∙ whole) (sym same ∙ sym (resized_same bytes size whole) ∙ both.1),
  )

-- none was counted
one_counted : (one : Bool) (others all : ℕ) → all ≡ cond one 1 0 + others → all ≡ 0 → (one ≡ false) × (others ≡ 0)
one_counted true others all all_is none = absurd (omega (arith, all_is, none))
one_counted false others all all_is none = (refl, omega (arith, all_is, none))

counted_none : (readings : List LevelReading) → count_by has_failed readings ≡ 0 → (level : ℕ) → level < length readings → has_failed (get_or readings level None) ≡ false
counted_none [] none level below = absurd (omega (arith, below))
counted_none (reading ∷ readings) none zero below =
    (one_counted (has_failed reading) (count_by has_failed readings) (count_by has_failed (reading ∷ readings)) (sum_by-cons (λ (it : LevelReading). cond (has_failed it) 1 0) reading readings) none).0
counted_none (reading ∷ readings) none (suc level) below =
    counted_none readings (one_counted (has_failed reading) (count_by has_failed readings) (count_by has_failed (reading ∷ readings)) (sum_by-cons (λ (it : LevelReading). cond (has_failed it) 1 0) reading readings) none).1 level (omega (arith, below))

-- where the count of faults stayed, no level failed
pub none_failed : (readings : List LevelReading) (before after : ℕ) → RoseBy (count_by has_failed readings) before after → after ≡ before → before + 1 < 2 ^ 64
    → (level : ℕ) → level < length readings → has_failed (get_or readings level None) ≡ false
none_failed readings before after rose same few level below = counted_none readings (omega (arith, rose, same, few)) level below
