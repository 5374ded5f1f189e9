-- Of the events of stripes that are written anew: how many tell a reading that failed.
use Rattle.std.proofs.Common.{◌≡◌, inl, inr, ℕ, zero, suc, ◌+◌, ◌<◌, ◌≤◌, ◌==◌, ◌&&◌, List, [], ◌∷◌, ◌++◌, length, take, get_or, cond, bytes_eq, Bool, true, false, if◌then◌else◌, Option, None, Some, refl, ap, ◌∙◌, subst, arith}
use Rattle.std.specs.List.{count_by, sum_by, flat_map, range_with_len}
use Rattle.std.proofs.lemmas.Bool.{cases_eq, eq-eqb, ne_eqb}
use Rattle.std.proofs.lemmas.List.{take_more, take_all}
use Rattle.std.proofs.lemmas.List.Sums.{sum_by-append}
use Rattle.folder_listing.proofs.JoinedLemmas.{flat_range_more}
use Rattle.block_hash.specs.declared.Digest16.{Digest16}
use Rattle.file_table.specs.Cells.{CellView, cell_seen}
use Rattle.file_table.specs.Table.{column_at}
use Rattle.file_table.specs.declared.block.Cell.{Cell}
use Rattle.parity_writer.specs.LevelReading.{LevelReading, has_failed, kept_level}
use Rattle.parity_writer.specs.LevelsValue.{LevelValue, no_level}
use Rattle.parity_writer.specs.declared.levels.LevelRead.TheVariants as here
use Rattle.snap_report.specs.Answer.{is_io_of, is_parity_io}
use Rattle.snap_report.specs.declared.events.Event.{Event}
use Rattle.snap_report.specs.declared.events.Event.TheVariants.{Unsynced, Silent, Io, ParityIo, Parity, Lost, Fixed, FixedParity}
use Rattle.stripe_reader.specs.SlotValue.{SlotValue}
use Rattle.repair_scope.specs.declared.entry.Entry.{Entry}
use Rattle.stripe_examiner.specs.Facts.{StripeFacts, slot_of}
use Rattle.stripe_examiner.specs.Findings.{unsynced_events, silent_event, is_unread, read_event, read_events, cell_events, is_unread_level, level_io_events, level_events, is_lost, lost_event, lost_events, all_cell_events, all_level_io_events, all_level_events, all_lost_events, stripe_events}
use Rattle.snap_fix.specs.Fixing.{facts_of}
use Rattle.stripe_examiner.specs.Looking.{slots_of, unread_cells}
use Rattle.snap_fix.specs.Mended.{Mended, answer_of, is_repaired, is_wrong_level, fixed_event, mended_event, cell_news, level_news, all_cell_news, all_level_news, mended_events, all_mended_events}
use Rattle.repair_scope.specs.Selected.{is_as_recorded}
use Rattle.repair_scope.specs.Plan.{FixPlan, cell_at, entry_at, selects_cell, selects_level}

-- ---- counting

pub count_append : {X : Type 0} (p : X → Bool) (xs ys : List X) → count_by p (xs ++ ys) ≡ count_by p xs + count_by p ys
count_append p xs ys = sum_by-append (λ x. cond (p x) 1 0) xs ys

pub count_cons : {X : Type 0} (p : X → Bool) (x : X) (xs : List X) → count_by p (x ∷ xs) ≡ count_by p (x ∷ []) + count_by p xs
count_cons p x xs = count_append p (x ∷ []) xs

-- each of some lists has at most so many
count_each : {X A : Type 0} (p : A → Bool) (f : X → List A) (g : X → ℕ) → ((x : X) → count_by p (f x) ≤ g x) → (xs : List X) → count_by p (flat_map f xs) ≤ sum_by g xs
count_each p f g each [] = omega arith
count_each p f g each (x ∷ xs) =
    let a = count_append p (f x) (flat_map f xs) in
    let b = sum_by-append g (x ∷ []) xs in
    omega (arith, a, b, each x, count_each p f g each xs)

-- none has one
none_of_each : {X A : Type 0} (p : A → Bool) (f : X → List A) → ((x : X) → count_by p (f x) ≡ 0) → (xs : List X) → count_by p (flat_map f xs) ≡ 0
none_of_each p f each [] = refl
none_of_each p f each (x ∷ xs) = let a = count_append p (f x) (flat_map f xs) in omega (arith, a, each x, none_of_each p f each xs)

-- of a list that is there or not
none_if : {A : Type 0} (p : A → Bool) (xs : List A) → count_by p xs ≡ 0 → (b : Bool) → count_by p (if b then xs else []) ≡ 0
none_if p xs none true = none
none_if p xs none false = refl

few_if : {A : Type 0} (p : A → Bool) (xs : List A) (n : ℕ) → count_by p xs ≤ n → (b : Bool) → count_by p (if b then xs else []) ≤ n
few_if p xs n few true = few
few_if p xs n few false = omega arith

-- a sum over numbers from some on, of which one alone counts
past : (d u a n : ℕ) → d < a → sum_by (λ k. cond (k == d) u 0) (range_with_len a n) ≡ 0
past d u a zero less = refl
past d u a (suc n) less =
    let rest = sum_by-append (λ k. cond (k == d) u 0) (a ∷ []) (range_with_len (a + 1) n) in
    let other : (a == d) ≡ false = ne_eqb a d (λ (same : a ≡ d). omega (arith, less, same)) in
    let none : sum_by (λ k. cond (k == d) u 0) (a ∷ []) ≡ 0 = ap (λ (b : Bool). 0 + cond b u 0) other in
    omega (arith, rest, none, past d u (a + 1) n (omega (arith, less)))

only_one : (d u a n : ℕ) → sum_by (λ k. cond (k == d) u 0) (range_with_len a n) ≤ u
only_one d u a zero = omega arith
only_one d u a (suc n) =
    let rest = sum_by-append (λ k. cond (k == d) u 0) (a ∷ []) (range_with_len (a + 1) n) in
    elim (cases_eq a d) [
      | inl same ↦
          let one : sum_by (λ k. cond (k == d) u 0) (a ∷ []) ≡ u = ap (λ (b : Bool). 0 + cond b u 0) (eq-eqb a d same) ∙ omega arith in
          omega (arith, rest, one, past d u (a + 1) n (omega (arith, same)))
      | inr other ↦
          let none : sum_by (λ k. cond (k == d) u 0) (a ∷ []) ≡ 0 = ap (λ (b : Bool). 0 + cond b u 0) (ne_eqb a d other) in
          omega (arith, rest, none, only_one d u (a + 1) n)
    ]

-- ---- what tells no failed reading

-- a test that no such event passes
pub record PassesNone (p : Event → Bool) : Type 0 where
  pub unsynced : (stripe : ℕ) → p (Unsynced stripe) ≡ false
  pub silent : (stripe d rec index : ℕ) (recorded found : Digest16) → p (Silent stripe d rec index recorded found) ≡ false
  pub parity : (stripe r : ℕ) → p (Parity stripe r) ≡ false
  pub lost : (stripe d rec index : ℕ) → p (Lost stripe d rec index) ≡ false
  pub fixed : (stripe d rec index : ℕ) → p (Fixed stripe d rec index) ≡ false
  pub fixed_parity : (stripe r : ℕ) → p (FixedParity stripe r) ≡ false

io_passes : (d : ℕ) → PassesNone (is_io_of d)
io_passes d = record {
  unsynced = λ stripe. refl;
  silent = λ stripe at rec index recorded found. refl;
  parity = λ stripe r. refl;
  lost = λ stripe at rec index. refl;
  fixed = λ stripe at rec index. refl;
  fixed_parity = λ stripe r. refl;
}

parity_passes : PassesNone is_parity_io
parity_passes = record {
  unsynced = λ stripe. refl;
  silent = λ stripe at rec index recorded found. refl;
  parity = λ stripe r. refl;
  lost = λ stripe at rec index. refl;
  fixed = λ stripe at rec index. refl;
  fixed_parity = λ stripe r. refl;
}

module _ (p : Event → Bool) (none : PassesNone p) where
  one_event : (event : Event) → p event ≡ false → count_by p (event ∷ []) ≡ 0
  one_event event not = ap (λ (b : Bool). 0 + cond b 1 0) not

  none_lost : (stripe d : ℕ) (cell : Option Cell) → count_by p (lost_event stripe d cell) ≡ 0
  none_lost stripe d None = refl
  none_lost stripe d (Some cell) = one_event (Lost stripe d cell.rec cell.index) (none.lost stripe d cell.rec cell.index)

  none_fixed : (stripe d : ℕ) (cell : Option Cell) → count_by p (fixed_event stripe d cell) ≡ 0
  none_fixed stripe d None = refl
  none_fixed stripe d (Some cell) = one_event (Fixed stripe d cell.rec cell.index) (none.fixed stripe d cell.rec cell.index)

  none_mended : (stripe d : ℕ) (cell : Option Cell) (written : Bool) → count_by p (mended_event stripe d cell written) ≡ 0
  none_mended stripe d cell true = none_fixed stripe d cell
  none_mended stripe d cell false = none_lost stripe d cell

  none_news : (plan : FixPlan) (mended : Mended) → count_by p (all_cell_news plan mended ++ all_level_news plan mended.facts) ≡ 0
  none_news plan mended =
      let facts = mended.facts in
      let cells = none_of_each p (cell_news plan mended) (λ d. none_if p (mended_event facts.stripe d (cell_at plan facts.stripe d) (answer_of mended d))
      (none_mended facts.stripe d (cell_at plan facts.stripe d) (answer_of mended d)) (is_repaired plan facts d)) (range_with_len 0 (length plan.table.columns)) in
      let levels = none_of_each p (level_news plan facts) (λ r. none_if p (FixedParity facts.stripe r ∷ []) (one_event (FixedParity facts.stripe r) (none.fixed_parity facts.stripe r))
      (is_wrong_level plan facts r)) (range_with_len 0 (length facts.levels)) in
      omega (arith, count_append p (all_cell_news plan mended) (all_level_news plan facts), cells, levels)

  none_unsynced : (plan : FixPlan) (stripe : ℕ) → count_by p (unsynced_events plan stripe) ≡ 0
  none_unsynced plan stripe = none_if p (Unsynced stripe ∷ []) (one_event (Unsynced stripe) (none.unsynced stripe)) _

  none_levels : (plan : FixPlan) (facts : StripeFacts) → count_by p (all_level_events plan facts.stripe facts.levels facts.row) ≡ 0
  none_levels plan facts = none_of_each p (λ r. level_events plan facts.stripe (get_or facts.levels r no_level) facts.row r)
      (λ r. none_if p (Parity facts.stripe r ∷ []) (one_event (Parity facts.stripe r) (none.parity facts.stripe r)) _) (range_with_len 0 (length facts.levels))

  none_lost_cells : (plan : FixPlan) (stripe : ℕ) (is_lost_at : ℕ → Bool) → count_by p (all_lost_events plan stripe is_lost_at) ≡ 0
  none_lost_cells plan stripe is_lost_at = none_of_each p (λ d. lost_events plan stripe (is_lost_at d) d)
      (λ d. none_if p (lost_event stripe d (cell_at plan stripe d)) (none_lost stripe d (cell_at plan stripe d)) _) (range_with_len 0 (length plan.table.columns))

  -- so it counts what is told of the readings
  count_readings : (plan : FixPlan) (mended : Mended) → count_by p (mended_events plan mended)
      ≡ count_by p (all_cell_events plan mended.facts.stripe mended.facts.slots) + count_by p (all_level_io_events plan mended.facts.stripe mended.facts.levels)
  count_readings plan mended =
      let facts = mended.facts in
      let news = all_cell_news plan mended ++ all_level_news plan facts in
      let cells = all_cell_events plan facts.stripe facts.slots in
      let ios = all_level_io_events plan facts.stripe facts.levels in
      let levels = all_level_events plan facts.stripe facts.levels facts.row in
      let lost = all_lost_events plan facts.stripe (is_lost plan facts) in
      let a = count_append p (stripe_events plan facts) news in
      let b = count_append p (unsynced_events plan facts.stripe) (cells ++ (ios ++ (levels ++ lost))) in
      let c = count_append p cells (ios ++ (levels ++ lost)) in
      let e = count_append p ios (levels ++ lost) in
      let f = count_append p levels lost in
      omega (arith, a, b, c, e, f, none_news plan mended, none_unsynced plan facts.stripe, none_levels plan facts, none_lost_cells plan facts.stripe (is_lost plan facts))

-- ---- cells

-- the reading of a cell failed, by its slot
abbrev pub slot_unread : SlotValue → Bool
slot_unread slot = is_unread slot.cell.found

silent_none : (of stripe d : ℕ) (cell : Cell) (recorded came : Option Digest16) → count_by (is_io_of of) (silent_event stripe d cell recorded came) ≡ 0
silent_none of stripe d cell None came = refl
silent_none of stripe d cell (Some recorded) None = refl
silent_none of stripe d cell (Some recorded) (Some came) = by (bytes_eq recorded.0 came.0)
  where
    by : (same : Bool) → count_by (is_io_of of) (if same then [] else Silent stripe d cell.rec cell.index recorded came ∷ []) ≡ 0
    by true = refl
    by false = refl

-- an event of a column is none of another
io_one : (of stripe d rec index : ℕ) → count_by (is_io_of of) (Io stripe d rec index ∷ []) ≤ cond (d == of) 1 0
io_one of stripe d rec index = omega arith

module _ (of : ℕ) (plan : FixPlan) (stripe : ℕ) where
  io_read : (d : ℕ) (cell : Cell) (seen : CellView) (entry : Entry) (slot : SlotValue)
      → count_by (is_io_of of) (read_event stripe d cell seen entry slot) ≤ cond (d == of) (cond (slot_unread slot) 1 0) 0
  io_read d cell seen entry slot = by (slot_unread slot) refl
    where
      quiet : (recorded : Bool) → count_by (is_io_of of) (if recorded then silent_event stripe d cell seen.hash slot.digest else []) ≡ 0
      quiet recorded = none_if (is_io_of of) (silent_event stripe d cell seen.hash slot.digest) (silent_none of stripe d cell seen.hash slot.digest) recorded

      loud : (mine : Bool) → cond mine 1 0 ≤ cond mine (cond true 1 0) 0
      loud true = omega arith
      loud false = omega arith

      by : (unread : Bool) → slot_unread slot ≡ unread → count_by (is_io_of of) (read_event stripe d cell seen entry slot) ≤ cond (d == of) (cond (slot_unread slot) 1 0) 0
      by true is = rw (is) (let few = io_one of stripe d cell.rec cell.index in omega (arith, few, loud (d == of)))
      by false is = rw (is) (let none : count_by (is_io_of of) (if is_as_recorded seen.meta entry.listed then silent_event stripe d cell seen.hash slot.digest else []) ≡ 0 = quiet (is_as_recorded seen.meta entry.listed) in omega (arith, none))

  io_cell : (slot : SlotValue) (d : ℕ) (cell : Option Cell) → count_by (is_io_of of) (read_events plan stripe slot d cell) ≤ cond (d == of) (cond (slot_unread slot) 1 0) 0
  io_cell slot d None = omega arith
  io_cell slot d (Some cell) = io_read d cell (cell_seen (column_at plan.table.columns d) cell) (entry_at plan d cell.rec) slot

-- one where the reading of a slot failed
abbrev pub failed_in : SlotValue → ℕ
failed_in slot = cond (slot_unread slot) 1 0

abbrev failed_at : StripeFacts → ℕ → ℕ → ℕ → ℕ
failed_at facts of d k = cond (d == of) (failed_in (slot_of facts k)) 0

same_slot : (facts : StripeFacts) (of d : ℕ) → failed_at facts of d d ≡ failed_at facts of d of
same_slot facts of d = elim (cases_eq d of) [
  | inl same ↦ ap (failed_at facts of d) same
  | inr other ↦ rw (ne_eqb d of other) refl
]

-- a stripe tells at most one failed reading of a column, where its slot says so
pub io_in_stripe : (plan : FixPlan) (mended : Mended) (of : ℕ) → count_by (is_io_of of) (mended_events plan mended) ≤ cond (slot_unread (slot_of mended.facts of)) 1 0
io_in_stripe plan mended of =
    let facts = mended.facts in
    let columns = range_with_len 0 (length plan.table.columns) in
    let mine : ℕ = cond (slot_unread (slot_of facts of)) 1 0 in
    let few = count_each (is_io_of of) (λ d. cell_events plan facts.stripe (slot_of facts d) d) (λ d. cond (d == of) mine 0)
    (λ d. subst (λ (n : ℕ). count_by (is_io_of of) (cell_events plan facts.stripe (slot_of facts d) d) ≤ n) (same_slot facts of d)
    (few_if (is_io_of of) (read_events plan facts.stripe (slot_of facts d) d (cell_at plan facts.stripe d)) _ (io_cell of plan facts.stripe (slot_of facts d) d (cell_at plan facts.stripe d)) (selects_cell plan facts.stripe d)))
    columns in
    let none = none_of_each (is_io_of of) (λ r. level_io_events plan facts.stripe (get_or facts.levels r no_level) r)
    (λ r. none_if (is_io_of of) (ParityIo facts.stripe r ∷ []) refl _) (range_with_len 0 (length facts.levels)) in
    omega (arith, count_readings (is_io_of of) (io_passes of) plan mended, few, only_one of mine 0 (length plan.table.columns), none)

-- and so stripes, no more than their slots say
pub io_in_stripes : (plan : FixPlan) (of : ℕ) (stripes : List Mended) → count_by (is_io_of of) (all_mended_events plan stripes) ≤ count_by slot_unread (slots_of of (facts_of stripes))
io_in_stripes plan of [] = omega arith
io_in_stripes plan of (mended ∷ stripes) =
    let a = count_append (is_io_of of) (mended_events plan mended) (all_mended_events plan stripes) in
    let b = count_cons slot_unread (slot_of mended.facts of) (slots_of of (facts_of stripes)) in
    omega (arith, a, b, io_in_stripe plan mended of, io_in_stripes plan of stripes)

-- the cells of a column that were not read are those whose slots say so
pub unread_slots : (of : ℕ) (stripes : List StripeFacts) → unread_cells of stripes ≡ count_by slot_unread (slots_of of stripes)
unread_slots of [] = refl
unread_slots of (facts ∷ stripes) =
    let a = count_cons (λ (it : StripeFacts). is_unread (slot_of it of).cell.found) facts stripes in
    let b = count_cons slot_unread (slot_of facts of) (slots_of of stripes) in
    let one : count_by (λ (it : StripeFacts). is_unread (slot_of it of).cell.found) (facts ∷ []) ≡ count_by slot_unread (slot_of facts of ∷ []) = refl in
    omega (arith, a, b, one, unread_slots of stripes)

pub io_in_cells : (plan : FixPlan) (of : ℕ) (stripes : List Mended) → count_by (is_io_of of) (all_mended_events plan stripes) ≤ unread_cells of (facts_of stripes)
io_in_cells plan of stripes = omega (arith, io_in_stripes plan of stripes, unread_slots of (facts_of stripes))

-- ---- levels

abbrev one_if : Bool → ℕ
one_if b = cond b 1 0

kept_unread : (block_size : ℕ) (reading : LevelReading) → is_unread_level (kept_level block_size reading).state ≡ has_failed reading
kept_unread block_size None = refl
kept_unread block_size (Some bytes) = by (length bytes == block_size)
  where
    by : (whole : Bool) → is_unread_level (if whole then here.Bytes else here.Short) ≡ false
    by true = refl
    by false = refl

io_level : (plan : FixPlan) (stripe : ℕ) (level : LevelValue) (r : ℕ) → count_by is_parity_io (level_io_events plan stripe level r) ≤ cond (is_unread_level level.state) 1 0
io_level plan stripe level r = by (selects_level plan stripe r) (is_unread_level level.state)
  where
    by : (chosen unread : Bool) → count_by is_parity_io (if chosen && unread then ParityIo stripe r ∷ [] else []) ≤ cond unread 1 0
    by true true = omega arith
    by true false = omega arith
    by false true = omega arith
    by false false = omega arith

module _ (plan : FixPlan) (stripe block_size : ℕ) (levels : List LevelValue) (readings : List LevelReading) (as_many : length readings ≡ length levels)
    (are_kept : (r : ℕ) → r < length levels → get_or levels r no_level ≡ kept_level block_size (get_or readings r None)) where
  io_levels : (n : ℕ) → n ≤ length levels
      → count_by is_parity_io (flat_map (λ r. level_io_events plan stripe (get_or levels r no_level) r) (range_with_len 0 n)) ≤ count_by has_failed (take n readings)
  io_levels zero few = omega arith
  io_levels (suc n) few =
      subst (λ (m : ℕ). count_by is_parity_io (flat_map events (range_with_len 0 m)) ≤ count_by has_failed (take m readings)) one_more (omega (arith, front, all, one, more, cut, last, its, io_levels n (omega (arith, few))))
    where
      events : ℕ → List Event
      events r = level_io_events plan stripe (get_or levels r no_level) r

      reading : LevelReading
      reading = get_or readings n None

      within : n < length levels
      within = omega (arith, few)

      one_more : n + 1 ≡ suc n
      one_more = omega arith

      front : count_by is_parity_io (flat_map events (range_with_len 0 n) ++ events n) ≡ count_by is_parity_io (flat_map events (range_with_len 0 n)) + count_by is_parity_io (events n)
      front = count_append is_parity_io (flat_map events (range_with_len 0 n)) (events n)

      all : count_by is_parity_io (flat_map events (range_with_len 0 n) ++ events n) ≡ count_by is_parity_io (flat_map events (range_with_len 0 (n + 1)))
      all = ap (λ (es : List Event). count_by is_parity_io es) (flat_range_more events n)

      one : count_by is_parity_io (events n) ≤ one_if (is_unread_level (get_or levels n no_level).state)
      one = io_level plan stripe (get_or levels n no_level) n

      its : one_if (is_unread_level (get_or levels n no_level).state) ≡ one_if (has_failed reading)
      its = ap one_if (ap (λ (level : LevelValue). is_unread_level level.state) (are_kept n within) ∙ kept_unread block_size reading)

      more : count_by has_failed (take (n + 1) readings) ≡ count_by has_failed (take n readings ++ reading ∷ [])
      more = ap (λ (rs : List LevelReading). count_by has_failed rs) (take_more readings n None (omega (arith, within, as_many)))

      cut : count_by has_failed (take n readings ++ reading ∷ []) ≡ count_by has_failed (take n readings) + count_by has_failed (reading ∷ [])
      cut = count_append has_failed (take n readings) (reading ∷ [])

      last : count_by has_failed (reading ∷ []) ≡ one_if (has_failed reading)
      last = omega arith

-- a stripe tells at most those failed readings of levels that there were
pub parity_io_in_stripe : (plan : FixPlan) (mended : Mended) (block_size : ℕ) (readings : List LevelReading) → length readings ≡ length mended.facts.levels
    → ((r : ℕ) → r < length mended.facts.levels → get_or mended.facts.levels r no_level ≡ kept_level block_size (get_or readings r None))
    → count_by is_parity_io (mended_events plan mended) ≤ count_by has_failed readings
parity_io_in_stripe plan mended block_size readings as_many are_kept =
    let facts = mended.facts in
    let many = length facts.levels in
    let few = io_levels plan facts.stripe block_size facts.levels readings as_many are_kept many (omega arith) in
    let all : take many readings ≡ readings = take_all many readings (omega (arith, as_many)) in
    let whole = ap (λ (rs : List LevelReading). count_by has_failed rs) all in
    let cells = none_of_each is_parity_io (λ d. cell_events plan facts.stripe (slot_of facts d) d)
    (λ d. none_if is_parity_io (read_events plan facts.stripe (slot_of facts d) d (cell_at plan facts.stripe d)) (quiet_cell (slot_of facts d) d (cell_at plan facts.stripe d)) (selects_cell plan facts.stripe d))
    (range_with_len 0 (length plan.table.columns)) in
    omega (arith, count_readings is_parity_io parity_passes plan mended, few, whole, cells)
  where
    quiet_silent : (d : ℕ) (cell : Cell) (recorded came : Option Digest16) → count_by is_parity_io (silent_event mended.facts.stripe d cell recorded came) ≡ 0
    quiet_silent d cell None came = refl
    quiet_silent d cell (Some recorded) None = refl
    quiet_silent d cell (Some recorded) (Some came) = by (bytes_eq recorded.0 came.0)
      where
        by : (same : Bool) → count_by is_parity_io (if same then [] else Silent mended.facts.stripe d cell.rec cell.index recorded came ∷ []) ≡ 0
        by true = refl
        by false = refl

    either : (unread recorded : Bool) (io silent : List Event) → count_by is_parity_io io ≡ 0 → count_by is_parity_io silent ≡ 0 → count_by is_parity_io (if unread then io else (if recorded then silent else [])) ≡ 0
    either true recorded io silent one two = one
    either false true io silent one two = two
    either false false io silent one two = refl

    quiet_cell : (slot : SlotValue) (d : ℕ) (cell : Option Cell) → count_by is_parity_io (read_events plan mended.facts.stripe slot d cell) ≡ 0
    quiet_cell slot d None = refl
    quiet_cell slot d (Some cell) = either (slot_unread slot) (is_as_recorded (cell_seen (column_at plan.table.columns d) cell).meta (entry_at plan d cell.rec).listed) (Io mended.facts.stripe d cell.rec cell.index ∷ [])
        (silent_event mended.facts.stripe d cell (cell_seen (column_at plan.table.columns d) cell).hash slot.digest) refl (quiet_silent d cell (cell_seen (column_at plan.table.columns d) cell).hash slot.digest)
