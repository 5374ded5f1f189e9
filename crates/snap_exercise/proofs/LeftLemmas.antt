-- What a fix leaves, where its stripes are synced, their rows are known and no record is blocked: nothing.
use Rattle.std.proofs.Common.{◌≡◌, ℕ, suc, ◌<◌, ◌&&◌, List, [], ◌∷◌, ◌++◌, length, get_or, cond, not, Bool, true, false, if◌then◌else◌, Option, None, Some, refl, sym, ap, ◌∙◌, subst, arith}
use Rattle.std.specs.Prelude.{bytes_eq, count_by, is_some, sum_by}
use Rattle.std.specs.List.{flat_map, range_with_len}
use Rattle.std.proofs.lemmas.List.Sums.{sum_by-cons}
use Rattle.block_hash.specs.declared.Digest16.{Digest16}
use Rattle.disk_model.specs.declared.meta.Meta.{Meta}
use Rattle.file_table.specs.Cells.{CellView, cell_seen}
use Rattle.file_table.specs.Table.{column_at, record_at, records_in}
use Rattle.file_table.specs.declared.block.Cell.{Cell}
use Rattle.parity_writer.specs.LevelsValue.{no_level}
use Rattle.snap_exercise.proofs.AlikeLemmas.{in_range}
use Rattle.snap_exercise.proofs.FixLemmas.{none_left}
use Rattle.snap_fix.specs.Mended.{Mended, all_cell_news, all_level_news, all_mended_events, answer_of, cell_news, fixed_event, is_repaired, is_wrong_level, level_news, mended_event, mended_events, wrong_in}
use Rattle.snap_fix.proofs.FixCountLemmas.{count_append}
use Rattle.snap_report.specs.Kind.{is_left}
use Rattle.snap_report.specs.declared.events.Event.{Event}
use Rattle.snap_report.specs.declared.events.Event.TheVariants as event
use Rattle.parity_writer.specs.Parity.{Row}
use Rattle.stripe_examiner.specs.Facts.{StripeFacts, damaged_at, gift_of}
use Rattle.stripe_examiner.specs.Showing.{known_block, known_by}
use Rattle.stripe_examiner.specs.Findings.{all_cell_events, all_level_events, all_level_io_events, all_lost_events, blocked_event, cell_events, changed_event, column_events, is_unread, is_unread_level, is_wrong, level_events, level_io_events, is_lost, lost_event, lost_events, opening_events, read_event, read_events, record_events, silent_event, stripe_events, unsynced_events}
use Rattle.repair_scope.specs.Plan.{FixPlan, cell_at, entry_at, has_selected_cell, is_audit, is_synced, selects_cell, selects_level}
use Rattle.repair_scope.specs.Selected.{is_as_recorded}
use Rattle.repair_scope.specs.declared.entry.Entry.{Entry}
use Rattle.stripe_reader.specs.SlotValue.{SlotValue}
use Rattle.stripe_reader.specs.WindowValue.{no_slot}

-- ---- lists without what is left

abbrev left_in : List Event → ℕ
left_in events = count_by is_left events

if_left : (b : Bool) (events : List Event) → left_in events ≡ 0 → left_in (if b then events else []) ≡ 0
if_left true events none = none
if_left false events none = refl

or_left : (b : Bool) (events others : List Event) → left_in events ≡ 0 → left_in others ≡ 0 → left_in (if b then events else others) ≡ 0
or_left true events others none nor = none
or_left false events others none nor = nor

both_left : (front back : List Event) → left_in front ≡ 0 → left_in back ≡ 0 → left_in (front ++ back) ≡ 0
both_left front back none nor = omega (arith, count_append is_left front back, none, nor)

range_left : (f : ℕ → List Event) (n : ℕ) → ((k : ℕ) → k < n → left_in (f k) ≡ 0) → left_in (flat_map f (range_with_len 0 n)) ≡ 0
range_left f n each = none_left f (range_with_len 0 n) 0 (λ k within.
    let it = in_range n k within in
    subst (λ (j : ℕ). left_in (f j) ≡ 0) (sym it.0) (each k it.1))

-- ---- of the files

changed_left : (d i : ℕ) (meta : Meta) (entry : Entry) → left_in (changed_event d i meta entry) ≡ 0
changed_left d i meta entry = or_left (is_as_recorded meta entry.listed) [] (event.Changed d i entry.listed ∷ []) refl refl

blocked_left : (audit : Bool) (d i : ℕ) (entry : Entry) → entry.blocked ≡ false → left_in (blocked_event audit d i entry) ≡ 0
blocked_left audit d i entry free = ap (λ (b : Bool). left_in (if b && not audit then event.Blocked d i ∷ [] else [])) free

pub opening_left : (plan : FixPlan) → ((d i : ℕ) → d < length plan.table.columns → i < length (records_in plan.table d) → (entry_at plan d i).blocked ≡ false) → left_in (opening_events plan) ≡ 0
opening_left plan free = range_left (column_events plan) (length plan.table.columns) (λ d below. range_left (record_events plan d) (length (records_in plan.table d)) (λ i inside.
    let entry : Entry = entry_at plan d i in
    let meta : Meta = (record_at plan.table.columns d i).meta in
    let audit : Bool = is_audit plan.scope.mode in
    if_left entry.selected (changed_event d i meta entry ++ blocked_event audit d i entry)
    (both_left (changed_event d i meta entry) (blocked_event audit d i entry) (changed_left d i meta entry) (blocked_left audit d i entry (free d i below inside)))))

-- ---- of a stripe

silent_left : (stripe d : ℕ) (cell : Cell) (recorded got : Option Digest16) → left_in (silent_event stripe d cell recorded got) ≡ 0
silent_left stripe d cell None got = refl
silent_left stripe d cell (Some hash) None = refl
silent_left stripe d cell (Some hash) (Some other) = or_left (bytes_eq hash.0 other.0) [] (event.Silent stripe d cell.rec cell.index hash other ∷ []) refl refl

read_left : (stripe d : ℕ) (cell : Cell) (seen : CellView) (entry : Entry) (slot : SlotValue) → left_in (read_event stripe d cell seen entry slot) ≡ 0
read_left stripe d cell seen entry slot = or_left (is_unread slot.cell.found) (event.Io stripe d cell.rec cell.index ∷ []) (if is_as_recorded seen.meta entry.listed then silent_event stripe d cell seen.hash slot.digest else []) refl
    (if_left (is_as_recorded seen.meta entry.listed) (silent_event stripe d cell seen.hash slot.digest) (silent_left stripe d cell seen.hash slot.digest))

reads_left : (plan : FixPlan) (stripe : ℕ) (slot : SlotValue) (d : ℕ) (cell : Option Cell) → left_in (read_events plan stripe slot d cell) ≡ 0
reads_left plan stripe slot d None = refl
reads_left plan stripe slot d (Some cell) = read_left stripe d cell (cell_seen (column_at plan.table.columns d) cell) (entry_at plan d cell.rec) slot

unsynced_by : (audit synced has : Bool) (stripe : ℕ) → synced ≡ true → left_in (if not audit && not synced && has then event.Unsynced stripe ∷ [] else []) ≡ 0
unsynced_by true true has stripe is = refl
unsynced_by false true has stripe is = refl
unsynced_by audit false has stripe is = absurd (let clash : false ≡ true = is in cc)

lost_by : (audit selected damaged known : Bool) (events : List Event) → known ≡ true → left_in (if not audit && (selected && (damaged && not known)) then events else []) ≡ 0
lost_by true selected damaged known events is = refl
lost_by false false damaged known events is = refl
lost_by false true false known events is = refl
lost_by false true true true events is = refl
lost_by false true true false events is = absurd (let clash : false ≡ true = is in cc)

fixed_left : (stripe d : ℕ) (cell : Option Cell) → left_in (fixed_event stripe d cell) ≡ 0
fixed_left stripe d None = refl
fixed_left stripe d (Some cell) = refl

news_left : (repaired answer : Bool) (stripe d : ℕ) (cell : Option Cell) → (repaired ≡ true → answer ≡ true) → left_in (if repaired then mended_event stripe d cell answer else []) ≡ 0
news_left true answer stripe d cell says = ap (λ (b : Bool). left_in (mended_event stripe d cell b)) (says refl) ∙ fixed_left stripe d cell
news_left false answer stripe d cell says = refl

-- in a synced stripe each block is known where the row is
known_where_row : (synced : Bool) (gift : Option (List ℕ)) (row : Option Row) (d : ℕ) → synced ≡ true → is_some row ≡ true
    → (let it : Option (List ℕ) = (if synced then known_by synced gift row d else None) in is_some it ≡ true)
known_where_row false gift row d is some = absurd (let clash : false ≡ true = is in cc)
known_where_row true (Some given) row d is some = refl
known_where_row true None (Some row) d is some = refl
known_where_row true None None d is some = absurd (let clash : false ≡ true = some in cc)

-- What is known of a stripe of which nothing is left: it is synced, its row is known, and no level is wrong.
pub record IsMended (plan : FixPlan) (facts : StripeFacts) : Type 0 where
  pub synced : is_synced plan facts.stripe ≡ true
  pub known : is_some facts.row ≡ true
  pub right : (r : ℕ) → is_wrong_level plan facts r ≡ false

abbrev IsAnswered : FixPlan → Mended → Type 0
IsAnswered plan mended = (d : ℕ) → d < length plan.table.columns → is_repaired plan mended.facts d ≡ true → answer_of mended d ≡ true

module _ (plan : FixPlan) (mended : Mended) (is : IsMended plan mended.facts) (answered : IsAnswered plan mended) where
  abbrev facts : StripeFacts
  facts = mended.facts

  abbrev many : ℕ
  many = length plan.table.columns

  stripe_left : left_in (stripe_events plan facts) ≡ 0
  stripe_left =
      let lost = all_lost_events plan facts.stripe (is_lost plan facts) in
      let levels = all_level_events plan facts.stripe facts.levels facts.row in
      let ios = all_level_io_events plan facts.stripe facts.levels in
      let cells = all_cell_events plan facts.stripe facts.slots in
      both_left (unsynced_events plan facts.stripe) (cells ++ (ios ++ (levels ++ lost)))
      (unsynced_by (is_audit plan.scope.mode) (is_synced plan facts.stripe) (has_selected_cell plan facts.stripe) facts.stripe is.synced)
      (both_left cells (ios ++ (levels ++ lost))
      (range_left (λ d. cell_events plan facts.stripe (get_or facts.slots d no_slot) d) many (λ d below.
      if_left (selects_cell plan facts.stripe d) (read_events plan facts.stripe (get_or facts.slots d no_slot) d (cell_at plan facts.stripe d)) (reads_left plan facts.stripe (get_or facts.slots d no_slot) d (cell_at plan facts.stripe d))))
      (both_left ios (levels ++ lost)
      (range_left (λ r. level_io_events plan facts.stripe (get_or facts.levels r no_level) r) (length facts.levels) (λ r below.
      if_left (selects_level plan facts.stripe r && is_unread_level (get_or facts.levels r no_level).state) (event.ParityIo facts.stripe r ∷ []) refl))
      (both_left levels lost
      (range_left (λ r. level_events plan facts.stripe (get_or facts.levels r no_level) facts.row r) (length facts.levels) (λ r below.
      if_left (is_wrong plan facts.stripe (get_or facts.levels r no_level) facts.row r) (event.Parity facts.stripe r ∷ []) refl))
      (range_left (λ d. lost_events plan facts.stripe (is_lost plan facts d) d) many (λ d below.
      lost_by (is_audit plan.scope.mode) (selects_cell plan facts.stripe d) (damaged_at plan facts d) (is_some (known_block plan facts d)) (lost_event facts.stripe d (cell_at plan facts.stripe d))
      (known_where_row (is_synced plan facts.stripe) (gift_of facts d) facts.row d is.synced is.known))))))

  pub mended_left : left_in (mended_events plan mended) ≡ 0
  mended_left = both_left (stripe_events plan facts) (all_cell_news plan mended ++ all_level_news plan facts) stripe_left
      (both_left (all_cell_news plan mended) (all_level_news plan facts)
      (range_left (cell_news plan mended) many (λ d below. news_left (is_repaired plan facts d) (answer_of mended d) facts.stripe d (cell_at plan facts.stripe d) (answered d below)))
      (range_left (level_news plan facts) (length facts.levels) (λ r below. if_left (is_wrong_level plan facts r) (event.FixedParity facts.stripe r ∷ []) refl)))

-- ---- sums of nothing

sum_none : {X : Type 0} (f : X → ℕ) (xs : List X) (e : X) → ((k : ℕ) → k < length xs → f (get_or xs k e) ≡ 0) → sum_by f xs ≡ 0
sum_none f [] e each = refl
sum_none f (x ∷ xs) e each =
    let here : f x ≡ 0 = each 0 (omega arith) in
    let rest : sum_by f xs ≡ 0 = sum_none f xs e (λ k within. each (suc k) (omega (arith, within))) in
    omega (arith, sum_by-cons f x xs, here, rest)

pub wrong_none : (plan : FixPlan) (mended : Mended) → IsMended plan mended.facts → wrong_in plan mended ≡ 0
wrong_none plan mended is = sum_none (λ (r : ℕ). cond (is_wrong_level plan mended.facts r) 1 0) (range_with_len 0 (length mended.facts.levels)) 0
    (λ k within. ap (λ (b : Bool). cond b 1 0) (is.right (get_or (range_with_len 0 (length mended.facts.levels)) k 0)))

-- ---- of a fix

module _ (plan : FixPlan) (stripes : List Mended) (e : Mended) (mended : (k : ℕ) → k < length stripes → IsMended plan (get_or stripes k e).facts) where
  pub all_left : ((k : ℕ) → k < length stripes → IsAnswered plan (get_or stripes k e)) → left_in (all_mended_events plan stripes) ≡ 0
  all_left answered = none_left (mended_events plan) stripes e (λ k within. mended_left plan (get_or stripes k e) (mended k within) (answered k within))

  pub none_wrong : sum_by (wrong_in plan) stripes ≡ 0
  none_wrong = sum_none (wrong_in plan) stripes e (λ k within. wrong_none plan (get_or stripes k e) (mended k within))
