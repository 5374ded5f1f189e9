-- Stripes of which a fix knows the same are written alike, and the same is told of them.
use Rattle.std.proofs.Common.{◌≡◌, ℕ, ◌<◌, ◌&&◌, ◌||◌, List, [], ◌++◌, length, count_by, Bool, true, false, if◌then◌else◌, Option, None, Some, refl, sym, ap, ap₂, ◌∙◌}
use Rattle.std.specs.Prelude.{is_some, not, sum_by}
use Rattle.std.specs.List.{range_with_len}
use Rattle.file_restorer.specs.State.{Write}
use Rattle.file_table.specs.Valid.{IsValid}
use Rattle.file_table.specs.declared.block.Cell.{Cell}
use Rattle.snap_fix.specs.Fixing.{mended_at, no_mended}
use Rattle.snap_fix.specs.Mended.{Mended, all_cell_news, all_level_news, all_mended_events, answer_of, cell_news, fixed_event, has_lost, is_blocked_cell, is_gone, is_of, is_repaired, is_written, is_wrong_level, loses, mended_event, mended_events, write_of, writes_in, writes_of, written_in, wrong_in}
use Rattle.snap_report.specs.declared.events.Event.{Event}
use Rattle.stripe_examiner.specs.Facts.{StripeFacts, damaged_at, slot_of}
use Rattle.stripe_examiner.specs.Findings.{is_lost, stripe_events}
use Rattle.stripe_examiner.specs.Known.{AreFacts}
use Rattle.repair_scope.specs.Plan.{FixPlan, cell_at, seen_at, selects_cell}
use Rattle.stripe_examiner.specs.Showing.{known_block}
use Rattle.stripe_examiner.proofs.CellFactsLemmas.{flat_map_below}
use Rattle.snap_top.specs.Alike.{KeptAlike}
use Rattle.snap_top.proofs.PlacesLemmas.{any_same, count_below, flat_map_same, sum_by_same}
use Rattle.snap_top.proofs.SeenLemmas.{IsDetermined, NoGifts, damaged_same, is_mid, lost as lost_seen, told_same}

-- ---- one stripe: each cell that is to be written is

abbrev pub AreWritten : FixPlan → Mended → Type 0
AreWritten plan mended = (d : ℕ) → d < length plan.table.columns → is_repaired plan mended.facts d ≡ true → answer_of mended d ≡ true

and_is : (r a : Bool) → (r ≡ true → a ≡ true) → (r && a) ≡ r
and_is true a its = its refl
and_is false a its = refl

and_not : (r a : Bool) → (r ≡ true → a ≡ true) → (r && not a) ≡ false
and_not true a its = ap not (its refl)
and_not false a its = refl

news_is : (r a : Bool) (stripe d : ℕ) (cell : Option Cell) → (r ≡ true → a ≡ true) → (if r then mended_event stripe d cell a else []) ≡ (if r then fixed_event stripe d cell else [])
news_is true a stripe d cell its = ap (mended_event stripe d cell) (its refl)
news_is false a stripe d cell its = refl

module _ (plan : FixPlan) (mended : Mended) (are : AreWritten plan mended) (d : ℕ) (below : d < length plan.table.columns) where
  pub written_is : is_written plan mended d ≡ is_repaired plan mended.facts d
  written_is = and_is (is_repaired plan mended.facts d) (answer_of mended d) (are d below)

  gone_is : is_gone plan mended d ≡ false
  gone_is = and_not (is_repaired plan mended.facts d) (answer_of mended d) (are d below)

  cell_news_is : cell_news plan mended d ≡ (if is_repaired plan mended.facts d then fixed_event mended.facts.stripe d (cell_at plan mended.facts.stripe d) else [])
  cell_news_is = news_is (is_repaired plan mended.facts d) (answer_of mended d) mended.facts.stripe d (cell_at plan mended.facts.stripe d) (are d below)

-- ---- two

-- the same came of two stripes, but for what was seen of their files
pub record CameToSame (one other : StripeFacts) : Type 0 where
  pub stripe : one.stripe ≡ other.stripe
  pub slots : (d : ℕ) → KeptAlike (slot_of one d) (slot_of other d)
  pub gifts : one.gifts ≡ other.gifts
  pub levels : one.levels ≡ other.levels

module _ (determined : IsDetermined) (plan : FixPlan) (valid : IsValid plan.table) (one other : Mended) (are : AreFacts plan one.facts) (are_then : AreFacts plan other.facts) (same : CameToSame one.facts other.facts)
    (none : NoGifts other.facts) (written : AreWritten plan one) (written_then : AreWritten plan other) where
  abbrev columns : ℕ
  columns = length plan.table.columns

  abbrev facts : StripeFacts
  facts = other.facts

  -- the other one, with what was seen in the first
  abbrev seen : StripeFacts
  seen = record facts { slots = one.facts.slots }

  one_seen : one.facts ≡ seen
  one_seen = is_mid determined plan valid one.facts facts are are_then same.stripe same.slots same.gifts none same.levels

  damaged_then : (d : ℕ) → damaged_at plan seen d ≡ damaged_at plan facts d
  damaged_then d = damaged_same plan.table.shape.kind (seen_at plan facts.stripe d) (slot_of one.facts d) (slot_of facts d) (same.slots d)

  repaired_same : (d : ℕ) → is_repaired plan one.facts d ≡ is_repaired plan facts d
  repaired_same d =
      ap (λ (its : StripeFacts). is_repaired plan its d) one_seen
      ∙ ap (λ (damaged : Bool). selects_cell plan facts.stripe d && damaged && is_some (known_block plan facts d) && not (is_blocked_cell plan d (cell_at plan facts.stripe d))) (damaged_then d)

  written_same : (d : ℕ) → d < columns → is_written plan one d ≡ is_written plan other d
  written_same d below = written_is plan one written d below ∙ repaired_same d ∙ sym (written_is plan other written_then d below)

  -- what is told

  cell_news_same : (d : ℕ) → d < columns → cell_news plan one d ≡ cell_news plan other d
  cell_news_same d below =
      cell_news_is plan one written d below
      ∙ ap₂ (λ (r : Bool) (s : ℕ). if r then fixed_event s d (cell_at plan s d) else []) (repaired_same d) same.stripe
      ∙ sym (cell_news_is plan other written_then d below)

  pub events_same : mended_events plan one ≡ mended_events plan other
  events_same =
      let found : stripe_events plan one.facts ≡ stripe_events plan facts
      = told_same determined plan valid one.facts facts are are_then same.stripe same.slots same.gifts none same.levels in
      let cells : all_cell_news plan one ≡ all_cell_news plan other = flat_map_below (cell_news plan one) (cell_news plan other) columns cell_news_same in
      let levels : all_level_news plan one.facts ≡ all_level_news plan facts = ap (λ (its : StripeFacts). all_level_news plan its) one_seen in
      ap₂ (λ (its news : List Event). its ++ news) found (ap₂ (λ (its news : List Event). its ++ news) cells levels)

  -- what is counted

  pub written_count : written_in plan one ≡ written_in plan other
  written_count = count_below (is_written plan one) (is_written plan other) columns written_same

  pub wrong_count : wrong_in plan one ≡ wrong_in plan other
  wrong_count = ap (λ (its : StripeFacts). count_by (is_wrong_level plan its) (range_with_len 0 (length its.levels))) one_seen

  pub wrong_same : (r : ℕ) → is_wrong_level plan one.facts r ≡ is_wrong_level plan facts r
  wrong_same r = ap (λ (its : StripeFacts). is_wrong_level plan its r) one_seen

  pub row_same : one.facts.row ≡ facts.row
  row_same = ap (λ (its : StripeFacts). its.row) one_seen

  -- what is lost, and what is written

  pub lost_same : (d i : ℕ) → d < columns → loses plan d i one ≡ loses plan d i other
  lost_same d i below =
      let lost : is_lost plan one.facts d ≡ is_lost plan facts d
      = ap (λ (its : StripeFacts). is_lost plan its d) one_seen
      ∙ lost_seen determined plan valid one.facts facts are are_then same.stripe same.slots same.gifts none same.levels d in
      let gone : is_gone plan one d ≡ is_gone plan other d = gone_is plan one written d below ∙ sym (gone_is plan other written_then d below) in
      ap (λ (s : ℕ). is_of i (cell_at plan s d) && (is_lost plan one.facts d || is_gone plan one d)) same.stripe
      ∙ ap₂ (λ (l g : Bool). is_of i (cell_at plan facts.stripe d) && (l || g)) lost gone

  write_then : (d : ℕ) (cell : Option Cell) → write_of plan d seen cell ≡ write_of plan d facts cell
  write_then d None = refl
  write_then d (Some cell) = refl

  abbrev writes_by : ℕ → ℕ → StripeFacts → Bool → List Write
  writes_by d i its w = if is_of i (cell_at plan its.stripe d) && w then write_of plan d its (cell_at plan its.stripe d) else []

  pub writes_same : (d i : ℕ) → d < columns → writes_in plan d i one ≡ writes_in plan d i other
  writes_same d i below =
      ap₂ (λ (its : StripeFacts) (w : Bool). writes_by d i its w) one_seen (written_same d below)
      ∙ ap (λ (writes : List Write). if is_of i (cell_at plan facts.stripe d) && is_written plan other d then writes else []) (write_then d (cell_at plan facts.stripe d))

-- ---- lists of them

module _ (determined : IsDetermined) (plan : FixPlan) (valid : IsValid plan.table) (ones others : List Mended) (as_many : length ones ≡ length others)
    (are : (k : ℕ) → k < length ones → AreFacts plan (mended_at ones k).facts) (are_then : (k : ℕ) → k < length ones → AreFacts plan (mended_at others k).facts)
    (same : (k : ℕ) → k < length ones → CameToSame (mended_at ones k).facts (mended_at others k).facts) (none : (k : ℕ) → k < length ones → NoGifts (mended_at others k).facts)
    (written : (k : ℕ) → k < length ones → AreWritten plan (mended_at ones k)) (written_then : (k : ℕ) → k < length ones → AreWritten plan (mended_at others k)) where
  pub all_events_same : all_mended_events plan ones ≡ all_mended_events plan others
  all_events_same = flat_map_same (mended_events plan) no_mended ones others as_many
      (λ k within. events_same determined plan valid (mended_at ones k) (mended_at others k) (are k within) (are_then k within) (same k within) (none k within) (written k within) (written_then k within))

  pub all_written_same : sum_by (written_in plan) ones ≡ sum_by (written_in plan) others
  all_written_same = sum_by_same (written_in plan) no_mended ones others as_many
      (λ k within. written_count determined plan valid (mended_at ones k) (mended_at others k) (are k within) (are_then k within) (same k within) (none k within) (written k within) (written_then k within))

  pub all_wrong_same : sum_by (wrong_in plan) ones ≡ sum_by (wrong_in plan) others
  all_wrong_same = sum_by_same (wrong_in plan) no_mended ones others as_many
      (λ k within. wrong_count determined plan valid (mended_at ones k) (mended_at others k) (are k within) (are_then k within) (same k within) (none k within) (written k within) (written_then k within))

  pub has_lost_same : (d i : ℕ) → d < length plan.table.columns → has_lost plan ones d i ≡ has_lost plan others d i
  has_lost_same d i below = any_same (loses plan d i) no_mended ones others as_many
      (λ k within. lost_same determined plan valid (mended_at ones k) (mended_at others k) (are k within) (are_then k within) (same k within) (none k within) (written k within) (written_then k within) d i below)

  pub writes_of_same : (d i : ℕ) → d < length plan.table.columns → writes_of plan ones d i ≡ writes_of plan others d i
  writes_of_same d i below = flat_map_same (writes_in plan d i) no_mended ones others as_many
      (λ k within. writes_same determined plan valid (mended_at ones k) (mended_at others k) (are k within) (are_then k within) (same k within) (none k within) (written k within) (written_then k within) d i below)

  pub level_wrong_same : (k r : ℕ) → k < length ones → is_wrong_level plan (mended_at ones k).facts r ≡ is_wrong_level plan (mended_at others k).facts r
  level_wrong_same k r within =
      wrong_same determined plan valid (mended_at ones k) (mended_at others k) (are k within) (are_then k within) (same k within) (none k within) (written k within) (written_then k within) r

  pub row_known_same : (k : ℕ) → k < length ones → (mended_at ones k).facts.row ≡ (mended_at others k).facts.row
  row_known_same k within =
      row_same determined plan valid (mended_at ones k) (mended_at others k) (are k within) (are_then k within) (same k within) (none k within) (written k within) (written_then k within)
