-- The stripes of a window are marked one after another, and what was found is put into them: what holds of one of them stays.
use Rattle.std.proofs.Common.{◌≡◌, ◌≢◌, inl, inr, ℕ, ◌+◌, ◌*◌, ◌<◌, List, [], ◌∷◌, ◌++◌, length, take, get_or, set, Bool, true, false, Option, None, Some, refl, sym, ap, ap₂, ◌∙◌, subst, arith}
use Rattle.std.specs.Prelude.{if◌then◌else◌}
use Rattle.std.specs.List.{All}
use Rattle.std.proofs.lemmas.Bool.{cases_lt, false≢true}
use Rattle.std.proofs.lemmas.Bool.Decides.{eqb_tells}
use Rattle.std.proofs.lemmas.List.{ext_get_or, get_or_default, get_or-set_other, get_or-set_same, length-map, length-take-le}
use Rattle.std.proofs.lemmas.List.FromFn.{get_or-map-range_with_len, length-map-range_with_len}
use Rattle.std.proofs.Math.ListN.{get_or-map as get_or-map-any}
use Rattle.file_table.specs.Table.{TableValue}
use Rattle.file_table.specs.declared.block.Cell.{Cell}
use Rattle.parity_writer.specs.Parity.{Row}
use Rattle.parity_writer.specs.WindowRow.{bytes_in, bytes_of, row_at}
use Rattle.stripe_reader.specs.Held.{HoldsCells}
use Rattle.stripe_reader.specs.SlotValue.{SlotValue}
use Rattle.stripe_reader.specs.WindowValue.{WindowValue, slot_at}
use Rattle.stripe_examiner.specs.declared.marking.SlotMark.{SlotMark}
use Rattle.stripe_examiner.specs.declared.room.StripeRoom.{StripeRoom}
use Rattle.stripe_examiner.specs.AskedCell.{AsksMarked}
use Rattle.stripe_examiner.specs.declared.search.Wanted.{Wanted}
use Rattle.stripe_examiner.specs.Facts.{StripeFacts, is_damaged, is_sought}
use Rattle.stripe_examiner.specs.Judged.{CanJudge, IsJudged, JudgesStripe, row_found, row_judged}
use Rattle.stripe_examiner.specs.Judging.{TellsWrong}
use Rattle.stripe_examiner.specs.Knowing.{KeepsOtherColumns}
use Rattle.stripe_examiner.specs.Known.{IsKnown}
use Rattle.stripe_examiner.specs.MarkedWindow.{AsksForMarked, HasMarks, IsAsLarge, MarksStripe, PutsStripe, number_at}
use Rattle.stripe_examiner.specs.Marks.{ChangesStripe, IsMarked, KeepsCells, cell_mark, facts_after, gift_by, gifts_after, is_marked_missing, column_mark, mark_of_cell, slots_at, wanted_marked, levels_read}
use Rattle.repair_scope.specs.Plan.{FixPlan, is_searched, seen_at}
use Rattle.stripe_examiner.specs.Restorable.{filled}
use Rattle.stripe_examiner.specs.Search.{found_in}
use Rattle.stripe_examiner.specs.Shown.{IsFound, found_at}
use Rattle.stripe_examiner.specs.Spare.{SpareView}
use Rattle.stripe_examiner.proofs.AskingLemmas.{asks_as_marked, spare_none, spare_then}
use Rattle.stripe_examiner.proofs.KnowLemmas.{wanted_apart}
use Rattle.stripe_examiner.proofs.ReadSteps.{as_many_of, facts_before, facts_last, numbers_one}
use Rattle.stripe_examiner.proofs.WindowLemmas.{slots_same}

-- ---- windows of the same size

pub as_large_start : (window : WindowValue) → IsAsLarge window window
as_large_start window = record { room = refl; block_size = refl; count = refl; lanes = refl; cells = refl }

pub as_large_then : (i : ℕ) (old mid new : WindowValue) → IsAsLarge old mid → ChangesStripe i mid new → IsAsLarge old new
as_large_then i old mid new one two = record {
  room = two.room ∙ one.room;
  block_size = two.block_size ∙ one.block_size;
  count = two.count ∙ one.count;
  lanes = two.lanes ∙ one.lanes;
  cells = two.cells ∙ one.cells;
}

-- such a window keeps the same cells of the table, of one stripe and of all
pub keeps_as_large : (table : TableValue) (stripe k : ℕ) (before after : WindowValue) → IsAsLarge before after → KeepsCells table stripe k before → KeepsCells table stripe k after
keeps_as_large table stripe k before after large keeps d below = ap (λ (cells : List (List (Option Cell))). get_or (get_or cells d []) k None) large.cells ∙ keeps d below

pub holds_as_large : (table : TableValue) (numbers : List ℕ) (before after : WindowValue) → IsAsLarge before after → HoldsCells table numbers before → HoldsCells table numbers after
holds_as_large table numbers before after large holds d below k within = keeps_as_large table (number_at numbers k) k before after large (λ e there. holds e there k within) d below

-- ---- windows with the same slots at a stripe

abbrev SameSlots : ℕ → WindowValue → WindowValue → Type 0
SameSlots k one other = (d : ℕ) → slot_at one k d ≡ slot_at other k d

pub rows_same : (k : ℕ) (one other : WindowValue) → length one.lanes ≡ length other.lanes → SameSlots k one other → row_at one k ≡ row_at other k
rows_same k one other lanes same =
    ext_get_or [] (row_at one k) (row_at other k)
    (length-map one.lanes (bytes_in k) ∙ lanes ∙ sym (length-map other.lanes (bytes_in k)))
    (λ d below. get_or-map-any (bytes_in k) one.lanes d [] ∙ ap bytes_of (same d) ∙ sym (get_or-map-any (bytes_in k) other.lanes d []))

pub gifts_same : (k : ℕ) (one other : WindowValue) (marks : List SlotMark) → SameSlots k one other → gifts_after k one marks ≡ gifts_after k other marks
gifts_same k one other marks same =
    let n = length marks in
    let in_one = λ (d : ℕ). gift_by (column_mark marks d) (slot_at one k d) in
    let in_other = λ (d : ℕ). gift_by (column_mark marks d) (slot_at other k d) in
    let long : length (gifts_after k one marks) ≡ n = length-map-range_with_len in_one 0 n in
    ext_get_or None (gifts_after k one marks) (gifts_after k other marks)
    (long ∙ sym (length-map-range_with_len in_other 0 n))
    (λ d below.
    let near : d < n = omega (arith, below, long) in
    get_or-map-range_with_len in_one 0 n d d None near (omega arith)
    ∙ ap (gift_by (column_mark marks d)) (same d)
    ∙ sym (get_or-map-range_with_len in_other 0 n d d None near (omega arith)))

-- ---- one stripe more is marked

module _ (plan : FixPlan) (stripe k : ℕ) (own : StripeRoom) where
  -- by what another window has at that stripe
  pub marks_same : (before mid after new : WindowValue) → SameSlots k mid before → SameSlots k after new → MarksStripe plan stripe k mid after own → MarksStripe plan stripe k before new own
  marks_same before mid after new same now marks = record {
    cells = record {
      as_many = marks.cells.as_many;
      each = λ d below.
          subst (λ (slot : SlotValue). IsMarked (is_searched plan stripe) plan.table.shape (seen_at plan stripe d) (slot_at before k d) (column_mark own.marks.items d) slot) (now d)
          (subst (λ (slot : SlotValue). IsMarked (is_searched plan stripe) plan.table.shape (seen_at plan stripe d) slot (column_mark own.marks.items d) (slot_at after k d)) (same d)
          (marks.cells.each d below));
      cells = λ d below.
          subst (λ (slot : SlotValue). cell_mark own.marks.items d ≡ mark_of_cell (is_damaged plan.table.shape.kind (seen_at plan stripe d) slot) (is_sought plan stripe d)) (same d) (marks.cells.cells d below);
    };
    found = λ d below. subst (λ (slot : SlotValue). IsFound plan stripe slot d (found_at own.found.items d)) (same d) (marks.found d below);
  }

module _ (plan : FixPlan) (numbers : List ℕ) (i : ℕ) (rooms : List StripeRoom) (own : StripeRoom) (before mid new : WindowValue)
    (many : i < length rooms) (changes : ChangesStripe i mid new) where
  pub marked_more : SameSlots i mid before
      → ((k : ℕ) (other : StripeRoom) → k < i → MarksStripe plan (number_at numbers k) k before mid (get_or rooms k other))
      → MarksStripe plan (number_at numbers i) i mid new own
      → (k : ℕ) (other : StripeRoom) → k < i + 1 → MarksStripe plan (number_at numbers k) k before new (get_or (set rooms i own) k other)
  marked_more same so_far one k other below = elim (cases_lt k i) [
    | inl near ↦
        let apart : k ≢ i = omega (arith, near) in
        subst (MarksStripe plan (number_at numbers k) k before new) (sym (get_or-set_other rooms i k own other apart))
        (marks_same plan (number_at numbers k) k (get_or rooms k other) before before mid new (λ d. refl) (λ d. sym (changes.others k d apart)) (so_far k other near))
    | inr far ↦
        let here : i ≡ k = omega (arith, far, below) in
        subst (λ (n : ℕ). MarksStripe plan (number_at numbers n) n before new (get_or (set rooms i own) n other)) here
        (subst (MarksStripe plan (number_at numbers i) i before new) (sym (get_or-set_same rooms i own other many))
        (marks_same plan (number_at numbers i) i own before mid new new same (λ d. refl) one))
  ]

pub asks_none : (plan : FixPlan) (before after : WindowValue) (rooms : List StripeRoom) (spare : SpareView) → AsksForMarked plan [] before after rooms spare spare
asks_none plan before after rooms spare = record {
  stripes = [];
  numbers_are = refl;
  slots = λ k below. absurd (omega (arith, below));
  gifts = λ k other below. absurd (omega (arith, below));
  asked = spare_none plan spare;
}

module _ (plan : FixPlan) (numbers : List ℕ) (i : ℕ) (rooms : List StripeRoom) (own : StripeRoom) (before mid new : WindowValue) (old asked given : SpareView)
    (within : i < length numbers) (many : i < length rooms) (changes : ChangesStripe i mid new) (lanes : length mid.lanes ≡ length before.lanes) where
  abbrev stripe : ℕ
  stripe = number_at numbers i

  abbrev facts : StripeFacts
  facts = facts_after stripe i mid own.marks.items [] false new

  pub asks_more : SameSlots i mid before → HasMarks plan stripe i mid own.marks.items new → AsksMarked plan stripe i mid own.marks.items asked given
      → AsksForMarked plan (take i numbers) before mid rooms old asked → AsksForMarked plan (take (i + 1) numbers) before new (set rooms i own) old given
  asks_more same has asks so_far = record {
    stripes = so_far.stripes ++ facts ∷ [];
    numbers_are = numbers_one numbers i so_far.stripes facts within so_far.numbers_are refl;
    slots = λ k below. elim (cases_lt k i) [
      | inl near ↦
          ap (λ (it : StripeFacts). it.slots) (facts_before so_far.stripes facts k (omega (arith, near, before_many)))
          ∙ so_far.slots k (omega (arith, near, long))
      | inr far ↦
          let here : k ≡ i = omega (arith, far, below, after_long) in
          ap (λ (it : StripeFacts). it.slots) (facts_last so_far.stripes facts k (here ∙ sym before_many))
          ∙ slots_same mid before i lanes same
          ∙ ap (slots_at before) (sym here)
    ];
    gifts = λ k other below. elim (cases_lt k i) [
      | inl near ↦
          let apart : k ≢ i = omega (arith, near) in
          ap (λ (it : StripeFacts). it.gifts) (facts_before so_far.stripes facts k (omega (arith, near, before_many)))
          ∙ so_far.gifts k other (omega (arith, near, long))
          ∙ gifts_same k mid new (get_or rooms k other).marks.items (λ d. sym (changes.others k d apart))
          ∙ ap (λ (it : StripeRoom). gifts_after k new it.marks.items) (sym (get_or-set_other rooms i k own other apart))
      | inr far ↦
          let here : k ≡ i = omega (arith, far, below, after_long) in
          ap (λ (it : StripeFacts). it.gifts) (facts_last so_far.stripes facts k (here ∙ sym before_many))
          ∙ ap (λ (it : StripeRoom). gifts_after i new it.marks.items) (sym (get_or-set_same rooms i own other many))
          ∙ ap (λ (n : ℕ). gifts_after n new (get_or (set rooms i own) n other).marks.items) (sym here)
    ];
    asked = spare_then plan so_far.stripes (facts ∷ []) old asked given so_far.asked
        (asks_as_marked plan stripe i mid new new own.marks.items [] false has (λ d right. refl) asked given asks);
  }
    where
      long : length (take i numbers) ≡ i
      long = length-take-le i numbers (omega (arith, within))

      after_long : length (take (i + 1) numbers) ≡ i + 1
      after_long = length-take-le (i + 1) numbers (omega (arith, within))

      before_many : length so_far.stripes ≡ i
      before_many = as_many_of numbers i so_far.stripes (omega (arith, within)) so_far.numbers_are

-- ---- one stripe more is put

-- what is judged of a stripe is judged by each window that has its slots
module _ (plan : FixPlan) (stripe k : ℕ) (one other : WindowValue) (own : StripeRoom) (same : SameSlots k other one) where
  pub can_same : IsAsLarge one other → CanJudge plan stripe k one own → CanJudge plan stripe k other own
  can_same large can = record {
    can = record {
      entries = can.can.entries;
      fits = record { lanes = large.lanes ∙ can.can.fits.lanes; block_size = large.block_size ∙ can.can.fits.block_size };
      within = can.can.within;
      number = omega (arith, can.can.number, large.count);
      cells = keeps_as_large plan.table stripe k one other large can.can.cells;
    };
    room = can.room;
    cells = can.cells;
    empty = λ d below missing. ap bytes_of (same d) ∙ can.empty d below missing;
    count = can.count;
  }

  judged_row : row_at other k ≡ row_at one k → row_judged plan stripe k one own ≡ row_judged plan stripe k other own
  judged_row rows =
      ap (λ (row : Row). if own.known then Some (filled plan.table.shape.block_size (found_in plan.table.shape (wanted_marked plan stripe own.marks.items) own.blocks.items)
      (wanted_marked plan stripe own.marks.items) row) else None) (sym rows)

  pub judges_same : length other.lanes ≡ length one.lanes → JudgesStripe plan stripe k one own → JudgesStripe plan stripe k other own
  judges_same lanes judges = record {
    known = known (is_searched plan stripe) judges.known;
    places = judges.places;
    few = judges.few;
    wrong = λ searched. subst (λ (row : Option Row). TellsWrong plan stripe own.levels row own.wrong) (judged_row rows) (judges.wrong searched);
  }
    where
      rows : row_at other k ≡ row_at one k
      rows = rows_same k other one lanes same

      known : (b : Bool) → IsJudged b plan stripe k one own → IsJudged b plan stripe k other own
      known false is = is
      known true is =
          subst (λ (row : Row). IsKnown plan.table.shape (wanted_marked plan stripe own.marks.items) row (levels_read true own.levels) (row_judged plan stripe k other own)) (sym rows)
          (subst (λ (row : Option Row). IsKnown plan.table.shape (wanted_marked plan stripe own.marks.items) (row_at one k) (levels_read true own.levels) row) (judged_row rows) is)

  -- what is put into such a window is put into the first one
  pub puts_same : (after new : WindowValue) → length other.lanes ≡ length one.lanes → length new.lanes ≡ length after.lanes → SameSlots k new after
      → PutsStripe plan stripe k other after own → PutsStripe plan stripe k one new own
  puts_same after new lanes long now puts = record {
    row = ap (λ (row : Row). if own.known then Some row else None) (rows_same k new after long now)
        ∙ puts.row ∙ sym (judged_row (rows_same k other one lanes same));
    others = λ d right. now d ∙ puts.others d right ∙ same d;
  }

module _ (plan : FixPlan) (numbers : List ℕ) (i : ℕ) (rooms : List StripeRoom) (before mid new : WindowValue)
    (large : IsAsLarge before mid) (changes : ChangesStripe i mid new) where
  pub put_more : SameSlots i mid before
      → ((k : ℕ) (other : StripeRoom) → k < i → PutsStripe plan (number_at numbers k) k before mid (get_or rooms k other))
      → ((other : StripeRoom) → PutsStripe plan (number_at numbers i) i mid new (get_or rooms i other))
      → (k : ℕ) (other : StripeRoom) → k < i + 1 → PutsStripe plan (number_at numbers k) k before new (get_or rooms k other)
  put_more same so_far one k other below = elim (cases_lt k i) [
    | inl near ↦
        let apart : k ≢ i = omega (arith, near) in
        puts_same plan (number_at numbers k) k before before (get_or rooms k other) (λ d. refl) mid new refl changes.lanes (λ d. changes.others k d apart) (so_far k other near)
    | inr far ↦
        let here : i ≡ k = omega (arith, far, below) in
        subst (λ (n : ℕ). PutsStripe plan (number_at numbers n) n before new (get_or rooms n other)) here
        (puts_same plan (number_at numbers i) i before mid (get_or rooms i other) same new new large.lanes refl (λ d. refl) (one other))
  ]

-- ---- the levels in the rooms stay

pub levels_kept : (i : ℕ) (rooms first : List StripeRoom) (own old : StripeRoom) → i < length rooms → own.levels ≡ (get_or rooms i old).levels
    → ((k : ℕ) (other : StripeRoom) → (get_or rooms k other).levels ≡ (get_or first k other).levels)
    → (k : ℕ) (other : StripeRoom) → (get_or (set rooms i own) k other).levels ≡ (get_or first k other).levels
levels_kept i rooms first own old many is same k other = elim (eqb_tells k i) [
  | inl here ↦
      ap (λ (n : ℕ). (get_or (set rooms i own) n other).levels) here.1
      ∙ ap (λ (it : StripeRoom). it.levels) (get_or-set_same rooms i own other many)
      ∙ is
      ∙ ap (λ (it : StripeRoom). it.levels) (get_or_default rooms i old other many)
      ∙ same i other
      ∙ sym (ap (λ (n : ℕ). (get_or first n other).levels) here.1)
  | inr apart ↦ ap (λ (it : StripeRoom). it.levels) (get_or-set_other rooms i k own other apart.1) ∙ same k other
]

-- ---- what is put into one stripe

pub changes_nothing : (i : ℕ) (window : WindowValue) → ChangesStripe i window window
changes_nothing i window = record { room = refl; block_size = refl; count = refl; lanes = refl; cells = refl; others = λ k d other. refl }

pub puts_nothing : (plan : FixPlan) (stripe i : ℕ) (window : WindowValue) (own : StripeRoom) → own.known ≡ false → PutsStripe plan stripe i window window own
puts_nothing plan stripe i window own unknown = record {
  row = ap (λ (b : Bool). if b then Some (row_at window i) else None) unknown
      ∙ sym (ap (λ (b : Bool). if b then Some (row_found plan stripe i window own.marks.items own.blocks.items) else None) unknown);
  others = λ d right. refl;
}

pub searched_where_known : (plan : FixPlan) (stripe i : ℕ) (window : WindowValue) (own : StripeRoom) → JudgesStripe plan stripe i window own → own.known ≡ true → is_searched plan stripe ≡ true
searched_where_known plan stripe i window own judged known = by_case (is_searched plan stripe) judged.known
  where
    by_case : (b : Bool) → IsJudged b plan stripe i window own → b ≡ true
    by_case true is = refl
    by_case false unknown = absurd (false≢true (sym unknown ∙ known))

pub puts_found : (plan : FixPlan) (stripe i : ℕ) (before after : WindowValue) (own : StripeRoom) (size n : ℕ) (wanteds : List Wanted) → own.known ≡ true
    → size ≡ plan.table.shape.block_size → wanteds ≡ wanted_marked plan stripe own.marks.items → n ≡ length wanteds
    → row_at after i ≡ filled size (take (n * size) own.blocks.items) wanteds (row_at before i) → KeepsOtherColumns i wanteds before after
    → PutsStripe plan stripe i before after own
puts_found plan stripe i before after own size n wanteds known size_is wanteds_are many row keeps = record {
  row = ap (λ (b : Bool). if b then Some (row_at after i) else None) known
      ∙ ap (λ (it : Row). let known_row : Option Row = Some it in known_row)
      (row ∙ ap (λ (m : ℕ). filled size (take (m * size) own.blocks.items) wanteds (row_at before i)) many
      ∙ ap₂ (λ (s : ℕ) (ws : List Wanted). filled s (take (length ws * s) own.blocks.items) ws (row_at before i)) size_is wanteds_are)
      ∙ sym (ap (λ (b : Bool). if b then Some (row_found plan stripe i before own.marks.items own.blocks.items) else None) known);
  others = λ d right.
      keeps d
      (subst (All (λ (one : Wanted). one.column ≢ d)) (sym wanteds_are)
      (wanted_apart plan.table.shape (seen_at plan stripe) (λ e. is_marked_missing (column_mark own.marks.items e)) (length plan.table.columns) d right));
}
