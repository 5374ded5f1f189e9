-- The rooms of the stripes of a window show their facts, once it was read, marked, judged, and what was found put into it.
use Rattle.std.proofs.Common.{◌≡◌, ℕ, zero, suc, ◌+◌, ◌<◌, ◌≤◌, List, [], ◌∷◌, length, get_or, Bool, true, false, Option, None, Some, refl, sym, ap, ap₂, ◌∙◌, subst, arith}
use Rattle.std.specs.Prelude.{slice_index_or}
use Rattle.std.specs.List.{All}
use Rattle.std.proofs.lemmas.List.{ext_get_or, get_or-map, length-map}
use Rattle.std.proofs.lemmas.List.Elements.{All-from_get_or}
use Rattle.std.proofs.lemmas.List.FromFn.{get_or-map-range_with_len, length-map-range_with_len}
use Rattle.disk_model.specs.Vault.{VaultView}
use Rattle.file_table.specs.Table.{TableValue}
use Rattle.parity_writer.specs.LevelsValue.{LevelValue, LevelsValue}
use Rattle.parity_writer.specs.Parity.{Row}
use Rattle.parity_writer.specs.WindowRow.{bytes_of, row_at}
use Rattle.stripe_reader.specs.SlotValue.{SlotValue}
use Rattle.stripe_reader.specs.WindowValue.{WindowValue, Fits, slot_at, no_slot}
use Rattle.stripe_examiner.specs.declared.marking.ColumnMark.{ColumnMark}
use Rattle.stripe_examiner.specs.declared.marking.SlotMark.{SlotMark}
use Rattle.stripe_examiner.specs.declared.marking.ColumnMark.TheVariants.{Right, Given, Missing}
use Rattle.stripe_examiner.specs.declared.room.Room.{Room}
use Rattle.stripe_examiner.specs.declared.room.StripeRoom.{StripeRoom}
use Rattle.stripe_examiner.specs.Asking.{AsksSpare}
use Rattle.stripe_examiner.specs.Facts.{StripeFacts, slot_of, row_before, wanted_in}
use Rattle.stripe_examiner.specs.Judged.{CanJudge, IsJudged, JudgesStripe, row_judged}
use Rattle.stripe_examiner.specs.Judging.{TellsWrong}
use Rattle.stripe_examiner.specs.Known.{AreFacts, IsKnown, IsTried}
use Rattle.stripe_examiner.specs.Looking.{LevelsAreRead, facts_at, no_facts, numbers_of}
use Rattle.stripe_examiner.specs.MarkedWindow.{AsksForMarked, HasMarks, IsAsLarge, MarksStripe, PutsStripe, ReadsLevelsOf, number_at}
use Rattle.stripe_examiner.specs.Marks.{KeepsCells, facts_after, gift_by, gifts_after, is_marked_missing, levels_read, column_mark, row_if, slots_at}
use Rattle.repair_scope.specs.Plan.{EntriesFit, FixPlan, is_searched}
use Rattle.stripe_examiner.specs.Room.{IsRoomFor, IsStripeRoomFor}
use Rattle.stripe_examiner.specs.Shown.{IsFound, ShowsStripe, found_at}
use Rattle.stripe_examiner.specs.Spare.{SpareView}
use Rattle.stripe_examiner.proofs.CellFactsLemmas.{given_as_marked, no_gifts, row_as_marked, wanted_as_marked}
use Rattle.stripe_examiner.proofs.JudgedLemmas.{cells_of_marks, empty_of_marks}
use Rattle.stripe_examiner.proofs.ReadSteps.{asks_same, levels_same}
use Rattle.stripe_examiner.proofs.ShownLemmas.{shows_as_marked}
use Rattle.stripe_examiner.proofs.StripeLemmas.{levels_as_many, slot_of_stripe}

-- the facts of the stripe of a number of a window
abbrev pub facts_of : FixPlan → WindowValue → WindowValue → ℕ → ℕ → StripeRoom → StripeFacts
facts_of plan read final stripe i own =
    facts_after stripe i read own.marks.items (levels_read (is_searched plan stripe) own.levels) own.known final

-- ---- one stripe

-- what the spare gave stays
gift_stays : (mark : ColumnMark) (marked final : SlotValue) → (is_marked_missing mark ≡ false → final ≡ marked) → gift_by mark marked ≡ gift_by mark final
gift_stays Right marked final stays = refl
gift_stays Missing marked final stays = refl
gift_stays Given marked final stays = sym (ap (λ (slot : SlotValue). let bytes : Option (List ℕ) = Some (bytes_of slot) in bytes) (stays refl))

pub gifts_stay : (i : ℕ) (marked final : WindowValue) (marks : List SlotMark)
    → ((d : ℕ) → is_marked_missing (column_mark marks d) ≡ false → slot_at final i d ≡ slot_at marked i d) → gifts_after i marked marks ≡ gifts_after i final marks
gifts_stay i marked final marks stays =
    let n = length marks in
    let in_one = λ (d : ℕ). gift_by (column_mark marks d) (slot_at marked i d) in
    let in_other = λ (d : ℕ). gift_by (column_mark marks d) (slot_at final i d) in
    let long : length (gifts_after i marked marks) ≡ n = length-map-range_with_len in_one 0 n in
    ext_get_or None (gifts_after i marked marks) (gifts_after i final marks)
    (long ∙ sym (length-map-range_with_len in_other 0 n))
    (λ d below.
    let near : d < n = omega (arith, below, long) in
    get_or-map-range_with_len in_one 0 n d d None near (omega arith)
    ∙ gift_stays (column_mark marks d) (slot_at marked i d) (slot_at final i d) (stays d)
    ∙ sym (get_or-map-range_with_len in_other 0 n d d None near (omega arith)))

module _ (plan : FixPlan) (stripe i : ℕ) (read marked final : WindowValue) (noted own : StripeRoom) (can : CanJudge plan stripe i marked own)
    (most : plan.table.shape.levels ≤ 6) (lanes : length read.lanes ≡ length plan.table.columns) (found : own.found ≡ noted.found) (same_marks : own.marks ≡ noted.marks)
    (marks : MarksStripe plan stripe i read marked noted) (judged : JudgesStripe plan stripe i marked own) (puts : PutsStripe plan stripe i marked final own) where
  abbrev facts : StripeFacts
  facts = facts_of plan read final stripe i own

  abbrev levels : List LevelValue
  levels = levels_read (is_searched plan stripe) own.levels

  has : HasMarks plan stripe i read own.marks.items marked
  has = subst (λ all. HasMarks plan stripe i read all.items marked) (sym same_marks) marks.cells

  tried : (b : Bool) → is_searched plan stripe ≡ b → IsJudged b plan stripe i marked own → IsTried plan facts b
  tried false not_searched unknown = (
    no_gifts plan stripe i read marked final own.marks.items levels own.known has puts.others not_searched,
    ap (λ (b : Bool). levels_read b own.levels) not_searched,
    ap (λ (b : Bool). row_if b final i) unknown,
  )
  tried true searched known =
      let are_read : levels ≡ levels_read true own.levels = ap (λ (b : Bool). levels_read b own.levels) searched in
      let wanted = wanted_as_marked plan stripe i read marked final own.marks.items levels own.known has puts.others in
      let row = row_as_marked plan stripe i read marked final own.marks.items levels own.known has puts.others can.can.fits.lanes in (
        ap length are_read ∙ levels_as_many own.levels (judged.places searched) ∙ can.count searched,
        subst (λ (row_is : Option Row). IsKnown plan.table.shape (wanted_in plan facts) (row_before plan facts) levels row_is) (sym puts.row)
            (subst (λ (all : List LevelValue). IsKnown plan.table.shape (wanted_in plan facts) (row_before plan facts) all (row_judged plan stripe i marked own)) (sym are_read)
            (subst (λ (before : Row). IsKnown plan.table.shape (wanted_in plan facts) before (levels_read true own.levels) (row_judged plan stripe i marked own)) (sym row)
            (subst (λ wanteds. IsKnown plan.table.shape wanteds (row_at marked i) (levels_read true own.levels) (row_judged plan stripe i marked own)) (sym wanted) known))),
      )

  facts_are : AreFacts plan facts
  facts_are = record {
    within = can.can.within;
    slots = length-map read.lanes (λ (lane : List SlotValue). slice_index_or lane i no_slot) ∙ lanes;
    gifts = length-map-range_with_len (λ (d : ℕ). gift_by (column_mark own.marks.items d) (slot_at final i d)) 0 (length own.marks.items) ∙ has.as_many;
    given = given_as_marked plan stripe i read marked final own.marks.items levels own.known has puts.others;
    tried = tried (is_searched plan stripe) refl judged.known;
  }

  found_is : (d : ℕ) → d < length plan.table.columns → IsFound plan stripe (slot_of facts d) d (found_at own.found.items d)
  found_is d below =
      subst (λ (slot : SlotValue). IsFound plan stripe slot d (found_at own.found.items d)) (sym (slot_of_stripe read i d))
      (subst (λ all. IsFound plan stripe (slot_at read i d) d (found_at all.items d)) (sym found) (marks.found d below))

  pub stripe_shown : ShowsStripe plan facts i final own
  stripe_shown = record {
    are = facts_are;
    levels = refl;
    found = found_is;
    shows = shows_as_marked plan stripe i read marked final own.marks.items levels own.known has puts.others facts_are most;
    wrong = λ searched. subst (λ (row : Option Row). TellsWrong plan stripe own.levels row own.wrong) (sym puts.row) (judged.wrong searched);
    can = record {
      entries = can.can.entries;
      within = can.can.within;
      room = can.room;
      count = can.count;
      fits = λ d below. (found_is d below).fits;
    };
  }

-- ---- all stripes

abbrev pub facts_from : FixPlan → WindowValue → WindowValue → ℕ → List ℕ → List StripeRoom → List StripeFacts
facts_from plan read final k [] rooms = []
facts_from plan read final k (n ∷ numbers) [] = []
facts_from plan read final k (n ∷ numbers) (own ∷ rooms) = facts_of plan read final n k own ∷ facts_from plan read final (k + 1) numbers rooms

pub some_room : (rooms : List StripeRoom) (k : ℕ) → k < length rooms → StripeRoom
some_room [] k below = absurd (omega (arith, below))
some_room (own ∷ rooms) zero below = own
some_room (own ∷ rooms) (suc k) below = some_room rooms k (omega (arith, below))

module _ (plan : FixPlan) (read final : WindowValue) where
  pub numbers_from : (k : ℕ) (numbers : List ℕ) (rooms : List StripeRoom) → length rooms ≡ length numbers → numbers_of (facts_from plan read final k numbers rooms) ≡ numbers
  numbers_from k [] rooms many = refl
  numbers_from k (n ∷ numbers) [] many = absurd (omega (arith, many))
  numbers_from k (n ∷ numbers) (own ∷ rooms) many = ap (λ (ns : List ℕ). n ∷ ns) (numbers_from (k + 1) numbers rooms (omega (arith, many)))

  pub at_from : (k : ℕ) (numbers : List ℕ) (rooms : List StripeRoom) → length rooms ≡ length numbers → (j : ℕ) (other : StripeRoom) → j < length numbers
      → facts_at (facts_from plan read final k numbers rooms) j ≡ facts_of plan read final (number_at numbers j) (k + j) (get_or rooms j other)
  at_from k [] rooms many j other below = absurd (omega (arith, below))
  at_from k (n ∷ numbers) [] many j other below = absurd (omega (arith, many))
  at_from k (n ∷ numbers) (own ∷ rooms) many zero other below =
      let here : k ≡ k + 0 = omega arith in
      ap (λ (m : ℕ). facts_of plan read final n m own) here
  at_from k (n ∷ numbers) (own ∷ rooms) many (suc j) other below =
      let here : k + 1 + j ≡ k + suc j = omega arith in
      at_from (k + 1) numbers rooms (omega (arith, many)) j other (omega (arith, below))
      ∙ ap (λ (m : ℕ). facts_of plan read final (number_at numbers j) m (get_or rooms j other)) here

  pub long_from : (numbers : List ℕ) (rooms : List StripeRoom) → length rooms ≡ length numbers → length (facts_from plan read final 0 numbers rooms) ≡ length numbers
  long_from numbers rooms many =
      sym (length-map (facts_from plan read final 0 numbers rooms) (λ (it : StripeFacts). it.stripe)) ∙ ap (λ (ns : List ℕ). length ns) (numbers_from 0 numbers rooms many)

  pub fact_from : (numbers : List ℕ) (rooms : List StripeRoom) → length rooms ≡ length numbers → (k : ℕ) (other : StripeRoom) → k < length numbers
      → facts_at (facts_from plan read final 0 numbers rooms) k ≡ facts_of plan read final (number_at numbers k) k (get_or rooms k other)
  fact_from numbers rooms many k other below =
      let here : 0 + k ≡ k = omega arith in
      at_from 0 numbers rooms many k other below ∙ ap (λ (m : ℕ). facts_of plan read final (number_at numbers k) m (get_or rooms k other)) here

-- the slots of the stripes are those that were read
pub slots_shown : (plan : FixPlan) (numbers : List ℕ) (read final : WindowValue) (rooms : List StripeRoom) → length rooms ≡ length numbers
    → (k : ℕ) → k < length (facts_from plan read final 0 numbers rooms) → (facts_at (facts_from plan read final 0 numbers rooms) k).slots ≡ slots_at read k
slots_shown plan numbers read final rooms many k below =
    let within : k < length numbers = omega (arith, below, long_from plan read final numbers rooms many) in
    let other : StripeRoom = some_room rooms k (omega (arith, within, many)) in
    ap (λ (it : StripeFacts). it.slots) (fact_from plan read final numbers rooms many k other within)

number_of : (xs : List StripeFacts) (numbers : List ℕ) → numbers_of xs ≡ numbers → (k : ℕ) → k < length xs → (facts_at xs k).stripe ≡ number_at numbers k
number_of xs numbers are k below =
    sym (get_or-map (λ (it : StripeFacts). it.stripe) xs k no_facts 0 below) ∙ ap (λ (ns : List ℕ). get_or ns k 0) are

long_of : (xs : List StripeFacts) (numbers : List ℕ) → numbers_of xs ≡ numbers → length xs ≡ length numbers
long_of xs numbers are = sym (length-map xs (λ (it : StripeFacts). it.stripe)) ∙ ap (λ (ns : List ℕ). length ns) are

asked_is : (stripe other : ℕ) (slots others : List SlotValue) (gifts given : List (Option (List ℕ))) → stripe ≡ other → slots ≡ others → gifts ≡ given
    → (let one : StripeFacts = record { stripe = stripe; slots = slots; gifts = gifts; levels = []; row = None } in
    let two : StripeFacts = record { stripe = other; slots = others; gifts = given; levels = []; row = None } in one ≡ two)
asked_is stripe other slots others gifts given one two three =
    ap (λ (n : ℕ). let it : StripeFacts = record { stripe = n; slots = slots; gifts = gifts; levels = []; row = None } in it) one
    ∙ ap₂ (λ (ss : List SlotValue) (gs : List (Option (List ℕ))). let it : StripeFacts = record { stripe = other; slots = ss; gifts = gs; levels = []; row = None } in it) two three

module _ (plan : FixPlan) (numbers : List ℕ) (read marked final : WindowValue) (noted rooms : List StripeRoom) (many : length rooms ≡ length numbers) where
  abbrev stripes : List StripeFacts
  stripes = facts_from plan read final 0 numbers rooms

  -- their levels are those that were read
  pub levels_shown : (first : List StripeRoom) (old new : VaultView) → ReadsLevelsOf plan numbers first old new
      → ((k : ℕ) (other : StripeRoom) → k < length numbers → (get_or rooms k other).levels ≡ (get_or first k other).levels) → LevelsAreRead plan stripes old new
  levels_shown first old new reads same =
      let long = long_of reads.stripes numbers reads.numbers_are in
      levels_same plan reads.stripes stripes old new (long ∙ sym (long_from plan read final numbers rooms many))
      (λ k below.
      let within : k < length numbers = omega (arith, below, long) in
      let other : StripeRoom = some_room rooms k (omega (arith, within, many)) in
      let is = fact_from plan read final numbers rooms many k other within in (
        number_of reads.stripes numbers reads.numbers_are k below ∙ sym (ap (λ (it : StripeFacts). it.stripe) is),
        reads.are k other within
            ∙ ap (levels_read (is_searched plan (number_at numbers k))) (sym (same k other within))
            ∙ sym (ap (λ (it : StripeFacts). it.levels) is),
      ))
      reads.read

  -- and the spare was asked for what is damaged of them
  pub asked_shown : (old new : SpareView) → AsksForMarked plan numbers read marked noted old new
      → ((k : ℕ) (other : StripeRoom) → k < length numbers → (get_or rooms k other).marks ≡ (get_or noted k other).marks)
      → ((k : ℕ) (other : StripeRoom) → k < length numbers → PutsStripe plan (number_at numbers k) k marked final (get_or rooms k other))
      → AsksSpare plan stripes old new
  asked_shown old new asks same puts =
      let long = long_of asks.stripes numbers asks.numbers_are in
      asks_same plan asks.stripes stripes old new (long ∙ sym (long_from plan read final numbers rooms many))
      (λ k below.
      let within : k < length numbers = omega (arith, below, long) in
      let other : StripeRoom = some_room rooms k (omega (arith, within, many)) in
      let is = fact_from plan read final numbers rooms many k other within in
      let one = facts_at asks.stripes k in
      let two = facts_at stripes k in
      asked_is one.stripe two.stripe one.slots two.slots one.gifts two.gifts
      (number_of asks.stripes numbers asks.numbers_are k below ∙ sym (ap (λ (it : StripeFacts). it.stripe) is))
      (asks.slots k within ∙ sym (ap (λ (it : StripeFacts). it.slots) is))
      (asks.gifts k other within
      ∙ ap (λ it. gifts_after k marked it.items) (sym (same k other within))
      ∙ gifts_stay k marked final (get_or rooms k other).marks.items (puts k other within).others
      ∙ sym (ap (λ (it : StripeFacts). it.gifts) is)))
      asks.asked

-- what the rooms show are facts
pub are_shown : (plan : FixPlan) (stripes : List StripeFacts) (window : WindowValue) (rooms : List StripeRoom) → length rooms ≡ length stripes
    → ((k : ℕ) (other : StripeRoom) → k < length stripes → ShowsStripe plan (facts_at stripes k) k window (get_or rooms k other)) → All (AreFacts plan) stripes
are_shown plan stripes window rooms many each =
    All-from_get_or (AreFacts plan) stripes no_facts
    (λ k below. (each k (some_room rooms k (omega (arith, below, many))) below).are)

-- ---- what has to hold before each step

pub fits_as_large : (table : TableValue) (before after : WindowValue) → IsAsLarge before after → Fits table before → Fits table after
fits_as_large table before after large fits = record { lanes = large.lanes ∙ fits.lanes; block_size = large.block_size ∙ fits.block_size }

pub can_judge : (plan : FixPlan) (stripe i : ℕ) (read marked : WindowValue) (first own : StripeRoom) → EntriesFit plan.table plan.entries → Fits plan.table marked
    → stripe < length plan.table.infos → i < marked.count → KeepsCells plan.table stripe i marked → IsStripeRoomFor plan.table own → MarksStripe plan stripe i read marked own → own.levels ≡ first.levels
    → (is_searched plan stripe ≡ true → first.levels.count ≡ plan.table.shape.levels) → CanJudge plan stripe i marked own
can_judge plan stripe i read marked first own entries fits within number keeps room marks same count = record {
  can = record { entries = entries; fits = fits; within = within; number = number; cells = keeps };
  room = room;
  cells = cells_of_marks plan stripe i read marked own.marks.items marks.cells;
  empty = empty_of_marks plan stripe i read marked own.marks.items marks.cells;
  count = λ searched. ap (λ (levels : LevelsValue). levels.count) same ∙ count searched;
}

-- ---- the room of a run, once its window was examined

pub room_after : (table : TableValue) (before after : Room) → IsRoomFor table before → length after.stripes.items ≡ length before.stripes.items
    → All (IsStripeRoomFor table) after.stripes.items → Fits table after.window → after.window.room ≡ before.window.room
    → length after.block.items ≡ length before.block.items → IsRoomFor table after
room_after table before after is many all fits large block = record {
  some = omega (arith, large, is.some);
  just = large ∙ is.just;
  window = fits;
  block = block ∙ is.block;
  as_many = many ∙ is.as_many ∙ sym large;
  each = all;
}
