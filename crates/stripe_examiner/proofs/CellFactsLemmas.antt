-- What the marks of the cells of a stripe say of its facts.
use Rattle.std.proofs.Common.{◌≡◌, ℕ, zero, suc, ◌+◌, ◌-◌, ◌<◌, ◌≤◌, ◌&&◌, List, [], ◌∷◌, ◌++◌, length, map, take, replicate, get_or, Bool, true, false, Option, None, Some, refl, sym, ap, ap₂, ◌∙◌, subst, arith}
use Rattle.std.specs.Prelude.{is_some, not, if◌then◌else◌}
use Rattle.std.specs.List.{range_with_len, filter, flat_map}
use Rattle.std.proofs.lemmas.List.{ext_get_or, get_or-map, length-map, take_all, take-append-le}
use Rattle.std.proofs.lemmas.List.FromFn.{get_or-map-range_with_len, get_or-range_with_len, length-map-range_with_len, length-range_with_len}
use Rattle.file_table.specs.Cells.{CellView}
use Rattle.file_table.specs.declared.shape.Shape.{Shape}
use Rattle.parity_writer.specs.LevelsValue.{LevelValue}
use Rattle.parity_writer.specs.WindowRow.{bytes_of, bytes_in, row_at}
use Rattle.stripe_reader.specs.Slot.{slot_given}
use Rattle.stripe_reader.specs.SlotValue.{SlotValue}
use Rattle.stripe_reader.specs.WindowValue.{WindowValue, slot_at}
use Rattle.stripe_examiner.specs.declared.marking.ColumnMark.{ColumnMark}
use Rattle.stripe_examiner.specs.declared.marking.SlotMark.{SlotMark}
use Rattle.stripe_examiner.specs.declared.marking.ColumnMark.TheVariants.{Right, Given, Missing}
use Rattle.stripe_examiner.specs.Facts.{StripeFacts, slot_of, gift_of, is_damaged, has_hash, is_missing, gift_or, bytes_before, row_before, IsGift, IsGiftFor, IsGiven, wanted_in, wanted_at}
use Rattle.stripe_examiner.specs.Marks.{column_mark, is_marked_missing, IsMarked, MarksCells, wanted_marked, gift_by, facts_after}
use Rattle.stripe_examiner.specs.MarkedWindow.{HasMarks}
use Rattle.repair_scope.specs.Plan.{FixPlan, seen_at, is_searched}
use Rattle.stripe_examiner.proofs.StripeLemmas.{slot_of_stripe}

-- ---- one cell, by its mark

-- a block that is given is found in its slot
pub given_found : (block_size : ℕ) (given : List ℕ) (slot : SlotValue) → length given ≤ block_size → bytes_of (slot_given block_size given slot) ≡ given
given_found block_size given slot fits =
    ap (λ (bytes : List ℕ). take (length given) (bytes ++ replicate (block_size - length given) 0)) (take_all block_size given fits)
    ∙ take-append-le (length given) given (replicate (block_size - length given) 0) (omega arith)
    ∙ take_all (length given) given (omega arith)

module _ (searched : Bool) (shape : Shape) (seen : Option CellView) (before marked after : SlotValue) where
  -- whether it is missing
  abbrev missing_by : ColumnMark → Bool
  missing_by mark = is_damaged shape.kind seen before && not (is_some (gift_by mark after))

  missing_is : (mark : ColumnMark) → IsMarked searched shape seen before mark marked → missing_by mark ≡ is_marked_missing mark
  missing_is Right is = ap (λ (b : Bool). b && true) is.0
  missing_is Missing is = ap (λ (b : Bool). b && true) is.0
  missing_is Given is = ap (λ (b : Bool). b && false) is.0

  -- the bytes of its block
  bytes_are : (mark : ColumnMark) → IsMarked searched shape seen before mark marked → (is_marked_missing mark ≡ false → after ≡ marked)
      → (if missing_by mark then [] else gift_or (gift_by mark after) (bytes_of before)) ≡ bytes_of marked
  bytes_are Right is stays =
      ap (λ (b : Bool). if b then [] else bytes_of before) (missing_is Right is) ∙ sym (ap bytes_of is.1)
  bytes_are Missing is stays =
      ap (λ (b : Bool). if b then [] else bytes_of before) (missing_is Missing is) ∙ sym (ap bytes_of is.1)
  bytes_are Given is stays =
      ap (λ (b : Bool). if b then [] else bytes_of after) (missing_is Given is) ∙ ap bytes_of (stays refl)

  -- what the spare gave
  gift_is_for : (mark : ColumnMark) → IsMarked searched shape seen before mark marked → (is_marked_missing mark ≡ false → after ≡ marked)
      → IsGiftFor shape seen (gift_by mark after)
  gift_is_for Right is stays = tt
  gift_is_for Missing is stays = tt
  gift_is_for Given (damaged, tried, cell, seen_is, given, gift, marked_is) stays =
      let fits : length given ≤ shape.block_size = omega (arith, gift.long) in
      let here : bytes_of after ≡ given = ap bytes_of (stays refl ∙ marked_is) ∙ given_found shape.block_size given before fits in
      subst (λ (it : Option CellView). IsGiftFor shape it (Some (bytes_of after))) (sym seen_is)
      (subst (λ (bytes : List ℕ). IsGift shape cell bytes) (sym here) gift)

  gift_asked : (mark : ColumnMark) → IsMarked searched shape seen before mark marked → is_some (gift_by mark after) ≡ true
      → (searched && is_damaged shape.kind seen before && has_hash seen) ≡ true
  gift_asked Right is some = absurd cc
  gift_asked Missing is some = absurd cc
  gift_asked Given (damaged, tried, cell, seen_is, given, gift, marked_is) some =
      ap₂ (λ (b c : Bool). b && c && has_hash seen) tried damaged
      ∙ ap (λ (it : Option CellView). has_hash it) seen_is
      ∙ ap (λ hash. is_some hash) gift.hash_is

  -- where nothing is searched for, nothing is given
  none_given : (mark : ColumnMark) → searched ≡ false → IsMarked searched shape seen before mark marked → gift_by mark after ≡ None
  none_given Right not_searched is = refl
  none_given Missing not_searched is = refl
  none_given Given not_searched is = let both : true ≡ false = sym is.1 ∙ not_searched in absurd cc

-- ---- lists by number

-- tests that agree at each number below a bound keep the same numbers
filter_here : (p q : ℕ → Bool) (ns : List ℕ) → ((k : ℕ) → k < length ns → p (get_or ns k 0) ≡ q (get_or ns k 0)) → filter p ns ≡ filter q ns
filter_here p q [] same = refl
filter_here p q (n ∷ ns) same =
    ap₂ (λ (b : Bool) (rest : List ℕ). if b then n ∷ rest else rest) (same 0 (omega arith))
    (filter_here p q ns (λ k below. same (suc k) (omega arith)))

flat_map_here : {A : Type 0} (f g : ℕ → List A) (ns : List ℕ) → ((k : ℕ) → k < length ns → f (get_or ns k 0) ≡ g (get_or ns k 0)) → flat_map f ns ≡ flat_map g ns
flat_map_here f g [] same = refl
flat_map_here {A} f g (n ∷ ns) same =
    ap₂ (λ (one rest : List A). one ++ rest) (same 0 (omega arith))
    (flat_map_here f g ns (λ k below. same (suc k) (omega arith)))

-- what holds of each number below a bound, at a place of their list
at_place : {X : Type 0} (f g : ℕ → X) (n : ℕ) → ((d : ℕ) → d < n → f d ≡ g d)
    → (k : ℕ) → k < length (range_with_len 0 n) → f (get_or (range_with_len 0 n) k 0) ≡ g (get_or (range_with_len 0 n) k 0)
at_place f g n same k below =
    let within : k < n = omega (arith, below, length-range_with_len 0 n) in
    let zero_and : 0 + k ≡ k = omega arith in
    let here : get_or (range_with_len 0 n) k 0 ≡ k = get_or-range_with_len 0 n k 0 within ∙ zero_and in
    ap f here ∙ same k within ∙ sym (ap g here)

pub filter_below : (p q : ℕ → Bool) (n : ℕ) → ((d : ℕ) → d < n → p d ≡ q d) → filter p (range_with_len 0 n) ≡ filter q (range_with_len 0 n)
filter_below p q n same = filter_here p q (range_with_len 0 n) (at_place p q n same)

pub flat_map_below : {A : Type 0} (f g : ℕ → List A) (n : ℕ) → ((d : ℕ) → d < n → f d ≡ g d) → flat_map f (range_with_len 0 n) ≡ flat_map g (range_with_len 0 n)
flat_map_below f g n same = flat_map_here f g (range_with_len 0 n) (at_place f g n same)

-- nothing is at any place, if nothing is at those of the list
all_none : {X : Type 0} (xs : List (Option X)) → ((k : ℕ) → k < length xs → get_or xs k None ≡ None) → (k : ℕ) → get_or xs k None ≡ None
all_none [] none k = refl
all_none (x ∷ xs) none zero = none 0 (omega arith)
all_none (x ∷ xs) none (suc k) = all_none xs (λ j below. none (suc j) (omega arith)) k

-- ---- all cells of a stripe

pub has_marks : (plan : FixPlan) (stripe i : ℕ) (before marked : WindowValue) (marks : List SlotMark) → MarksCells plan stripe i before marks marked → HasMarks plan stripe i before marks marked
has_marks plan stripe i before marked marks marks_are = record { as_many = marks_are.as_many; each = marks_are.each; cells = marks_are.cells }

module _ (plan : FixPlan) (stripe i : ℕ) (before marked after : WindowValue) (marks : List SlotMark) (levels : List LevelValue) (known : Bool)
    (cells : HasMarks plan stripe i before marks marked)
    (stays : (d : ℕ) → is_marked_missing (column_mark marks d) ≡ false → slot_at after i d ≡ slot_at marked i d) where
  abbrev facts : StripeFacts
  facts = facts_after stripe i before marks levels known after

  abbrev shape : Shape
  shape = plan.table.shape

  abbrev columns : ℕ
  columns = length plan.table.columns

  pub slot_is : (d : ℕ) → slot_of facts d ≡ slot_at before i d
  slot_is d = slot_of_stripe before i d

  pub gift_is : (d : ℕ) → d < columns → gift_of facts d ≡ gift_by (column_mark marks d) (slot_at after i d)
  gift_is d below =
      get_or-map-range_with_len (λ (k : ℕ). gift_by (column_mark marks k) (slot_at after i k)) 0 (length marks) d d None
      (omega (arith, below, cells.as_many)) (omega arith)

  pub missing_as_marked : (d : ℕ) → d < columns → is_missing plan facts d ≡ is_marked_missing (column_mark marks d)
  missing_as_marked d below =
      ap₂ (λ (slot : SlotValue) (gift : Option (List ℕ)). is_damaged plan.table.shape.kind (seen_at plan stripe d) slot && not (is_some gift)) (slot_is d) (gift_is d below)
      ∙ missing_is (is_searched plan stripe) shape (seen_at plan stripe d) (slot_at before i d) (slot_at marked i d) (slot_at after i d) (column_mark marks d) (cells.each d below)

  bytes_as_marked : (d : ℕ) → d < columns → bytes_before plan facts d ≡ bytes_of (slot_at marked i d)
  bytes_as_marked d below =
      ap₂ (λ (slot : SlotValue) (gift : Option (List ℕ)). if is_damaged plan.table.shape.kind (seen_at plan stripe d) slot && not (is_some gift) then [] else gift_or gift (bytes_of slot)) (slot_is d) (gift_is d below)
      ∙ bytes_are (is_searched plan stripe) shape (seen_at plan stripe d) (slot_at before i d) (slot_at marked i d) (slot_at after i d) (column_mark marks d) (cells.each d below) (stays d)

  pub given_as_marked : (d : ℕ) → d < columns → IsGiven plan facts d
  given_as_marked d below = record {
    is = subst (IsGiftFor shape (seen_at plan stripe d)) (sym (gift_is d below))
        (gift_is_for (is_searched plan stripe) shape (seen_at plan stripe d) (slot_at before i d) (slot_at marked i d) (slot_at after i d) (column_mark marks d) (cells.each d below) (stays d));
    asked = λ some.
        ap (λ (slot : SlotValue). is_searched plan stripe && is_damaged plan.table.shape.kind (seen_at plan stripe d) slot && has_hash (seen_at plan stripe d)) (slot_is d)
        ∙ gift_asked (is_searched plan stripe) shape (seen_at plan stripe d) (slot_at before i d) (slot_at marked i d) (slot_at after i d) (column_mark marks d) (cells.each d below)
        (sym (ap (λ (gift : Option (List ℕ)). is_some gift) (gift_is d below)) ∙ some);
  }

  -- what is searched for, and the row before the search
  pub wanted_as_marked : wanted_in plan facts ≡ wanted_marked plan stripe marks
  wanted_as_marked = ap (map (wanted_at plan facts)) (filter_below (is_missing plan facts) (λ d. is_marked_missing (column_mark marks d)) columns missing_as_marked)

  pub row_as_marked : length marked.lanes ≡ columns → row_before plan facts ≡ row_at marked i
  row_as_marked lanes =
      let long : length (row_before plan facts) ≡ columns = length-map-range_with_len (bytes_before plan facts) 0 columns in
      ext_get_or [] (row_before plan facts) (row_at marked i) (omega (arith, long, lanes, length-map marked.lanes (bytes_in i)))
      (λ d below. at_column d (omega (arith, below, long)))
    where
      at_column : (d : ℕ) → d < columns → get_or (row_before plan facts) d [] ≡ get_or (row_at marked i) d []
      at_column d below =
          get_or-map-range_with_len (bytes_before plan facts) 0 columns d d [] below (omega arith)
          ∙ bytes_as_marked d below
          ∙ sym (get_or-map (bytes_in i) marked.lanes d [] [] (omega (arith, below, lanes)))

  -- where nothing is searched for, nothing is given
  pub no_gifts : is_searched plan stripe ≡ false → (d : ℕ) → get_or facts.gifts d None ≡ None
  no_gifts not_searched = all_none facts.gifts none_at
    where
      none_at : (k : ℕ) → k < length facts.gifts → get_or facts.gifts k None ≡ None
      none_at k below =
          let long : length facts.gifts ≡ length marks = length-map-range_with_len (λ (d : ℕ). gift_by (column_mark marks d) (slot_at after i d)) 0 (length marks) in
          let column : k < columns = omega (arith, below, long, cells.as_many) in
          gift_is k column
          ∙ none_given (is_searched plan stripe) shape (seen_at plan stripe k) (slot_at before i k) (slot_at marked i k) (slot_at after i k) (column_mark marks k) not_searched (cells.each k column)
