-- How the spare was asked, block by block, column by column, and stripe by stripe.
use Rattle.std.proofs.Common.{◌≡◌, ◌⊎◌, inl, inr, ℕ, suc, ◌+◌, ◌<◌, ◌==◌, ◌&&◌, List, [], ◌∷◌, ◌++◌, length, cond, bytes_eq, Bool, true, false, IsTrue, Option, None, Some, Ok, refl, sym, ap, ap₂, ◌∙◌, subst, arith}
use Rattle.std.specs.Prelude.{not, is_some}
use Rattle.std.specs.List.{All, Contains, count_by, list_any, range_with_len, sum_by}
use Rattle.std.proofs.lemmas.Bool.{and_parts, both_ways, cases_lt, eq-eqb, eqb-true, or_cases}
use Rattle.std.proofs.lemmas.List.{get_or_past}
use Rattle.std.proofs.lemmas.List.Elements.{All-append, All-cons, All-nil}
use Rattle.std.proofs.lemmas.List.Folds.{list_any_at}
use Rattle.std.proofs.lemmas.List.FromFn.{length-map-range_with_len}
use Rattle.std.proofs.lemmas.List.Sums.{length-filter, sum_by-append, sum_by_push}
use Rattle.std.proofs.lemmas.Slice.Eq.{bytes_eq-Decides}
use Rattle.folder_listing.proofs.JoinedLemmas.{range_more}
use Rattle.block_hash.specs.Hash.{hash}
use Rattle.block_hash.specs.declared.Digest16.{Digest16}
use Rattle.disk_model.specs.Cause.{RoseBy}
use Rattle.file_table.specs.declared.shape.Shape.{Shape}
use Rattle.parity_writer.specs.LevelsValue.{LevelValue}
use Rattle.stripe_reader.specs.SlotValue.{SlotValue}
use Rattle.stripe_reader.specs.WindowValue.{WindowValue, slot_at}
use Rattle.stripe_examiner.specs.declared.marking.ColumnMark.{ColumnMark}
use Rattle.stripe_examiner.specs.declared.marking.SlotMark.{SlotMark}
use Rattle.stripe_examiner.specs.declared.marking.ColumnMark.TheVariants.{Right, Given, Missing}
use Rattle.stripe_examiner.specs.AskedCell.{AsksBlock, AsksCells, AsksMarked, asks_for, holds_wanted, is_marked_given}
use Rattle.stripe_examiner.specs.Asking.{AsksSpare, is_held, is_withheld, withheld_in}
use Rattle.stripe_examiner.specs.Facts.{StripeFacts, gift_of, wanted_by}
use Rattle.stripe_examiner.specs.Marks.{facts_after, gift_by, is_marked_missing, column_mark}
use Rattle.stripe_examiner.specs.MarkedWindow.{HasMarks}
use Rattle.repair_scope.specs.Plan.{FixPlan, is_searched, seen_at}
use Rattle.stripe_examiner.specs.Spare.{SpareView, Hashing, IsSpareCall, IsSpareFor, HasHash, holds_block}
use Rattle.stripe_examiner.proofs.CellFactsLemmas.{filter_below, gift_is, slot_is}

-- ---- what it holds

abbrev is_block : List ℕ → ℕ → List ℕ × ℕ → Bool
is_block hash_is long block = bytes_eq block.0 hash_is && block.1 == long

block_is : (hash_is : List ℕ) (long : ℕ) (block : List ℕ × ℕ) → is_block hash_is long block ≡ true → block ≡ (hash_is, long)
block_is hash_is long block is =
    let parts = and_parts (bytes_eq block.0 hash_is) (block.1 == long) is in
    ap₂ (λ (a : List ℕ) (n : ℕ). let pair : List ℕ × ℕ = (a, n) in pair) ((bytes_eq-Decides block.0 hash_is).0 parts.0) (eqb-true block.1 long parts.1)

held_where_listed : (spare : SpareView) (hash_is : List ℕ) (long : ℕ) → Contains spare.blocks (hash_is, long) → holds_block spare hash_is long ≡ true
held_where_listed spare hash_is long has =
    list_any_at (is_block hash_is long) spare.blocks has.0 (hash_is, long) has.1
    (ap (is_block hash_is long) has.2 ∙ ap₂ (λ (a b : Bool). a && b) ((bytes_eq-Decides hash_is hash_is).1 refl) (eq-eqb long long refl))

listed_where_held : (hash_is : List ℕ) (long : ℕ) (blocks : List (List ℕ × ℕ)) → list_any (is_block hash_is long) blocks ≡ true → Contains blocks (hash_is, long)
listed_where_held hash_is long [] held = absurd cc
listed_where_held hash_is long (block ∷ blocks) held = elim (or_cases (is_block hash_is long block) (list_any (is_block hash_is long) blocks) held) [
  | inl here ↦ (0, omega arith, block_is hash_is long block here)
  | inr there ↦ let rest = listed_where_held hash_is long blocks there in (suc rest.0, omega (arith, rest.1), rest.2)
]

-- ---- one block

-- a block has the hash of the table where it has that of the spare
right_hash : (shape : Shape) (asked : Digest16) (bytes : List ℕ) (hashing : Option Hashing) → (hashing ≡ None) ⊎ (hashing ≡ Some (record { kind = shape.kind; seed = shape.seed }))
    → HasHash hashing asked bytes → hash shape.kind shape.seed bytes ≡ asked.0
right_hash shape asked bytes hashing (inl none) has = absurd (subst (λ (it : Option Hashing). HasHash it asked bytes) none has)
right_hash shape asked bytes hashing (inr same) has = subst (λ (it : Option Hashing). HasHash it asked bytes) same has

module _ (shape : Shape) (asked : Digest16) (bytes : List ℕ) (long : ℕ) (old new : SpareView) (many : length bytes ≡ long) where
  -- it gave one, which was looked at
  pub asked_and_given : (right : Bool) → IsSpareFor shape old → (hash shape.kind shape.seed bytes ≡ asked.0 → right ≡ true)
      → IsSpareCall asked bytes (Ok true) old new → AsksBlock true (holds_block old asked.0 long) right old new
  asked_and_given right fit seen call = record {
    later = call.later;
    same = call.same;
    gave = λ tells given. held_where_listed old asked.0 long (subst (λ (n : ℕ). Contains old.blocks (asked.0, n)) many (call.gives tells).0);
    withheld = λ tells none.
        let is : right ≡ true = seen (right_hash shape asked bytes old.hashing fit (call.gives tells).1) in
        absurd (by_right right is none);
  }
    where
      by_right : (r : Bool) → r ≡ true → true && not r && holds_block old asked.0 long ≡ true → ⊥
      by_right true is none = both_ways false refl none
      by_right false is none = both_ways false refl is

  -- it does not hold one
  pub asked_and_none : IsSpareCall asked bytes (Ok false) old new → AsksBlock true (holds_block old asked.0 long) false old new
  asked_and_none call = record {
    later = call.later;
    same = call.same;
    gave = λ tells given. absurd (both_ways false refl given);
    withheld = λ tells held. absurd (call.gives tells (subst (λ (n : ℕ). Contains old.blocks (asked.0, n)) (sym many) (listed_where_held asked.0 long old.blocks held)));
  }

-- ---- what it holds stays

same_then : (old mid new : SpareView) → (let it : SpareView = record old { faults = mid.faults } in mid ≡ it) → (let it : SpareView = record mid { faults = new.faults } in new ≡ it)
    → let it : SpareView = record old { faults = new.faults } in new ≡ it
same_then old mid new one two = two ∙ ap (λ (spare : SpareView). let it : SpareView = record spare { faults = new.faults } in it) one

pub holds_still : (old mid : SpareView) (hash_is : List ℕ) (long : ℕ) → (let it : SpareView = record old { faults = mid.faults } in mid ≡ it) → holds_block mid hash_is long ≡ holds_block old hash_is long
holds_still old mid hash_is long same = ap (λ (spare : SpareView). holds_block spare hash_is long) same

tells_still : (old mid : SpareView) → (let it : SpareView = record old { faults = mid.faults } in mid ≡ it) → IsTrue old.tells → IsTrue mid.tells
tells_still old mid same tells = subst (λ (b : Bool). IsTrue b) (sym (ap (λ (spare : SpareView). spare.tells) same)) tells

pub is_for_still : (shape : Shape) (old mid : SpareView) → (let it : SpareView = record old { faults = mid.faults } in mid ≡ it) → IsSpareFor shape old → IsSpareFor shape mid
is_for_still shape old mid same fit = subst (IsSpareFor shape) (sym same) fit

-- ---- the cells of the first columns

count_below : (p q : ℕ → Bool) (n : ℕ) → ((d : ℕ) → d < n → p d ≡ q d) → count_by p (range_with_len 0 n) ≡ count_by q (range_with_len 0 n)
count_below p q n same =
    sym (length-filter p (range_with_len 0 n)) ∙ ap (λ (ns : List ℕ). length ns) (filter_below p q n same) ∙ length-filter q (range_with_len 0 n)

count_more : (p : ℕ → Bool) (n : ℕ) → count_by p (range_with_len 0 (n + 1)) ≡ count_by p (range_with_len 0 n) + cond (p n) 1 0
count_more p n = ap (λ (ns : List ℕ). count_by p ns) (range_more n) ∙ sum_by_push (λ d. cond (p d) 1 0) (range_with_len 0 n) n

pub block_as : (asked held given asked_is held_is given_is : Bool) (old new : SpareView) → asked ≡ asked_is → held ≡ held_is → given ≡ given_is → AsksBlock asked held given old new → AsksBlock asked_is held_is given_is old new
block_as asked held given asked_is held_is given_is old new one two three asks =
    subst (λ (a : Bool). AsksBlock a held_is given_is old new) one (subst (λ (h : Bool). AsksBlock asked h given_is old new) two (subst (λ (b : Bool). AsksBlock asked held b old new) three asks))

module _ (asked held given after : ℕ → Bool) (n : ℕ) (old mid new : SpareView) (same : (d : ℕ) → d < n → after d ≡ given d)
    (so_far : AsksCells n asked held given old mid) (one : AsksBlock (asked n) (held n) (after n) mid new) where
  abbrev is_kept : (ℕ → Bool) → ℕ → Bool
  is_kept gave d = asked d && not (gave d) && held d

  gave_more : IsTrue old.tells → (d : ℕ) → d < n + 1 → after d ≡ true → held d ≡ true
  gave_more tells d below is = elim (cases_lt d n) [
    | inl near ↦ so_far.gave tells d near (sym (same d near) ∙ is)
    | inr far ↦
        let here : d ≡ n = omega (arith, below, far) in
        ap held here ∙ one.gave (tells_still old mid so_far.same tells) (sym (ap after here) ∙ is)
  ]

  rose_more : (b : Bool) → is_kept after n ≡ b → IsTrue old.tells → RoseBy (count_by (is_kept given) (range_with_len 0 n) + cond b 1 0) old.faults new.faults
  rose_more true is tells = omega (arith, so_far.withheld tells, one.withheld (tells_still old mid so_far.same tells) is)
  rose_more false is tells = omega (arith, so_far.withheld tells, one.later)

  -- the cell of one column more was asked for
  pub cells_more : AsksCells (n + 1) asked held after old new
  cells_more = record {
    later = omega (arith, so_far.later, one.later);
    same = same_then old mid new so_far.same one.same;
    gave = gave_more;
    withheld = λ tells.
        let before : count_by (is_kept after) (range_with_len 0 n) ≡ count_by (is_kept given) (range_with_len 0 n) =
        count_below (is_kept after) (is_kept given) n (λ d below. ap (λ (b : Bool). asked d && not b && held d) (same d below)) in
        let more : count_by (is_kept after) (range_with_len 0 (n + 1)) ≡ count_by (is_kept given) (range_with_len 0 n) + cond (is_kept after n) 1 0 =
        count_more (is_kept after) n ∙ ap (λ (k : ℕ). k + cond (is_kept after n) 1 0) before in
        subst (λ (k : ℕ). RoseBy k old.faults new.faults) (sym more) (rose_more (is_kept after n) refl tells);
  }

-- ---- a stripe, by its marks

given_by : (mark : ColumnMark) (slot : SlotValue) → is_some (gift_by mark slot) ≡ is_marked_given mark
given_by Right slot = refl
given_by Given slot = refl
given_by Missing slot = refl

module _ (plan : FixPlan) (stripe i : ℕ) (before marked after : WindowValue) (marks : List SlotMark) (levels : List LevelValue) (known : Bool)
    (cells : HasMarks plan stripe i before marks marked)
    (stays : (d : ℕ) → is_marked_missing (column_mark marks d) ≡ false → slot_at after i d ≡ slot_at marked i d)
    (old new : SpareView) (asks : AsksMarked plan stripe i before marks old new) where
  abbrev facts : StripeFacts
  facts = facts_after stripe i before marks levels known after

  abbrev columns : ℕ
  columns = length plan.table.columns

  given_is : (d : ℕ) → d < columns → is_some (gift_of facts d) ≡ is_marked_given (column_mark marks d)
  given_is d below =
      ap (λ (gift : Option (List ℕ)). is_some gift) (gift_is plan stripe i before marked after marks levels known cells stays d below)
      ∙ given_by (column_mark marks d) (slot_at after i d)

  withheld_is : (d : ℕ) → d < columns → is_withheld old plan facts d
      ≡ (asks_for (is_searched plan stripe) plan.table.shape.kind (seen_at plan stripe d) (slot_at before i d) && not (is_marked_given (column_mark marks d)) && holds_wanted old (wanted_by plan.table.shape d (seen_at plan stripe d)))
  withheld_is d below =
      ap₂ (λ (slot : SlotValue) (b : Bool). asks_for (is_searched plan stripe) plan.table.shape.kind (seen_at plan stripe d) slot && not b && is_held old plan facts d)
      (slot_is plan stripe i before marked after marks levels known cells stays d) (given_is d below)

  gave_of : IsTrue old.tells → (d : ℕ) → is_some (gift_of facts d) ≡ true → is_held old plan facts d ≡ true
  gave_of tells d is = elim (cases_lt d columns) [
    | inl near ↦ asks.gave tells d near (sym (given_is d near) ∙ is)
    | inr far ↦
        let long : length facts.gifts ≡ length marks = length-map-range_with_len (λ (k : ℕ). gift_by (column_mark marks k) (slot_at after i k)) 0 (length marks) in
        let none : gift_of facts d ≡ None = get_or_past facts.gifts d None (omega (arith, far, long, cells.as_many)) in
        absurd (both_ways (is_some (gift_of facts d)) (ap (λ (gift : Option (List ℕ)). is_some gift) none) is)
  ]

  pub asks_as_marked : AsksSpare plan (facts ∷ []) old new
  asks_as_marked = record {
    later = asks.later;
    same = asks.same;
    gave = λ tells. All-cons (λ (it : StripeFacts). (d : ℕ) → is_some (gift_of it d) ≡ true → is_held old plan it d ≡ true) facts [] (gave_of tells)
        (All-nil (λ (it : StripeFacts). (d : ℕ) → is_some (gift_of it d) ≡ true → is_held old plan it d ≡ true));
    withheld = λ tells.
        let all : withheld_in old plan facts
        ≡ count_by (λ d. asks_for (is_searched plan stripe) plan.table.shape.kind (seen_at plan stripe d) (slot_at before i d) && not (is_marked_given (column_mark marks d)) && holds_wanted old (wanted_by plan.table.shape d (seen_at plan stripe d))) (range_with_len 0 columns) =
        count_below (is_withheld old plan facts) (λ d. asks_for (is_searched plan stripe) plan.table.shape.kind (seen_at plan stripe d) (slot_at before i d) && not (is_marked_given (column_mark marks d)) && holds_wanted old (wanted_by plan.table.shape d (seen_at plan stripe d))) columns withheld_is in
        omega (arith, all, asks.withheld tells);
  }

-- ---- stripes, one after another

pub spare_none : (plan : FixPlan) (spare : SpareView) → AsksSpare plan [] spare spare
spare_none plan spare = record {
  later = omega arith;
  same = refl;
  gave = λ tells. All-nil (λ (facts : StripeFacts). (d : ℕ) → is_some (gift_of facts d) ≡ true → is_held spare plan facts d ≡ true);
  withheld = λ tells. omega arith;
}

pub spare_then : (plan : FixPlan) (xs ys : List StripeFacts) (old mid new : SpareView) → AsksSpare plan xs old mid → AsksSpare plan ys mid new → AsksSpare plan (xs ++ ys) old new
spare_then plan xs ys old mid new one two = record {
  later = omega (arith, one.later, two.later);
  same = same_then old mid new one.same two.same;
  gave = λ tells.
      All-append (λ (facts : StripeFacts). (d : ℕ) → is_some (gift_of facts d) ≡ true → is_held old plan facts d ≡ true) xs ys (one.gave tells)
      (subst (λ (spare : SpareView). All (λ (facts : StripeFacts). (d : ℕ) → is_some (gift_of facts d) ≡ true → is_held spare plan facts d ≡ true) ys) one.same (two.gave (tells_still old mid one.same tells)));
  withheld = λ tells.
      let later : RoseBy (sum_by (withheld_in old plan) ys) mid.faults new.faults =
      subst (λ (spare : SpareView). RoseBy (sum_by (withheld_in spare plan) ys) mid.faults new.faults) one.same (two.withheld (tells_still old mid one.same tells)) in
      let both : sum_by (withheld_in old plan) (xs ++ ys) ≡ sum_by (withheld_in old plan) xs + sum_by (withheld_in old plan) ys = sum_by-append (withheld_in old plan) xs ys in
      omega (arith, both, one.withheld tells, later);
}
