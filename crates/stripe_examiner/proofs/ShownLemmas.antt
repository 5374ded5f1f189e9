-- The marks and the window of a stripe that was examined show its facts.
use Rattle.std.proofs.Common.{◌≡◌, ℕ, zero, suc, ◌+◌, ◌*◌, ◌<◌, ◌≤◌, ◌&&◌, ◌||◌, List, [], ◌∷◌, length, drop, get_or, Bool, true, false, Option, None, Some, refl, sym, ap, ap₂, ◌∙◌, subst, arith}
use Rattle.std.specs.Prelude.{is_some, not, if◌then◌else◌}
use Rattle.std.specs.List.{All, Contains, range_with_len, filter}
use Rattle.std.specs.Option.{option_map}
use Rattle.std.proofs.Math.ListN.{get_or-map as get_or-map-any}
use Rattle.std.proofs.lemmas.List.{get_or-map, length-map, length-take, length-drop}
use Rattle.std.proofs.lemmas.List.Elements.{All-contains, All-filter, Contains-append_right}
use Rattle.std.proofs.lemmas.List.FromFn.{get_or-range_with_len, length-map-range_with_len, length-range_with_len}
use Rattle.cauchy.specs.System.{AreDistinctBelow}
use Rattle.disk_model.specs.Bytes.{read_from}
use Rattle.file_table.specs.Cells.{CellView, cell_seen}
use Rattle.file_table.specs.Table.{column_at}
use Rattle.file_table.specs.declared.shape.Shape.{Shape}
use Rattle.parity_writer.specs.LevelsValue.{LevelValue}
use Rattle.parity_writer.specs.Parity.{Row}
use Rattle.parity_writer.specs.Sound.{real_length}
use Rattle.parity_writer.specs.WindowRow.{bytes_in, bytes_of, row_at}
use Rattle.stripe_reader.specs.SlotValue.{SlotValue}
use Rattle.stripe_reader.specs.WindowValue.{WindowValue, slot_at}
use Rattle.stripe_examiner.specs.declared.marking.CellMark.{CellMark}
use Rattle.stripe_examiner.specs.declared.marking.ColumnMark.{ColumnMark}
use Rattle.stripe_examiner.specs.declared.marking.SlotMark.{SlotMark}
use Rattle.stripe_examiner.specs.declared.marking.ColumnMark.TheVariants.{Right, Given, Missing}
use Rattle.stripe_examiner.specs.declared.search.Wanted.{Wanted}
use Rattle.stripe_examiner.specs.Facts.{StripeFacts, IsGift, IsGiftFor, gift_of, damaged_at, is_damaged, is_missing, is_sought, bytes_before, missing_in, row_before, wanted_by, wanted_in}
use Rattle.stripe_examiner.specs.Known.{AreFacts, IsKnown, IsTried, whole_level, whole_levels}
use Rattle.stripe_examiner.specs.Findings.{is_lost, is_lost_by}
use Rattle.stripe_examiner.specs.Marks.{cell_mark, column_mark, facts_after, gift_by, is_marked_missing, mark_in, mark_of_cell, row_if}
use Rattle.stripe_examiner.specs.Showing.{block_of_row, block_or_none, known_block, known_by, ShowsFacts, is_damaged_mark, is_given_mark, is_known_mark, is_sought_mark, is_unknown, is_unknown_mark}
use Rattle.stripe_examiner.specs.MarkedWindow.{HasMarks}
use Rattle.repair_scope.specs.Plan.{FixPlan, is_audit, is_searched, is_synced, seen_at, selects_cell}
use Rattle.stripe_examiner.specs.Search.{Finds, choices, columns_of, no_wanted, wanted_at as wanted_of}
use Rattle.stripe_examiner.proofs.CellFactsLemmas.{slot_is, gift_is}
use Rattle.stripe_examiner.proofs.KnowLemmas.{passed_distinct, wanted_columns, wanted_lengths}
use Rattle.stripe_examiner.proofs.RestorableFilling.{filled_at}
use Rattle.stripe_examiner.proofs.SearchBlocks.{length-given, place_within}
use Rattle.stripe_examiner.proofs.SearchChoices.{HasSome, choices_sublists, sublist_all}

-- ---- the real length of a block that was found

-- the blocks that were found stand end to end
blocks_long : (shape : Shape) (wanteds : List Wanted) (remainders levels blocks : List ℕ) → length remainders ≡ 6 * shape.block_size → All (λ r. r < 6) levels
    → Finds shape wanteds remainders levels blocks → length blocks ≡ length wanteds * shape.block_size
blocks_long shape wanteds remainders levels blocks long below found =
    let tried : List (List ℕ) = choices (length wanteds) levels in
    let last = Contains-append_right found.earlier (found.choice ∷ found.later) found.choice (0, omega arith, refl) in
    let one : Contains tried found.choice = subst (λ (all : List (List ℕ)). Contains all found.choice) (sym found.parts) last in
    let has : HasSome (length wanteds) levels found.choice = All-contains (HasSome (length wanteds) levels) tried found.choice (choices_sublists (length wanteds) levels) one in
    found.accepted.solves.same_length
    ∙ length-given shape.block_size remainders found.choice long (sublist_all (λ r. r < 6) has.1 below)
    ∙ ap (λ (n : ℕ). n * shape.block_size) has.0

-- a level that was read whole is one of six
whole_below : (levels : List LevelValue) → length levels ≤ 6 → All (λ r. r < 6) (whole_levels levels)
whole_below levels few =
    All-filter (whole_level levels) (λ r. r < 6) (range_with_len 0 (length levels))
    (λ k other within.
    let inside : k < length levels = omega (arith, within, length-range_with_len 0 (length levels)) in
    omega (arith, inside, few, get_or-range_with_len 0 (length levels) k other inside))

-- each block of a known row that was searched for has its real length
found_long : (shape : Shape) (wanteds : List Wanted) (row : Row) (levels : List LevelValue) (known : Row) → length levels ≤ 6
    → AreDistinctBelow (length row) (columns_of wanteds) → All (λ (wanted : Wanted). wanted.length ≤ shape.block_size) wanteds
    → IsKnown shape wanteds row levels (Some known) → (j : ℕ) → j < length wanteds
    → length (get_or known (wanted_of wanteds j).column []) ≡ (wanted_of wanteds j).length
found_long shape [] row levels known few distinct short is j within = absurd (omega (arith, within))
found_long shape (wanted ∷ others) row levels known few distinct short is j within =
    let wanteds : List Wanted = wanted ∷ others in
    let size : ℕ = shape.block_size in
    let real : ℕ = (wanted_of wanteds j).length in
    let blocks : List ℕ = is.ends.0 in
    let long : length blocks ≡ length wanteds * size = blocks_long shape wanteds is.remainders (whole_levels levels) blocks is.are.long (whole_below levels few) is.ends.1 in
    let fits : real ≤ size = short j no_wanted within in
    let here : j * size + size ≤ length wanteds * size = place_within size (length wanteds) j within in
    let at : 0 + j ≡ j = omega arith in
    ap (λ (it : Row). length (get_or it (wanted_of wanteds j).column [])) is.ends.2
    ∙ ap (λ (bytes : List ℕ). length bytes) (filled_at size blocks 0 wanteds row distinct j within)
    ∙ ap (λ (n : ℕ). length (read_from blocks (n * size) real)) at
    ∙ omega (arith, length-take real (drop (j * size) blocks), length-drop (j * size) blocks, long, fits, here)

-- ---- a place among those that pass a test

abbrev HasPlace : List ℕ → ℕ → Type 0
HasPlace xs n = (j : ℕ) × (j < length xs) × (get_or xs j 0 ≡ n)

place_later : (b : Bool) (x : ℕ) (xs : List ℕ) (n : ℕ) → HasPlace xs n → HasPlace (if b then x ∷ xs else xs) n
place_later true x xs n (j, within, is) = (suc j, omega (arith, within), is)
place_later false x xs n has = has

place_passing : (p : ℕ → Bool) (xs : List ℕ) (k : ℕ) → k < length xs → p (get_or xs k 0) ≡ true → HasPlace (filter p xs) (get_or xs k 0)
place_passing p [] k within passes = absurd (omega (arith, within))
place_passing p (x ∷ xs) zero within passes =
    subst (λ (b : Bool). HasPlace (if b then x ∷ filter p xs else filter p xs) x) (sym passes) (0, omega arith, refl)
place_passing p (x ∷ xs) (suc k) within passes =
    place_later (p x) x (filter p xs) (get_or xs k 0) (place_passing p xs k (omega (arith, within)) passes)

-- ---- what the mark of a cell shows

damaged_by : (damaged sought : Bool) (mark : CellMark) → mark ≡ mark_of_cell damaged sought → damaged ≡ is_damaged_mark mark
damaged_by false sought mark is = sym (ap is_damaged_mark is)
damaged_by true true mark is = sym (ap is_damaged_mark is)
damaged_by true false mark is = sym (ap is_damaged_mark is)

sought_by : (damaged sought : Bool) (mark : CellMark) → mark ≡ mark_of_cell damaged sought → (damaged && sought) ≡ is_sought_mark mark
sought_by false sought mark is = sym (ap is_sought_mark is)
sought_by true true mark is = sym (ap is_sought_mark is)
sought_by true false mark is = sym (ap is_sought_mark is)

given_by : (mark : ColumnMark) (slot : SlotValue) → is_some (gift_by mark slot) ≡ is_given_mark mark
given_by Right slot = refl
given_by Given slot = refl
given_by Missing slot = refl

-- a known block stands in its slot
row_block_by : (known : Bool) (window : WindowValue) (i d : ℕ) (slot : SlotValue) → get_or (row_at window i) d [] ≡ bytes_of slot
    → is_some (block_of_row (row_if known window i) d) ≡ true → bytes_of slot ≡ block_or_none (block_of_row (row_if known window i) d)
row_block_by true window i d slot in_row some = sym in_row
row_block_by false window i d slot in_row some = absurd cc

block_by : (sought synced : Bool) (mark : ColumnMark) (known : Bool) (window : WindowValue) (i d : ℕ) (slot : SlotValue)
    → get_or (row_at window i) d [] ≡ bytes_of slot → (let it : Option (List ℕ) = (if sought then known_by synced (gift_by mark slot) (row_if known window i) d else None) in is_some it ≡ true)
    → (let it : Option (List ℕ) = (if sought then known_by synced (gift_by mark slot) (row_if known window i) d else None) in bytes_of slot ≡ block_or_none it)
block_by false synced mark known window i d slot in_row some = absurd cc
block_by true true Right known window i d slot in_row some = row_block_by known window i d slot in_row some
block_by true true Given known window i d slot in_row some = refl
block_by true true Missing known window i d slot in_row some = row_block_by known window i d slot in_row some
block_by true false mark known window i d slot in_row some = row_block_by known window i d slot in_row some

-- ---- of the facts of a stripe

-- a block is known by what the spare gave and by the row alone: where a cell isn't sought, there is neither
pub known_block_is : (plan : FixPlan) (facts : StripeFacts) → AreFacts plan facts → (d : ℕ) → known_block plan facts d ≡ known_by true (gift_of facts d) facts.row d
known_block_is plan facts are d = by (is_synced plan facts.stripe) are.tried
  where
    by : (b : Bool) → IsTried plan facts (b && not (is_audit plan.scope.mode))
        → (let it : Option (List ℕ) = (if b then known_by b (gift_of facts d) facts.row d else None) in it ≡ known_by true (gift_of facts d) facts.row d)
    by true tried = refl
    by false tried = sym (ap₂ (λ (gift : Option (List ℕ)) (row : Option Row). known_by true gift row d) (tried.0 d) tried.2)

module _ (plan : FixPlan) (facts : StripeFacts) (are : AreFacts plan facts) (few : plan.table.shape.levels ≤ 6) where
  abbrev shape : Shape
  shape = plan.table.shape

  abbrev columns : ℕ
  columns = length plan.table.columns

  abbrev seen : ℕ → Option CellView
  seen d = seen_at plan facts.stripe d

  place_of_missing : (d : ℕ) → d < columns → is_missing plan facts d ≡ true → HasPlace (missing_in plan facts) d
  place_of_missing d below absent =
      let within : d < length (range_with_len 0 columns) = omega (arith, below, length-range_with_len 0 columns) in
      let zero_and : 0 + d ≡ d = omega arith in
      let here : get_or (range_with_len 0 columns) d 0 ≡ d = get_or-range_with_len 0 columns d 0 below ∙ zero_and in
      subst (HasPlace (missing_in plan facts)) here
      (place_passing (is_missing plan facts) (range_with_len 0 columns) d within (ap (is_missing plan facts) here ∙ absent))

  -- the block of a missing cell in the row that is known
  missing_long : (row : Row) (d : ℕ) (cell : CellView) → d < columns → facts.row ≡ Some row → seen d ≡ Some cell → is_missing plan facts d ≡ true
      → length (get_or row d []) ≡ real_length shape cell
  missing_long row d cell below row_is seen_is absent = by_tried (is_searched plan facts.stripe) are.tried
    where
      by_tried : (b : Bool) → IsTried plan facts b → length (get_or row d []) ≡ real_length shape cell
      by_tried false (gifts, none, no_row) = let clash : Some row ≡ None = sym row_is ∙ no_row in absurd cc
      by_tried true (long, known) =
          let place = place_of_missing d below absent in
          let j : ℕ = place.0 in
          let within : j < length (wanted_in plan facts) = omega (arith, place.1, length-map (missing_in plan facts) (λ k. wanted_by shape k (seen k))) in
          let row_long : length (row_before plan facts) ≡ columns = length-map-range_with_len (bytes_before plan facts) 0 columns in
          let distinct : AreDistinctBelow (length (row_before plan facts)) (columns_of (wanted_in plan facts)) =
          subst (AreDistinctBelow (length (row_before plan facts))) (sym (wanted_columns shape seen (missing_in plan facts)))
          (passed_distinct (is_missing plan facts) columns (length (row_before plan facts)) (omega (arith, row_long))) in
          let is : wanted_of (wanted_in plan facts) j ≡ wanted_by shape d (Some cell) =
          get_or-map (λ k. wanted_by shape k (seen k)) (missing_in plan facts) j 0 no_wanted place.1
          ∙ ap (λ (k : ℕ). wanted_by shape k (seen k)) place.2
          ∙ ap (wanted_by shape d) seen_is in
          ap (λ (wanted : Wanted). length (get_or row wanted.column [])) (sym is)
          ∙ found_long shape (wanted_in plan facts) (row_before plan facts) facts.levels row (omega (arith, long, few)) distinct
          (wanted_lengths shape seen (missing_in plan facts))
          (subst (IsKnown shape (wanted_in plan facts) (row_before plan facts) facts.levels) row_is known) j within
          ∙ ap (λ (wanted : Wanted). wanted.length) is

  pub known_long : (d : ℕ) (cell : CellView) → d < columns → seen d ≡ Some cell → damaged_at plan facts d ≡ true → is_some (known_block plan facts d) ≡ true
      → length (block_or_none (known_block plan facts d)) ≡ real_length shape cell
  known_long d cell below seen_is damaged some =
      ap (λ (block : Option (List ℕ)). length (block_or_none block)) (known_block_is plan facts are d)
      ∙ by_gift (gift_of facts d) refl (sym (ap (λ (block : Option (List ℕ)). is_some block) (known_block_is plan facts are d)) ∙ some)
    where
      by_row : (row : Option Row) → facts.row ≡ row → gift_of facts d ≡ None → is_some (known_by true None row d) ≡ true
          → length (block_or_none (known_by true None row d)) ≡ real_length shape cell
      by_row None row_is none there = absurd cc
      by_row (Some row) row_is none there =
          missing_long row d cell below row_is seen_is
          (ap₂ (λ (b : Bool) (gift : Option (List ℕ)). b && not (is_some gift)) damaged none)

      by_gift : (gift : Option (List ℕ)) → gift_of facts d ≡ gift → is_some (known_by true gift facts.row d) ≡ true
          → length (block_or_none (known_by true gift facts.row d)) ≡ real_length shape cell
      by_gift (Some bytes) gift_is there =
          let is : IsGift shape cell bytes = subst (λ (gift : Option (List ℕ)). IsGiftFor shape (Some cell) gift) gift_is
          (subst (λ (it : Option CellView). IsGiftFor shape it (gift_of facts d)) seen_is (are.given d below).is) in
          is.long
      by_gift None gift_is there = by_row facts.row refl gift_is there

-- ---- what the marks of all cells show

module _ (plan : FixPlan) (stripe i : ℕ) (before marked after : WindowValue) (marks : List SlotMark) (levels : List LevelValue) (known : Bool)
    (cells : HasMarks plan stripe i before marks marked)
    (stays : (d : ℕ) → is_marked_missing (column_mark marks d) ≡ false → slot_at after i d ≡ slot_at marked i d) where
  abbrev facts : StripeFacts
  facts = facts_after stripe i before marks levels known after

  pub shows_as_marked : AreFacts plan facts → plan.table.shape.levels ≤ 6 → ShowsFacts plan facts i marks known after
  shows_as_marked are few = record {
    row = refl;
    damaged = λ d below. damaged_by (damaged_at plan facts d) (is_sought plan stripe d) (cell_mark marks d) (cell_is d below);
    sought = λ d below. sought_by (damaged_at plan facts d) (is_sought plan stripe d) (cell_mark marks d) (cell_is d below);
    given = λ d below. ap (λ (gift : Option (List ℕ)). is_some gift) (in_gift d below) ∙ given_by (column_mark marks d) (slot_at after i d);
    block = λ d below damaged some.
        let gift = in_gift d below in
        let block_is = λ (given : Option (List ℕ)). let it : Option (List ℕ) = (if is_sought plan stripe d then known_by (is_synced plan stripe) given (row_if known after i) d else None) in it in
        block_by (is_sought plan stripe d) (is_synced plan stripe) (column_mark marks d) known after i d (slot_at after i d)
        (get_or-map-any (bytes_in i) after.lanes d [])
        (sym (ap (λ (given : Option (List ℕ)). is_some (block_is given)) gift) ∙ some)
        ∙ sym (ap (λ (given : Option (List ℕ)). block_or_none (block_is given)) gift);
    long = λ d cell below cell_is damaged some.
        known_long plan facts are few d (cell_seen (column_at plan.table.columns d) cell) below (ap (option_map (cell_seen (column_at plan.table.columns d))) cell_is) damaged some;
  }
    where
      in_gift : (d : ℕ) → d < length plan.table.columns → gift_of facts d ≡ gift_by (column_mark marks d) (slot_at after i d)
      in_gift d below = gift_is plan stripe i before marked after marks levels known cells stays d below

      cell_is : (d : ℕ) → d < length plan.table.columns → cell_mark marks d ≡ mark_of_cell (damaged_at plan facts d) (is_sought plan stripe d)
      cell_is d below =
          cells.cells d below
          ∙ sym (ap (λ (slot : SlotValue). mark_of_cell (is_damaged plan.table.shape.kind (seen_at plan stripe d) slot) (is_sought plan stripe d))
          (slot_is plan stripe i before marked after marks levels known cells stays d))

-- ---- what marks tell

row_some : (known : Bool) (window : WindowValue) (i d : ℕ) → is_some (block_of_row (row_if known window i) d) ≡ known
row_some true window i d = refl
row_some false window i d = refl

or_false : (b : Bool) → (b || false) ≡ b
or_false true = refl
or_false false = refl

or_true : (b : Bool) → (b || true) ≡ true
or_true true = refl
or_true false = refl

-- the block of a damaged cell is known just where its marks say so
known_as : (sought synced known : Bool) (gift : Option (List ℕ)) (window : WindowValue) (i d : ℕ)
    → (let it : Option (List ℕ) = (if sought then known_by synced gift (row_if known window i) d else None) in is_some it ≡ (sought && (known || (synced && is_some gift))))
known_as false synced known gift window i d = refl
known_as true true known (Some given) window i d = sym (or_true known)
known_as true true known None window i d = row_some known window i d ∙ sym (or_false known)
known_as true false known gift window i d = row_some known window i d ∙ sym (or_false known)

module _ (plan : FixPlan) (facts : StripeFacts) (i : ℕ) (marks : List SlotMark) (known : Bool) (window : WindowValue) (shows : ShowsFacts plan facts i marks known window) where
  pub known_shown : (d : ℕ) → d < length plan.table.columns → damaged_at plan facts d ≡ true
      → is_some (known_block plan facts d) ≡ is_known_mark (is_synced plan facts.stripe) (mark_in marks d) known
  known_shown d below damaged =
      let synced : Bool = is_synced plan facts.stripe in
      let sought_is : is_sought plan facts.stripe d ≡ is_sought_mark (cell_mark marks d) = ap (λ (b : Bool). b && is_sought plan facts.stripe d) (sym damaged) ∙ shows.sought d below in
      ap (λ (row : Option Row). let it : Option (List ℕ) = (if is_sought plan facts.stripe d then known_by synced (gift_of facts d) row d else None) in is_some it) shows.row
      ∙ known_as (is_sought plan facts.stripe d) synced known (gift_of facts d) window i d
      ∙ ap₂ (λ (sought given : Bool). sought && (known || (synced && given))) sought_is (shows.given d below)

  pub unknown_shown : (d : ℕ) → d < length plan.table.columns → is_unknown plan facts d ≡ is_unknown_mark (is_synced plan facts.stripe) (mark_in marks d) known
  unknown_shown d below = by (damaged_at plan facts d) refl
    where
      by : (b : Bool) → damaged_at plan facts d ≡ b → is_unknown plan facts d ≡ is_unknown_mark (is_synced plan facts.stripe) (mark_in marks d) known
      by false whole =
          ap (λ (b : Bool). b && not (is_some (known_block plan facts d))) whole
          ∙ ap (λ (b : Bool). b && not (is_known_mark (is_synced plan facts.stripe) (mark_in marks d) known)) (sym whole ∙ shows.damaged d below)
      by true damaged = ap₂ (λ (a b : Bool). a && not b) (shows.damaged d below) (known_shown d below damaged)

  pub lost_shown : (d : ℕ) → d < length plan.table.columns → is_lost plan facts d ≡ is_lost_by plan facts.stripe (mark_in marks d) known d
  lost_shown d below = ap (λ (b : Bool). selects_cell plan facts.stripe d && b) (unknown_shown d below)
