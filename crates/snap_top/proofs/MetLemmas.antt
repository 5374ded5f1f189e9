-- Where each block that came whole is the snapshot's, and each level that came whole is the sum of its row, no block is met by chance.
use Rattle.std.proofs.Common.{◌≡◌, ◌↔◌, inl, inr, ℕ, zero, suc, ◌<◌, ◌≤◌, ◌&&◌, cond, List, [], ◌∷◌, length, get_or, Bool, true, false, Option, None, Some, refl, sym, ap, ◌∙◌, subst, arith}
use Rattle.std.specs.Prelude.{is_some, not, if◌then◌else◌}
use Rattle.std.specs.List.{All, Contains, filter, range_with_len}
use Rattle.std.proofs.lemmas.Bool.{cases_lt, false≢true}
use Rattle.std.proofs.lemmas.Bool.Decides.{eqb_tells}
use Rattle.std.proofs.lemmas.List.{get_or-map, get_or_default, get_or_past, length-map}
use Rattle.std.proofs.lemmas.List.Elements.{All-filter, All-from_get_or, filter_passes}
use Rattle.std.proofs.lemmas.List.FromFn.{get_or-map-range_with_len, get_or-range_with_len, length-map-range_with_len, length-range_with_len}
use Rattle.std.proofs.lemmas.Grind.{same_number_lists}
use Rattle.block_hash.specs.declared.Digest16.{Digest16}
use Rattle.block_hash.specs.declared.Kind.{Kind}
use Rattle.stripe_reader.specs.Agreeing.{hashed, matches_digest}
use Rattle.cauchy.specs.Matrix.{byte_of}
use Rattle.cauchy.specs.Field.{product}
use Rattle.cauchy.specs.Recovery.{AreBytes, is_among, others_sum}
use Rattle.cauchy.specs.System.{AreDistinctBelow, byte_in}
use Rattle.disk_model.specs.Bytes.{resized}
use Rattle.disk_model.specs.declared.meta.Meta.{Meta}
use Rattle.file_table.specs.Cells.{CellView, cell_view, stripe_view}
use Rattle.file_table.specs.Table.{Column, no_column}
use Rattle.file_table.specs.Valid.{IsValid}
use Rattle.file_table.specs.declared.shape.Shape.{Shape}
use Rattle.gf256.specs.Field.{field_sum}
use Rattle.parity_writer.specs.LevelsValue.{no_level}
use Rattle.parity_writer.specs.Parity.{Row}
use Rattle.parity_writer.specs.Sound.{IsBlockAt, IsBlockOf, IsRowOf, real_length, HasCells, closed_cells, across}
use Rattle.parity_writer.specs.WindowRow.{bytes_of}
use Rattle.parity_writer.proofs.ElsewhereLemmas.{length-resized}
use Rattle.parity_writer.proofs.PaddedLemmas.{resized_byte}
use Rattle.stripe_reader.specs.Reading.{Beyond, CellReading, Gone, NoBlock, Nowhere, Part, Unread, Whole}
use Rattle.stripe_reader.specs.Slot.{kept}
use Rattle.stripe_reader.specs.SlotValue.{SlotValue}
use Rattle.stripe_reader.specs.WindowValue.{no_slot}
use Rattle.stripe_examiner.specs.declared.search.Wanted.{Wanted}
use Rattle.stripe_examiner.specs.Facts.{IsGift, StripeFacts, bytes_before, damaged_at, gift_of, gift_or, hash_or_none, is_damaged, is_missing, missing_in, row_before, slot_of, wanted_by, wanted_in}
use Rattle.stripe_examiner.specs.Known.{AreFacts, AreRemainders, IsTried, whole_level, whole_levels}
use Rattle.repair_scope.specs.Plan.{FixPlan, is_searched, seen_at}
use Rattle.stripe_examiner.specs.Restorable.{AgreesOutside, AreBlocksOf, CandidatesAreGenuine, Follows, HasRemainders, IsIntact, IsLost, IsOneOf, IsSnapshotOf, LostStripe, padded_block}
use Rattle.stripe_examiner.specs.Search.{IsRightBlock, columns_of, no_wanted, wanted_at as wanted_of}
use Rattle.stripe_examiner.proofs.CellFactsLemmas.{given_found}
use Rattle.stripe_examiner.proofs.KnowLemmas.{passed_distinct, wanted_columns}
use Rattle.stripe_examiner.proofs.RestorableSums.{empty_level}
use Rattle.stripe_examiner.proofs.SearchAccepted.{column_at as wanted_column_at, length-columns_of}
use Rattle.snap_fix.specs.Genuine.{IsBlockIn, IsGenuine, IsIntactLevel, lost_of}
use Rattle.snap_fix.proofs.RestorableLemmas.{among}
use Rattle.snap_fix.proofs.ExactLemmas.{RowOfCells, SameParity, searched_is_synced, genuine_from_wide, wide_are_bytes, wide_parity, wide_row}
use Rattle.parity_writer.proofs.CellsLemmas.{across_at, row_has_cells}

-- what snap_fix says of the blocks that follow from levels
abbrev pub BlocksFollow : Type 0
BlocksFollow = (lost : LostStripe) (snapshot : Row) (choice blocks : List ℕ) → IsLost lost → IsSnapshotOf lost snapshot → IsOneOf lost choice → Follows lost choice blocks
    → (AreBlocksOf lost snapshot blocks ↔ All (IsIntact lost snapshot) choice)

-- What came of a cell, and that a block that came whole is the snapshot's.
pub record IsMet (plan : FixPlan) (facts : StripeFacts) (snapshot : Row) (d : ℕ) : Type 0 where
  pub reading : CellReading
  pub bytes_are : bytes_of (slot_of facts d) ≡ bytes_of (kept plan.table.shape reading)
  pub digest_is : (slot_of facts d).digest ≡ (kept plan.table.shape reading).digest
  pub none : seen_at plan facts.stripe d ≡ None → reading ≡ NoBlock
  pub whole : (seen : Meta) (bytes : List ℕ) → reading ≡ Whole seen bytes → (get_or snapshot d [] ≡ bytes) × (length bytes ≤ plan.table.shape.block_size)

-- All blocks of a stripe that came whole are the snapshot's, and the spare gave none; so are the levels its sums.
pub record MeetsSnapshot (plan : FixPlan) (facts : StripeFacts) (snapshot : Row) : Type 0 where
  pub valid : IsValid plan.table
  pub are : AreFacts plan facts
  pub searched : is_searched plan facts.stripe ≡ true
  pub was : HasCells plan.table.shape (closed_cells plan.table facts.stripe) snapshot
  pub bytes : AreBytes snapshot
  pub no_gifts : (d : ℕ) → gift_of facts d ≡ None
  pub cells : (d : ℕ) → d < length plan.table.columns → IsMet plan facts snapshot d
  pub intact : (r : ℕ) → r < length facts.levels → whole_level facts.levels r ≡ true → IsIntactLevel plan facts snapshot r

-- the same by a row that has as many blocks as there are columns
record MeetsExactly (plan : FixPlan) (facts : StripeFacts) (snapshot : Row) : Type 0 where
  meets : MeetsSnapshot plan facts snapshot
  was : IsRowOf plan.table.shape (stripe_view plan.table facts.stripe) snapshot

-- ---- numbers that pass a test

not_passing : (p : ℕ → Bool) (xs : List ℕ) (k : ℕ) → k < length xs → is_among (filter p xs) (get_or xs k 0) ≡ false → p (get_or xs k 0) ≡ false
not_passing p [] k within absent = absurd (omega (arith, within))
not_passing p (x ∷ xs) zero within absent =
    (elim (p x) as (λ (b : Bool). is_among (if b then x ∷ filter p xs else filter p xs) x ≡ false → b ≡ false) [
      | true ↦ λ gone.
          elim (eqb_tells x x) [
            | inl same ↦ absurd (false≢true (sym gone ∙ ap (λ (b : Bool). cond b true (is_among (filter p xs) x)) same.0))
            | inr other ↦ absurd (other.1 refl)
          ]
      | false ↦ λ gone. refl
    ]) absent
not_passing p (x ∷ xs) (suc k) within absent = not_passing p xs k (omega (arith, within)) (later (p x) absent)
  where
    n : ℕ
    n = get_or xs k 0

    later : (b : Bool) → is_among (if b then x ∷ filter p xs else filter p xs) n ≡ false → is_among (filter p xs) n ≡ false
    later false gone = gone
    later true gone =
        elim (eqb_tells x n) [
          | inl same ↦ absurd (false≢true (sym gone ∙ ap (λ (b : Bool). cond b true (is_among (filter p xs) n)) same.0))
          | inr other ↦ ap (λ (b : Bool). cond b true (is_among (filter p xs) n)) (sym other.0) ∙ gone
        ]

passing : (p : ℕ → Bool) (n k : ℕ) → k < length (filter p (range_with_len 0 n)) → (get_or (filter p (range_with_len 0 n)) k 0 < n) × (p (get_or (filter p (range_with_len 0 n)) k 0) ≡ true)
passing p n k within =
    let numbers : All (λ e. e < n) (range_with_len 0 n) = λ j other inside.
    let below : j < n = omega (arith, inside, length-range_with_len 0 n) in
    omega (arith, below, get_or-range_with_len 0 n j other below) in
    (All-filter p (λ e. e < n) (range_with_len 0 n) numbers k 0 within, filter_passes p (range_with_len 0 n) k 0 within)

-- ---- a block of the snapshot is right for what is wanted

resized_twice : (block : List ℕ) (size real : ℕ) → real ≤ size → resized (resized block size) real ≡ resized block real
resized_twice block size real fits =
    same_number_lists (resized (resized block size) real) (resized block real) (length-resized (resized block size) real ∙ sym (length-resized block real))
    (λ i within.
    let inside : i < real = omega (arith, within, length-resized (resized block size) real) in
    resized_byte (resized block size) real i inside ∙ resized_byte block size i (omega (arith, inside, fits)) ∙ sym (resized_byte block real i inside))

right_wanted : (shape : Shape) (d : ℕ) (cell : CellView) (block : List ℕ) → IsBlockOf shape cell block
    → IsRightBlock shape (wanted_by shape d (Some cell)) (resized block shape.block_size)
right_wanted shape d cell block is = record {
  hash =
      ap hash_or_none is.hash
      ∙ ap (hashed shape) (sym (resized_twice block shape.block_size (real_length shape cell) (omega arith)));
  zeros = λ i behind. elim (cases_lt i shape.block_size) [
    | inl within ↦ resized_byte block shape.block_size i within ∙ is.zeros i behind
    | inr past ↦ get_or_past (resized block shape.block_size) i 0 (omega (arith, past, length-resized block shape.block_size))
  ];
}

missing_cell : (kind : Kind) (seen : Option CellView) (slot : SlotValue) (given : Bool) → (is_damaged kind seen slot && given) ≡ true → (cell : CellView) × (seen ≡ Some cell)
missing_cell kind None slot given absent = absurd cc
missing_cell kind (Some cell) slot given absent = (cell, refl)

-- ---- what came of a cell

-- no bytes, or a block that came whole
data Came (shape : Shape) (reading : CellReading) : Type 0 where
  Nothing : bytes_of (kept shape reading) ≡ [] → (kept shape reading).digest ≡ None → Came shape reading
  All_of : (seen : Meta) (bytes : List ℕ) → reading ≡ Whole seen bytes → Came shape reading

came_so : (shape : Shape) (reading : CellReading) → Came shape reading
came_so shape NoBlock = Nothing refl refl
came_so shape Nowhere = Nothing refl refl
came_so shape Beyond = Nothing refl refl
came_so shape (Unread seen) = Nothing refl refl
came_so shape (Gone seen) = Nothing refl refl
came_so shape (Part seen got) = Nothing refl refl
came_so shape (Whole seen bytes) = All_of seen bytes refl

not_false : (b : Bool) → not b ≡ false → b ≡ true
not_false true is = refl
not_false false is = let clash : true ≡ false = is in absurd cc

undamaged : (b : Bool) → (b && true) ≡ false → b ≡ false
undamaged true is = let clash : true ≡ false = is in absurd cc
undamaged false is = refl

module _ (plan : FixPlan) (facts : StripeFacts) (snapshot : Row) (exactly : MeetsExactly plan facts snapshot) where
  abbrev meets : MeetsSnapshot plan facts snapshot
  meets = exactly.meets

  abbrev shape : Shape
  shape = plan.table.shape

  abbrev size : ℕ
  size = plan.table.shape.block_size

  abbrev columns : ℕ
  columns = length plan.table.columns

  abbrev seen : ℕ → Option CellView
  seen d = seen_at plan facts.stripe d

  view_here : Column → Option CellView
  view_here it = cell_view it facts.stripe

  -- the snapshot's block of a column, by what is seen of its cell
  snapshot_block : (d : ℕ) → d < columns → IsBlockAt shape (seen d) (get_or snapshot d [])
  unfolding view_here
  snapshot_block d below =
      subst (λ (it : Option CellView). IsBlockAt shape it (get_or snapshot d []))
      (get_or-map view_here plan.table.columns d no_column None below)
      (exactly.was.blocks d (omega (arith, below, length-map plan.table.columns view_here)))

  snapshot_long : length snapshot ≡ columns
  unfolding view_here
  snapshot_long = exactly.was.as_many ∙ length-map plan.table.columns view_here

  -- what came of a cell is the snapshot's block, where it has no other length
  same_block : (d : ℕ) (met : IsMet plan facts snapshot d) (real : ℕ) → Came shape met.reading → (length (bytes_of (slot_of facts d)) ≡ real)
      → ((i : ℕ) → real ≤ i → get_or (get_or snapshot d []) i 0 ≡ 0) → IsBlockIn size snapshot d (bytes_of (slot_of facts d))
  same_block d met real (Nothing none no_digest) long zeros p less =
      let bytes_are : bytes_of (slot_of facts d) ≡ [] = met.bytes_are ∙ none in
      let empty : real ≡ 0 = sym long ∙ ap (λ (bytes : List ℕ). length bytes) bytes_are in
      ap (λ (bytes : List ℕ). get_or bytes p 0) bytes_are ∙ sym (zeros p (omega (arith, empty)))
  same_block d met real (All_of seen_meta bytes is) long zeros p less =
      let whole = met.whole seen_meta bytes is in
      let bytes_are : bytes_of (slot_of facts d) ≡ bytes = met.bytes_are ∙ ap (λ (reading : CellReading). bytes_of (kept shape reading)) is ∙ given_found size bytes no_slot whole.1 in
      ap (λ (bs : List ℕ). get_or bs p 0) (bytes_are ∙ sym whole.0)

  present : (d : ℕ) (cell : CellView) → d < columns → seen d ≡ Some cell → IsGift shape cell (bytes_of (slot_of facts d)) → IsBlockIn size snapshot d (bytes_of (slot_of facts d))
  present d cell below is gift =
      let met = meets.cells d below in
      let block : IsBlockOf shape cell (get_or snapshot d []) = subst (λ (it : Option CellView). IsBlockAt shape it (get_or snapshot d [])) is (snapshot_block d below) in
      same_block d met (real_length shape cell) (came_so shape met.reading) gift.long block.zeros

  -- a cell that is not damaged came whole
  right_came : (d : ℕ) (cell : CellView) (met : IsMet plan facts snapshot d) → Came shape met.reading → is_damaged shape.kind (Some cell) (slot_of facts d) ≡ false
      → IsBlockIn size snapshot d (bytes_of (slot_of facts d))
  right_came d cell met (Nothing none no_digest) fine =
      let clash : true ≡ false = ap (λ (digest : Option Digest16). not (is_some digest && matches_digest cell.hash digest)) (sym (met.digest_is ∙ no_digest)) ∙ fine in
      absurd cc
  right_came d cell met (All_of seen_meta bytes is) fine =
      let whole = met.whole seen_meta bytes is in
      let bytes_are : bytes_of (slot_of facts d) ≡ bytes = met.bytes_are ∙ ap (λ (reading : CellReading). bytes_of (kept shape reading)) is ∙ given_found size bytes no_slot whole.1 in
      λ p less. ap (λ (bs : List ℕ). get_or bs p 0) (bytes_are ∙ sym whole.0)

  came_is : (d : ℕ) → d < columns → damaged_at plan facts d ≡ false → IsBlockIn size snapshot d (bytes_of (slot_of facts d))
  came_is d below fine = by_seen (seen d) refl
    where
      met : IsMet plan facts snapshot d
      met = meets.cells d below

      by_seen : (it : Option CellView) → seen d ≡ it → IsBlockIn size snapshot d (bytes_of (slot_of facts d))
      by_seen None none = λ p inside.
          let zeros : IsBlockAt shape None (get_or snapshot d []) = subst (λ (it : Option CellView). IsBlockAt shape it (get_or snapshot d [])) none (snapshot_block d below) in
          ap (λ (bytes : List ℕ). get_or bytes p 0) (met.bytes_are ∙ ap (λ (reading : CellReading). bytes_of (kept shape reading)) (met.none none)) ∙ sym (zeros p)
      by_seen (Some cell) is = right_came d cell met (came_so shape met.reading) (ap (λ (it : Option CellView). is_damaged shape.kind it (slot_of facts d)) (sym is) ∙ fine)

  -- so is what stands in the row before the search, where nothing is missing
  before_is : (d : ℕ) → d < columns → is_missing plan facts d ≡ false → IsBlockIn size snapshot d (bytes_before plan facts d)
  before_is d below there =
      let none : gift_of facts d ≡ None = meets.no_gifts d in
      let fine : damaged_at plan facts d ≡ false
      = undamaged (damaged_at plan facts d) (ap (λ (gift : Option (List ℕ)). damaged_at plan facts d && not (is_some gift)) (sym none) ∙ there) in
      subst (λ (b : Bool). IsBlockIn size snapshot d (if b then [] else gift_or (gift_of facts d) (bytes_of (slot_of facts d)))) (sym there)
      (subst (λ (gift : Option (List ℕ)). IsBlockIn size snapshot d (gift_or gift (bytes_of (slot_of facts d)))) (sym none) (came_is d below fine))

  -- ---- the stripe as it is searched

  abbrev wanteds : List Wanted
  wanteds = wanted_in plan facts

  abbrev missing : List ℕ
  missing = missing_in plan facts

  abbrev before : Row
  before = row_before plan facts

  columns_are : columns_of wanteds ≡ missing
  columns_are = wanted_columns shape seen missing

  wanted_count : length wanteds ≡ length missing
  wanted_count = length-map missing (λ d. wanted_by shape d (seen d))

  before_long : length before ≡ columns
  before_long = length-map-range_with_len (bytes_before plan facts) 0 columns

  before_at : (d : ℕ) → d < columns → get_or before d [] ≡ bytes_before plan facts d
  before_at d below = get_or-map-range_with_len (bytes_before plan facts) 0 columns d d [] below (omega arith)

  distinct : (bound : ℕ) → columns ≤ bound → AreDistinctBelow bound (columns_of wanteds)
  distinct bound less = subst (AreDistinctBelow bound) (sym columns_are) (passed_distinct (is_missing plan facts) columns bound less)

  known_beside : AgreesOutside size (columns_of wanteds) snapshot before
  known_beside = record {
    as_many = snapshot_long ∙ sym before_long;
    bytes = λ d p less absent. elim (cases_lt d columns) [
      | inl below ↦ sym (ap (λ (bytes : List ℕ). get_or bytes p 0) (before_at d below)
          ∙ before_is d below (there d below (ap (λ (ms : List ℕ). is_among ms d) (sym columns_are) ∙ absent)) p less)
      | inr past ↦
          ap (λ (bytes : List ℕ). get_or bytes p 0) (get_or_past snapshot d [] (omega (arith, past, snapshot_long))
          ∙ sym (get_or_past before d [] (omega (arith, past, before_long))))
    ];
  }
    where
      there : (d : ℕ) → d < columns → is_among missing d ≡ false → is_missing plan facts d ≡ false
      there d below absent =
          let at : get_or (range_with_len 0 columns) d 0 ≡ d = get_or-range_with_len 0 columns d 0 below ∙ omega arith in
          subst (λ (n : ℕ). is_missing plan facts n ≡ false) at
          (not_passing (is_missing plan facts) (range_with_len 0 columns) d (omega (arith, below, length-range_with_len 0 columns))
          (ap (is_among missing) at ∙ absent))

  recorded : (remainders : List ℕ) (j : ℕ) → j < length wanteds → IsRightBlock shape (wanted_of wanteds j) (padded_block (lost_of plan facts remainders) snapshot j)
  recorded remainders j within =
      let place : j < length missing = omega (arith, within, wanted_count) in
      let d : ℕ = get_or missing j 0 in
      let one = passing (is_missing plan facts) columns j place in
      let cell = missing_cell shape.kind (seen d) (slot_of facts d) _ one.1 in
      let is : wanted_of wanteds j ≡ wanted_by shape d (Some cell.0) =
      get_or-map (λ k. wanted_by shape k (seen k)) missing j 0 no_wanted place ∙ ap (wanted_by shape d) cell.1 in
      let block : IsBlockOf shape cell.0 (get_or snapshot d []) =
      subst (λ (it : Option CellView). IsBlockAt shape it (get_or snapshot d [])) cell.1 (snapshot_block d one.0) in
      subst (λ (wanted : Wanted). IsRightBlock shape wanted (resized (get_or snapshot wanted.column []) size)) (sym is)
      (right_wanted shape d cell.0 (get_or snapshot d []) block)

  is_snapshot : (remainders : List ℕ) → IsSnapshotOf (lost_of plan facts remainders) snapshot
  is_snapshot remainders = record { are_bytes = meets.bytes; others = known_beside; recorded = recorded remainders }

  few_levels : length facts.levels ≤ 6
  few_levels =
      let tried : IsTried plan facts true = subst (IsTried plan facts) meets.searched meets.are.tried in
      omega (arith, tried.0, meets.valid.shape.levels.most)

  module _ (nothing : (a : ℕ) → product a 0 ≡ 0) where
    empty_before : (j p : ℕ) → j < length (columns_of wanteds) → byte_of before (get_or (columns_of wanteds) j 0) p ≡ 0
    empty_before j p within =
        let place : j < length missing = omega (arith, within, ap length columns_are) in
        let one = passing (is_missing plan facts) columns j place in
        ap (λ (ms : List ℕ). byte_of before (get_or ms j 0) p) columns_are
        ∙ ap (λ (bytes : List ℕ). get_or bytes p 0) (before_at (get_or missing j 0) one.0)
        ∙ ap (λ (b : Bool). get_or (if b then [] else gift_or (gift_of facts (get_or missing j 0)) (bytes_of (slot_of facts (get_or missing j 0)))) p 0) one.1

    abbrev RemainderAt : List ℕ → ℕ → Type 0
    RemainderAt remainders r =
        (p : ℕ) → p < size → byte_in size remainders p r ≡ field_sum (get_or (get_or facts.levels r no_level).block p 0) (others_sum r (columns_of wanteds) before p)

    remainders_are : (remainders : List ℕ) → AreRemainders size before facts.levels remainders → HasRemainders (lost_of plan facts remainders)
    remainders_are remainders are =
        All-from_get_or (RemainderAt remainders) (whole_levels facts.levels) 0
        (λ k within p less.
        let one = passing (whole_level facts.levels) (length facts.levels) k within in
        let r : ℕ = get_or (whole_levels facts.levels) k 0 in
        are.bytes r p one.0 one.1 less
        ∙ ap (field_sum (get_or (get_or facts.levels r no_level).block p 0))
        (empty_level r (columns_of wanteds) before p nothing (distinct (length before) (omega (arith, before_long))) (λ j inside. empty_before j p inside)))

    is_lost_stripe : (remainders : List ℕ) → AreRemainders size before facts.levels remainders → 0 < length wanteds → IsLost (lost_of plan facts remainders)
    is_lost_stripe remainders are some = record {
      some = some;
      each_column = distinct 251 (omega (arith, meets.valid.columns.few));
      within = λ j inside. (distinct (length before) (omega (arith, before_long))).below j inside;
      each_level = passed_distinct (whole_level facts.levels) (length facts.levels) 6 few_levels;
      remainder_bytes = are.long;
      has_remainders = remainders_are remainders are;
    }

    -- each level of a choice is the snapshot's
    level_intact : (remainders : List ℕ) (r : ℕ) → Contains (whole_levels facts.levels) r → IsIntact (lost_of plan facts remainders) snapshot r
    level_intact remainders r has =
        let at : get_or (whole_levels facts.levels) has.0 0 ≡ r = get_or_default (whole_levels facts.levels) has.0 0 r has.1 ∙ has.2 in
        let one = passing (whole_level facts.levels) (length facts.levels) has.0 has.1 in
        meets.intact r (subst (λ (n : ℕ). n < length facts.levels) at one.0) (subst (λ (n : ℕ). whole_level facts.levels n ≡ true) at one.1)

    recovered : BlocksFollow → (remainders : List ℕ) → AreRemainders size before facts.levels remainders → CandidatesAreGenuine (lost_of plan facts remainders) snapshot
    recovered blocks_follow remainders are choice blocks one follows j within right p less =
        let lost : LostStripe = lost_of plan facts remainders in
        let is : IsLost lost = is_lost_stripe remainders are (omega (arith, within)) in
        let those : All (Contains lost.levels) choice = among lost is choice one in
        let intact : All (IsIntact lost snapshot) choice = λ k other inside. level_intact remainders (get_or choice k other) (those k other inside) in
        (blocks_follow lost snapshot choice blocks is (is_snapshot remainders) one follows).1 intact j p (omega (arith, within, length-columns_of wanteds)) less
        ∙ ap (λ (c : ℕ). byte_of snapshot c p) (wanted_column_at wanteds j within)

    exactly_met : BlocksFollow → IsGenuine plan snapshot facts
    exactly_met blocks_follow = record {
      present = present;
      given = λ d cell bytes below is gift_is gift. let clash : None ≡ Some bytes = sym (meets.no_gifts d) ∙ gift_is in absurd cc;
      recovered = recovered blocks_follow;
    }

-- so it is of any row with the closed cells: across all columns it has the same bytes and levels
pub meets_no_chance : RowOfCells → SameParity → (plan : FixPlan) (facts : StripeFacts) (snapshot : Row) → MeetsSnapshot plan facts snapshot → ((a : ℕ) → product a 0 ≡ 0) → BlocksFollow → IsGenuine plan snapshot facts
meets_no_chance row_of same plan facts snapshot meets nothing follow =
    genuine_from_wide plan facts snapshot meets.was (exactly_met plan facts (across (length plan.table.columns) snapshot) (record { meets = wide_meets; was = wide_was }) nothing follow)
  where
    wide_was : IsRowOf plan.table.shape (stripe_view plan.table facts.stripe) (across (length plan.table.columns) snapshot)
    wide_was = wide_row plan facts snapshot meets.was row_of meets.valid (searched_is_synced plan facts meets.are meets.searched)

    wide_meets : MeetsSnapshot plan facts (across (length plan.table.columns) snapshot)
    wide_meets = record {
      valid = meets.valid;
      are = meets.are;
      searched = meets.searched;
      was = row_has_cells plan.table.shape (stripe_view plan.table facts.stripe) (across (length plan.table.columns) snapshot) wide_was;
      bytes = wide_are_bytes plan facts snapshot meets.was meets.bytes;
      no_gifts = meets.no_gifts;
      cells = λ d below.
          let met = meets.cells d below in
          record {
            reading = met.reading;
            bytes_are = met.bytes_are;
            digest_is = met.digest_is;
            none = met.none;
            whole = λ seen bytes is. let its = met.whole seen bytes is in (across_at (length plan.table.columns) snapshot d below ∙ its.0, its.1);
          };
      intact = λ r below whole p less. meets.intact r below whole p less ∙ sym (wide_parity plan facts snapshot meets.was same r p less);
    }
