-- Where no hash is met by chance, the row that is known of a stripe is its snapshot's, and it is known by counting.
use Rattle.std.proofs.Common.{◌≡◌, ◌↔◌, ℕ, zero, suc, ◌<◌, ◌≤◌, ◌&&◌, cond, List, [], ◌∷◌, length, get_or, Bool, true, false, Option, None, Some, refl, sym, ap, ◌∙◌, subst, inl, inr, arith}
use Rattle.std.specs.Prelude.{is_some, if◌then◌else◌}
use Rattle.std.specs.List.{All, filter, range_with_len}
use Rattle.std.proofs.lemmas.Bool.{cases_lt, false≢true}
use Rattle.std.proofs.lemmas.Bool.Decides.{eqb_tells}
use Rattle.std.proofs.lemmas.List.{get_or-map, get_or_past, length-map}
use Rattle.std.proofs.lemmas.List.Elements.{All-from_get_or, All-filter, filter_passes}
use Rattle.std.proofs.lemmas.List.FromFn.{get_or-map-range_with_len, get_or-range_with_len, length-map-range_with_len, length-range_with_len}
use Rattle.std.proofs.lemmas.Grind.{same_number_lists}
use Rattle.block_hash.specs.declared.Kind.{Kind}
use Rattle.stripe_reader.specs.Agreeing.{hashed}
use Rattle.gf256.specs.Field.{field_sum}
use Rattle.cauchy.specs.Field.{product}
use Rattle.cauchy.specs.Matrix.{byte_of}
use Rattle.cauchy.specs.Recovery.{AreBytes, is_among, others_sum}
use Rattle.cauchy.specs.System.{AreDistinctBelow, byte_in}
use Rattle.disk_model.specs.Bytes.{resized}
use Rattle.disk_model.specs.Folder.{FolderView}
use Rattle.file_table.specs.Cells.{CellView}
use Rattle.file_table.specs.declared.shape.Shape.{Shape}
use Rattle.parity_writer.specs.LevelsValue.{no_level}
use Rattle.parity_writer.specs.Parity.{Row}
use Rattle.parity_writer.specs.Sound.{IsBlockAt, IsBlockOf, real_length}
use Rattle.parity_writer.specs.WindowRow.{bytes_of}
use Rattle.parity_writer.proofs.ElsewhereLemmas.{length-resized}
use Rattle.parity_writer.proofs.PaddedLemmas.{resized_byte}
use Rattle.stripe_reader.specs.SlotValue.{SlotValue}
use Rattle.stripe_reader.specs.Starts.{StartsValue}
use Rattle.stripe_examiner.specs.declared.search.Wanted.{Wanted}
use Rattle.stripe_examiner.specs.Facts.{StripeFacts, bytes_before, gift_of, gift_or, hash_or_none, is_damaged, is_missing, missing_in, row_before, slot_of, wanted_by, wanted_in}
use Rattle.snap_fix.specs.Genuine.{IsRestorableStripe, IsSameRow, TellsIntactLevels, lost_of}
use Rattle.snap_fix.proofs.ExactLemmas.{HasExactFacts}
use Rattle.stripe_examiner.specs.Known.{AreRemainders, IsKnown, IsSearchOf, IsTried, whole_level, whole_levels}
use Rattle.repair_scope.specs.Plan.{FixPlan, seen_at}
use Rattle.stripe_examiner.specs.Restorable.{AgreesOutside, AreBlocksOf, HasRemainders, IsLost, IsSnapshotOf, LostStripe, filled, padded_block, SomeAccepted}
use Rattle.stripe_examiner.specs.Search.{IsRightBlock, columns_of, no_wanted, wanted_at as wanted_of}
use Rattle.snap_fix.proofs.GenuineCells.{before_is, snapshot_block, snapshot_long}
use Rattle.stripe_examiner.proofs.KnowLemmas.{passed_distinct, wanted_columns}
use Rattle.stripe_examiner.proofs.RestorableFilling.{filled_agrees, filled_holds}
use Rattle.snap_fix.proofs.RestorableLemmas.{accepted_from_count, count_from_accepted, found_choice, none_accepted}
use Rattle.stripe_examiner.proofs.RestorableSums.{empty_level}
use Rattle.stripe_examiner.proofs.SearchAccepted.{column_at, length-columns_of}

-- ---- the numbers that are among others

abbrev HasPlace : List ℕ → ℕ → Type 0
HasPlace xs n = (j : ℕ) × (j < length xs) × (get_or xs j 0 ≡ n)

place_among : (xs : List ℕ) (n : ℕ) → is_among xs n ≡ true → HasPlace xs n
place_among [] n there = absurd cc
place_among (x ∷ xs) n there =
    elim (eqb_tells x n) [
      | inl same ↦ (0, omega arith, same.1)
      | inr other ↦
          let rest = place_among xs n (ap (λ (b : Bool). cond b true (is_among xs n)) (sym other.0) ∙ there) in
          (suc rest.0, omega (arith, rest.1), rest.2)
    ]

-- one that passes a test is among those that do
not_passing : (p : ℕ → Bool) (xs : List ℕ) (k : ℕ) → k < length xs → is_among (filter p xs) (get_or xs k 0) ≡ false → p (get_or xs k 0) ≡ false
not_passing p [] k within absent = absurd (omega (arith, within))
not_passing p (x ∷ xs) zero within absent =
    (elim (p x) as (λ (b : Bool). is_among (if b then x ∷ filter p xs else filter p xs) x ≡ false → b ≡ false) [
      | true ↦ λ gone.
          elim (eqb_tells x x) [
            | inl same ↦ absurd (false≢true (sym gone ∙ ap (λ (b : Bool). cond b true (is_among (filter p xs) x)) same.0))
            | inr other ↦ absurd (other.1 refl)
          ]
      | false ↦ λ gone. refl
    ]) absent
not_passing p (x ∷ xs) (suc k) within absent = not_passing p xs k (omega (arith, within)) (later (p x) absent)
  where
    n : ℕ
    n = get_or xs k 0

    later : (b : Bool) → is_among (if b then x ∷ filter p xs else filter p xs) n ≡ false → is_among (filter p xs) n ≡ false
    later false gone = gone
    later true gone =
        elim (eqb_tells x n) [
          | inl same ↦ absurd (false≢true (sym gone ∙ ap (λ (b : Bool). cond b true (is_among (filter p xs) n)) same.0))
          | inr other ↦ ap (λ (b : Bool). cond b true (is_among (filter p xs) n)) (sym other.0) ∙ gone
        ]

-- the numbers below a bound that pass a test
passing : (p : ℕ → Bool) (n k : ℕ) → k < length (filter p (range_with_len 0 n)) → (get_or (filter p (range_with_len 0 n)) k 0 < n) × (p (get_or (filter p (range_with_len 0 n)) k 0) ≡ true)
passing p n k within =
    let numbers : All (λ e. e < n) (range_with_len 0 n) = λ j other inside.
    let below : j < n = omega (arith, inside, length-range_with_len 0 n) in
    omega (arith, below, get_or-range_with_len 0 n j other below) in
    (All-filter p (λ e. e < n) (range_with_len 0 n) numbers k 0 within, filter_passes p (range_with_len 0 n) k 0 within)

-- ---- a block of the snapshot is right for what is wanted

resized_twice : (block : List ℕ) (size real : ℕ) → real ≤ size → resized (resized block size) real ≡ resized block real
resized_twice block size real fits =
    same_number_lists (resized (resized block size) real) (resized block real) (length-resized (resized block size) real ∙ sym (length-resized block real))
    (λ i within.
    let inside : i < real = omega (arith, within, length-resized (resized block size) real) in
    resized_byte (resized block size) real i inside ∙ resized_byte block size i (omega (arith, inside, fits)) ∙ sym (resized_byte block real i inside))

right_wanted : (shape : Shape) (d : ℕ) (cell : CellView) (block : List ℕ) → IsBlockOf shape cell block
    → IsRightBlock shape (wanted_by shape d (Some cell)) (resized block shape.block_size)
right_wanted shape d cell block is = record {
  hash =
      ap hash_or_none is.hash
      ∙ ap (hashed shape) (sym (resized_twice block shape.block_size (real_length shape cell) (omega arith)));
  zeros = λ i behind. elim (cases_lt i shape.block_size) [
    | inl within ↦ resized_byte block shape.block_size i within ∙ is.zeros i behind
    | inr past ↦ get_or_past (resized block shape.block_size) i 0 (omega (arith, past, length-resized block shape.block_size))
  ];
}

-- a missing cell is a cell
missing_cell : (kind : Kind) (seen : Option CellView) (slot : SlotValue) (given : Bool) → (is_damaged kind seen slot && given) ≡ true → (cell : CellView) × (seen ≡ Some cell)
missing_cell kind None slot given absent = absurd cc
missing_cell kind (Some cell) slot given absent = (cell, refl)

-- ---- the stripe as it is searched

module _ (plan : FixPlan) (starts : StartsValue) (firsts : List FolderView) (snapshot : Row) (facts : StripeFacts)
    (has : HasExactFacts plan starts firsts snapshot facts) where
  abbrev shape : Shape
  shape = plan.table.shape

  abbrev size : ℕ
  size = plan.table.shape.block_size

  abbrev columns : ℕ
  columns = length plan.table.columns

  abbrev wanteds : List Wanted
  wanteds = wanted_in plan facts

  abbrev missing : List ℕ
  missing = missing_in plan facts

  abbrev before : Row
  before = row_before plan facts

  abbrev seen : ℕ → Option CellView
  seen d = seen_at plan facts.stripe d

  columns_are : columns_of wanteds ≡ missing
  columns_are = wanted_columns shape seen missing

  pub wanted_count : length wanteds ≡ length missing
  wanted_count = length-map missing (λ d. wanted_by shape d (seen d))

  before_long : length before ≡ columns
  before_long = length-map-range_with_len (bytes_before plan facts) 0 columns

  before_at : (d : ℕ) → d < columns → get_or before d [] ≡ bytes_before plan facts d
  before_at d below = get_or-map-range_with_len (bytes_before plan facts) 0 columns d d [] below (omega arith)

  distinct : (bound : ℕ) → columns ≤ bound → AreDistinctBelow bound (columns_of wanteds)
  distinct bound less = subst (AreDistinctBelow bound) (sym columns_are) (passed_distinct (is_missing plan facts) columns bound less)

  -- the row before the search is the snapshot's, but for what is missing
  known_beside : AgreesOutside size (columns_of wanteds) snapshot before
  known_beside = record {
    as_many = snapshot_long plan starts firsts snapshot facts has ∙ sym before_long;
    bytes = λ d p less absent. elim (cases_lt d columns) [
      | inl below ↦ sym (ap (λ (bytes : List ℕ). get_or bytes p 0) (before_at d below)
          ∙ before_is plan starts firsts snapshot facts has d below (there d below (ap (λ (ms : List ℕ). is_among ms d) (sym columns_are) ∙ absent)) p less)
      | inr past ↦
          ap (λ (bytes : List ℕ). get_or bytes p 0) (get_or_past snapshot d [] (omega (arith, past, snapshot_long plan starts firsts snapshot facts has))
          ∙ sym (get_or_past before d [] (omega (arith, past, before_long))))
    ];
  }
    where
      there : (d : ℕ) → d < columns → is_among missing d ≡ false → is_missing plan facts d ≡ false
      there d below absent =
          let at : get_or (range_with_len 0 columns) d 0 ≡ d = get_or-range_with_len 0 columns d 0 below ∙ omega arith in
          subst (λ (n : ℕ). is_missing plan facts n ≡ false) at
          (not_passing (is_missing plan facts) (range_with_len 0 columns) d (omega (arith, below, length-range_with_len 0 columns))
          (ap (is_among missing) at ∙ absent))

  recorded : (remainders : List ℕ) (j : ℕ) → j < length wanteds → IsRightBlock shape (wanted_of wanteds j) (padded_block (lost_of plan facts remainders) snapshot j)
  recorded remainders j within =
      let place : j < length missing = omega (arith, within, wanted_count) in
      let d : ℕ = get_or missing j 0 in
      let one = passing (is_missing plan facts) columns j place in
      let cell = missing_cell shape.kind (seen d) (slot_of facts d) _ one.1 in
      let is : wanted_of wanteds j ≡ wanted_by shape d (Some cell.0) =
      get_or-map (λ k. wanted_by shape k (seen k)) missing j 0 no_wanted place ∙ ap (wanted_by shape d) cell.1 in
      let block : IsBlockOf shape cell.0 (get_or snapshot d []) =
      subst (λ (it : Option CellView). IsBlockAt shape it (get_or snapshot d [])) cell.1 (snapshot_block plan starts firsts snapshot facts has d one.0) in
      subst (λ (wanted : Wanted). IsRightBlock shape wanted (resized (get_or snapshot wanted.column []) size)) (sym is)
      (right_wanted shape d cell.0 (get_or snapshot d []) block)

  is_snapshot : (remainders : List ℕ) → AreBytes snapshot → IsSnapshotOf (lost_of plan facts remainders) snapshot
  is_snapshot remainders bytes = record { are_bytes = bytes; others = known_beside; recorded = recorded remainders }

  tried : IsTried plan facts true
  tried = subst (IsTried plan facts) has.searched has.are.tried

  few_levels : length facts.levels ≤ 6
  few_levels = omega (arith, tried.0, has.valid.shape.levels.most)

  module _ (nothing : (a : ℕ) → product a 0 ≡ 0) where
    empty_before : (j p : ℕ) → j < length (columns_of wanteds) → byte_of before (get_or (columns_of wanteds) j 0) p ≡ 0
    empty_before j p within =
        let place : j < length missing = omega (arith, within, ap length columns_are) in
        let one = passing (is_missing plan facts) columns j place in
        ap (λ (ms : List ℕ). byte_of before (get_or ms j 0) p) columns_are
        ∙ ap (λ (bytes : List ℕ). get_or bytes p 0) (before_at (get_or missing j 0) one.0)
        ∙ ap (λ (b : Bool). get_or (if b then [] else gift_or (gift_of facts (get_or missing j 0)) (bytes_of (slot_of facts (get_or missing j 0)))) p 0) one.1

    abbrev remainder_at : List ℕ → ℕ → Type 0
    remainder_at remainders r =
        (p : ℕ) → p < size → byte_in size remainders p r ≡ field_sum (get_or (get_or facts.levels r no_level).block p 0) (others_sum r (columns_of wanteds) before p)

    remainders_are : (remainders : List ℕ) → AreRemainders size before facts.levels remainders → HasRemainders (lost_of plan facts remainders)
    remainders_are remainders are =
        All-from_get_or (remainder_at remainders) (whole_levels facts.levels) 0
        (λ k within p less.
        let one = passing (whole_level facts.levels) (length facts.levels) k within in
        let r : ℕ = get_or (whole_levels facts.levels) k 0 in
        are.bytes r p one.0 one.1 less
        ∙ ap (field_sum (get_or (get_or facts.levels r no_level).block p 0))
        (empty_level r (columns_of wanteds) before p nothing (distinct (length before) (omega (arith, before_long))) (λ j inside. empty_before j p inside)))

    pub is_lost_stripe : (remainders : List ℕ) → AreRemainders size before facts.levels remainders → 0 < length wanteds → IsLost (lost_of plan facts remainders)
    is_lost_stripe remainders are some = record {
      some = some;
      each_column = distinct 251 (omega (arith, has.valid.columns.few));
      within = λ j inside. (distinct (length before) (omega (arith, before_long))).below j inside;
      each_level = passed_distinct (whole_level facts.levels) (length facts.levels) 6 few_levels;
      remainder_bytes = are.long;
      has_remainders = remainders_are remainders are;
    }

    -- ---- the row that a search finds

    module _ (row : Row) (is : IsSearchOf shape wanteds before facts.levels (Some row)) (some : 0 < length wanteds) where
      abbrev lost : LostStripe
      lost = lost_of plan facts is.remainders

      abbrev blocks : List ℕ
      blocks = is.ends.0

      lost_is : IsLost lost
      lost_is = is_lost_stripe is.remainders is.are some

      accepted : SomeAccepted lost
      accepted = let found = found_choice lost blocks is.ends.1 in (found.0, found.1, (blocks, found.2))

      are_blocks : AreBlocksOf lost snapshot blocks
      are_blocks j p within less =
          let found = found_choice lost blocks is.ends.1 in
          let near : j < length wanteds = omega (arith, within, length-columns_of wanteds) in
          has.genuine.recovered is.remainders is.are found.0 blocks found.1 found.2.solves j near (found.2.right j near) p less
          ∙ ap (λ (c : ℕ). byte_of snapshot c p) (sym (column_at wanteds j near))

      found_same : IsSameRow size row snapshot
      found_same =
          let found = found_choice lost blocks is.ends.1 in
          let apart = distinct (length before) (omega (arith, before_long)) in
          let put : Row = filled size blocks wanteds before in
          let agree = filled_agrees shape wanteds blocks before apart in
          let holds = filled_holds shape wanteds blocks before apart found.2.right in
          subst (λ (it : Row). IsSameRow size it snapshot) (sym is.ends.2)
          (record {
            as_many = agree.as_many ∙ sym known_beside.as_many;
            bytes = λ d p less.
                (elim (is_among (columns_of wanteds) d) as (λ (b : Bool). is_among (columns_of wanteds) d ≡ b → byte_of put d p ≡ byte_of snapshot d p) [
                  | false ↦ λ absent. agree.bytes d p less absent ∙ sym (known_beside.bytes d p less absent)
                  | true ↦ λ there.
                      let place = place_among (columns_of wanteds) d there in
                      subst (λ (c : ℕ). byte_of put c p ≡ byte_of snapshot c p) place.2
                      (sym (holds place.0 p place.1 less) ∙ are_blocks place.0 p place.1 less)
                ]) refl;
          })

    -- ---- the row that is known

    known_same : (all : List Wanted) → wanteds ≡ all → (row : Row) → IsKnown shape all before facts.levels (Some row) → IsSameRow size row snapshot
    known_same [] none row is =
        let row_is : row ≡ before = cc in
        subst (λ (it : Row). IsSameRow size it snapshot) (sym row_is)
        (record {
          as_many = sym known_beside.as_many;
          bytes = λ d p less. sym (known_beside.bytes d p less (ap (λ (ws : List Wanted). is_among (columns_of ws) d) none));
        })
    known_same (wanted ∷ others) some row is =
        found_same row (subst (λ (all : List Wanted). IsSearchOf shape all before facts.levels (Some row)) (sym some) is) (omega (arith, ap length some))

    pub row_same : (row : Row) → facts.row ≡ Some row → IsSameRow size row snapshot
    row_same row row_is = known_same wanteds refl row (subst (IsKnown shape wanteds before facts.levels) row_is tried.1)

    -- ---- when it is known

    module _ (bytes : AreBytes snapshot) (is_intact : ℕ → Bool) (tells : TellsIntactLevels plan facts snapshot is_intact) where
      count_from_row : (row : Row) → IsSearchOf shape wanteds before facts.levels (Some row) → 0 < length wanteds → IsRestorableStripe plan facts is_intact
      count_from_row row is some =
          omega (
            arith,
            wanted_count,
            count_from_accepted (lost row is some) (lost_is row is some) snapshot (is_snapshot is.remainders bytes) is_intact tells
                (has.genuine.recovered is.remainders is.are) (accepted row is some),
          )

      none_from_search : IsSearchOf shape wanteds before facts.levels None → 0 < length wanteds → IsRestorableStripe plan facts is_intact → ⊥
      none_from_search is some enough =
          let stripe : LostStripe = lost_of plan facts is.remainders in
          none_accepted stripe is.ends
          (accepted_from_count stripe (is_lost_stripe is.remainders is.are some) snapshot (is_snapshot is.remainders bytes) is_intact tells (omega (arith, wanted_count, enough)))

      by_count : (all : List Wanted) → wanteds ≡ all → (known : Option Row) → IsKnown shape all before facts.levels known
          → (is_some known ≡ true ↔ IsRestorableStripe plan facts is_intact)
      by_count [] none known is = (λ some. omega (arith, wanted_count, ap length none), λ enough. ap is_some is)
      by_count (wanted ∷ others) some (Some row) is = (
        λ there. count_from_row row (subst (λ (all : List Wanted). IsSearchOf shape all before facts.levels (Some row)) (sym some) is) (omega (arith, ap length some)),
        λ enough. refl,
      )
      by_count (wanted ∷ others) some None is = (
        λ there. absurd (false≢true there),
        λ enough. absurd (none_from_search (subst (λ (all : List Wanted). IsSearchOf shape all before facts.levels None) (sym some) is) (omega (arith, ap length some)) enough),
      )

      pub known_by_count : is_some facts.row ≡ true ↔ IsRestorableStripe plan facts is_intact
      known_by_count = by_count wanteds refl facts.row tried.1
