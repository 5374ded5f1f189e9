-- The row with the accepted blocks in the lost columns has the chosen levels.
use Rattle.std.proofs.Common.{◌≡◌, ◌≢◌, ℕ, zero, suc, ◌+◌, ◌*◌, ◌<◌, ◌≤◌, Bool, true, false, cond, List, [], ◌∷◌, drop, length, get_or, set, take, subst, refl, sym, ap, ◌∙◌, inl, inr, add-zero, arith}
use Rattle.std.specs.List.{All, Contains}
use Rattle.std.specs.Int.Bits.{bit_xor}
use Rattle.std.proofs.lemmas.Bool.{cases_lt, false≢true}
use Rattle.std.proofs.lemmas.Bool.Decides.{eqb_tells}
use Rattle.std.proofs.lemmas.List.{get_or-set_same, get_or-set_other, get_or-take, get_or-drop, get_or_past, length-set, length-take, take-take}
use Rattle.std.proofs.lemmas.List.Elements.{All-contains, All-from_get_or}
use Rattle.cauchy.specs.Field.{sum_below, product}
use Rattle.cauchy.specs.Matrix.{entry_of, byte_of, parity_byte}
use Rattle.cauchy.specs.Recovery.{HoldsColumns, is_among, others_sum}
use Rattle.cauchy.specs.System.{AreDistinctBelow, byte_in, chosen_sum}
use Rattle.disk_model.specs.Bytes.{read_from}
use Rattle.file_table.specs.declared.shape.Shape.{Shape}
use Rattle.stripe_examiner.specs.declared.search.Wanted.{Wanted}
use Rattle.stripe_examiner.specs.Restorable.{AgreesOutside, Follows, IsIntact, IsLost, LostStripe, filled_from}
use Rattle.stripe_examiner.specs.Search.{AreRightBlocks, IsRightBlock, block_in, columns_of, given, no_wanted, wanted_at}
use Rattle.stripe_examiner.proofs.SearchAccepted.{column_at, length-columns_of}
use Rattle.stripe_examiner.proofs.SearchBlocks.{block_byte, given_byte, length-block_in}
use Rattle.stripe_examiner.proofs.SearchChoices.{distinct_tail, first_apart}
use Rattle.stripe_examiner.proofs.SearchRight.{right_at_length}
use Rattle.stripe_examiner.proofs.RestorableSums.{added_twice, level_byte, not_among, sum_below-same}

-- the sums of the other columns, where these agree
pub others_sum-same : (level size : ℕ) (columns : List ℕ) (one other : List (List ℕ)) (p : ℕ) → p < size → AgreesOutside size columns one other
    → others_sum level columns one p ≡ others_sum level columns other p
others_sum-same level size columns one other p less agree =
    ap (sum_below (λ c. cond (is_among columns c) 0 (product (entry_of level c) (byte_of one c p)))) agree.as_many
    ∙ sum_below-same (λ c. cond (is_among columns c) 0 (product (entry_of level c) (byte_of one c p))) (λ c. cond (is_among columns c) 0 (product (entry_of level c) (byte_of other c p))) (length other)
    (λ c hc.
    (elim (is_among columns c) as (λ (b : Bool). is_among columns c ≡ b → cond b 0 (product (entry_of level c) (byte_of one c p)) ≡ cond b 0 (product (entry_of level c) (byte_of other c p))) [
      | true ↦ λ there. refl
      | false ↦ λ absent. ap (product (entry_of level c)) (agree.bytes c p less absent)
    ]) refl)

-- the sums of the lost columns, where the row holds the blocks
pub chosen_sum-holds : (level size : ℕ) (columns blocks : List ℕ) (row : List (List ℕ)) (p : ℕ) → p < size → HoldsColumns row columns size blocks
    → chosen_sum level columns (byte_in size blocks p) ≡ chosen_sum level columns (λ j. byte_of row (get_or columns j 0) p)
chosen_sum-holds level size columns blocks row p less holds =
    sum_below-same (λ j. product (entry_of level (get_or columns j 0)) (byte_in size blocks p j)) (λ j. product (entry_of level (get_or columns j 0)) (byte_of row (get_or columns j 0) p)) (length columns)
    (λ j hj. ap (product (entry_of level (get_or columns j 0))) (holds j p hj less))

-- ---- a level of a row that agrees with the known one

module _ (lost : LostStripe) (row : List (List ℕ)) (r p : ℕ) (less : p < lost.shape.block_size) (distinct : AreDistinctBelow (length row) (columns_of lost.wanteds))
    (agree : AgreesOutside lost.shape.block_size (columns_of lost.wanteds) row lost.row) where
  abbrev columns : List ℕ
  columns = columns_of lost.wanteds

  abbrev block_byte_of : ℕ
  block_byte_of = get_or (lost.level r) p 0

  abbrev sum_of_lost : ℕ
  sum_of_lost = chosen_sum r columns (λ j. byte_of row (get_or columns j 0) p)

  -- where the remainder is the sum of the row's lost columns, the row has this level
  pub level_is : sum_of_lost ≡ bit_xor block_byte_of (others_sum r columns lost.row p) → block_byte_of ≡ parity_byte r row p
  level_is solved =
      sym (level_byte r columns row p distinct
      ∙ ap (λ (x : ℕ). bit_xor x (others_sum r columns row p)) solved
      ∙ ap (bit_xor (bit_xor block_byte_of (others_sum r columns lost.row p))) (others_sum-same r lost.shape.block_size columns row lost.row p less agree)
      ∙ added_twice block_byte_of (others_sum r columns lost.row p))

  -- and the other way round
  pub remainder_is : block_byte_of ≡ parity_byte r row p → sum_of_lost ≡ bit_xor block_byte_of (others_sum r columns lost.row p)
  remainder_is has =
      sym (added_twice sum_of_lost (others_sum r columns row p))
      ∙ ap (λ (x : ℕ). bit_xor x (others_sum r columns row p)) (sym (level_byte r columns row p distinct) ∙ sym has)
      ∙ ap (bit_xor block_byte_of) (others_sum-same r lost.shape.block_size columns row lost.row p less agree)

-- ---- the chosen levels

module _ (lost : LostStripe) (is : IsLost lost) (choice : List ℕ) (below : All (λ r. r < 6) choice) (among : All (Contains lost.levels) choice) where
  abbrev size_of : ℕ
  size_of = lost.shape.block_size

  abbrev remainder_at : ℕ → Type 0
  remainder_at r =
      (p : ℕ) → p < size_of → byte_in size_of lost.remainders p r ≡ bit_xor (get_or (lost.level r) p 0) (others_sum r (columns_of lost.wanteds) lost.row p)

  -- what the lost columns have to give at a chosen level
  pub remainder_of : (i p : ℕ) → i < length choice → p < size_of
      → byte_in size_of (given size_of lost.remainders choice) p i ≡ bit_xor (get_or (lost.level (get_or choice i 0)) p 0) (others_sum (get_or choice i 0) (columns_of lost.wanteds) lost.row p)
  remainder_of i p hi hp =
      given_byte size_of lost.remainders choice is.remainder_bytes below i p hi hp
      ∙ All-contains remainder_at lost.levels (get_or choice i 0) is.has_remainders (among i 0 hi) p hp

  -- a row that has the blocks in the lost columns has these levels
  pub has_levels : (blocks : List ℕ) (row : List (List ℕ)) → Follows lost choice blocks → AgreesOutside size_of (columns_of lost.wanteds) row lost.row
      → HoldsColumns row (columns_of lost.wanteds) size_of blocks → All (IsIntact lost row) choice
  has_levels blocks row solved agree holds =
      let distinct : AreDistinctBelow (length row) (columns_of lost.wanteds) =
      record { below = λ j hj. omega (arith, is.within j hj, agree.as_many); distinct = is.each_column.distinct } in
      All-from_get_or (IsIntact lost row) choice 0
      (λ i hi p hp.
      level_is lost row (get_or choice i 0) p hp distinct agree
      (sym (chosen_sum-holds (get_or choice i 0) size_of (columns_of lost.wanteds) blocks row p hp holds)
      ∙ (solved.every_byte p hp).sums i hi ∙ remainder_of i p hi hp))

-- ---- the row that is filled block by block

pub length-filled : (size : ℕ) (blocks : List ℕ) (j : ℕ) (wanteds : List Wanted) (row : List (List ℕ)) → length (filled_from size blocks j wanteds row) ≡ length row
length-filled size blocks j [] row = refl
length-filled size blocks j (wanted ∷ wanteds) row =
    let block = read_from blocks (j * size) wanted.length in
    length-filled size blocks (j + 1) wanteds (set row wanted.column block) ∙ length-set row wanted.column block

not_among_first : (m : ℕ) (ms : List ℕ) (c : ℕ) → is_among (m ∷ ms) c ≡ false → (m ≢ c) × (is_among ms c ≡ false)
not_among_first m ms c absent =
    elim (eqb_tells m c) [
      | inl same ↦ absurd (false≢true (sym absent ∙ ap (λ (b : Bool). cond b true (is_among ms c)) same.0))
      | inr other ↦ (other.1, ap (λ (b : Bool). cond b true (is_among ms c)) (sym other.0) ∙ absent)
    ]

pub filled_others : (size : ℕ) (blocks : List ℕ) (j : ℕ) (wanteds : List Wanted) (row : List (List ℕ)) (c : ℕ) → is_among (columns_of wanteds) c ≡ false
    → get_or (filled_from size blocks j wanteds row) c [] ≡ get_or row c []
filled_others size blocks j [] row c absent = refl
filled_others size blocks j (wanted ∷ wanteds) row c absent =
    let block = read_from blocks (j * size) wanted.length in
    let apart = not_among_first wanted.column (columns_of wanteds) c absent in
    let other : c ≢ wanted.column = λ same. apart.0 (sym same) in
    filled_others size blocks (j + 1) wanteds (set row wanted.column block) c apart.1
    ∙ get_or-set_other row wanted.column c block [] other

pub filled_at : (size : ℕ) (blocks : List ℕ) (j : ℕ) (wanteds : List Wanted) (row : List (List ℕ)) → AreDistinctBelow (length row) (columns_of wanteds)
    → (k : ℕ) → k < length wanteds
    → get_or (filled_from size blocks j wanteds row) (wanted_at wanteds k).column [] ≡ read_from blocks ((j + k) * size) (wanted_at wanteds k).length
filled_at size blocks j [] row distinct k hk = absurd (omega arith)
filled_at size blocks j (wanted ∷ wanteds) row distinct zero hk =
    let block = read_from blocks (j * size) wanted.length in
    let absent = not_among wanted.column (columns_of wanteds) (first_apart (length row) wanted.column (columns_of wanteds) distinct) in
    filled_others size blocks (j + 1) wanteds (set row wanted.column block) wanted.column absent
    ∙ get_or-set_same row wanted.column block [] (distinct.below 0 (omega arith))
    ∙ ap (λ (n : ℕ). read_from blocks (n * size) wanted.length) (sym (add-zero j))
filled_at size blocks j (wanted ∷ wanteds) row distinct (suc k) hk =
    let block = read_from blocks (j * size) wanted.length in
    let later : j + 1 + k ≡ j + suc k = omega arith in
    let rest = distinct_tail (length row) wanted.column (columns_of wanteds) distinct in
    let same = length-set row wanted.column block in
    filled_at size blocks (j + 1) wanteds (set row wanted.column block) (subst (λ (n : ℕ). AreDistinctBelow n (columns_of wanteds)) (sym same) rest) k (omega arith)
    ∙ ap (λ (n : ℕ). read_from blocks (n * size) (wanted_at wanteds k).length) later

-- a right block at its real length has the same bytes
cut_byte : (shape : Shape) (wanteds : List Wanted) (blocks : List ℕ) (j p : ℕ) → AreRightBlocks shape wanteds blocks → j < length wanteds → p < shape.block_size
    → byte_in shape.block_size blocks p j ≡ get_or (read_from blocks (j * shape.block_size) (wanted_at wanteds j).length) p 0
cut_byte shape wanteds blocks j p right hj hp =
    let size = shape.block_size in
    let real = (wanted_at wanteds j).length in
    let cut = read_from blocks (j * size) real in
    elim (cases_lt p real) [
      | inl within ↦ sym (get_or-take real (drop (j * size) blocks) p 0 within ∙ get_or-drop (j * size) blocks p 0)
      | inr behind ↦
          sym (block_byte size blocks j p hp) ∙ (right j hj).zeros p behind
          ∙ sym (get_or_past cut p 0 (omega (arith, length-take real (drop (j * size) blocks))))
    ]

module _ (shape : Shape) (wanteds : List Wanted) (blocks : List ℕ) (row : List (List ℕ)) (distinct : AreDistinctBelow (length row) (columns_of wanteds)) where
  pub filled_agrees : AgreesOutside shape.block_size (columns_of wanteds) (filled_from shape.block_size blocks 0 wanteds row) row
  filled_agrees =
      record {
        as_many = length-filled shape.block_size blocks 0 wanteds row;
        bytes = λ c p less absent. ap (λ (bytes : List ℕ). get_or bytes p 0) (filled_others shape.block_size blocks 0 wanteds row c absent);
      }

  pub filled_holds : AreRightBlocks shape wanteds blocks → HoldsColumns (filled_from shape.block_size blocks 0 wanteds row) (columns_of wanteds) shape.block_size blocks
  filled_holds right j p hj hp =
      let size = shape.block_size in
      let near : j < length wanteds = omega (arith, length-columns_of wanteds) in
      let here : 0 + j ≡ j = omega arith in
      cut_byte shape wanteds blocks j p right near hp
      ∙ ap (λ (n : ℕ). get_or (read_from blocks (n * size) (wanted_at wanteds j).length) p 0) (sym here)
      ∙ ap (λ (bytes : List ℕ). get_or bytes p 0) (sym (filled_at size blocks 0 wanteds row distinct j near))
      ∙ ap (λ (c : ℕ). byte_of (filled_from size blocks 0 wanteds row) c p) (sym (column_at wanteds j near))

  -- each of the blocks at its real length is right too
  pub filled_right : AreRightBlocks shape wanteds blocks → length blocks ≡ length wanteds * shape.block_size → All (λ (wanted : Wanted). wanted.length ≤ shape.block_size) wanteds
      → (j : ℕ) → j < length wanteds → IsRightBlock shape (wanted_at wanteds j) (get_or (filled_from shape.block_size blocks 0 wanteds row) (wanted_at wanteds j).column [])
  filled_right right long short j hj =
      let size = shape.block_size in
      let wanted = wanted_at wanteds j in
      let block = block_in size blocks j in
      let fits : wanted.length ≤ size = short j no_wanted hj in
      let block_long = length-block_in size (length wanteds) blocks j long hj in
      let here : 0 + j ≡ j = omega arith in
      let cut : take wanted.length block ≡ get_or (filled_from size blocks 0 wanteds row) wanted.column [] =
      take-take wanted.length size (drop (j * size) blocks) fits ∙ ap (λ (n : ℕ). read_from blocks (n * size) wanted.length) (sym here) ∙ sym (filled_at size blocks 0 wanteds row distinct j hj) in
      subst (λ (found : List ℕ). IsRightBlock shape wanted found) cut (right_at_length shape wanted block (omega (arith, block_long, fits)) (right j hj))
