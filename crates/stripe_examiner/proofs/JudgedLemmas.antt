-- What has to hold before a stripe of a window is judged, and what is judged of it.
use Rattle.std.proofs.Common.{◌≡◌, ℕ, ◌<◌, ◌≤◌, ◌&&◌, List, [], ◌∷◌, length, take, get_or, replicate, Bool, true, false, Option, None, Some, refl, sym, ap, ap₂, ◌∙◌, subst, arith}
use Rattle.std.specs.Prelude.{if◌then◌else◌}
use Rattle.std.specs.List.{All, range_with_len, filter}
use Rattle.std.proofs.lemmas.Bool.{false≢true}
use Rattle.std.proofs.lemmas.List.{get_or-replicate, length-map}
use Rattle.std.proofs.lemmas.List.Elements.{All-filter, All-map, filter_passes}
use Rattle.std.proofs.lemmas.List.FromFn.{get_or-range_with_len, length-range_with_len}
use Rattle.std.proofs.Math.ListN.{get_or-map as get_or-map-any}
use Rattle.cauchy.specs.System.{AreDistinctBelow}
use Rattle.file_table.specs.Cells.{CellView}
use Rattle.file_table.specs.declared.shape.Shape.{Shape}
use Rattle.parity_writer.specs.LevelsValue.{LevelValue, LevelsValue, level_at}
use Rattle.parity_writer.specs.declared.levels.LevelRead.{LevelRead}
use Rattle.parity_writer.specs.declared.levels.LevelRead.TheVariants as here
use Rattle.parity_writer.specs.Parity.{Row}
use Rattle.parity_writer.specs.WindowRow.{bytes_in, bytes_of, row_at}
use Rattle.stripe_reader.specs.SlotValue.{SlotValue}
use Rattle.stripe_reader.specs.WindowValue.{WindowValue, slot_at}
use Rattle.stripe_examiner.specs.declared.marking.ColumnMark.{ColumnMark}
use Rattle.stripe_examiner.specs.declared.marking.SlotMark.{SlotMark}
use Rattle.stripe_examiner.specs.declared.marking.ColumnMark.TheVariants.{Right, Given, Missing}
use Rattle.stripe_examiner.specs.declared.room.StripeRoom.{StripeRoom}
use Rattle.stripe_examiner.specs.declared.search.Wanted.{Wanted}
use Rattle.stripe_examiner.specs.Facts.{wanted_by}
use Rattle.stripe_examiner.specs.Findings.{is_wrong_by, may_write_level}
use Rattle.stripe_examiner.specs.Judged.{AreEmpty, AreMissingIn, CanJudge, IsJudged, JudgesStripe, KeepsRead, row_judged}
use Rattle.stripe_examiner.specs.Judging.{TellsWrong}
use Rattle.stripe_examiner.specs.Knowing.{HaveCells}
use Rattle.stripe_examiner.specs.Known.{AreRemainders, IsKnown}
use Rattle.stripe_examiner.specs.MarkedWindow.{HasMarks}
use Rattle.stripe_examiner.specs.Marks.{IsMarked, column_mark, is_marked_missing, wanted_marked}
use Rattle.repair_scope.specs.Plan.{FixPlan, is_searched, seen_at}
use Rattle.stripe_examiner.specs.Restorable.{filled}
use Rattle.stripe_examiner.specs.Room.{IsStripeRoomFor}
use Rattle.stripe_examiner.specs.Search.{found_in}
use Rattle.stripe_examiner.proofs.CellFactsLemmas.{given_found}
use Rattle.stripe_examiner.proofs.ExaminedLemmas.{missing_is_some}
use Rattle.stripe_examiner.proofs.KnowLemmas.{passed_distinct, wanted_column, wanted_columns, wanted_lengths}

-- ---- by the marks of a stripe

empty_by : (searched : Bool) (shape : Shape) (seen : Option CellView) (before after : SlotValue) (mark : ColumnMark)
    → is_marked_missing mark ≡ true → IsMarked searched shape seen before mark after → bytes_of after ≡ []
empty_by searched shape seen before after Right missing is = absurd (false≢true missing)
empty_by searched shape seen before after Given missing is = absurd (false≢true missing)
empty_by searched shape seen before after Missing missing is = ap bytes_of is.1 ∙ given_found shape.block_size [] before (omega arith)

module _ (plan : FixPlan) (stripe i : ℕ) (before after : WindowValue) (marks : List SlotMark) (has : HasMarks plan stripe i before marks after) where
  pub cells_of_marks : HaveCells plan stripe marks
  cells_of_marks d below missing =
      missing_is_some (is_searched plan stripe) plan.table.shape (seen_at plan stripe d) (slot_at before i d) (slot_at after i d) (column_mark marks d) missing (has.each d below)

  pub empty_of_marks : AreEmpty plan i after marks
  empty_of_marks d below missing =
      empty_by (is_searched plan stripe) plan.table.shape (seen_at plan stripe d) (slot_at before i d) (slot_at after i d) (column_mark marks d) missing (has.each d below)

-- ---- what is searched for

module _ (plan : FixPlan) (stripe i : ℕ) (window : WindowValue) (own : StripeRoom) (can : CanJudge plan stripe i window own) where
  abbrev marks : List SlotMark
  marks = own.marks.items

  abbrev columns : ℕ
  columns = length plan.table.columns

  abbrev missing : ℕ → Bool
  missing d = is_marked_missing (column_mark marks d)

  abbrev numbers : List ℕ
  numbers = filter missing (range_with_len 0 columns)

  abbrev seen : ℕ → Option CellView
  seen d = seen_at plan stripe d

  row_long : length (row_at window i) ≡ columns
  row_long = length-map window.lanes (bytes_in i) ∙ can.can.fits.lanes

  below : All (λ d. d < columns) numbers
  below =
      All-filter missing (λ d. d < columns) (range_with_len 0 columns)
      (λ k other inside.
      let near : k < columns = omega (arith, inside, length-range_with_len 0 columns) in
      omega (arith, near, get_or-range_with_len 0 columns k other near))

  abbrev HasNone : Wanted → Type 0
  HasNone wanted = get_or (row_at window i) wanted.column [] ≡ []

  none_at : (d : ℕ) → d < columns → missing d ≡ true → get_or (row_at window i) d [] ≡ []
  none_at d less is = get_or-map-any (bytes_in i) window.lanes d [] ∙ can.empty d less is

  pub missing_in_row : AreMissingIn (row_at window i) plan.table.shape.block_size (wanted_marked plan stripe marks)
  missing_in_row = record {
    distinct = subst (AreDistinctBelow (length (row_at window i))) (sym (wanted_columns plan.table.shape seen numbers))
        (passed_distinct missing columns (length (row_at window i)) (omega (arith, row_long)));
    empty = All-map HasNone (λ (d : ℕ). wanted_by plan.table.shape d (seen d)) numbers
        (λ k other inside.
        ap (λ (d : ℕ). get_or (row_at window i) d []) (wanted_column plan.table.shape (get_or numbers k other) (seen (get_or numbers k other)))
        ∙ none_at (get_or numbers k other) (below k other inside) (filter_passes missing (range_with_len 0 columns) k other inside));
    lengths = wanted_lengths plan.table.shape seen numbers;
  }

-- what is read of it stays
pub can_kept : (plan : FixPlan) (stripe i : ℕ) (window : WindowValue) (old new : StripeRoom) → CanJudge plan stripe i window old → KeepsRead old new → IsStripeRoomFor plan.table new
    → CanJudge plan stripe i window new
can_kept plan stripe i window old new can kept room = record {
  can = can.can;
  room = room;
  cells = subst (λ marks. HaveCells plan stripe marks.items) (sym kept.marks) can.cells;
  empty = subst (λ marks. AreEmpty plan i window marks.items) (sym kept.marks) can.empty;
  count = λ searched. ap (λ (levels : LevelsValue). levels.count) kept.levels ∙ can.count searched;
}

-- ---- where no row is known, no level is wrong

never_wrong : (size r : ℕ) (state : LevelRead) (block : List ℕ) → is_wrong_by size r state block None ≡ false
never_wrong size r here.Unread block = refl
never_wrong size r here.Short block = refl
never_wrong size r here.Bytes block = refl

and_false : (a : Bool) → (a && false) ≡ false
and_false true = refl
and_false false = refl

pub none_wrong : (plan : FixPlan) (stripe : ℕ) (levels : LevelsValue) → levels.count ≤ 6 → TellsWrong plan stripe levels None (replicate 6 false)
none_wrong plan stripe levels most r below =
    let level : LevelValue = level_at levels r in
    get_or-replicate 6 r false false (omega (arith, below, most))
    ∙ sym (ap (λ (b : Bool). may_write_level plan stripe r && b) (never_wrong plan.table.shape.block_size r level.state level.block) ∙ and_false (may_write_level plan stripe r))

-- ---- what is judged

module _ (plan : FixPlan) (stripe i : ℕ) (window : WindowValue) (own : StripeRoom) (searched : is_searched plan stripe ≡ true) where
  pub judges : own.levels.count ≤ length own.levels.levels
      → IsKnown plan.table.shape (wanted_marked plan stripe own.marks.items) (row_at window i) (take own.levels.count own.levels.levels) (row_judged plan stripe i window own)
      → (own.known ≡ true → length (wanted_marked plan stripe own.marks.items) ≤ 6)
      → TellsWrong plan stripe own.levels (row_judged plan stripe i window own) own.wrong → JudgesStripe plan stripe i window own
  judges places known few wrong = record {
    known = subst (λ (b : Bool). IsJudged b plan stripe i window own) (sym searched) known;
    places = λ sure. places;
    few = few;
    wrong = λ sure. wrong;
  }

-- a row whose blocks are all known
pub known_whole : (shape : Shape) (wanteds : List Wanted) (row : Row) (levels : List LevelValue) (blocks : List ℕ) → length wanteds ≡ 0
    → IsKnown shape wanteds row levels (Some (filled shape.block_size (found_in shape wanteds blocks) wanteds row))
known_whole shape [] row levels blocks none = refl
known_whole shape (wanted ∷ wanteds) row levels blocks none = absurd (omega (arith, none))

pub left_whole : (shape : Shape) (size : ℕ) (wanteds : List Wanted) (row : Row) (levels : List LevelValue) (blocks remainders : List ℕ) → length wanteds ≡ 0
    → AreRemainders size row levels remainders → AreRemainders size (filled size (found_in shape wanteds blocks) wanteds row) levels remainders
left_whole shape size [] row levels blocks remainders none are = are
left_whole shape size (wanted ∷ wanteds) row levels blocks remainders none are = absurd (omega (arith, none))

-- where nothing is tried
pub judges_nothing : (plan : FixPlan) (stripe i : ℕ) (window : WindowValue) (own : StripeRoom) → is_searched plan stripe ≡ false → own.known ≡ false → JudgesStripe plan stripe i window own
judges_nothing plan stripe i window own not_searched unknown = record {
  known = subst (λ (b : Bool). IsJudged b plan stripe i window own) (sym not_searched) unknown;
  places = λ searched. absurd (false≢true (sym not_searched ∙ searched));
  few = λ known. absurd (false≢true (sym unknown ∙ known));
  wrong = λ searched. absurd (false≢true (sym not_searched ∙ searched));
}

-- where each block is known
pub judges_whole : (plan : FixPlan) (stripe i : ℕ) (window : WindowValue) (own : StripeRoom) → is_searched plan stripe ≡ true → own.levels.count ≤ length own.levels.levels
    → own.known ≡ true → length (wanted_marked plan stripe own.marks.items) ≡ 0 → TellsWrong plan stripe own.levels (row_judged plan stripe i window own) own.wrong
    → JudgesStripe plan stripe i window own
judges_whole plan stripe i window own searched places known none wrong =
    let wanteds = wanted_marked plan stripe own.marks.items in
    let row = row_at window i in
    let levels = take own.levels.count own.levels.levels in
    judges plan stripe i window own searched places
    (subst (λ (b : Bool). IsKnown plan.table.shape wanteds row levels
    (if b then Some (filled plan.table.shape.block_size (found_in plan.table.shape wanteds own.blocks.items) wanteds row) else None)) (sym known)
    (known_whole plan.table.shape wanteds row levels own.blocks.items none))
    (λ sure. omega (arith, none)) wrong

-- where blocks were searched for
pub judges_as_found : (plan : FixPlan) (stripe i : ℕ) (window : WindowValue) (own : StripeRoom) → is_searched plan stripe ≡ true → own.levels.count ≤ length own.levels.levels
    → (known : Bool) (wanteds : List Wanted) (blocks : List ℕ) → own.known ≡ known → wanteds ≡ wanted_marked plan stripe own.marks.items → own.blocks.items ≡ blocks
    → IsKnown plan.table.shape wanteds (row_at window i) (take own.levels.count own.levels.levels)
    (if known then Some (filled plan.table.shape.block_size (found_in plan.table.shape wanteds blocks) wanteds (row_at window i)) else None)
    → length wanteds ≤ 6
    → TellsWrong plan stripe own.levels (if known then Some (filled plan.table.shape.block_size (found_in plan.table.shape wanteds blocks) wanteds (row_at window i)) else None) own.wrong
    → JudgesStripe plan stripe i window own
judges_as_found plan stripe i window own searched places known wanteds blocks known_is wanteds_are blocks_are is few wrong =
    let row = row_at window i in
    let levels = take own.levels.count own.levels.levels in
    let row_of = λ (b : Bool) (ws : List Wanted) (bs : List ℕ). let it : Option Row = (if b then Some (filled plan.table.shape.block_size (found_in plan.table.shape ws bs) ws row) else None) in it in
    let same : row_of known wanteds blocks ≡ row_judged plan stripe i window own =
    ap (λ (b : Bool). row_of b wanteds blocks) (sym known_is)
    ∙ ap₂ (λ (ws : List Wanted) (bs : List ℕ). row_of own.known ws bs) wanteds_are (sym blocks_are) in
    judges plan stripe i window own searched places
    (subst (λ (ws : List Wanted). IsKnown plan.table.shape ws row levels (row_judged plan stripe i window own)) wanteds_are
    (subst (λ (it : Option Row). IsKnown plan.table.shape wanteds row levels it) same is))
    (λ sure. omega (arith, few, ap (λ (ws : List Wanted). length ws) wanteds_are))
    (subst (λ (it : Option Row). TellsWrong plan stripe own.levels it own.wrong) same wrong)
