-- Which levels of a stripe are wrong, by what is left of them.
use Rattle.std.proofs.Common.{◌≡◌, ◌↔◌, ℕ, zero, suc, ◌*◌, ◌<◌, ◌≤◌, ◌&&◌, not, List, [], ◌∷◌, ◌++◌, length, take, drop, get_or, replicate, Bool, true, false, Option, None, Some, IsTrue, refl, sym, ap, ap₂, ◌∙◌, add-one, arith}
use Rattle.std.specs.Prelude.{bytes_eq, if◌then◌else◌}
use Rattle.std.specs.Int.Bits.{bit_xor, xor_self, xor_zero_l}
use Rattle.std.specs.List.{EachIndex}
use Rattle.std.proofs.Math.Bool.{and-false}
use Rattle.std.proofs.lemmas.Bool.{false≢true}
use Rattle.std.proofs.lemmas.Grind.{same_number_lists}
use Rattle.std.proofs.lemmas.List.{get_or-replicate, length-take}
use Rattle.std.proofs.lemmas.List.FromFn.{length-map-range_with_len}
use lib.Pointwise.{bytes_decides}
use Rattle.cauchy.specs.Matrix.{parity_byte, parity_of}
use Rattle.parity_writer.specs.LevelsValue.{LevelValue, LevelsValue, level_at, no_level}
use Rattle.parity_writer.specs.declared.levels.LevelRead.{LevelRead}
use Rattle.parity_writer.specs.declared.levels.LevelRead.TheVariants as here
use Rattle.parity_writer.specs.Parity.{Row}
use Rattle.snap_report.specs.declared.events.Event.{Event}
use Rattle.snap_report.specs.declared.events.Event.TheVariants.{Parity}
use Rattle.stripe_examiner.specs.Findings.{all_level_events, is_wrong_by, level_events, may_write_level}
use Rattle.stripe_examiner.specs.Judging.{TellsWrong, flagged_event, flagged_events}
use Rattle.stripe_examiner.specs.Known.{AreRemainders, is_whole}
use Rattle.repair_scope.specs.Plan.{FixPlan, has_selected_level, is_synced, selects_level}
use Rattle.stripe_examiner.specs.Sharing.{IsLeftOf}
use Rattle.stripe_examiner.proofs.KnowRemainders.{byte_of_level}
use Rattle.stripe_examiner.proofs.RestorableSums.{added_twice}
use Rattle.stripe_examiner.proofs.SearchBlocks.{block_byte}
use Rattle.repair_scope.proofs.SelectLemmas.{any_at}
use Rattle.stripe_examiner.proofs.StripeLemmas.{level_of_first, levels_as_many}
use Rattle.stripe_examiner.proofs.TellingLemmas.{events_to, events_to-more}

-- ---- what is left of a level

-- nothing is left just where two numbers are the same
left_none : (a b : ℕ) → bit_xor a b ≡ 0 → a ≡ b
left_none a b none = sym (added_twice a b) ∙ ap (λ (x : ℕ). bit_xor x b) none ∙ xor_zero_l b

pub length_level : (level size : ℕ) (row : Row) → length (parity_of level size row) ≡ size
unfolding parity_of
length_level level size row = length-map-range_with_len (parity_byte level row) 0 size

abbrev IsZero : List ℕ → Type 0
IsZero left = EachIndex left (λ p. get_or left p 0 ≡ 0)

module _ (size r : ℕ) (levels : LevelsValue) (row : Row) (left : List ℕ) (block_long : length (level_at levels r).block ≡ size) (long : length left ≡ size)
    (bytes : (level_at levels r).state ≡ here.Bytes) (is : IsLeftOf levels row r left) where
  left_byte : (p : ℕ) → p < size → get_or left p 0 ≡ bit_xor (get_or (level_at levels r).block p 0) (parity_byte r row p)
  left_byte p less = is (ap is_whole bytes) p (omega (arith, less, long))

  -- where nothing is left, the level is the sum of the row
  sum_is : IsZero left → (level_at levels r).block ≡ parity_of r size row
  sum_is zeros =
      same_number_lists (level_at levels r).block (parity_of r size row) (block_long ∙ sym (length_level r size row))
      (λ p within.
      let less : p < size = omega (arith, within, block_long) in
      left_none (get_or (level_at levels r).block p 0) (parity_byte r row p) (sym (left_byte p less) ∙ zeros p (omega (arith, less, long)))
      ∙ sym (byte_of_level r size row p less))

  -- and the other way round
  none_left : (level_at levels r).block ≡ parity_of r size row → IsZero left
  none_left same p within =
      let less : p < size = omega (arith, within, long) in
      left_byte p less
      ∙ ap (λ (x : ℕ). bit_xor x (parity_byte r row p)) (ap (λ (xs : List ℕ). get_or xs p 0) same ∙ byte_of_level r size row p less)
      ∙ xor_self (parity_byte r row p)

  pub differs_where_left : (zeros : Bool) → (IsTrue zeros ↔ IsZero left) → not zeros ≡ not (bytes_eq (level_at levels r).block (parity_of r size row))
  differs_where_left true tells = sym (ap not ((bytes_decides (level_at levels r).block (parity_of r size row)).1 (sum_is (tells.0 refl))))
  differs_where_left false tells =
      ap not (by (bytes_eq (level_at levels r).block (parity_of r size row)) refl)
    where
      by : (b : Bool) → bytes_eq (level_at levels r).block (parity_of r size row) ≡ b → false ≡ b
      by false is_not = refl
      by true same = absurd (false≢true (tells.1 (none_left ((bytes_decides (level_at levels r).block (parity_of r size row)).0 same))))

-- ---- by what was read of a level

abbrev pub row_where : Bool → Row → Option Row
row_where known row = if known then Some row else None

module _ (size r : ℕ) (level : LevelValue) (known : Bool) (row : Row) where
  pub right_unread : level.state ≡ here.Unread → false ≡ is_wrong_by size r level.state level.block (row_where known row)
  right_unread is = sym (ap (λ (state : LevelRead). is_wrong_by size r state level.block (row_where known row)) is)

  pub wrong_short : level.state ≡ here.Short → known ≡ is_wrong_by size r level.state level.block (row_where known row)
  wrong_short is = by known ∙ sym (ap (λ (state : LevelRead). is_wrong_by size r state level.block (row_where known row)) is)
    where
      by : (k : Bool) → k ≡ is_wrong_by size r here.Short level.block (row_where k row)
      by true = refl
      by false = refl

  pub right_unknown : known ≡ false → level.state ≡ here.Bytes → false ≡ is_wrong_by size r level.state level.block (row_where known row)
  right_unknown none is =
      sym (ap₂ (λ (k : Bool) (state : LevelRead). is_wrong_by size r state level.block (row_where k row)) none is)

  pub wrong_known : (one : Bool) → known ≡ true → level.state ≡ here.Bytes → one ≡ not (bytes_eq level.block (parity_of r size row))
      → one ≡ is_wrong_by size r level.state level.block (row_where known row)
  wrong_known one is_known is same =
      same ∙ sym (ap₂ (λ (k : Bool) (state : LevelRead). is_wrong_by size r state level.block (row_where k row)) is_known is)

-- ---- what is left of one of the levels

pub left_of : (size : ℕ) (row : Row) (levels : LevelsValue) (remainders : List ℕ) (r n : ℕ) → AreRemainders size row (take levels.count levels.levels) remainders
    → r < levels.count → levels.count ≤ length levels.levels → n ≡ size → IsLeftOf levels row r (take n (drop (r * size) remainders))
left_of size row levels remainders r n are below room same whole p within =
    let read = take levels.count levels.levels in
    let here : get_or read r no_level ≡ level_at levels r = level_of_first levels r below in
    let count = levels_as_many levels room in
    let less : p < size = omega (arith, within, same, length-take n (drop (r * size) remainders)) in
    ap (λ (k : ℕ). get_or (take k (drop (r * size) remainders)) p 0) same
    ∙ block_byte size remainders r p less
    ∙ are.bytes r p (omega (arith, below, count)) (ap (λ (level : LevelValue). is_whole level.state) here ∙ whole) less
    ∙ ap (λ (level : LevelValue). bit_xor (get_or level.block p 0) (parity_byte r row p)) here

-- ---- where no level is selected, none is wrong

module _ (plan : FixPlan) (stripe : ℕ) (levels : LevelsValue) (row : Option Row) (none : has_selected_level plan stripe ≡ false)
    (count : levels.count ≡ plan.table.shape.levels) (most : levels.count ≤ 6) where
  not_selected : (r : ℕ) → r < levels.count → selects_level plan stripe r ≡ false
  not_selected r below =
      (elim (selects_level plan stripe r) as (λ (b : Bool). selects_level plan stripe r ≡ b → b ≡ false) [
        | true ↦ λ is. absurd (false≢true (sym none ∙ any_at (selects_level plan stripe) plan.table.shape.levels r (omega (arith, below, count)) is))
        | false ↦ λ is. refl
      ]) refl

  not_written : (r : ℕ) → r < levels.count → may_write_level plan stripe r ≡ false
  not_written r below = ap (λ (b : Bool). is_synced plan stripe && b) (not_selected r below) ∙ and-false (is_synced plan stripe)

  pub none_selected : TellsWrong plan stripe levels row (replicate 6 false)
  none_selected r below =
      get_or-replicate 6 r false false (omega (arith, below, most))
      ∙ sym (ap (λ (b : Bool). b && is_wrong_by plan.table.shape.block_size r (level_at levels r).state (level_at levels r).block row) (not_written r below))

-- ---- the events of the levels with a flag are those of the wrong levels

module _ (plan : FixPlan) (stripe : ℕ) (levels : LevelsValue) (row : Option Row) (wrong : List Bool) (room : levels.count ≤ length levels.levels)
    (tells : TellsWrong plan stripe levels row wrong) where
  abbrev of_level : ℕ → List Event
  of_level r = level_events plan stripe (get_or (take levels.count levels.levels) r no_level) row r

  one_level : (r : ℕ) → r < levels.count → flagged_event stripe wrong r ≡ of_level r
  one_level r below =
      ap (λ (b : Bool). if b then Parity stripe r ∷ [] else []) (tells r below)
      ∙ ap (λ (level : LevelValue). level_events plan stripe level row r) (sym (level_of_first levels r below))

  same_to : (n : ℕ) → n ≤ levels.count → events_to (flagged_event stripe wrong) n ≡ events_to of_level n
  same_to zero few = refl
  same_to (suc n) few =
      ap (events_to (flagged_event stripe wrong)) (sym (add-one n)) ∙ events_to-more (flagged_event stripe wrong) n
      ∙ ap₂ (λ (xs ys : List Event). xs ++ ys) (same_to n (omega (arith, few))) (one_level n (omega (arith, few)))
      ∙ sym (events_to-more of_level n) ∙ ap (events_to of_level) (add-one n)

  pub flagged_are : (count : ℕ) → count ≡ levels.count → flagged_events stripe wrong count ≡ all_level_events plan stripe (take levels.count levels.levels) row
  flagged_are count is = same_to count (omega (arith, is)) ∙ ap (events_to of_level) (is ∙ sym (levels_as_many levels room))
