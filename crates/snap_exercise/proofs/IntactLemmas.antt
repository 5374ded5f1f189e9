-- A stripe whose levels are all read whole and hold the sums of its row, and of which at most three cells are missing, is restorable.
use Rattle.std.proofs.Common.{◌≡◌, ◌↔◌, ℕ, zero, suc, ◌+◌, ◌*◌, ◌<◌, ◌≤◌, List, [], ◌∷◌, length, get_or, Bool, true, false, if◌then◌else◌, Some, refl, sym, ap, ◌∙◌, subst, arith}
use Rattle.std.specs.Prelude.{count_by, filter, slice_index}
use Rattle.std.specs.List.{range_with_len}
use Rattle.std.proofs.lemmas.List.FromFn.{get_or-range_with_len, length-range_with_len}
use Rattle.std.proofs.lemmas.List.Sums.{length-filter}
use Rattle.cauchy.specs.Matrix.{parity_of as level_of}
use Rattle.disk_model.specs.Bytes.{read_from}
use Rattle.disk_model.specs.Files.{Files, parity_of}
use Rattle.parity_writer.specs.LevelReading.{kept_level}
use Rattle.parity_writer.specs.LevelsValue.{LevelValue, no_level}
use Rattle.parity_writer.specs.Parity.{HasLevel, Row}
use Rattle.parity_writer.specs.declared.levels.LevelRead.TheVariants as here
use Rattle.parity_writer.proofs.SumLemmas.{byte_of_level}
use Rattle.snap_fix.specs.Genuine.{IsIntactLevel, IsRestorableStripe, TellsIntactLevels}
use Rattle.snap_sync.proofs.ListFacts.{filter_all, filter_none}
use Rattle.stripe_examiner.specs.Facts.{StripeFacts, is_missing, missing_in}
use Rattle.stripe_examiner.specs.Known.{is_whole, whole_level, whole_levels}
use Rattle.repair_scope.specs.Plan.{FixPlan}

-- what parity_writer says of a level that was read
abbrev pub WholeLevelsHold : Type 0
WholeLevelsHold = (block_size level stripe : ℕ) (row : Row) (file bytes : List ℕ) → bytes ≡ read_from file (stripe * block_size) block_size
    → HasLevel block_size level stripe row file ↔ (((kept_level block_size (Some bytes)).state ≡ here.Bytes) × ((kept_level block_size (Some bytes)).block ≡ level_of level block_size row))

-- ---- at most so many, where none but the first do

more_by : (b : Bool) (m x : ℕ) (ys : List ℕ) → length ys ≤ m → length (if b then x ∷ ys else ys) ≤ suc m
more_by true m x ys few = omega (arith, few)
more_by false m x ys few = omega (arith, few)

at_most_first : (p : ℕ → Bool) (m a n : ℕ) → ((k : ℕ) → a + m ≤ k → k < a + n → p k ≡ false) → length (filter p (range_with_len a n)) ≤ m
at_most_first p m a zero none = omega arith
at_most_first p zero a (suc n) none =
    let empty : filter p (range_with_len a (suc n)) ≡ [] = filter_none p (range_with_len a (suc n)) (λ k d within.
    let few : k < suc n = omega (arith, within, length-range_with_len a (suc n)) in
    let at : get_or (range_with_len a (suc n)) k d ≡ a + k = get_or-range_with_len a (suc n) k d few in
    ap p at ∙ none (a + k) (omega arith) (omega (arith, few))) in
    let long : length (filter p (range_with_len a (suc n))) ≡ 0 = ap length empty in
    omega (arith, long)
at_most_first p (suc m) a (suc n) none =
    more_by (p a) m a (filter p (range_with_len (a + 1) n)) (at_most_first p m (a + 1) n (λ k from under. none k (omega (arith, from)) (omega (arith, under))))

-- ---- the levels of a stripe

abbrev each_is : ℕ → Bool
each_is r = true

module _ (holds : WholeLevelsHold) (plan : FixPlan) (files : Files) (row : Row) (facts : StripeFacts)
    (levels : (r : ℕ) → r < length facts.levels
    → get_or facts.levels r no_level ≡ kept_level plan.table.shape.block_size (Some (read_from (parity_of files r) (facts.stripe * plan.table.shape.block_size) plan.table.shape.block_size)))
    (sums : (r : ℕ) → r < length facts.levels → HasLevel plan.table.shape.block_size r facts.stripe row (parity_of files r)) where
  abbrev size : ℕ
  size = plan.table.shape.block_size

  abbrev bytes_at : ℕ → List ℕ
  bytes_at r = read_from (parity_of files r) (facts.stripe * size) size

  pub its_whole : (r : ℕ) → r < length facts.levels → ((kept_level size (Some (bytes_at r))).state ≡ here.Bytes) × ((kept_level size (Some (bytes_at r))).block ≡ level_of r size row)
  its_whole r below = (holds size r facts.stripe row (parity_of files r) (bytes_at r) refl).0 (sums r below)

  whole : (r : ℕ) → r < length facts.levels → whole_level facts.levels r ≡ true
  whole r below = ap (λ (level : LevelValue). is_whole level.state) (levels r below) ∙ ap is_whole (its_whole r below).0

  intact : (r : ℕ) → r < length facts.levels → IsIntactLevel plan facts row r
  intact r below p under =
      ap (λ (level : LevelValue). slice_index level.block p) (levels r below) ∙ ap (λ (block : List ℕ). slice_index block p) (its_whole r below).1 ∙ byte_of_level r size row p under

  all_whole : whole_levels facts.levels ≡ range_with_len 0 (length facts.levels)
  all_whole = filter_all (whole_level facts.levels) (range_with_len 0 (length facts.levels)) (λ k d within.
      let few : k < length facts.levels = omega (arith, within, length-range_with_len 0 (length facts.levels)) in
      let at : get_or (range_with_len 0 (length facts.levels)) k d ≡ 0 + k = get_or-range_with_len 0 (length facts.levels) k d few in
      let it : get_or (range_with_len 0 (length facts.levels)) k d ≡ k = omega (arith, at) in
      ap (whole_level facts.levels) it ∙ whole k few)

  pub tells_intact : TellsIntactLevels plan facts row each_is
  tells_intact k d within =
      let few : k < length facts.levels = omega (arith, within, ap length all_whole, length-range_with_len 0 (length facts.levels)) in
      let at : get_or (range_with_len 0 (length facts.levels)) k d ≡ 0 + k = get_or-range_with_len 0 (length facts.levels) k d few in
      let there : get_or (whole_levels facts.levels) k d ≡ get_or (range_with_len 0 (length facts.levels)) k d = ap (λ (rs : List ℕ). get_or rs k d) all_whole in
      let it : get_or (whole_levels facts.levels) k d ≡ k = omega (arith, at, there) in
      (λ yes. subst (IsIntactLevel plan facts row) (sym it) (intact k few), λ is. refl)

  pub restorable : length facts.levels ≡ 3 → ((d : ℕ) → 3 ≤ d → d < length plan.table.columns → is_missing plan facts d ≡ false) → IsRestorableStripe plan facts each_is
  restorable three none =
      let few : length (missing_in plan facts) ≤ 3 = at_most_first (is_missing plan facts) 3 0 (length plan.table.columns) (λ k from under. none k (omega (arith, from)) (omega (arith, under))) in
      let counted : length (filter each_is (whole_levels facts.levels)) ≡ count_by each_is (whole_levels facts.levels) = length-filter each_is (whole_levels facts.levels) in
      let all : filter each_is (whole_levels facts.levels) ≡ whole_levels facts.levels = filter_all each_is (whole_levels facts.levels) (λ k d within. refl) in
      let long : length (filter each_is (whole_levels facts.levels)) ≡ length facts.levels = ap length (all ∙ all_whole) ∙ length-range_with_len 0 (length facts.levels) in
      omega (arith, few, counted, long, three)
