-- When the row of a stripe is known: all its blocks are, or the missing ones were found by some of its levels.
use Rattle.std.specs.Prelude.{◌≡◌, ℕ, ◌*◌, ◌<◌, List, [], ◌∷◌, length, filter, get_or, slice_index, Bool, true, false, Option, None, Some}
use Rattle.std.specs.List.{range_with_len}
use Rattle.cauchy.specs.Matrix.{parity_byte}
use Rattle.cauchy.specs.System.{byte_in}
use Rattle.gf256.specs.Field.{field_sum}
use Rattle.file_table.specs.declared.shape.Shape.{Shape}
use Rattle.parity_writer.specs.LevelsValue.{LevelValue, no_level}
use Rattle.parity_writer.specs.declared.levels.LevelRead.{LevelRead}
use Rattle.parity_writer.specs.declared.levels.LevelRead.TheVariants as here
use Rattle.parity_writer.specs.Parity.{Row}
use Rattle.stripe_examiner.specs.declared.search.Wanted.{Wanted}
use Rattle.stripe_examiner.specs.Facts.{StripeFacts, IsGiven, row_before, wanted_in}
use Rattle.repair_scope.specs.Plan.{FixPlan, is_searched}
use Rattle.stripe_examiner.specs.Restorable.{filled}
use Rattle.stripe_examiner.specs.Search.{Finds, FindsNone}

-- a level was read whole
abbrev pub is_whole : LevelRead → Bool
is_whole here.Bytes = true
is_whole here.Short = false
is_whole here.Unread = false

-- the levels that were read whole, ascending
abbrev pub whole_level : List LevelValue → ℕ → Bool
whole_level levels r = is_whole (get_or levels r no_level).state

abbrev pub whole_levels : List LevelValue → List ℕ
whole_levels levels = filter (whole_level levels) (range_with_len 0 (length levels))

-- What is left of the levels that were read whole, less the sums of a row in which the missing blocks are empty: block r,
-- of six, is that of level r.
pub record AreRemainders (block_size : ℕ) (row : Row) (levels : List LevelValue) (remainders : List ℕ) : Type 0 where
  pub long : length remainders ≡ 6 * block_size
  pub bytes : (r p : ℕ) → r < length levels → whole_level levels r ≡ true → p < block_size
      → byte_in block_size remainders p r ≡ field_sum (slice_index (get_or levels r no_level).block p) (parity_byte r row p)

-- how a search ends: the row with what it found, or none
abbrev pub SearchEnds : Shape → List Wanted → Row → List ℕ → List ℕ → Option Row → Type 0
SearchEnds shape wanteds row levels remainders None = FindsNone shape wanteds remainders levels
SearchEnds shape wanteds row levels remainders (Some known) =
    (blocks : List ℕ) × Finds shape wanteds remainders levels blocks
    × (known ≡ filled shape.block_size blocks wanteds row)

pub record IsSearchOf (shape : Shape) (wanteds : List Wanted) (row : Row) (levels : List LevelValue)
    (known : Option Row) : Type 0 where
  pub remainders : List ℕ
  pub are : AreRemainders shape.block_size row levels remainders
  pub ends : SearchEnds shape wanteds row (whole_levels levels) remainders known

-- the row that is known of a stripe whose missing blocks are searched for
abbrev pub IsKnown : Shape → List Wanted → Row → List LevelValue → Option Row → Type 0
IsKnown shape [] row levels known = known ≡ Some row
IsKnown shape (wanted ∷ wanteds) row levels known = IsSearchOf shape (wanted ∷ wanteds) row levels known

-- what was found out of a stripe: nothing where no recovery is tried
abbrev pub IsTried : FixPlan → StripeFacts → Bool → Type 0
IsTried plan facts false = ((d : ℕ) → get_or facts.gifts d None ≡ None) × (facts.levels ≡ []) × (facts.row ≡ None)
IsTried plan facts true =
    (length facts.levels ≡ plan.table.shape.levels)
    × IsKnown plan.table.shape (wanted_in plan facts) (row_before plan facts) facts.levels facts.row

-- The facts of a stripe of a plan: one slot and one place for a gift for each column, and what follows of them.
pub record AreFacts (plan : FixPlan) (facts : StripeFacts) : Type 0 where
  pub within : facts.stripe < length plan.table.infos
  pub slots : length facts.slots ≡ length plan.table.columns
  pub gifts : length facts.gifts ≡ length plan.table.columns
  pub given : (d : ℕ) → d < length plan.table.columns → IsGiven plan facts d
  pub tried : IsTried plan facts (is_searched plan facts.stripe)
