-- When the lost blocks of a stripe can be restored. A row has the blocks of a stripe, column by column, and the snapshot
-- is its row as it was synced. Blocks may be shorter than the array's: all is said byte by byte, and zeros are behind them.
use Rattle.std.specs.Prelude.{◌≡◌, ◌↔◌, ℕ, ◌+◌, ◌*◌, ◌<◌, ◌≤◌, Bool, false, List, [], ◌∷◌, length, slice_index, slice_index_or, slice_set, IsTrue, All, Contains, count_by}
use Rattle.cauchy.specs.Field.{field_sum}
use Rattle.cauchy.specs.Matrix.{byte_of, parity_byte}
use Rattle.cauchy.specs.Recovery.{AreBytes, HoldsColumns, is_among, others_sum}
use Rattle.cauchy.specs.System.{AreDistinctBelow, byte_in}
use Rattle.disk_model.specs.Bytes.{read_from, resized}
use Rattle.file_table.specs.declared.shape.Shape.{Shape}
use Rattle.parity_writer.specs.Parity.{Row}
use Rattle.stripe_examiner.specs.declared.search.Wanted.{Wanted}
use Rattle.stripe_examiner.specs.Search.{block_in, choices, columns_of, wanted_at, FollowsFrom, Finds, FindsNone, IsAcceptable, IsAccepted, IsRightBlock}

-- A stripe with lost blocks: what is searched for, the levels that were read whole, the block of each level, the row as
-- far as it is known, and the remainders.
pub record LostStripe : Type 0 where
  pub shape : Shape
  pub wanteds : List Wanted
  pub levels : List ℕ
  pub level : ℕ → List ℕ
  pub row : Row
  pub remainders : List ℕ

-- the level's block is this level of a row
abbrev pub IsIntact : LostStripe → Row → ℕ → Type 0
IsIntact lost row r = (p : ℕ) → p < lost.shape.block_size → slice_index (lost.level r) p ≡ parity_byte r row p

-- the remainder of each level that was read whole is its block less the sums of all columns of the row but the lost ones
abbrev pub HasRemainders : LostStripe → Type 0
HasRemainders lost =
    All (λ r. (p : ℕ) → p < lost.shape.block_size
    → byte_in lost.shape.block_size lost.remainders p r
    ≡ field_sum (slice_index (lost.level r) p) (others_sum r (columns_of lost.wanteds) lost.row p)) lost.levels

-- some columns of the row are lost, none of them twice, and the remainders are its remainders
pub record IsLost (lost : LostStripe) : Type 0 where
  pub some : 0 < length lost.wanteds
  pub each_column : AreDistinctBelow 251 (columns_of lost.wanteds)
  pub within : (j : ℕ) → j < length (columns_of lost.wanteds) → slice_index (columns_of lost.wanteds) j < length lost.row
  pub each_level : AreDistinctBelow 6 lost.levels
  pub remainder_bytes : length lost.remainders ≡ 6 * lost.shape.block_size
  pub has_remainders : HasRemainders lost

-- as many blocks, with the same bytes in all columns but these
pub record AgreesOutside (block_size : ℕ) (columns : List ℕ) (one other : Row) : Type 0 where
  pub as_many : length one ≡ length other
  pub bytes : (column p : ℕ) → p < block_size → is_among columns column ≡ false
      → byte_of one column p ≡ byte_of other column p

-- a row agrees with what is known of the stripe's
abbrev pub IsKnownBeside : LostStripe → Row → Type 0
IsKnownBeside lost row = AgreesOutside lost.shape.block_size (columns_of lost.wanteds) row lost.row

-- these are a row's blocks in the lost columns
abbrev pub AreBlocksOf : LostStripe → Row → List ℕ → Type 0
AreBlocksOf lost row blocks = HoldsColumns row (columns_of lost.wanteds) lost.shape.block_size blocks

-- a row's block in the column of a block that is searched for, padded with zeros
abbrev pub padded_block : LostStripe → Row → ℕ → List ℕ
padded_block lost row j =
    resized (slice_index_or row (wanted_at lost.wanteds j).column []) lost.shape.block_size

-- The snapshot's row agrees with what is known, and in the lost columns it has blocks with the recorded hashes.
pub record IsSnapshotOf (lost : LostStripe) (snapshot : Row) : Type 0 where
  pub are_bytes : AreBytes snapshot
  pub others : IsKnownBeside lost snapshot
  pub recorded : (j : ℕ) → j < length lost.wanteds
      → IsRightBlock lost.shape (wanted_at lost.wanteds j) (padded_block lost snapshot j)

-- ---- choices of levels

-- a choice of as many of the levels as blocks are lost
abbrev pub IsOneOf : LostStripe → List ℕ → Type 0
IsOneOf lost choice = Contains (choices (length lost.wanteds) lost.levels) choice

-- the blocks follow from the chosen levels
abbrev pub Follows : LostStripe → List ℕ → List ℕ → Type 0
Follows lost choice blocks = FollowsFrom lost.shape lost.wanteds lost.remainders choice blocks

-- they are accepted, the choice gives blocks that are, and some choice does
abbrev pub Accepts : LostStripe → List ℕ → List ℕ → Type 0
Accepts lost choice blocks = IsAccepted lost.shape lost.wanteds lost.remainders choice blocks

abbrev pub CanAccept : LostStripe → List ℕ → Type 0
CanAccept lost choice = IsAcceptable lost.shape lost.wanteds lost.remainders choice

abbrev pub SomeAccepted : LostStripe → Type 0
SomeAccepted lost = (choice : List ℕ) × IsOneOf lost choice × CanAccept lost choice

-- how the search among these choices ends
abbrev pub SearchFinds : LostStripe → List ℕ → Type 0
SearchFinds lost blocks = Finds lost.shape lost.wanteds lost.remainders lost.levels blocks

abbrev pub SearchFindsNone : LostStripe → Type 0
SearchFindsNone lost = FindsNone lost.shape lost.wanteds lost.remainders lost.levels

-- No block that some choice of levels gives has a recorded hash by chance: each that is right is the snapshot's.
abbrev pub CandidatesAreGenuine : LostStripe → Row → Type 0
CandidatesAreGenuine lost snapshot =
    (choice blocks : List ℕ) → IsOneOf lost choice → Follows lost choice blocks → (j : ℕ) → j < length lost.wanteds
    → IsRightBlock lost.shape (wanted_at lost.wanteds j) (block_in lost.shape.block_size blocks j)
    → (p : ℕ) → p < lost.shape.block_size
    → byte_in lost.shape.block_size blocks p j ≡ byte_of snapshot (wanted_at lost.wanteds j).column p

-- ---- restorable, by counting

-- tells of each level that was read whole whether it is intact
abbrev pub TellsIntact : LostStripe → Row → (ℕ → Bool) → Type 0
TellsIntact lost snapshot is_intact = All (λ r. IsTrue (is_intact r) ↔ IsIntact lost snapshot r) lost.levels

-- a synced stripe is restorable: there are no more lost blocks than intact levels
abbrev pub IsRestorable : LostStripe → (ℕ → Bool) → Type 0
IsRestorable lost is_intact = length lost.wanteds ≤ count_by is_intact lost.levels

-- ---- the row with the blocks in it

-- a row with the blocks, each at its real length, one after another in their list
abbrev pub filled_from : ℕ → List ℕ → ℕ → List Wanted → Row → Row
filled_from block_size blocks j [] row = row
filled_from block_size blocks j (wanted ∷ wanteds) row =
    filled_from block_size blocks (j + 1) wanteds (slice_set row wanted.column (read_from blocks (j * block_size) wanted.length))

abbrev pub filled : ℕ → List ℕ → List Wanted → Row → Row
filled block_size blocks wanteds row = filled_from block_size blocks 0 wanteds row

abbrev pub row_with : LostStripe → List ℕ → Row
row_with lost blocks = filled lost.shape.block_size blocks lost.wanteds lost.row
