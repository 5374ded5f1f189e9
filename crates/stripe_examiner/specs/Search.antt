-- The search for lost blocks: which levels may be chosen, and when the blocks that they give are accepted. A level's
-- remainder is its block of a stripe, less the sums of all columns that are not searched for. The remainders of all six
-- levels stand end to end; those of levels that were not read whole are not looked at.
use Rattle.std.specs.Prelude.{◌≡◌, ℕ, zero, suc, ◌*◌, ◌<◌, ◌≤◌, List, [], ◌∷◌, ◌++◌, length, map, take, replicate, slice_index, slice_index_or}
use Rattle.std.specs.List.{All, flat_map}
use Rattle.cauchy.specs.System.{SolvesBlocks}
use Rattle.disk_model.specs.Bytes.{read_from, resized}
use Rattle.file_table.specs.declared.shape.Shape.{Shape}
use Rattle.stripe_reader.specs.Agreeing.{hashed}
use Rattle.stripe_examiner.specs.declared.search.Wanted.{Wanted}

-- so many of the levels, in all ways, in lexicographic order
abbrev pub choices : ℕ → List ℕ → List (List ℕ)
choices zero levels = [] ∷ []
choices (suc m) [] = []
choices (suc m) (level ∷ levels) = map (λ (choice : List ℕ). level ∷ choice) (choices m levels) ++ choices (suc m) levels

-- those of them that begin with chosen levels, and go on with so many of these
abbrev pub choices_after : List ℕ → ℕ → List ℕ → List (List ℕ)
choices_after chosen m levels = map (λ (choice : List ℕ). chosen ++ choice) (choices m levels)

-- block j, where blocks of so many bytes stand end to end
abbrev pub block_in : ℕ → List ℕ → ℕ → List ℕ
block_in block_size blocks j = read_from blocks (j * block_size) block_size

-- the remainders of the chosen levels, end to end
abbrev pub given : ℕ → List ℕ → List ℕ → List ℕ
given block_size remainders choice = flat_map (block_in block_size remainders) choice

-- the columns that are searched for
abbrev pub columns_of : List Wanted → List ℕ
columns_of wanteds = map (λ (wanted : Wanted). wanted.column) wanteds

-- what stands for a block that is not searched for
abbrev pub no_wanted : Wanted
no_wanted = record { column = 0; length = 0; hash = record { 0 = replicate 16 0 } }

abbrev pub wanted_at : List Wanted → ℕ → Wanted
wanted_at wanteds j = slice_index_or wanteds j no_wanted

-- the recorded hash at the real length, and zeros behind it
pub record IsRightBlock (shape : Shape) (wanted : Wanted) (block : List ℕ) : Type 0 where
  pub hash : wanted.hash ≡ hashed shape (resized block wanted.length)
  pub zeros : (i : ℕ) → wanted.length ≤ i → slice_index block i ≡ 0

-- each of the blocks, which stand end to end, is right
abbrev pub AreRightBlocks : Shape → List Wanted → List ℕ → Type 0
AreRightBlocks shape wanteds blocks =
    (j : ℕ) → j < length wanteds
    → IsRightBlock shape (wanted_at wanteds j) (block_in shape.block_size blocks j)

-- the blocks follow from the chosen levels: their sums there are the remainders
abbrev pub FollowsFrom : Shape → List Wanted → List ℕ → List ℕ → List ℕ → Type 0
FollowsFrom shape wanteds remainders choice blocks =
    let size = shape.block_size in
    SolvesBlocks (columns_of wanteds) choice size (given size remainders choice) blocks

-- they follow, and each of them is right
pub record IsAccepted (shape : Shape) (wanteds : List Wanted) (remainders choice blocks : List ℕ) : Type 0 where
  pub solves : FollowsFrom shape wanteds remainders choice blocks
  pub right : AreRightBlocks shape wanteds blocks

-- the choice gives blocks that are accepted
abbrev pub IsAcceptable : Shape → List Wanted → List ℕ → List ℕ → Type 0
IsAcceptable shape wanteds remainders choice =
    (blocks : List ℕ) × IsAccepted shape wanteds remainders choice blocks

-- no choice of these gives such blocks
abbrev pub NoneAcceptable : Shape → List Wanted → List ℕ → List (List ℕ) → Type 0
NoneAcceptable shape wanteds remainders tried =
    All (λ (choice : List ℕ). IsAcceptable shape wanteds remainders choice → ⊥) tried

-- these are the blocks of the first of these choices that gives accepted ones
pub record FindsAmong (shape : Shape) (wanteds : List Wanted) (remainders : List ℕ) (tried : List (List ℕ))
    (blocks : List ℕ) : Type 0 where
  pub earlier : List (List ℕ)
  pub choice : List ℕ
  pub later : List (List ℕ)
  pub parts : tried ≡ earlier ++ choice ∷ later
  pub none_before : NoneAcceptable shape wanteds remainders earlier
  pub accepted : IsAccepted shape wanteds remainders choice blocks

-- the first choice of as many levels as there are blocks, and its blocks
abbrev pub Finds : Shape → List Wanted → List ℕ → List ℕ → List ℕ → Type 0
Finds shape wanteds remainders levels blocks =
    FindsAmong shape wanteds remainders (choices (length wanteds) levels) blocks

-- no such choice
abbrev pub FindsNone : Shape → List Wanted → List ℕ → List ℕ → Type 0
FindsNone shape wanteds remainders levels = NoneAcceptable shape wanteds remainders (choices (length wanteds) levels)

-- Blocks can be searched for: none is longer than a block of the array, which has at most 4 MiB, and there is room for
-- six remainders and for six blocks.
pub record CanSearch (shape : Shape) (wanteds : List Wanted) (remainders work : List ℕ) : Type 0 where
  pub some : 0 < length wanteds
  pub block : 0 < shape.block_size
  pub at_most : shape.block_size ≤ 4194304
  pub lengths : All (λ (wanted : Wanted). wanted.length ≤ shape.block_size) wanteds
  pub remainder_bytes : length remainders ≡ 6 * shape.block_size
  pub work_bytes : length work ≡ 6 * shape.block_size

-- the work begins with a block for each that is searched for
abbrev pub found_in : Shape → List Wanted → List ℕ → List ℕ
found_in shape wanteds work = take (length wanteds * shape.block_size) work
