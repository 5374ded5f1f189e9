-- When the blocks that follow from a choice of levels are accepted: no other blocks follow from it.
use Rattle.std.proofs.Common.{◌≡◌, ℕ, ◌*◌, ◌<◌, List, ◌++◌, length, get_or, take, sym, ap, ◌∙◌, subst, arith}
use Rattle.std.proofs.lemmas.List.{get_or-map, length-map, take_at}
use Rattle.std.proofs.lemmas.List.Elements.{All-from_get_or}
use Rattle.std.proofs.lemmas.Grind.{same_number_lists}
use Rattle.cauchy.specs.System.{IsChoice, IsSolution, SolvesBlocks, byte_in}
use Rattle.file_table.specs.declared.shape.Shape.{Shape}
use Rattle.stripe_examiner.specs.declared.search.Wanted.{Wanted}
use Rattle.stripe_examiner.specs.Search.{block_in, columns_of, given, no_wanted, wanted_at, AreRightBlocks, IsAcceptable, IsRightBlock}
use Rattle.stripe_examiner.proofs.SearchBlocks.{block_byte, length-block_in, length-given}

-- what cauchy says of the blocks that follow from a choice
abbrev pub HasOneSolution : Type 0
HasOneSolution = (columns levels : List ℕ) → IsChoice columns levels → (sums one other : ℕ → ℕ)
    → IsSolution columns levels sums one → IsSolution columns levels sums other → (j : ℕ) → j < length columns → one j ≡ other j

pub length-columns_of : (wanteds : List Wanted) → length (columns_of wanteds) ≡ length wanteds
length-columns_of wanteds = length-map wanteds (λ (wanted : Wanted). wanted.column)

pub column_at : (wanteds : List Wanted) (j : ℕ) → j < length wanteds → get_or (columns_of wanteds) j 0 ≡ (wanted_at wanteds j).column
column_at wanteds j hj = get_or-map (λ (wanted : Wanted). wanted.column) wanteds j no_wanted 0 hj

-- byte by byte there is one solution, so block by block
pub same_block : (columns choice : List ℕ) (size n : ℕ) (sums one other : List ℕ) → HasOneSolution → IsChoice columns choice → n ≡ length columns → length sums ≡ n * size
    → SolvesBlocks columns choice size sums one → SolvesBlocks columns choice size sums other → (j : ℕ) → j < n → block_in size one j ≡ block_in size other j
same_block columns choice size n sums one other only is count long first second j hj =
    let one_long = length-block_in size n one j (first.same_length ∙ long) hj in
    let other_long = length-block_in size n other j (second.same_length ∙ long) hj in
    same_number_lists (block_in size one j) (block_in size other j) (one_long ∙ sym other_long)
    (λ p hp.
    let within : p < size = omega (arith, one_long) in
    block_byte size one j p within
    ∙ only columns choice is (byte_in size sums p) (byte_in size one p) (byte_in size other p) (first.every_byte p within) (second.every_byte p within) j (omega (arith, count))
    ∙ sym (block_byte size other j p within))

-- as many bytes as the remainders of the chosen levels
pub length-solved : (wanteds : List Wanted) (size : ℕ) (remainders choice blocks : List ℕ) → IsChoice (columns_of wanteds) choice → length remainders ≡ 6 * size
    → SolvesBlocks (columns_of wanteds) choice size (given size remainders choice) blocks → length blocks ≡ length wanteds * size
length-solved wanteds size remainders choice blocks is long solved =
    solved.same_length
    ∙ length-given size remainders choice long (All-from_get_or (λ level. level < 6) choice 0 is.each_level.below)
    ∙ ap (λ (n : ℕ). n * size) (sym is.same_count ∙ length-columns_of wanteds)

module _ (shape : Shape) (wanteds : List Wanted) (remainders choice blocks : List ℕ) (solved : SolvesBlocks (columns_of wanteds) choice shape.block_size (given shape.block_size remainders choice) blocks)
    (long : length blocks ≡ length wanteds * shape.block_size) where
  pub follows_at : (rest : List ℕ)
      → SolvesBlocks (columns_of wanteds) choice shape.block_size (given shape.block_size remainders choice) (take (length wanteds * shape.block_size) (blocks ++ rest))
  follows_at rest =
      subst (λ (found : List ℕ). SolvesBlocks (columns_of wanteds) choice shape.block_size (given shape.block_size remainders choice) found)
      (sym (take_at blocks rest (length wanteds * shape.block_size) long)) solved

  pub acceptable_right : HasOneSolution → IsChoice (columns_of wanteds) choice → IsAcceptable shape wanteds remainders choice → AreRightBlocks shape wanteds blocks
  acceptable_right only is some j hj =
      subst (λ (block : List ℕ). IsRightBlock shape (wanted_at wanteds j) block)
      (same_block (columns_of wanteds) choice shape.block_size (length wanteds) (given shape.block_size remainders choice) some.0 blocks only is
      (sym (length-columns_of wanteds)) (sym solved.same_length ∙ long) some.1.solves solved j hj)
      (some.1.right j hj)

-- of the columns as they were listed, and of the remainders as they were copied
pub solved_as : (wanteds : List Wanted) (size : ℕ) (remainders choice columns sums blocks : List ℕ) → columns ≡ columns_of wanteds → sums ≡ given size remainders choice
    → SolvesBlocks columns choice size sums blocks → SolvesBlocks (columns_of wanteds) choice size (given size remainders choice) blocks
solved_as wanteds size remainders choice columns sums blocks listed copied solved =
    subst (λ (from : List ℕ). SolvesBlocks (columns_of wanteds) choice size from blocks) copied
    (subst (λ (those : List ℕ). SolvesBlocks those choice size sums blocks) listed solved)
