-- The blocks of the first choice of levels, and their digests.
use Rattle.std.proofs.Common.{◌≡◌, ℕ, zero, suc, ◌+◌, ◌-◌, ◌*◌, ◌<◌, ◌≤◌, List, [], ◌∷◌, ◌++◌, length, map, take, drop, Option, true, refl, sym, ap, ◌∙◌, subst, arith}
use Rattle.std.proofs.Math.Nat.{mul-le-mul_right}
use Rattle.std.proofs.lemmas.List.{drop-take, take-take}
use Rattle.std.specs.List.{All}
use Rattle.std.proofs.lemmas.List.Elements.{All-head, All-nil}
use Rattle.block_hash.specs.Hash.{hash}
use Rattle.block_hash.specs.declared.Digest16.{Digest16}
use Rattle.cauchy.specs.System.{AreDistinctBelow, IsChoice}
use Rattle.file_table.specs.declared.shape.Shape.{Shape}
use Rattle.parity_writer.specs.LevelsValue.{LevelValue}
use Rattle.parity_writer.specs.Parity.{Row}
use Rattle.stripe_examiner.specs.declared.room.FirstChoice.{FirstChoice}
use Rattle.stripe_examiner.specs.declared.search.Wanted.{Wanted}
use Rattle.stripe_examiner.specs.FirstChoice.{AreDigestsOf, FollowsFirst, HasFirst, IsFirstOf, IsReady}
use Rattle.stripe_examiner.specs.Known.{AreRemainders, whole_levels}
use Rattle.stripe_examiner.specs.Search.{block_in, choices, columns_of, found_in, AreRightBlocks, Finds, FollowsFrom}
use Rattle.stripe_examiner.proofs.SearchAccepted.{length-columns_of}
use Rattle.stripe_examiner.proofs.SearchBlocks.{place_within}
use Rattle.stripe_examiner.proofs.SearchChoices.{choices_fit, distinct_few}

-- the first choice
pub choices_first : (m : ℕ) (levels : List ℕ) → m ≤ length levels → (later : List (List ℕ)) × (choices m levels ≡ take m levels ∷ later)
choices_first zero levels few = ([], refl)
choices_first (suc m) [] few = absurd (omega (arith, few))
choices_first (suc m) (level ∷ levels) few =
    let rest = choices_first m levels (omega (arith, few)) in
    let start : List ℕ → List ℕ = λ (choice : List ℕ). level ∷ choice in (
      map start rest.0 ++ choices (suc m) levels,
      ap (λ (cs : List (List ℕ)). map start cs ++ choices (suc m) levels) rest.1,
    )

-- where its blocks are right, they are found
pub found_first : (shape : Shape) (wanteds : List Wanted) (remainders levels work : List ℕ) → FollowsFirst shape wanteds remainders levels work
    → AreRightBlocks shape wanteds (found_in shape wanteds work) → Finds shape wanteds remainders levels (found_in shape wanteds work)
found_first shape wanteds remainders levels work first right =
    let all = choices_first (length wanteds) levels first.enough in
    record {
      earlier = [];
      choice = take (length wanteds) levels;
      later = all.0;
      parts = all.1;
      none_before = All-nil _;
      accepted = record { solves = first.follows; right = right };
    }

-- a block of the first so many
block_cut : (size n j : ℕ) (bytes : List ℕ) → j < n → block_in size (take (n * size) bytes) j ≡ block_in size bytes j
block_cut size n j bytes less =
    let start = j * size in
    let rest = n * size - start in
    let within = place_within size n j less in
    let all : n * size ≡ start + rest = omega (arith, within) in
    ap (λ (k : ℕ). take size (drop start (take k bytes))) all
    ∙ ap (take size) (drop-take start rest bytes)
    ∙ take-take size rest (drop start bytes) (omega (arith, within))

pub digests_cut : (shape : Shape) (n : ℕ) (work : List ℕ) (digests : List (Option Digest16)) → n ≤ 6 → AreDigestsOf 6 shape work digests → AreDigestsOf n shape (take (n * shape.block_size) work) digests
digests_cut shape n work digests few are j digest less is =
    are j digest (omega (arith, less, few)) is ∙ ap (hash shape.kind shape.seed) (sym (block_cut shape.block_size n j work less))

-- its blocks are at most six
pub few_first : (wanteds : List Wanted) (levels : List ℕ) → AreDistinctBelow 6 levels → length wanteds ≤ length levels → length wanteds ≤ 6
few_first wanteds levels distinct enough = omega (arith, distinct_few 6 levels distinct, enough)

pub blocks_within : (size : ℕ) (wanteds : List Wanted) (levels : List ℕ) → AreDistinctBelow 6 levels → length wanteds ≤ length levels → length wanteds * size ≤ 6 * size
blocks_within size wanteds levels distinct enough = mul-le-mul_right {m = length wanteds} {n = 6} size (few_first wanteds levels distinct enough)

-- the first choice is one
pub first_fits : (wanteds : List Wanted) (levels : List ℕ) → 0 < length wanteds → AreDistinctBelow 251 (columns_of wanteds) → AreDistinctBelow 6 levels → length wanteds ≤ length levels
    → IsChoice (columns_of wanteds) (take (length wanteds) levels)
first_fits wanteds levels some each_column each_level enough =
    let columns = columns_of wanteds in
    let count = length-columns_of wanteds in
    let all = choices_first (length columns) levels (omega (arith, count, enough)) in
    subst (λ (n : ℕ). IsChoice columns (take n levels)) count
    (All-head (IsChoice columns) (take (length columns) levels) all.0
    (subst (All (IsChoice columns)) all.1 (choices_fit columns levels (omega (arith, count, some)) each_column each_level)))

-- at the same shape and levels, once what is left of the levels was made
pub ready_at : (shape its_shape : Shape) (wanteds : List Wanted) (row : Row) (levels : List LevelValue) (first : FirstChoice) (remainders work its_remainders its_levels : List ℕ)
    → its_shape ≡ shape → its_levels ≡ whole_levels levels → (first.is_made ≡ true → its_remainders ≡ remainders)
    → HasFirst shape wanteds row levels first remainders work → IsReady its_shape wanteds its_remainders its_levels work first
ready_at shape its_shape wanteds row levels first remainders work its_remainders its_levels shape_is levels_are kept has =
    subst (λ (s : Shape). IsReady s wanteds its_remainders its_levels work first) (sym shape_is) (record {
      made = λ is.
          subst (λ (rs : List ℕ). FollowsFirst shape wanteds rs its_levels work) (sym (kept is))
          (subst (λ (ls : List ℕ). FollowsFirst shape wanteds remainders ls work) (sym levels_are) (has.made is).follows);
      digests = has.digests;
    })

-- the same, once they were made
pub made_at : (shape its_shape : Shape) (wanteds : List Wanted) (row : Row) (levels : List LevelValue) (remainders work its_levels : List ℕ) → its_shape ≡ shape → its_levels ≡ whole_levels levels
    → AreRemainders its_shape.block_size row levels remainders → length wanteds ≤ length its_levels
    → FollowsFrom its_shape wanteds remainders (take (length wanteds) its_levels) (found_in its_shape wanteds work) → IsFirstOf shape wanteds row levels remainders work
made_at shape its_shape wanteds row levels remainders work its_levels shape_is levels_are are enough follows =
    let there : FollowsFirst its_shape wanteds remainders its_levels work = record { enough = enough; follows = follows } in
    subst (λ (s : Shape). IsFirstOf s wanteds row levels remainders work) shape_is
    (record { are = are; follows = subst (λ (ls : List ℕ). FollowsFirst its_shape wanteds remainders ls work) levels_are there })
