-- What is left of the levels, block by block.
use Rattle.std.proofs.Common.{◌≡◌, ℕ, ◌+◌, ◌-◌, ◌*◌, ◌/◌, ◌%◌, ◌<◌, ◌≤◌, Option, None, Some, List, [], ◌∷◌, length, map, drop, get_or, sym, ◌∙◌, ap, ap₂, subst, arith, zero-add}
use Rattle.std.specs.List.{range_with_len}
use Rattle.std.proofs.lemmas.List.{get_or-drop, get_or-take}
use Rattle.std.proofs.lemmas.List.Elements.{All-nil}
use Rattle.std.proofs.lemmas.List.FromFn.{get_or-map-range_with_len, length-map-range_with_len, length-range_with_len}
use Rattle.std.proofs.lemmas.List.Sums.{length-filter, count_by-le-length}
use Rattle.std.proofs.lemmas.Nat.{div-mul-add}
use Rattle.std.proofs.Math.Nat.{mul-add-mod_self_right, mod-eq_of_lt}
use Rattle.cauchy.specs.Levels.{HoldsLevel}
use Rattle.cauchy.specs.Matrix.{parity_byte, parity_of}
use Rattle.cauchy.specs.System.{byte_in}
use Rattle.gf256.specs.Field.{field_sum}
use Rattle.file_table.specs.declared.shape.Shape.{Shape}
use Rattle.parity_writer.specs.LevelsValue.{LevelValue, no_level}
use Rattle.parity_writer.specs.Parity.{Row}
use Rattle.stripe_examiner.specs.declared.search.Wanted.{Wanted}
use Rattle.stripe_examiner.specs.Known.{AreRemainders, IsKnown, IsSearchOf, whole_level, whole_levels}
use Rattle.stripe_examiner.specs.Restorable.{filled}
use Rattle.stripe_examiner.specs.Search.{Finds, FindsNone, NoneAcceptable}
use Rattle.stripe_examiner.proofs.SearchBlocks.{place_within}
use Rattle.stripe_examiner.proofs.SearchChoices.{choices_none}

-- byte p of a level of a row
pub byte_of_level : (level size : ℕ) (row : Row) (p : ℕ) → p < size → get_or (parity_of level size row) p 0 ≡ parity_byte level row p
unfolding parity_of
byte_of_level level size row p below = get_or-map-range_with_len (parity_byte level row) 0 size p p 0 below (zero-add p)

-- byte p of one of the levels of a row that stand end to end
pub byte_of_sums : (size level : ℕ) (row : Row) (sums : List ℕ) (p : ℕ) → p < size → HoldsLevel size row level sums → byte_in size sums p level ≡ parity_byte level row p
byte_of_sums size level row sums p below holds =
    let start = level * size in
    let n = start + size - start in
    sym (get_or-take n (drop start sums) p 0 (omega (arith, below)) ∙ get_or-drop start sums p 0)
    ∙ ap (λ (xs : List ℕ). get_or xs p 0) holds
    ∙ byte_of_level level size row p below

-- ---- there are remainders of any levels and any row

module _ (size : ℕ) (row : Row) (levels : List LevelValue) where
  left_at : ℕ → ℕ → ℕ
  left_at r p = field_sum (get_or (get_or levels r no_level).block p 0) (parity_byte r row p)

  left_in : List ℕ
  left_in = map (λ (i : ℕ). left_at (i / size) (i % size)) (range_with_len 0 (6 * size))

  left_byte : (r p : ℕ) → r < 6 → p < size → byte_in size left_in p r ≡ left_at r p
  unfolding left_in
  left_byte r p level below =
      let within : r * size + p < 6 * size = omega (arith, below, place_within size 6 r level) in
      get_or-map-range_with_len (λ (i : ℕ). left_at (i / size) (i % size)) 0 (6 * size) (r * size + p) (r * size + p) 0 within (zero-add (r * size + p))
      ∙ ap₂ left_at (div-mul-add r size p below) (mul-add-mod_self_right r size p ∙ mod-eq_of_lt below)

  pub some_remainders : length levels ≤ 6 → (remainders : List ℕ) × AreRemainders size row levels remainders
  unfolding left_in left_at
  some_remainders few = (
    left_in,
    record {
      long = length-map-range_with_len (λ (i : ℕ). left_at (i / size) (i % size)) 0 (6 * size);
      bytes = λ r p level whole below. left_byte r p (omega (arith, level, few)) below;
    },
  )

-- ---- where none is found

pub few_whole : (levels : List LevelValue) → length (whole_levels levels) ≤ length levels
few_whole levels =
    let xs = range_with_len 0 (length levels) in
    omega (arith, length-filter (whole_level levels) xs, count_by-le-length (whole_level levels) xs, length-range_with_len 0 (length levels))

-- a row is known as a search ends
pub known_by_search : (shape : Shape) (wanteds : List Wanted) (row : Row) (levels : List LevelValue) (known : Option Row)
    → 0 < length wanteds → IsSearchOf shape wanteds row levels known → IsKnown shape wanteds row levels known
known_by_search shape [] row levels known some is = absurd (omega arith)
known_by_search shape (wanted ∷ wanteds) row levels known some is = is

-- of more blocks than there are levels none are found
pub none_of_many : (shape : Shape) (wanteds : List Wanted) (row : Row) (levels : List LevelValue)
    → length levels ≤ 6 → 6 < length wanteds → IsKnown shape wanteds row levels None
none_of_many shape wanteds row levels few many =
    let left = some_remainders shape.block_size row levels few in
    let too_few : length (whole_levels levels) < length wanteds = omega (arith, few_whole levels, few, many) in
    known_by_search shape wanteds row levels None (omega arith) (record {
      remainders = left.0;
      are = left.1;
      ends = subst (NoneAcceptable shape wanteds left.0) (sym (choices_none (length wanteds) (whole_levels levels) too_few)) (All-nil _);
    })

-- what a search tells, at the same shape, blocks and levels
module _ (shape its_shape : Shape) (wanteds its_wanteds : List Wanted) (row : Row) (levels : List LevelValue) (its_levels remainders : List ℕ)
    (shape_is : its_shape ≡ shape) (wanteds_are : its_wanteds ≡ wanteds) (levels_are : its_levels ≡ whole_levels levels)
    (some : 0 < length wanteds) (are : AreRemainders its_shape.block_size row levels remainders) where
  here_too : AreRemainders shape.block_size row levels remainders
  here_too = subst (λ (s : Shape). AreRemainders s.block_size row levels remainders) shape_is are

  pub known_none : FindsNone its_shape its_wanteds remainders its_levels → IsKnown shape wanteds row levels None
  known_none none =
      let at_shape : FindsNone shape its_wanteds remainders its_levels = subst (λ (s : Shape). FindsNone s its_wanteds remainders its_levels) shape_is none in
      let at_wanteds : FindsNone shape wanteds remainders its_levels = subst (λ (ws : List Wanted). FindsNone shape ws remainders its_levels) wanteds_are at_shape in
      known_by_search shape wanteds row levels None some (record {
        remainders = remainders;
        are = here_too;
        ends = subst (FindsNone shape wanteds remainders) levels_are at_wanteds;
      })

  pub known_some : (blocks : List ℕ) (known : Row) → Finds its_shape its_wanteds remainders its_levels blocks
      → known ≡ filled its_shape.block_size blocks its_wanteds row → IsKnown shape wanteds row levels (Some known)
  known_some blocks known found is =
      let at_shape : Finds shape its_wanteds remainders its_levels blocks = subst (λ (s : Shape). Finds s its_wanteds remainders its_levels blocks) shape_is found in
      let at_wanteds : Finds shape wanteds remainders its_levels blocks = subst (λ (ws : List Wanted). Finds shape ws remainders its_levels blocks) wanteds_are at_shape in
      let at_levels : Finds shape wanteds remainders (whole_levels levels) blocks = subst (λ (rs : List ℕ). Finds shape wanteds remainders rs blocks) levels_are at_wanteds in
      known_by_search shape wanteds row levels (Some known) some (record {
        remainders = remainders;
        are = here_too;
        ends = (blocks, at_levels, is ∙ ap₂ (λ (s : Shape) (ws : List Wanted). filled s.block_size blocks ws row) shape_is wanteds_are);
      })
