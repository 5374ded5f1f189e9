-- The parts of a parity line.
use Rattle.std.proofs.Common.{◌≡◌, ℕ, zero, suc, ◌+◌, ◌*◌, ◌/◌, ◌<◌, ◌≤◌, List, [], ◌∷◌, ◌++◌, length, map, Bool, false, true, ◌==◌, ◌||◌, All, refl, sym, ap, subst, ◌∙◌, arith, append_assoc, IsUtf8}
use Rattle.std.specs.List.{list_any, slice_split, sum, flat_map}
use Rattle.std.proofs.Math.Nat.{mul-le-mul_right}
use Rattle.std.proofs.lemmas.Bool.Decides.{nat_tests}
use Rattle.std.proofs.lemmas.List.{length-map, length-append}
use Rattle.std.proofs.lemmas.List.Splits.{slice_split_none, slice_split_at, length-slice_split}
use Rattle.std.proofs.lemmas.List.Sums.{sum_by-cons}
use Rattle.std.proofs.lemmas.Nat.{le-div}
use Rattle.array_setup.proofs.BoolLemmas.{first_false, rest_false}
use Rattle.array_setup.specs.Glob.{is_empty}
use Rattle.snap_config.specs.Names.{file_name}
use Rattle.snap_config.specs.Parts.{MayBeParts, line_parts, line_files, capacity_of}
use Rattle.array_setup.specs.Pattern.{has_byte}
use Rattle.array_setup.specs.Walk.{IsCut}

none_all : (c : ℕ) (text : List ℕ) → has_byte c text ≡ false → All (λ b. (b == c) ≡ false) text
none_all c [] none i d below = absurd (omega (arith, below))
none_all c (b ∷ text) none zero d below = first_false (b == c) (has_byte c text) none
none_all c (b ∷ text) none (suc i) d below = none_all c text (rest_false (b == c) (has_byte c text) none) i d (omega (arith, below))

pub parts-cut : (rest part after : List ℕ) → IsCut 44 rest part after → line_parts rest ≡ part ∷ line_parts after
parts-cut rest part after cut = ap line_parts cut.spelled ∙ slice_split_at (λ b. b == 44) part 44 after (none_all 44 part cut.first) refl

pub parts-last : (rest : List ℕ) → has_byte 44 rest ≡ false → line_parts rest ≡ rest ∷ []
parts-last rest none = slice_split_none (λ b. b == 44) rest (none_all 44 rest none)

-- What is left of a line has an empty part exactly where the line has one.
pub record AreLeft (line rest : List ℕ) : Type 0 where
  pub text : IsUtf8 rest
  pub same : list_any is_empty (line_parts line) ≡ list_any is_empty (line_parts rest)

pub left-start : (line : List ℕ) → IsUtf8 line → AreLeft line line
left-start line text = record { text = text; same = refl }

empty_part : (part : List ℕ) (b : Bool) → b ≡ (length part == 0) → is_empty part ≡ b
empty_part [] b is = sym is
empty_part (c ∷ part) b is = sym (is ∙ not_zero (length part))
  where
    not_zero : (n : ℕ) → (suc n == 0) ≡ false
    not_zero n = grind (arith, nat_tests)

left-cut : (line rest part after : List ℕ) (b : Bool) → AreLeft line rest → IsCut 44 rest part after → b ≡ (length part == 0)
    → list_any is_empty (line_parts line) ≡ (b || list_any is_empty (line_parts after))
left-cut line rest part after b left cut is =
    left.same ∙ ap (list_any is_empty) (parts-cut rest part after cut) ∙ ap (λ (e : Bool). e || list_any is_empty (line_parts after)) (empty_part part b is)

pub left-next : (line rest part after : List ℕ) → AreLeft line rest → IsCut 44 rest part after → false ≡ (length part == 0) → AreLeft line after
left-next line rest part after left cut is = record { text = cut.back; same = left-cut line rest part after false left cut is }

pub left-empty : (line rest part after : List ℕ) → AreLeft line rest → IsCut 44 rest part after → true ≡ (length part == 0) → list_any is_empty (line_parts line) ≡ true
left-empty line rest part after left cut is = left-cut line rest part after true left cut is

pub left-last : (line rest : List ℕ) (b : Bool) → AreLeft line rest → has_byte 44 rest ≡ false → b ≡ (length rest == 0) → b ≡ list_any is_empty (line_parts line)
left-last line rest b left none is = sym (left.same ∙ ap (list_any is_empty) (parts-last rest none) ∙ ap (λ (e : Bool). e || false) (empty_part rest b is) ∙ or-false b)
  where
    or-false : (t : Bool) → (t || false) ≡ t
    or-false true = refl
    or-false false = refl

-- The names so far are those of the parts before what is left of a line.
pub record AreNamed (line : List ℕ) (names : List (List ℕ)) (rest : List ℕ) : Type 0 where
  pub text : IsUtf8 rest
  pub same : names ++ line_files rest ≡ line_files line

pub names-start : (line : List ℕ) → IsUtf8 line → AreNamed line [] line
names-start line text = record { text = text; same = refl }

pub names-next : (line rest part after : List ℕ) (names new : List (List ℕ)) (name : List ℕ) → AreNamed line names rest → IsCut 44 rest part after
    → name ≡ file_name part → new ≡ names ++ name ∷ [] → AreNamed line new after
names-next line rest part after names new name is cut named pushed = record {
  text = cut.back;
  same = ap (λ xs. xs ++ line_files after) (pushed ∙ ap (λ (n : List ℕ). names ++ n ∷ []) named) ∙ append_assoc names (file_name part ∷ []) (line_files after)
      ∙ ap (λ xs. names ++ xs) (sym (ap (map file_name) (parts-cut rest part after cut))) ∙ is.same;
}

pub names-last : (line rest : List ℕ) (names new : List (List ℕ)) (name : List ℕ) → AreNamed line names rest → has_byte 44 rest ≡ false
    → name ≡ file_name rest → new ≡ names ++ name ∷ [] → new ≡ line_files line
names-last line rest names new name is none named pushed =
    pushed ∙ ap (λ (n : List ℕ). names ++ n ∷ []) named ∙ ap (λ xs. names ++ xs) (sym (ap (map file_name) (parts-last rest none))) ∙ is.same

-- a line names a file at least
pub some_file : (argument : List ℕ) → 1 ≤ length (line_files argument)
some_file argument = let a = length-map (line_parts argument) file_name in let b = length-slice_split (λ b. b == 44) argument in omega arith

pub sum_lengths : (xs : List (List (List ℕ))) → sum (map length xs) ≡ length (flat_map (λ files. files) xs)
sum_lengths [] = refl
sum_lengths (x ∷ xs) =
    sum_by-cons (λ n. n) (length x) (map length xs) ∙ ap (λ n. length x + n) (sum_lengths xs) ∙ sym (length-append x (flat_map (λ files. files) xs))

some_times : (q b : ℕ) → 1 ≤ q → 1 ≤ b → 1 ≤ q * b
some_times q b one two = let more = mul-le-mul_right {m = 1} {n = q} b one in omega (arith, two, more)

pub some_capacity : (block_size room : ℕ) → 1 ≤ block_size → block_size ≤ room → 1 ≤ capacity_of block_size room
some_capacity block_size room some fits =
    some_times (room / block_size) block_size (le-div 1 room block_size (omega (arith, some)) (omega (arith, fits))) some

-- the files of a line are those of a level, where there are no more than 8
pub may_be : (argument : List ℕ) (files : List (List ℕ)) → files ≡ line_files argument → length files ≤ 8 → MayBeParts files
may_be argument files are few = record { some = subst (λ (fs : List (List ℕ)). 1 ≤ length fs) (sym are) (some_file argument); few = few }
