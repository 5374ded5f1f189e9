-- The files of each column, one column after another.
use Rattle.std.proofs.Common.{◌≡◌, ℕ, zero, suc, ◌+◌, ◌-◌, ◌<◌, List, [], ◌∷◌, ◌++◌, length, map, get_or, All, Option, Some, ap, sym, ◌∙◌, subst, arith, refl}
use Rattle.std.specs.List.{range_with_len}
use Rattle.std.proofs.lemmas.List.{length-map, get_or-map, map-append}
use Rattle.file_table.specs.Table.{TableValue, column_at}
use Rattle.array_scan.specs.declared.sorting.Sorted.{Sorted}
use Rattle.array_scan.specs.declared.sorting.ColumnFiles.{ColumnFiles}
use Rattle.array_scan.specs.declared.placing.Given.{Given}
use Rattle.folder_listing.specs.Kept.{each_column}
use Rattle.std.proofs.lemmas.List.FromFn.{length-map-range_with_len, get_or-map-range_with_len}
use Rattle.array_scan.specs.declared.sorting.Fate.{Fate}
use Rattle.array_scan.specs.declared.sorting.Fate.TheVariants.{Unchanged, Changed, Moved, New}
use Rattle.array_scan.specs.Fates.{IsSound, HasRecord, origin}
use Rattle.array_scan.specs.Layout.{sorted_of, given_of, given_at, AreSound}
use Rattle.array_scan.specs.Refusals.{or_else, first_some}
use Rattle.array_scan.proofs.FatesLemmas.{range_down}

pub files_at : (columns : List ColumnFiles) (d : ℕ) (e : ColumnFiles) → d < length columns → get_or (sorted_of columns) d [] ≡ (get_or columns d e).files.items
files_at columns d e within = get_or-map (λ (c : ColumnFiles). c.files.items) columns d e [] within

pub column_count : (old : TableValue) (columns : List ColumnFiles) → AreSound old (sorted_of columns) → length columns ≡ length old.columns
column_count old columns sound = sym (length-map columns (λ (c : ColumnFiles). c.files.items)) ∙ sound.count

pub files_sound : (old : TableValue) (columns : List ColumnFiles) (d : ℕ) (e : ColumnFiles) → AreSound old (sorted_of columns) → d < length old.columns
    → All (IsSound (length (column_at old.columns d).records)) (get_or columns d e).files.items
files_sound old columns d e sound below =
    let within : d < length columns = omega (arith, column_count old columns sound) in
    subst (All (IsSound (length (column_at old.columns d).records))) (files_at columns d e within) (sound.each d below)

pub first_step : {X : Type 0} (fault : ℕ → Option X) (n d : ℕ) → d < n → first_some (map fault (range_with_len d (n - d))) ≡ or_else (fault d) (first_some (map fault (range_with_len (d + 1) (n - (d + 1)))))
first_step fault n d below = ap (λ (ds : List ℕ). first_some (map fault ds)) (range_down d n below)

-- the record whose blocks a file keeps is there
pub origin_within : (count : ℕ) (fate : Fate) (i : ℕ) → HasRecord count fate → origin fate ≡ Some i → i < count
origin_within count (Unchanged j) i has is = let same : j ≡ i = cc in subst (λ (n : ℕ). n < count) same has
origin_within count (Moved j) i has is = let same : j ≡ i = cc in subst (λ (n : ℕ). n < count) same has
origin_within count (Changed j) i has is = absurd cc
origin_within count New i has is = absurd cc

-- the positions that a column gives out
pub positions_at : (old : TableValue) (files : List (List Sorted)) (columns : List Given) (d : ℕ) (e : Given) → given_of columns ≡ each_column (given_at old files) (length old.columns) → d < length old.columns
    → (d < length columns) × ((get_or columns d e).positions.items ≡ given_at old files d)
positions_at old files columns d e are below =
    let many : d < length columns = omega (arith, ap length are, length-map columns (λ (c : Given). c.positions.items), length-map-range_with_len (given_at old files) 0 (length old.columns), below) in (
      many,
      sym (get_or-map (λ (c : Given). c.positions.items) columns d e [] many) ∙ ap (λ (ps : List (List ℕ)). get_or ps d []) are ∙ get_or-map-range_with_len (given_at old files) 0 (length old.columns) d d [] below (omega arith),
    )

pub given_count : (old : TableValue) (files : List (List Sorted)) (columns : List Given) → given_of columns ≡ each_column (given_at old files) (length old.columns) → length columns ≡ length old.columns
given_count old files columns are = omega (arith, ap length are, length-map columns (λ (c : Given). c.positions.items), length-map-range_with_len (given_at old files) 0 (length old.columns))

-- ---- what is made of each column, before one, of that one, and behind it

same_tail : (xs : List ℕ) (a b s t k l : ℕ) → a ≡ b → s ≡ t → k ≡ l → xs ++ a ∷ range_with_len s k ≡ xs ++ b ∷ range_with_len t l
same_tail xs a b s t k l one two three =
    ap (λ (n : ℕ). xs ++ n ∷ range_with_len s k) one ∙ ap (λ (n : ℕ). xs ++ b ∷ range_with_len n k) two ∙ ap (λ (n : ℕ). xs ++ b ∷ range_with_len t n) three

range_split : (from n d : ℕ) → d < n → range_with_len from n ≡ range_with_len from d ++ (from + d) ∷ range_with_len (from + d + 1) (n - (d + 1))
range_split from zero d below = absurd (omega arith)
range_split from (suc n) zero below = same_tail [] from (from + 0) (from + 1) (from + 0 + 1) n (suc n - (0 + 1)) (omega arith) (omega arith) (omega arith)
range_split from (suc n) (suc d) below =
    ap (λ (ks : List ℕ). from ∷ ks) (range_split (from + 1) n d (omega arith))
    ∙ same_tail (from ∷ range_with_len (from + 1) d) (from + 1 + d) (from + suc d) (from + 1 + d + 1) (from + suc d + 1) (n - (d + 1)) (suc n - (suc d + 1)) (omega arith) (omega arith) (omega arith)

pub each_split : {X : Type 0} (f : ℕ → X) (n d : ℕ) → d < n → each_column f n ≡ each_column f d ++ f d ∷ map f (range_with_len (d + 1) (n - (d + 1)))
each_split f n d below =
    let zero_and : 0 + d ≡ d = omega arith in
    let after : 0 + d + 1 ≡ d + 1 = omega arith in
    let ks : range_with_len 0 n ≡ range_with_len 0 d ++ d ∷ range_with_len (d + 1) (n - (d + 1)) =
    range_split 0 n d below ∙ same_tail (range_with_len 0 d) (0 + d) d (0 + d + 1) (d + 1) (n - (d + 1)) (n - (d + 1)) zero_and after refl in
    ap (map f) ks ∙ map-append f (range_with_len 0 d) (d ∷ range_with_len (d + 1) (n - (d + 1)))
