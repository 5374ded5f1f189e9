-- Which blocks are wanted of a stripe, and which levels were read whole.
use Rattle.std.proofs.Common.{◌≡◌, ◌≢◌, ℕ, zero, suc, ◌+◌, ◌-◌, ◌<◌, ◌≤◌, cond, Bool, true, false, is_some, Option, None, Some, List, [], ◌∷◌, ◌++◌, length, length-append, map, get_or, refl, sym, ◌∙◌, ap, subst, arith, append-nil}
use Rattle.std.specs.List.{All, filter, flat_map, range_with_len}
use Rattle.std.proofs.lemmas.Bool.{false≢true}
use Rattle.std.proofs.lemmas.List.{map-id, map-append, get_or_append_left, get_or-append-add}
use Rattle.std.proofs.lemmas.List.Elements.{filter-append, filter_passes, All-cons, All-filter, All-map, All-nil, All-weaker}
use Rattle.std.proofs.lemmas.List.FromFn.{map-range_with_len_more, get_or-range_with_len, length-range_with_len}
use Rattle.cauchy.specs.System.{AreDistinctBelow}
use Rattle.file_table.specs.Cells.{CellView}
use Rattle.file_table.specs.Table.{TableValue, Record, IsAt, column_at, record_at, column_blocks, block_in, info_at, no_block, no_column, no_record}
use Rattle.file_table.specs.Valid.{IsValid}
use Rattle.file_table.specs.declared.block.Block.{Block}
use Rattle.file_table.specs.declared.info.Mark.TheVariants.{Synced}
use Rattle.file_table.specs.declared.shape.Shape.{Shape}
use Rattle.stripe_examiner.specs.declared.search.Wanted.{Wanted}
use Rattle.stripe_examiner.specs.Facts.{wanted_by}
use Rattle.stripe_examiner.specs.Search.{columns_of}
use Rattle.stripe_examiner.proofs.SearchChoices.{IsSublist, nothing, with_first, without, distinct_sublist}

-- ---- the numbers that pass a test

range_more : (n : ℕ) → range_with_len 0 (n + 1) ≡ range_with_len 0 n ++ n ∷ []
range_more n =
    sym (map-id (range_with_len 0 (n + 1))) ∙ map-range_with_len_more (λ (k : ℕ). k) 0 n n (omega arith)
    ∙ ap (λ (ks : List ℕ). ks ++ n ∷ []) (map-id (range_with_len 0 n))

passed_more : (p : ℕ → Bool) (n : ℕ) → filter p (range_with_len 0 (n + 1)) ≡ filter p (range_with_len 0 n) ++ cond (p n) (n ∷ []) []
passed_more p n = ap (filter p) (range_more n) ∙ filter-append p (range_with_len 0 n) (n ∷ [])

-- one number more
pub passed_one : (p : ℕ → Bool) (n : ℕ) → p n ≡ true → filter p (range_with_len 0 (n + 1)) ≡ filter p (range_with_len 0 n) ++ n ∷ []
passed_one p n passing = passed_more p n ∙ ap (λ (b : Bool). filter p (range_with_len 0 n) ++ cond b (n ∷ []) []) passing

pub passed_none : (p : ℕ → Bool) (n : ℕ) → p n ≡ false → filter p (range_with_len 0 (n + 1)) ≡ filter p (range_with_len 0 n)
passed_none p n failing =
    passed_more p n ∙ ap (λ (b : Bool). filter p (range_with_len 0 n) ++ cond b (n ∷ []) []) failing ∙ append-nil (filter p (range_with_len 0 n))

-- there are no fewer among more
passed_grow : (p : ℕ → Bool) (n k : ℕ) → length (filter p (range_with_len 0 n)) ≤ length (filter p (range_with_len 0 (n + k)))
passed_grow p n zero =
    let at : n ≡ n + 0 = omega arith in
    let same : length (filter p (range_with_len 0 n)) ≤ length (filter p (range_with_len 0 n)) = omega arith in
    subst (λ (m : ℕ). length (filter p (range_with_len 0 n)) ≤ length (filter p (range_with_len 0 m))) at same
passed_grow p n (suc k) =
    let step : length (filter p (range_with_len 0 (n + k + 1))) ≡ length (filter p (range_with_len 0 (n + k))) + length (cond (p (n + k)) ((n + k) ∷ []) []) =
    ap length (passed_more p (n + k)) ∙ length-append (filter p (range_with_len 0 (n + k))) (cond (p (n + k)) ((n + k) ∷ []) []) in
    let at : n + k + 1 ≡ n + suc k = omega arith in
    subst (λ (m : ℕ). length (filter p (range_with_len 0 n)) ≤ length (filter p (range_with_len 0 m))) at (omega (arith, step, passed_grow p n k))

pub passed_most : (p : ℕ → Bool) (n m : ℕ) → n ≤ m → length (filter p (range_with_len 0 n)) ≤ length (filter p (range_with_len 0 m))
passed_most p n m less =
    let at : n + (m - n) ≡ m = omega arith in
    subst (λ (k : ℕ). length (filter p (range_with_len 0 n)) ≤ length (filter p (range_with_len 0 k))) at (passed_grow p n (m - n))

-- they are distinct
sublist_by : (x : ℕ) (part xs : List ℕ) (b : Bool) → IsSublist part xs → IsSublist (cond b (x ∷ part) part) (x ∷ xs)
sublist_by x part xs true is = with_first x is
sublist_by x part xs false is = without x is

filter_sublist : (p : ℕ → Bool) (xs : List ℕ) → IsSublist (filter p xs) xs
filter_sublist p [] = nothing []
filter_sublist p (x ∷ xs) = sublist_by x (filter p xs) xs (p x) (filter_sublist p xs)

range_distinct : (n bound : ℕ) → n ≤ bound → AreDistinctBelow bound (range_with_len 0 n)
range_distinct n bound less = record {
  below = λ k within.
      let inside : k < n = omega (arith, within, length-range_with_len 0 n) in
      omega (arith, get_or-range_with_len 0 n k 0 inside);
  distinct = λ j k earlier within same.
      let inside : k < n = omega (arith, within, length-range_with_len 0 n) in
      let before : j < n = omega (arith, earlier, inside) in
      absurd (omega (arith, earlier, same, get_or-range_with_len 0 n j 0 before, get_or-range_with_len 0 n k 0 inside));
}

pub passed_distinct : (p : ℕ → Bool) (n bound : ℕ) → n ≤ bound → AreDistinctBelow bound (filter p (range_with_len 0 n))
passed_distinct p n bound less = distinct_sublist bound (filter_sublist p (range_with_len 0 n)) (range_distinct n bound less)

-- ---- what is made of them, one by one

pub wanted_one : (f : ℕ → Wanted) (p : ℕ → Bool) (n : ℕ) (old new : List Wanted) (one : Wanted) → p n ≡ true
    → old ≡ map f (filter p (range_with_len 0 n)) → one ≡ f n → new ≡ old ++ one ∷ [] → new ≡ map f (filter p (range_with_len 0 (n + 1)))
wanted_one f p n old new one passing so_far here more =
    more ∙ ap (λ (ws : List Wanted). ws ++ one ∷ []) so_far
    ∙ ap (λ (w : Wanted). map f (filter p (range_with_len 0 n)) ++ w ∷ []) here
    ∙ sym (map-append f (filter p (range_with_len 0 n)) (n ∷ []))
    ∙ ap (map f) (sym (passed_one p n passing))

pub wanted_none : (f : ℕ → Wanted) (p : ℕ → Bool) (n : ℕ) (old : List Wanted) → p n ≡ false
    → old ≡ map f (filter p (range_with_len 0 n)) → old ≡ map f (filter p (range_with_len 0 (n + 1)))
wanted_none f p n old failing so_far = so_far ∙ ap (map f) (sym (passed_none p n failing))

-- ---- each block of a synced stripe has its hash

all_of_flat : {X A : Type 0} (P : A → Type 0) (f : X → List A) (xs : List X) → All P (flat_map f xs) → (k : ℕ) (d : X) → k < length xs → All P (f (get_or xs k d))
all_of_flat P f [] all k d within = absurd (omega arith)
all_of_flat P f (x ∷ xs) all zero d within = λ j e inside.
    subst P (get_or_append_left (f x) (flat_map f xs) e j inside) (all j e (omega (arith, inside, length-append (f x) (flat_map f xs))))
all_of_flat P f (x ∷ xs) all (suc k) d within =
    all_of_flat P f xs
    (λ j e inside. subst P (get_or-append-add (f x) (flat_map f xs) j e) (all (length (f x) + j) e (omega (arith, inside, length-append (f x) (flat_map f xs)))))
    k d (omega arith)

pub hash_missing : (table : TableValue) (stripe d i index : ℕ) → IsValid table → stripe < length table.infos → d < length table.columns
    → (info_at table.infos stripe).mark ≡ Synced → IsAt (column_at table.columns d) stripe i index
    → (block_in (record_at table.columns d i) index).hash ≡ None → ⊥
hash_missing table stripe d i index valid within column synced at none =
    let P : Block → Type 0 = λ (block : Block). block.position ≡ stripe → is_some block.hash ≡ true in
    let in_column = all_of_flat P column_blocks table.columns (valid.infos.hashed stripe within synced) d no_column column in
    let in_record = all_of_flat P (λ (kept : Record). kept.blocks) (column_at table.columns d).records in_column i no_record at.within in
    let some : is_some (block_in (record_at table.columns d i) index).hash ≡ true = in_record index no_block at.index_within at.position_is in
    false≢true (ap is_some (sym none) ∙ some)

-- ---- their columns and lengths

pub wanted_column : (shape : Shape) (d : ℕ) (seen : Option CellView) → (wanted_by shape d seen).column ≡ d
wanted_column shape d None = refl
wanted_column shape d (Some cell) = refl

wanted_length : (shape : Shape) (d : ℕ) (seen : Option CellView) → (wanted_by shape d seen).length ≤ shape.block_size
wanted_length shape d None = omega arith
wanted_length shape d (Some cell) = omega arith

module _ (shape : Shape) (seen : ℕ → Option CellView) where
  abbrev wanted : ℕ → Wanted
  wanted d = wanted_by shape d (seen d)

  pub wanted_columns : (ds : List ℕ) → columns_of (map wanted ds) ≡ ds
  wanted_columns [] = refl
  wanted_columns (d ∷ ds) = ap (λ (c : ℕ). c ∷ columns_of (map wanted ds)) (wanted_column shape d (seen d)) ∙ ap (λ (cs : List ℕ). d ∷ cs) (wanted_columns ds)

  pub wanted_lengths : (ds : List ℕ) → All (λ (one : Wanted). one.length ≤ shape.block_size) (map wanted ds)
  wanted_lengths [] = All-nil (λ (one : Wanted). one.length ≤ shape.block_size)
  wanted_lengths (d ∷ ds) = All-cons (λ (one : Wanted). one.length ≤ shape.block_size) (wanted d) (map wanted ds) (wanted_length shape d (seen d)) (wanted_lengths ds)

  pub wanted_within : (p : ℕ → Bool) (n : ℕ) → All (λ (one : Wanted). one.column < n) (map wanted (filter p (range_with_len 0 n)))
  wanted_within p n =
      let numbers : All (λ e. e < n) (range_with_len 0 n) = λ k other inside.
      let below : k < n = omega (arith, inside, length-range_with_len 0 n) in
      omega (arith, below, get_or-range_with_len 0 n k other below) in
      All-map (λ (one : Wanted). one.column < n) wanted (filter p (range_with_len 0 n))
      (All-weaker (λ e. e < n) (λ e. (wanted e).column < n) (λ e below. omega (arith, below, wanted_column shape e (seen e)))
      (filter p (range_with_len 0 n)) (All-filter p (λ e. e < n) (range_with_len 0 n) numbers))

  pub wanted_apart : (p : ℕ → Bool) (n d : ℕ) → p d ≡ false → All (λ (one : Wanted). one.column ≢ d) (map wanted (filter p (range_with_len 0 n)))
  wanted_apart p n d failing =
      All-map (λ (one : Wanted). one.column ≢ d) wanted (filter p (range_with_len 0 n))
      (All-weaker (λ e. p e ≡ true) (λ e. (wanted e).column ≢ d)
      (λ e passing same.
      let is : e ≡ d = sym (wanted_column shape e (seen e)) ∙ same in
      absurd (false≢true (sym failing ∙ ap p (sym is) ∙ passing)))
      (filter p (range_with_len 0 n)) (filter_passes p (range_with_len 0 n)))
