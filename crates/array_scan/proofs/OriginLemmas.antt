-- The blocks of each record are kept by one file at most, of the same size and stamp.
use Rattle.std.proofs.Common.{◌≡◌, ◌⊎◌, inl, inr, ℕ, zero, suc, ◌+◌, ◌<◌, ◌≤◌, ◌&&◌, List, [], ◌∷◌, length, take, get_or, filter, cond, not, Bool, true, false, refl, sym, ap, ◌∙◌, subst, arith, AllPairs, Option, None, Some}
use Rattle.std.specs.List.{slice_get, range_with_len, list_any, position}
use Rattle.std.specs.Option.{is_none}
use Rattle.std.specs.Str.{bytes_eq}
use Rattle.std.specs.Cmp.{tied_itself}
use Rattle.std.specs.Cmp.Lexicographic.{slice_cmp, bytes_decides}
use Rattle.std.specs.Ordering.{nat_cmp}
use Rattle.std.specs.declared.cmp.Ordering.TheVariants.{Less, Equal}
use Rattle.std.proofs.lemmas.Cmp.{nat_list_cmp_total}
use Rattle.std.proofs.lemmas.Bool.{eq-eqb, cases_lt}
use Rattle.std.proofs.lemmas.Option.{same_Some, slice_get_within, get_or_from_slice_get}
use Rattle.std.proofs.lemmas.List.FromFn.{length-range_with_len, get_or-range_with_len, get_or-map-range_with_len, length-map-range_with_len}
use Rattle.std.proofs.lemmas.List.Folds.{list_any_at}
use Rattle.std.proofs.lemmas.List.Kept.{AllPairs-filter}
use Rattle.std.proofs.lemmas.List.Sums.{count_by_more_yes, sum_by-take-le}
use Rattle.std.proofs.lemmas.List.Quantifiers.{position-Some}
use Rattle.std.proofs.lemmas.List.{take-take}
use Rattle.disk_model.specs.declared.meta.Meta.{Meta}
use Rattle.disk_model.specs.Tree.{IsListedBefore}
use Rattle.file_table.specs.Table.{Record, no_record, no_meta}
use Rattle.array_scan.specs.declared.sorting.Sorted.{Sorted}
use Rattle.folder_listing.specs.Kept.{ListedFile}
use Rattle.array_scan.specs.Fates.{record_of, file_of, record_with, is_number, is_listed, is_new, may_move, is_vanished, vanished, is_rival, rivals, source_of, fate_with, fate_without, fate_by, fate_of, sorted_file, sorted_files, origin, HasOriginMeta, ShareNone, AreFates}
use Rattle.folder_listing.specs.Kept.{same_meta}
use Rattle.array_scan.proofs.LostLemmas.{same_is}

-- ---- an element of a filtered range

passes : (p : ℕ → Bool) (xs : List ℕ) (n i : ℕ) → slice_get (filter p xs) n ≡ Some i → p i ≡ true
passes p [] n i is = absurd cc
passes p (x ∷ xs) n i is = by (p x) refl (λ m at. passes p xs m i at) is
  where
    first : (n : ℕ) → p x ≡ true → ((m : ℕ) → slice_get (filter p xs) m ≡ Some i → p i ≡ true) → slice_get (x ∷ filter p xs) n ≡ Some i → p i ≡ true
    first zero holds later at = subst (λ (j : ℕ). p j ≡ true) (same_Some x i at) holds
    first (suc n) holds later at = later n at

    by : (t : Bool) → p x ≡ t → ((m : ℕ) → slice_get (filter p xs) m ≡ Some i → p i ≡ true) → slice_get (cond t (x ∷ filter p xs) (filter p xs)) n ≡ Some i → p i ≡ true
    by true holds later at = first n holds later at
    by false fails later at = later n at

range_rises : (n : ℕ) → AllPairs (λ (a b : ℕ). a < b) (range_with_len 0 n)
range_rises n i j d less within =
    let below : j < n = omega (arith, length-range_with_len 0 n, within) in
    let a = get_or-range_with_len 0 n i d (omega arith) in
    let b = get_or-range_with_len 0 n j d below in
    omega (arith, a, b)

-- ---- how a file came by its origin: by its path, or by its size and stamp

by_path_or_move : (records : List Record) (files : List ListedFile) (k i : ℕ) → origin (fate_of records files k) ≡ Some i
    → ((record_with records (file_of files k).0 ≡ Some i) × ((record_of records i).meta ≡ (file_of files k).1))
    ⊎ ((record_with records (file_of files k).0 ≡ None) × (source_of records files k (file_of files k).1 ≡ Some i))
by_path_or_move records files k i is = named (record_with records path) refl is
  where
    path : List ℕ
    path = (file_of files k).0

    meta : Meta
    meta = (file_of files k).1

    source : Option ℕ
    source = source_of records files k meta

    Result : Type 0
    Result = ((record_with records path ≡ Some i) × ((record_of records i).meta ≡ meta)) ⊎ ((record_with records path ≡ None) × (source ≡ Some i))

    same_or_not : (j : ℕ) (t : Bool) → record_with records path ≡ Some j → same_meta (record_of records j).meta meta ≡ t → origin (fate_with t j) ≡ Some i → Result
    same_or_not j true found same at =
        let j_is : j ≡ i = same_Some j i at in
        inl (found ∙ ap Some j_is, subst (λ (n : ℕ). (record_of records n).meta ≡ meta) j_is (same_is (record_of records j).meta meta same))
    same_or_not j false found same at = absurd cc

    moved : (o : Option ℕ) → record_with records path ≡ None → source ≡ o → origin (fate_without o) ≡ Some i → Result
    moved None none from at = absurd cc
    moved (Some j) none from at = inr (none, from ∙ at)

    named : (o : Option ℕ) → record_with records path ≡ o → origin (fate_by records meta o source) ≡ Some i → Result
    named None none at = moved source none refl at
    named (Some j) found at = same_or_not j (same_meta (record_of records j).meta meta) found refl at

-- a file that moved is one of those that may, and was a vanished record
record IsMoved (records : List Record) (files : List ListedFile) (k : ℕ) (meta : Meta) (i : ℕ) : Type 0 where
  at : slice_get (vanished records files meta) (rivals records (take k files) meta) ≡ Some i
  unlisted : is_listed records files i ≡ false
  meta_is : (record_of records i).meta ≡ meta

is_moved : (records : List Record) (files : List ListedFile) (k : ℕ) (meta : Meta) (i : ℕ) → source_of records files k meta ≡ Some i → IsMoved records files k meta i
is_moved records files k meta i is = by (may_move meta) is
  where
    both : (s t : Bool) → (not s && t) ≡ true → (s ≡ false) × (t ≡ true)
    both false t h = (refl, h)
    both true t h = absurd cc

    by : (t : Bool) → cond t (slice_get (vanished records files meta) (rivals records (take k files) meta)) None ≡ Some i → IsMoved records files k meta i
    by false at = absurd cc
    by true at =
        let two = both (is_listed records files i) (same_meta (record_of records i).meta meta) (passes (is_vanished records files meta) (range_with_len 0 (length records)) (rivals records (take k files) meta) i at) in
        record { at = at; unlisted = two.0; meta_is = same_is (record_of records i).meta meta two.1 }

origin_meta : (records : List Record) (files : List ListedFile) (k i : ℕ) → origin (fate_of records files k) ≡ Some i → (record_of records i).meta ≡ (file_of files k).1
origin_meta records files k i is = elim (by_path_or_move records files k i is) [
  | inl named ↦ named.1
  | inr moved ↦ (is_moved records files k (file_of files k).1 i moved.1).meta_is
]

-- ---- two files

module _ (records : List Record) (files : List ListedFile) (order : AllPairs (λ (a b : ListedFile). IsListedBefore a.0 b.0) files) (k l i : ℕ) (less : k < l) (within : l < length files) where
  not_less : (path : List ℕ) → slice_cmp nat_cmp path path ≡ Less → ⊥
  not_less path is = let tied : slice_cmp nat_cmp path path ≡ Equal = tied_itself nat_list_cmp_total path in cc

  path_of_record : (m : ℕ) → record_with records (file_of files m).0 ≡ Some i → (record_of records i).path ≡ (file_of files m).0
  path_of_record m found =
      let h = position-Some (λ (kept : Record). bytes_eq kept.path (file_of files m).0) records i no_record found in
      (bytes_decides (record_of records i).path (file_of files m).0).0 h.1

  both_named : record_with records (file_of files k).0 ≡ Some i → record_with records (file_of files l).0 ≡ Some i → ⊥
  both_named one two =
      let same : (file_of files k).0 ≡ (file_of files l).0 = sym (path_of_record k one) ∙ path_of_record l two in
      not_less (file_of files l).0 (subst (λ (p : List ℕ). slice_cmp nat_cmp p (file_of files l).0 ≡ Less) same (order k l ([], no_meta) less within).less)

  named_and_moved : (m : ℕ) → m < length files → record_with records (file_of files m).0 ≡ Some i → is_listed records files i ≡ false → ⊥
  named_and_moved m inside found unlisted =
      let here : is_number i (record_with records (file_of files m).0) ≡ true = ap (is_number i) found ∙ eq-eqb i i refl in
      let listed : is_listed records files i ≡ true = list_any_at (λ (file : ListedFile). is_number i (record_with records file.0)) files m ([], no_meta) inside here in
      cc

  rivals_grow : (meta : Meta) (a b : ℕ) → a ≤ b → rivals records (take a files) meta ≤ rivals records (take b files) meta
  rivals_grow meta a b at_most =
      let same : take a (take b files) ≡ take a files = take-take a b files at_most in
      subst (λ (fs : List ListedFile). rivals records fs meta ≤ rivals records (take b files) meta) same
      (sum_by-take-le (λ (f : ListedFile). cond (is_rival records meta f) 1 0) (take b files) a)

  both_moved : (meta : Meta) → (file_of files k).1 ≡ meta → record_with records (file_of files k).0 ≡ None
      → slice_get (vanished records files meta) (rivals records (take k files) meta) ≡ Some i → slice_get (vanished records files meta) (rivals records (take l files) meta) ≡ Some i → ⊥
  both_moved meta meta_is none one two =
      let xs = vanished records files meta in
      let a = rivals records (take k files) meta in
      let b = rivals records (take l files) meta in
      let new : is_new records (file_of files k) ≡ true = ap is_none none in
      let alike : same_meta (file_of files k).1 meta ≡ true = ap (λ (m : Meta). same_meta m meta) meta_is ∙ itself meta in
      let rival : is_rival records meta (file_of files k) ≡ true = ap (λ (t : Bool). t && same_meta (file_of files k).1 meta) new ∙ alike in
      let more : rivals records (take (k + 1) files) meta ≡ a + 1 = count_by_more_yes (is_rival records meta) files k ([], no_meta) (omega arith) rival in
      let later : a < b = omega (arith, more, rivals_grow meta (k + 1) l (omega arith)) in
      let inside : b < length xs = slice_get_within xs b i two in
      let rises : AllPairs (λ (x y : ℕ). x < y) xs = AllPairs-filter (λ (x y : ℕ). x < y) (is_vanished records files meta) (range_with_len 0 (length records)) (range_rises (length records)) in
      let apart : get_or xs a 0 < get_or xs b 0 = rises a b 0 later inside in
      let first : get_or xs a 0 ≡ i = get_or_from_slice_get xs a i 0 one in
      let second : get_or xs b 0 ≡ i = get_or_from_slice_get xs b i 0 two in
      omega (arith, apart, first, second)
    where
      itself : (m : Meta) → same_meta m m ≡ true
      itself m =
          ap (λ (t : Bool). (t && Rattle.std.specs.Ordering.int_eq m.stamp.seconds m.stamp.seconds) && Rattle.std.specs.Prelude.nat_eq m.stamp.nanos m.stamp.nanos) (eq-eqb m.size m.size refl)
          ∙ ap (λ (t : Bool). t && Rattle.std.specs.Prelude.nat_eq m.stamp.nanos m.stamp.nanos) ((Rattle.std.proofs.lemmas.Bool.Decides.Decides-int_eq m.stamp.seconds m.stamp.seconds).1 refl)
          ∙ eq-eqb m.stamp.nanos m.stamp.nanos refl

  origins_apart : origin (fate_of records files k) ≡ Some i → origin (fate_of records files l) ≡ Some i → ⊥
  origins_apart one two =
      elim (by_path_or_move records files k i one) [
        | inl first ↦
            elim (by_path_or_move records files l i two) [
              | inl second ↦ both_named first.0 second.0
              | inr second ↦ named_and_moved k (omega arith) first.0 (is_moved records files l (file_of files l).1 i second.1).unlisted
            ]
        | inr first ↦
            elim (by_path_or_move records files l i two) [
              | inl second ↦ named_and_moved l within second.0 (is_moved records files k (file_of files k).1 i first.1).unlisted
              | inr second ↦
                  let a = is_moved records files k (file_of files k).1 i first.1 in
                  let b = is_moved records files l (file_of files l).1 i second.1 in
                  let meta = (record_of records i).meta in
                  both_moved meta (sym a.meta_is) first.0
                  (subst (λ (m : Meta). slice_get (vanished records files m) (rivals records (take k files) m) ≡ Some i) (sym a.meta_is) a.at)
                  (subst (λ (m : Meta). slice_get (vanished records files m) (rivals records (take l files) m) ≡ Some i) (sym b.meta_is) b.at)
            ]
      ]

-- ---- sorted files

sorted_file_at : (records : List Record) (files : List ListedFile) (k : ℕ) (d : Sorted) → k < length files → get_or (sorted_files records files) k d ≡ sorted_file records files k
sorted_file_at records files k d below = get_or-map-range_with_len (sorted_file records files) 0 (length files) k k d below (omega arith)

pub sorted_fates : (records : List Record) (files : List ListedFile) → AllPairs (λ (a b : ListedFile). IsListedBefore a.0 b.0) files → AreFates records (sorted_files records files)
sorted_fates records files order = record {
  same = λ k d within.
      let below : k < length files = omega (arith, within, length-map-range_with_len (sorted_file records files) 0 (length files)) in
      subst (HasOriginMeta records) (sym (sorted_file_at records files k d below)) (λ i is. origin_meta records files k i is);
  apart = λ k l d less within.
      let below : l < length files = omega (arith, within, length-map-range_with_len (sorted_file records files) 0 (length files)) in
      subst (ShareNone (get_or (sorted_files records files) k d)) (sym (sorted_file_at records files l d below))
      (subst (λ (a : Sorted). ShareNone a (sorted_file records files l)) (sym (sorted_file_at records files k d (omega arith)))
      (λ i one two. origins_apart records files order k l i less below one two));
}
