-- The kept files of each column.
use Rattle.std.proofs.Common.{◌≡◌, ℕ, ◌<◌, List, [], length, get_or, All, AllPairs, ap, sym, ◌∙◌, subst, arith}
use Rattle.std.proofs.lemmas.List.{length-map, get_or-map}
use Rattle.std.proofs.lemmas.List.FromFn.{length-map-range_with_len, get_or-map-range_with_len}
use Rattle.std.proofs.lemmas.List.Elements.{All-filter}
use Rattle.std.proofs.lemmas.List.Kept.{AllPairs-filter}
use Rattle.disk_model.specs.Stamp.{IsStamp}
use Rattle.disk_model.specs.Tree.{IsListing, IsListedBefore}
use Rattle.file_table.specs.Table.{TableValue, column_at}
use Rattle.array_setup.specs.Setup.{SetupValue}
use Rattle.std.specs.List.{list_all, ends_with, AllByRecursion}
use Rattle.std.proofs.Common.{◌∷◌, not, Bool, true, false, nat_le, nat_eq, refl}
use Rattle.std.proofs.lemmas.Bool.{leb-true}
use Rattle.std.proofs.lemmas.Bool.Decides.{Decides-eqb}
use Rattle.std.proofs.lemmas.Slice.Eq.{ends_is}
use Rattle.std.proofs.lemmas.List.{get_or_default}
use Rattle.std.proofs.lemmas.List.Elements.{filter_passes}
use Rattle.disk_model.specs.Path.{IsValidPath, IsRecordPath, EndsWith, components, lost_suffix}
use Rattle.file_table.specs.Table.{no_meta}
use Rattle.file_table.specs.Valid.{IsMeta}
use Rattle.array_setup.specs.Keeps.{is_recordable}
use Rattle.folder_listing.specs.declared.listing.Listing.{Listing}
use Rattle.folder_listing.specs.Kept.{ListedFile, files_of, lists_of, is_kept, kept_files, kept_lists}
use Rattle.array_scan.specs.Fates.{IsSound, AreFates, HasMeta, file_of, sorted_file, sorted_files}
use Rattle.array_scan.specs.Own.{AreKeptFiles, AreKept}
use Rattle.array_scan.specs.Layout.{sorted_at, all_sorted, AreSound}
use Rattle.array_scan.proofs.LostLemmas.{both_true}
use Rattle.array_scan.proofs.OriginLemmas.{sorted_fates}
use Rattle.array_scan.proofs.SortedLemmas.{sorted_sound}
use Rattle.folder_listing.proofs.ListedLemmas.{list_at}

abbrev kept_of : SetupValue → List (List ListedFile) → ℕ → List ListedFile
kept_of setup lists d = kept_files setup d (get_or lists d [])

pub kept_each : (setup : SetupValue) (lists : List (List ListedFile)) (d : ℕ) → d < length lists → get_or (kept_lists setup lists) d [] ≡ kept_files setup d (get_or lists d [])
kept_each setup lists d within = get_or-map-range_with_len (kept_of setup lists) 0 (length lists) d d [] within (omega arith)

pub kept_at : (setup : SetupValue) (lists : List Listing) (d : ℕ) (e : Listing) → d < length lists → get_or (kept_lists setup (lists_of lists)) d [] ≡ kept_files setup d (files_of (get_or lists d e))
kept_at setup lists d e within =
    kept_each setup (lists_of lists) d (omega (arith, length-map lists files_of)) ∙ ap (kept_files setup d) (list_at lists d e within)

abbrev HasStamp : ListedFile → Type 0
HasStamp file = IsStamp file.1.stamp

pub kept_stamps : (setup : SetupValue) (lists : List Listing) (d : ℕ) (e : Listing) → All IsListing (lists_of lists) → d < length lists → All HasStamp (kept_files setup d (files_of (get_or lists d e)))
kept_stamps setup lists d e order within =
    let listing : IsListing (files_of (get_or lists d e)) = subst IsListing (list_at lists d e within) (order d [] (omega (arith, length-map lists files_of))) in
    All-filter (is_kept setup d) HasStamp (files_of (get_or lists d e)) listing.stamps

abbrev pub Before : ListedFile → ListedFile → Type 0
Before a b = IsListedBefore a.0 b.0

-- sorted, they are files of the columns
pub kept_sound : (old : TableValue) (setup : SetupValue) (lists : List (List ListedFile)) → length lists ≡ length old.columns → All IsListing lists → AreSound old (all_sorted old (kept_lists setup lists))
kept_sound old setup lists many order = record {
  count = length-map-range_with_len (sorted_at old (kept_lists setup lists)) 0 (length old.columns);
  each = λ d below. each d below;
  fates = λ d below. fates d below;
}
  where
    fates : (d : ℕ) → d < length old.columns → AreFates (column_at old.columns d).records (get_or (all_sorted old (kept_lists setup lists)) d [])
    fates d below =
        let within : d < length lists = omega (arith, many) in
        let listing : IsListing (get_or lists d []) = order d [] within in
        let rises : AllPairs Before (get_or (kept_lists setup lists) d []) =
        subst (AllPairs Before) (sym (kept_each setup lists d within)) (AllPairs-filter Before (is_kept setup d) (get_or lists d []) listing.order) in
        subst (AreFates (column_at old.columns d).records) (sym (get_or-map-range_with_len (sorted_at old (kept_lists setup lists)) 0 (length old.columns) d d [] below (omega arith)))
        (sorted_fates (column_at old.columns d).records (get_or (kept_lists setup lists) d []) rises)

    each : (d : ℕ) → d < length old.columns → All (IsSound (length (column_at old.columns d).records)) (get_or (all_sorted old (kept_lists setup lists)) d [])
    each d below =
        let within : d < length lists = omega (arith, many) in
        let kept = kept_each setup lists d within in
        let listing : IsListing (get_or lists d []) = order d [] within in
        let stamps : All HasStamp (get_or (kept_lists setup lists) d []) = subst (All HasStamp) (sym kept) (All-filter (is_kept setup d) HasStamp (get_or lists d []) listing.stamps) in
        subst (All (IsSound (length (column_at old.columns d).records))) (sym (get_or-map-range_with_len (sorted_at old (kept_lists setup lists)) 0 (length old.columns) d d [] below (omega arith)))
        (sorted_sound (column_at old.columns d).records (get_or (kept_lists setup lists) d []) stamps)

-- ---- kept files have paths of records

record_path : (path : List ℕ) → is_recordable path ≡ true → IsValidPath path → IsRecordPath path
record_path path is valid =
    let both = both_true (nat_le (length path) 4082) (list_all (λ part. not (ends_with nat_eq part lost_suffix)) (components path)) is in
    record { valid = valid; short = leb-true (length path) 4082 both.0; not_lost = parts (components path) both.1 }
  where
    clash : (part : List ℕ) (t : Bool) → t ≡ ends_with nat_eq part lost_suffix → not (ends_with nat_eq part lost_suffix) ≡ true → EndsWith lost_suffix part → ⊥
    clash part t is other ends =
        let found : t ≡ true = (ends_is Decides-eqb part lost_suffix t is).1 ends.0 ends.1 in
        let wrong : false ≡ true = ap not (sym found) ∙ ap not is ∙ other in
        cc

    parts : (ps : List (List ℕ)) → list_all (λ part. not (ends_with nat_eq part lost_suffix)) ps ≡ true → AllByRecursion (λ (part : List ℕ). ¬ (EndsWith lost_suffix part)) ps
    parts [] all = tt
    parts (part ∷ ps) all =
        let two = both_true (not (ends_with nat_eq part lost_suffix)) (list_all (λ p. not (ends_with nat_eq p lost_suffix)) ps) all in
        (λ ends. clash part (ends_with nat_eq part lost_suffix) refl two.0 ends, parts ps two.1)

kept_path : (setup : SetupValue) (d : ℕ) (file : ListedFile) → is_kept setup d file ≡ true → IsValidPath file.0 → IsRecordPath file.0
kept_path setup d file kept valid =
    record_path file.0 (both_true _ _ (both_true _ _ (both_true _ _ kept).0).0).0 valid

-- the kept files of listings, whose sizes and stamps fit their fields
pub are_kept : (old : TableValue) (setup : SetupValue) (lists : List (List ListedFile)) → length lists ≡ length old.columns → All IsListing lists
    → All (All HasMeta) (all_sorted old (kept_lists setup lists)) → AreKept old (kept_lists setup lists)
are_kept old setup lists many order metas = record {
  count = length-map-range_with_len (kept_of setup lists) 0 (length lists) ∙ many;
  each = λ d below. each d below;
}
  where
    each : (d : ℕ) → d < length old.columns → AreKeptFiles (get_or (kept_lists setup lists) d [])
    each d below =
        let within : d < length lists = omega (arith, many) in
        let listing : IsListing (get_or lists d []) = order d [] within in
        let files = get_or lists d [] in
        let kept = kept_files setup d files in
        let is = kept_each setup lists d within in
        let passes = filter_passes (is_kept setup d) files in
        let valid = All-filter (is_kept setup d) (λ (f : ListedFile). IsValidPath f.0) files listing.valid in
        let records = (column_at old.columns d).records in
        let sorted = get_or-map-range_with_len (sorted_at old (kept_lists setup lists)) 0 (length old.columns) d d [] below (omega arith) in
        let has : All HasMeta (sorted_files records (get_or (kept_lists setup lists) d [])) =
        subst (All HasMeta) sorted (metas d [] (omega (arith, length-map-range_with_len (sorted_at old (kept_lists setup lists)) 0 (length old.columns)))) in
        let here : All HasMeta (sorted_files records kept) = subst (λ (fs : List ListedFile). All HasMeta (sorted_files records fs)) is has in
        let made : AreKeptFiles kept = record {
          order = AllPairs-filter Before (is_kept setup d) files listing.order;
          paths = λ k e inside. kept_path setup d (get_or kept k e) (passes k e inside) (valid k e inside);
          metas = λ k e inside.
              let at = get_or-map-range_with_len (sorted_file records kept) 0 (length kept) k k (sorted_file records kept k) inside (omega arith) in
              let meta : IsMeta (file_of kept k).1 = subst HasMeta at (here k (sorted_file records kept k) (omega (arith, inside, length-map-range_with_len (sorted_file records kept) 0 (length kept)))) in
              subst (λ (f : ListedFile). IsMeta f.1) (get_or_default kept k ([], no_meta) e inside) meta;
        } in
        subst AreKeptFiles (sym is) made
