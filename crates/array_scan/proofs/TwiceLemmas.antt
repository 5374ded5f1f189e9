-- The records of a layout are just the kept files.
use Rattle.std.proofs.Common.{◌≡◌, ℕ, ◌<◌, List, [], ◌∷◌, length, map, get_or, drop, refl, sym, ap, ◌∙◌, arith}
use Rattle.std.specs.List.{range_with_len}
use Rattle.std.proofs.lemmas.List.FromFn.{fill_by_all, length-map-range_with_len, get_or-map-range_with_len}
use Rattle.file_table.specs.Table.{Record, Column, TableValue, column_at, no_meta, no_column}
use Rattle.array_scan.specs.declared.sorting.Sorted.{Sorted}
use Rattle.folder_listing.specs.Kept.{ListedFile}
use Rattle.array_scan.specs.Fates.{file_of, sorted_file, sorted_files}
use Rattle.array_scan.specs.Laying.{needed, given, laid_records}
use Rattle.array_scan.specs.Layout.{sorted_at, all_sorted, column_laid, columns_laid, layout}
use Rattle.array_scan.specs.Own.{own_files, HoldsJust}

pub sorted_each : (table : TableValue) (kept : List (List ListedFile)) (d : ℕ) → d < length table.columns → get_or (all_sorted table kept) d [] ≡ sorted_at table kept d
sorted_each table kept d below = get_or-map-range_with_len (sorted_at table kept) 0 (length table.columns) d d [] below (omega arith)

pub laid_files : (block_size : ℕ) (records : List Record) (free : List ℕ) (files : List Sorted) → own_files (laid_records block_size records free files) ≡ map (λ (file : Sorted). (file.path, file.meta)) files
laid_files block_size records free [] = refl
laid_files block_size records free (file ∷ files) = ap (λ (rest : List ListedFile). (file.path, file.meta) ∷ rest) (laid_files block_size records (drop (needed block_size file) free) files)

sorted_names : (records : List Record) (files : List ListedFile) (ks : List ℕ) → map (λ (file : Sorted). (file.path, file.meta)) (map (sorted_file records files) ks) ≡ map (file_of files) ks
sorted_names records files [] = refl
sorted_names records files (k ∷ ks) = ap (λ (rest : List ListedFile). file_of files k ∷ rest) (sorted_names records files ks)

pub files_again : (records : List Record) (files : List ListedFile) → map (λ (file : Sorted). (file.path, file.meta)) (sorted_files records files) ≡ files
files_again records files =
    sorted_names records files (range_with_len 0 (length files)) ∙ sym (fill_by_all (file_of files) files (length files) ([], no_meta) refl (λ k below. refl))

pub layout_holds : (table : TableValue) (kept : List (List ListedFile)) → length kept ≡ length table.columns → HoldsJust (layout table kept) kept
layout_holds table kept many = record {
  count = many ∙ sym (length-map-range_with_len (column_laid table (all_sorted table kept)) 0 (length table.columns));
  each = λ d below. each d (omega (arith, length-map-range_with_len (column_laid table (all_sorted table kept)) 0 (length table.columns), below));
}
  where
    each : (d : ℕ) → d < length table.columns → get_or kept d [] ≡ own_files (column_at (columns_laid table (all_sorted table kept)) d).records
    each d below =
        let size = table.shape.block_size in
        let column = column_at table.columns d in
        let files = get_or (all_sorted table kept) d [] in
        let laid : column_at (columns_laid table (all_sorted table kept)) d ≡ column_laid table (all_sorted table kept) d =
        get_or-map-range_with_len (column_laid table (all_sorted table kept)) 0 (length table.columns) d d no_column below (omega arith) in
        sym (ap (λ (c : Column). own_files c.records) laid ∙ laid_files size column.records (given size column files) files
        ∙ ap (map (λ (file : Sorted). (file.path, file.meta))) (sorted_each table kept d below) ∙ files_again column.records (get_or kept d []))
