use Rattle.std.proofs.Common.{◌≡◌, ◌<◌, List, [], ◌∷◌, ◌++◌, length, get_or, All, ap, sym, ◌∙◌, subst, arith}
use Rattle.std.proofs.lemmas.List.{length-map, map-append}
use Rattle.std.proofs.lemmas.List.Elements.{All-push}
use Rattle.std.proofs.lemmas.List.FromFn.{map-range_with_len_more}
use Rattle.disk_model.specs.Stamp.{IsStamp}
use Rattle.disk_model.specs.Tree.{listed}
use Rattle.disk_model.specs.declared.meta.FileInfo.{FileInfo}
use Rattle.file_table.specs.Table.{column_at}
use Rattle.array_setup.specs.Setup.{setup_value}
use Rattle.array_scan.specs.declared.sorting.Sorted.{Sorted}
use Rattle.array_scan.specs.declared.sorting.ColumnFiles.{ColumnFiles}
use Rattle.folder_listing.specs.Kept.{ListedFile, each_column, files_of, lists_of, kept_files, kept_lists}
use Rattle.array_scan.specs.Fates.{sorted_files, HasMeta}
use Rattle.array_scan.specs.Layout.{sorted_of, sorted_at, AreSound}
use Rattle.array_scan.proofs.KeptLemmas.{kept_at, kept_stamps, kept_sound}
use Rattle.array_scan.proofs.layout.sort_columns.Goals as goal

pub sort_files-requires-clause-stamps : goal.sort_files-requires-clause-stamps
sort_files-requires-clause-stamps c =
    let setup = setup_value c.args.setup.now in
    let lists = c.args.lists.now in
    let d = c.loop-d.d in
    let below : d < length lists = omega (arith, c.loop-d-test.true, c.disks-d-end.ensures.count, c.requires.lists) in
    let kept : listed c.in_ok-kept_files.kept_files.items ≡ kept_files setup d (files_of (get_or lists d c.index-lists-d.result)) =
    c.in_ok-kept_files.ensures ∙ ap (λ (fs : List FileInfo). kept_files setup d (listed fs)) c.deref.ensures.value in
    subst (All (λ (file : ListedFile). IsStamp file.1.stamp)) (sym kept) (kept_stamps setup lists d c.index-lists-d.result c.requires.order below)

pub loop-d-preserved : goal.loop-d-preserved
loop-d-preserved c =
    let old = c.args.old.now in
    let setup = setup_value c.args.setup.now in
    let lists = c.args.lists.now in
    let d = c.loop-d.d in
    let below : d < length lists = omega (arith, c.loop-d-test.true, c.disks-d-end.ensures.count, c.requires.lists) in
    let kept : listed c.in_ok-kept_files.kept_files.items ≡ get_or (kept_lists setup (lists_of lists)) d [] =
    c.in_ok-kept_files.ensures ∙ ap (λ (fs : List FileInfo). kept_files setup d (listed fs)) c.deref.ensures.value ∙ sym (kept_at setup lists d c.index-lists-d.result below) in
    let files : c.in_ok-files.files.items ≡ sorted_at old (kept_lists setup (lists_of lists)) d = c.in_ok-files.ensures.sorted ∙ ap (sorted_files (column_at old.columns d).records) kept in
    let pushed = ap sorted_of c.in_ok-push.ensures.items ∙ map-append (λ (column : ColumnFiles). column.files.items) c.loop-d.columns.items _ in (
      pushed ∙ ap (λ (fs : List (List Sorted)). fs ++ c.in_ok-files.files.items ∷ []) c.loop-d.invariant.0
          ∙ ap (λ (fs : List Sorted). each_column (sorted_at old (kept_lists setup (lists_of lists))) d ++ fs ∷ []) files
          ∙ sym (map-range_with_len_more (sorted_at old (kept_lists setup (lists_of lists))) 0 d d (omega arith)),
      subst (All (All HasMeta)) (sym pushed) (All-push (All HasMeta) (sorted_of c.loop-d.columns.items) c.in_ok-files.files.items c.loop-d.invariant.1 c.in_ok-files.ensures.metas),
    )

pub returns-clause-sorted : goal.returns-clause-sorted
returns-clause-sorted c =
    let all : c.loop-d.d ≡ length c.args.old.now.columns = omega (arith, c.loop-d-test.false, c.disks-d-end.ensures.count, c.loop-d.auto.d-end) in
    c.loop-d.invariant.0 ∙ ap (each_column (sorted_at c.args.old.now (kept_lists (setup_value c.args.setup.now) (lists_of c.args.lists.now)))) all

pub returns-clause-sound : goal.returns-clause-sound
returns-clause-sound c =
    let lists = c.args.lists.now in
    let many : length (lists_of lists) ≡ length c.args.old.now.columns = length-map lists files_of ∙ c.requires.lists in
    subst (AreSound c.args.old.now) (sym (returns-clause-sorted c)) (kept_sound c.args.old.now (setup_value c.args.setup.now) (lists_of lists) many c.requires.order)
