use Rattle.std.proofs.Common.{◌≡◌, List, None, ap, sym, subst, ◌∙◌}
use Rattle.array_setup.specs.Setup.{setup_value}
use Rattle.array_scan.specs.declared.sorting.ColumnFiles.{ColumnFiles}
use Rattle.array_scan.specs.declared.sorting.Sorted.{Sorted}
use Rattle.folder_listing.specs.Kept.{kept_lists, lists_of}
use Rattle.array_scan.specs.Layout.{sorted_of, all_sorted, laid_table, AreSound}
use Rattle.array_scan.specs.Refusals.{refusal}
use Rattle.array_scan.proofs.RefusalLemmas.{is_cause, few_blocks}
use Rattle.std.proofs.Common.{length, All}
use Rattle.std.proofs.lemmas.List.{length-map}
use Rattle.file_table.specs.Valid.{IsValid}
use Rattle.array_scan.specs.Fates.{HasMeta}
use Rattle.folder_listing.specs.Kept.{files_of}
use Rattle.array_scan.proofs.KeptLemmas.{are_kept}
use Rattle.array_scan.proofs.LaidLemmas.{IsValid-layout}
use Rattle.array_scan.proofs.RefusalLemmas.{few_files}
use Rattle.array_scan.proofs.layout.lay_out.Goals as goal

pub refusal-requires : goal.refusal-requires
refusal-requires c =
    subst (λ (columns : List ColumnFiles). AreSound c.args.old.now (sorted_of columns)) (sym c.as_slice-files.ensures.value) c.in_ok-columns.ensures.sound

pub place_all-requires-clause-sound : goal.place_all-requires-clause-sound
place_all-requires-clause-sound c =
    subst (λ (columns : List ColumnFiles). AreSound c.args.old.now (sorted_of columns)) (sym c.as_slice-files.ensures.value) c.in_ok-columns.ensures.sound

pub place_all-requires-clause-few : goal.place_all-requires-clause-few
place_all-requires-clause-few c =
    few_blocks c.args.way.now.force_zero c.args.way.now.force_empty c.args.old.now (sorted_of c.as_slice-files.result.now) (sym c.refusal.ensures ∙ c.in_default.is)

pub returns-in-Some-clause-refused : goal.returns-in-Some-clause-refused
returns-in-Some-clause-refused c =
    let old = c.args.old.now in
    let files = all_sorted old (kept_lists (setup_value c.args.setup.now) (lists_of c.args.lists.now)) in
    let sorted : sorted_of c.as_slice-files.result.now ≡ files = ap sorted_of c.as_slice-files.ensures.value ∙ c.in_ok-columns.ensures.sorted in
    is_cause (refusal c.args.way.now.force_zero c.args.way.now.force_empty old files) c.in-Some.fault
    (sym (ap (refusal c.args.way.now.force_zero c.args.way.now.force_empty old) sorted) ∙ sym c.refusal.ensures ∙ c.in-Some.is)

pub build-requires-clause-valid : goal.build-requires-clause-valid
build-requires-clause-valid c =
    let old = c.args.old.now in
    let setup = setup_value c.args.setup.now in
    let lists = c.args.lists.now in
    let kept = kept_lists setup (lists_of lists) in
    let files = all_sorted old kept in
    let same : sorted_of c.in_ok-columns.columns.items ≡ files = c.in_ok-columns.ensures.sorted in
    let shown : sorted_of c.as_slice-files.result.now ≡ files = ap sorted_of c.as_slice-files.ensures.value ∙ same in
    let none : refusal c.args.way.now.force_zero c.args.way.now.force_empty old files ≡ None =
    ap (refusal c.args.way.now.force_zero c.args.way.now.force_empty old) (sym shown) ∙ sym c.refusal.ensures ∙ c.in_default.is in
    let many : length (lists_of lists) ≡ length old.columns = length-map lists files_of ∙ c.requires.lists in
    let are = are_kept old setup (lists_of lists) many c.requires.order (subst (All (All HasMeta)) same c.in_ok-columns.ensures.metas) in
    subst (λ (fs : List (List Sorted)). IsValid (laid_table old fs)) (sym same)
    (IsValid-layout old kept c.in_ok-columns.ensures.valid are (few_blocks c.args.way.now.force_zero c.args.way.now.force_empty old files none) (few_files c.args.way.now.force_zero c.args.way.now.force_empty old files none))

pub returns-in-Ok-clause-laid : goal.returns-in-Ok-clause-laid
returns-in-Ok-clause-laid c = c.in-Ok.ensures.built ∙ ap (laid_table c.args.old.now) c.in_ok-columns.ensures.sorted
