use Rattle.std.proofs.Common.{◌≡◌, ℕ, ◌+◌, ◌<◌, List, [], ◌∷◌, ◌++◌, length, get_or, max, All, ap, sym, ◌∙◌, subst, arith}
use Rattle.std.proofs.lemmas.List.{append-nil}
use Rattle.std.proofs.lemmas.Grind.{flat_map-append}
use Rattle.std.proofs.lemmas.List.FromFn.{map-range_with_len_more, length-map-range_with_len, get_or-map-range_with_len}
use Rattle.file_table.specs.declared.block.Block.{Block}
use Rattle.file_table.specs.Table.{Column, column_at, column_blocks, blocks_of, positions_of, end_of, no_column}
use Rattle.file_table.specs.Valid.{most_blocks}
use Rattle.array_scan.specs.declared.sorting.Sorted.{Sorted}
use Rattle.folder_listing.specs.Kept.{each_column}
use Rattle.array_scan.specs.Fates.{IsSound}
use Rattle.array_scan.specs.Laying.{taken, all_needed, blocks_laid}
use Rattle.array_scan.specs.Layout.{sorted_of, given_at, column_laid, columns_laid}
use Rattle.array_scan.specs.Marks.{StandBelow}
use Rattle.array_scan.proofs.ColumnLemmas.{files_at, files_sound, positions_at, given_count, column_count}
use Rattle.array_scan.proofs.EndLemmas.{end_of_blocks-append}
use Rattle.folder_listing.proofs.JoinedLemmas.{all_of_flat}
use Rattle.array_scan.proofs.PushingLemmas.{length-free}
use Rattle.array_scan.proofs.building.stripes_of.Goals as goal

pub bounds-given-at : goal.bounds-given-at
bounds-given-at c = omega (arith, c.loop-d-test.true, c.disks-d-end.ensures.count, given_count c.args.old.now (sorted_of c.args.columns.now) c.args.given.now c.requires.given)

pub end_of_files-end-requires-clause-sound : goal.end_of_files-end-requires-clause-sound
end_of_files-end-requires-clause-sound c =
    let old = c.args.old.now in
    let d = c.loop-d.d in
    let below : d < length old.columns = omega (arith, c.loop-d-test.true, c.disks-d-end.ensures.count) in
    subst (All (IsSound (length (column_at old.columns d).records))) (sym c.deref.ensures.value) (files_sound old c.args.columns.now d c.index-columns-at.result c.requires.sound below)

pub end_of_files-end-requires-clause-given : goal.end_of_files-end-requires-clause-given
end_of_files-end-requires-clause-given c =
    let old = c.args.old.now in
    let size = old.shape.block_size in
    let columns = c.args.columns.now in
    let files = sorted_of columns in
    let d = c.loop-d.d in
    let below : d < length old.columns = omega (arith, c.loop-d-test.true, c.disks-d-end.ensures.count) in
    let here : get_or files d [] ≡ c.deref.result.now = files_at columns d c.index-columns-at.result (omega (arith, below, column_count old columns c.requires.sound)) ∙ sym c.deref.ensures.value in
    let free : c.deref-in-loop-d.result.now ≡ given_at old files d = c.deref-in-loop-d.ensures.value ∙ (positions_at old files c.args.given.now d c.index-given-at.result c.requires.given below).1 in
    ap length free ∙ length-free (taken (column_at old.columns d).records (get_or files d [])) (all_needed size (get_or files d [])) ∙ ap (all_needed size) here

pub end_of_files-end-requires-clause-below : goal.end_of_files-end-requires-clause-below
end_of_files-end-requires-clause-below c =
    let old = c.args.old.now in
    let size = old.shape.block_size in
    let columns = c.args.columns.now in
    let files = sorted_of columns in
    let d = c.loop-d.d in
    let records = (column_at old.columns d).records in
    let below : d < length old.columns = omega (arith, c.loop-d-test.true, c.disks-d-end.ensures.count) in
    let here : get_or files d [] ≡ c.deref.result.now = files_at columns d c.index-columns-at.result (omega (arith, below, column_count old columns c.requires.sound)) ∙ sym c.deref.ensures.value in
    let free : c.deref-in-loop-d.result.now ≡ given_at old files d = c.deref-in-loop-d.ensures.value ∙ (positions_at old files c.args.given.now d c.index-given-at.result c.requires.given below).1 in
    let many : d < length (columns_laid old files) = omega (arith, below, length-map-range_with_len (column_laid old files) 0 (length old.columns)) in
    let all : StandBelow most_blocks (column_blocks (get_or (columns_laid old files) d no_column)) = all_of_flat (λ (b : Block). b.position < most_blocks) column_blocks (columns_laid old files) c.requires.below d no_column many in
    let laid : StandBelow most_blocks (column_blocks (column_laid old files d)) =
    subst (λ (k : Column). StandBelow most_blocks (column_blocks k)) (get_or-map-range_with_len (column_laid old files) 0 (length old.columns) d d no_column below (omega arith)) all in
    subst (λ (fs : List Sorted). StandBelow most_blocks (blocks_laid size records c.deref-in-loop-d.result.now fs)) here
    (subst (λ (ps : List ℕ). StandBelow most_blocks (blocks_laid size records ps (get_or files d []))) (sym free) laid)

pub loop-d-preserved : goal.loop-d-preserved
loop-d-preserved c =
    let old = c.args.old.now in
    let size = old.shape.block_size in
    let columns = c.args.columns.now in
    let files = sorted_of columns in
    let d = c.loop-d.d in
    let records = (column_at old.columns d).records in
    let below : d < length old.columns = omega (arith, c.loop-d-test.true, c.disks-d-end.ensures.count) in
    let here : get_or files d [] ≡ c.deref.result.now = files_at columns d c.index-columns-at.result (omega (arith, below, column_count old columns c.requires.sound)) ∙ sym c.deref.ensures.value in
    let free : c.deref-in-loop-d.result.now ≡ given_at old files d = c.deref-in-loop-d.ensures.value ∙ (positions_at old files c.args.given.now d c.index-given-at.result c.requires.given below).1 in
    let laid : blocks_laid size records c.deref-in-loop-d.result.now c.deref.result.now ≡ column_blocks (column_laid old files d) =
    ap (λ (ps : List ℕ). blocks_laid size records ps c.deref.result.now) free ∙ ap (blocks_laid size records (given_at old files d)) (sym here) in
    let so_far = each_column (column_laid old files) d in
    let more : blocks_of (each_column (column_laid old files) (d + 1)) ≡ blocks_of so_far ++ column_blocks (column_laid old files d) =
    ap blocks_of (map-range_with_len_more (column_laid old files) 0 d d (omega arith)) ∙ flat_map-append column_blocks so_far (column_laid old files d ∷ [])
    ∙ ap (λ (bs : List Block). blocks_of so_far ++ bs) (append-nil (column_blocks (column_laid old files d))) in
    let all = ap (λ (bs : List Block). end_of (positions_of bs)) more ∙ end_of_blocks-append (blocks_of so_far) (column_blocks (column_laid old files d)) in
    let step = c.end_of_files-end.ensures ∙ ap (λ (bs : List Block). max c.loop-d.end (end_of (positions_of bs))) laid in
    omega (arith, step, c.loop-d.invariant, all)
