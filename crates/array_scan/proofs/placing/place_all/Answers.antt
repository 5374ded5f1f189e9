use Rattle.std.proofs.Common.{◌≡◌, ℕ, ◌+◌, ◌<◌, ◌≤◌, List, [], ◌∷◌, ◌++◌, length, get_or, take, drop, Bool, false, All, ap, sym, ◌∙◌, subst, arith}
use Rattle.std.specs.List.{flat_map, range_with_len}
use Rattle.std.proofs.lemmas.List.{length-replicate, map-append}
use Rattle.std.proofs.lemmas.List.FromFn.{map-range_with_len_more}
use Rattle.file_table.specs.Table.{column_at}
use Rattle.file_table.specs.Valid.{most_blocks}
use Rattle.array_scan.specs.declared.placing.Given.{Given}
use Rattle.array_scan.specs.declared.sorting.Sorted.{Sorted}
use Rattle.folder_listing.specs.Kept.{each_column}
use Rattle.array_scan.specs.Fates.{IsSound, AreFates}
use Rattle.array_scan.specs.Laying.{given, touched}
use Rattle.array_scan.specs.Layout.{sorted_of, given_of, given_at, touched_at}
use Rattle.array_scan.specs.Refusals.{size_of}
use Rattle.array_scan.specs.Marks.{AreTouched}
use Rattle.array_scan.proofs.ColumnLemmas.{files_at, files_sound, column_count}
use Rattle.array_scan.proofs.PlacingLemmas.{unmarked, written, column_within}
use Rattle.folder_listing.proofs.JoinedLemmas.{flat_range_more}
use Rattle.array_scan.proofs.placing.place_all.Goals as goal

pub loop-d-init : goal.loop-d-init
loop-d-init c = (
  ap given_of c.in_ok-given.ensures.items,
  ap length c.in_ok-touched.ensures ∙ length-replicate _ false ∙ c.length.ensures.count,
  λ stripe below. ap (λ (ms : List Bool). get_or ms stripe false) c.in_ok-touched.ensures ∙ unmarked _ stripe,
)

pub place-requires-clause-few : goal.place-requires-clause-few
place-requires-clause-few c =
    let old = c.args.old.now in
    let columns = c.args.columns.now in
    let d = c.loop-d.d in
    let below : d < length columns = omega (arith, c.loop-d-test.true, c.disks-d-end.ensures.count, column_count old columns c.requires.sound) in
    let many : d < length (sorted_of columns) = omega (arith, c.loop-d-test.true, c.disks-d-end.ensures.count, c.requires.sound.count) in
    let files : get_or (sorted_of columns) d [] ≡ c.deref.result.now = files_at columns d c.index-columns-d.result below ∙ sym c.deref.ensures.value in
    subst (λ (fs : List Sorted). size_of old.shape.block_size fs ≤ most_blocks) files (omega (arith, column_within old.shape.block_size (sorted_of columns) d many, c.requires.few))

pub place-requires-clause-fates : goal.place-requires-clause-fates
place-requires-clause-fates c =
    let old = c.args.old.now in
    let columns = c.args.columns.now in
    let d = c.loop-d.d in
    let below : d < length old.columns = omega (arith, c.loop-d-test.true, c.disks-d-end.ensures.count) in
    let within : d < length columns = omega (arith, below, column_count old columns c.requires.sound) in
    let files : get_or (sorted_of columns) d [] ≡ c.deref.result.now = files_at columns d c.index-columns-d.result within ∙ sym c.deref.ensures.value in
    subst (AreFates (column_at old.columns d).records) files (c.requires.sound.fates d below)

pub place-requires-clause-sound : goal.place-requires-clause-sound
place-requires-clause-sound c =
    let old = c.args.old.now in
    let d = c.loop-d.d in
    let below : d < length old.columns = omega (arith, c.loop-d-test.true, c.disks-d-end.ensures.count) in
    subst (All (IsSound (length (column_at old.columns d).records))) (sym c.deref.ensures.value) (files_sound old c.args.columns.now d c.index-columns-d.result c.requires.sound below)

pub loop-d-preserved : goal.loop-d-preserved
loop-d-preserved c =
    let old = c.args.old.now in
    let columns = c.args.columns.now in
    let files = sorted_of columns in
    let d = c.loop-d.d in
    let below : d < length columns = omega (arith, c.loop-d-test.true, c.disks-d-end.ensures.count, column_count old columns c.requires.sound) in
    let here : c.deref.result.now ≡ get_or files d [] = c.deref.ensures.value ∙ sym (files_at columns d c.index-columns-d.result below) in
    let given_is : c.in_ok-positions.positions.items ≡ given_at old files d = c.in_ok-positions.ensures.given ∙ ap (given old.shape.block_size (column_at old.columns d)) here in
    let marks = c.deref_mut.result.now in
    let marks_are : marks ≡ c.loop-d.touched.items = c.deref_mut.ensures.value in
    let many : length c.place.new.marks ≡ length c.loop-d.touched.items = omega (arith, c.place.auto.marks, ap length marks_are) in
    let wrote : take c.loop-d.touched.len (c.place.new.marks ++ drop (length c.place.new.marks) c.loop-d.touched.items) ≡ c.place.new.marks = written c.loop-d.touched.len c.place.new.marks c.loop-d.touched.items many (omega (arith, c.loop-d.touched.ok.0)) in
    let earlier = flat_map (touched_at old files) (range_with_len 0 d) in
    let so_far : AreTouched marks earlier = subst (λ (ms : List Bool). AreTouched ms earlier) (sym marks_are) c.loop-d.invariant.2 in
    let more : earlier ++ touched old.shape.block_size (column_at old.columns d) c.deref.result.now ≡ flat_map (touched_at old files) (range_with_len 0 (d + 1)) =
    ap (λ (fs : List Sorted). earlier ++ touched old.shape.block_size (column_at old.columns d) fs) here ∙ flat_range_more (touched_at old files) d in (
      ap given_of c.in_ok-push.ensures.items ∙ map-append (λ (column : Given). column.positions.items) c.loop-d.given.items _
          ∙ ap (λ (gs : List (List ℕ)). gs ++ c.in_ok-positions.positions.items ∷ []) c.loop-d.invariant.0
          ∙ ap (λ (ps : List ℕ). each_column (given_at old files) d ++ ps ∷ []) given_is
          ∙ sym (map-range_with_len_more (given_at old files) 0 d d (omega arith)),
      ap length wrote ∙ many ∙ c.loop-d.invariant.1,
      subst (λ (ms : List Bool). AreTouched ms (flat_map (touched_at old files) (range_with_len 0 (d + 1)))) (sym wrote)
          (subst (AreTouched c.place.new.marks) more (c.in_ok-positions.ensures.touched earlier so_far)),
    )

pub returns-clause-given : goal.returns-clause-given
returns-clause-given c =
    let all : c.loop-d.d ≡ length c.args.old.now.columns = omega (arith, c.loop-d-test.false, c.disks-d-end.ensures.count, c.loop-d.auto.d-end) in
    c.loop-d.invariant.0 ∙ ap (each_column (given_at c.args.old.now (sorted_of c.args.columns.now))) all

pub returns-clause-touched : goal.returns-clause-touched
returns-clause-touched c =
    let all : c.loop-d.d ≡ length c.args.old.now.columns = omega (arith, c.loop-d-test.false, c.disks-d-end.ensures.count, c.loop-d.auto.d-end) in
    subst (λ (n : ℕ). AreTouched c.loop-d.touched.items (flat_map (touched_at c.args.old.now (sorted_of c.args.columns.now)) (range_with_len 0 n))) all c.loop-d.invariant.2
