use Rattle.std.proofs.Common.{◌≡◌, ℕ, ◌<◌, List, [], ◌∷◌, ◌++◌, get_or, length, map, All, ap, sym, ◌∙◌, subst, arith, rules}
use Rattle.std.specs.List.{range_with_len}
use Rattle.std.proofs.lemmas.List.{length-map, length_push}
use Rattle.std.proofs.lemmas.List.FromFn.{map-range_with_len_more, length-map-range_with_len, get_or-map-range_with_len}
use Rattle.std.proofs.lemmas.Iterator.Consumers.{YieldsList-turn, YieldsList-end}
use Rattle.std.proofs.lemmas.Iterator.Adapters.{YieldsList-from_vec}
use Rattle.disk_model.specs.Tree.{listed}
use Rattle.disk_model.specs.declared.meta.FileInfo.{FileInfo}
use Rattle.file_table.specs.Table.{Record, column_at, no_meta}
use Rattle.std.proofs.lemmas.List.Elements.{All-push}
use Rattle.array_scan.specs.declared.sorting.Fate.{Fate}
use Rattle.array_scan.specs.declared.sorting.Sorted.{Sorted}
use Rattle.folder_listing.specs.Kept.{ListedFile}
use Rattle.array_scan.specs.Fates.{file_of, fate_of, sorted_file, IsSound, HasMeta}
use Rattle.array_scan.proofs.FatesLemmas.{file_at}
use Rattle.array_scan.proofs.SortedLemmas.{sorted_sound}
use Rattle.array_scan.proofs.sorting.sort_files.Goals as goal

abbrev Fates : List Record → List FileInfo → List Fate
Fates records files = map (fate_of records (listed files)) (range_with_len 0 (length files))

abbrev made : FileInfo → Fate → Sorted
made file fate = record { path = file.path; meta = file.meta; fate = fate }

pub index-requires : goal.index-requires
index-requires c =
    let turn = YieldsList-turn (YieldsList-from_vec {s = c.into_iter-file-iterator.result} c.args.files.items (search rules) (search rules))
    c.loop-file.yielded c.loop-file.file-iterator c.loop-file.yielded_by c.next.result c.next.new.self c.in-Some.file c.in-Some.is c.next.ensures.steps in
    let records = (column_at c.args.old.now.columns c.args.d).records in
    let files = c.args.files.items in
    let fates : c.in_ok-fates.fates.items ≡ Fates records files = c.in_ok-fates.ensures ∙ ap (Fates records) c.deref.ensures.value in
    let below : length c.loop-file.yielded < length files = turn.0 in
    omega (arith, c.in_ok-fates.fates.ok.0, ap length fates, below, c.loop-file.invariant.1, length-map-range_with_len (fate_of records (listed files)) 0 (length files))

pub loop-file-preserved : goal.loop-file-preserved
loop-file-preserved c =
    let turn = YieldsList-turn (YieldsList-from_vec {s = c.into_iter-file-iterator.result} c.args.files.items (search rules) (search rules))
    c.loop-file.yielded c.loop-file.file-iterator c.loop-file.yielded_by c.next.result c.next.new.self c.in-Some.file c.in-Some.is c.next.ensures.steps in
    let records = (column_at c.args.old.now.columns c.args.d).records in
    let files = c.args.files.items in
    let k = c.loop-file.k in
    let same : length c.loop-file.yielded ≡ k = sym c.loop-file.invariant.1 in
    let below : k < length files = subst (λ (n : ℕ). n < length files) same turn.0 in
    let is : c.in-Some.file ≡ get_or files k c.in-Some.file = subst (λ (n : ℕ). c.in-Some.file ≡ get_or files n c.in-Some.file) same turn.1 in
    let file : (c.in-Some.file.path, c.in-Some.file.meta) ≡ file_of (listed files) k = file_at files k c.in-Some.file below is in
    let fates : c.in_ok-fates.fates.items ≡ Fates records files = c.in_ok-fates.ensures ∙ ap (Fates records) c.deref.ensures.value in
    let fate : c.index.result.now ≡ fate_of records (listed files) k =
    c.index.ensures ∙ ap (λ (fs : List Fate). get_or fs k c.index.result.now) fates ∙ get_or-map-range_with_len (fate_of records (listed files)) 0 (length files) k k c.index.result.now below (omega arith) in
    let one : made c.in-Some.file c.index.result.now ≡ sorted_file records (listed files) k =
    ap (λ (f : ListedFile). record { path = f.0; meta = f.1; fate = c.index.result.now }) file
    ∙ ap (λ (f : Fate). record { path = (file_of (listed files) k).0; meta = (file_of (listed files) k).1; fate = f }) fate in (
      c.in_ok-push.ensures.items ∙ ap (λ (fs : List Sorted). fs ++ made c.in-Some.file c.index.result.now ∷ []) c.loop-file.invariant.0
          ∙ ap (λ (f : Sorted). map (sorted_file records (listed files)) (range_with_len 0 k) ++ f ∷ []) one
          ∙ sym (map-range_with_len_more (sorted_file records (listed files)) 0 k k (omega arith)),
      omega (arith, length_push c.loop-file.yielded c.in-Some.file, same),
      subst (All HasMeta) (sym c.in_ok-push.ensures.items) (All-push HasMeta c.loop-file.sorted.items (made c.in-Some.file c.index.result.now) c.loop-file.invariant.2
          (record { size = search rules; seconds = search rules; nanos = subst (λ (f : ListedFile). f.1.stamp.nanos < 1000000000) (sym file) (c.requires.stamps k ([], no_meta) (omega (arith, below, length-map {B = ListedFile} files (λ f. (f.path, f.meta))))) })),
    )

pub returns-clause-sorted : goal.returns-clause-sorted
returns-clause-sorted c =
    let end = YieldsList-end (YieldsList-from_vec {s = c.into_iter-file-iterator.result} c.args.files.items (search rules) (search rules))
    c.loop-file.yielded c.loop-file.file-iterator c.loop-file.yielded_by c.next.result c.next.new.self c.in-None.is c.next.ensures.steps in
    let records = (column_at c.args.old.now.columns c.args.d).records in
    let files = c.args.files.items in
    let all : c.loop-file.k ≡ length (listed files) = omega (arith, c.loop-file.invariant.1, end.1, length-map {B = ListedFile} files (λ f. (f.path, f.meta))) in
    c.loop-file.invariant.0 ∙ ap (λ (n : ℕ). map (sorted_file records (listed files)) (range_with_len 0 n)) all

pub returns-clause-sound : goal.returns-clause-sound
returns-clause-sound c =
    let records = (column_at c.args.old.now.columns c.args.d).records in
    subst (All (IsSound (length records))) (sym (returns-clause-sorted c)) (sorted_sound records (listed c.args.files.items) c.requires.stamps)
