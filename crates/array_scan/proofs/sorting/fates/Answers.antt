use Rattle.std.proofs.Common.{◌≡◌, ℕ, ◌+◌, ◌<◌, ◌&&◌, List, [], ◌∷◌, ◌++◌, get_or, length, map, Bool, false, Option, ap, sym, ◌∙◌, arith}
use Rattle.std.specs.List.{range_with_len, list_any}
use Rattle.std.specs.Option.{is_none}
use Rattle.std.proofs.lemmas.List.{length-map, get_or-map}
use Rattle.std.proofs.lemmas.List.FromFn.{map-range_with_len_more}
use Rattle.disk_model.specs.declared.meta.Meta.{Meta}
use Rattle.disk_model.specs.Tree.{listed}
use Rattle.file_table.specs.Table.{column_at, no_meta}
use Rattle.array_scan.specs.declared.sorting.Fate.{Fate}
use Rattle.folder_listing.specs.Kept.{ListedFile}
use Rattle.array_scan.specs.Fates.{file_of, is_number, is_listed, record_with, may_move, fate_of}
use Rattle.array_scan.specs.Lost.{left_by}
use Rattle.array_scan.proofs.FatesLemmas.{any_mapped, left_like, left_before, left_after, fate_is, file_at}
use Rattle.array_scan.proofs.sorting.fates.Goals as goal

pub loop-k-init : goal.loop-k-init
loop-k-init c =
    let records = (column_at c.args.old.now.columns c.args.d).records in
    let files = listed c.args.files.now in
    let path_record : ListedFile → Option ℕ = λ file. record_with records file.0 in
    let marks : (i : ℕ) → get_or c.deref-2.result.now i false ≡ is_listed records files i =
    λ i.
    ap (λ (ms : List Bool). get_or ms i false) c.deref-2.ensures.value ∙ c.in_ok-marks.ensures.marks i
    ∙ ap (list_any (is_number i)) (c.deref.ensures.value ∙ c.in_ok-named.ensures.named) ∙ any_mapped path_record (is_number i) files in
    (c.in_ok-fates.ensures.items, c.in_ok-lost.ensures files marks)

pub loop-k-preserved : goal.loop-k-preserved
loop-k-preserved c =
    let records = (column_at c.args.old.now.columns c.args.d).records in
    let files = listed c.args.files.now in
    let k = c.loop-k.k in
    let within : k < length c.args.files.now = c.loop-k-test.true in
    let many : k < length files = omega (arith, length-map {B = ListedFile} c.args.files.now (λ f. (f.path, f.meta))) in
    let file = file_at c.args.files.now k c.index-files-k.result within c.index-files-k.is in
    let meta : c.index-files-k.result.meta ≡ (file_of files k).1 = ap (λ (f : ListedFile). f.1) file in
    let path_record : ListedFile → Option ℕ = λ f. record_with records f.0 in
    let read : c.index.result.now ≡ get_or (map path_record files) k c.index.result.now = c.index.ensures ∙ ap (λ (os : List (Option ℕ)). get_or os k c.index.result.now) c.in_ok-named.ensures.named in
    let named : c.index.result.now ≡ record_with records (file_of files k).0 = read ∙ get_or-map path_record files k ([], no_meta) c.index.result.now many in
    let fate : c.in_ok-fate_of_file.field-0 ≡ fate_of records files k =
    fate_is records files k c.index.result.now c.index-files-k.result.meta c.in_ok-fate_of_file.field-0 named meta (c.in_ok-fate_of_file.ensures.fate (left_before records files k) c.loop-k.invariant.1) in
    let lost = c.fate_of_file.new.lost in (
      c.in_ok-push.ensures.items ∙ ap (λ (fs : List Fate). fs ++ c.in_ok-fate_of_file.field-0 ∷ []) c.loop-k.invariant.0
          ∙ ap (λ (f : Fate). map (fate_of records files) (range_with_len 0 k) ++ f ∷ []) fate ∙ sym (map-range_with_len_more (fate_of records files) 0 k k (omega arith)),
      left_like lost.nodes.items lost.heads (left_by (is_none c.index.result.now && may_move c.index-files-k.result.meta) (left_before records files k) c.index-files-k.result.meta) (left_before records files (k + 1))
          (λ other moves.
          ap (λ (m : Meta). left_by (is_none c.index.result.now && may_move m) (left_before records files k) m other) meta
          ∙ left_after records files k ([], no_meta) c.index.result.now other many named moves)
          (c.in_ok-fate_of_file.ensures.lost (left_before records files k) c.loop-k.invariant.1),
    )
