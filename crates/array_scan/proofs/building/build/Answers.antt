use Rattle.std.proofs.Common.{◌≡◌, ℕ, List, [], length, map, ap, sym, subst, ◌∙◌, Bool, Result, Ok, Err, IfOk}
use Rattle.std.specs.List.{range_with_len}
use Rattle.file_table.specs.declared.shape.Shape.{Shape}
use Rattle.file_table.specs.Table.{TableValue, blocks_of, positions_of, end_of}
use Rattle.file_table.specs.Building.{BuildingValue, Finishes, new_building}
use Rattle.array_scan.specs.declared.sorting.ColumnFiles.{ColumnFiles}
use Rattle.array_scan.specs.declared.sorting.Sorted.{Sorted}
use Rattle.array_scan.specs.Marks.{AreTouched}
use Rattle.array_scan.specs.Layout.{sorted_of, given_of, columns_laid, all_touched, laid_info, laid_table, AreSound}
use Rattle.std.proofs.Common.{◌<◌, ◌≤◌, refl, arith, All, IfErr}
use Rattle.std.proofs.lemmas.List.FromFn.{length-map-range_with_len}
use Rattle.std.proofs.lemmas.List.Elements.{All-nil}
use Rattle.file_table.specs.declared.block.Block.{Block}
use Rattle.file_table.specs.declared.fault.BuildFault.{BuildFault}
use Rattle.file_table.specs.declared.fault.BuildFault.TheVariants.{Name, Blocks, State, Length, Memory}
use Rattle.file_table.specs.Building.{LacksBlock, IsLength, is_finish_fault}
use Rattle.std.specs.Prelude.{IsErrOf, IsTrue}
use Rattle.file_table.specs.Table.{records_of}
use Rattle.file_table.specs.Valid.{IsValid, IsWhole, AreColumns, AreInfos, most_blocks}
use Rattle.file_table.specs.Pushing.{TakesColumns, AreWhole}
use Rattle.file_table.proofs.RefusedLemmas.{finish_refused}
use Rattle.array_scan.proofs.LaidLemmas.{within_end}
use Rattle.array_scan.proofs.MemoryLemmas.{memory_exits}
use Rattle.array_scan.proofs.building.build.Goals as goal

if_ok : {T E : Type 0} (P Q : T → Type 0) (r : Result T E) → ((x : T) → P x → Q x) → IfOk r P → IfOk r Q
if_ok P Q (Ok x) more is = more x is
if_ok P Q (Err e) more is = tt

built : (b : BuildingValue) (old : TableValue) (files : List (List Sorted)) (stripes : ℕ) (table : TableValue)
    → b ≡ record { shape = old.shape; length = stripes; columns = columns_laid old files; infos = map (laid_info old (all_touched old files)) (range_with_len 0 stripes) }
    → Finishes b table → table ≡ laid_table old files
built b old files stripes table is finishes =
    let count : stripes ≡ end_of (positions_of (blocks_of (columns_laid old files))) =
    sym (ap (λ (b : BuildingValue). b.length) is) ∙ finishes.length_is ∙ ap (λ (b : BuildingValue). end_of (positions_of (blocks_of b.columns))) is in
    finishes.table_is ∙ ap (λ (b : BuildingValue). record { shape = b.shape; columns = b.columns; infos = b.infos }) is
    ∙ ap (λ (n : ℕ). record { shape = old.shape; columns = columns_laid old files; infos = map (laid_info old (all_touched old files)) (range_with_len 0 n) }) count

-- what a valid layout says of its columns and its end
module _ (old : TableValue) (files : List (List Sorted)) (valid : IsValid (laid_table old files)) where
  abbrev end : ℕ
  end = end_of (positions_of (blocks_of (columns_laid old files)))

  many : length (laid_table old files).infos ≡ end
  many = length-map-range_with_len (laid_info old (all_touched old files)) 0 end

  few : end ≤ most_blocks
  few = omega (arith, many, valid.short)

  low : All (λ (b : Block). b.position < most_blocks) (blocks_of (columns_laid old files))
  low = λ k d within. omega (arith, within_end (blocks_of (columns_laid old files)) k d within, few)

  may : AreColumns end old.shape.block_size (columns_laid old files)
  may = subst (λ (n : ℕ). AreColumns n old.shape.block_size (columns_laid old files)) many valid.columns

pub stripes_of-stripes-requires-clause-sound : goal.stripes_of-stripes-requires-clause-sound
stripes_of-stripes-requires-clause-sound c =
    subst (λ (columns : List ColumnFiles). AreSound c.args.old.now (sorted_of columns)) (sym c.as_slice-files.ensures.value) c.requires.sound

finish_memory : {T : Type 0} (r : Result T BuildFault) (mid : BuildingValue)
    → (IsErrOf r Name → mid.columns ≡ []) → (IsErrOf r Blocks → (0 < length mid.columns) × LacksBlock mid)
    → (IsErrOf r State → (0 < length mid.columns) × ¬ (LacksBlock mid) × (length mid.infos < mid.length))
    → (IsErrOf r Length → (0 < length mid.columns) × ¬ (LacksBlock mid) × (length mid.infos ≡ mid.length) × ¬ (IsLength mid))
    → IfErr r (λ fault. IsTrue (is_finish_fault fault)) → 0 < length mid.columns → AreWhole mid (records_of mid.columns) → length mid.infos ≡ mid.length → IsLength mid → IfErr r (λ why. why ≡ Memory)
finish_memory (Ok table) mid name lacks state size only some whole full is = tt
finish_memory (Err fault) mid name lacks state size only some whole full is =
    finish_refused fault mid (λ e. name (ap (λ f. Err f) e)) (λ e. lacks (ap (λ f. Err f) e)) (λ e. state (ap (λ f. Err f) e)) (λ e. size (ap (λ f. Err f) e)) only some whole full is

-- a builder with all columns, and with all infos
abbrev empty_building : TableValue → ℕ → BuildingValue
empty_building old stripes = new_building old.shape stripes

abbrev with_all_columns : TableValue → List (List Sorted) → ℕ → BuildingValue
with_all_columns old files stripes = record { shape = old.shape; length = stripes; columns = columns_laid old files; infos = [] }

abbrev complete : TableValue → List (List Sorted) → ℕ → BuildingValue
complete old files stripes = record { shape = old.shape; length = stripes; columns = columns_laid old files; infos = map (laid_info old (all_touched old files)) (range_with_len 0 stripes) }

takes_all : (old : TableValue) (files : List (List Sorted)) (stripes : ℕ) → IsValid (laid_table old files) → stripes ≡ end_of (positions_of (blocks_of (columns_laid old files))) → TakesColumns (empty_building old stripes) (columns_laid old files)
takes_all old files stripes valid is = record {
  before_infos = refl;
  whole_before = All-nil (IsWhole old.shape.block_size);
  whole = valid.whole;
  may = subst (λ (n : ℕ). AreColumns n old.shape.block_size (columns_laid old files)) (sym is) (may old files valid);
}

infos_are : (old : TableValue) (files : List (List Sorted)) (stripes : ℕ) → IsValid (laid_table old files) → stripes ≡ end_of (positions_of (blocks_of (columns_laid old files)))
    → AreInfos (columns_laid old files) (map (laid_info old (all_touched old files)) (range_with_len 0 stripes))
infos_are old files stripes valid is = subst (λ (n : ℕ). AreInfos (columns_laid old files) (map (laid_info old (all_touched old files)) (range_with_len 0 n))) (sym is) valid.infos

pub stripes_of-stripes-requires-clause-below : goal.stripes_of-stripes-requires-clause-below
stripes_of-stripes-requires-clause-below c =
    subst (λ (columns : List ColumnFiles). All (λ (b : Block). b.position < most_blocks) (blocks_of (columns_laid c.args.old.now (sorted_of columns)))) (sym c.as_slice-files.ensures.value)
    (low c.args.old.now (sorted_of c.args.columns.items) c.requires.valid)

-- what was pushed, step by step
module _ (old : TableValue) (files shown : List (List Sorted)) (same : shown ≡ files) (stripes : ℕ) (count : stripes ≡ end_of (positions_of (blocks_of (columns_laid old shown)))) (shape : Shape) (shape_is : shape ≡ old.shape) (start : BuildingValue) (start_is : start ≡ new_building shape stripes) where
  stripes_are : stripes ≡ end_of (positions_of (blocks_of (columns_laid old files)))
  stripes_are = count ∙ ap (λ (fs : List (List Sorted)). end_of (positions_of (blocks_of (columns_laid old fs)))) same

  empty_is : start ≡ empty_building old stripes
  empty_is = start_is ∙ ap (λ (s : Shape). new_building s stripes) shape_is

  columns_are : (mid : BuildingValue) → mid ≡ record start { columns = columns_laid old files } → mid ≡ with_all_columns old files stripes
  columns_are mid is = is ∙ ap (λ (b : BuildingValue). record b { columns = columns_laid old files }) empty_is

  complete_is : (mid new : BuildingValue) → mid ≡ record start { columns = columns_laid old files } → new ≡ record mid { infos = map (laid_info old (all_touched old files)) (range_with_len 0 stripes) } → new ≡ complete old files stripes
  complete_is mid new first second = second ∙ ap (λ (b : BuildingValue). record b { infos = map (laid_info old (all_touched old files)) (range_with_len 0 stripes) }) (columns_are mid first)

pub push_columns-requires-clause-takes : goal.push_columns-requires-clause-takes
push_columns-requires-clause-takes c =
    let old = c.args.old.now in
    let files = sorted_of c.args.columns.items in
    let stripes = c.stripes_of-stripes.result in
    let same = ap sorted_of c.as_slice-files.ensures.value in
    let shown = sorted_of c.as_slice-files.result.now in
    let count = c.stripes_of-stripes.ensures in
    let empty = empty_is old files shown same stripes count c.shape.result c.shape.ensures.shape c.in_ok-builder.builder c.in_ok-builder.ensures.ok in
    let many = stripes_are old files shown same stripes count c.shape.result c.shape.ensures.shape c.in_ok-builder.builder c.in_ok-builder.ensures.ok in
    subst (λ (b : BuildingValue). TakesColumns b (columns_laid old files)) (sym empty) (takes_all old files stripes c.requires.valid many)

pub push_columns-requires-clause-given : goal.push_columns-requires-clause-given
push_columns-requires-clause-given c = ap given_of c.as_slice-given.ensures.value ∙ c.requires.given

pub push_infos-requires-clause-before_infos : goal.push_infos-requires-clause-before_infos
push_infos-requires-clause-before_infos c =
    ap (λ (b : BuildingValue). b.infos) c.in_ok-push_columns.ensures.pushed ∙ ap (λ (b : BuildingValue). b.infos) c.in_ok-builder.ensures.ok

pub push_infos-requires-clause-long : goal.push_infos-requires-clause-long
push_infos-requires-clause-long c = ap length c.as_slice-touched.ensures.value ∙ c.requires.long

pub push_infos-requires-clause-whole : goal.push_infos-requires-clause-whole
push_infos-requires-clause-whole c =
    let old = c.args.old.now in
    let files = sorted_of c.args.columns.items in
    let same = ap sorted_of c.as_slice-files.ensures.value in
    let shown = sorted_of c.as_slice-files.result.now in
    let columns = columns_are old files shown same c.stripes_of-stripes.result c.stripes_of-stripes.ensures c.shape.result c.shape.ensures.shape c.in_ok-builder.builder c.in_ok-builder.ensures.ok c.push_columns.new.builder c.in_ok-push_columns.ensures.pushed in
    subst (λ (b : BuildingValue). AreWhole b (records_of b.columns)) (sym columns) c.requires.valid.whole

pub push_infos-requires-clause-room : goal.push_infos-requires-clause-room
push_infos-requires-clause-room c =
    let old = c.args.old.now in
    let files = sorted_of c.args.columns.items in
    let same = ap sorted_of c.as_slice-files.ensures.value in
    let shown = sorted_of c.as_slice-files.result.now in
    let columns = columns_are old files shown same c.stripes_of-stripes.result c.stripes_of-stripes.ensures c.shape.result c.shape.ensures.shape c.in_ok-builder.builder c.in_ok-builder.ensures.ok c.push_columns.new.builder c.in_ok-push_columns.ensures.pushed in
    omega (arith, ap (λ (b : BuildingValue). b.length) columns)

pub returns-in_err-push_infos-clause-memory : goal.returns-in_err-push_infos-clause-memory
returns-in_err-push_infos-clause-memory c =
    let old = c.args.old.now in
    let files = sorted_of c.args.columns.items in
    let stripes = c.stripes_of-stripes.result in
    let same = ap sorted_of c.as_slice-files.ensures.value in
    let shown = sorted_of c.as_slice-files.result.now in
    let touched = all_touched old files in
    let count = c.stripes_of-stripes.ensures in
    let many = stripes_are old files shown same stripes count c.shape.result c.shape.ensures.shape c.in_ok-builder.builder c.in_ok-builder.ensures.ok in
    let columns = columns_are old files shown same stripes count c.shape.result c.shape.ensures.shape c.in_ok-builder.builder c.in_ok-builder.ensures.ok c.push_columns.new.builder c.in_ok-push_columns.ensures.pushed in
    let are : AreTouched c.as_slice-touched.result.now touched = subst (λ (ms : List Bool). AreTouched ms touched) (sym c.as_slice-touched.ensures.value) c.requires.touched in
    let infos : AreInfos c.push_columns.new.builder.columns (map (laid_info old touched) (range_with_len 0 stripes)) =
    subst (λ (b : BuildingValue). AreInfos b.columns (map (laid_info old touched) (range_with_len 0 stripes))) (sym columns) (infos_are old files stripes c.requires.valid many) in
    memory_exits _ c.from_residual-in_err-push_infos.result c.in_err-push_infos.field-0.0 c.from_residual-in_err-push_infos.ensures.1 (λ why is. is) (c.in_err-push_infos.ensures.memory touched are infos)

pub returns-clause-built : goal.returns-clause-built
returns-clause-built c =
    let old = c.args.old.now in
    let files = sorted_of c.args.columns.items in
    let stripes = c.stripes_of-stripes.result in
    let same = ap sorted_of c.as_slice-files.ensures.value in
    let shown = sorted_of c.as_slice-files.result.now in
    let touched = all_touched old files in
    let are : AreTouched c.as_slice-touched.result.now touched = subst (λ (ms : List Bool). AreTouched ms touched) (sym c.as_slice-touched.ensures.value) c.requires.touched in
    let all = complete_is old files shown same stripes c.stripes_of-stripes.ensures c.shape.result c.shape.ensures.shape c.in_ok-builder.builder c.in_ok-builder.ensures.ok c.push_columns.new.builder c.push_infos.new.builder c.in_ok-push_columns.ensures.pushed
    (c.in_ok-push_infos.ensures.pushed touched are) in
    if_ok (Finishes c.push_infos.new.builder) (λ (table : TableValue). table ≡ laid_table old files) c.finish.result (λ table. built c.push_infos.new.builder old files stripes table all) c.finish.ensures.ok

pub returns-clause-memory : goal.returns-clause-memory
returns-clause-memory c =
    let old = c.args.old.now in
    let files = sorted_of c.args.columns.items in
    let stripes = c.stripes_of-stripes.result in
    let same = ap sorted_of c.as_slice-files.ensures.value in
    let shown = sorted_of c.as_slice-files.result.now in
    let touched = all_touched old files in
    let count = c.stripes_of-stripes.ensures in
    let many = stripes_are old files shown same stripes count c.shape.result c.shape.ensures.shape c.in_ok-builder.builder c.in_ok-builder.ensures.ok in
    let are : AreTouched c.as_slice-touched.result.now touched = subst (λ (ms : List Bool). AreTouched ms touched) (sym c.as_slice-touched.ensures.value) c.requires.touched in
    let all = complete_is old files shown same stripes count c.shape.result c.shape.ensures.shape c.in_ok-builder.builder c.in_ok-builder.ensures.ok c.push_columns.new.builder c.push_infos.new.builder c.in_ok-push_columns.ensures.pushed
    (c.in_ok-push_infos.ensures.pushed touched are) in
    let last = c.push_infos.new.builder in
    let refused = c.finish.ensures in
    let whole : AreWhole last (records_of last.columns) = subst (λ (b : BuildingValue). AreWhole b (records_of b.columns)) (sym all) c.requires.valid.whole in
    let infos : length last.infos ≡ stripes = ap (λ (b : BuildingValue). length b.infos) all ∙ length-map-range_with_len (laid_info old touched) 0 stripes in
    let long : last.length ≡ stripes = ap (λ (b : BuildingValue). b.length) all in
    let some : 0 < length last.columns = omega (arith, ap (λ (b : BuildingValue). length b.columns) all, c.requires.valid.some_column) in
    finish_memory c.finish.result last refused.name refused.blocks refused.state refused.length refused.only some whole (infos ∙ sym long)
    (long ∙ many ∙ ap (λ (b : BuildingValue). end_of (positions_of (blocks_of b.columns))) (sym all))
