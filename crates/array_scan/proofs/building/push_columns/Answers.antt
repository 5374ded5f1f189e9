use Rattle.std.proofs.Common.{◌≡◌, ℕ, ◌+◌, ◌<◌, List, [], ◌∷◌, ◌++◌, length, get_or, All, ap, sym, ◌∙◌, subst, arith, rules}
use Rattle.std.proofs.lemmas.List.{length_push}
use Rattle.std.proofs.lemmas.List.FromFn.{map-range_with_len_more}
use Rattle.std.proofs.lemmas.Iterator.Consumers.{YieldsList-turn, YieldsList-end}
use Rattle.std.proofs.lemmas.Iterator.Adapters.{YieldsList-from_vec}
use Rattle.file_table.specs.Table.{Column, column_at}
use Rattle.file_table.specs.Building.{BuildingValue}
use Rattle.array_scan.specs.declared.sorting.Sorted.{Sorted}
use Rattle.array_scan.specs.declared.sorting.ColumnFiles.{ColumnFiles}
use Rattle.folder_listing.specs.Kept.{each_column}
use Rattle.array_scan.specs.Fates.{IsSound}
use Rattle.array_scan.specs.Laying.{taken, all_needed, laid_records}
use Rattle.array_scan.specs.Layout.{sorted_of, given_at, column_laid}
use Rattle.array_scan.proofs.ColumnLemmas.{files_at, positions_at, given_count, column_count}
use Rattle.file_table.specs.Pushing.{with_columns}
use Rattle.file_table.proofs.PushingLemmas.{column_of, column_pushed}
use Rattle.array_scan.proofs.PushingLemmas.{length-free}
use Rattle.std.proofs.Common.{Err, map, ◌-◌}
use Rattle.std.specs.List.{range_with_len}
use Rattle.file_table.specs.Building.{PushesDisk}
use Rattle.file_table.specs.Pushing.{TakesThese, TakesColumns}
use Rattle.file_table.specs.Table.{TableValue}
use Rattle.file_table.proofs.FittingLemmas.{column_whole, column_may, records_may}
use Rattle.file_table.proofs.RefusedLemmas.{disk_refused}
use Rattle.array_scan.specs.Layout.{columns_laid}
use Rattle.array_scan.proofs.ColumnLemmas.{each_split}
use Rattle.array_scan.proofs.MemoryLemmas.{memory_exits}
use Rattle.array_scan.proofs.building.push_columns.Goals as goal

-- the column of this turn
record IsTurn (columns : List ColumnFiles) (d : ℕ) (column : ColumnFiles) : Type 0 where
  within : d < length columns
  files : get_or (sorted_of columns) d [] ≡ column.files.items

is_turn : (columns : List ColumnFiles) (i d : ℕ) (column : ColumnFiles) → d ≡ i → (i < length columns) × (column ≡ get_or columns i column) → IsTurn columns d column
is_turn columns i d column same turn =
    let within : d < length columns = omega (arith, same, turn.0) in
    let is : column ≡ get_or columns d column = subst (λ (n : ℕ). column ≡ get_or columns n column) (sym same) turn.1 in
    record { within = within; files = files_at columns d column within ∙ ap (λ (c : ColumnFiles). c.files.items) (sym is) }

pub push_files-requires-clause-sound : goal.push_files-requires-clause-sound
push_files-requires-clause-sound c =
    let turn = YieldsList-turn (YieldsList-from_vec {s = c.into_iter-column-iterator.result} c.args.columns.items (search rules) (search rules))
    c.loop-column.yielded c.loop-column.column-iterator c.loop-column.yielded_by c.next.result c.next.new.self c.in-Some.column c.in-Some.is c.next.ensures.steps in
    let old = c.args.old.now in
    let columns = c.args.columns.items in
    let d = c.loop-column.d in
    let now = is_turn columns (length c.loop-column.yielded) d c.in-Some.column c.loop-column.invariant.1 turn in
    let below : d < length old.columns = omega (arith, now.within, column_count old columns c.requires.sound) in
    subst (All (IsSound (length (column_at old.columns d).records))) now.files (c.requires.sound.each d below)

pub push_files-requires-clause-given : goal.push_files-requires-clause-given
push_files-requires-clause-given c =
    let turn = YieldsList-turn (YieldsList-from_vec {s = c.into_iter-column-iterator.result} c.args.columns.items (search rules) (search rules))
    c.loop-column.yielded c.loop-column.column-iterator c.loop-column.yielded_by c.next.result c.next.new.self c.in-Some.column c.in-Some.is c.next.ensures.steps in
    let old = c.args.old.now in
    let size = old.shape.block_size in
    let columns = c.args.columns.items in
    let files = sorted_of columns in
    let d = c.loop-column.d in
    let now = is_turn columns (length c.loop-column.yielded) d c.in-Some.column c.loop-column.invariant.1 turn in
    let below : d < length old.columns = omega (arith, now.within, column_count old columns c.requires.sound) in
    let positions = positions_at old files c.args.given.now d c.index-given-d.result c.requires.given below in
    ap length (c.deref.ensures.value ∙ positions.1) ∙ length-free (taken (column_at old.columns d).records (get_or files d [])) (all_needed size (get_or files d [])) ∙ ap (all_needed size) now.files

pub bounds-given-d : goal.bounds-given-d
bounds-given-d c =
    let turn = YieldsList-turn (YieldsList-from_vec {s = c.into_iter-column-iterator.result} c.args.columns.items (search rules) (search rules))
    c.loop-column.yielded c.loop-column.column-iterator c.loop-column.yielded_by c.next.result c.next.new.self c.in-Some.column c.in-Some.is c.next.ensures.steps in
    let old = c.args.old.now in
    let columns = c.args.columns.items in
    let now = is_turn columns (length c.loop-column.yielded) c.loop-column.d c.in-Some.column c.loop-column.invariant.1 turn in
    omega (arith, now.within, column_count old columns c.requires.sound, given_count old (sorted_of columns) c.args.given.now c.requires.given)

pub overflow_add-d : goal.overflow_add-d
overflow_add-d c =
    let turn = YieldsList-turn (YieldsList-from_vec {s = c.into_iter-column-iterator.result} c.args.columns.items (search rules) (search rules))
    c.loop-column.yielded c.loop-column.column-iterator c.loop-column.yielded_by c.next.result c.next.new.self c.in-Some.column c.in-Some.is c.next.ensures.steps in
    let old = c.args.old.now in
    let columns = c.args.columns.items in
    let now = is_turn columns (length c.loop-column.yielded) c.loop-column.d c.in-Some.column c.loop-column.invariant.1 turn in
    omega (arith, now.within, column_count old columns c.requires.sound, c.disks-disks.ensures.valid.columns.few)

pub loop-column-preserved : goal.loop-column-preserved
loop-column-preserved c =
    let turn = YieldsList-turn (YieldsList-from_vec {s = c.into_iter-column-iterator.result} c.args.columns.items (search rules) (search rules))
    c.loop-column.yielded c.loop-column.column-iterator c.loop-column.yielded_by c.next.result c.next.new.self c.in-Some.column c.in-Some.is c.next.ensures.steps in
    let old = c.args.old.now in
    let start = c.args.builder.now in
    let size = old.shape.block_size in
    let columns = c.args.columns.items in
    let files = sorted_of columns in
    let d = c.loop-column.d in
    let recs = (column_at old.columns d).records in
    let now = is_turn columns (length c.loop-column.yielded) d c.in-Some.column c.loop-column.invariant.1 turn in
    let below : d < length old.columns = omega (arith, now.within, column_count old columns c.requires.sound) in
    let positions = positions_at old files c.args.given.now d c.index-given-d.result c.requires.given below in
    let free : c.deref.result.now ≡ given_at old files d = c.deref.ensures.value ∙ positions.1 in
    let name : c.in_ok-name.name ≡ (column_at old.columns d).name = c.in_ok-name.ensures ∙ c.name.ensures in
    let made : column_of c.in_ok-name.name (laid_records size recs c.deref.result.now c.in-Some.column.files.items) ≡ column_laid old files d =
    ap (λ (n : List ℕ). column_of n (laid_records size recs c.deref.result.now c.in-Some.column.files.items)) name
    ∙ ap (λ (ps : List ℕ). column_of (column_at old.columns d).name (laid_records size recs ps c.in-Some.column.files.items)) free
    ∙ ap (λ (fs : List Sorted). column_of (column_at old.columns d).name (laid_records size recs (given_at old files d) fs)) (sym now.files) in (
      column_pushed c.loop-column.builder c.push_disk.new.self c.push_files.new.builder c.in_ok-name.name (laid_records size recs c.deref.result.now c.in-Some.column.files.items) c.in_ok-push_disk.ensures.ok c.in_ok-push_files.ensures.pushed
          ∙ ap (λ (b : BuildingValue). with_columns b (b.columns ++ column_of c.in_ok-name.name (laid_records size recs c.deref.result.now c.in-Some.column.files.items) ∷ [])) c.loop-column.invariant.0
          ∙ ap (λ (k : Column). with_columns start (each_column (column_laid old files) d ++ k ∷ [])) made
          ∙ ap (with_columns start) (sym (map-range_with_len_more (column_laid old files) 0 d d (omega arith))),
      omega (arith, length_push c.loop-column.yielded c.in-Some.column, c.loop-column.invariant.1),
    )

pub returns-clause-pushed : goal.returns-clause-pushed
returns-clause-pushed c =
    let end = YieldsList-end (YieldsList-from_vec {s = c.into_iter-column-iterator.result} c.args.columns.items (search rules) (search rules))
    c.loop-column.yielded c.loop-column.column-iterator c.loop-column.yielded_by c.next.result c.next.new.self c.in-None.is c.next.ensures.steps in
    let old = c.args.old.now in
    let all : c.loop-column.d ≡ length old.columns = omega (arith, c.loop-column.invariant.1, end.1, column_count old c.args.columns.items c.requires.sound) in
    c.loop-column.invariant.0 ∙ ap (λ (n : ℕ). with_columns c.args.builder.now (each_column (column_laid old (sorted_of c.args.columns.items)) n)) all

-- the columns before one were pushed, and it may be, with those behind it
record IsNext (start mid : BuildingValue) (old : TableValue) (files : List (List Sorted)) (d : ℕ) : Type 0 where
  later : List Column
  takes : TakesColumns start (each_column (column_laid old files) d ++ column_laid old files d ∷ later)
  so_far : mid ≡ with_columns start (start.columns ++ each_column (column_laid old files) d)

is_next : (start mid : BuildingValue) (old : TableValue) (files : List (List Sorted)) (d : ℕ) → start.columns ≡ [] → TakesColumns start (columns_laid old files) → d < length old.columns
    → mid ≡ with_columns start (each_column (column_laid old files) d) → IsNext start mid old files d
is_next start mid old files d empty takes below is = record {
  later = map (column_laid old files) (range_with_len (d + 1) (length old.columns - (d + 1)));
  takes = subst (TakesColumns start) (each_split (column_laid old files) (length old.columns) d below) takes;
  so_far = is ∙ ap (λ (cs : List Column). with_columns start (cs ++ each_column (column_laid old files) d)) (sym empty);
}

pub push_files-requires-clause-takes : goal.push_files-requires-clause-takes
push_files-requires-clause-takes c =
    let turn = YieldsList-turn (YieldsList-from_vec {s = c.into_iter-column-iterator.result} c.args.columns.items (search rules) (search rules))
    c.loop-column.yielded c.loop-column.column-iterator c.loop-column.yielded_by c.next.result c.next.new.self c.in-Some.column c.in-Some.is c.next.ensures.steps in
    let old = c.args.old.now in
    let start = c.args.builder.now in
    let size = old.shape.block_size in
    let columns = c.args.columns.items in
    let files = sorted_of columns in
    let d = c.loop-column.d in
    let recs = (column_at old.columns d).records in
    let now = is_turn columns (length c.loop-column.yielded) d c.in-Some.column c.loop-column.invariant.1 turn in
    let below : d < length old.columns = omega (arith, now.within, column_count old columns c.requires.sound) in
    let positions = positions_at old files c.args.given.now d c.index-given-d.result c.requires.given below in
    let free : c.deref.result.now ≡ given_at old files d = c.deref.ensures.value ∙ positions.1 in
    let name : c.in_ok-name.name ≡ (column_at old.columns d).name = c.in_ok-name.ensures ∙ c.name.ensures in
    let next = is_next start c.loop-column.builder old files d c.requires.start c.requires.takes below c.loop-column.invariant.0 in
    let push : PushesDisk c.loop-column.builder (column_laid old files d).name c.push_disk.new.self = subst (λ (n : List ℕ). PushesDisk c.loop-column.builder n c.push_disk.new.self) name c.in_ok-push_disk.ensures.ok in
    let same : (column_laid old files d).records ≡ laid_records size recs c.deref.result.now c.in-Some.column.files.items =
    ap (λ (fs : List Sorted). laid_records size recs (given_at old files d) fs) now.files ∙ ap (λ (ps : List ℕ). laid_records size recs ps c.in-Some.column.files.items) (sym free) in
    subst (TakesThese c.push_disk.new.self) same
    (records_may start c.loop-column.builder (each_column (column_laid old files) d) next.later (column_laid old files d) next.takes next.so_far c.push_disk.new.self push)

pub returns-in_err-push_disk-clause-memory : goal.returns-in_err-push_disk-clause-memory
returns-in_err-push_disk-clause-memory c =
    let turn = YieldsList-turn (YieldsList-from_vec {s = c.into_iter-column-iterator.result} c.args.columns.items (search rules) (search rules))
    c.loop-column.yielded c.loop-column.column-iterator c.loop-column.yielded_by c.next.result c.next.new.self c.in-Some.column c.in-Some.is c.next.ensures.steps in
    let old = c.args.old.now in
    let start = c.args.builder.now in
    let columns = c.args.columns.items in
    let files = sorted_of columns in
    let d = c.loop-column.d in
    let mid = c.loop-column.builder in
    let now = is_turn columns (length c.loop-column.yielded) d c.in-Some.column c.loop-column.invariant.1 turn in
    let below : d < length old.columns = omega (arith, now.within, column_count old columns c.requires.sound) in
    let name : c.in_ok-name.name ≡ (column_at old.columns d).name = c.in_ok-name.ensures ∙ c.name.ensures in
    let next = is_next start mid old files d c.requires.start c.requires.takes below c.loop-column.invariant.0 in
    let made : Column = column_of c.in_ok-name.name (column_laid old files d).records in
    let made_is : made ≡ column_laid old files d = ap (λ (n : List ℕ). column_of n (column_laid old files d).records) name in
    let fault = c.in_err-push_disk.field-0.0 in
    let refused = c.in_err-push_disk.ensures in
    memory_exits _ c.from_residual-in_err-push_disk.result fault c.from_residual-in_err-push_disk.ensures.1 (λ why is. is)
    (disk_refused fault mid made (λ e. refused.blocks (ap (λ f. Err f) e)) (λ e. refused.name (ap (λ f. Err f) e)) refused.only
    (column_whole start mid (each_column (column_laid old files) d) next.later (column_laid old files d) next.takes next.so_far)
    (subst (λ (k : Column). Rattle.file_table.specs.Pushing.MayStand mid (mid.columns ++ k ∷ [])) (sym made_is) (column_may start mid (each_column (column_laid old files) d) next.later (column_laid old files d) next.takes next.so_far)))

pub returns-in_err-push_files-clause-memory : goal.returns-in_err-push_files-clause-memory
returns-in_err-push_files-clause-memory c = memory_exits _ c.from_residual-in_err-push_files.result c.in_err-push_files.field-0.0 c.from_residual-in_err-push_files.ensures.1 (λ why is. is) c.in_err-push_files.ensures.memory
