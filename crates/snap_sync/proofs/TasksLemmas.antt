-- Where hashes and infos alone change, the same files are read for the same stripes.
use Rattle.std.proofs.Common.{◌≡◌, ℕ, ◌*◌, ◌<◌, List, [], ◌∷◌, length, get_or, map, Option, None, Some, refl, sym, ap, ap₂, ◌∙◌, subst, arith}
use Rattle.std.proofs.Math.ListN.{get_or-map}
use Rattle.std.proofs.lemmas.List.{ext_get_or, length-map}
use Rattle.disk_model.specs.Folder.{FolderView}
use Rattle.disk_model.specs.declared.meta.Meta.{Meta}
use Rattle.file_table.specs.Cells.{cell_in}
use Rattle.file_table.specs.Closing.{DiffersInHashesAndInfos, HasSameFiles}
use Rattle.file_table.specs.Table.{Column, TableValue, column_at, record_in, no_column, no_record}
use Rattle.file_table.specs.declared.block.Cell.{Cell}
use Rattle.file_table.specs.declared.shape.Shape.{Shape}
use Rattle.stripe_reader.specs.Column.{ReadsColumn}
use Rattle.stripe_reader.specs.Columns.{folder_at, ReadsWindow}
use Rattle.stripe_reader.specs.Reading.{Task, block_length, file_task, block_task, cell_task, task_at, tasks_at}
use Rattle.stripe_reader.specs.SlotValue.{SlotValue}
use Rattle.stripe_reader.specs.Starts.{StartsValue, StartsFit, starts_at, start_in, recorded_start, recorded_starts}
use Rattle.stripe_reader.specs.WindowValue.{WindowValue}
use Rattle.stripe_reader.specs.declared.starts.Start.{Start}
use Rattle.snap_sync.specs.Closing.{closed}
use Rattle.stripe_findings.specs.Reading.{StripeReading}
use Rattle.snap_sync.proofs.StaysLemmas.{differs-closed}

-- ---- where each file was recorded

-- the starts of a column with the same files
column_starts-same : (old new : Column) → HasSameFiles old new → map recorded_start new.records ≡ map recorded_start old.records
column_starts-same old new same =
    ext_get_or (recorded_start no_record) (map recorded_start new.records) (map recorded_start old.records)
    (length-map new.records recorded_start ∙ same.count ∙ sym (length-map old.records recorded_start)) each
  where
    each : (i : ℕ) → i < length (map recorded_start new.records) → get_or (map recorded_start new.records) i (recorded_start no_record) ≡ get_or (map recorded_start old.records) i (recorded_start no_record)
    each i within =
        get_or-map recorded_start new.records i no_record
        ∙ ap (λ (meta : Meta). recorded_start (record { path = []; meta = meta; blocks = [] })) (same.meta i)
        ∙ sym (get_or-map recorded_start old.records i no_record)

abbrev starts_of : Column → List Start
starts_of column = map recorded_start column.records

module _ (old new : TableValue) (differs : DiffersInHashesAndInfos old new) where
  pub recorded_starts-same : recorded_starts new ≡ recorded_starts old
  recorded_starts-same = ap (λ (columns : List (List Start)). let s : StartsValue = record { columns = columns } in s) lists
    where
      each : (d : ℕ) → d < length (map starts_of new.columns) → get_or (map starts_of new.columns) d (starts_of no_column) ≡ get_or (map starts_of old.columns) d (starts_of no_column)
      each d within =
          get_or-map starts_of new.columns d no_column
          ∙ column_starts-same (column_at old.columns d) (column_at new.columns d) (differs.files d)
          ∙ sym (get_or-map starts_of old.columns d no_column)

      lists : map starts_of new.columns ≡ map starts_of old.columns
      lists = ext_get_or (starts_of no_column) (map starts_of new.columns) (map starts_of old.columns)
          (length-map new.columns starts_of ∙ differs.columns ∙ sym (length-map old.columns starts_of)) each

  -- ---- what is asked of a folder

  block_task-same : (d : ℕ) (starts : List Start) (cell : Cell) → block_task new.shape.block_size (column_at new.columns d) starts cell ≡ block_task old.shape.block_size (column_at old.columns d) starts cell
  block_task-same d starts cell =
      let start : Start = start_in starts cell.rec in
      let size : ℕ = new.shape.block_size in
      let here : List ℕ → ℕ → ℕ → Task = λ path of block_size. file_task start.place start.size path (cell.index * block_size) (block_length block_size of cell.index) in
      ap₂ (λ (path : List ℕ) (meta : Meta). here path meta.size size) ((differs.files d).path cell.rec) ((differs.files d).meta cell.rec)
      ∙ ap (λ (shape : Shape). here (record_in (column_at old.columns d) cell.rec).path (record_in (column_at old.columns d) cell.rec).meta.size shape.block_size) differs.shape

  cell_task-same : (d : ℕ) (starts : List Start) (found : Option Cell) → cell_task new.shape.block_size (column_at new.columns d) starts found ≡ cell_task old.shape.block_size (column_at old.columns d) starts found
  cell_task-same d starts None = refl
  cell_task-same d starts (Some cell) = block_task-same d starts cell

  pub task_at-same : (starts : StartsValue) (d stripe : ℕ) → task_at new starts d stripe ≡ task_at old starts d stripe
  task_at-same starts d stripe =
      ap (cell_task new.shape.block_size (column_at new.columns d) (starts_at starts.columns d)) ((differs.files d).cell stripe)
      ∙ cell_task-same d (starts_at starts.columns d) (cell_in (column_at old.columns d) stripe)

  pub tasks_at-same : (starts : StartsValue) (d : ℕ) (stripes : List ℕ) → tasks_at new starts d stripes ≡ tasks_at old starts d stripes
  tasks_at-same starts d [] = refl
  tasks_at-same starts d (stripe ∷ stripes) = ap₂ (λ (task : Task) (tasks : List Task). task ∷ tasks) (task_at-same starts d stripe) (tasks_at-same starts d stripes)

  pub starts_fit-same : (starts : StartsValue) → StartsFit old starts → StartsFit new starts
  starts_fit-same starts fit = record {
    columns = fit.columns ∙ sym differs.columns;
    records = λ d within. fit.records d (omega (arith, differs.columns, within)) ∙ sym (differs.files d).count;
  }

-- ---- after some stripes were read

module _ (now : ℕ) (start : TableValue) (xs : List StripeReading) where
  abbrev after : TableValue
  after = closed now start xs

  pub recorded_starts-closed : recorded_starts (closed now start xs) ≡ recorded_starts start
  recorded_starts-closed = recorded_starts-same start after (differs-closed now start xs)

  pub tasks_at-closed : (starts : StartsValue) (d : ℕ) (stripes : List ℕ) → tasks_at (closed now start xs) starts d stripes ≡ tasks_at start starts d stripes
  tasks_at-closed starts d stripes = tasks_at-same start after (differs-closed now start xs) starts d stripes

  pub starts_fit-closed : (starts : StartsValue) → StartsFit start starts → StartsFit (closed now start xs) starts
  starts_fit-closed starts fit = starts_fit-same start after (differs-closed now start xs) starts fit

  -- a column that was read by the table in hand was read by the laid out one
  pub reads_column-closed : (starts : StartsValue) (d : ℕ) (stripes : List ℕ) (slots : List SlotValue) (old new : FolderView)
      → ReadsColumn (closed now start xs).shape (tasks_at (closed now start xs) starts d stripes) slots old new → ReadsColumn start.shape (tasks_at start starts d stripes) slots old new
  reads_column-closed starts d stripes slots old new reads =
      subst (λ (tasks : List Task). ReadsColumn start.shape tasks slots old new) (tasks_at-closed starts d stripes)
      (subst (λ (shape : Shape). ReadsColumn shape (tasks_at after starts d stripes) slots old new) (differs-closed now start xs).shape reads)

  -- and so is a window
  pub reads_window-closed : (starts : StartsValue) (stripes : List ℕ) (before filled : WindowValue) (olds news : List FolderView)
      → ReadsWindow (closed now start xs) starts stripes before filled olds news → ReadsWindow start starts stripes before filled olds news
  reads_window-closed starts stripes before filled olds news reads = record {
    room = reads.room;
    block_size = reads.block_size;
    lanes = reads.lanes;
    count = reads.count;
    folders = reads.folders;
    each = λ d within. reads_column-closed starts d stripes _ (folder_at olds d) (folder_at news d) (reads.each d within);
  }

  -- and what was read by the laid out one, was read by the table in hand
  reads_column-by_closed : (starts : StartsValue) (d : ℕ) (stripes : List ℕ) (slots : List SlotValue) (old new : FolderView)
      → ReadsColumn start.shape (tasks_at start starts d stripes) slots old new → ReadsColumn (closed now start xs).shape (tasks_at (closed now start xs) starts d stripes) slots old new
  reads_column-by_closed starts d stripes slots old new reads =
      subst (λ (shape : Shape). ReadsColumn shape (tasks_at after starts d stripes) slots old new) (sym (differs-closed now start xs).shape)
      (subst (λ (tasks : List Task). ReadsColumn start.shape tasks slots old new) (sym (tasks_at-closed starts d stripes)) reads)

  pub reads_window-by_closed : (starts : StartsValue) (stripes : List ℕ) (before filled : WindowValue) (olds news : List FolderView)
      → ReadsWindow start starts stripes before filled olds news → ReadsWindow (closed now start xs) starts stripes before filled olds news
  reads_window-by_closed starts stripes before filled olds news reads = record {
    room = reads.room;
    block_size = reads.block_size;
    lanes = reads.lanes;
    count = reads.count;
    folders = reads.folders;
    each = λ d within. reads_column-by_closed starts d stripes _ (folder_at olds d) (folder_at news d) (reads.each d within);
  }
