-- The end of a fix: the levels that were written are synced, and the files of the selected records are finished.
use Rattle.std.specs.Prelude.{◌≡◌, ◌≢◌, ◌⊎◌, ℕ, ◌<◌, ◌&&◌, not, List, [], ◌∷◌, ◌++◌, length, get_or, slice_index_or, Bool, true, false, if◌then◌else◌, IsTrue}
use Rattle.std.specs.List.{range_with_len, flat_map}
use Rattle.disk_model.specs.Cause.{Rose}
use Rattle.disk_model.specs.Files.{Stays, parity_of}
use Rattle.disk_model.specs.Folder.{FolderView, FolderCall, FolderDone}
use Rattle.disk_model.specs.Sink.{SinkView}
use Rattle.disk_model.specs.Tree.{Tree, file_of, path_of}
use Rattle.disk_model.specs.Vault.{VaultView, VaultCall, ParitySync, GoesOn, SomeCalls, ChangesBy, DraftsStay, Holds}
use Rattle.disk_model.specs.declared.meta.Stamp.{Stamp}
use Rattle.file_table.specs.Table.{record_at, records_in}
use Rattle.snap_report.specs.Answer.{Gained}
use Rattle.file_restorer.specs.Breaking.{FailsAfter, FailsInColumn, StepFails, broke_parity}
use Rattle.snap_report.specs.Report.{ReportView}
use Rattle.snap_report.specs.Told.{Told}
use Rattle.snap_report.specs.declared.events.Event.{Event}
use Rattle.snap_report.specs.declared.events.Event.TheVariants.{Blocked, Restored as RestoredEvent, Renamed as RenamedEvent, NoStamp}
use Rattle.stripe_reader.specs.Columns.{folder_at}
use Rattle.stripe_reader.specs.Starts.{StartsValue, StartsFit, starts_at, start_in}
use Rattle.stripe_reader.specs.declared.starts.Start.{Start}
use Rattle.stripe_examiner.specs.declared.counts.Counts.{Counts}
use Rattle.file_restorer.specs.declared.finishing.Finish.{Finish}
use Rattle.file_restorer.specs.declared.finishing.Finish.TheVariants.{Kept, Restored, Unstamped, Renamed, Gone}
use Rattle.file_restorer.specs.declared.state.FileState.{FileState}
use Rattle.stripe_examiner.specs.Counts.{AreCounts}
use Rattle.file_restorer.specs.Finishing.{FitsTree, HoldsFinished, StandsWhole, IsFinishCall, bytes_now, finish_calls, finish_of, was_gone}
use Rattle.file_restorer.specs.Mending.{StatesFit, IsFree}
use Rattle.file_restorer.specs.Order.{FolderWrites}
use Rattle.repair_scope.specs.Plan.{FixPlan, EntriesFit, entry_at}
use Rattle.snap_fix.specs.Repairing.{FilesOutside}
use Rattle.file_restorer.specs.State.{AreStepCalls, FolderMakesBy, no_state, record_path}
use Rattle.snap_fix.specs.Underway.{done_well}

-- ---- levels

-- one sync of each level that was written, in order
abbrev pub sync_if : Bool → ℕ → List VaultCall
sync_if written r = if written then ParitySync r ∷ [] else []

abbrev pub sync_call : List Bool → ℕ → List VaultCall
sync_call written r = sync_if (get_or written r false) r

abbrev pub written_syncs : List Bool → List VaultCall
written_syncs written = flat_map (sync_call written) (range_with_len 0 (length written))

-- just these calls were made, none failed, what reads give stays, and a stop leaves nothing new
pub record Syncs (calls : List VaultCall) (old new : VaultView) : Type 0 where
  pub some : SomeCalls old new
  pub drafts : DraftsStay old new
  pub ran : GoesOn old new (done_well calls)
  pub changes : ChangesBy Stays old new

-- a stop leaves of a level what a read gives
abbrev pub IsLevelSettled : ℕ → VaultView → VaultView → Type 0
IsLevelSettled level old new = Holds (λ files. parity_of files level ≡ parity_of old.files level) new

-- the levels were synced
pub record SyncsWritten (written : List Bool) (old new : VaultView) : Type 0 where
  pub syncs : Syncs (written_syncs written) old new
  pub settled : (level : ℕ) → level < length written → get_or written level false ≡ true → IsLevelSettled level old new

-- A sync of a level failed, and the count of faults rose: of these calls the first ones were made, and that one.
pub record SyncsNot (syncs : List VaultCall) (old new : VaultView) : Type 0 where
  pub rose : Rose old.faults new.faults
  pub call : IsTrue new.tells_calls → Gained broke_parity old.calls new.calls
  pub calls : SomeCalls old new
  pub ran : FailsAfter [] (done_well syncs) old new
  pub drafts : DraftsStay old new
  pub changes : ChangesBy Stays old new

-- ---- records

-- a record is finished: it is selected, and isn't blocked
abbrev pub is_finished : FixPlan → ℕ → ℕ → Bool
is_finished plan d i = (entry_at plan d i).selected && not (entry_at plan d i).blocked

-- what is told of a record, by what was done to its file
abbrev pub stamp_news : ℕ → ℕ → Bool → List Event
stamp_news d i stamped = if stamped then [] else NoStamp d i ∷ []

abbrev pub finish_news : ℕ → ℕ → Finish → List Event
finish_news d i Kept = []
finish_news d i (Restored stamped) = RestoredEvent d i ∷ stamp_news d i stamped
finish_news d i Unstamped = NoStamp d i ∷ []
finish_news d i Renamed = RenamedEvent d i ∷ []
finish_news d i Gone = Blocked d i ∷ []

abbrev pub news_of : FixPlan → ℕ → ℕ → Finish → List Event
news_of plan d i finish = if is_finished plan d i then finish_news d i finish else []

-- what was done to each record of a column; `Kept` of those that are not finished
abbrev pub finish_at : List Finish → ℕ → Finish
finish_at done i = get_or done i Kept

abbrev pub record_news : FixPlan → ℕ → List Finish → ℕ → List Event
record_news plan d done i = news_of plan d i (finish_at done i)

abbrev pub column_news : FixPlan → ℕ → List Finish → List Event
column_news plan d done = flat_map (record_news plan d done) (range_with_len 0 (length (records_in plan.table d)))

-- of each column
abbrev pub Finishes : Type 0
Finishes = List (List Finish)

abbrev pub finishes_at : Finishes → ℕ → List Finish
finishes_at finishes d = get_or finishes d []

abbrev pub column_news_at : FixPlan → List (List Finish) → ℕ → List Event
column_news_at plan finishes d = column_news plan d (finishes_at finishes d)

abbrev pub all_finish_news : FixPlan → List (List Finish) → List Event
all_finish_news plan finishes = flat_map (column_news_at plan finishes) (range_with_len 0 (length plan.table.columns))

-- ---- by the starts and the states of a column's records

-- the states of a column, and the state of a record among them
abbrev pub states_at : List (List FileState) → ℕ → List FileState
states_at states d = get_or states d []

abbrev pub state_at : List FileState → ℕ → FileState
state_at states i = slice_index_or states i no_state

-- a call that finishes a record
abbrev pub IsCallOf : FixPlan → ℕ → List Start → List FileState → ℕ → FolderCall → Type 0
IsCallOf plan d starts states i call = IsFinishCall (state_at states i).lost (entry_at plan d i).listed (start_in starts i) (state_at states i)
    (record_path (records_in plan.table d) i) (record_at plan.table.columns d i).meta call

-- the calls that finish a record, and all records of the column, in order
abbrev pub record_calls : FixPlan → ℕ → List Start → List FileState → ℕ → List FolderCall
record_calls plan d starts states i =
    if is_finished plan d i
    then finish_calls (state_at states i).lost (entry_at plan d i).listed (start_in starts i) (state_at states i)
    (record_path (records_in plan.table d) i) (record_at plan.table.columns d i).meta else []

abbrev pub column_calls : FixPlan → ℕ → List Start → List FileState → List FolderCall
column_calls plan d starts states = flat_map (record_calls plan d starts states) (range_with_len 0 (length (records_in plan.table d)))

-- one that finishes some record of the column
pub record FinishesFile (plan : FixPlan) (d : ℕ) (starts : List Start) (states : List FileState) (call : FolderCall) : Type 0 where
  pub i : ℕ
  pub within : i < length (records_in plan.table d)
  pub finished : is_finished plan d i ≡ true
  pub is : IsCallOf plan d starts states i call

-- a call that finishes this record, which is to be finished
abbrev pub FinishesThis : FixPlan → ℕ → ℕ → List Start → List FileState → FolderCall → Type 0
FinishesThis plan d i starts states call = (is_finished plan d i ≡ true) × IsCallOf plan d starts states i call

-- The calls that finish the first so many records of a column, a part for each. In each part none failed, and one of
-- them found no file exactly where the file of the record was gone. Where none did, they are just the calls for that record.
pub record AreFinishCalls (plan : FixPlan) (d : ℕ) (starts : List Start) (states : List FileState) (done : List Finish)
    (records : ℕ) (calls : List FolderDone) : Type 0 where
  pub parts : List (List FolderDone)
  pub as_many : length parts ≡ records
  pub calls_are : calls ≡ flat_map (λ (part : List FolderDone). part) parts
  pub each : (i : ℕ) → i < records
      → AreStepCalls (FinishesThis plan d i starts states) (record_calls plan d starts states i) (was_gone (finish_at done i)) (get_or parts i [])

-- those of all its records
abbrev pub AreColumnFinishCalls : FixPlan → ℕ → List Start → List FileState → List Finish → List FolderDone → Type 0
AreColumnFinishCalls plan d starts states done calls =
    AreFinishCalls plan d starts states done (length (records_in plan.table d)) calls

-- The file of a record can be finished: no file stands in its way, and its start and its state agree with the files.
pub record CanFinishFile (plan : FixPlan) (d : ℕ) (starts : List Start) (states : List FileState) (i : ℕ) (tree : Tree) : Type 0 where
  pub free : IsFree tree (record_path (records_in plan.table d) i)
  pub fits : FitsTree (record_path (records_in plan.table d) i) (entry_at plan d i).listed (start_in starts i) (state_at states i) tree

-- The files of a column can be finished: its folder is open, if it has records, and where it tells its files, those of all selected records that
-- aren't blocked can be.
pub record CanFinishColumn (plan : FixPlan) (d : ℕ) (starts : List Start) (states : List FileState) (folder : FolderView) : Type 0 where
  pub is_open : 0 < length (records_in plan.table d) → folder.closed ≡ false
  pub each : IsTrue folder.tells → (i : ℕ) → i < length (records_in plan.table d) → is_finished plan d i ≡ true
      → CanFinishFile plan d starts states i folder.tree

pub record CanFinishAll (plan : FixPlan) (starts : StartsValue) (states : List (List FileState)) (folders : List FolderView) : Type 0 where
  pub folders_are : length folders ≡ length plan.table.columns
  pub entries_fit : EntriesFit plan.table plan.entries
  pub starts_fit : StartsFit plan.table starts
  pub states_fit : StatesFit plan.table states
  pub each : (d : ℕ) → d < length plan.table.columns
      → CanFinishColumn plan d (starts_at starts.columns d) (states_at states d) (folder_at folders d)

-- what was done to the file of a record: what its start and its state ask for, or it was gone where the folder doesn't tell its files
abbrev pub IsDone : FixPlan → ℕ → List Start → List FileState → FolderView → ℕ → Finish → Type 0
IsDone plan d starts states folder i finish =
    (finish ≡ finish_of (record_at plan.table.columns d i).meta (entry_at plan d i).listed (start_in starts i) (state_at states i) folder.keeps)
    ⊎ ((finish ≡ Gone) × (folder.tells ≡ false)
    × (finish_of (record_at plan.table.columns d i).meta (entry_at plan d i).listed (start_in starts i) (state_at states i) folder.keeps ≢ Kept))

-- what the folder holds of it then
abbrev pub HoldsEnd : FixPlan → ℕ → List Start → List FileState → (Stamp → Bool) → ℕ → Finish → Tree → Tree → Type 0
HoldsEnd plan d starts states keeps i finish before later =
    let path = record_path (records_in plan.table d) i in
    HoldsFinished finish keeps (record_at plan.table.columns d i).meta (start_in starts i) (state_at states i) (bytes_now before path) path before later

-- where it has no lost block, it stands whole
abbrev pub StandsEnd : FixPlan → ℕ → List Start → (Stamp → Bool) → ℕ → Tree → Tree → Type 0
StandsEnd plan d starts keeps i before later =
    let path = record_path (records_in plan.table d) i in
    StandsWhole keeps (record_at plan.table.columns d i).meta (start_in starts i).place (bytes_now before path) path before later

-- What was done to the files of a column, since all blocks were written: to each record what its start and state ask for.
pub record FinishesFiles (plan : FixPlan) (d : ℕ) (starts : List Start) (states : List FileState) (done : List Finish)
    (folder folder_new : FolderView) : Type 0 where
  pub makes : FolderMakesBy (AreColumnFinishCalls plan d starts states done) folder folder_new
  pub is : (i : ℕ) → i < length (records_in plan.table d) → is_finished plan d i ≡ true → IsDone plan d starts states folder i (finish_at done i)
  pub holds : IsTrue folder.tells → (i : ℕ) → i < length (records_in plan.table d) → is_finished plan d i ≡ true
      → HoldsEnd plan d starts states folder.keeps i (finish_at done i) folder.tree folder_new.tree
  pub whole : IsTrue folder.tells → (i : ℕ) → i < length (records_in plan.table d) → is_finished plan d i ≡ true → (state_at states i).lost ≡ false
      → StandsEnd plan d starts folder.keeps i folder.tree folder_new.tree
  pub others : IsTrue folder.tells → (name : List ℕ) → ((i : ℕ) (lost : Bool) → i < length (records_in plan.table d) → is_finished plan d i ≡ true
      → name ≢ path_of (record_path (records_in plan.table d) i) lost) → file_of folder_new.tree name ≡ file_of folder.tree name
  pub wrote : IsTrue folder.tells → FolderWrites (column_calls plan d starts states) folder folder_new

-- the same by the starts and the states of all columns
abbrev pub FinishesOne : FixPlan → ℕ → StartsValue → List (List FileState) → FolderCall → Type 0
FinishesOne plan d starts states call = FinishesFile plan d (starts_at starts.columns d) (states_at states d) call

abbrev pub FinishesColumn : FixPlan → StartsValue → List (List FileState) → ℕ → List (List Finish) → FolderView → FolderView → Type 0
FinishesColumn plan starts states d finishes folder folder_new =
    FinishesFiles plan d (starts_at starts.columns d) (states_at states d) (finishes_at finishes d) folder folder_new

-- what is done to each record that is finished, column by column
abbrev pub AreDone : FixPlan → StartsValue → List (List FileState) → List FolderView → List (List Finish) → Type 0
AreDone plan starts states folders finishes = (d i : ℕ) → d < length plan.table.columns → i < length (records_in plan.table d)
    → is_finished plan d i ≡ true
    → IsDone plan d (starts_at starts.columns d) (states_at states d) (folder_at folders d) i (finish_at (finishes_at finishes d) i)

-- The folder of a column failed while files were finished: of each before it all were finished, and of it those up to
-- the call that failed.
abbrev pub FailsInFinish : ℕ → FixPlan → StartsValue → List (List FileState) → List (List Finish) → List FolderView
    → List FolderView → Type 0
FailsInFinish disk plan starts states finishes olds news =
    FailsInColumn disk (length plan.table.columns)
    (λ (d : ℕ). AreColumnFinishCalls plan d (starts_at starts.columns d) (states_at states d) (finishes_at finishes d))
    (λ (d : ℕ). FinishesOne plan d starts states) olds news

-- A column whose folder failed while its files were finished: those of the first so many records were finished, and
-- just that was told, and then the calls for the next one were made up to the one that failed; each before that found its file.
pub record FailsAtRecord (plan : FixPlan) (d : ℕ) (starts : List Start) (states : List FileState) (done : List Finish)
    (told : List Event) (old new : FolderView) : Type 0 where
  pub n : ℕ
  pub within : n < length (records_in plan.table d)
  pub told_is : told ≡ flat_map (record_news plan d done) (range_with_len 0 n)
  pub mid : FolderView
  pub first : FolderMakesBy (AreFinishCalls plan d starts states done n) old mid
  pub fails : StepFails (FinishesThis plan d n starts states) (record_calls plan d starts states n) mid new

-- the same by the starts and the states of all columns
abbrev pub FailsInRecord : ℕ → FixPlan → StartsValue → List (List FileState) → List (List Finish) → List Event
    → List FolderView → List FolderView → Type 0
FailsInRecord disk plan starts states finishes told olds news =
    FailsAtRecord plan disk (starts_at starts.columns disk) (states_at states disk) (finishes_at finishes disk) told
    (folder_at olds disk) (folder_at news disk)

-- All selected records that aren't blocked were finished, and just that was told.
pub record FinishesAll {W R : Type 0} (view : W → SinkView) (standing : R → ReportView) (stands : R → List Event → Type 0)
    (plan : FixPlan) (old new : FilesOutside W R) (counts : Counts) : Type 0 where
  pub finishes : List (List Finish)
  pub folders : length new.folders ≡ length old.folders
  pub columns : (d : ℕ) → d < length plan.table.columns → FinishesColumn plan old.starts old.states d finishes (folder_at old.folders d) (folder_at new.folders d)
  pub told : Told view standing stands plan.table.columns (all_finish_news plan finishes) old.lines new.lines old.reports new.reports
  pub counts_are : AreCounts (all_finish_news plan finishes) counts

-- The folder of a column failed. Only finishing calls were made, none behind the one that failed, and just what was
-- done to the files of the records before it was told, a prefix of what is told where none fails.
pub record FinishesNotAll {W R : Type 0} (view : W → SinkView) (standing : R → ReportView) (stands : R → List Event → Type 0)
    (plan : FixPlan) (old new : FilesOutside W R) (disk : ℕ) : Type 0 where
  pub folders : length new.folders ≡ length old.folders
  pub finishes : List (List Finish)
  pub fails : FailsInFinish disk plan old.starts old.states finishes old.folders new.folders
  pub are : AreDone plan old.starts old.states old.folders finishes
  pub first : List Event
  pub last : List Event
  pub part : FailsInRecord disk plan old.starts old.states finishes last old.folders new.folders
  pub first_is : first ≡ flat_map (column_news_at plan finishes) (range_with_len 0 disk) ++ last
  pub rest : List Event
  pub events : all_finish_news plan finishes ≡ first ++ rest
  pub told : Told view standing stands plan.table.columns first old.lines new.lines old.reports new.reports
