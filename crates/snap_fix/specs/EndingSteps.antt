-- The end of a fix, record by record and column by column.
use Rattle.std.specs.Prelude.{◌≡◌, ◌≢◌, ◌⊎◌, ℕ, ◌<◌, List, [], ◌∷◌, ◌++◌, length, Bool, true, false, IsTrue}
use Rattle.disk_model.specs.Folder.{FolderView}
use Rattle.disk_model.specs.Sink.{SinkView}
use Rattle.disk_model.specs.Tree.{file_of, path_of}
use Rattle.file_table.specs.Valid.{IsValid}
use Rattle.snap_report.specs.Report.{ReportView}
use Rattle.snap_report.specs.Told.{Told}
use Rattle.snap_report.specs.declared.events.Event.{Event}
use Rattle.snap_report.specs.declared.events.Event.TheVariants.{Blocked, Restored as RestoredEvent, Renamed as RenamedEvent, NoStamp}
use Rattle.snap_report.specs.declared.pages.Lines.{Lines}
use Rattle.stripe_reader.specs.Starts.{StartsValue, StartsFit, starts_at, start_in}
use Rattle.stripe_examiner.specs.declared.counts.Counts.{Counts}
use Rattle.file_restorer.specs.declared.finishing.Finish.{Finish}
use Rattle.file_restorer.specs.declared.finishing.Finish.TheVariants.{Kept, Restored, Unstamped, Renamed, Gone}
use Rattle.file_restorer.specs.declared.state.FileState.{FileState}
use Rattle.file_restorer.specs.Breaking.{FolderFails, StepFails}
use Rattle.stripe_examiner.specs.Counts.{AreCounts}
use Rattle.snap_fix.specs.Ending.{FailsAtRecord, CanFinishFile, CanFinishColumn, FinishesFiles, FinishesFile, FinishesThis, HoldsEnd, StandsEnd, IsDone, column_news, finish_at, is_finished, news_of, record_calls, stamp_news, states_at}
use Rattle.file_restorer.specs.Finishing.{was_gone}
use Rattle.file_restorer.specs.Mending.{StatesFit}
use Rattle.file_restorer.specs.Order.{FolderWrites}
use Rattle.repair_scope.specs.Plan.{FixPlan, EntriesFit}
use Rattle.file_table.specs.Table.{records_in}
use Rattle.file_restorer.specs.State.{StepMakes, record_path, state_in}

-- what is written, and told, for one column: as of a run, with the folder of the column alone
pub record ColumnOutside (W R : Type 0) : Type 0 where
  pub starts : StartsValue
  pub states : List (List FileState)
  pub folder : FolderView
  pub lines : Lines W
  pub reports : List R

abbrev pub column_outside : {W R : Type 0} → StartsValue → List (List FileState) → FolderView → Lines W → List R → ColumnOutside W R
column_outside starts states folder lines reports =
    record { starts = starts; states = states; folder = folder; lines = lines; reports = reports }

-- ---- one record

-- what is told of it in the first place, and then of its stamp
abbrev pub done_news : ℕ → ℕ → Finish → List Event
done_news d i Kept = []
done_news d i (Restored stamped) = RestoredEvent d i ∷ []
done_news d i Unstamped = NoStamp d i ∷ []
done_news d i Renamed = RenamedEvent d i ∷ []
done_news d i Gone = Blocked d i ∷ []

abbrev pub unstamped_news : ℕ → ℕ → Finish → List Event
unstamped_news d i Kept = []
unstamped_news d i (Restored stamped) = stamp_news d i stamped
unstamped_news d i Unstamped = []
unstamped_news d i Renamed = []
unstamped_news d i Gone = []

-- a record can be finished, if it is to be
pub record CanEndRecord (plan : FixPlan) (d i : ℕ) (starts : StartsValue) (states : List (List FileState)) (folder : FolderView) : Type 0 where
  pub column : d < length plan.table.columns
  pub rec : i < length (records_in plan.table d)
  pub starts_fit : StartsFit plan.table starts
  pub states_fit : StatesFit plan.table states
  pub is_open : folder.closed ≡ false
  pub can : IsTrue folder.tells → is_finished plan d i ≡ true → CanFinishFile plan d (starts_at starts.columns d) (states_at states d) i folder.tree

-- The file of a record was finished, if it was to be, and told.
pub record EndsRecord {W R : Type 0} (view : W → SinkView) (standing : R → ReportView) (stands : R → List Event → Type 0)
    (plan : FixPlan) (d i : ℕ) (old new : ColumnOutside W R) (counts : Counts) : Type 0 where
  pub finish : Finish
  pub starts_fit : StartsFit plan.table new.starts
  pub states_fit : StatesFit plan.table new.states
  pub other_starts : (k j : ℕ) → ((k ≢ d) ⊎ (j ≢ i)) → start_in (starts_at new.starts.columns k) j ≡ start_in (starts_at old.starts.columns k) j
  pub other_states : (k j : ℕ) → ((k ≢ d) ⊎ (j ≢ i)) → state_in new.states k j ≡ state_in old.states k j
  pub makes : StepMakes (FinishesThis plan d i (starts_at old.starts.columns d) (states_at old.states d))
      (record_calls plan d (starts_at old.starts.columns d) (states_at old.states d) i) (was_gone finish) old.folder new.folder
  pub is : is_finished plan d i ≡ true → IsDone plan d (starts_at old.starts.columns d) (states_at old.states d) old.folder i finish
  pub holds : IsTrue old.folder.tells → is_finished plan d i ≡ true
      → HoldsEnd plan d (starts_at old.starts.columns d) (states_at old.states d) old.folder.keeps i finish old.folder.tree new.folder.tree
  pub whole : IsTrue old.folder.tells → is_finished plan d i ≡ true → (state_in old.states d i).lost ≡ false
      → StandsEnd plan d (starts_at old.starts.columns d) old.folder.keeps i old.folder.tree new.folder.tree
  pub others : IsTrue old.folder.tells → (name : List ℕ)
      → (is_finished plan d i ≡ true → (lost : Bool) → name ≢ path_of (record_path (records_in plan.table d) i) lost)
      → file_of new.folder.tree name ≡ file_of old.folder.tree name
  pub wrote : IsTrue old.folder.tells → FolderWrites (record_calls plan d (starts_at old.starts.columns d) (states_at old.states d) i) old.folder new.folder
  pub told : Told view standing stands plan.table.columns (news_of plan d i finish) old.lines new.lines old.reports new.reports
  pub counts_are : AreCounts (news_of plan d i finish) counts

-- its calls were made up to one that failed, and nothing was told
pub record EndsNotRecord {W R : Type 0} (view : W → SinkView) (standing : R → ReportView) (stands : R → List Event → Type 0)
    (plan : FixPlan) (d i : ℕ) (old new : ColumnOutside W R) : Type 0 where
  pub fails : StepFails (FinishesThis plan d i (starts_at old.starts.columns d) (states_at old.states d))
      (record_calls plan d (starts_at old.starts.columns d) (states_at old.states d) i) old.folder new.folder
  pub told : Told view standing stands plan.table.columns [] old.lines new.lines old.reports new.reports

-- ---- one column

-- the records of a column can be finished
pub record CanEndColumn (plan : FixPlan) (d : ℕ) (starts : StartsValue) (states : List (List FileState)) (folder : FolderView) : Type 0 where
  pub valid : IsValid plan.table
  pub column : d < length plan.table.columns
  pub entries_fit : EntriesFit plan.table plan.entries
  pub starts_fit : StartsFit plan.table starts
  pub states_fit : StatesFit plan.table states
  pub can : CanFinishColumn plan d (starts_at starts.columns d) (states_at states d) folder

-- All records of a column were finished that were to be, and just that was told.
pub record EndsColumn {W R : Type 0} (view : W → SinkView) (standing : R → ReportView) (stands : R → List Event → Type 0)
    (plan : FixPlan) (d : ℕ) (old new : ColumnOutside W R) (counts : Counts) : Type 0 where
  pub done : List Finish
  pub starts_fit : StartsFit plan.table new.starts
  pub states_fit : StatesFit plan.table new.states
  pub other_starts : (k : ℕ) → k < length plan.table.columns → k ≢ d → starts_at new.starts.columns k ≡ starts_at old.starts.columns k
  pub other_states : (k : ℕ) → k < length plan.table.columns → k ≢ d → states_at new.states k ≡ states_at old.states k
  pub finishes : FinishesFiles plan d (starts_at old.starts.columns d) (states_at old.states d) done old.folder new.folder
  pub told : Told view standing stands plan.table.columns (column_news plan d done) old.lines new.lines old.reports new.reports
  pub counts_are : AreCounts (column_news plan d done) counts

-- The folder failed, in the last of such calls, and a prefix was told of what is told where it does not.
pub record EndsNotColumn {W R : Type 0} (view : W → SinkView) (standing : R → ReportView) (stands : R → List Event → Type 0)
    (plan : FixPlan) (d : ℕ) (old new : ColumnOutside W R) : Type 0 where
  pub fails : FolderFails (FinishesFile plan d (starts_at old.starts.columns d) (states_at old.states d)) old.folder new.folder
  pub done : List Finish
  pub is : (i : ℕ) → i < length (records_in plan.table d) → is_finished plan d i ≡ true
      → IsDone plan d (starts_at old.starts.columns d) (states_at old.states d) old.folder i (finish_at done i)
  pub first : List Event
  pub part : FailsAtRecord plan d (starts_at old.starts.columns d) (states_at old.states d) done first
      old.folder new.folder
  pub rest : List Event
  pub events : column_news plan d done ≡ first ++ rest
  pub told : Told view standing stands plan.table.columns first old.lines new.lines old.reports new.reports
