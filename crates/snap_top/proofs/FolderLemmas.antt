-- Folders that a sync listed and read were only read.
use Rattle.std.proofs.Common.{◌≡◌, ℕ, ◌<◌, ◌≤◌, ◌⊎◌, inl, inr, List, [], ◌∷◌, length, All, refl, sym, ap, subst, arith}
use Rattle.std.proofs.lemmas.List.Elements.{All-cons, All-nil, All-weaker}
use Rattle.std.proofs.lemmas.Bool.{cases_lt}
use Rattle.disk_model.specs.Answer.{listing_answer}
use Rattle.disk_model.specs.Folder.{FolderView, FolderDone, IsFolderReading, ListFiles}
use Rattle.disk_model.specs.declared.answer.Answer.{Answer}
use Rattle.disk_model.specs.declared.answer.Answer.TheVariants.{Done, Failed, OutOfMemory}
use Rattle.folder_listing.specs.Kept.{ListedFile}
use Rattle.folder_listing.specs.Listings.{ListsAll, FailsAt, IsAsked, ListsFirst, RunsOut}
use Rattle.file_table.specs.Table.{TableValue}
use Rattle.file_table.specs.declared.shape.Shape.{Shape}
use Rattle.array_setup.specs.declared.ways.SyncWay.{SyncWay}
use Rattle.snap_report.specs.declared.answer.RunFault.TheVariants as runs
use Rattle.snap_sync.specs.Beginning.{BeginsNot}
use Rattle.stripe_findings.specs.Reading.{StripeReading}
use Rattle.stripe_reader.specs.Column.{ReadsColumn}
use Rattle.stripe_reader.specs.Reading.{Task as CellTask}
use Rattle.stripe_reader.specs.SlotValue.{SlotValue}
use Rattle.file_restorer.specs.State.{WellCall}
use Rattle.file_restorer.proofs.FolderCallLemmas.{well_column}
use Rattle.snap_sync.specs.Reading.{ReadsFirst}
use Rattle.snap_sync.specs.declared.fault.SyncFault.{SyncFault}
use Rattle.snap_sync.specs.declared.fault.SyncFault.TheVariants.{Scan, Run}
use Rattle.snap_top.specs.Task.{Task}
use Rattle.snap_top.specs.Views.{folder_at, ReadsOnly, AllReadOnly}
use Rattle.snap_top.proofs.ViewsLemmas.{IsReadingCall, IsReadingDone, read_nothing, reads_since, reads_leave}

listing_reads_only : (answer : Answer) (old new : FolderView) → IsFolderReading ListFiles answer old new → ReadsOnly old new
listing_reads_only answer old new is = record {
  calls = record { done = listed; goes_on = is.called.goes_on };
  unwritten = reads_leave old new listed is.called.goes_on each;
  reads = reads_since old new listed is.called.goes_on each;
  tree = is.tree;
}
  where
    listed : List FolderDone
    listed = record { call = ListFiles; answer = answer } ∷ []

    each : All IsReadingDone (record { call = ListFiles; answer = answer } ∷ [])
    each = All-cons IsReadingDone (record { call = ListFiles; answer = answer }) [] refl (All-nil IsReadingDone)

asked_reads_only : (old new : FolderView) → IsAsked old new → ReadsOnly old new
asked_reads_only old new asked = listing_reads_only (listing_answer asked.answer) old new asked.call

-- cells of a column were read
pub column_reads_only : {shape : Shape} {tasks : List CellTask} {slots : List SlotValue} {old new : FolderView} → ReadsColumn shape tasks slots old new → ReadsOnly old new
column_reads_only {tasks = tasks} {old = old} {new = new} read =
    let each : All IsReadingDone read.folder.done
    = All-weaker (WellCall IsReadingCall) IsReadingDone (λ done well. well.0) read.folder.done
    (well_column IsReadingCall (λ path lost. refl) (λ path lost at n. refl) tasks read.readings read.folder.done read.folder.are) in
    record {
      calls = record { done = read.folder.done; goes_on = read.folder.goes_on };
      unwritten = reads_leave old new read.folder.done read.folder.goes_on each;
      reads = reads_since old new read.folder.done read.folder.goes_on each;
      tree = read.folder.tree;
    }

same_reads_only : (old new : FolderView) → new ≡ old → ReadsOnly old new
same_reads_only old new same = subst (λ v. ReadsOnly old v) (sym same) (read_nothing old)

pub all_listed : (olds news : List FolderView) (lists : List (List ListedFile)) → length news ≡ length olds → ListsAll olds news lists → AllReadOnly olds news
all_listed olds news lists many listed = record { count = many; each = λ d below. listing_reads_only Done _ _ (listed.each d below).call }

first_listed : (count : ℕ) (olds news : List FolderView) → ListsFirst count olds news → AllReadOnly olds news
first_listed count olds news first = record { count = first.as_many; each = λ d below. by d below (cases_lt d count) }
  where
    from : (d : ℕ) → d < length olds → (count < d) ⊎ (d ≤ count) → count ≤ d → ReadsOnly (folder_at olds d) (folder_at news d)
    from d below (inl over) least = asked_reads_only _ _ (first.behind d over below)
    from d below (inr under) least =
        let same : d ≡ count = omega (arith, under, least) in
        subst (λ k. ReadsOnly (folder_at olds k) (folder_at news k)) (sym same) (listing_reads_only OutOfMemory _ _ (first.ran_out (omega (arith, below, same))))

    by : (d : ℕ) → d < length olds → (d < count) ⊎ (count ≤ d) → ReadsOnly (folder_at olds d) (folder_at news d)
    by d below (inl before) = listing_reads_only Done _ _ (first.before d before)
    by d below (inr least) = from d below (cases_lt count d) least

-- memory ran out
pub ran_out : (olds news : List FolderView) → RunsOut olds news → AllReadOnly olds news
ran_out olds news (inl same) = record { count = ap length same; each = λ d below. same_reads_only _ _ (ap (λ fs. folder_at fs d) same) }
ran_out olds news (inr first) = first_listed first.0 olds news first.1

pub failed_at : (disk : ℕ) (olds news : List FolderView) → length news ≡ length olds → FailsAt disk olds news → AllReadOnly olds news
failed_at disk olds news many fails = record { count = many; each = λ d below. by d below (cases_lt d disk) }
  where
    behind : (d : ℕ) → d < length olds → (disk < d) ⊎ (d ≤ disk) → disk ≤ d → ReadsOnly (folder_at olds d) (folder_at news d)
    behind d below (inl over) least = asked_reads_only _ _ (fails.behind d over below)
    behind d below (inr under) least = let same : d ≡ disk = omega (arith, under, least) in subst (λ k. ReadsOnly (folder_at olds k) (folder_at news k)) (sym same) (listing_reads_only Failed _ _ fails.failed)

    by : (d : ℕ) → d < length olds → (d < disk) ⊎ (disk ≤ d) → ReadsOnly (folder_at olds d) (folder_at news d)
    by d below (inl before) = listing_reads_only Done _ _ (fails.before d before)
    by d below (inr least) = behind d below (cases_lt disk d) least

pub stripes_read : (start : TableValue) (readings : List StripeReading) (olds news : List FolderView) → ReadsFirst start readings olds news → AllReadOnly olds news
stripes_read start readings olds news reads = record {
  count = reads.read.folders;
  each = λ d below. column_reads_only (reads.read.each d below);
}

pub begun_not : (task : Task) (way : SyncWay) (table : TableValue) (olds news : List FolderView) (fault : SyncFault) → length news ≡ length olds → BeginsNot task.setup way table olds news fault → AllReadOnly olds news
begun_not task way table olds news (Scan fault of) many why = all_listed olds news why.1.lists many why.1.listed
begun_not task way table olds news (Run (runs.Folder disk)) many why = failed_at disk olds news many why
begun_not task way table olds news (Run runs.Memory) many why = ran_out olds news why
begun_not task way table olds news (Run runs.Vault) many why = absurd why
