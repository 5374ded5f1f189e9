-- All stripes that a run is for are looked at, and nothing is written.
use Rattle.std.specs.Prelude.{◌≡◌, ℕ, ◌<◌, List, length, slice_index_or, All}
use Rattle.disk_model.specs.Folder.{FolderView}
use Rattle.disk_model.specs.Sink.{SinkView}
use Rattle.file_table.specs.Table.{TableValue}
use Rattle.snap_report.specs.Report.{ReportView}
use Rattle.snap_report.specs.declared.events.Event.{Event}
use Rattle.stripe_reader.specs.Starts.{StartsFit}
use Rattle.stripe_reader.specs.WindowValue.{WindowValue}
use Rattle.snap_fix.specs.declared.beginning.Work.{Work}
use Rattle.stripe_examiner.specs.declared.counts.Counts.{Counts}
use Rattle.stripe_examiner.specs.declared.room.StripeRoom.{StripeRoom}
use Rattle.stripe_examiner.specs.Facts.{StripeFacts}
use Rattle.stripe_examiner.specs.Looking.{AreRead, LooksAt, Scene, facts_at, numbers_of}
use Rattle.repair_scope.specs.Plan.{FixPlan, EntriesFit, plan_of}
use Rattle.stripe_examiner.specs.Room.{IsRoomFor}
use Rattle.stripe_examiner.specs.Shown.{ShowsStripe}

-- the plan of this work
abbrev pub plan_for : TableValue → Work → FixPlan
plan_for table work = plan_of work.scope table work.entries

-- what a run works with fits a table
pub record IsWorkFor (table : TableValue) (work : Work) : Type 0 where
  pub entries : EntriesFit table work.entries
  pub starts : StartsFit table work.starts
  pub within : All (λ stripe. stripe < length table.infos) work.stripes.items
  pub room : IsRoomFor table work.room

-- room was used, and all else stays
pub record KeepsWork (table : TableValue) (old new : Work) : Type 0 where
  pub rest : new ≡ record old { room = new.room }
  pub room : IsRoomFor table new.room

-- the rooms show the facts of all stripes of a window
pub record AreShown (plan : FixPlan) (stripes : List StripeFacts) (numbers : List ℕ) (window : WindowValue) (rooms : List StripeRoom) : Type 0 where
  pub numbers_are : numbers_of stripes ≡ numbers
  pub each : (k : ℕ) (other : StripeRoom) → k < length stripes
      → ShowsStripe plan (facts_at stripes k) k window (slice_index_or rooms k other)

-- The stripes of the work were read and looked at.
pub record ChecksStripes {W R : Type 0} (view : W → SinkView) (standing : R → ReportView) (stands : R → List Event → Type 0)
    (table : TableValue) (work : Work) (counts : Counts) (olds news : List FolderView) (old new : Scene W R) : Type 0 where
  pub stripes : List StripeFacts
  pub numbers : numbers_of stripes ≡ work.stripes.items
  pub read : AreRead (plan_for table work) work.starts stripes olds news
  pub looks : LooksAt view standing stands (plan_for table work) stripes counts old new
