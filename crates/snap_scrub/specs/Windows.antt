-- A scrub that goes from window to window: one is hashed and looked at while the next one is fetched.
use Rattle.std.specs.Prelude.{◌≡◌, ℕ, ◌+◌, ◌-◌, ◌<◌, ◌≤◌, ◌++◌, min, List, length, take, drop}
use Rattle.disk_model.specs.Sink.{SinkView}
use Rattle.file_table.specs.Table.{TableValue}
use Rattle.snap_report.specs.Report.{ReportView}
use Rattle.snap_report.specs.declared.events.Event.{Event}
use Rattle.stripe_reader.specs.Fetched.{IsUnhashedWindow, hashed_window}
use Rattle.stripe_reader.specs.Held.{HoldsStripes}
use Rattle.stripe_reader.specs.WindowValue.{WindowValue}
use Rattle.snap_scrub.specs.declared.beginning.Work.{Work}
use Rattle.snap_scrub.specs.declared.room.Check.{Check}
use Rattle.snap_scrub.specs.declared.verdict.Verdict.{Verdict}
use Rattle.snap_scrub.specs.Looking.{LooksInto, Scene}
use Rattle.snap_scrub.specs.Room.{IsCheckFor, IsRoomFor, IsWorkFor, UsesCheck}

-- stripes of a window that was fetched can be looked at: there is room for their sums, and for a verdict on each
pub record CanLook (table : TableValue) (stripes : List ℕ) (window : WindowValue) (room : Check) (kept : List Verdict) : Type 0 where
  pub holds : HoldsStripes table stripes window
  pub unhashed : IsUnhashedWindow window
  pub check : IsCheckFor table room
  pub sums : length stripes ≤ length room.sums.items
  pub verdicts : length kept ≡ length stripes

-- a window was hashed, the sums of its stripes were made, and all of them were looked at: these are their verdicts, and so many findings
-- were told
abbrev pub UsesAndLooks : {W R : Type 0} → (W → SinkView) → (R → ReportView) → (R → List Event → Type 0) → TableValue → List ℕ
    → WindowValue → WindowValue → Check → Check → List Verdict → ℕ → Scene W R → Scene W R → Type 0
UsesAndLooks view standing stands table stripes window hashed before after kept findings old new =
    (hashed ≡ hashed_window table.shape window) × UsesCheck table before after
    × LooksInto view standing stands table stripes hashed (length stripes) (take (length stripes) kept) findings old new

-- the stripes of the near window, which stands after so many, and those that are read next
abbrev pub stripes_near : Work → ℕ → List ℕ
stripes_near work done = take work.room.near.count (drop done work.stripes.items)

abbrev pub stripes_next : Work → ℕ → List ℕ
stripes_next work done =
    let next = done + work.room.near.count in
    take (min (length work.stripes.items - next) work.room.far.room) (drop next work.stripes.items)

-- The near window has the stripes that come after so many: one at least, if any is left. If more are left, the far one has room.
pub record IsReady (table : TableValue) (work : Work) (done : ℕ) : Type 0 where
  pub is_work : IsWorkFor table work
  pub within : done + work.room.near.count ≤ length work.stripes.items
  pub held : work.room.near.count ≤ work.room.near.room
  pub some : done < length work.stripes.items → 0 < work.room.near.count
  pub more : done + work.room.near.count < length work.stripes.items → 0 < work.room.far.room

-- room was used, and verdicts were kept; the stripes stay
pub record KeepsWork (table : TableValue) (old new : Work) : Type 0 where
  pub stripes : new.stripes ≡ old.stripes
  pub room : IsRoomFor table new.room
  pub verdicts : length new.verdicts.items ≡ length old.verdicts.items

-- the near window was hashed, the far one, the check and the verdicts were used, and nothing else
pub record Turns (table : TableValue) (old new : Work) : Type 0 where
  pub rest : new ≡ record old {
    verdicts = new.verdicts;
    room = record old.room { near = hashed_window table.shape old.room.near; far = new.room.far; check = new.room.check };
  }
  pub check : UsesCheck table old.room.check new.room.check
  pub verdicts : length new.verdicts.items ≡ length old.verdicts.items

-- The stripes of the near window were hashed and looked at, which stands after so many: the verdicts on them follow those before.
pub record LooksNear {W R : Type 0} (view : W → SinkView) (standing : R → ReportView) (stands : R → List Event → Type 0)
    (table : TableValue) (work after : Work) (done findings : ℕ) (old new : Scene W R) : Type 0 where
  pub verdicts : List Verdict
  pub looks : LooksInto view standing stands table (stripes_near work done) (hashed_window table.shape work.room.near) work.room.near.count
      verdicts findings old new
  pub follow : take (done + work.room.near.count) after.verdicts.items ≡ take done work.verdicts.items ++ verdicts
