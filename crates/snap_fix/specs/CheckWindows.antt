-- A check that goes from window to window: one is examined while the next one is fetched, and then told.
use Rattle.std.specs.Prelude.{◌≡◌, ℕ, ◌+◌, ◌-◌, ◌<◌, ◌≤◌, min, List, length, take, drop}
use Rattle.file_table.specs.Table.{TableValue}
use Rattle.stripe_reader.specs.Fetched.{IsUnhashedWindow}
use Rattle.stripe_reader.specs.Held.{HoldsCells}
use Rattle.stripe_reader.specs.WindowValue.{Fits, WindowValue}
use Rattle.snap_fix.specs.declared.beginning.Work.{Work}
use Rattle.snap_fix.specs.Checking.{IsWorkFor}
use Rattle.stripe_examiner.specs.declared.room.Room.{Room}
use Rattle.stripe_examiner.specs.Room.{IsRoomFor}

-- room was used, and its window is as large as before
pub record UsesRoom (table : TableValue) (old new : Room) : Type 0 where
  pub room : IsRoomFor table new
  pub as_large : new.window.room ≡ old.window.room

-- the stripes that were fetched, which stand after so many, and those that are fetched next
abbrev pub stripes_near : Work → ℕ → List ℕ
stripes_near work done = take work.room.window.count (drop done work.stripes.items)

abbrev pub stripes_next : Work → WindowValue → ℕ → List ℕ
stripes_next work far done =
    let next = done + work.room.window.count in
    take (min (length work.stripes.items - next) far.room) (drop next work.stripes.items)

-- The stripes after so many were fetched into the window, which keeps their cells, and not hashed: one of them at least, if any is
-- left. The far window is as large.
pub record IsReady (table : TableValue) (work : Work) (far : WindowValue) (done : ℕ) : Type 0 where
  pub is_work : IsWorkFor table work
  pub far_fits : Fits table far
  pub as_large : far.room ≡ work.room.window.room
  pub within : done + work.room.window.count ≤ length work.stripes.items
  pub held : work.room.window.count ≤ work.room.window.room
  pub some : done < length work.stripes.items → 0 < work.room.window.count
  pub unhashed : IsUnhashedWindow work.room.window
  pub cells : HoldsCells table (stripes_near work done) work.room.window
