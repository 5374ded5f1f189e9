-- A check that goes from window to window.
use Rattle.std.proofs.Common.{◌≡◌, ℕ, ◌+◌, ◌-◌, ◌≤◌, List, [], ◌++◌, length, take, drop, refl, sym, ap, ◌∙◌, subst, arith}
use Rattle.std.specs.Prelude.{min}
use Rattle.std.proofs.lemmas.List.{append-nil, length-drop, length-take-le, take_all}
use Rattle.disk_model.specs.Folder.{FolderView}
use Rattle.disk_model.specs.Sink.{SinkView}
use Rattle.disk_model.specs.Vault.{VaultView, IsUntouched}
use Rattle.file_table.specs.Table.{TableValue}
use Rattle.snap_report.specs.Report.{ReportView}
use Rattle.snap_report.specs.declared.events.Event.{Event}
use Rattle.snap_report.specs.declared.pages.Lines.{Lines}
use Rattle.stripe_reader.specs.Columns.{ReadsWindow}
use Rattle.stripe_reader.specs.Fetched.{FetchesWindow, hashed_window}
use Rattle.stripe_reader.specs.Held.{HoldsCells}
use Rattle.stripe_reader.specs.Starts.{StartsValue}
use Rattle.stripe_reader.specs.WindowValue.{Fits, WindowValue}
use Rattle.snap_fix.specs.declared.beginning.Work.{Work}
use Rattle.stripe_examiner.specs.declared.counts.Counts.{Counts}
use Rattle.snap_fix.specs.Checking.{ChecksStripes, IsWorkFor, KeepsWork, plan_for}
use Rattle.snap_fix.specs.CheckWindows.{IsReady, UsesRoom, stripes_near, stripes_next}
use Rattle.stripe_examiner.specs.Counts.{AreCounts}
use Rattle.stripe_examiner.specs.Facts.{StripeFacts}
use Rattle.stripe_examiner.specs.Looking.{AreRead, LooksAt, LooksInto, Scene, numbers_of, scene}
use Rattle.stripe_examiner.specs.Room.{IsRoomFor}
use Rattle.stripe_examiner.specs.Spare.{SpareView}
use Rattle.stripe_reader.proofs.HashedLemmas.{lanes_hashed}
use Rattle.stripe_examiner.proofs.AheadLemmas.{levels_left}
use Rattle.stripe_examiner.proofs.LookingLemmas.{looks_none}
use Rattle.snap_fix.proofs.CheckLemmas.{checked_more, keeps_then}
use Rattle.snap_fix.proofs.ReadLemmas.{read_none, read_then, read_window}

-- So many stripes were looked at, and those behind them were fetched into the window.
pub record IsChecking {W R : Type 0} (view : W → SinkView) (standing : R → ReportView) (stands : R → List Event → Type 0)
    (table : TableValue) (first work : Work) (far : WindowValue) (done : ℕ) (counts : Counts) (olds news : List FolderView) (old new : Scene W R) : Type 0 where
  pub ready : IsReady table work far done
  pub kept : KeepsWork table first work
  pub stripes : List StripeFacts
  pub numbers : numbers_of stripes ≡ take done first.stripes.items
  pub before : WindowValue
  pub mids : List FolderView
  pub fetched : ReadsWindow table work.starts (stripes_near work done) before (hashed_window table.shape work.room.window) mids news
  pub read : AreRead (plan_for table first) first.starts stripes olds mids
  pub looks : LooksAt view standing stands (plan_for table first) stripes counts old new

-- so many of those behind others
part_long : (xs : List ℕ) (at n : ℕ) → at + n ≤ length xs → length (take n (drop at xs)) ≡ n
part_long xs at n within = length-take-le n (drop at xs) (omega (arith, within, length-drop at xs))

-- the stripes of the two windows, as the code cuts them out
pub near_as : (work : Work) (xs : List ℕ) (done count : ℕ) → xs ≡ work.stripes.items → count ≡ work.room.window.count
    → take ((done + count) - done) (drop done xs) ≡ stripes_near work done
near_as work xs done count same is =
    let real : (done + count) - done ≡ work.room.window.count = omega (arith, is) in
    ap (λ (n : ℕ). take n (drop done xs)) real ∙ ap (λ (its : List ℕ). take work.room.window.count (drop done its)) same

pub next_as : (work : Work) (far : WindowValue) (xs : List ℕ) (done next more : ℕ) → xs ≡ work.stripes.items → next ≡ done + work.room.window.count
    → more ≡ min (length work.stripes.items - next) far.room → take ((next + more) - next) (drop next xs) ≡ stripes_next work far done
next_as work far xs done next more same is more_is =
    let real : (next + more) - next ≡ min (length work.stripes.items - (done + work.room.window.count)) far.room = omega (arith, more_is, is) in
    ap (λ (n : ℕ). take n (drop next xs)) real
    ∙ ap (λ (its : List ℕ). take (min (length work.stripes.items - (done + work.room.window.count)) far.room) (drop next its)) same
    ∙ ap (λ (n : ℕ). take (min (length work.stripes.items - (done + work.room.window.count)) far.room) (drop n work.stripes.items)) is

-- ---- the first window was fetched

module _ (table : TableValue) (first : Work) (near far : WindowValue) (olds news : List FolderView) (is : IsWorkFor table first) (far_fits : Fits table far) (as_large : far.room ≡ first.room.window.room)
    (fetched : FetchesWindow table first.starts (take (min (length first.stripes.items) first.room.window.room) first.stripes.items) first.room.window near olds news)
    (cells : HoldsCells table (take (min (length first.stripes.items) first.room.window.room) first.stripes.items) near) where
  abbrev begun : Work
  begun = record first { room = record first.room { window = near } }

  near_count : near.count ≡ min (length first.stripes.items) first.room.window.room
  near_count = fetched.read.count ∙ length-take-le (min (length first.stripes.items) first.room.window.room) first.stripes.items (omega arith)

  room_begun : IsRoomFor table begun.room
  room_begun = record {
    some = omega (arith, is.room.some, fetched.read.room);
    just = fetched.read.room ∙ is.room.just;
    window = record { lanes = sym (lanes_hashed table.shape near) ∙ fetched.read.lanes ∙ is.room.window.lanes; block_size = fetched.read.block_size ∙ is.room.window.block_size };
    block = is.room.block;
    as_many = is.room.as_many ∙ sym fetched.read.room;
    each = is.room.each;
  }

  ready_begun : IsReady table begun far 0
  ready_begun = record {
    is_work = record { entries = is.entries; starts = is.starts; within = is.within; room = room_begun };
    far_fits = far_fits;
    as_large = as_large ∙ sym fetched.read.room;
    within = omega (arith, near_count);
    held = omega (arith, near_count, fetched.read.room);
    some = λ left. omega (arith, near_count, left, is.room.some);
    unhashed = fetched.unhashed;
    cells = subst (λ (n : ℕ). HoldsCells table (take n first.stripes.items) near) (sym near_count) cells;
  }

  pub checking_none : {W R : Type 0} (view : W → SinkView) (standing : R → ReportView) (stands : R → List Event → Type 0) (counts : Counts) (old new : VaultView) (spare : SpareView) (lines : Lines W) (reports : List R) → IsUntouched old new → AreCounts [] counts
      → IsChecking view standing stands table first begun far 0 counts olds news (scene old spare lines reports) (scene new spare lines reports)
  checking_none view standing stands counts old new spare lines reports same none = record {
    ready = ready_begun;
    kept = record { rest = refl; room = room_begun };
    stripes = [];
    numbers = refl;
    before = first.room.window;
    mids = olds;
    fetched = subst (λ (n : ℕ). ReadsWindow table first.starts (take n first.stripes.items) first.room.window (hashed_window table.shape near) olds news) (sym near_count) fetched.read;
    read = read_none (plan_for table first) first.starts olds;
    looks =
        let left = looks_none view standing stands (plan_for table first) counts (scene new spare lines reports) none in
        record { are = left.are; levels = levels_left (plan_for table first) old new same; spare = left.spare; told = left.told; counts_are = left.counts_are };
  }

pub checking_begun : {W R : Type 0} (view : W → SinkView) (standing : R → ReportView) (stands : R → List Event → Type 0) (table : TableValue) (first work : Work) (far : WindowValue) (counts : Counts) (olds news : List FolderView) (old new : VaultView) (spare : SpareView) (lines : Lines W) (reports : List R)
    → IsUntouched old new → IsWorkFor table first → Fits table far → far.room ≡ first.room.window.room → work ≡ record first { room = record first.room { window = work.room.window } }
    → FetchesWindow table first.starts (take (min (length first.stripes.items) first.room.window.room) first.stripes.items) first.room.window work.room.window olds news
    → HoldsCells table (take (min (length first.stripes.items) first.room.window.room) first.stripes.items) work.room.window → AreCounts [] counts → IsChecking view standing stands table first work far 0 counts olds news (scene old spare lines reports) (scene new spare lines reports)
checking_begun view standing stands table first work far counts olds news old new spare lines reports same is fits as_large rest fetched cells none =
    subst (λ (it : Work). IsChecking view standing stands table first it far 0 counts olds news (scene old spare lines reports) (scene new spare lines reports)) (sym rest)
    (checking_none table first work.room.window far olds news is fits as_large fetched cells view standing stands counts old new spare lines reports same none)

-- ---- one window was looked at, and the next one was fetched

module _ (table : TableValue) (first work : Work) (far : WindowValue) (done : ℕ) (turned : Work) (next_far : WindowValue) (kept : KeepsWork table first work) (ready : IsReady table work far done)
    (uses : UsesRoom table work.room turned.room) (fits : Fits table next_far) (mids news : List FolderView)
    (fetched : FetchesWindow table work.starts (stripes_next work far done) far next_far mids news) (cells : HoldsCells table (stripes_next work far done) next_far) where
  abbrev next : ℕ
  next = done + work.room.window.count

  abbrev after : Work
  after = record work { room = record turned.room { window = next_far } }

  next_count : next_far.count ≡ min (length work.stripes.items - next) far.room
  next_count = fetched.read.count ∙ part_long work.stripes.items next (min (length work.stripes.items - next) far.room) (omega (arith, ready.within))

  room_after : IsRoomFor table after.room
  room_after = record {
    some = omega (arith, fetched.read.room, ready.as_large, ready.is_work.room.some);
    just = fetched.read.room ∙ ready.as_large ∙ ready.is_work.room.just;
    window = fits;
    block = uses.room.block;
    as_many = uses.room.as_many ∙ uses.as_large ∙ sym ready.as_large ∙ sym fetched.read.room;
    each = uses.room.each;
  }

  ready_after : IsReady table after turned.room.window next
  ready_after = record {
    is_work = record { entries = ready.is_work.entries; starts = ready.is_work.starts; within = ready.is_work.within; room = room_after };
    far_fits = uses.room.window;
    as_large = uses.as_large ∙ sym ready.as_large ∙ sym fetched.read.room;
    within = omega (arith, next_count, ready.within);
    held = omega (arith, next_count, fetched.read.room);
    some = λ left. omega (arith, next_count, left, ready.as_large, ready.is_work.room.some);
    unhashed = fetched.unhashed;
    cells = subst (λ (n : ℕ). HoldsCells table (take n (drop next work.stripes.items)) next_far) (sym next_count) cells;
  }

  fetched_after : ReadsWindow table after.starts (stripes_near after next) far (hashed_window table.shape next_far) mids news
  fetched_after = subst (λ (n : ℕ). ReadsWindow table work.starts (take n (drop next work.stripes.items)) far (hashed_window table.shape next_far) mids news) (sym next_count) fetched.read

  kept_after : KeepsWork table first after
  kept_after = keeps_then table first work after kept (record { rest = refl; room = room_after })

module _ {W R : Type 0} (view : W → SinkView) (standing : R → ReportView) (stands : R → List Event → Type 0) (table : TableValue) (first : Work) where
  -- the folders are as many as the lanes of the window that was fetched
  before_lanes : (work : Work) (far : WindowValue) (done : ℕ) (counts : Counts) (olds news : List FolderView) (old new : Scene W R)
      → (under : IsChecking view standing stands table first work far done counts olds news old new) → length news ≡ length table.columns
      → length under.before.lanes ≡ length under.mids
  before_lanes work far done counts olds news old new under folders =
      omega (arith, under.fetched.lanes, lanes_hashed table.shape work.room.window, under.ready.is_work.room.window.lanes, under.fetched.folders, folders)

  -- one window more
  pub checking_more : (work turned swapped : Work) (far next_far last : WindowValue) (done count : ℕ) (one more both : Counts) (olds mids news : List FolderView) (old mid new : Scene W R)
      → IsChecking view standing stands table first work far done one olds mids old mid → length mids ≡ length table.columns
      → turned ≡ record work { room = turned.room } → UsesRoom table work.room turned.room → Fits table next_far
      → FetchesWindow table work.starts (stripes_next work far done) far next_far mids news → HoldsCells table (stripes_next work far done) next_far
      → LooksInto view standing stands (plan_for table work) (stripes_near work done) (hashed_window table.shape work.room.window) more mid new
      → ((events others : List Event) → AreCounts events one → AreCounts others more → AreCounts (events ++ others) both)
      → count ≡ work.room.window.count
      → swapped ≡ record turned { room = record turned.room { window = next_far } } → last ≡ turned.room.window
      → IsChecking view standing stands table first swapped last (done + count) both olds news old new
  checking_more work turned swapped far next_far last done count one more both olds mids news old mid new under folders rest uses fits fetched cells looks and count_is swap last_is =
      let here = work.room.window.count in
      let ready = under.ready in
      let all = checked_more table first work under.kept view standing stands under.stripes done here under.before (hashed_window table.shape work.room.window) one more both olds under.mids mids old mid new
      (before_lanes work far done one olds mids old mid under folders) under.numbers under.read under.looks and under.fetched looks in
      let swapped_is : swapped ≡ after table first work far done turned next_far under.kept ready uses fits mids news fetched cells =
      swap ∙ ap (λ (it : Work). let w : Work = record it { room = record turned.room { window = next_far } } in w) rest in
      subst (λ (it : Work). IsChecking view standing stands table first it last (done + count) both olds news old new) (sym swapped_is)
      (subst (λ (it : WindowValue). IsChecking view standing stands table first (after table first work far done turned next_far under.kept ready uses fits mids news fetched cells) it (done + count) both olds news old new) (sym last_is)
      (subst (λ (n : ℕ). IsChecking view standing stands table first (after table first work far done turned next_far under.kept ready uses fits mids news fetched cells) turned.room.window (done + n) both olds news old new) (sym count_is) (record {
        ready = ready_after table first work far done turned next_far under.kept ready uses fits mids news fetched cells;
        kept = kept_after table first work far done turned next_far under.kept ready uses fits mids news fetched cells;
        stripes = all.stripes;
        numbers = all.numbers;
        before = far;
        mids = mids;
        fetched = fetched_after table first work far done turned next_far under.kept ready uses fits mids news fetched cells;
        read = all.read;
        looks = all.looks;
      })))

  -- behind the last window
  pub checking_all : (work : Work) (far : WindowValue) (done : ℕ) (counts : Counts) (olds news : List FolderView) (old new : Scene W R) → length work.stripes.items ≤ done → length news ≡ length table.columns
      → IsChecking view standing stands table first work far done counts olds news old new → ChecksStripes view standing stands table first counts olds news old new
  checking_all work far done counts olds news old new behind folders under =
      let plan = plan_for table first in
      let near = hashed_window table.shape work.room.window in
      let none : work.room.window.count ≡ 0 = omega (arith, behind, under.ready.within) in
      let same : length first.stripes.items ≡ length work.stripes.items = ap (λ (it : Work). length it.stripes.items) (sym under.kept.rest) in
      let starts_are = ap (λ (it : Work). it.starts) under.kept.rest in
      let no_more : ReadsWindow table first.starts [] under.before near under.mids news =
      subst (λ (starts : StartsValue). ReadsWindow table starts [] under.before near under.mids news) starts_are
      (subst (λ (n : ℕ). ReadsWindow table work.starts (take n (drop done work.stripes.items)) under.before near under.mids news) none under.fetched) in
      record {
        stripes = under.stripes;
        numbers = under.numbers ∙ take_all done first.stripes.items (omega (arith, behind, same));
        read = subst (λ (xs : List StripeFacts). AreRead plan first.starts xs olds news) (append-nil under.stripes)
            (read_then plan first.starts under.stripes [] olds under.mids news under.read
            (read_window plan first.starts [] [] under.before near under.mids news refl (λ k below. absurd (omega (arith, below))) (before_lanes work far done counts olds news old new under folders) no_more));
        looks = under.looks;
      }
