-- A scrub that goes from window to window.
use Rattle.std.proofs.Common.{◌≡◌, ℕ, ◌+◌, ◌-◌, ◌≤◌, List, [], ◌++◌, length, take, drop, refl, sym, ap, ◌∙◌, subst, arith}
use Rattle.std.proofs.lemmas.List.{append-nil, length-take-le, take_all}
use Rattle.std.specs.Prelude.{min}
use Rattle.disk_model.specs.Folder.{FolderView}
use Rattle.disk_model.specs.Sink.{SinkView}
use Rattle.disk_model.specs.Vault.{VaultView, IsUntouched}
use Rattle.file_table.specs.Table.{TableValue}
use Rattle.snap_report.specs.Report.{ReportView}
use Rattle.snap_report.specs.declared.events.Event.{Event}
use Rattle.snap_report.specs.declared.pages.Lines.{Lines}
use Rattle.stripe_findings.proofs.ReadLemmas.{length_after}
use Rattle.stripe_reader.specs.Columns.{ReadsWindow}
use Rattle.stripe_reader.specs.Fetched.{FetchesWindow, hashed_window}
use Rattle.stripe_reader.specs.Starts.{StartsValue, recorded_starts}
use Rattle.stripe_reader.specs.WindowValue.{WindowValue}
use Rattle.snap_scrub.specs.declared.beginning.Work.{Work}
use Rattle.snap_scrub.specs.declared.verdict.Verdict.{Verdict}
use Rattle.snap_scrub.specs.Looking.{LooksInto, LooksOver, Scene, scene}
use Rattle.snap_scrub.specs.Marks.{at_most}
use Rattle.snap_scrub.specs.Room.{IsEnoughFor, IsRoomFor, IsWorkFor}
use Rattle.snap_scrub.specs.Windows.{IsReady, KeepsWork, LooksNear, Turns, stripes_near, stripes_next}
use Rattle.stripe_reader.proofs.HashedLemmas.{fits_hashed}
use Rattle.snap_scrub.proofs.HashedLemmas.{fits_after}
use Rattle.snap_scrub.proofs.OverLemmas.{over_none, over_more, slice_is, written_slice}
use Rattle.snap_scrub.proofs.LookingLemmas.{into_none}

-- So many stripes were looked at, and those behind them were fetched into the near window.
pub record IsUnderway {W R : Type 0} (view : W → SinkView) (standing : R → ReportView) (stands : R → List Event → Type 0)
    (table : TableValue) (work : Work) (done findings : ℕ) (olds news : List FolderView) (old new : Scene W R) : Type 0 where
  pub ready : IsReady table work done
  pub before : WindowValue
  pub mids : List FolderView
  pub fetched : FetchesWindow table (recorded_starts table) (stripes_near work done) before work.room.near mids news
  pub looks : LooksOver view standing stands table (take done work.stripes.items) (take done work.verdicts.items) findings olds mids old new

-- the same fetched, in other words for its starts and its stripes
pub fetched_as : (table : TableValue) (starts other : StartsValue) (xs ys : List ℕ) (before after : WindowValue) (olds news : List FolderView) → starts ≡ other → xs ≡ ys
    → FetchesWindow table starts xs before after olds news → FetchesWindow table other ys before after olds news
fetched_as table starts other xs ys before after olds news starts_is same fetched =
    subst (λ (its : List ℕ). FetchesWindow table other its before after olds news) same (subst (λ (its : StartsValue). FetchesWindow table its xs before after olds news) starts_is fetched)

-- the stripes of the near window, as the code cuts them out
pub near_slice : (work : Work) (done count : ℕ) (xs : List ℕ) → count ≡ work.room.near.count → xs ≡ work.stripes.items → take ((done + count) - done) (drop done xs) ≡ stripes_near work done
near_slice work done count xs count_is same = slice_is xs work.stripes.items done count same ∙ ap (λ (n : ℕ). take n (drop done work.stripes.items)) count_is

-- the first window was fetched
module _ (table : TableValue) (work : Work) (near : WindowValue) (count : ℕ) (olds news : List FolderView) (is : IsWorkFor table work) (enough : IsEnoughFor (length work.stripes.items) work.room)
    (count_is : count ≡ min (length work.stripes.items) work.room.near.room) (fetched : FetchesWindow table (recorded_starts table) (take count work.stripes.items) work.room.near near olds news) where
  near_count : near.count ≡ count
  near_count = fetched.read.count ∙ length-take-le count work.stripes.items (omega (arith, count_is))

  pub first_fetched : FetchesWindow table (recorded_starts table) (take near.count work.stripes.items) work.room.near near olds news
  first_fetched = subst (λ (n : ℕ). FetchesWindow table (recorded_starts table) (take n work.stripes.items) work.room.near near olds news) (sym near_count) fetched

  pub first_ready : IsReady table (record work { room = record work.room { near = near } }) 0
  first_ready = record {
    is_work = record {
      within = is.within;
      verdicts = is.verdicts;
      room = record {
        starts = is.room.starts;
        near = fits_after table (recorded_starts table) (take count work.stripes.items) work.room.near near olds news fetched is.room.near;
        far = is.room.far;
        check = is.room.check;
        near_sums = omega (arith, is.room.near_sums, fetched.read.room);
        far_sums = is.room.far_sums;
        piece = is.room.piece;
      };
    };
    within = omega (arith, near_count, count_is);
    held = omega (arith, near_count, count_is, fetched.read.room);
    some = λ left. omega (arith, near_count, count_is, left, enough.first (omega (arith, left)));
    more = λ left. enough.more (omega (arith, near_count, count_is, left));
  }

-- one window was hashed and looked at, and the next one was fetched: the rest of the work stays
module _ (table : TableValue) (work : Work) (done : ℕ) (turned : Work) (ready : IsReady table work done) (turns : Turns table work turned) (mids news : List FolderView)
    (fetched : FetchesWindow table (recorded_starts table) (stripes_next work done) work.room.far turned.room.far mids news) where
  abbrev next : ℕ
  next = done + work.room.near.count

  abbrev after : Work
  after = record work { verdicts = turned.verdicts; room = record work.room { near = turned.room.far; far = hashed_window table.shape work.room.near; check = turned.room.check } }

  far_count : turned.room.far.count ≡ min (length work.stripes.items - next) work.room.far.room
  far_count = fetched.read.count ∙ length_after work.stripes.items next (min (length work.stripes.items - next) work.room.far.room) (omega (arith, ready.within))

  room_after : IsRoomFor table after.room
  room_after = record {
    starts = ready.is_work.room.starts;
    near = fits_after table (recorded_starts table) (stripes_next work done) work.room.far turned.room.far mids news fetched ready.is_work.room.far;
    far = fits_hashed table table.shape work.room.near ready.is_work.room.near;
    check = turns.check.room;
    near_sums = omega (arith, ready.is_work.room.far_sums, fetched.read.room, turns.check.as_many);
    far_sums = omega (arith, ready.is_work.room.near_sums, turns.check.as_many);
    piece = ready.is_work.room.piece;
  }

  ready_after : IsReady table after next
  ready_after = record {
    is_work = record { within = ready.is_work.within; verdicts = turns.verdicts ∙ ready.is_work.verdicts; room = room_after };
    within = omega (arith, far_count, ready.within);
    held = omega (arith, far_count, fetched.read.room);
    some = λ left. omega (arith, far_count, left, ready.more left);
    more = λ left. omega (arith, ready.held, ready.some (omega (arith, left)));
  }

  fetched_after : FetchesWindow table (recorded_starts table) (stripes_near after next) work.room.far after.room.near mids news
  fetched_after = subst (λ (n : ℕ). FetchesWindow table (recorded_starts table) (take n (drop next work.stripes.items)) work.room.far turned.room.far mids news) (sym far_count) fetched

  -- the windows are swapped
  swapped_is : (swapped : Work) → swapped ≡ record turned { room = record turned.room { near = turned.room.far; far = turned.room.near } } → swapped ≡ after
  swapped_is swapped swap = swap ∙ ap (λ (it : Work). let w : Work = record it { room = record it.room { near = turned.room.far; far = it.room.near } } in w) turns.rest

module _ {W R : Type 0} (view : W → SinkView) (standing : R → ReportView) (stands : R → List Event → Type 0) (table : TableValue) where
  -- before the first window, of a vault that stayed untouched while that was fetched
  pub underway_none : (old work : Work) (olds news : List FolderView) (before after : VaultView) (lines : Lines W) (reports : List R) → work ≡ record old { room = record old.room { near = work.room.near } } → IsReady table work 0
      → FetchesWindow table (recorded_starts table) (stripes_near work 0) old.room.near work.room.near olds news
      → IsUntouched before after
      → IsUnderway view standing stands table work 0 0 olds news (scene before lines reports) (scene after lines reports)
  underway_none old work olds news before after lines reports rest ready fetched same = record {
    ready = ready;
    before = old.room.near;
    mids = olds;
    fetched = fetched;
    looks = over_none view standing stands table [] [] olds before after lines reports same refl refl;
  }

  -- one window more
  pub underway_more : (work turned swapped : Work) (done count one more both : ℕ) (olds mids news : List FolderView) (old mid new : Scene W R)
      → IsUnderway view standing stands table work done one olds mids old mid → length mids ≡ length table.columns
      → Turns table work turned → FetchesWindow table (recorded_starts table) (stripes_next work done) work.room.far turned.room.far mids news
      → LooksNear view standing stands table work turned done more mid new → count ≡ work.room.near.count → both ≡ at_most (one + more)
      → swapped ≡ record turned { room = record turned.room { near = turned.room.far; far = turned.room.near } }
      → IsUnderway view standing stands table swapped (done + count) both olds news old new
  underway_more work turned swapped done count one more both olds mids news old mid new under folders turns fetched looks count_is both_is swap =
      let ready = under.ready in
      let here = work.room.near.count in
      let all = work.stripes.items in
      let near = hashed_window table.shape work.room.near in
      let read = under.fetched.read in
      let over = over_more view standing stands table all done here (take done work.verdicts.items) (take (done + here) turned.verdicts.items) one more both under.before near looks.verdicts olds under.mids mids old mid new
      both_is (fits_hashed table table.shape work.room.near ready.is_work.room.near).lanes (sym read.folders ∙ folders) (sym (length_after all done here ready.within)) looks.follow under.looks read looks.looks in
      subst (λ (it : Work). IsUnderway view standing stands table it (done + count) both olds news old new) (sym (swapped_is table work done turned ready turns mids news fetched swapped swap))
      (subst (λ (n : ℕ). IsUnderway view standing stands table (after table work done turned ready turns mids news fetched) (done + n) both olds news old new) (sym count_is) (record {
        ready = ready_after table work done turned ready turns mids news fetched;
        before = work.room.far;
        mids = mids;
        fetched = fetched_after table work done turned ready turns mids news fetched;
        looks = over;
      }))

  -- behind the last window
  pub underway_all : (first work : Work) (done findings : ℕ) (olds news : List FolderView) (old new : Scene W R) → length work.stripes.items ≤ done → length news ≡ length table.columns → KeepsWork table first work
      → IsUnderway view standing stands table work done findings olds news old new → LooksOver view standing stands table first.stripes.items work.verdicts.items findings olds news old new
  underway_all first work done findings olds news old new behind folders kept under =
      let all = work.stripes.items in
      let near = hashed_window table.shape work.room.near in
      let none : near.count ≡ 0 = omega (arith, behind, under.ready.within) in
      let read : ReadsWindow table (recorded_starts table) (take 0 (drop done all)) under.before near under.mids news
      = subst (λ (n : ℕ). ReadsWindow table (recorded_starts table) (take n (drop done all)) under.before near under.mids news) none under.fetched.read in
      let over = over_more view standing stands table all done 0 (take done work.verdicts.items) (take done work.verdicts.items) findings 0 findings under.before near [] olds under.mids news old new new
      (omega (arith, under.looks.findings_are)) (fits_hashed table table.shape work.room.near under.ready.is_work.room.near).lanes (sym under.fetched.read.folders ∙ folders) refl (sym (append-nil (take done work.verdicts.items))) under.looks read
      (into_none view standing stands table (take 0 (drop done all)) near [] new refl) in
      subst (λ (its : List Verdict). LooksOver view standing stands table first.stripes.items its findings olds news old new) (take_all done work.verdicts.items (omega (arith, behind, under.ready.is_work.verdicts)))
      (subst (λ (its : List ℕ). LooksOver view standing stands table its (take done work.verdicts.items) findings olds news old new) (take_all (done + 0) all (omega (arith, behind)) ∙ ap (λ its. its.items) kept.stripes) over)

  -- the stripes of the near window were looked at, as the code writes the verdicts on them
  pub near_looks : (work after : Work) (done findings n : ℕ) (cut : List ℕ) (window : WindowValue) (lent written : List Verdict) (old new : Scene W R) → IsReady table work done → cut ≡ stripes_near work done
      → window ≡ hashed_window table.shape work.room.near → n ≡ work.room.near.count
      → lent ≡ work.verdicts.items → length written ≡ n → after.verdicts.items ≡ take done lent ++ (written ++ drop n (drop done lent))
      → LooksInto view standing stands table cut window (length cut) (take (length cut) written) findings old new
      → LooksNear view standing stands table work after done findings old new
  near_looks work after done findings n cut window lent written old new ready cut_is window_is n_is same long written_is looks =
      let here = work.room.near.count in
      let near = stripes_near work done in
      let many : length near ≡ here = length_after work.stripes.items done here ready.within in
      let by_stripes : LooksInto view standing stands table near window (length near) (take (length near) written) findings old new
      = subst (λ (its : List ℕ). LooksInto view standing stands table its window (length its) (take (length its) written) findings old new) cut_is looks in
      let by_count : LooksInto view standing stands table near window here (take here written) findings old new
      = subst (λ (k : ℕ). LooksInto view standing stands table near window k (take k written) findings old new) many by_stripes in
      record {
        verdicts = written;
        looks =
            subst (λ (it : WindowValue). LooksInto view standing stands table near it here written findings old new) window_is
            (subst (λ (its : List Verdict). LooksInto view standing stands table near window here its findings old new) (take_all here written (omega (arith, long, n_is))) by_count);
        follow =
            ap (take (done + here)) written_is
            ∙ ap (λ (k : ℕ). take (done + k) (take done lent ++ (written ++ drop n (drop done lent)))) (sym n_is)
            ∙ written_slice work.verdicts.items written lent done n same long (omega (arith, n_is, ready.within, ready.is_work.verdicts));
      }
