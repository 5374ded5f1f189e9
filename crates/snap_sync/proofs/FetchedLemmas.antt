-- A turn of a sync as if the near window had had its digests before, and as if the far one had been read with them.
use Rattle.std.proofs.Common.{◌≡◌, ℕ, ◌+◌, ◌≤◌, List, length, map, take, All, Bool, Option, Result, refl, sym, ap, ◌∙◌, subst, arith}
use Rattle.disk_model.specs.Folder.{FolderView}
use Rattle.disk_model.specs.Sink.{SinkView}
use Rattle.disk_model.specs.declared.fault.Failed.{Failed}
use Rattle.file_table.specs.Table.{TableValue}
use Rattle.file_table.specs.declared.shape.Shape.{Shape}
use Rattle.parity_writer.specs.Summing.{HaveSize}
use Rattle.snap_report.specs.Report.{ReportView}
use Rattle.snap_report.specs.declared.events.Event.{Event}
use Rattle.stripe_findings.specs.Reading.{StripeReading, is_verified}
use Rattle.stripe_findings.proofs.ReadLemmas.{length_after}
use Rattle.stripe_reader.specs.Columns.{ReadsWindow}
use Rattle.stripe_reader.specs.Fetched.{FetchesWindow, IsUnhashedWindow, hashed_window}
use Rattle.stripe_reader.specs.Held.{HoldsCells}
use Rattle.stripe_reader.specs.Starts.{StartsValue}
use Rattle.stripe_reader.specs.WindowValue.{WindowValue, Fits}
use Rattle.stripe_reader.proofs.HashedLemmas.{fits_hashed, lanes_hashed}
use Rattle.snap_sync.specs.declared.beginning.Work.{Work}
use Rattle.snap_sync.specs.declared.judging.Counts.{Counts}
use Rattle.snap_sync.specs.Closing.{closed}
use Rattle.snap_sync.specs.Run.{all_of, count_after, near_hashed, pending_after, readings_near, stripes_near, stripes_next, IsWork, IsReady, KeepsWork, Turns}
use Rattle.snap_sync.specs.Window.{Scene, SyncsWindow}
use Rattle.snap_sync.proofs.StaysLemmas.{cells-differ, differs-closed}
use Rattle.snap_sync.proofs.TasksLemmas.{reads_window-by_closed}
use Rattle.snap_sync.proofs.WorkLemmas.{Judges, ReadsFar, sums_again, swapped_of, window_within}

-- ---- a window fits where it did with its digests

fits_without : (table : TableValue) (shape : Shape) (window : WindowValue) → Fits table (hashed_window shape window) → Fits table window
fits_without table shape window fits = record { lanes = sym (lanes_hashed shape window) ∙ fits.lanes; block_size = fits.block_size }

-- ---- work whose windows have their digests

abbrev pub far_hashed : Work → Work
far_hashed work = record work { room = record work.room { far = hashed_window work.table.shape work.room.far } }

pub ready_hashed : (every : Option ℕ) (work : Work) (done : ℕ) → IsReady every work done → IsReady every (near_hashed work) done
ready_hashed every work done ready =
    let room = ready.is_work.room in
    record {
      is_work = record {
        room = record { starts = room.starts; some = room.some; size = room.size; near = fits_hashed work.table work.table.shape work.room.near room.near; far = room.far; as_much = room.as_much; chosen = room.chosen; sums = room.sums; piece = room.piece };
        pending = ready.is_work.pending;
        few = ready.is_work.few;
      };
      within = ready.within;
      near = ready.near;
    }

pub ready_without : (every : Option ℕ) (work : Work) (done : ℕ) → IsReady every (near_hashed work) done → IsReady every work done
ready_without every work done ready =
    let room = ready.is_work.room in
    record {
      is_work = record {
        room = record { starts = room.starts; some = room.some; size = room.size; near = fits_without work.table work.table.shape work.room.near room.near; far = room.far; as_much = room.as_much; chosen = room.chosen; sums = room.sums; piece = room.piece };
        pending = ready.is_work.pending;
        few = ready.is_work.few;
      };
      within = ready.within;
      near = ready.near;
    }

pub work_without : (work : Work) → IsWork (far_hashed work) → IsWork work
work_without work is =
    let room = is.room in
    record {
      room = record { starts = room.starts; some = room.some; size = room.size; near = room.near; far = fits_without work.table work.table.shape work.room.far room.far; as_much = room.as_much; chosen = room.chosen; sums = room.sums; piece = room.piece };
      pending = is.pending;
      few = is.few;
    }

pub keeps_far : (work saved : Work) → KeepsWork work saved → KeepsWork (far_hashed work) (far_hashed saved)
keeps_far work saved keeps = record { piece = keeps.piece; rest = ap far_hashed keeps.rest }

-- the far one is the near one then
pub swaps_far : (saved swapped : Work) → swapped ≡ swapped_of saved → near_hashed swapped ≡ swapped_of (far_hashed saved)
swaps_far saved swapped swap = ap near_hashed swap

-- ---- before the first window is judged

pub first_hashed : (start work : Work) → work ≡ record start { room = record start.room { near = work.room.near } }
    → near_hashed work ≡ record start { room = record start.room { near = (near_hashed work).room.near } }
first_hashed start work rest = ap (λ (it : Work). let w : Work = record it { room = record it.room { near = (near_hashed work).room.near } } in w) rest

pub first_read : (start work : Work) (stripes : List ℕ) (olds news : List FolderView) → work ≡ record start { room = record start.room { near = work.room.near } }
    → FetchesWindow start.table start.room.starts stripes start.room.near work.room.near olds news
    → ReadsWindow start.table start.room.starts stripes start.room.near (near_hashed work).room.near olds news
first_read start work stripes olds news rest fetched =
    subst (λ (shape : Shape). ReadsWindow start.table start.room.starts stripes start.room.near (hashed_window shape work.room.near) olds news) (sym (ap (λ (it : Work). it.table.shape) rest)) fetched.read

-- the first window keeps the cells of its stripes
pub first_cells : (start work : Work) (stripes : List ℕ) (olds news : List FolderView) → work ≡ record start { room = record start.room { near = work.room.near } }
    → FetchesWindow start.table start.room.starts stripes start.room.near work.room.near olds news → HoldsCells work.table stripes work.room.near
first_cells start work stripes olds news rest fetched = subst (λ (table : TableValue). HoldsCells table stripes work.room.near) (sym (ap (λ (it : Work). it.table) rest)) fetched.cells

-- ---- a window was judged with its digests

pub syncs_hashed : {W R : Type 0} (view : W → SinkView) (standing : R → ReportView) (stands : R → List Event → Type 0) (table : TableValue) (stripes : List ℕ) (before after : WindowValue) (chosen : List Bool)
    (result : Result Counts Failed) (old new : Scene W R) → SyncsWindow view standing stands table stripes before after chosen result old new
    → SyncsWindow view standing stands table stripes before (hashed_window table.shape before) chosen result old new
syncs_hashed view standing stands table stripes before after chosen result old new syncs =
    subst (λ (it : WindowValue). SyncsWindow view standing stands table stripes before it chosen result old new) syncs.hashed syncs

-- the same in other words for its stripes and its choice
pub syncs_as : {W R : Type 0} (view : W → SinkView) (standing : R → ReportView) (stands : R → List Event → Type 0) (table : TableValue) (stripes others : List ℕ) (before after : WindowValue) (chosen choices : List Bool)
    (result : Result Counts Failed) (old new : Scene W R) → stripes ≡ others → chosen ≡ choices → SyncsWindow view standing stands table stripes before after chosen result old new
    → SyncsWindow view standing stands table others before after choices result old new
syncs_as view standing stands table stripes others before after chosen choices result old new same choice syncs =
    subst (λ (its : List ℕ). SyncsWindow view standing stands table its before after choices result old new) same
    (subst (λ (its : List Bool). SyncsWindow view standing stands table stripes before after its result old new) choice syncs)

-- ---- all of a turn

-- what was fetched by a table before stripes were closed in it was read by the one after
fetched_closed : (now : ℕ) (table : TableValue) (readings : List StripeReading) (starts : StartsValue) (stripes : List ℕ) (before after : WindowValue) (olds news : List FolderView)
    → FetchesWindow table starts stripes before after olds news
    → ReadsWindow (closed now table readings) starts stripes before (hashed_window (closed now table readings).shape after) olds news
fetched_closed now table readings starts stripes before after olds news fetched =
    subst (λ (shape : Shape). ReadsWindow (closed now table readings) starts stripes before (hashed_window shape after) olds news) (sym (differs-closed now table readings).shape)
    (reads_window-by_closed now table readings starts stripes before (hashed_window table.shape after) olds news fetched.read)

module _ (now : ℕ) (work turned : Work) (done : ℕ) (turns : Turns work turned) where
  abbrev readings : List StripeReading
  readings = readings_near (near_hashed work) done

  -- the work once the near window was judged
  abbrev pub judged_of : Work
  judged_of = record (near_hashed work) { table = closed now work.table readings; room = record (near_hashed work).room { chosen = turned.room.chosen } }

  -- and once the far one was fetched
  abbrev filled : Work
  filled = record judged_of { room = record judged_of.room { sums = turned.room.sums; far = turned.room.far } }

  pub judges_of : take work.room.near.count turned.room.chosen.items ≡ map (is_verified work.table) readings → Judges now (near_hashed work) judged_of done
  judges_of chosen = record { table = refl; chosen = chosen; as_many = turns.chosen; rest = refl }

  -- the chosen stripes can be closed
  pub turned_ready : (every : Option ℕ) → IsReady every work done → turned.room.far.room ≡ work.room.far.room → IsReady every turned done
  turned_ready every ready as_much =
      let room = ready.is_work.room in
      subst (λ (it : Work). IsReady every it done) (sym turns.rest) (record {
        is_work = record {
          room = record { starts = room.starts; some = room.some; size = room.size; near = fits_hashed work.table work.table.shape work.room.near room.near; far = turns.fits; as_much = as_much ∙ room.as_much; chosen = turns.chosen ∙ room.chosen; sums = sums_again room.sums turns.sums; piece = room.piece };
          pending = ready.is_work.pending;
          few = ready.is_work.few;
        };
        within = ready.within;
        near = ready.near;
      })

  pub turned_chosen : take work.room.near.count turned.room.chosen.items ≡ map (is_verified work.table) readings
      → take turned.room.near.count turned.room.chosen.items ≡ map (is_verified turned.table) (readings_near turned done)
  turned_chosen chosen =
      ap (λ (it : Work). take it.room.near.count turned.room.chosen.items) turns.rest
      ∙ chosen
      ∙ sym (ap (λ (it : Work). map (is_verified it.table) (readings_near it done)) turns.rest)

  -- the near window keeps the cells that it kept
  pub turned_cells : HoldsCells work.table (stripes_near work done) work.room.near → HoldsCells turned.table (stripes_near turned done) turned.room.near
  turned_cells cells = subst (λ (it : Work). HoldsCells it.table (stripes_near it done) it.room.near) (sym turns.rest) cells

  -- how many stripes were fetched
  far_count : (every : Option ℕ) (olds news : List FolderView) → IsReady every work done
      → FetchesWindow work.table work.room.starts (stripes_next every work done) work.room.far turned.room.far olds news
      → turned.room.far.count ≡ count_after every work (done + work.room.near.count)
  far_count every olds news ready fetched =
      let next = done + work.room.near.count in
      let within : next ≤ all_of work = omega (arith, ready.near, window_within every work.room.near.room (all_of work) done ready.within) in
      fetched.read.count ∙ length_after work.pending.items next (count_after every work next) (window_within every work.room.near.room (all_of work) next within)

  -- they were closed
  module _ (after : Work) (after_is : after ≡ record turned { table = closed now turned.table (readings_near turned done) }) where
    closed_is : after ≡ filled
    closed_is = after_is ∙ ap (λ (it : Work). let w : Work = record it { table = closed now it.table (readings_near it done) } in w) turns.rest

    pub reads_far : ReadsFar judged_of (far_hashed after)
    reads_far =
        let differs = differs-closed now work.table readings in
        subst (λ (it : Work). ReadsFar judged_of (far_hashed it)) (sym closed_is) (record {
          sums = record { as_many = turns.sums.as_many; each = subst (λ (n : ℕ). All (HaveSize n) turned.room.sums.items) (sym (ap (λ (shape : Shape). shape.block_size) differs.shape)) turns.sums.each };
          fits = record {
            lanes = lanes_hashed (closed now work.table readings).shape turned.room.far ∙ turns.fits.lanes ∙ sym differs.columns;
            block_size = turns.fits.block_size ∙ sym (ap (λ (shape : Shape). shape.block_size) differs.shape);
          };
          rest = refl;
        })

    pub reads_next : (every : Option ℕ) (olds news : List FolderView) → FetchesWindow work.table work.room.starts (stripes_next every work done) work.room.far turned.room.far olds news
        → ReadsWindow judged_of.table judged_of.room.starts (stripes_next every judged_of done) judged_of.room.far (far_hashed after).room.far olds news
    reads_next every olds news fetched =
        subst (λ (it : Work). ReadsWindow judged_of.table judged_of.room.starts (stripes_next every judged_of done) judged_of.room.far (far_hashed it).room.far olds news) (sym closed_is)
        (fetched_closed now work.table readings work.room.starts (stripes_next every work done) work.room.far turned.room.far olds news fetched)

    pub next_unhashed : (saved swapped : Work) → KeepsWork after saved → swapped ≡ swapped_of saved → IsUnhashedWindow turned.room.far → IsUnhashedWindow swapped.room.near
    next_unhashed saved swapped keeps swap unhashed =
        subst IsUnhashedWindow
        (sym (ap (λ (it : Work). it.room.near) swap ∙ ap (λ (it : Work). it.room.far) keeps.rest ∙ ap (λ (it : Work). it.room.far) after_is)) unhashed

    -- what is the near window then keeps the cells of the table that was closed meanwhile
    pub next_cells : (every : Option ℕ) (olds news : List FolderView) (saved swapped : Work) (behind : ℕ) → IsReady every work done
        → FetchesWindow work.table work.room.starts (stripes_next every work done) work.room.far turned.room.far olds news
        → KeepsWork after saved → swapped ≡ swapped_of saved → behind ≡ done + after.room.near.count
        → HoldsCells swapped.table (stripes_near swapped behind) swapped.room.near
    next_cells every olds news saved swapped behind ready fetched keeps swap behind_is =
        let next = done + work.room.near.count in
        let far = turned.room.far in
        let table : TableValue = closed now work.table readings in
        let closed_cells : HoldsCells table (stripes_next every work done) far = cells-differ work.table table (stripes_next every work done) far (differs-closed now work.table readings) fetched.cells in
        let by_count : HoldsCells table (pending_after work next far.count) far
        = subst (λ (n : ℕ). HoldsCells table (pending_after work next n) far) (sym (far_count every olds news ready fetched)) closed_cells in
        let by_place : HoldsCells table (pending_after work behind far.count) far
        = subst (λ (n : ℕ). HoldsCells table (pending_after work n far.count) far) (sym (behind_is ∙ ap (λ (it : Work). done + it.room.near.count) closed_is)) by_count in
        subst (λ (it : Work). HoldsCells it.table (stripes_near it behind) it.room.near)
        (sym (swap ∙ ap swapped_of keeps.rest ∙ ap (λ (it : Work). let w : Work = record it { room = record it.room { piece = saved.room.piece } } in swapped_of w) closed_is)) by_place
