-- What a sync works with, from window to window.
use Rattle.std.proofs.Common.{◌≡◌, Vec, Global, Bool, not, ℕ, ◌+◌, ◌<◌, ◌≤◌, List, length, map, take, drop, max, min, All, Option, None, Some, IfSome, refl, sym, ap, ap₂, ◌∙◌, subst, arith}
use Rattle.std.specs.List.{range_with_len}
use Rattle.std.proofs.lemmas.List.Elements.{All-from_get_or, All-filter}
use Rattle.std.proofs.lemmas.List.Filters.{length-filter_both}
use Rattle.std.proofs.lemmas.List.FromFn.{length-range_with_len, get_or-range_with_len}
use Rattle.array_scan.specs.Layout.{pending_stripes, is_pending}
use Rattle.disk_model.specs.Folder.{FolderView}
use Rattle.file_table.specs.Table.{TableValue, info_at}
use Rattle.file_table.specs.Valid.{most_blocks}
use Rattle.parity_writer.specs.Chosen.{Choice}
use Rattle.parity_writer.specs.Summing.{HaveSize}
use Rattle.parity_writer.specs.declared.summing.Sums.{Sums}
use Rattle.stripe_reader.specs.Columns.{ReadsWindow}
use Rattle.file_table.specs.declared.shape.Shape.{Shape}
use Rattle.stripe_reader.specs.WindowValue.{WindowValue, Fits, stripe_count}
use Rattle.snap_sync.specs.declared.beginning.Work.{Work}
use Rattle.snap_sync.specs.declared.room.Room.{Room}
use Rattle.snap_sync.specs.Closing.{closed}
use Rattle.stripe_findings.specs.Reading.{StripeReading, readings_in, is_verified}
use Rattle.snap_sync.specs.Run.{all_of, count_after, stripes_near, stripes_next, readings_near, IsWork, IsReady, KeepsWork}
use Rattle.snap_sync.specs.Schedule.{window_count}
use Rattle.snap_sync.specs.Work.{AreSumsFor, IsRoomFor}
use Rattle.snap_sync.proofs.StaysLemmas.{differs-closed}
use Rattle.snap_sync.proofs.TasksLemmas.{recorded_starts-closed}
use Rattle.stripe_findings.proofs.ReadLemmas.{length_after}

-- a window takes no more than there are
pub window_within : (every : Option ℕ) (room all count : ℕ) → count ≤ all → count + window_count every room all count ≤ all
window_within every room all count within = omega arith

-- nor more than there is room for
pub window_few : (every : Option ℕ) (room all count : ℕ) → window_count every room all count ≤ room
window_few None room all count = omega arith
window_few (Some every) room all count = omega arith

-- and at least one
pub window_some : (every : Option ℕ) (room all count : ℕ) → IfSome every (λ every. 0 < every) → 0 < room → count < all → 0 < window_count every room all count
window_some None room all count some has more = omega arith
window_some (Some every) room all count some has more = omega arith

-- where none are left it takes none
pub window_none : (every : Option ℕ) (room all count : ℕ) → count ≡ all → 0 ≡ window_count every room all count
window_none every room all count all_done = omega (arith, all_done)

-- A window takes the same, whether it has room for no more than there are or for as many as one of any run.
pub window_same : (every : Option ℕ) (room all count : ℕ) → 0 < room → window_count every (max 1 (min room all)) all count ≡ window_count every room all count
window_same None room all count some = omega (arith, some)
window_same (Some every) room all count some = omega (arith, some)

-- ---- the room of a window

-- a window of any run has room for one stripe at least
pub some_stripes : (disks block_size : ℕ) → 0 < stripe_count disks block_size
some_stripes disks block_size = omega arith

-- one of a sync has room for no more
pub room_few : (table : TableValue) (pending : ℕ) (room : Room) → IsRoomFor table pending room → room.near.room ≤ stripe_count (length table.columns) table.shape.block_size
room_few table pending room is =
    at_most (stripe_count (length table.columns) table.shape.block_size) pending room.near.room (some_stripes (length table.columns) table.shape.block_size) is.size
  where
    at_most : (most pending n : ℕ) → 0 < most → n ≡ max 1 (min most pending) → n ≤ most
    at_most most pending n some is = omega (arith, some, is)

-- one of any run has room for as many once stripes are closed in the table
pub stripes_same : (now : ℕ) (start table : TableValue) (readings : List StripeReading) → table ≡ closed now start readings
    → stripe_count (length table.columns) table.shape.block_size ≡ stripe_count (length start.columns) start.shape.block_size
stripes_same now start table readings is =
    ap₂ (λ (disks size : ℕ). stripe_count disks size)
    (ap (λ (t : TableValue). length t.columns) is ∙ (differs-closed now start readings).columns)
    (ap (λ (t : TableValue). t.shape.block_size) is ∙ ap (λ (s : Shape). s.block_size) (differs-closed now start readings).shape)

-- as many as one window has, by a table in which stripes are closed
pub few_of : (now : ℕ) (start table : TableValue) (readings : List StripeReading) (count room : ℕ) → table ≡ closed now start readings → count ≤ room → room ≤ stripe_count (length table.columns) table.shape.block_size
    → count ≤ stripe_count (length start.columns) start.shape.block_size
few_of now start table readings count room is few within =
    subst (λ (n : ℕ). count ≤ n) (stripes_same now start table readings is)
    (le_through count room (stripe_count (length table.columns) table.shape.block_size) few within)
  where
    le_through : (a b c : ℕ) → a ≤ b → b ≤ c → a ≤ c
    le_through a b c one two = omega (arith, one, two)

-- ---- a window was judged

-- which stripes of the near window are chosen
abbrev pub choice_near : Work → ℕ → Choice
choice_near work done = record { stripes = stripes_near work done; chosen = take work.room.near.count work.room.chosen.items }

-- the verified stripes of a window that was hashed are chosen, and closed in the table in hand
pub record Judges (now : ℕ) (old new : Work) (done : ℕ) : Type 0 where
  pub table : new.table ≡ closed now old.table (readings_near old done)
  pub chosen : take old.room.near.count new.room.chosen.items ≡ map (is_verified old.table) (readings_near old done)
  pub as_many : length new.room.chosen.items ≡ length old.room.chosen.items
  pub rest : new ≡ record old { table = new.table; room = record old.room { chosen = new.room.chosen } }

room_closed : (now : ℕ) (table : TableValue) (pending : ℕ) (readings : List StripeReading) (room : Room) → IsRoomFor table pending room → IsRoomFor (closed now table readings) pending room
room_closed now table pending readings room is =
    let width = (differs-closed now table readings).columns in
    let shape = (differs-closed now table readings).shape in
    record {
      starts = is.starts ∙ sym (recorded_starts-closed now table readings);
      some = is.some;
      size = is.size ∙ ap (λ (most : ℕ). max 1 (min most pending)) (sym (stripes_same now table (closed now table readings) readings refl));
      near = record { lanes = is.near.lanes ∙ sym width; block_size = is.near.block_size ∙ sym (ap (λ it. it.block_size) shape) };
      far = record { lanes = is.far.lanes ∙ sym width; block_size = is.far.block_size ∙ sym (ap (λ it. it.block_size) shape) };
      as_much = is.as_much;
      chosen = is.chosen;
      sums = record { as_many = is.sums.as_many; each = subst (λ (n : ℕ). All (HaveSize n) room.sums.items) (sym (ap (λ it. it.block_size) shape)) is.sums.each };
      piece = is.piece;
    }

work_closed : (now : ℕ) (work : Work) (readings : List StripeReading) → IsWork work → IsWork (record work { table = closed now work.table readings })
work_closed now work readings is = record {
  room = room_closed now work.table (all_of work) readings work.room is.room;
  pending = subst (λ (n : ℕ). All (λ stripe. stripe < n) work.pending.items) (sym ((differs-closed now work.table readings).stripes)) is.pending;
  few = is.few;
}

work_chosen : (work : Work) (chosen : Vec Bool Global) → length chosen.items ≡ length work.room.chosen.items → IsWork work → IsWork (record work { room = record work.room { chosen = chosen } })
work_chosen work chosen as_many is = record {
  room = record { starts = is.room.starts; some = is.room.some; size = is.room.size; near = is.room.near; far = is.room.far; as_much = is.room.as_much; chosen = as_many ∙ is.room.chosen; sums = is.room.sums; piece = is.room.piece };
  pending = is.pending;
  few = is.few;
}

-- a work that was judged, by its parts
judged_is : (now : ℕ) (work judged : Work) (done : ℕ) → Judges now work judged done → judged ≡ record work { table = closed now work.table (readings_near work done); room = record work.room { chosen = judged.room.chosen } }
judged_is now work judged done judges = judges.rest ∙ ap (λ (table : TableValue). record work { table = table; room = record work.room { chosen = judged.room.chosen } }) judges.table

pub judged_ready : (every : Option ℕ) (now : ℕ) (work judged : Work) (done : ℕ) → IsReady every work done → Judges now work judged done → IsReady every judged done
judged_ready every now work judged done ready judges =
    subst (λ (it : Work). IsReady every it done) (sym (judged_is now work judged done judges)) (record {
      is_work = work_chosen (record work { table = closed now work.table (readings_near work done) }) judged.room.chosen judges.as_many (work_closed now work (readings_near work done) ready.is_work);
      within = ready.within;
      near = ready.near;
    })

-- ---- the next window was read

-- sums were made in as many rooms as there were
pub sums_again : {table : TableValue} {count : ℕ} {sums made : List Sums} → AreSumsFor table count sums → AreSumsFor table (length sums) made → AreSumsFor table count made
sums_again were are = record { as_many = are.as_many ∙ were.as_many; each = are.each }

-- and it stands in the far room, with its digests
pub record ReadsFar (old new : Work) : Type 0 where
  pub sums : AreSumsFor old.table (length old.room.sums.items) new.room.sums.items
  pub fits : Fits old.table new.room.far
  pub rest : new ≡ record old { room = record old.room { sums = new.room.sums; far = new.room.far } }

pub turned_work : (work turned : Work) → IsWork work → ReadsFar work turned → turned.room.far.room ≡ work.room.far.room → IsWork turned
turned_work work turned is far as_much =
    subst IsWork (sym far.rest) (record {
      room = record { starts = is.room.starts; some = is.room.some; size = is.room.size; near = is.room.near; far = far.fits; as_much = as_much ∙ is.room.as_much; chosen = is.room.chosen; sums = sums_again is.room.sums far.sums; piece = is.room.piece };
      pending = is.pending;
      few = is.few;
    })

pub kept_work : (work saved : Work) → IsWork work → KeepsWork work saved → IsWork saved
kept_work work saved is keeps =
    subst IsWork (sym keeps.rest) (record {
      room = record { starts = is.room.starts; some = is.room.some; size = is.room.size; near = is.room.near; far = is.room.far; as_much = is.room.as_much; chosen = is.room.chosen; sums = is.room.sums; piece = keeps.piece ∙ is.room.piece };
      pending = is.pending;
      few = is.few;
    })

-- the far window is the near one then
abbrev pub swapped_of : Work → Work
swapped_of work = record work { room = record work.room { near = work.room.far; far = work.room.near } }

swapped_work : (work : Work) → IsWork work → IsWork (swapped_of work)
swapped_work work is = record {
  room = record {
    starts = is.room.starts;
    some = omega (arith, is.room.some, is.room.as_much);
    size = is.room.as_much ∙ is.room.size;
    near = is.room.far;
    far = is.room.near;
    as_much = sym is.room.as_much;
    chosen = is.room.chosen ∙ sym is.room.as_much;
    sums = record { as_many = is.room.sums.as_many ∙ sym is.room.as_much; each = is.room.sums.each };
    piece = is.room.piece;
  };
  pending = is.pending;
  few = is.few;
}

-- ---- all of a turn

-- the windows, the pending stripes and the table after a turn
pub record Turned (work new : Work) (far : WindowValue) : Type 0 where
  pub near : new.room.near ≡ far
  pub pending : new.pending ≡ work.pending
  pub table : new.table ≡ work.table

pub turned_is : (judged turned saved swapped : Work) → ReadsFar judged turned → KeepsWork turned saved → swapped ≡ swapped_of saved → Turned judged swapped turned.room.far
turned_is judged turned saved swapped far keeps swap = record {
  near = ap (λ (work : Work). work.room.near) swap ∙ ap (λ (work : Work). work.room.far) keeps.rest;
  pending = ap (λ (work : Work). work.pending) swap ∙ ap (λ (work : Work). work.pending) keeps.rest ∙ ap (λ (work : Work). work.pending) far.rest;
  table = ap (λ (work : Work). work.table) swap ∙ ap (λ (work : Work). work.table) keeps.rest ∙ ap (λ (work : Work). work.table) far.rest;
}

module _ (every : Option ℕ) (judged new : Work) (done : ℕ) (far window : WindowValue) (folders news : List FolderView) (ready : IsReady every judged done) (turned : Turned judged new window)
    (read : ReadsWindow judged.table judged.room.starts (stripes_next every judged done) far window folders news) (as_much : window.room ≡ judged.room.near.room) where
  abbrev next : ℕ
  next = done + judged.room.near.count

  abbrev more : ℕ
  more = count_after every judged next

  next_within : next ≤ all_of judged
  next_within = omega (arith, ready.near, window_within every judged.room.near.room (all_of judged) done ready.within)

  count_is : window.count ≡ more
  count_is = read.count ∙ length_after judged.pending.items next more (window_within every judged.room.near.room (all_of judged) next next_within)

  -- what stands in the near window is what was read ahead
  pub near_is : readings_near new next ≡ readings_in (stripes_next every judged done) window
  near_is =
      ap₂ (λ (items : List ℕ) (it : WindowValue). readings_in (take it.count (drop next items)) it) (ap (λ it. it.items) turned.pending) turned.near
      ∙ ap (λ (n : ℕ). readings_in (take n (drop next judged.pending.items)) window) count_is

  pub new_ready : IsWork new → IsReady every new next
  new_ready is = record {
    is_work = is;
    within = subst (λ (n : ℕ). next ≤ n) (sym (ap (λ it. length it.items) turned.pending)) next_within;
    near = ap (λ (it : WindowValue). it.count) turned.near ∙ count_is
        ∙ ap₂ (λ (room all : ℕ). window_count every room all next) (sym as_much ∙ sym (ap (λ (it : WindowValue). it.room) turned.near)) (sym (ap (λ it. length it.items) turned.pending));
  }

-- as the code has it
pub turn_ready : (every : Option ℕ) (judged turned saved swapped : Work) (done : ℕ) (folders news : List FolderView) → IsReady every judged done → ReadsFar judged turned
    → ReadsWindow judged.table judged.room.starts (stripes_next every judged done) judged.room.far turned.room.far folders news → KeepsWork turned saved → swapped ≡ swapped_of saved
    → IsReady every swapped (done + judged.room.near.count)
turn_ready every judged turned saved swapped done folders news ready far read keeps swap =
    let is = kept_work turned saved (turned_work judged turned ready.is_work far read.room) keeps in
    new_ready every judged swapped done judged.room.far turned.room.far folders news ready (turned_is judged turned saved swapped far keeps swap) read (read.room ∙ ready.is_work.room.as_much)
    (subst IsWork (sym swap) (swapped_work saved is))

-- ---- before the first window

range_below : (n : ℕ) → All (λ i. i < n) (range_with_len 0 n)
range_below n = All-from_get_or (λ i. i < n) (range_with_len 0 n) 0 (λ k within.
    let below : k < n = omega (arith, within, length-range_with_len 0 n) in
    omega (arith, below, get_or-range_with_len 0 n k 0 below))

pub work_begun : (work : Work) → IsRoomFor work.table (all_of work) work.room → work.pending.items ≡ pending_stripes work.table.infos → length work.table.infos ≤ most_blocks → IsWork work
work_begun work room pending short =
    let test = λ (stripe : ℕ). is_pending (info_at work.table.infos stripe).mark in
    let all = range_with_len 0 (length work.table.infos) in
    record {
      room = room;
      pending = subst (All (λ stripe. stripe < length work.table.infos)) (sym pending) (All-filter test (λ stripe. stripe < length work.table.infos) all (range_below (length work.table.infos)));
      few = omega (arith, ap (λ (its : List ℕ). length its) pending, length-filter_both test (λ (stripe : ℕ). not (test stripe)) (λ stripe. refl) all, length-range_with_len 0 (length work.table.infos), short);
    }
