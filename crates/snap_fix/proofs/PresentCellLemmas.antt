-- What is read of a cell is what stood there at first, where what was written to its file since then is other bytes of it.
use Rattle.std.proofs.Common.{◌≡◌, ◌≢◌, ◌⊎◌, inl, inr, ⊎_elim, ℕ, ◌+◌, ◌*◌, ◌<◌, ◌≤◌, ◌==◌, nat_le, List, [], ◌∷◌, length, take, drop, get_or, All, Bool, true, false, if◌then◌else◌, Option, None, Some, IsTrue, refl, sym, ap, ◌∙◌, subst, arith}
use Rattle.std.proofs.lemmas.Bool.{cases_lt, leb-true}
use Rattle.std.proofs.lemmas.Nat.{row_fits}
use Rattle.std.proofs.lemmas.List.{ext_get_or, get_or-drop, get_or-take, length-drop, length-take-le}
use Rattle.std.proofs.lemmas.List.Elements.{All-head, All-tail}
use Rattle.disk_model.specs.Bytes.{put, read_from}
use Rattle.disk_model.specs.Folder.{FolderView}
use Rattle.disk_model.specs.Tree.{Tree, File, file_of, meta_of, path_of}
use Rattle.disk_model.specs.declared.meta.Meta.{Meta}
use Rattle.disk_model.proofs.BytesLemmas.{torn_by_put}
use Rattle.file_table.specs.declared.shape.Shape.{Shape}
use Rattle.stripe_reader.specs.Column.{IsReadingOf}
use Rattle.stripe_reader.specs.Reading.{CellReading, NoBlock, Nowhere as NoFile, Beyond, Unread, Gone, Part, Whole, Task, Known, Fetch, IsFetched, IsSeenIn, came, file_task, given_of, is_unread}
use Rattle.stripe_reader.specs.Slot.{kept}
use Rattle.stripe_reader.specs.SlotValue.{SlotValue}
use Rattle.stripe_reader.specs.declared.starts.Place.{Place}
use Rattle.stripe_reader.specs.declared.starts.Place.TheVariants.{Plain, Lost, Nowhere}
use Rattle.stripe_reader.specs.declared.starts.Start.{Start}
use Rattle.file_restorer.specs.declared.state.FileState.{FileState}
use Rattle.snap_fix.specs.Fixing.{IsCellRead}
use Rattle.stripe_examiner.specs.Present.{IsPresent}
use Rattle.file_restorer.specs.State.{HoldsBy, HoldsRecord, IsTouched, IsUntouched, StaysPlace, Write, bytes_or, bytes_placed, place_by, place_in, place_then, puts}

-- ---- where a file stood at first

-- a start is where the file of a path stands in a tree, and how long it is there
pub record IsStartIn (tree : Tree) (path : List ℕ) (start : Start) : Type 0 where
  pub place : start.place ≡ place_in tree path
  pub size : start.size ≡ length (bytes_placed tree path)

-- ---- bytes that writes leave

-- a write leaves the byte of a place
abbrev pub Leaves : ℕ → Write → Type 0
Leaves i write = (i < write.at) ⊎ (write.at + length write.bytes ≤ i)

puts_leave : (file : List ℕ) (writes : List Write) (i : ℕ) → i < length file → All (Leaves i) writes → (length file ≤ length (puts file writes)) × (get_or (puts file writes) i 0 ≡ get_or file i 0)
puts_leave file [] i within left = (omega arith, refl)
puts_leave file (write ∷ writes) i within left =
    let torn = torn_by_put file write.at write.bytes in
    let longer = torn.no_shorter in
    let rest = puts_leave (put file write.at write.bytes) writes i (omega (arith, within, longer)) (All-tail (Leaves i) write writes left) in
    let further = rest.0 in
    (omega (arith, longer, further), rest.1 ∙ torn.same i within (All-head (Leaves i) write writes left))

-- no shorter than before
puts_long : (file : List ℕ) (writes : List Write) → length file ≤ length (puts file writes)
puts_long file [] = omega arith
puts_long file (write ∷ writes) =
    let longer = (torn_by_put file write.at write.bytes).no_shorter in
    let further = puts_long (put file write.at write.bytes) writes in
    omega (arith, longer, further)

-- the bytes of a range that no write meets are read as before
read_left : (file : List ℕ) (writes : List Write) (at n : ℕ) → at + n ≤ length file → ((i : ℕ) → i < n → All (Leaves (at + i)) writes)
    → read_from (puts file writes) at n ≡ read_from file at n
read_left file writes at n within left =
    let now = puts file writes in
    let longer = puts_long file writes in
    let long_now : length (take n (drop at now)) ≡ n = length-take-le n (drop at now) (omega (arith, within, longer, length-drop at now)) in
    let long_first : length (take n (drop at file)) ≡ n = length-take-le n (drop at file) (omega (arith, within, length-drop at file)) in
    ext_get_or 0 (take n (drop at now)) (take n (drop at file)) (long_now ∙ sym long_first)
    (λ i below.
    let near : i < n = omega (arith, below, long_now) in
    get_or-take n (drop at now) i 0 near ∙ get_or-drop at now i 0
    ∙ (puts_leave file writes (at + i) (omega (arith, near, within)) (left i near)).1
    ∙ sym (get_or-take n (drop at file) i 0 near ∙ get_or-drop at file i 0))

-- the blocks of two numbers of one file do not meet
pub blocks_apart : (size n m a b i : ℕ) → n ≤ size → m ≤ size → a ≢ b → i < n → (a * size + i < b * size) ⊎ (b * size + m ≤ a * size + i)
blocks_apart size n m a b i few short other below = ⊎_elim
    (λ less. let fits : a * size + size ≤ b * size = row_fits a size b size less (omega arith) in inl (omega (arith, fits, below, few)))
    (λ more.
    let less : b < a = omega (arith, other, more) in
    let fits : b * size + size ≤ a * size = row_fits b size a size less (omega arith) in
    inr (omega (arith, fits, short)))
    (cases_lt a b)

-- ---- what a file gives

-- nothing stands there in both, or files whose bytes of a range are the same
abbrev pub GiveSame : ℕ → ℕ → Option File → Option File → Type 0
GiveSame at n None None = Unit {0}
GiveSame at n None (Some other) = ⊥
GiveSame at n (Some file) None = ⊥
GiveSame at n (Some file) (Some other) = read_from file.bytes at n ≡ read_from other.bytes at n

pub record IsLike (shape : Shape) (one other : CellReading) : Type 0 where
  pub found : (kept shape one).cell.found ≡ (kept shape other).cell.found
  pub got : (kept shape one).cell.got ≡ (kept shape other).cell.got
  pub digest : (kept shape one).digest ≡ (kept shape other).digest
  pub block : (kept shape one).block ≡ (kept shape other).block

like_itself : (shape : Shape) (reading : CellReading) → IsLike shape reading reading
like_itself shape reading = record { found = refl; got = refl; digest = refl; block = refl }

like_came : (shape : Shape) (one other : Meta) (bytes : List ℕ) (whole : Bool) → IsLike shape (if whole then Whole one bytes else Part one (length bytes)) (if whole then Whole other bytes else Part other (length bytes))
like_came shape one other bytes true = record { found = refl; got = refl; digest = refl; block = refl }
like_came shape one other bytes false = record { found = refl; got = refl; digest = refl; block = refl }

like_given : (shape : Shape) (at n : ℕ) (one other : Option File) → GiveSame at n one other → IsLike shape (given_of one at n) (given_of other at n)
like_given shape at n None None same = like_itself shape (Gone None)
like_given shape at n None (Some file) same = absurd same
like_given shape at n (Some file) None same = absurd same
like_given shape at n (Some file) (Some other) same =
    subst (λ (bytes : List ℕ). IsLike shape (came (meta_of file) n bytes) (came (meta_of other) n (read_from other.bytes at n))) (sym same)
    (like_came shape (meta_of file) (meta_of other) (read_from other.bytes at n) (length (read_from other.bytes at n) == n))

fetched_came : (n : ℕ) (one other : Meta) (bytes : List ℕ) (whole : Bool) → IsFetched n (if whole then Whole one bytes else Part one (length bytes))
    → IsFetched n (if whole then Whole other bytes else Part other (length bytes))
fetched_came n one other bytes true is = is
fetched_came n one other bytes false is = is

-- what the one gives was fetched, and so may be what the other gives
fetched_same : (at n : ℕ) (one other : Option File) → GiveSame at n one other → IsFetched n (given_of one at n) → IsFetched n (given_of other at n)
fetched_same at n None None same is = tt
fetched_same at n None (Some file) same is = absurd same
fetched_same at n (Some file) None same is = absurd same
fetched_same at n (Some file) (Some other) same is =
    subst (λ (bytes : List ℕ). IsFetched n (came (meta_of other) n bytes)) same
    (fetched_came n (meta_of file) (meta_of other) (read_from file.bytes at n) (length (read_from file.bytes at n) == n) is)

given_seen : (at n : ℕ) (file : Option File) → IsSeenIn file (given_of file at n)
given_seen at n None = tt
given_seen at n (Some file) = by (length (read_from file.bytes at n) == n)
  where
    by : (whole : Bool) → IsSeenIn (Some file) (if whole then Whole (meta_of file) (read_from file.bytes at n) else Part (meta_of file) (length (read_from file.bytes at n)))
    by true = tt
    by false = tt

-- ---- a slot that was read later

module _ (shape : Shape) (first now : FolderView) (slot : SlotValue) where
  present_as : (task : Task) (read reading : CellReading) → slot ≡ kept shape read → IsLike shape read reading → IsReadingOf first task reading → IsPresent shape first task slot
  present_as task read reading is like of = record {
    reading = reading;
    is_of = of;
    found = ap (λ (s : SlotValue). s.cell.found) is ∙ like.found;
    got = ap (λ (s : SlotValue). s.cell.got) is ∙ like.got;
    digest = ap (λ (s : SlotValue). s.digest) is ∙ like.digest;
    block = ap (λ (s : SlotValue). s.block) is ∙ like.block;
  }

  -- a cell that no folder was asked for
  pub present_known : (known : CellReading) → IsCellRead shape now (Known known) slot → IsPresent shape first (Known known) slot
  present_known known read =
      present_as (Known known) read.reading known read.is_kept (subst (λ (reading : CellReading). IsLike shape reading known) (sym read.is_of.by) (like_itself shape known))
      (record { by = refl; given = λ told not. refl; saw = λ told. tt })

  module _ (tells : now.tells ≡ first.tells) (path : List ℕ) (lost lost_first : Bool) (at n : ℕ)
      (same : IsTrue first.tells → GiveSame at n (file_of now.tree (path_of path lost)) (file_of first.tree (path_of path lost_first)))
      (read : IsCellRead shape now (Fetch path lost at n) slot) where
    abbrev stood : Option File
    stood = file_of first.tree (path_of path lost_first)

    -- the folder failed then, as it may have at first
    present_unread : is_unread read.reading ≡ true → IsPresent shape first (Fetch path lost_first at n) slot
    present_unread unread = present_as (Fetch path lost_first at n) read.reading (Unread None) read.is_kept (by read.reading unread)
        (record { by = tt; given = λ told not. absurd cc; saw = λ told. tt })
      where
        by : (reading : CellReading) → is_unread reading ≡ true → IsLike shape reading (Unread None)
        by (Unread seen) failed = record { found = refl; got = refl; digest = refl; block = refl }
        by NoBlock failed = absurd cc
        by NoFile failed = absurd cc
        by Beyond failed = absurd cc
        by (Gone seen) failed = absurd cc
        by (Part seen got) failed = absurd cc
        by (Whole seen bytes) failed = absurd cc

    present_read : is_unread read.reading ≡ false → (told : Bool) → first.tells ≡ told → IsPresent shape first (Fetch path lost_first at n) slot
    present_read answered true is =
        let told : IsTrue first.tells = is in
        let was : IsTrue now.tells = subst IsTrue (sym tells) told in
        present_as (Fetch path lost_first at n) read.reading (given_of stood at n) read.is_kept
        (subst (λ (reading : CellReading). IsLike shape reading (given_of stood at n)) (sym (read.is_of.given was answered)) (like_given shape at n (file_of now.tree (path_of path lost)) stood (same told)))
        (record { by = fetched_same at n (file_of now.tree (path_of path lost)) stood (same told) (subst (IsFetched n) (read.is_of.given was answered) read.is_of.by); given = λ t not. refl; saw = λ t. given_seen at n stood })
    present_read answered false is =
        present_as (Fetch path lost_first at n) read.reading read.reading read.is_kept (like_itself shape read.reading)
        (record { by = read.is_of.by; given = λ told not. untold told; saw = λ told. untold told })
      where
        untold : {A : Type 0} → IsTrue first.tells → A
        untold told = let clash : IsTrue false = subst IsTrue is told in absurd cc

    present_fetched : IsPresent shape first (Fetch path lost_first at n) slot
    present_fetched = by (is_unread read.reading) refl
      where
        by : (b : Bool) → is_unread read.reading ≡ b → IsPresent shape first (Fetch path lost_first at n) slot
        by true unread = present_unread unread
        by false answered = present_read answered first.tells refl

-- ---- a file that was written since then

placed_plain : (one other : Option File) → place_by one other ≡ Plain → (file : File) × (one ≡ Some file) × (bytes_or one (bytes_or other []) ≡ file.bytes)
placed_plain (Some file) other is = (file, refl, refl)
placed_plain None (Some file) is = absurd cc
placed_plain None None is = absurd cc

placed_lost : (one other : Option File) → place_by one other ≡ Lost → (file : File) × (other ≡ Some file) × (bytes_or one (bytes_or other []) ≡ file.bytes)
placed_lost (Some file) other is = absurd cc
placed_lost None (Some file) is = (file, refl, refl)
placed_lost None None is = absurd cc

-- the name under which a file that stands in a place is looked for
abbrev pub is_lost_name : Place → Bool
is_lost_name Plain = false
is_lost_name Lost = true
is_lost_name Nowhere = false

gives_itself : (at n : ℕ) (file : Option File) → GiveSame at n file file
gives_itself at n None = tt
gives_itself at n (Some file) = refl

module _ (path : List ℕ) (begun start : Start) (state : FileState) (writes : List Write) (first now : Tree)
    (fit : IsStartIn first path begun) (held : HoldsRecord start state writes path first now) (at n : ℕ) (within : at + n ≤ begun.size)
    (left : (i : ℕ) → i < n → All (Leaves (at + i)) writes) where
  -- what was written to it leaves the range
  written_same : (before after : File) → bytes_placed first path ≡ before.bytes → after.bytes ≡ puts (bytes_placed first path) writes
      → read_from after.bytes at n ≡ read_from before.bytes at n
  written_same before after placed put =
      ap (λ (bytes : List ℕ). read_from bytes at n) put
      ∙ read_left (bytes_placed first path) writes at n (omega (arith, within, fit.size)) left
      ∙ ap (λ (bytes : List ℕ). read_from bytes at n) placed

  untouched_gives : IsUntouched start state writes path first now
      → GiveSame at n (file_of now (path_of path (is_lost_name start.place))) (file_of first (path_of path (is_lost_name begun.place)))
  untouched_gives is =
      let same_place : start.place ≡ begun.place = is.place ∙ sym fit.place in
      subst (λ (place : Place). GiveSame at n (file_of now (path_of path (is_lost_name start.place))) (file_of first (path_of path (is_lost_name place)))) same_place
      (subst (λ (file : Option File). GiveSame at n (file_of now (path_of path (is_lost_name start.place))) file) (is.same (is_lost_name start.place))
      (gives_itself at n (file_of now (path_of path (is_lost_name start.place)))))

  touched_gives : (place : Place) → begun.place ≡ place → place ≢ Nowhere → IsTouched start state writes path first now
      → GiveSame at n (file_of now (path_of path (is_lost_name start.place))) (file_of first (path_of path (is_lost_name begun.place)))
  touched_gives Plain was there is =
      let placed = placed_plain (file_of first (path_of path false)) (file_of first (path_of path true)) (sym fit.place ∙ was) in
      let to : start.place ≡ Plain = is.place ∙ ap place_then (sym fit.place ∙ was) in
      rw (to, was, is.there, placed.1) (written_same placed.0 is.file placed.2 is.bytes)
  touched_gives Lost was there is =
      let placed = placed_lost (file_of first (path_of path false)) (file_of first (path_of path true)) (sym fit.place ∙ was) in
      let to : start.place ≡ Plain = is.place ∙ ap place_then (sym fit.place ∙ was) in
      rw (to, was, is.there, placed.1) (written_same placed.0 is.file placed.2 is.bytes)
  touched_gives Nowhere was there is = absurd (there refl)

  pub still_gives : begun.place ≢ Nowhere → GiveSame at n (file_of now (path_of path (is_lost_name start.place))) (file_of first (path_of path (is_lost_name begun.place)))
  still_gives there = by state.touched held.holds
    where
      by : (touched : Bool) → HoldsBy touched start state writes path first now
          → GiveSame at n (file_of now (path_of path (is_lost_name start.place))) (file_of first (path_of path (is_lost_name begun.place)))
      by true is = touched_gives begun.place refl there is
      by false is = untouched_gives is

module _ (shape : Shape) (first now : FolderView) (slot : SlotValue) (tells : now.tells ≡ first.tells) (path : List ℕ) (begun start : Start)
    (same_size : start.size ≡ begun.size) (stays : StaysPlace begun.place start.place) (at n : ℕ)
    (gives : IsTrue first.tells → at + n ≤ begun.size → begun.place ≢ Nowhere
    → GiveSame at n (file_of now.tree (path_of path (is_lost_name start.place))) (file_of first.tree (path_of path (is_lost_name begun.place)))) where
  -- the task of a file that stands somewhere
  abbrev fetch_if : Bool → Bool → Task
  fetch_if fits lost = if fits then Fetch path lost at n else Known Beyond

  present_if : begun.place ≢ Nowhere → (fits : Bool) → nat_le (at + n) begun.size ≡ fits
      → IsCellRead shape now (fetch_if fits (is_lost_name start.place)) slot → IsPresent shape first (fetch_if fits (is_lost_name begun.place)) slot
  present_if there true fits read =
      present_fetched shape first now slot tells path (is_lost_name start.place) (is_lost_name begun.place) at n (λ told. gives told (leb-true (at + n) begun.size fits) there) read
  present_if there false fits read = present_known shape first now slot Beyond read

  task_there : (place : Place) (size : ℕ) → place ≢ Nowhere → file_task place size path at n ≡ fetch_if (nat_le (at + n) size) (is_lost_name place)
  task_there Plain size there = refl
  task_there Lost size there = refl
  task_there Nowhere size there = absurd (there refl)

  stays_there : begun.place ≢ Nowhere → start.place ≢ Nowhere
  stays_there there gone = ⊎_elim (λ same. there (sym same ∙ gone)) (λ both. let clash : Plain ≡ Nowhere = sym both.1 ∙ gone in cc) stays

  present_there : begun.place ≢ Nowhere → IsCellRead shape now (file_task start.place start.size path at n) slot
      → IsPresent shape first (file_task begun.place begun.size path at n) slot
  present_there there read =
      subst (λ (task : Task). IsPresent shape first task slot) (sym (task_there begun.place begun.size there))
      (present_if there (nat_le (at + n) begun.size) refl
      (subst (λ (task : Task). IsCellRead shape now task slot) (task_there start.place begun.size (stays_there there))
      (subst (λ (size : ℕ). IsCellRead shape now (file_task start.place size path at n) slot) same_size read)))

  pub present_file : (place : Place) → begun.place ≡ place → IsCellRead shape now (file_task start.place start.size path at n) slot
      → IsPresent shape first (file_task begun.place begun.size path at n) slot
  present_file Nowhere was read =
      let gone : start.place ≡ Nowhere = ⊎_elim (λ same. same ∙ was) (λ both. let clash : Lost ≡ Nowhere = sym both.0 ∙ was in cc) stays in
      subst (λ (place : Place). IsPresent shape first (file_task place begun.size path at n) slot) (sym was)
      (present_known shape first now slot NoFile (subst (λ (place : Place). IsCellRead shape now (file_task place start.size path at n) slot) gone read))
  present_file Plain was read = present_there (λ is. let clash : Plain ≡ Nowhere = sym was ∙ is in cc) read
  present_file Lost was read = present_there (λ is. let clash : Lost ≡ Nowhere = sym was ∙ is in cc) read
