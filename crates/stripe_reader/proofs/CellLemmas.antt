-- What the calls on a folder say of one cell.
use Rattle.std.proofs.Common.{◌≡◌, ◌≢◌, ℕ, ◌<◌, ◌≤◌, ◌==◌, List, ◌++◌, length, take, false, true, IsTrue, Bool, Option, Some, None, IfSome, if◌then◌else◌, refl, sym, ap, ap₂, ◌∙◌, subst, arith}
use Rattle.std.specs.Option.{option_map}
use Rattle.std.proofs.lemmas.Bool.{eqb-true, eq-eqb}
use Rattle.std.proofs.lemmas.List.{length-take-le, take-append-le}
use Rattle.std.proofs.lemmas.List.Elements.{All-take}
use Rattle.disk_model.specs.Bytes.{AreBytes, read_from}
use Rattle.disk_model.specs.Tree.{Tree, File, file_of, meta_of, path_of}
use Rattle.disk_model.specs.Folder.{FolderView, Look, ReadAt, IsFolderReading}
use Rattle.disk_model.specs.declared.answer.Answer.TheVariants.{Failed, Saw, Bytes}
use Rattle.disk_model.specs.declared.meta.Meta.{Meta}
use Rattle.file_table.specs.declared.shape.Shape.{Shape}
use Rattle.stripe_reader.specs.Column.{ReadsCell, ReadsSlot}
use Rattle.stripe_reader.specs.FolderCalls.{AreCellCalls, AreFetchCalls, look_and_read}
use Rattle.stripe_reader.specs.Reading.{CellReading, Unread, Part, Whole, Task, Known, Fetch, IsFetched, IsSeenBy, came, given_of, is_unread}
use Rattle.stripe_reader.specs.Slot.{kept}
use Rattle.stripe_reader.specs.SlotValue.{SlotValue}
use Rattle.stripe_reader.proofs.FolderLemmas.{reads_nothing, reads_twice}

-- a cell whose reading is known: no call
pub cell_known : (reading : CellReading) (v : FolderView) → is_unread reading ≡ false → ReadsCell (Known reading) reading v v
cell_known reading v read = record {
  folder = reads_nothing (AreCellCalls (Known reading) reading) v refl;
  is_of = record { by = refl; given = λ told not. refl; saw = λ told. tt };
  unread = λ yes. cc;
}

-- of n bytes that were asked for, these came
module _ (path : List ℕ) (lost : Bool) (at n : ℕ) (seen : Meta) (bytes : List ℕ) where
  either_fetched : (whole : Bool) → AreBytes bytes → (whole ≡ true → length bytes ≡ n) → (whole ≡ false → length bytes < n) → IsFetched n (if whole then Whole seen bytes else Part seen (length bytes))
  either_fetched true are is less = record { size = is refl; are_bytes = are }
  either_fetched false are is less = less refl

  either_calls : (whole : Bool) → AreFetchCalls path lost at n (if whole then Whole seen bytes else Part seen (length bytes)) (look_and_read path lost at n seen (Bytes (length bytes)))
  either_calls true = refl
  either_calls false = refl

  either_saw : (tree : Tree) (whole : Bool) → IsSeenBy tree (Fetch path lost at n) (if whole then Whole seen bytes else Part seen (length bytes))
  either_saw tree true = tt
  either_saw tree false = tt

  either_read : (whole : Bool) → is_unread (if whole then Whole seen bytes else Part seen (length bytes)) ≡ false
  either_read true = refl
  either_read false = refl

  came_fetched : AreBytes bytes → length bytes ≤ n → IsFetched n (came seen n bytes)
  came_fetched are few = either_fetched (length bytes == n) are (eqb-true (length bytes) n)
      (λ no. let other : length bytes ≢ n = λ same. let yes : (length bytes == n) ≡ true = eq-eqb (length bytes) n same in cc in omega arith)

-- of a file that was seen, the bytes of the file came
file_given : (file : Option File) (seen : Meta) (at n : ℕ) (bytes : List ℕ) → option_map meta_of file ≡ Some seen → IfSome file (λ there. bytes ≡ read_from there.bytes at n)
    → came seen n bytes ≡ given_of file at n
file_given None seen at n bytes is read = cc
file_given (Some there) seen at n bytes is read = let same : meta_of there ≡ seen = cc in ap₂ (λ (it : Meta) (front : List ℕ). came it n front) (sym same) read

module _ (path : List ℕ) (lost : Bool) (at n : ℕ) (before mid after : FolderView) where
  -- the file was seen, and so many bytes of it came
  pub cell_given : (seen : Meta) (size count : ℕ) (out rest : List ℕ) → size ≡ n → length out ≡ size → count ≤ length out → AreBytes (out ++ rest)
      → IsFolderReading (Look path lost) (Saw seen) before mid → IsFolderReading (ReadAt path lost at size) (Bytes count) mid after
      → (IsTrue before.tells → option_map meta_of (file_of before.tree (path_of path lost)) ≡ Some seen)
      → (IsTrue mid.tells → IfSome (file_of mid.tree (path_of path lost)) (λ file. take count out ≡ read_from file.bytes at size))
      → ReadsCell (Fetch path lost at n) (came seen n (take count (out ++ rest))) before after
  cell_given seen size count out rest size_is long few are look read saw came_is =
      let bytes = take count out in
      let front : take count (out ++ rest) ≡ bytes = take-append-le count out rest few in
      let counted : length bytes ≡ count = length-take-le count out few in
      let short : length bytes ≤ size = omega (arith, counted) in
      let whole = length bytes == size in
      rw (front, sym size_is) (record {
        folder = reads_twice (AreCellCalls (Fetch path lost at size) (came seen size bytes)) look
            (subst (λ (n : ℕ). IsFolderReading (ReadAt path lost at size) (Bytes n) mid after) (sym counted) read) (either_calls path lost at size seen bytes whole);
        is_of = record {
          by = came_fetched path lost at size seen bytes (subst AreBytes front (All-take (λ byte. byte < 256) count (out ++ rest) are)) short;
          given = λ told not. file_given (file_of before.tree (path_of path lost)) seen at size bytes (saw told)
              (subst (λ (tree : Tree). IfSome (file_of tree (path_of path lost)) (λ file. bytes ≡ read_from file.bytes at size)) (look.tree told) (came_is (look.called.goes_on.tells ∙ told)));
          saw = λ told. either_saw path lost at size seen bytes before.tree whole;
        };
        unread = λ yes. let no = either_read path lost at size seen bytes whole in absurd (cc (yes, no));
      })

  -- the read failed
  pub cell_unread : (seen : Meta) (size : ℕ) → size ≡ n → IsFolderReading (Look path lost) (Saw seen) before mid → IsFolderReading (ReadAt path lost at size) Failed mid after
      → (IsTrue before.tells → option_map meta_of (file_of before.tree (path_of path lost)) ≡ Some seen)
      → ReadsCell (Fetch path lost at n) (Unread (Some seen)) before after
  cell_unread seen size size_is look read saw = rw (sym size_is) (record {
    folder = reads_twice (AreCellCalls (Fetch path lost at size) (Unread (Some seen))) look read refl;
    is_of = record { by = tt; given = λ told not. cc; saw = saw };
    unread = λ yes. let rose = read.called.cause refl in omega (arith, look.called.goes_on.later, rose);
  })

-- a slot whose cell's reading is known: no call
pub slot_known : (shape : Shape) (task : Task) (reading : CellReading) (slot : SlotValue) (size : ℕ) (v : FolderView) → task ≡ Known reading → is_unread reading ≡ false → size ≡ shape.block_size
    → slot ≡ kept (record shape { block_size = size }) reading → ReadsSlot shape task slot v v
slot_known shape task reading slot size v task_is read size_is slot_is =
    rw task_is (record { reading = reading; read = cell_known reading v read; is_kept = slot_is ∙ ap (λ (n : ℕ). kept (record shape { block_size = n }) reading) size_is })
