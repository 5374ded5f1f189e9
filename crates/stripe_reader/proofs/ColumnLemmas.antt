-- The cells of a column, some and then others.
use Rattle.std.proofs.Common.{◌≡◌, ◌⊎◌, append_assoc, ℕ, ◌+◌, ◌-◌, ◌<◌, ◌≤◌, true, IsTrue, List, [], ◌∷◌, ◌++◌, length, map, take, set, get_or, replicate, inl, inr, refl, sym, ap, ap₂, ◌∙◌, subst, arith, cond, zero, suc}
use Rattle.std.specs.List.{count_by}
use Rattle.std.proofs.lemmas.List.{append-nil, get_or-take, get_or-map, get_or_append_left, get_or-append_right, map-append, take_more, take_more_set, length-append, length-map, length-take, length-replicate}
use Rattle.std.specs.List.{All}
use Rattle.std.proofs.lemmas.List.Elements.{All-append}
use Rattle.std.proofs.lemmas.List.Sums.{sum_by-append}
use Rattle.std.proofs.lemmas.Bool.{cases_lt}
use Rattle.disk_model.specs.Bytes.{resized}
use Rattle.disk_model.specs.Cause.{RoseBy, Rose}
use Rattle.disk_model.specs.Tree.{Tree}
use Rattle.disk_model.specs.Folder.{FolderView, FolderDone}
use Rattle.file_table.specs.declared.shape.Shape.{Shape}
use Rattle.stripe_reader.specs.Column.{ReadsSlot, ReadsColumn, IsReadingOf, no_task}
use Rattle.stripe_reader.specs.FolderCalls.{AreColumnCalls}
use Rattle.stripe_reader.specs.Reading.{CellReading, NoBlock, Nowhere, Beyond, Unread, Gone, Part, Whole, Task, IsSeenBy, given_by, is_unread}
use Rattle.stripe_reader.specs.Hashing.{IsUnhashed, hashed}
use Rattle.stripe_reader.specs.Slot.{kept}
use Rattle.stripe_reader.specs.SlotValue.{SlotValue}
use Rattle.stripe_reader.specs.WindowValue.{no_slot}
use Rattle.stripe_reader.proofs.FolderLemmas.{reads_nothing, reads_then}

-- the block of a slot has its size
pub length-resized : (bytes : List ℕ) (size : ℕ) → length (resized bytes size) ≡ size
length-resized bytes size = omega (arith, length-append (take size bytes) (replicate (size - length bytes) 0), length-take size bytes, length-replicate {A = ℕ} (size - length bytes) 0)

pub no_cells : (shape : Shape) (v : FolderView) → ReadsColumn shape [] [] v v
no_cells shape v = record {
  readings = [];
  are_kept = refl;
  as_many = refl;
  are_of = λ i lt. absurd (omega arith);
  unread = omega arith;
  folder = reads_nothing (AreColumnCalls [] []) v refl;
}

-- no cell was counted, or one
rose_once : (reading : CellReading) (before after : ℕ) → before ≤ after → (is_unread reading ≡ true → Rose before after) → RoseBy (count_by is_unread (reading ∷ [])) before after
rose_once NoBlock before after later rose = omega arith
rose_once Nowhere before after later rose = omega arith
rose_once Beyond before after later rose = omega arith
rose_once (Unread seen) before after later rose = omega (arith, rose refl)
rose_once (Gone seen) before after later rose = omega arith
rose_once (Part seen got) before after later rose = omega arith
rose_once (Whole seen bytes) before after later rose = omega arith

-- one cell of a column
pub one_cell : (shape : Shape) (task : Task) (slot : SlotValue) (before after : FolderView) → ReadsSlot shape task slot before after → ReadsColumn shape (task ∷ []) (slot ∷ []) before after
one_cell shape task slot before after one = record {
  readings = one.reading ∷ [];
  are_kept = ap (λ (it : SlotValue). it ∷ []) one.is_kept;
  as_many = refl;
  are_of = at_first;
  unread = rose_once one.reading before.faults after.faults one.read.folder.goes_on.later one.read.unread;
  folder = record {
    done = one.read.folder.done;
    are = (one.read.folder.done, [], sym (append-nil one.read.folder.done), one.read.folder.are, refl);
    goes_on = one.read.folder.goes_on;
    tree = one.read.folder.tree;
  };
}
  where
    at_first : (i : ℕ) → i < 1 → IsReadingOf before (get_or (task ∷ []) i no_task) (get_or (one.reading ∷ []) i NoBlock)
    at_first zero lt = one.read.is_of
    at_first (suc i) lt = absurd (omega arith)

-- the calls for some cells, and then for others
calls_then : (tasks others : List Task) (readings more : List CellReading) (done rest : List FolderDone) → length readings ≡ length tasks
    → AreColumnCalls tasks readings done → AreColumnCalls others more rest → AreColumnCalls (tasks ++ others) (readings ++ more) (done ++ rest)
calls_then [] others [] more done rest as_many are then = subst (λ (calls : List FolderDone). AreColumnCalls others more (calls ++ rest)) (sym are) then
calls_then [] others (reading ∷ readings) more done rest as_many are then = absurd (omega arith)
calls_then (task ∷ tasks) others [] more done rest as_many are then = absurd are
calls_then (task ∷ tasks) others (reading ∷ readings) more done rest as_many (first, later, done_is, calls, are) then =
    (first, later ++ rest, ap (λ (front : List FolderDone). front ++ rest) done_is ∙ append_assoc first later rest, calls, calls_then tasks others readings more later rest (omega arith) are then)

rose_then : (one two : List CellReading) (before mid after : ℕ) → RoseBy (count_by is_unread one) before mid → RoseBy (count_by is_unread two) mid after → RoseBy (count_by is_unread (one ++ two)) before after
rose_then one two before mid after rose more =
    let counted : count_by is_unread (one ++ two) ≡ count_by is_unread one + count_by is_unread two = sum_by-append (λ (it : CellReading). cond (is_unread it) 1 0) one two in
    omega (arith, counted)

-- what a folder gives later, it gives before, since its tree stays
given_before : (before mid : FolderView) (task : Task) (reading : CellReading) → mid.tells ≡ before.tells → (IsTrue before.tells → mid.tree ≡ before.tree) → IsReadingOf mid task reading → IsReadingOf before task reading
given_before before mid task reading tells stays read = record {
  by = read.by;
  given = λ told not. read.given (tells ∙ told) not ∙ ap (λ (tree : Tree). given_by tree task) (stays told);
  saw = λ told. subst (λ (tree : Tree). IsSeenBy tree task reading) (stays told) (read.saw (tells ∙ told));
}

-- some cells of a column, and then others
pub column_then : (shape : Shape) (tasks others : List Task) (slots more : List SlotValue) (before mid after : FolderView)
    → ReadsColumn shape tasks slots before mid → ReadsColumn shape others more mid after → ReadsColumn shape (tasks ++ others) (slots ++ more) before after
column_then shape tasks others slots more before mid after one two = record {
  readings = one.readings ++ two.readings;
  are_kept = ap₂ (λ (front back : List SlotValue). front ++ back) one.are_kept two.are_kept ∙ sym (map-append (kept shape) one.readings two.readings);
  as_many = omega (arith, length-append one.readings two.readings, length-append tasks others, one.as_many, two.as_many);
  are_of = λ i lt. at_either i lt (cases_lt i (length tasks));
  unread = rose_then one.readings two.readings before.faults mid.faults after.faults one.unread two.unread;
  folder = reads_then (AreColumnCalls tasks one.readings) (AreColumnCalls others two.readings) (AreColumnCalls (tasks ++ others) (one.readings ++ two.readings)) before mid after one.folder two.folder
      (calls_then tasks others one.readings two.readings one.folder.done two.folder.done one.as_many one.folder.are two.folder.are);
}
  where
    at_either : (i : ℕ) → i < length (tasks ++ others) → (i < length tasks) ⊎ (length tasks ≤ i)
        → IsReadingOf before (get_or (tasks ++ others) i no_task) (get_or (one.readings ++ two.readings) i NoBlock)
    at_either i lt (inl near) =
        rw (get_or_append_left tasks others no_task i near, get_or_append_left one.readings two.readings NoBlock i (omega (arith, near, one.as_many))) (one.are_of i near)
    at_either i lt (inr far) =
        rw (get_or-append_right tasks others (length tasks) i no_task refl far, get_or-append_right one.readings two.readings (length tasks) i NoBlock one.as_many far)
        (given_before before mid (get_or others (i - length tasks) no_task) (get_or two.readings (i - length tasks) NoBlock) one.folder.goes_on.tells one.folder.tree
        (two.are_of (i - length tasks) (omega (arith, lt, far, length-append tasks others))))

-- as the loop has it: the stripes and the slots up to a place
pub one_slot_more : (shape : Shape) (task_of : ℕ → Task) (i : ℕ) (stripes : List ℕ) (slots : List SlotValue) (slot : SlotValue) (before mid after : FolderView) → i < length stripes → i < length slots
    → ReadsColumn shape (map task_of (take i stripes)) (map (hashed shape) (take i slots)) before mid → ReadsSlot shape (task_of (get_or stripes i 0)) (hashed shape slot) mid after
    → ReadsColumn shape (map task_of (take (i + 1) stripes)) (map (hashed shape) (take (i + 1) (set slots i slot))) before after
one_slot_more shape task_of i stripes slots slot before mid after lt within column more =
    rw (take_more stripes i 0 lt, take_more_set slots i slot within, map-append task_of (take i stripes) (get_or stripes i 0 ∷ []), map-append (hashed shape) (take i slots) (slot ∷ []))
    (column_then shape (map task_of (take i stripes)) (task_of (get_or stripes i 0) ∷ []) (map (hashed shape) (take i slots)) (hashed shape slot ∷ []) before mid after column
    (one_cell shape (task_of (get_or stripes i 0)) (hashed shape slot) mid after more))

pub unhashed_more : (block_size i : ℕ) (slots : List SlotValue) (slot : SlotValue) → i < length slots → All (IsUnhashed block_size) (take i slots) → IsUnhashed block_size slot
    → All (IsUnhashed block_size) (take (i + 1) (set slots i slot))
unhashed_more block_size i slots slot within so_far one =
    rw (take_more_set slots i slot within) (All-append (IsUnhashed block_size) (take i slots) (slot ∷ []) so_far (λ j d lt. at_first j d lt))
  where
    at_first : (j : ℕ) (d : SlotValue) → j < 1 → IsUnhashed block_size (get_or (slot ∷ []) j d)
    at_first zero d lt = one
    at_first (suc j) d lt = absurd (omega arith)

-- what a slot keeps, by the reading
pub slot_is : (shape : Shape) (task_of : ℕ → Task) (stripes : List ℕ) (i : ℕ) (lane : List SlotValue) (before after : FolderView) (read : ReadsColumn shape (map task_of stripes) (take (length stripes) lane) before after)
    → i < length stripes → get_or lane i no_slot ≡ kept shape (get_or read.readings i NoBlock)
slot_is shape task_of stripes i lane before after read lt =
    sym (get_or-take (length stripes) lane i no_slot lt)
    ∙ ap (λ (slots : List SlotValue). get_or slots i no_slot) read.are_kept
    ∙ get_or-map (kept shape) read.readings i NoBlock no_slot (omega (arith, lt, read.as_many, length-map stripes task_of))
