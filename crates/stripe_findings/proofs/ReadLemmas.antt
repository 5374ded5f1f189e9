-- What was read of the folders, window after window.
use Rattle.std.proofs.Common.{◌≡◌, ℕ, ◌+◌, ◌<◌, ◌≤◌, List, [], ◌++◌, length, map, take, drop, get_or, All, refl, sym, ap, ap₂, ◌∙◌, subst, arith}
use Rattle.std.specs.List.{range_with_len}
use Rattle.std.proofs.lemmas.Simd.{map-map}
use Rattle.std.proofs.lemmas.List.{length-map, map-append, get_or-map, get_or-take, take-append-drop, drop-take, take-take, length-take-le, length-drop}
use Rattle.std.proofs.lemmas.List.Elements.{All-nil, All-append, All-from_get_or}
use Rattle.std.proofs.lemmas.List.FromFn.{fill_by_all, length-map-range_with_len, get_or-map-range_with_len}
use Rattle.disk_model.specs.Folder.{FolderView}
use Rattle.file_table.specs.Table.{TableValue}
use Rattle.file_table.specs.declared.shape.Shape.{Shape}
use Rattle.stripe_reader.specs.Column.{ReadsColumn}
use Rattle.stripe_reader.specs.Columns.{ReadsWindow, folder_at}
use Rattle.stripe_reader.specs.Reading.{Task, task_at, tasks_at}
use Rattle.stripe_reader.specs.Slot.{kept}
use Rattle.stripe_reader.specs.SlotValue.{SlotValue}
use Rattle.stripe_reader.specs.Starts.{recorded_starts, StartsValue}
use Rattle.stripe_reader.specs.WindowValue.{WindowValue, no_slot}
use Rattle.stripe_reader.proofs.ColumnLemmas.{no_cells, column_then}
use Rattle.stripe_findings.specs.Reading.{StripeReading, AreRead, stripes_of, slot_of, slot_in, reading_at, readings_in}

-- before the first window
pub are_read_start : (table : TableValue) (v : List FolderView) → AreRead table [] v v
are_read_start table v = record {
  folders = refl;
  wide = All-nil (λ (reading : StripeReading). length reading.slots ≡ length table.columns);
  each = λ d lt. no_cells table.shape (folder_at v d);
}

-- some stripes, and then others
pub are_read_then : (table : TableValue) (xs ys : List StripeReading) (olds mid news : List FolderView) → AreRead table xs olds mid → AreRead table ys mid news → AreRead table (xs ++ ys) olds news
are_read_then table xs ys olds mid news one two = record {
  folders = two.folders ∙ one.folders;
  wide = All-append (λ (reading : StripeReading). length reading.slots ≡ length table.columns) xs ys one.wide two.wide;
  each = λ d lt.
      let task = task_at table (recorded_starts table) d in
      let stripes : stripes_of (xs ++ ys) ≡ stripes_of xs ++ stripes_of ys = map-append (λ (reading : StripeReading). reading.stripe) xs ys in
      let asked : map task (stripes_of (xs ++ ys)) ≡ map task (stripes_of xs) ++ map task (stripes_of ys) = ap (map task) stripes ∙ map-append task (stripes_of xs) (stripes_of ys) in
      subst (λ (tasks : List Task). ReadsColumn table.shape tasks (map (slot_of d) (xs ++ ys)) (folder_at olds d) (folder_at news d)) (sym asked)
      (subst (λ (slots : List SlotValue). ReadsColumn table.shape (map task (stripes_of xs) ++ map task (stripes_of ys)) slots (folder_at olds d) (folder_at news d)) (sym (map-append (slot_of d) xs ys))
      (column_then table.shape (map task (stripes_of xs)) (map task (stripes_of ys)) (map (slot_of d) xs) (map (slot_of d) ys) (folder_at olds d) (folder_at mid d) (folder_at news d)
      (one.each d lt) (two.each d (omega (arith, lt, one.folders)))));
}

-- the same of a table that asks for the same
pub are_read_by : (one other : TableValue) (xs : List StripeReading) (olds news : List FolderView) → one.shape ≡ other.shape → length one.columns ≡ length other.columns
    → ((d : ℕ) (stripes : List ℕ) → tasks_at one (recorded_starts one) d stripes ≡ tasks_at other (recorded_starts other) d stripes)
    → AreRead one xs olds news → AreRead other xs olds news
are_read_by one other xs olds news shape columns tasks read = record {
  folders = read.folders;
  wide = subst (λ (n : ℕ). All (λ (reading : StripeReading). length reading.slots ≡ n) xs) columns read.wide;
  each = λ d lt.
      subst (λ (its : Shape). ReadsColumn its (tasks_at other (recorded_starts other) d (stripes_of xs)) (map (slot_of d) xs) (folder_at olds d) (folder_at news d)) shape
      (subst (λ (asked : List Task). ReadsColumn one.shape asked (map (slot_of d) xs) (folder_at olds d) (folder_at news d)) (tasks d (stripes_of xs)) (read.each d lt));
}

-- ---- a window

-- the stripes of what was read into a window
pub stripes_of_window : (stripes : List ℕ) (window : WindowValue) → stripes_of (readings_in stripes window) ≡ stripes
stripes_of_window stripes window =
    map-map (λ (reading : StripeReading). reading.stripe) (reading_at stripes window) (range_with_len 0 (length stripes))
    ∙ sym (fill_by_all (λ (i : ℕ). get_or stripes i 0) stripes (length stripes) 0 refl (λ k lt. refl))

pub length_of_window : (stripes : List ℕ) (window : WindowValue) → length (readings_in stripes window) ≡ length stripes
length_of_window stripes window = length-map-range_with_len (reading_at stripes window) 0 (length stripes)

-- the slots of a column among what was read
slots_of_window : (stripes : List ℕ) (window : WindowValue) (d : ℕ) → d < length window.lanes → length (take (length stripes) (get_or window.lanes d [])) ≡ length stripes
    → map (slot_of d) (readings_in stripes window) ≡ take (length stripes) (get_or window.lanes d [])
slots_of_window stripes window d lt long =
    let many = length stripes in
    let lane = get_or window.lanes d [] in
    map-map (slot_of d) (reading_at stripes window) (range_with_len 0 many)
    ∙ sym (fill_by_all (λ (i : ℕ). slot_of d (reading_at stripes window i)) (take many lane) many no_slot long
    (λ k below. get_or-take many lane k no_slot below ∙ sym (get_or-map (slot_in k) window.lanes d [] no_slot lt)))

-- stripes that were read into a window were read of the folders
pub window_are_read : (table : TableValue) (starts : StartsValue) (stripes : List ℕ) (before window : WindowValue) (olds news : List FolderView) → starts ≡ recorded_starts table
    → length before.lanes ≡ length table.columns → length olds ≡ length table.columns → ReadsWindow table starts stripes before window olds news → AreRead table (readings_in stripes window) olds news
window_are_read table starts stripes before window olds news starts_is lanes folders read = record {
  folders = read.folders;
  wide = All-from_get_or (λ (reading : StripeReading). length reading.slots ≡ length table.columns) (readings_in stripes window) (reading_at stripes window 0) wide;
  each = column;
}
  where
    wide : (i : ℕ) → i < length (readings_in stripes window) → length (get_or (readings_in stripes window) i (reading_at stripes window 0)).slots ≡ length table.columns
    wide i lt =
        ap (λ (reading : StripeReading). length reading.slots)
        (get_or-map-range_with_len (reading_at stripes window) 0 (length stripes) i i (reading_at stripes window 0) (omega (arith, lt, length_of_window stripes window)) (omega arith))
        ∙ length-map window.lanes (slot_in i) ∙ read.lanes ∙ lanes

    column : (d : ℕ) → d < length olds → ReadsColumn table.shape (tasks_at table (recorded_starts table) d (stripes_of (readings_in stripes window))) (map (slot_of d) (readings_in stripes window)) (folder_at olds d) (folder_at news d)
    column d lt =
        let its = read.each d lt in
        let slots = take (length stripes) (get_or window.lanes d []) in
        let long : length slots ≡ length stripes = omega (arith, ap (λ (xs : List SlotValue). length xs) its.are_kept, length-map its.readings (kept table.shape), its.as_many, length-map stripes (task_at table starts d)) in
        let by = λ (table_starts : StartsValue) (asked : List ℕ) (its_slots : List SlotValue). ReadsColumn table.shape (tasks_at table table_starts d asked) its_slots (folder_at olds d) (folder_at news d) in
        subst (λ (asked : List ℕ). by (recorded_starts table) asked (map (slot_of d) (readings_in stripes window))) (sym (stripes_of_window stripes window))
        (subst (λ (its_slots : List SlotValue). by (recorded_starts table) stripes its_slots) (sym (slots_of_window stripes window d (omega (arith, lt, read.lanes, lanes, folders)) long))
        (subst (λ (table_starts : StartsValue). by table_starts stripes slots) starts_is its))

-- ---- the stripes

-- some of a list, and then as many as come after them
pub take_then : (xs : List ℕ) (n m : ℕ) → take n xs ++ take m (drop n xs) ≡ take (n + m) xs
take_then xs n m = ap₂ (λ (ys zs : List ℕ). ys ++ zs) (sym (take-take n (n + m) xs (omega arith))) (sym (drop-take n m xs)) ∙ take-append-drop n (take (n + m) xs)

pub length_after : (xs : List ℕ) (n m : ℕ) → n + m ≤ length xs → length (take m (drop n xs)) ≡ m
length_after xs n m within = length-take-le m (drop n xs) (omega (arith, within, length-drop n xs))
