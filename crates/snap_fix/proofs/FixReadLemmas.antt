-- The stripes of a window, read of the folders of a fix.
use Rattle.std.proofs.Common.{◌≡◌, ℕ, ◌+◌, ◌<◌, ◌≤◌, List, [], ◌∷◌, ◌++◌, length, map, take, get_or, Bool, true, IsTrue, refl, sym, ap, ◌∙◌, subst, arith, cond}
use Rattle.std.specs.List.{count_by}
use Rattle.std.proofs.Math.ListN.{get_or-map as get_or-map-at}
use Rattle.std.proofs.lemmas.List.{append-nil, length-map, get_or-map, ext_get_or, get_or-take, length-take-le}
use Rattle.std.proofs.lemmas.List.Sums.{sum_by-take-le}
use Rattle.disk_model.specs.Cause.{RoseBy}
use Rattle.disk_model.specs.Folder.{FolderView, FolderCall}
use Rattle.disk_model.specs.Tree.{Tree}
use Rattle.file_table.specs.declared.shape.Shape.{Shape}
use Rattle.snap_report.specs.Answer.{is_reading}
use Rattle.stripe_reader.specs.Column.{IsReadingOf, ReadsColumn, no_task}
use Rattle.stripe_reader.specs.Columns.{ReadsWindow, folder_at}
use Rattle.stripe_reader.specs.Reading.{CellReading, NoBlock, Nowhere, Beyond, Unread, Gone, Part, Whole, Task, task_at, tasks_at, is_unread}
use Rattle.stripe_reader.specs.FolderCalls.{AreColumnCalls}
use Rattle.stripe_reader.specs.Slot.{kept}
use Rattle.stripe_reader.specs.SlotValue.{SlotValue}
use Rattle.stripe_reader.specs.Starts.{StartsValue, starts_at}
use Rattle.stripe_reader.specs.WindowValue.{WindowValue, lane_at, no_slot}
use Rattle.stripe_reader.proofs.ColumnLemmas.{slot_is}
use Rattle.file_restorer.specs.declared.state.FileState.{FileState}
use Rattle.stripe_examiner.specs.Facts.{StripeFacts, slot_of}
use Rattle.snap_fix.specs.Fixing.{IsCellRead, facts_of}
use Rattle.stripe_examiner.specs.Looking.{facts_at, no_facts, numbers_of, slots_of, unread_cells}
use Rattle.stripe_examiner.specs.Marks.{slots_at}
use Rattle.snap_fix.specs.Mended.{Mended, column_writes}
use Rattle.file_restorer.specs.Order.{FolderWrites}
use Rattle.repair_scope.specs.Plan.{FixPlan}
use Rattle.file_table.specs.Table.{records_in}
use Rattle.snap_fix.specs.Reads.{AreReadBy, FolderReads}
use Rattle.file_restorer.specs.State.{FolderMakesBy, HoldsColumn}
use Rattle.snap_fix.specs.StripeOrder.{writes_after}
use Rattle.snap_fix.specs.Underway.{AreStripeCalls, AreUnderway, FixUnderway}
use Rattle.snap_fix.proofs.FixCountLemmas.{count_cons, failed_in, slot_unread, unread_slots}
use Rattle.file_restorer.proofs.FolderCallLemmas.{calls_then, makes_by_wider, makes_column_reading}
use Rattle.snap_fix.proofs.KeptStartsLemmas.{reads_makes}
use Rattle.file_restorer.proofs.OrderLemmas.{column_read, writes_then}
use Rattle.snap_fix.proofs.FolderWindowsLemmas.{reads_by}
use Rattle.snap_fix.proofs.ReadsLemmas.{all_looked, column_reads}

-- ---- the calls of a reading

pub reading_makes : (plan : FixPlan) (starts : StartsValue) (d : ℕ) (shape : Shape) (tasks : List Task) (slots : List SlotValue) (old new : FolderView) → ReadsColumn shape tasks slots old new
    → FolderMakesBy (AreStripeCalls plan starts d []) old new
reading_makes plan starts d shape tasks slots old new read =
    reads_makes plan starts d (makes_column_reading (λ (call : FolderCall). is_reading call ≡ true) (λ path lost. refl) (λ path lost at n. refl) tasks read.readings read.folder)

-- ---- a fix goes on over a reading

module _ (plan : FixPlan) (starts : StartsValue) (numbers : List ℕ) (before window : WindowValue) (olds mids : List FolderView)
    (read : ReadsWindow plan.table starts numbers before window olds mids) (columns : length olds ≡ length plan.table.columns) where
  abbrev pub near : (d : ℕ) → d < length plan.table.columns → d < length olds
  near d below = omega (arith, below, columns)

  pub window_makes : (d : ℕ) → d < length plan.table.columns → FolderMakesBy (AreStripeCalls plan starts d []) (folder_at olds d) (folder_at mids d)
  window_makes d below = reading_makes plan starts d plan.table.shape _ _ (folder_at olds d) (folder_at mids d) (read.each d (near d below))

  pub underway_read : (stripes : List Mended) (firsts : List FolderView) (places : StartsValue) (states : List (List FileState)) → AreUnderway plan stripes firsts olds places states → AreUnderway plan stripes firsts mids places states
  underway_read stripes firsts places states is = record {
    folders = read.folders ∙ is.folders;
    each = λ d below.
        let its = is.each d below in
        let first = folder_at firsts d in
        let records = records_in plan.table d in
        record {
          calls = calls_then its.calls (let makes = window_makes d below in record { done = makes.done; goes_on = makes.goes_on });
          holds = λ told.
              let was : IsTrue (folder_at olds d).tells = subst IsTrue (sym its.calls.goes_on.tells) told in
              let same = (read.each d (near d below)).folder.tree was in
              subst (λ (tree : Tree). HoldsColumn records (starts_at places.columns d) (get_or states d []) (column_writes plan stripes d (length records)) first.tree tree) (sym same) (its.holds told);
          lost = its.lost;
          sizes = its.sizes;
          wrote = its.wrote;
          touched = its.touched;
          ordered = λ told.
              let writes : List FolderCall = writes_after plan d first.tree [] stripes in
              subst (λ (calls : List FolderCall). FolderWrites calls first (folder_at mids d)) (append-nil writes)
              (writes_then writes [] (its.ordered told) (column_read _ _ (read.each d (near d below)).folder));
        };
  }

  pub fix_read : (places : StartsValue) (states : List (List FileState)) → FixUnderway plan olds places states → FixUnderway plan mids places states
  fix_read places states is = record {
    stripes = is.stripes;
    firsts = is.firsts;
    fixable = is.fixable;
    underway = underway_read is.stripes is.firsts places states is.underway;
  }

  -- ---- what its stripes keep

  module _ (stripes : List Mended) (few : length stripes ≤ length numbers) (slots : (k : ℕ) → k < length stripes → (facts_at (facts_of stripes) k).slots ≡ slots_at window k) where
    slot_here : (k d : ℕ) → k < length stripes → slot_of (facts_at (facts_of stripes) k) d ≡ get_or (lane_at window d) k no_slot
    slot_here k d below = ap (λ (its : List SlotValue). get_or its d no_slot) (slots k below) ∙ get_or-map-at (λ (lane : List SlotValue). get_or lane k no_slot) window.lanes d []

    -- a slot keeps a reading of its cell
    pub cell_read : (k d : ℕ) → k < length stripes → d < length plan.table.columns → (facts_at (facts_of stripes) k).stripe ≡ get_or numbers k 0
        → IsCellRead plan.table.shape (folder_at olds d) (task_at plan.table starts d (facts_at (facts_of stripes) k).stripe) (slot_of (facts_at (facts_of stripes) k) d)
    cell_read k d below column number =
        let its = read.each d (near d column) in
        let task_of = task_at plan.table starts d in
        let within : k < length numbers = omega (arith, below, few) in
        record {
          reading = get_or its.readings k NoBlock;
          is_of =
              subst (λ (task : Task). IsReadingOf (folder_at olds d) task (get_or its.readings k NoBlock))
              (get_or-map task_of numbers k 0 no_task within ∙ ap task_of (sym number))
              (its.are_of k (omega (arith, within, length-map numbers task_of)));
          is_kept = slot_here k d below ∙ slot_is plan.table.shape task_of numbers k (lane_at window d) (folder_at olds d) (folder_at mids d) its within;
        }

    -- and that keeps what was read of it
    pub slot_read : (k d : ℕ) → k < length stripes → (column : d < length plan.table.columns)
        → slot_of (facts_at (facts_of stripes) k) d ≡ kept plan.table.shape (get_or (read.each d (near d column)).readings k NoBlock)
    slot_read k d below column =
        slot_here k d below
        ∙ slot_is plan.table.shape (task_at plan.table starts d) numbers k (lane_at window d) (folder_at olds d) (folder_at mids d) (read.each d (near d column)) (omega (arith, below, few))

    -- the calls of the reading
    pub window_reads : (d : ℕ) → (column : d < length plan.table.columns)
        → FolderReads (AreColumnCalls (tasks_at plan.table starts d numbers) (read.each d (near d column)).readings) (folder_at olds d) (folder_at mids d)
    window_reads d column = column_reads (tasks_at plan.table starts d numbers) (read.each d (near d column)).readings (read.each d (near d column)).folder

    -- where they are all of the window, just their cells were read
    pub window_looked : numbers ≡ numbers_of (facts_of stripes) ++ [] → (d : ℕ) → d < length plan.table.columns
        → FolderMakesBy (AreReadBy plan starts starts d (facts_of stripes)) (folder_at olds d) (folder_at mids d)
    window_looked all d column =
        let its = read.each d (near d column) in
        let many : length (facts_of stripes) ≡ length stripes = length-map stripes (λ (it : Mended). it.facts) in
        makes_by_wider (AreColumnCalls (tasks_at plan.table starts d numbers) its.readings) (AreReadBy plan starts starts d (facts_of stripes))
        (λ done are.
        all_looked plan starts d (facts_of stripes) its.readings done
        (subst (λ (ns : List ℕ). AreColumnCalls (tasks_at plan.table starts d ns) its.readings done) all are)
        (λ k below. slot_read k d (omega (arith, below, many)) column))
        (reads_by (AreColumnCalls (tasks_at plan.table starts d numbers) its.readings) its.folder)

    kept_unread : (shape : Shape) (reading : CellReading) → slot_unread (kept shape reading) ≡ is_unread reading
    kept_unread shape NoBlock = refl
    kept_unread shape Nowhere = refl
    kept_unread shape Beyond = refl
    kept_unread shape (Unread seen) = refl
    kept_unread shape (Gone seen) = refl
    kept_unread shape (Part seen got) = refl
    kept_unread shape (Whole seen bytes) = refl

    count_kept : (shape : Shape) (readings : List CellReading) → count_by slot_unread (map (kept shape) readings) ≡ count_by is_unread readings
    count_kept shape [] = refl
    count_kept shape (reading ∷ readings) =
        let a = count_cons slot_unread (kept shape reading) (map (kept shape) readings) in
        let b = count_cons is_unread reading readings in
        let c : count_by slot_unread (kept shape reading ∷ []) ≡ count_by is_unread (reading ∷ []) = ap (λ (unread : Bool). 0 + cond unread 1 0) (kept_unread shape reading) in
        omega (arith, a, b, c, count_kept shape readings)

    -- of no more cells of a column the reading failed than its folder did
    pub cells_unread : (d : ℕ) → d < length plan.table.columns → RoseBy (unread_cells d (facts_of stripes)) (folder_at olds d).faults (folder_at mids d).faults
    cells_unread d below =
        let its = read.each d (near d below) in
        let lane = take (length numbers) (lane_at window d) in
        let shape = plan.table.shape in
        let long : length lane ≡ length numbers = ap (λ (ss : List SlotValue). length ss) its.are_kept ∙ length-map its.readings (kept shape) ∙ its.as_many ∙ length-map numbers (task_at plan.table starts d) in
        let many : length (facts_of stripes) ≡ length stripes = length-map stripes (λ (it : Mended). it.facts) in
        let same : slots_of d (facts_of stripes) ≡ take (length stripes) lane =
        ext_get_or no_slot (slots_of d (facts_of stripes)) (take (length stripes) lane)
        (length-map (facts_of stripes) (λ (it : StripeFacts). slot_of it d) ∙ many ∙ sym (length-take-le (length stripes) lane (omega (arith, few, long))))
        (λ k within.
        let here : k < length stripes = omega (arith, within, many, length-map (facts_of stripes) (λ (it : StripeFacts). slot_of it d)) in
        get_or-map-at (λ (it : StripeFacts). slot_of it d) (facts_of stripes) k no_facts
        ∙ slot_here k d here
        ∙ sym (get_or-take (length numbers) (lane_at window d) k no_slot (omega (arith, here, few)))
        ∙ sym (get_or-take (length stripes) lane k no_slot here)) in
        let told = unread_slots d (facts_of stripes) in
        let slots_are = ap (λ (ss : List SlotValue). count_by slot_unread ss) same in
        let cut = sum_by-take-le failed_in lane (length stripes) in
        let whole = ap (λ (ss : List SlotValue). count_by slot_unread ss) its.are_kept in
        let rose = its.unread in
        omega (arith, told, slots_are, cut, whole, count_kept shape its.readings, rose)
