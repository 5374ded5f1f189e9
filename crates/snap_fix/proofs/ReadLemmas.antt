-- What was read of the folders, window after window.
use Rattle.std.proofs.Common.{◌≡◌, ℕ, ◌<◌, List, [], ◌++◌, length, map, take, get_or, refl, sym, ap, ◌∙◌, subst, arith}
use Rattle.std.proofs.Math.ListN.{get_or-map}
use Rattle.std.proofs.lemmas.List.{length-map, map-append, ext_get_or, get_or-take}
use Rattle.disk_model.specs.Folder.{FolderView}
use Rattle.stripe_reader.specs.Column.{ReadsColumn}
use Rattle.stripe_reader.specs.Columns.{ReadsWindow, folder_at}
use Rattle.stripe_reader.specs.Reading.{Task, task_at}
use Rattle.stripe_reader.specs.Slot.{kept}
use Rattle.stripe_reader.specs.SlotValue.{SlotValue}
use Rattle.stripe_reader.specs.Starts.{StartsValue}
use Rattle.stripe_reader.specs.WindowValue.{WindowValue, lane_at, no_slot}
use Rattle.stripe_reader.proofs.ColumnLemmas.{no_cells, column_then}
use Rattle.stripe_examiner.specs.Facts.{StripeFacts, slot_of}
use Rattle.stripe_examiner.specs.Looking.{AreRead, numbers_of, slots_of, facts_at, no_facts}
use Rattle.stripe_examiner.specs.Marks.{slots_at}
use Rattle.repair_scope.specs.Plan.{FixPlan}

module _ (plan : FixPlan) (starts : StartsValue) where
  abbrev task : ℕ → ℕ → Task
  task d stripe = task_at plan.table starts d stripe

  pub read_none : (v : List FolderView) → AreRead plan starts [] v v
  read_none v = record { folders = refl; each = λ d below. no_cells plan.table.shape (folder_at v d) }

  pub read_then : (xs ys : List StripeFacts) (olds mids news : List FolderView) → AreRead plan starts xs olds mids → AreRead plan starts ys mids news → AreRead plan starts (xs ++ ys) olds news
  read_then xs ys olds mids news one two = record {
    folders = two.folders ∙ one.folders;
    each = λ d below.
        let numbers : numbers_of (xs ++ ys) ≡ numbers_of xs ++ numbers_of ys = map-append (λ (it : StripeFacts). it.stripe) xs ys in
        let asked : map (task d) (numbers_of (xs ++ ys)) ≡ map (task d) (numbers_of xs) ++ map (task d) (numbers_of ys) = ap (map (task d)) numbers ∙ map-append (task d) (numbers_of xs) (numbers_of ys) in
        subst (λ (tasks : List Task). ReadsColumn plan.table.shape tasks (slots_of d (xs ++ ys)) (folder_at olds d) (folder_at news d)) (sym asked)
        (subst (λ (slots : List SlotValue). ReadsColumn plan.table.shape (map (task d) (numbers_of xs) ++ map (task d) (numbers_of ys)) slots (folder_at olds d) (folder_at news d)) (sym (map-append (λ (it : StripeFacts). slot_of it d) xs ys))
        (column_then plan.table.shape (map (task d) (numbers_of xs)) (map (task d) (numbers_of ys)) (slots_of d xs) (slots_of d ys) (folder_at olds d) (folder_at mids d) (folder_at news d)
        (one.each d below) (two.each d (omega (arith, below, one.folders)))));
  }

  -- the stripes of a window were read of the folders
  pub read_window : (xs : List StripeFacts) (stripes : List ℕ) (before window : WindowValue) (olds news : List FolderView)
      → numbers_of xs ≡ stripes → ((k : ℕ) → k < length xs → (facts_at xs k).slots ≡ slots_at window k) → length before.lanes ≡ length olds
      → ReadsWindow plan.table starts stripes before window olds news → AreRead plan starts xs olds news
  read_window xs stripes before window olds news numbers slots lanes read = record {
    folders = read.folders;
    each = λ d below.
        subst (λ (asked : List ℕ). ReadsColumn plan.table.shape (map (task d) asked) (slots_of d xs) (folder_at olds d) (folder_at news d)) (sym numbers)
        (subst (λ (its : List SlotValue). ReadsColumn plan.table.shape (map (task d) stripes) its (folder_at olds d) (folder_at news d)) (sym (its_slots d below)) (read.each d below));
  }
    where
      many : length xs ≡ length stripes
      many = sym (length-map xs (λ (it : StripeFacts). it.stripe)) ∙ ap (λ (ns : List ℕ). length ns) numbers

      its_slots : (d : ℕ) → d < length olds → slots_of d xs ≡ take (length stripes) (lane_at window d)
      its_slots d below =
          let its = read.each d below in
          let lane = lane_at window d in
          let long : length (take (length stripes) lane) ≡ length stripes = ap (λ (ss : List SlotValue). length ss) its.are_kept ∙ length-map its.readings (kept plan.table.shape) ∙ its.as_many ∙ length-map stripes (task d) in
          ext_get_or no_slot (slots_of d xs) (take (length stripes) lane)
          (length-map xs (λ (it : StripeFacts). slot_of it d) ∙ many ∙ sym long)
          (λ k near.
          let within : k < length xs = omega (arith, near, length-map xs (λ (it : StripeFacts). slot_of it d)) in
          get_or-map (λ (it : StripeFacts). slot_of it d) xs k no_facts
          ∙ ap (λ (ss : List SlotValue). get_or ss d no_slot) (slots k within)
          ∙ get_or-map (λ (at : List SlotValue). get_or at k no_slot) window.lanes d []
          ∙ sym (get_or-take (length stripes) lane k no_slot (omega (arith, within, many))))
