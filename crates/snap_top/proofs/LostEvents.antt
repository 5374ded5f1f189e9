-- A check tells just those cells to be lost that are missing in a stripe whose row is not known. It tells just the pending stripes with a selected cell to
-- be unsynced, and just the selected blocked records to be blocked.
use Rattle.std.proofs.Common.{◌≡◌, ℕ, zero, suc, ◌<◌, ◌&&◌, ◌||◌, List, [], ◌∷◌, ◌++◌, length, get_or, Bool, true, false, Option, None, Some, refl, sym, ap, ap₂, ◌∙◌, subst, arith}
use Rattle.std.specs.Prelude.{bytes_eq, not, if◌then◌else◌}
use Rattle.std.specs.List.{All, Contains, flat_map, range_with_len}
use Rattle.std.proofs.lemmas.Bool.{and_parts}
use Rattle.std.proofs.lemmas.List.Elements.{All-append, All-cons, All-contains, All-contains_itself, All-nil, Contains-append_left, Contains-append_right}
use Rattle.std.proofs.lemmas.List.{get_or-map, length-map}
use Rattle.std.proofs.lemmas.List.FromFn.{get_or-range_with_len, length-range_with_len}
use Rattle.block_hash.specs.declared.Digest16.{Digest16}
use Rattle.file_table.specs.Cells.{CellView, cell_seen}
use Rattle.file_table.specs.Table.{column_at, record_at, records_in}
use Rattle.file_table.specs.declared.block.Cell.{Cell}
use Rattle.parity_writer.specs.LevelsValue.{LevelValue, no_level}
use Rattle.parity_writer.specs.Parity.{Row}
use Rattle.snap_report.specs.declared.events.Event.{Event}
use Rattle.snap_report.specs.declared.events.Event.TheVariants as event
use Rattle.stripe_reader.specs.SlotValue.{SlotValue}
use Rattle.stripe_reader.specs.WindowValue.{no_slot}
use Rattle.snap_fix.specs.Course.{check_events}
use Rattle.stripe_examiner.specs.Facts.{StripeFacts}
use Rattle.stripe_examiner.specs.Findings.{all_cell_events, all_level_events, all_level_io_events, all_lost_events, blocked_event, cell_events, changed_event, column_events, events_of, is_lost, is_unread, is_unread_level, is_wrong, level_events, level_io_events, lost_event, lost_events, opening_events, read_event, read_events, record_events, silent_event, stripe_events, unsynced_events}
use Rattle.stripe_examiner.specs.Known.{AreFacts}
use Rattle.stripe_examiner.specs.Looking.{numbers_of}
use Rattle.repair_scope.specs.Plan.{FixPlan, cell_at, entry_at, has_selected_cell, has_selected_level, is_audit, is_looked_at, is_synced, selects_cell, selects_level, stripes_of}
use Rattle.repair_scope.specs.Selected.{is_as_recorded}
use Rattle.snap_fix.specs.Restored.{IsDamagedCell}
use Rattle.snap_top.specs.Lost.{IsPendingSelected, IsSelectedBlocked, IsToldLost}
use Rattle.snap_top.proofs.KeptLemmas.{kept_in}

-- a cell of one of these stripes is lost
pub record IsLostIn (plan : FixPlan) (stripes : List StripeFacts) (stripe d : ℕ) : Type 0 where
  pub facts : StripeFacts
  pub one : Contains stripes facts
  pub number : facts.stripe ≡ stripe
  pub lost : is_lost plan facts d ≡ true

-- ---- no other cell is told to be lost

-- what is so of an event that tells a cell to be lost, a stripe to be unsynced, or a record to be blocked
abbrev Only : (ℕ → ℕ → Type 0) → (ℕ → Type 0) → (ℕ → ℕ → Type 0) → Event → Type 0
Only Q U B (event.Lost stripe d rec index) = Q stripe d
Only Q U B (event.Unsynced stripe) = U stripe
Only Q U B (event.Blocked d i) = B d i
Only Q U B _ = Unit {0}

-- a record is told to be blocked where it is so, and a stripe to be unsynced where it is so
abbrev TellsBlocked : FixPlan → (ℕ → ℕ → Type 0) → Type 0
TellsBlocked plan B = (d i : ℕ) → IsSelectedBlocked plan d i → B d i

unsynced_parts : (audit synced selected : Bool) → (not audit && not synced && selected) ≡ true → (synced ≡ false) × (selected ≡ true)
unsynced_parts true synced selected is = absurd cc
unsynced_parts false true selected is = absurd cc
unsynced_parts false false true is = (refl, refl)
unsynced_parts false false false is = absurd cc

module _ (Q : ℕ → ℕ → Type 0) (U : ℕ → Type 0) (B : ℕ → ℕ → Type 0) where
  abbrev AllOnly : List Event → Type 0
  AllOnly events = All (Only Q U B) events

  all_one : (it : Event) → Only Q U B it → AllOnly (it ∷ [])
  all_one it is = All-cons (Only Q U B) it [] is (All-nil (Only Q U B))

  all_both : (xs ys : List Event) → AllOnly xs → AllOnly ys → AllOnly (xs ++ ys)
  all_both xs ys one two = All-append (Only Q U B) xs ys one two

  all_if : (b : Bool) (xs ys : List Event) → AllOnly xs → AllOnly ys → AllOnly (if b then xs else ys)
  all_if true xs ys one two = one
  all_if false xs ys one two = two

  all_where : (b : Bool) (xs : List Event) → (b ≡ true → AllOnly xs) → AllOnly (if b then xs else [])
  all_where true xs one = one refl
  all_where false xs one = All-nil (Only Q U B)

  -- where that needs no test
  all_when : (b : Bool) (xs : List Event) → AllOnly xs → AllOnly (if b then xs else [])
  all_when b xs one = all_where b xs (λ is. one)

  all_each : {X : Type 0} (f : X → List Event) (xs : List X) → ((k : ℕ) (d : X) → k < length xs → AllOnly (f (get_or xs k d))) → AllOnly (flat_map f xs)
  all_each f [] each = All-nil (Only Q U B)
  all_each f (x ∷ xs) each =
      all_both (f x) (flat_map f xs) (each 0 x (omega arith)) (all_each f xs (λ k d within. each (suc k) d (omega (arith, within))))

  all_below : (f : ℕ → List Event) (n : ℕ) → ((k : ℕ) → AllOnly (f k)) → AllOnly (flat_map f (range_with_len 0 n))
  all_below f n each = all_each f (range_with_len 0 n) (λ k other within. each (get_or (range_with_len 0 n) k other))

  all_within : (f : ℕ → List Event) (n : ℕ) → ((k : ℕ) → k < n → AllOnly (f k)) → AllOnly (flat_map f (range_with_len 0 n))
  all_within f n each = all_each f (range_with_len 0 n) (λ k other within.
      let below : k < n = omega (arith, within, length-range_with_len 0 n) in
      let at : get_or (range_with_len 0 n) k other ≡ k = get_or-range_with_len 0 n k other below ∙ omega arith in
      subst (λ (m : ℕ). AllOnly (f m)) (sym at) (each k below))

  -- of files as a whole
  all_of_file : (plan : FixPlan) (d i : ℕ) → d < length plan.table.columns → i < length (records_in plan.table d) → TellsBlocked plan B → AllOnly (record_events plan d i)
  all_of_file plan d i column within tells =
      let entry = entry_at plan d i in
      let meta = (record_at plan.table.columns d i).meta in
      let audit : Bool = is_audit plan.scope.mode in
      all_where entry.selected (changed_event d i meta entry ++ blocked_event audit d i entry) (λ selected.
      all_both (changed_event d i meta entry) (blocked_event audit d i entry)
      (all_if (is_as_recorded meta entry.listed) [] (event.Changed d i entry.listed ∷ []) (All-nil (Only Q U B)) (all_one (event.Changed d i entry.listed) tt))
      (all_where (entry.blocked && not audit) (event.Blocked d i ∷ []) (λ is. all_one (event.Blocked d i)
      (tells d i (record { column = column; within = within; selected = selected; blocked = (and_parts entry.blocked (not audit) is).0 })))))

  all_opening : (plan : FixPlan) → TellsBlocked plan B → AllOnly (opening_events plan)
  all_opening plan tells =
      all_within (column_events plan) (length plan.table.columns) (λ d column.
      all_within (record_events plan d) (length (records_in plan.table d)) (λ i within. all_of_file plan d i column within tells))

  -- of the cells and levels of a stripe
  all_silent : (stripe d : ℕ) (cell : Cell) (recorded came : Option Digest16) → AllOnly (silent_event stripe d cell recorded came)
  all_silent stripe d cell (Some recorded) (Some came) =
      all_if (bytes_eq recorded.0 came.0) [] (event.Silent stripe d cell.rec cell.index recorded came ∷ []) (All-nil (Only Q U B))
      (all_one (event.Silent stripe d cell.rec cell.index recorded came) tt)
  all_silent stripe d cell (Some recorded) None = All-nil (Only Q U B)
  all_silent stripe d cell None came = All-nil (Only Q U B)

  all_read : (plan : FixPlan) (stripe d : ℕ) (cell : Cell) (seen : CellView) (slot : SlotValue) → AllOnly (read_event stripe d cell seen (entry_at plan d cell.rec) slot)
  all_read plan stripe d cell seen slot =
      let silent : List Event = silent_event stripe d cell seen.hash slot.digest in
      let same : Bool = is_as_recorded seen.meta (entry_at plan d cell.rec).listed in
      all_if (is_unread slot.cell.found) (event.Io stripe d cell.rec cell.index ∷ []) (if same then silent else []) (all_one (event.Io stripe d cell.rec cell.index) tt)
      (all_when same silent (all_silent stripe d cell seen.hash slot.digest))

  all_reads : (plan : FixPlan) (stripe : ℕ) (slot : SlotValue) (d : ℕ) (found : Option Cell) → AllOnly (read_events plan stripe slot d found)
  all_reads plan stripe slot d None = All-nil (Only Q U B)
  all_reads plan stripe slot d (Some cell) = all_read plan stripe d cell (cell_seen (column_at plan.table.columns d) cell) slot

  all_cells : (plan : FixPlan) (stripe : ℕ) (slots : List SlotValue) → AllOnly (all_cell_events plan stripe slots)
  all_cells plan stripe slots =
      all_below (λ d. cell_events plan stripe (get_or slots d no_slot) d) (length plan.table.columns) (λ d.
      all_when (selects_cell plan stripe d) (read_events plan stripe (get_or slots d no_slot) d (cell_at plan stripe d))
      (all_reads plan stripe (get_or slots d no_slot) d (cell_at plan stripe d)))

  all_io : (plan : FixPlan) (stripe : ℕ) (levels : List LevelValue) → AllOnly (all_level_io_events plan stripe levels)
  all_io plan stripe levels =
      all_below (λ r. level_io_events plan stripe (get_or levels r no_level) r) (length levels) (λ r.
      all_when (selects_level plan stripe r && is_unread_level (get_or levels r no_level).state) (event.ParityIo stripe r ∷ []) (all_one (event.ParityIo stripe r) tt))

  all_wrong : (plan : FixPlan) (stripe : ℕ) (levels : List LevelValue) (row : Option Row) → AllOnly (all_level_events plan stripe levels row)
  all_wrong plan stripe levels row =
      all_below (λ r. level_events plan stripe (get_or levels r no_level) row r) (length levels) (λ r.
      all_when (is_wrong plan stripe (get_or levels r no_level) row r) (event.Parity stripe r ∷ []) (all_one (event.Parity stripe r) tt))

  all_unsynced : (plan : FixPlan) (stripe : ℕ) → (is_synced plan stripe ≡ false → has_selected_cell plan stripe ≡ true → U stripe) → AllOnly (unsynced_events plan stripe)
  all_unsynced plan stripe tells =
      all_where (not (is_audit plan.scope.mode) && not (is_synced plan stripe) && has_selected_cell plan stripe) (event.Unsynced stripe ∷ []) (λ is.
      let both = unsynced_parts (is_audit plan.scope.mode) (is_synced plan stripe) (has_selected_cell plan stripe) is in
      all_one (event.Unsynced stripe) (tells both.0 both.1))

  all_lost_of : (stripe d : ℕ) (found : Option Cell) → Q stripe d → AllOnly (lost_event stripe d found)
  all_lost_of stripe d None is = All-nil (Only Q U B)
  all_lost_of stripe d (Some cell) is = all_one (event.Lost stripe d cell.rec cell.index) is

  all_lost : (plan : FixPlan) (facts : StripeFacts) → ((d : ℕ) → is_lost plan facts d ≡ true → Q facts.stripe d) → AllOnly (all_lost_events plan facts.stripe (is_lost plan facts))
  all_lost plan facts lost =
      all_below (λ d. lost_events plan facts.stripe (is_lost plan facts d) d) (length plan.table.columns) (λ d.
      all_where (not (is_audit plan.scope.mode) && is_lost plan facts d) (lost_event facts.stripe d (cell_at plan facts.stripe d))
      (λ is. all_lost_of facts.stripe d (cell_at plan facts.stripe d) (lost d (and_parts (not (is_audit plan.scope.mode)) (is_lost plan facts d) is).1)))

  all_of_stripe : (plan : FixPlan) (facts : StripeFacts) → ((d : ℕ) → is_lost plan facts d ≡ true → Q facts.stripe d)
      → (is_synced plan facts.stripe ≡ false → has_selected_cell plan facts.stripe ≡ true → U facts.stripe) → AllOnly (stripe_events plan facts)
  all_of_stripe plan facts lost unsynced =
      let lost_of : List Event = all_lost_events plan facts.stripe (is_lost plan facts) in
      let wrong_of : List Event = all_level_events plan facts.stripe facts.levels facts.row in
      let io_of : List Event = all_level_io_events plan facts.stripe facts.levels in
      let cells_of : List Event = all_cell_events plan facts.stripe facts.slots in
      all_both (unsynced_events plan facts.stripe) (cells_of ++ (io_of ++ (wrong_of ++ lost_of))) (all_unsynced plan facts.stripe unsynced)
      (all_both cells_of (io_of ++ (wrong_of ++ lost_of)) (all_cells plan facts.stripe facts.slots)
      (all_both io_of (wrong_of ++ lost_of) (all_io plan facts.stripe facts.levels)
      (all_both wrong_of lost_of (all_wrong plan facts.stripe facts.levels facts.row) (all_lost plan facts lost))))

module _ (plan : FixPlan) (stripes : List StripeFacts) where
  -- so it is of all stripes
  abbrev TellsUnsynced : (ℕ → Type 0) → Type 0
  TellsUnsynced U = (facts : StripeFacts) → Contains stripes facts → is_synced plan facts.stripe ≡ false → has_selected_cell plan facts.stripe ≡ true → U facts.stripe

  all_of_check : (U : ℕ → Type 0) (B : ℕ → ℕ → Type 0) → TellsUnsynced U → TellsBlocked plan B → All (Only (IsLostIn plan stripes) U B) (check_events plan stripes)
  all_of_check U B unsynced blocked =
      let Q : ℕ → ℕ → Type 0 = IsLostIn plan stripes in
      all_both Q U B (opening_events plan) (events_of plan stripes) (all_opening Q U B plan blocked)
      (all_each Q U B (stripe_events plan) stripes (λ k other within.
      let facts : StripeFacts = get_or stripes k other in
      let one : Contains stripes facts = All-contains_itself stripes k other within in
      all_of_stripe Q U B plan facts (λ d is. record { facts = facts; one = one; number = refl; lost = is }) (unsynced facts one)))

  pub told_is_lost : (stripe d rec index : ℕ) → Contains (check_events plan stripes) (event.Lost stripe d rec index) → IsLostIn plan stripes stripe d
  told_is_lost stripe d rec index told =
      All-contains (Only (IsLostIn plan stripes) (λ s. Unit {0}) (λ d' i. Unit {0})) (check_events plan stripes) (event.Lost stripe d rec index)
      (all_of_check (λ s. Unit {0}) (λ d' i. Unit {0}) (λ facts one unsynced selected. tt) (λ d' i is. tt)) told

  pub told_is_unsynced : All (AreFacts plan) stripes → (stripe : ℕ) → Contains (check_events plan stripes) (event.Unsynced stripe) → IsPendingSelected plan stripe
  told_is_unsynced are stripe told =
      All-contains (Only (IsLostIn plan stripes) (IsPendingSelected plan) (λ d i. Unit {0})) (check_events plan stripes) (event.Unsynced stripe)
      (all_of_check (IsPendingSelected plan) (λ d i. Unit {0})
      (λ facts one unsynced selected. record { within = let it = All-contains (AreFacts plan) stripes facts are one in it.within; pending = unsynced; selected = selected })
      (λ d i is. tt)) told

  pub told_is_blocked : (d i : ℕ) → Contains (check_events plan stripes) (event.Blocked d i) → IsSelectedBlocked plan d i
  told_is_blocked d i told =
      All-contains (Only (IsLostIn plan stripes) (λ s. Unit {0}) (IsSelectedBlocked plan)) (check_events plan stripes) (event.Blocked d i)
      (all_of_check (λ s. Unit {0}) (IsSelectedBlocked plan) (λ facts one unsynced selected. tt) (λ d' i' is. is)) told

-- what stands for the facts of a stripe that is not there
no_facts : StripeFacts
no_facts = record { stripe = 0; slots = []; gifts = []; levels = []; row = None }

-- ---- each lost cell is told

contains_flat : {X A : Type 0} (f : X → List A) (xs : List X) (k : ℕ) (d : X) (a : A) → k < length xs → Contains (f (get_or xs k d)) a → Contains (flat_map f xs) a
contains_flat f [] k d a within there = absurd (omega (arith, within))
contains_flat f (x ∷ xs) zero d a within there = Contains-append_left (f x) (flat_map f xs) a there
contains_flat f (x ∷ xs) (suc k) d a within there = Contains-append_right (f x) (flat_map f xs) a (contains_flat f xs k d a (omega (arith, within)) there)

module _ (plan : FixPlan) (stripes : List StripeFacts) (facts : StripeFacts) (d : ℕ) (cell : Cell) (it : IsDamagedCell plan stripes facts d cell)
    (parity : is_audit plan.scope.mode ≡ false) (lost : is_lost plan facts d ≡ true) where
  abbrev line : Event
  line = event.Lost facts.stripe d cell.rec cell.index

  abbrev lost_at : ℕ → List Event
  lost_at k = lost_events plan facts.stripe (is_lost plan facts k) k

  lost_here : lost_at d ≡ line ∷ []
  lost_here =
      ap₂ (λ (audit is : Bool). if not audit && is then lost_event facts.stripe d (cell_at plan facts.stripe d) else []) parity lost
      ∙ ap (lost_event facts.stripe d) it.cell_is

  in_stripe : Contains (stripe_events plan facts) line
  in_stripe =
      let columns : ℕ = length plan.table.columns in
      let below = it.column in
      let at : get_or (range_with_len 0 columns) d 0 ≡ d = get_or-range_with_len 0 columns d 0 it.column ∙ omega arith in
      let told : Contains (lost_at (get_or (range_with_len 0 columns) d 0)) line =
      subst (λ (events : List Event). Contains events line) (sym (ap lost_at at ∙ lost_here)) (0, omega arith, refl) in
      Contains-append_right (unsynced_events plan facts.stripe) _ _
      (Contains-append_right (all_cell_events plan facts.stripe facts.slots) _ _
      (Contains-append_right (all_level_io_events plan facts.stripe facts.levels) _ _
      (Contains-append_right (all_level_events plan facts.stripe facts.levels facts.row) _ _
      (contains_flat lost_at (range_with_len 0 columns) d 0 line (omega (arith, below, length-range_with_len 0 columns)) told))))

  pub lost_is_told : IsToldLost (check_events plan stripes) facts d cell
  lost_is_told =
      Contains-append_right (opening_events plan) (events_of plan stripes) line
      (contains_flat (stripe_events plan) stripes it.one.0 facts line it.one.1
      (subst (λ (other : StripeFacts). Contains (stripe_events plan other) line) (sym it.one.2) in_stripe))

-- ---- each pending stripe with a selected cell is told, and each selected blocked record

module _ (plan : FixPlan) (stripes : List StripeFacts) (parity : is_audit plan.scope.mode ≡ false) where
  unsynced_here : (stripe : ℕ) → IsPendingSelected plan stripe → unsynced_events plan stripe ≡ event.Unsynced stripe ∷ []
  unsynced_here stripe it =
      ap₂ (λ (audit synced : Bool). if not audit && not synced && has_selected_cell plan stripe then event.Unsynced stripe ∷ [] else []) parity it.pending
      ∙ ap (λ (selected : Bool). if not false && not false && selected then event.Unsynced stripe ∷ [] else []) it.selected

  -- it is one of those that are looked at
  looked_at : (stripe : ℕ) → IsPendingSelected plan stripe → Contains (stripes_of plan) stripe
  looked_at stripe it =
      let n : ℕ = length plan.table.infos in
      let inside : stripe < n = it.within in
      let at : get_or (range_with_len 0 n) stripe stripe ≡ stripe = get_or-range_with_len 0 n stripe stripe inside ∙ omega arith in
      kept_in (is_looked_at plan) (range_with_len 0 n) stripe (stripe, omega (arith, inside, length-range_with_len 0 n), at)
      (ap (λ (selected : Bool). selected || has_selected_level plan stripe) it.selected)

  pub unsynced_is_told : numbers_of stripes ≡ stripes_of plan → (stripe : ℕ) → IsPendingSelected plan stripe → Contains (check_events plan stripes) (event.Unsynced stripe)
  unsynced_is_told numbers stripe it =
      let among : Contains (numbers_of stripes) stripe = subst (λ (ns : List ℕ). Contains ns stripe) (sym numbers) (looked_at stripe it) in
      let long = length-map stripes (λ (facts : StripeFacts). facts.stripe) in
      let within : among.0 < length stripes = omega (arith, among.1, long) in
      let facts : StripeFacts = get_or stripes among.0 no_facts in
      let number : facts.stripe ≡ stripe = sym (get_or-map (λ (of : StripeFacts). of.stripe) stripes among.0 no_facts stripe within) ∙ among.2 in
      Contains-append_right (opening_events plan) (events_of plan stripes) (event.Unsynced stripe)
      (contains_flat (stripe_events plan) stripes among.0 no_facts (event.Unsynced stripe) within
      (Contains-append_left (unsynced_events plan facts.stripe) _ (event.Unsynced stripe)
      (subst (λ (events : List Event). Contains events (event.Unsynced stripe)) (sym (ap (unsynced_events plan) number ∙ unsynced_here stripe it)) (0, omega arith, refl))))

  blocked_here : (d i : ℕ) → IsSelectedBlocked plan d i → Contains (record_events plan d i) (event.Blocked d i)
  blocked_here d i it =
      let entry = entry_at plan d i in
      let meta = (record_at plan.table.columns d i).meta in
      let audit : Bool = is_audit plan.scope.mode in
      let told : blocked_event audit d i entry ≡ event.Blocked d i ∷ []
      = ap₂ (λ (blocked audits : Bool). if blocked && not audits then event.Blocked d i ∷ [] else []) it.blocked parity in
      let both : record_events plan d i ≡ changed_event d i meta entry ++ blocked_event audit d i entry
      = ap (λ (selected : Bool). if selected then changed_event d i meta entry ++ blocked_event audit d i entry else []) it.selected in
      subst (λ (events : List Event). Contains events (event.Blocked d i)) (sym both)
      (Contains-append_right (changed_event d i meta entry) (blocked_event audit d i entry) (event.Blocked d i)
      (subst (λ (events : List Event). Contains events (event.Blocked d i)) (sym told) (0, omega arith, refl)))

  pub blocked_is_told : (d i : ℕ) → IsSelectedBlocked plan d i → Contains (check_events plan stripes) (event.Blocked d i)
  blocked_is_told d i it =
      let columns : ℕ = length plan.table.columns in
      let records : ℕ = length (records_in plan.table d) in
      let column : d < columns = it.column in
      let within : i < records = it.within in
      let at_d : get_or (range_with_len 0 columns) d 0 ≡ d = get_or-range_with_len 0 columns d 0 column ∙ omega arith in
      let at_i : get_or (range_with_len 0 records) i 0 ≡ i = get_or-range_with_len 0 records i 0 within ∙ omega arith in
      Contains-append_left (opening_events plan) (events_of plan stripes) (event.Blocked d i)
      (contains_flat (column_events plan) (range_with_len 0 columns) d 0 (event.Blocked d i) (omega (arith, column, length-range_with_len 0 columns))
      (subst (λ (k : ℕ). Contains (column_events plan k) (event.Blocked d i)) (sym at_d)
      (contains_flat (record_events plan d) (range_with_len 0 records) i 0 (event.Blocked d i) (omega (arith, within, length-range_with_len 0 records))
      (subst (λ (k : ℕ). Contains (record_events plan d k) (event.Blocked d i)) (sym at_i) (blocked_here d i it)))))
