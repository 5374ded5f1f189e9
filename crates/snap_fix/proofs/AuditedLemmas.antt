-- What an audit finds nothing of.
use Rattle.std.proofs.Common.{◌≡◌, ◌↔◌, ℕ, ◌<◌, ◌&&◌, ◌++◌, List, [], ◌∷◌, length, get_or, Bool, true, false, Option, None, Some, refl, sym, ap, subst, arith}
use Rattle.std.specs.Prelude.{bytes_eq, count_by, not, if◌then◌else◌}
use Rattle.std.specs.List.{All, Contains, flat_map, range_with_len}
use Rattle.std.proofs.lemmas.List.Elements.{All-cons, All-contains, All-contains_itself, All-head, All-nil, All-tail}
use Rattle.std.proofs.lemmas.List.FromFn.{get_or-range_with_len, length-range_with_len}
use Rattle.std.proofs.lemmas.Slice.Eq.{bytes_eq-Decides}
use Rattle.block_hash.specs.declared.Digest16.{Digest16}
use Rattle.disk_model.specs.declared.meta.Meta.{Meta}
use Rattle.file_table.specs.Cells.{CellView, cell_seen}
use Rattle.file_table.specs.Table.{column_at, record_at, records_in}
use Rattle.file_table.specs.declared.block.Cell.{Cell}
use Rattle.file_table.proofs.CellInLemmas.{cell_in-Some}
use Rattle.parity_writer.specs.LevelsValue.{LevelValue}
use Rattle.snap_report.specs.Kind.{is_finding}
use Rattle.snap_report.specs.declared.events.Event.{Event}
use Rattle.snap_report.specs.declared.events.Event.TheVariants.{Changed, Blocked, Unsynced, Silent, Io}
use Rattle.stripe_reader.specs.SlotValue.{SlotValue}
use Rattle.repair_scope.specs.declared.entry.Entry.{Entry}
use Rattle.repair_scope.specs.declared.scope.Mode.TheVariants.{Audit}
use Rattle.stripe_examiner.specs.Counts.{at_most}
use Rattle.stripe_examiner.specs.Facts.{StripeFacts, slot_of}
use Rattle.stripe_examiner.specs.Findings.{all_cell_events, all_level_events, all_level_io_events, all_lost_events, cell_events, column_events, events_of, file_events, is_lost, is_unread, lost_event, lost_events, opening_events, read_event, read_events, record_events, silent_event, stripe_events, unsynced_events}
use Rattle.stripe_examiner.specs.Known.{AreFacts, IsTried}
use Rattle.repair_scope.specs.Plan.{FixPlan, cell_at, entry_at, has_selected, has_selected_cell, is_audit, is_in_scope, is_synced, selects_cell}
use Rattle.repair_scope.specs.Selected.{is_as_recorded}
use Rattle.snap_fix.specs.Audited.{FindsNothing, IsReadRight}
use Rattle.snap_fix.specs.Course.{check_events}
use Rattle.snap_fix.proofs.FixCountLemmas.{count_append}

-- ---- lists of events without a finding

abbrev pub FindsNone : List Event → Type 0
FindsNone events = count_by is_finding events ≡ 0

none_left : (xs ys : List Event) → FindsNone (xs ++ ys) → FindsNone xs
none_left xs ys none = omega (arith, none, count_append is_finding xs ys)

none_right : (xs ys : List Event) → FindsNone (xs ++ ys) → FindsNone ys
none_right xs ys none = omega (arith, none, count_append is_finding xs ys)

none_both : (xs ys : List Event) → FindsNone xs → FindsNone ys → FindsNone (xs ++ ys)
none_both xs ys one other = omega (arith, one, other, count_append is_finding xs ys)

module _ {X : Type 0} (f : X → List Event) where
  abbrev Quiet : X → Type 0
  Quiet x = FindsNone (f x)

  none_flat : (xs : List X) → All Quiet xs → FindsNone (flat_map f xs)
  none_flat [] all = refl
  none_flat (x ∷ xs) all = none_both (f x) (flat_map f xs) (All-head Quiet x xs all) (none_flat xs (All-tail Quiet x xs all))

  flat_none : (xs : List X) → FindsNone (flat_map f xs) → All Quiet xs
  flat_none [] none = All-nil Quiet
  flat_none (x ∷ xs) none = All-cons Quiet x xs (none_left (f x) (flat_map f xs) none) (flat_none xs (none_right (f x) (flat_map f xs) none))

module _ (f : ℕ → List Event) (n : ℕ) where
  none_flat_range : ((k : ℕ) → k < n → FindsNone (f k)) → FindsNone (flat_map f (range_with_len 0 n))
  none_flat_range each = none_flat f (range_with_len 0 n) (λ k none inside.
      let less : k < n = omega (arith, inside, length-range_with_len 0 n) in
      let same : get_or (range_with_len 0 n) k none ≡ k = omega (arith, get_or-range_with_len 0 n k none less) in
      subst (λ (m : ℕ). FindsNone (f m)) (sym same) (each k less))

  flat_range_none : FindsNone (flat_map f (range_with_len 0 n)) → (k : ℕ) → k < n → FindsNone (f k)
  flat_range_none none k less =
      let same : get_or (range_with_len 0 n) k 0 ≡ k = omega (arith, get_or-range_with_len 0 n k 0 less) in
      subst (λ (m : ℕ). FindsNone (f m)) same (flat_none f (range_with_len 0 n) none k 0 (omega (arith, less, length-range_with_len 0 n)))

-- ---- a record

module _ (d i : ℕ) (meta : Meta) (entry : Entry) where
  abbrev told_by : Bool → Bool → List Event
  told_by selected same = if selected then (if same then [] else Changed d i entry.listed ∷ []) ++ (if entry.blocked && not true then Blocked d i ∷ [] else []) else []

  not_blocked : (blocked : Bool) → FindsNone (if blocked && not true then Blocked d i ∷ [] else [])
  not_blocked true = refl
  not_blocked false = refl

  file_none : (entry.selected ≡ true → is_as_recorded meta entry.listed ≡ true) → FindsNone (file_events true d i meta entry)
  file_none right = by entry.selected (is_as_recorded meta entry.listed) right
    where
      by : (selected same : Bool) → (selected ≡ true → same ≡ true) → FindsNone (told_by selected same)
      by false same right = refl
      by true true right = not_blocked entry.blocked
      by true false right = let clash : false ≡ true = right refl in absurd cc

  none_file : FindsNone (file_events true d i meta entry) → entry.selected ≡ true → is_as_recorded meta entry.listed ≡ true
  none_file none = by entry.selected (is_as_recorded meta entry.listed) none
    where
      by : (selected same : Bool) → FindsNone (told_by selected same) → selected ≡ true → same ≡ true
      by false same none is = absurd cc
      by true true none is = refl
      by true false none is =
          let clash : count_by is_finding (Changed d i entry.listed ∷ []) ≡ 0 = none_left (Changed d i entry.listed ∷ []) (if entry.blocked && not true then Blocked d i ∷ [] else []) none in
          let one : 1 ≡ 0 = clash in
          absurd cc

-- ---- the reading of a cell

module _ (stripe d : ℕ) (cell : Cell) (seen : CellView) (entry : Entry) (slot : SlotValue) where
  abbrev IsSame : Type 0
  IsSame = (recorded came : Digest16) → seen.hash ≡ Some recorded → slot.digest ≡ Some came → came ≡ recorded

  abbrev read_by : Bool → Bool → List Event
  read_by unread same = if unread then Io stripe d cell.rec cell.index ∷ [] else if same then silent_event stripe d cell seen.hash slot.digest else []

  read_none : is_unread slot.cell.found ≡ false → IsSame → FindsNone (read_event stripe d cell seen entry slot)
  read_none answered right = by (is_unread slot.cell.found) (is_as_recorded seen.meta entry.listed) answered
    where
      silent : (recorded came : Option Digest16) → seen.hash ≡ recorded → slot.digest ≡ came → FindsNone (silent_event stripe d cell recorded came)
      silent (Some recorded) (Some came) one two =
          subst (λ (same : Bool). FindsNone (if same then [] else Silent stripe d cell.rec cell.index recorded came ∷ []))
          (sym ((bytes_eq-Decides recorded.0 came.0).1 (ap (λ (digest : Digest16). digest.0) (sym (right recorded came one two))))) refl
      silent (Some recorded) None one two = refl
      silent None came one two = refl

      by : (unread same : Bool) → unread ≡ false → FindsNone (read_by unread same)
      by true same is = absurd cc
      by false true is = silent seen.hash slot.digest refl refl
      by false false is = refl

  same_hash : (recorded came : Digest16) → FindsNone (silent_event stripe d cell (Some recorded) (Some came)) → came ≡ recorded
  same_hash recorded came none = by (bytes_eq recorded.0 came.0) refl none
    where
      by : (same : Bool) → bytes_eq recorded.0 came.0 ≡ same → FindsNone (if same then [] else Silent stripe d cell.rec cell.index recorded came ∷ []) → came ≡ recorded
      by true is none = ap (λ (bytes : List ℕ). (let digest : Digest16 = record { 0 = bytes } in digest)) (sym ((bytes_eq-Decides recorded.0 came.0).0 is))
      by false is none = let one : 1 ≡ 0 = none in absurd cc

  none_read : FindsNone (read_event stripe d cell seen entry slot) → is_as_recorded seen.meta entry.listed ≡ true → (is_unread slot.cell.found ≡ false) × IsSame
  none_read none listed = by (is_unread slot.cell.found) refl (subst (λ (same : Bool). FindsNone (read_by (is_unread slot.cell.found) same)) listed none)
    where
      by : (unread : Bool) → is_unread slot.cell.found ≡ unread → FindsNone (read_by unread true) → (is_unread slot.cell.found ≡ false) × IsSame
      by true is none = let one : 1 ≡ 0 = none in absurd cc
      by false is none = (
        is,
        λ recorded came one two. same_hash recorded came
            (subst (λ (digest : Option Digest16). FindsNone (silent_event stripe d cell (Some recorded) digest)) two
            (subst (λ (hash : Option Digest16). FindsNone (silent_event stripe d cell hash slot.digest)) one none)),
      )

-- ---- what is told of parity, which an audit does not look at

untold : (audit other : Bool) (events : List Event) → audit ≡ true → FindsNone (if not audit && other then events else [])
untold true other events is = refl
untold false other events is = absurd cc

untold_stripe : (audit synced selected : Bool) (stripe : ℕ) → audit ≡ true → FindsNone (if not audit && not synced && selected then Unsynced stripe ∷ [] else [])
untold_stripe true synced selected stripe is = refl
untold_stripe false synced selected stripe is = absurd cc

unsearched : (synced audit : Bool) → audit ≡ true → (synced && not audit) ≡ false
unsearched true true is = refl
unsearched false true is = refl
unsearched synced false is = absurd cc

module _ (plan : FixPlan) (stripes : List StripeFacts) (audit : plan.scope.mode ≡ Audit) (are : All (AreFacts plan) stripes) where
  is : is_audit plan.scope.mode ≡ true
  is = ap is_audit audit

  no_levels : (facts : StripeFacts) → AreFacts plan facts → facts.levels ≡ []
  no_levels facts it = (subst (IsTried plan facts) (unsearched (is_synced plan facts.stripe) (is_audit plan.scope.mode) is) it.tried).1

  -- what is told of parity
  abbrev parity_events : StripeFacts → List Event
  parity_events facts =
      all_level_io_events plan facts.stripe facts.levels ++ (all_level_events plan facts.stripe facts.levels facts.row
      ++ all_lost_events plan facts.stripe (is_lost plan facts))

  no_parity : (facts : StripeFacts) → AreFacts plan facts → FindsNone (parity_events facts)
  no_parity facts it =
      let lost = all_lost_events plan facts.stripe (is_lost plan facts) in
      none_both (all_level_io_events plan facts.stripe facts.levels) (all_level_events plan facts.stripe facts.levels facts.row ++ lost)
      (subst (λ (levels : List LevelValue). FindsNone (all_level_io_events plan facts.stripe levels)) (sym (no_levels facts it)) refl)
      (none_both (all_level_events plan facts.stripe facts.levels facts.row) lost
      (subst (λ (levels : List LevelValue). FindsNone (all_level_events plan facts.stripe levels facts.row)) (sym (no_levels facts it)) refl)
      (none_flat_range (λ (d : ℕ). lost_events plan facts.stripe (is_lost plan facts d) d) (length plan.table.columns)
      (λ d below. untold (is_audit plan.scope.mode) (is_lost plan facts d) (lost_event facts.stripe d (cell_at plan facts.stripe d)) is)))

  no_pending : (facts : StripeFacts) → FindsNone (unsynced_events plan facts.stripe)
  no_pending facts = untold_stripe (is_audit plan.scope.mode) (is_synced plan facts.stripe) (has_selected_cell plan facts.stripe) facts.stripe is

  -- ---- from what was seen

  module _ (nothing : FindsNothing plan stripes) where
    record_none : (d i : ℕ) → d < length plan.table.columns → i < length (records_in plan.table d) → FindsNone (record_events plan d i)
    record_none d i column inside =
        subst (λ (audit : Bool). FindsNone (file_events audit d i (record_at plan.table.columns d i).meta (entry_at plan d i))) (sym is)
        (file_none d i (record_at plan.table.columns d i).meta (entry_at plan d i) (nothing.listed d i column inside))

    opening_none : FindsNone (opening_events plan)
    opening_none = none_flat_range (column_events plan) (length plan.table.columns)
        (λ d column. none_flat_range (record_events plan d) (length (records_in plan.table d)) (λ i inside. record_none d i column inside))

    cell_none : (facts : StripeFacts) (d : ℕ) → Contains stripes facts → d < length plan.table.columns → FindsNone (cell_events plan facts.stripe (slot_of facts d) d)
    cell_none facts d one column = by (selects_cell plan facts.stripe d) (cell_at plan facts.stripe d) refl refl
      where
        by : (selected : Bool) (cell : Option Cell) → selects_cell plan facts.stripe d ≡ selected → cell_at plan facts.stripe d ≡ cell
            → FindsNone (if selected then read_events plan facts.stripe (slot_of facts d) d cell else [])
        by false cell selected here = refl
        by true None selected here = refl
        by true (Some cell) selected here =
            let right = nothing.read facts d cell one column here selected in
            read_none facts.stripe d cell (cell_seen (column_at plan.table.columns d) cell) (entry_at plan d cell.rec) (slot_of facts d) right.answered right.right

    stripe_none : (facts : StripeFacts) → Contains stripes facts → FindsNone (stripe_events plan facts)
    stripe_none facts one =
        none_both (unsynced_events plan facts.stripe) (all_cell_events plan facts.stripe facts.slots ++ parity_events facts) (no_pending facts)
        (none_both (all_cell_events plan facts.stripe facts.slots) (parity_events facts)
        (none_flat_range (λ (d : ℕ). cell_events plan facts.stripe (slot_of facts d) d) (length plan.table.columns) (λ d column. cell_none facts d one column))
        (no_parity facts (All-contains (AreFacts plan) stripes facts are one)))

    none_of_nothing : FindsNone (check_events plan stripes)
    none_of_nothing = none_both (opening_events plan) (events_of plan stripes) opening_none
        (none_flat (stripe_events plan) stripes (λ k none inside. stripe_none (get_or stripes k none) (All-contains_itself stripes k none inside)))

  -- ---- and back

  module _ (none : FindsNone (check_events plan stripes)) where
    listed_right : (d i : ℕ) → d < length plan.table.columns → i < length (records_in plan.table d) → (entry_at plan d i).selected ≡ true
        → is_as_recorded (record_at plan.table.columns d i).meta (entry_at plan d i).listed ≡ true
    listed_right d i column inside =
        let opening = none_left (opening_events plan) (events_of plan stripes) none in
        let of_column = flat_range_none (column_events plan) (length plan.table.columns) opening d column in
        let of_record = flat_range_none (record_events plan d) (length (records_in plan.table d)) of_column i inside in
        none_file d i (record_at plan.table.columns d i).meta (entry_at plan d i)
        (subst (λ (audit : Bool). FindsNone (file_events audit d i (record_at plan.table.columns d i).meta (entry_at plan d i))) is of_record)

    read_right : (facts : StripeFacts) (d : ℕ) (cell : Cell) → Contains stripes facts → d < length plan.table.columns
        → cell_at plan facts.stripe d ≡ Some cell → selects_cell plan facts.stripe d ≡ true → IsReadRight plan facts d cell
    read_right facts d cell one column here selected =
        let told = none_right (opening_events plan) (events_of plan stripes) none in
        let of_stripe : FindsNone (stripe_events plan facts) = All-contains (λ (it : StripeFacts). FindsNone (stripe_events plan it)) stripes facts (flat_none (stripe_events plan) stripes told) one in
        let cells : FindsNone (all_cell_events plan facts.stripe facts.slots) =
        none_left (all_cell_events plan facts.stripe facts.slots) (parity_events facts)
        (none_right (unsynced_events plan facts.stripe) (all_cell_events plan facts.stripe facts.slots ++ parity_events facts) of_stripe) in
        let of_cell = flat_range_none (λ (k : ℕ). cell_events plan facts.stripe (slot_of facts k) k) (length plan.table.columns) cells d column in
        let of_read : FindsNone (read_events plan facts.stripe (slot_of facts d) d (Some cell)) =
        subst (λ (found : Option Cell). FindsNone (read_events plan facts.stripe (slot_of facts d) d found)) here
        (subst (λ (b : Bool). FindsNone (if b then read_events plan facts.stripe (slot_of facts d) d (cell_at plan facts.stripe d) else [])) selected of_cell) in
        let at = cell_in-Some (column_at plan.table.columns d) facts.stripe cell here in
        let parts = none_read facts.stripe d cell (cell_seen (column_at plan.table.columns d) cell) (entry_at plan d cell.rec) (slot_of facts d) of_read
        (listed_right d cell.rec column at.within (selected_entry facts d cell here selected)) in
        record { answered = parts.0; right = parts.1 }
      where
        second : (scope entry : Bool) → (scope && entry) ≡ true → entry ≡ true
        second true entry is = is
        second false entry is = absurd cc

        selected_entry : (facts : StripeFacts) (d : ℕ) (cell : Cell) → cell_at plan facts.stripe d ≡ Some cell → selects_cell plan facts.stripe d ≡ true → (entry_at plan d cell.rec).selected ≡ true
        selected_entry facts d cell here selected =
            second (is_in_scope plan facts.stripe) (entry_at plan d cell.rec).selected
            (subst (λ (found : Option Cell). (is_in_scope plan facts.stripe && has_selected plan d found) ≡ true) here selected)

    nothing_of_none : FindsNothing plan stripes
    nothing_of_none = record { listed = listed_right; read = read_right }

  pub audit_finds_nothing : count_by is_finding (check_events plan stripes) ≡ 0 ↔ FindsNothing plan stripes
  audit_finds_nothing = (nothing_of_none, none_of_nothing)

-- a count that stays at the greatest u64 is none exactly where there is none
pub capped : {P : Type 0} {found count : ℕ} → (count ≡ 0 ↔ P) → found ≡ at_most count → (found ≡ 0 ↔ P)
capped both is = (λ none. both.0 (omega (arith, is, none)), λ holds. (let none = both.1 holds in omega (arith, is, none)))
