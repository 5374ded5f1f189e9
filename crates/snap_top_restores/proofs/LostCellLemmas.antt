-- What a check tells of an array with synced stripes alone, of which no record is blocked: what a fix would leave is a cell that is lost.
use Rattle.std.proofs.Common.{◌≡◌, ⊎_elim, ℕ, ◌<◌, ◌&&◌, List, [], length, get_or, not, Bool, true, false, None, Some, is_some, refl, sym, ap, ap₂, ◌∙◌, subst, arith}
use Rattle.std.specs.Prelude.{slice_index_or}
use Rattle.std.specs.List.{All, Contains, range_with_len}
use Rattle.std.proofs.lemmas.Bool.{cases_lt}
use Rattle.std.proofs.lemmas.List.{get_or-map, get_or_past}
use Rattle.std.proofs.lemmas.List.FromFn.{get_or-range_with_len, length-range_with_len}
use Rattle.folder_listing.specs.Kept.{ListedFile}
use Rattle.file_table.specs.Cells.{cell_in}
use Rattle.file_table.specs.Table.{Column, TableValue, no_column, no_record, records_in}
use Rattle.file_table.specs.declared.block.Cell.{Cell}
use Rattle.array_setup.specs.declared.ways.Selection.{Selection}
use Rattle.snap_fix.specs.Course.{IsPlan, check_events}
use Rattle.snap_fix.specs.Restored.{IsDamagedCell}
use Rattle.snap_report.specs.Kind.{is_finding, is_left}
use Rattle.snap_report.specs.declared.events.Event.{Event}
use Rattle.snap_report.specs.declared.events.Event.TheVariants as event
use Rattle.stripe_examiner.specs.Facts.{StripeFacts, damaged_at}
use Rattle.stripe_examiner.specs.Showing.{is_unknown, known_block}
use Rattle.stripe_examiner.specs.Known.{AreFacts}
use Rattle.repair_scope.specs.Blocked.{is_blocked}
use Rattle.repair_scope.specs.Plan.{FixPlan, cell_at, column_entries, entries_of, entry_at, entry_in, entry_of, has_selected, is_audit, is_in_scope, is_searched, no_entry, selects_cell}
use Rattle.repair_scope.specs.declared.entry.Entry.{Entry}
use Rattle.repair_scope.specs.declared.scope.Mode.{Mode}
use Rattle.snap_top.specs.Lost.{IsToldLost}
use Rattle.snap_top.proofs.LostEvents.{IsLostIn, lost_is_told, told_is_blocked, told_is_lost, told_is_unsynced}
use Rattle.snap_top_restores.specs.Named.{AllSynced}
use Rattle.snap_top_restores.proofs.CountLemmas.{cell_selected, first_of, second_of}

-- a cell stands in a column of its table
column_of : (plan : FixPlan) (stripe d : ℕ) (cell : Cell) → cell_at plan stripe d ≡ Some cell → d < length plan.table.columns
column_of plan stripe d cell is = ⊎_elim
    (λ below. below)
    (λ past. absurd (let clash : None ≡ Some cell = sym (ap (λ (column : Column). cell_in column stripe) (get_or_past plan.table.columns d no_column past)) ∙ is in cc))
    (cases_lt d (length plan.table.columns))

-- a recovery is tried of a stripe that is synced, where this is no audit
pub searched_of : (plan : FixPlan) (stripe : ℕ) → AllSynced plan.table → stripe < length plan.table.infos → is_audit plan.scope.mode ≡ false → is_searched plan stripe ≡ true
searched_of plan stripe all within audit = ap₂ (λ (synced audits : Bool). synced && not audits) (all stripe within) audit

-- ---- no record is blocked where nothing is listed

pub none_blocked : (mode : Mode) (selection : Selection) (names : List (List ℕ)) (table : TableValue) (lists : List (List ListedFile)) (plan : FixPlan) → IsPlan mode selection names table lists plan
    → ((d : ℕ) → get_or lists d [] ≡ []) → (d i : ℕ) → d < length plan.table.columns → i < length (records_in plan.table d) → (entry_at plan d i).blocked ≡ false
none_blocked mode selection names table lists plan is none d i column within =
    let column_then : d < length table.columns = subst (λ (t : TableValue). d < length t.columns) is.table_is column in
    let within_then : i < length (records_in table d) = subst (λ (t : TableValue). i < length (records_in t d)) is.table_is within in
    let of_column : get_or (entries_of selection names table lists) d [] ≡ column_entries selection names table lists d
    = get_or-map (column_entries selection names table lists) (range_with_len 0 (length table.columns)) d 0 [] (omega (arith, column_then, length-range_with_len 0 (length table.columns)))
    ∙ ap (column_entries selection names table lists) (get_or-range_with_len 0 (length table.columns) d 0 column_then ∙ omega arith) in
    let name : List ℕ = get_or names d [] in
    let of_record : slice_index_or (column_entries selection names table lists d) i no_entry ≡ entry_of selection name (get_or lists d []) (slice_index_or (records_in table d) i no_record)
    = get_or-map (entry_of selection name (get_or lists d [])) (records_in table d) i no_record no_entry within_then in
    ap (λ (entries : List (List Entry)). (entry_in entries d i).blocked) is.entries
    ∙ ap (λ (entries : List Entry). (slice_index_or entries i no_entry).blocked) of_column
    ∙ ap (λ (entry : Entry). entry.blocked) of_record
    ∙ ap (λ (files : List ListedFile). is_blocked files (slice_index_or (records_in table d) i no_record).path) (none d)

-- ---- a cell that is told to be lost

pub record LostCell (plan : FixPlan) (stripes : List StripeFacts) : Type 0 where
  pub facts : StripeFacts
  pub d : ℕ
  pub cell : Cell
  pub is : IsDamagedCell plan stripes facts d cell
  pub told : IsToldLost (check_events plan stripes) facts d cell

-- what a fix leaves is a finding
pub left_found : (it : Event) → is_left it ≡ true → is_finding it ≡ true
left_found (event.Changed disk rec found) is = absurd (let clash : false ≡ true = is in cc)
left_found (event.ChangedBlock stripe disk rec index found got) is = absurd (let clash : false ≡ true = is in cc)
left_found (event.Silent stripe disk rec index recorded found) is = absurd (let clash : false ≡ true = is in cc)
left_found (event.Io stripe disk rec index) is = absurd (let clash : false ≡ true = is in cc)
left_found (event.ParityIo stripe level) is = absurd (let clash : false ≡ true = is in cc)
left_found (event.Parity stripe level) is = absurd (let clash : false ≡ true = is in cc)
left_found (event.Unsynced stripe) is = refl
left_found (event.Lost stripe disk rec index) is = refl
left_found (event.Blocked disk rec) is = refl
left_found (event.Fixed stripe disk rec index) is = absurd (let clash : false ≡ true = is in cc)
left_found (event.FixedParity stripe level) is = absurd (let clash : false ≡ true = is in cc)
left_found (event.Restored disk rec) is = absurd (let clash : false ≡ true = is in cc)
left_found (event.Renamed disk rec) is = absurd (let clash : false ≡ true = is in cc)
left_found (event.NoStamp disk rec) is = absurd (let clash : false ≡ true = is in cc)

module _ (plan : FixPlan) (stripes : List StripeFacts) (parity : is_audit plan.scope.mode ≡ false) where
  lost_cell : (stripe d : ℕ) → IsLostIn plan stripes stripe d → LostCell plan stripes
  lost_cell stripe d it =
      let facts : StripeFacts = it.facts in
      let selected : selects_cell plan facts.stripe d ≡ true = first_of (selects_cell plan facts.stripe d) (is_unknown plan facts d) it.lost in
      let unknown : is_unknown plan facts d ≡ true = second_of (selects_cell plan facts.stripe d) (is_unknown plan facts d) it.lost in
      let found = cell_selected plan d (cell_at plan facts.stripe d) (second_of (is_in_scope plan facts.stripe) (has_selected plan d (cell_at plan facts.stripe d)) selected) in
      let is : IsDamagedCell plan stripes facts d found.0 = record {
        one = it.one;
        column = column_of plan facts.stripe d found.0 found.1;
        cell_is = found.1;
        selected = selected;
        damaged = first_of (damaged_at plan facts d) (not (is_some (known_block plan facts d))) unknown;
      } in
      record { facts = facts; d = d; cell = found.0; is = is; told = lost_is_told plan stripes facts d found.0 is parity it.lost }

  -- what a fix would leave is that, where all stripes are synced and no record is blocked
  pub left_lost : All (AreFacts plan) stripes → AllSynced plan.table → ((d i : ℕ) → d < length plan.table.columns → i < length (records_in plan.table d) → (entry_at plan d i).blocked ≡ false)
      → (it : Event) → is_left it ≡ true → Contains (check_events plan stripes) it → LostCell plan stripes
  left_lost are synced free (event.Changed disk rec found) is told = absurd (let clash : false ≡ true = is in cc)
  left_lost are synced free (event.ChangedBlock stripe disk rec index found got) is told = absurd (let clash : false ≡ true = is in cc)
  left_lost are synced free (event.Silent stripe disk rec index recorded found) is told = absurd (let clash : false ≡ true = is in cc)
  left_lost are synced free (event.Io stripe disk rec index) is told = absurd (let clash : false ≡ true = is in cc)
  left_lost are synced free (event.ParityIo stripe level) is told = absurd (let clash : false ≡ true = is in cc)
  left_lost are synced free (event.Parity stripe level) is told = absurd (let clash : false ≡ true = is in cc)
  left_lost are synced free (event.Unsynced stripe) is told =
      let it = told_is_unsynced plan stripes are stripe told in
      absurd (let clash : true ≡ false = sym (synced stripe it.within) ∙ it.pending in cc)
  left_lost are synced free (event.Lost stripe disk rec index) is told = lost_cell stripe disk (told_is_lost plan stripes stripe disk rec index told)
  left_lost are synced free (event.Blocked disk rec) is told =
      let it = told_is_blocked plan stripes disk rec told in
      absurd (let clash : false ≡ true = sym (free disk rec it.column it.within) ∙ it.blocked in cc)
  left_lost are synced free (event.Fixed stripe disk rec index) is told = absurd (let clash : false ≡ true = is in cc)
  left_lost are synced free (event.FixedParity stripe level) is told = absurd (let clash : false ≡ true = is in cc)
  left_lost are synced free (event.Restored disk rec) is told = absurd (let clash : false ≡ true = is in cc)
  left_lost are synced free (event.Renamed disk rec) is told = absurd (let clash : false ≡ true = is in cc)
  left_lost are synced free (event.NoStamp disk rec) is told = absurd (let clash : false ≡ true = is in cc)
