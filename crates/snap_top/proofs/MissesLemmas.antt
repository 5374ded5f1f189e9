-- The next fix after one that was stopped misses no other cell, and reads each level again, where no count of faults rose in it.
use Rattle.std.proofs.Common.{◌≡◌, ◌⊎◌, ⊎_elim, ℕ, ◌*◌, ◌<◌, ◌≤◌, ◌==◌, ◌&&◌, List, length, get_or, Bool, true, false, if◌then◌else◌, Option, None, Some, refl, sym, ap, ap₂, ◌∙◌, subst, arith}
use Rattle.std.specs.Prelude.{Contains, is_some, not}
use Rattle.std.proofs.lemmas.Bool.{cases_lt}
use Rattle.std.proofs.lemmas.List.{get_or_default, get_or_past}
use Rattle.std.specs.Option.{option_map}
use Rattle.disk_model.specs.Bytes.{read_from}
use Rattle.disk_model.specs.Cause.{RoseBy}
use Rattle.disk_model.specs.Files.{parity_of}
use Rattle.disk_model.specs.Folder.{FolderView}
use Rattle.disk_model.specs.Opener.{folder_held}
use Rattle.disk_model.specs.Tree.{Tree, listing_of}
use Rattle.disk_model.specs.Vault.{VaultView}
use Rattle.file_table.specs.Cells.{cell_in, cell_seen}
use Rattle.file_table.specs.Table.{Column, TableValue, column_at, info_at, is_synced_mark, no_column}
use Rattle.parity_writer.specs.LevelReading.{kept_level}
use Rattle.parity_writer.specs.LevelsValue.{LevelValue, no_level}
use Rattle.parity_writer.specs.declared.levels.LevelRead.TheVariants as here
use Rattle.snap_fix.specs.Again.{IsFoundIn}
use Rattle.snap_fix.specs.Fixing.{facts_of}
use Rattle.snap_fix.specs.Mended.{Mended}
use Rattle.snap_fix.specs.Stopped.{FixStop, IsStop}
use Rattle.snap_sync.specs.Part.{AllTell, NoneRose, tree_at, trees_of}
use Rattle.stripe_examiner.specs.Facts.{StripeFacts, damaged_at, gift_of, is_damaged, is_missing, slot_of}
use Rattle.stripe_examiner.specs.Findings.{is_unread}
use Rattle.stripe_examiner.specs.Known.{AreFacts, IsTried}
use Rattle.stripe_examiner.specs.Looking.{facts_at, no_facts, unread_cells, unread_in}
use Rattle.repair_scope.specs.Plan.{is_audit, is_searched}
use Rattle.stripe_examiner.specs.Place.{starts_of}
use Rattle.stripe_examiner.specs.Present.{IsPresent}
use Rattle.repair_scope.specs.declared.scope.Mode.{Mode}
use Rattle.stripe_reader.specs.Columns.{folder_at}
use Rattle.stripe_reader.specs.Reading.{task_at}
use Rattle.snap_top.specs.NextFix.{IsNextFix}
use Rattle.snap_top.specs.Fix.{FixRun}
use Rattle.snap_top.specs.Began.{IsFixOf}
use Rattle.snap_top.specs.Stands.{TellsAll}
use Rattle.snap_top.specs.Restoring.{EndsFixed}
use Rattle.snap_top.specs.Entry.{Entry, Exit}
use Rattle.snap_top.specs.Stopping.{FindsNoLess, stop_of}
use Rattle.snap_top.specs.Undamaged.{is_read, was_read}
use Rattle.snap_top.proofs.HeldLemmas.{levels_given, list_is, none_risen, rose_since, tells_then, tree_then}
use Rattle.snap_top.proofs.KeptLemmas.{made_in}
use Rattle.snap_top.proofs.OneArrayLemmas.{fix_well}
use Rattle.snap_top.proofs.RestoredLastLemmas.{tree_of_folder}
use Rattle.snap_top.proofs.ScrubGiven.{not_true, one_counted}
use Rattle.snap_top.proofs.StoppingLemmas.{SaysOfStops, stop_is}

-- ---- what a fix found of a column

module _ (before : Entry) (exit : Exit) (fix : FixRun) (is : IsFixOf before exit fix) (tells : TellsAll before) where
  abbrev table : TableValue
  table = fix.plan.table

  told : AllTell fix.folders
  told = subst AllTell (sym is.folders_are) tells.tells_folders

  many : length fix.folders ≡ length fix.plan.table.columns
  many = is.over.columns ∙ ap (λ (t : TableValue). length t.columns) (sym is.over.plan_is.table_is)

  trees_are : trees_of fix.folders ≡ trees_of before.opener.folders
  trees_are = ap trees_of is.folders_are

  found_in : (facts : StripeFacts) → Contains (facts_of fix.stripes) facts → (d : ℕ) → d < length fix.plan.table.columns → IsFoundIn fix.plan d (tree_at (trees_of before.opener.folders) d) facts
  found_in facts one d below =
      let over = is.over in
      let within : d < length fix.folders = omega (arith, below, many) in
      let at = get_or_default (facts_of fix.stripes) one.0 facts no_facts one.1 in
      let here : get_or (facts_of fix.stripes) one.0 no_facts ≡ facts = sym at ∙ one.2 in
      let present : IsPresent fix.plan.table.shape (folder_at fix.listed d) (task_at fix.plan.table (starts_of fix.loaded fix.lists) d facts.stripe) (slot_of facts d)
      = subst (λ (it : StripeFacts). IsPresent fix.plan.table.shape (folder_at fix.listed d) (task_at fix.plan.table (starts_of fix.loaded fix.lists) d it.stripe) (slot_of it d)) here
      (over.finds.cells one.0 no_facts one.1 d below) in
      record {
        folder = folder_at fix.listed d;
        tells = tells_then fix.folders fix.listed fix.lists over.listed told d within;
        holds = tree_then fix.folders fix.listed fix.lists over.listed told d within ∙ ap (λ (ts : List Tree). tree_at ts d) trees_are;
        lists = fix.lists;
        listed = list_is fix.folders fix.listed fix.lists over.listed told d within ∙ ap (λ (ts : List Tree). listing_of (tree_at ts d)) trees_are;
        present = subst (λ (t : TableValue). IsPresent fix.plan.table.shape (folder_at fix.listed d) (task_at fix.plan.table (starts_of t fix.lists) d facts.stripe) (slot_of facts d))
            (sym over.plan_is.table_is) present;
      }

-- what a fix read of a cell did not fail
slot_read : (stripes : List Mended) (mended : Mended) → Contains (facts_of stripes) mended.facts → (olds news : List FolderView) → NoneRose olds news → (d : ℕ) → d < length olds
    → RoseBy (unread_cells d (facts_of stripes)) (folder_at olds d).faults (folder_at news d).faults → is_unread (slot_of mended.facts d).cell.found ≡ false
slot_read stripes mended one olds news none d below rose = not_true (is_unread (slot_of mended.facts d).cell.found) (λ failed. none d below
    (rose_since _ _ _ _ (one_counted failed_at (facts_of stripes) one.0 mended.facts one.1 (ap failed_at one.2 ∙ failed)) (omega arith) rose))
  where
    failed_at : StripeFacts → Bool
    failed_at facts = is_unread (slot_of facts d).cell.found

-- ---- the next fix

and_first : (a b : Bool) → (a && b) ≡ true → a ≡ true
and_first true b is = refl
and_first false b is = absurd (let clash : false ≡ true = is in cc)

-- a level of which something was read was read
some_read : (level : LevelValue) (size : ℕ) (bytes : List ℕ) → level ≡ kept_level size (Some bytes) → is_read level.state ≡ true
some_read level size bytes is = ap (λ (it : LevelValue). is_read it.state) is ∙ by (length bytes == size)
  where
    by : (b : Bool) → is_read (if b then here.Bytes else here.Short) ≡ true
    by true = refl
    by false = refl

module _ (says : SaysOfStops) (before before_then : Entry) (exit exit_then : Exit) (status : ℕ) (fix : FixRun) (is : IsFixOf before exit fix)
    (ends : EndsFixed before_then exit_then status) (next : IsNextFix before exit fix before_then exit_then ends.run) where
  abbrev again : FixRun
  again = ends.run

  tables : again.plan.table ≡ fix.plan.table
  tables = ends.is_fix.over.plan_is.table_is ∙ next.loaded ∙ sym is.over.plan_is.table_is

  modes_same : again.plan.scope.mode ≡ fix.plan.scope.mode
  modes_same = ends.is_fix.over.plan_is.scope.mode_is ∙ sym is.over.plan_is.scope.mode_is

  columns : length again.plan.table.columns ≡ length fix.plan.table.columns
  columns = ap (λ (t : TableValue). length t.columns) tables

  module _ (mended mended_then : Mended) (one : Contains fix.stripes mended) (one_then : Contains again.stripes mended_then) (stripe : mended_then.facts.stripe ≡ mended.facts.stripe) where
    abbrev facts : StripeFacts
    facts = mended.facts

    abbrev facts_then : StripeFacts
    facts_then = mended_then.facts

    is_one : Contains (facts_of fix.stripes) facts
    is_one = made_in (λ (it : Mended). it.facts) fix.stripes mended one

    is_one_then : Contains (facts_of again.stripes) facts_then
    is_one_then = made_in (λ (it : Mended). it.facts) again.stripes mended_then one_then

    its : AreFacts fix.plan facts
    its = subst (AreFacts fix.plan) is_one.2 (is.over.finds.are is_one.0 facts is_one.1)

    its_then : AreFacts again.plan facts_then
    its_then = subst (AreFacts again.plan) is_one_then.2 (ends.is_fix.over.finds.are is_one_then.0 facts_then is_one_then.1)

    -- a cell that was found right is found right again
    right_then : (d : ℕ) → d < length fix.plan.table.columns → damaged_at fix.plan facts d ≡ false → damaged_at again.plan facts_then d ≡ false
    right_then d below right =
        let within : d < length before.opener.folders
        = subst (λ (folders : List FolderView). d < length folders) is.folders_are (omega (arith, below, many before exit fix is next.tells)) in
        let below_then : d < length again.plan.table.columns = omega (arith, below, columns) in
        let stands = next.left d within in
        let stop : FixStop = stop_of fix d (folder_held before.opener d).tree (tree_at (trees_of before_then.opener.folders) d) in
        let stop_is_it : IsStop stop = stop_is says.listed before exit fix d (tree_at (trees_of before_then.opener.folders) d) is stands in
        let found : IsFoundIn stop.plan stop.d stop.first facts
        = subst (λ (tree : Tree). IsFoundIn fix.plan d tree facts) (tree_of_folder before.opener.folders d) (found_in before exit fix is next.tells facts is_one d below) in
        says.again stop again.plan facts facts_then stop_is_it
        (record { are = is.over.finds.are; behind = is.over.behind; numbers = is.over.numbers; one = is_one }) found right
        (record {
          table = tables;
          stripe = stripe;
          found = found_in before_then exit_then again ends.is_fix next.tells_then facts_then is_one_then d below_then;
          came = came_then d below_then;
        })
      where
        came_then : (d : ℕ) → d < length again.plan.table.columns → is_unread (slot_of facts_then d).cell.found ≡ false
        came_then d below_then =
            let folders : d < length again.folders = omega (arith, below_then, many before_then exit_then again ends.is_fix next.tells_then) in
            slot_read again.stripes mended_then is_one_then again.folders again.ended (fix_well before_then exit_then status next.tells_then next.well ends) d folders (ends.unread d below_then)

    -- past the last column no cell is damaged
    none_past : (d : ℕ) → length fix.plan.table.columns ≤ d → damaged_at again.plan facts_then d ≡ false
    none_past d past =
        let column : column_at again.plan.table.columns d ≡ no_column = get_or_past again.plan.table.columns d no_column (omega (arith, past, columns)) in
        ap (λ (c : Column). is_damaged again.plan.table.shape.kind (option_map (cell_seen c) (cell_in c facts_then.stripe)) (slot_of facts_then d)) column

    missed : (d : ℕ) → is_missing again.plan facts_then d ≡ true → is_missing fix.plan facts d ≡ true
    missed d lost = by (damaged_at fix.plan facts d) refl
      where
        damaged_then : damaged_at again.plan facts_then d ≡ true
        damaged_then = and_first (damaged_at again.plan facts_then d) (not (is_some (gift_of facts_then d))) lost

        no_gift : gift_of facts d ≡ None
        no_gift = subst (λ (it : StripeFacts). (k : ℕ) → gift_of it k ≡ None) is_one.2 (is.over.no_gifts is_one.0 facts is_one.1) d

        by : (damaged : Bool) → damaged_at fix.plan facts d ≡ damaged → is_missing fix.plan facts d ≡ true
        by true it = ap₂ (λ (damaged : Bool) (gift : Option (List ℕ)). damaged && not (is_some gift)) it no_gift
        by false it = absurd (⊎_elim
            (λ below. let clash : false ≡ true = sym (right_then d below it) ∙ damaged_then in cc)
            (λ past. let clash : false ≡ true = sym (none_past d past) ∙ damaged_then in cc)
            (cases_lt d (length fix.plan.table.columns)))

    searched_same : is_searched again.plan facts_then.stripe ≡ is_searched fix.plan facts.stripe
    searched_same =
        ap (λ (s : ℕ). is_searched again.plan s) stripe
        ∙ ap₂ (λ (t : TableValue) (m : Mode). is_synced_mark (info_at t.infos facts.stripe).mark && not (is_audit m)) tables modes_same

    level_count : (b : Bool) → IsTried fix.plan facts b → IsTried again.plan facts_then b → length facts_then.levels ≡ length facts.levels
    level_count true a b = b.0 ∙ ap (λ (t : TableValue). t.shape.levels) tables ∙ sym a.0
    level_count false a b = ap (λ (levels : List LevelValue). length levels) (b.1 ∙ sym a.1)

    as_many : length facts_then.levels ≡ length facts.levels
    as_many = level_count (is_searched fix.plan facts.stripe) its.tried (subst (IsTried again.plan facts_then) searched_same its_then.tried)

    read_there : (r : ℕ) → r < length facts.levels → was_read facts_then.levels r ≡ true
    read_there r below =
        let all : List StripeFacts = facts_of again.stripes in
        let size : ℕ = again.plan.table.shape.block_size in
        let v : VaultView = before_then.opener.vault in
        let k : ℕ = is_one_then.0 in
        let here_is : facts_at all k ≡ facts_then = sym (get_or_default all k facts_then no_facts is_one_then.1) ∙ is_one_then.2 in
        let none : unread_in again.readings ≡ 0 = none_risen (unread_in again.readings) v.faults exit_then.after.vault.faults next.well.vault ends.unread_levels in
        let within : r < length (facts_at all k).levels = subst (λ (it : StripeFacts). r < length it.levels) (sym here_is) (omega (arith, below, as_many)) in
        let given : get_or (facts_at all k).levels r no_level ≡ kept_level size (Some (read_from (parity_of v.files r) ((facts_at all k).stripe * size) size))
        = levels_given v size next.tells_then.tells_vault all again.readings ends.is_fix.over.finds.levels none k r is_one_then.1 within in
        ap (λ (it : StripeFacts). was_read it.levels r) (sym here_is)
        ∙ some_read (get_or (facts_at all k).levels r no_level) size (read_from (parity_of v.files r) ((facts_at all k).stripe * size) size) given

    read_again : (r : ℕ) → was_read facts.levels r ≡ true → was_read facts_then.levels r ≡ true
    read_again r read = ⊎_elim
        (λ below. read_there r below)
        (λ past. absurd (let clash : false ≡ true = sym (ap (λ (level : LevelValue). is_read level.state) (get_or_past facts.levels r no_level past)) ∙ read in cc))
        (cases_lt r (length facts.levels))

    pub finds_no_less : FindsNoLess fix again mended mended_then
    finds_no_less = record {
      stripe = stripe;
      columns = columns;
      missing = missed;
      as_many = as_many;
      read = read_again;
    }
