-- A sync over content, in which nothing failed, is one that surely ends well.
use Rattle.std.proofs.Common.{◌≡◌, ◌⊎◌, inl, inr, ⊎_elim, ℕ, ◌<◌, ◌≤◌, List, length, get_or, map, take, true, false, IsTrue, Option, None, Some, Result, Ok, IfOk, refl, sym, ap, ◌∙◌, subst, arith}
use Rattle.std.proofs.lemmas.List.{ext_get_or}
use Rattle.folder_listing.specs.Kept.{ListedFile, kept_lists}
use Rattle.array_scan.specs.Layout.{all_sorted}
use Rattle.folder_listing.specs.Listings.{ListsAll}
use Rattle.array_scan.specs.Refusals.{IsCause, refusal}
use Rattle.array_scan.specs.declared.fault.ScanFault.{ScanFault}
use Rattle.array_scan.specs.declared.fault.ScanFault.TheVariants as scans
use Rattle.content_file.specs.Load.{IsUseless, Loads, LoadsTable}
use Rattle.content_file.specs.Spelling.{IsContent, spelling}
use Rattle.disk_model.specs.Cause.{Rose}
use Rattle.disk_model.specs.Files.{Files, content_of}
use Rattle.disk_model.specs.Folder.{FolderView, quiet_folder}
use Rattle.disk_model.specs.Opener.{OpenerView}
use Rattle.disk_model.specs.Sink.{SinkView}
use Rattle.disk_model.specs.Vault.{VaultState, VaultView, copies_of, state_of}
use Rattle.disk_memory.specs.Vault.{VaultValue, view_of as opened_view}
use Rattle.file_table.specs.Table.{TableValue, records_in}
use Rattle.snap_config.specs.Config.{read_setup}
use Rattle.array_setup.specs.Setup.{SetupValue}
use Rattle.snap_config.specs.declared.options.Command.{Command}
use Rattle.snap_config.specs.declared.options.Command.TheVariants as commands
use Rattle.snap_config.specs.declared.options.Options.{Options}
use Rattle.array_setup.specs.declared.ways.SyncWay.{SyncWay}
use Rattle.snap_report.specs.Answer.{status_of as answer_status}
use Rattle.snap_report.specs.declared.answer.Answer.{Answer}
use Rattle.snap_report.specs.declared.answer.Answer.TheVariants as answers
use Rattle.snap_report.specs.declared.answer.RunFault.TheVariants as runs
use Rattle.snap_report.specs.declared.events.Event.{Event}
use Rattle.snap_sync.specs.Beginning.{RefusesLayout}
use Rattle.snap_sync.specs.Part.{AllTell}
use Rattle.snap_top.specs.Unbroken.{held_vault, left_vault, NothingRose}
use Rattle.snap_top.specs.Array.{Matches}
use Rattle.snap_top.specs.Complete.{AreHeld, HasContentOrNone, IsSmooth, IsUnrefused, MayBegin}
use Rattle.snap_top.specs.Does.{DoesCommand}
use Rattle.snap_top.specs.Ended.{ByStatus}
use Rattle.snap_top.specs.Known.{unknown_in}
use Rattle.snap_top.specs.Levels.{said_by}
use Rattle.snap_top.specs.Loading.{Loading, BeginsWith, LoadsFrom}
use Rattle.snap_top.specs.Stands.{TellsAll}
use Rattle.snap_top.specs.Asked.{asked_by, WorksOnArray}
use Rattle.snap_top.specs.RunOf.{RunOf}
use Rattle.snap_top.specs.Run.{HasAccount, IsAnswered, IsRun}
use Rattle.snap_top.specs.Entry.{Entry, Exit}
use Rattle.snap_top.specs.Standing.{BeginsOver, Standing, after_of, before_of, nothing_synced}
use Rattle.snap_top.specs.Sync.{HoldsNoContent, IsFirstContent}
use Rattle.snap_top.specs.Syncing.{SyncEnds, SyncsBy}
use Rattle.snap_top.specs.Task.{Left, Task}
use Rattle.snap_top.specs.Did.{Did}
use Rattle.snap_top.specs.Views.{World, folder_at, view_of, world_of}
use Rattle.snap_top.specs.declared.end.Ending.TheVariants.{Answered}
use Rattle.snap_top.proofs.AskedLemmas.{command_asked, setup_read, unfailed}
use Rattle.snap_top.proofs.CompleteLemmas.{same_ok}
use Rattle.snap_top.proofs.EndedLemmas.{goes_to_its_end}
use Rattle.snap_top.proofs.HeldLemmas.{lists_same}
use Rattle.snap_top.proofs.OfSyncLemmas.{start_folders, table_loading}
use Rattle.snap_top.proofs.ResumeLemmas.{begins_same}
use Rattle.snap_top.proofs.SyncedLemmas.{OneTable}
use Rattle.snap_top_histories.specs.Lived.{AskForSync, RunsOver, files_seen, standing_of}
use Rattle.snap_top_histories.specs.Repeated.{are_calm}
use Rattle.snap_top_histories.proofs.RepeatedLemmas.{calm_at, few_is, nothing_rose}
use Rattle.snap_top_histories.proofs.ResumedLemmas.{none_rose, not_risen}
use Rattle.snap_top_histories.proofs.SeenLemmas.{contents_seen}
use Rattle.snap_top_instances.specs.Asked.{AsksFor, plain_sync}
use Rattle.snap_top_instances.specs.Smooth.{HasRecord, IsSmoothSync}
use Rattle.snap_top_instances.specs.Told.{RunsTold}

-- ---- the first copy that is a content file

pub useless_holds_none : (v : VaultView) (copy : ℕ) → IsUseless v copy → HoldsNoContent v.files copy
useless_holds_none v copy (inl none) bytes is content = let clash : None ≡ Some bytes = sym none ∙ is in cc
useless_holds_none v copy (inr damaged) bytes is content =
    let both : Some damaged.bytes ≡ Some bytes = sym damaged.held ∙ is in
    let same : damaged.bytes ≡ bytes = cc in
    damaged.damaged (subst IsContent (sym same) content)

-- what was loaded is that, if no call failed
pub first_content : (old new : VaultView) (table : TableValue) → IsTrue old.tells → LoadsTable old new table → new.faults ≡ 0 → IsFirstContent (copies_of old) old.files table
first_content old new table tells loads calm = record {
  copy = loads.copy;
  within = loads.within;
  valid = loads.valid;
  spells = loads.held tells;
  first = λ k below. ⊎_elim (λ useless. useless_holds_none old k useless) (λ failed. absurd (not_risen old.faults new.faults calm failed.rose)) (loads.earlier tells k below);
}

-- a record of the first disk was loaded
pub record_loaded : {E : Type 0} (old new : VaultView) (result : Result (Option TableValue) E) (held : Option TableValue) (table : TableValue) → IsTrue old.tells → IfOk result (Loads old new)
    → result ≡ Ok held → held ≡ Some table → new.faults ≡ 0 → 0 < length (records_in table 0) → HasRecord old
record_loaded {E} old new result held table tells loads is there calm some =
    let of_held : Loads old new held = subst (λ (r : Result (Option TableValue) E). IfOk r (Loads old new)) is loads in
    record {
      table = table;
      content = first_content old new table tells (subst (λ (it : Option TableValue). Loads old new it) there of_held) calm;
      some = some;
    }

-- of two vaults with the same copies
pub content_by : (copies copies_then : ℕ) (files others : Files) (table : TableValue) → copies ≡ copies_then → others.contents ≡ files.contents → IsFirstContent copies files table → IsFirstContent copies_then others table
content_by copies copies_then files others table many same first = record {
  copy = first.copy;
  within = subst (λ (n : ℕ). first.copy < n) many first.within;
  valid = first.valid;
  spells = ap (λ (contents : List (Option (List ℕ))). get_or contents first.copy None) same ∙ first.spells;
  first = λ k less bytes is. first.first k less bytes (ap (λ (contents : List (Option (List ℕ))). get_or contents k None) (sym same) ∙ is);
}

-- ---- a layout that is not refused

memory_alone : (refused : Option ScanFault) (fault : ScanFault) → refused ≡ None → IsCause refused fault → fault ≡ scans.Memory
memory_alone refused scans.Memory none cause = refl
memory_alone refused (scans.Zeroed d rec) none cause = absurd (let clash : None ≡ Some (scans.Zeroed d rec) = sym none ∙ cause in cc)
memory_alone refused (scans.Emptied d) none cause = absurd (let clash : None ≡ Some (scans.Emptied d) = sym none ∙ cause in cc)
memory_alone refused (scans.Full blocks files) none cause = absurd (let clash : None ≡ Some (scans.Full blocks files) = sym none ∙ cause in cc)

abbrev refused_by : SyncWay → TableValue → SetupValue → List (List ListedFile) → Option ScanFault
refused_by way table setup lists = refusal way.force_zero way.force_empty table (all_sorted table (kept_lists setup lists))

refused_same : (way way_then : SyncWay) (table table_then : TableValue) (setup setup_then : SetupValue) (lists lists_then : List (List ListedFile)) → way ≡ way_then → table ≡ table_then → setup ≡ setup_then
    → lists ≡ lists_then → refused_by way table setup lists ≡ refused_by way_then table_then setup_then lists_then
refused_same way way_then table table_then setup setup_then lists lists_then ways tables setups are =
    ap (λ (w : SyncWay). refused_by w table setup lists) ways
    ∙ ap (λ (t : TableValue). refused_by way_then t setup lists) tables
    ∙ ap (λ (s : SetupValue). refused_by way_then table_then s lists) setups
    ∙ ap (λ (ls : List (List ListedFile)). refused_by way_then table_then setup_then ls) are

same_way : (one other : SyncWay) → commands.Sync one ≡ commands.Sync other → one ≡ other
same_way one other is = cc

-- ---- what was loaded of content

module _ (one_table : OneTable) (given mid : VaultState) (tells : IsTrue given.tells) (calm : mid.faults ≡ 0) (table : TableValue) (content : IsFirstContent (copies_of (view_of given)) given.files table) where
  same_content : (other : TableValue) → IsFirstContent (copies_of (view_of given)) given.files other → (setup : SetupValue) (seed : List ℕ) → other ≡ table
  same_content other is setup seed = begins_same one_table setup seed (copies_of (view_of given)) given.files other table (inl is) (inl content)

  loaded_same : (setup : SetupValue) (seed : List ℕ) (loaded : Option TableValue) (begun_with : TableValue) → LoadsFrom given mid loaded → BeginsWith setup seed loaded begun_with
      → (begun_with ≡ table) × Matches setup begun_with
  loaded_same setup seed None begun_with loads begins = absurd (let clash : None ≡ Some (spelling table) = sym (loads.none tells content.copy content.within) ∙ content.spells in cc)
  loaded_same setup seed (Some it) begun_with loads begins = (
    begins.0 ∙ same_content it (first_content (view_of given) (view_of mid) it tells loads calm) setup seed,
    subst (Matches setup) (sym begins.0) begins.1,
  )

-- ---- a sync that was answered for

ends_low : (answer : Answer) (task : Task) (way : SyncWay) (table : TableValue) (before after : World) (left : Left) (did : Did) → answer_status answer ≤ 1 → SyncsBy answer task way table before after left did
    → SyncEnds task way table before after left did
ends_low answers.Clean task way table before after left did low does = does
ends_low answers.Found task way table before after left did low does = does
ends_low answers.OutputFailed task way table before after left did low does = does
ends_low (answers.Zeroed disk rec) task way table before after left did low does = absurd (omega (arith, low))
ends_low (answers.Emptied disk) task way table before after left did low does = absurd (omega (arith, low))
ends_low (answers.Full blocks files) task way table before after left did low does = absurd (omega (arith, low))
ends_low (answers.Broken (runs.Folder disk)) task way table before after left did low does = absurd (omega (arith, low))
ends_low (answers.Broken runs.Vault) task way table before after left did low does = absurd (omega (arith, low))
ends_low (answers.Broken runs.Memory) task way table before after left did low does = absurd (omega (arith, low))

-- of no object the count of faults is above nothing
pub record IsCalm (exit : Exit) : Type 0 where
  pub opener : exit.opener.faults ≡ 0
  pub out : exit.after.out.faults ≡ 0
  pub vault : exit.after.vault.faults ≡ 0
  pub folders : (d : ℕ) → (folder_at exit.after.folders d).faults ≡ 0

module _ (one_table : OneTable) (before : Entry) (exit : Exit) (tells : TellsAll before) (calm : IsCalm exit) (asked : Options) (words : asked_by before.texts ≡ Ok asked) (way : SyncWay)
    (command_is : asked.command ≡ commands.Sync way) (setup : SetupValue) (says : read_setup (take 1048577 before.opener.config) asked.log ≡ Ok setup)
    (table : TableValue) (content : IsFirstContent (copies_of before.opener.vault) before.opener.vault.files table) where
  abbrev held : VaultState
  held = state_of before.opener.vault

  abbrev left_of : VaultState
  left_of = state_of exit.after.vault

  module _ (setup_ran : SetupValue) (answer : Answer) (named : Option TableValue) (told : List Event) (ran : IsRun before exit setup_ran (Answered answer named) told) (low : answer_status answer ≤ 1) where
    abbrev after : World
    after = world_of exit.after

    abbrev left : Left
    left = record { answer = answer; named = named; counted = ran.goes.0; told = told }

    abbrev one : IsAnswered ran.task ran.given after left ran.did
    one = ran.goes.1

    setups : ran.task.setup ≡ setup
    setups = ran.setup_is
        ∙ same_ok (read_setup (take 1048577 before.opener.config) asked.log) setup_ran setup (setup_read before tells.tells asked words ran.task.command ran.task.readers setup_ran ran.is_given.configured) says

    ends : SyncEnds ran.task way one.table one.start after left ran.did
    ends =
        let command : ran.task.command ≡ commands.Sync way = command_asked before tells.tells asked words ran.task.command ran.task.readers setup_ran ran.is_given.configured ∙ command_is in
        ends_low answer ran.task way one.table one.start after left ran.did low (subst (λ (c : Command). DoesCommand c ran.task one.table one.start after left ran.did) command one.does)

    table_same : (one.table ≡ table) × Matches setup table
    table_same =
        let loading : Loading before exit ran.task.setup one.table = table_loading before exit tells.tells tells.tells_vault setup_ran (Answered answer named) told ran left one ends.course.vault.calls in
        let later : loading.at.faults ≤ exit.after.vault.faults = loading.later.goes_on.later in
        let none : loading.at.faults ≡ 0 = omega (arith, later, calm.vault) in
        let both = loaded_same one_table held loading.at tells.tells_vault none table content ran.task.setup before.seed loading.loaded one.table loading.loads loading.begins in
        (both.0, subst (λ (t : TableValue). Matches setup t) both.0 (subst (λ (s : SetupValue). Matches s one.table) setups both.1))

    folders_same : (folders : List FolderView) → AreHeld before setup folders → folders ≡ before.opener.folders
    folders_same folders held_are =
        let dirs : length setup.dirs ≡ length setup_ran.dirs = ap (λ (s : SetupValue). length s.dirs) (sym setups ∙ ran.setup_is) in
        let many = ran.is_given.just tells.tells in
        let columns = ran.is_given.columns in
        let wide = held_are.0 in
        ext_get_or (quiet_folder 0 false) folders before.opener.folders (omega (arith, dirs, many, columns, wide)) held_are.1

    unrefused : IsUnrefused before exit asked.command setup
    unrefused way_then table_then folders fault command may held_are refuses =
        let laid = ends.course.laid in
        let both = loaded_same one_table held left_of tells.tells_vault calm.vault table content setup before.seed may.loaded table_then may.loads may.begins in
        let listed_then : ListsAll before.opener.folders exit.after.folders refuses.lists
        = subst (λ (fs : List FolderView). ListsAll fs exit.after.folders refuses.lists) (folders_same folders held_are) refuses.listed in
        let listed : ListsAll before.opener.folders ends.course.listed laid.lists
        = subst (λ (fs : List FolderView). ListsAll fs ends.course.listed laid.lists)
        (start_folders before exit tells.tells tells.tells_vault setup_ran (Answered answer named) told ran left one) laid.listed in
        let lists : refuses.lists ≡ laid.lists
        = lists_same before.opener.folders exit.after.folders before.opener.folders ends.course.listed refuses.lists laid.lists listed_then listed tells.tells_folders tells.tells_folders refl in
        memory_alone (refused_by way_then table_then setup refuses.lists) fault
        (refused_same way_then way table_then one.table setup ran.task.setup refuses.lists laid.lists (same_way way_then way (sym command ∙ command_is)) (both.0 ∙ sym table_same.0) (sym setups) lists ∙ laid.unrefused)
        refuses.cause

    smooth_run : IsSmooth before exit
    smooth_run = record {
      asked = asked;
      words = words;
      setup = setup;
      tells = tells.tells;
      tells_vault = tells.tells_vault;
      configuration = says;
      known = ap (λ (command : Command). unknown_in setup command) command_is;
      unbroken = record {
        opener = λ rose. not_risen before.opener.faults exit.opener.faults calm.opener rose;
        folders = λ d broke. not_risen _ _ (calm.folders d) broke.rose;
        vault = λ broke. not_risen held.faults left_of.faults calm.vault broke.rose;
      };
      out = λ rose. not_risen before.out.faults exit.after.out.faults calm.out rose;
      content = inr (content.copy, spelling table, content.within, content.spells, record { table = table; valid = content.valid; spelled = refl });
      layout = unrefused;
      agrees = λ other loads. subst (λ (t : TableValue). Matches setup t)
          (sym (same_content one_table held left_of tells.tells_vault calm.vault table content other (first_content (held_vault before) (left_vault exit) other tells.tells_vault loads calm.vault) setup before.seed))
          table_same.1;
    }

  -- by the account of a run that went to its end
  pub smooth_in : (status : ℕ) → HasAccount before exit status → status ≤ 1 → IsSmooth before exit
  smooth_in status account few =
      let goes = goes_to_its_end before exit account.end account.told status tells.tells account.status_is account.ran asked words (subst WorksOnArray (sym command_is) tt) (ByStatus few) in
      let is = goes.status_is in
      smooth_run goes.setup goes.answer goes.named goes.told goes.ran (omega (arith, is, few))

module _ {O F V W : Type 0} (opener_view : O → OpenerView) (folder_view : F → FolderView) (vault_view : V → VaultView) (sink_view : W → SinkView) where
  abbrev begun : RunOf O F V W → Entry
  begun run = before_of opener_view folder_view vault_view sink_view run

  abbrev ended : RunOf O F V W → Exit
  ended run = after_of opener_view folder_view vault_view sink_view run

  -- a run of which no call failed
  pub is_calm : (config : List ℕ) (texts : List (List ℕ)) (seed : List ℕ) (folders : List FolderView) (vault : VaultView) (status : ℕ) (left_folders : List F) (left : V) (printed : List ℕ)
      → (runs : RunsTold opener_view folder_view vault_view sink_view config texts seed folders vault status left_folders left printed) → (vault_view left).faults ≡ 0 → are_calm folder_view left_folders ≡ true
      → IsCalm (ended runs.over.run)
  is_calm config texts seed folders vault status left_folders left printed runs faults calm = record {
    opener = runs.opener_faults;
    out = runs.out_faults;
    vault = none_rose opener_view folder_view vault_view sink_view config texts seed folders vault status left_folders left runs.over faults;
    folders = λ d. ap (λ (fs : List F). (folder_at (map folder_view fs) d).faults) runs.over.folders_are ∙ calm_at opener_view folder_view vault_view sink_view left_folders calm d;
  }

  smooth_over : (standing : Standing) (run : RunOf O F V W) (asked : Options) (setup : SetupValue) (table : TableValue) (status : ℕ) → OneTable → BeginsOver standing (begun run) → HasAccount (begun run) (ended run) run.status
      → IsCalm (ended run) → asked_by run.texts ≡ Ok asked → asked.command ≡ commands.Sync plain_sync → read_setup (take 1048577 standing.config) asked.log ≡ Ok setup
      → IsFirstContent standing.copies standing.files table → run.status ≤ 1 → IsSmooth (begun run) (ended run)
  smooth_over standing run asked setup table status one_table begins account calm words command says content few =
      smooth_in one_table (begun run) (ended run) begins.tells calm asked words plain_sync command setup
      (ap (λ (bytes : List ℕ). read_setup (take 1048577 bytes) asked.log) begins.config ∙ says) table
      (subst (λ (n : ℕ). IsFirstContent n (begun run).opener.vault.files table) (sym begins.copies) (subst (λ (fs : Files). IsFirstContent standing.copies fs table) (sym begins.files) content))
      run.status account few

  pub is_smooth_sync : (config : List ℕ) (texts : List (List ℕ)) (seed : List ℕ) (folders : List FolderView) (value seen : VaultValue) (status : ℕ) (left_folders : List F) (left : V) (printed : List ℕ)
      → OneTable → AskForSync texts config → AsksFor (commands.Sync plain_sync) texts → seen ≡ value → HasRecord (opened_view seen)
      → RunsTold opener_view folder_view vault_view sink_view config texts seed folders (opened_view value) status left_folders left printed → (vault_view left).faults ≡ 0
      → are_calm folder_view left_folders ≡ true → status ≤ 1 → IsSmoothSync opener_view folder_view vault_view sink_view status
  is_smooth_sync config texts seed folders value seen status left_folders left printed one_table asks plain same has runs faults calm few =
      let vault : VaultView = opened_view value in
      let run : RunOf O F V W = runs.over.run in
      let standing : Standing = standing_of config folders vault nothing_synced in
      let begins = runs.over.begins nothing_synced in
      let record_there : HasRecord vault = subst (λ (v : VaultValue). HasRecord (opened_view v)) same has in
      let words : asked_by run.texts ≡ Ok asks.asked = subst (λ (ts : List (List ℕ)). asked_by ts ≡ Ok asks.asked) (sym runs.over.texts_are) asks.words in
      let command : asks.asked.command ≡ commands.Sync plain_sync
      = ap (λ (a : Options). a.command) (same_ok (asked_by texts) asks.asked plain.asked asks.words plain.words) ∙ plain.command_is in
      let content : IsFirstContent standing.copies standing.files record_there.table
      = content_by (copies_of vault) standing.copies vault.files standing.files record_there.table refl (contents_seen (said_by config) vault) record_there.content in
      let few_ran : run.status ≤ 1 = few_is run.status status 1 runs.over.status_is few in
      let smooth : IsSmooth (begun run) (ended run) = smooth_over standing run asks.asked asks.setup.setup record_there.table status one_table begins (runs.account begins.tells.tells)
      (is_calm config texts seed folders vault status left_folders left printed runs faults calm) words command asks.setup.says content few_ran in
      record {
        standing = standing;
        run = run;
        table = record_there.table;
        asked = asks.asked;
        way = plain_sync;
        begins = begins;
        words = words;
        command_is = command;
        unforced = refl;
        content = content;
        has_record = record_there.some;
        smooth = smooth;
        done = runs.complete (inl smooth);
        status_is = runs.over.status_is;
      }
