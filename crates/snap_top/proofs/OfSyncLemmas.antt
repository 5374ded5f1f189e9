-- Of which sync a run is.
use Rattle.std.proofs.Common.{◌≡◌, ◌⊎◌, inl, inr, ⊎_elim, ℕ, ◌^◌, ◌<◌, ◌≤◌, List, ◌∷◌, ◌++◌, length, append_assoc, Bool, true, false, IsTrue, Option, None, Some, Ok, refl, sym, ap, ◌∙◌, subst, arith}
use Rattle.std.proofs.lemmas.List.{ext_get_or, length-replicate}
use Rattle.array_scan.specs.Keeping.{KeepsStripes}
use Rattle.folder_listing.specs.Kept.{ListedFile, kept_lists}
use Rattle.array_scan.specs.Layout.{layout}
use Rattle.content_file.specs.Load.{HasFailed, IsUseless}
use Rattle.content_file.specs.Spelling.{IsContent, spelling}
use Rattle.disk_model.specs.Cause.{Rose}
use Rattle.disk_model.specs.Files.{Files, content_of}
use Rattle.disk_model.specs.Folder.{quiet_folder}
use Rattle.disk_model.specs.declared.draft.Draft.TheVariants.{Absent}
use Rattle.disk_model.specs.Vault.{plain_done, VaultView, VaultState, VaultDone, SomeCalls, copies_of, state_of}
use Rattle.file_table.specs.Table.{TableValue}
use Rattle.file_table.specs.Valid.{IsValid}
use Rattle.parity_writer.specs.Sound.{IsSynced}
use Rattle.array_setup.specs.Setup.{SetupValue}
use Rattle.snap_config.specs.declared.options.Command.{Command}
use Rattle.snap_config.specs.declared.options.Command.TheVariants as commands
use Rattle.array_setup.specs.declared.ways.SyncWay.{SyncWay}
use Rattle.snap_report.specs.declared.answer.Answer.{Answer}
use Rattle.snap_report.specs.declared.answer.Answer.TheVariants as answers
use Rattle.snap_report.specs.declared.answer.RunFault.TheVariants as runs
use Rattle.snap_report.specs.declared.events.Event.{Event}
use Rattle.snap_sync.specs.Part.{SyncRun}
use Rattle.snap_sync.specs.Soundness.{IsLoadedFrom}
use Rattle.snap_top.specs.Array.{empty_table}
use Rattle.snap_top.specs.Began.{IsSyncOf}
use Rattle.snap_top.specs.Asked.{IsConfigured}
use Rattle.snap_top.specs.Loading.{Loading, BeginsWith, LoadsFrom, LoadsInOrder, ReadsCopies}
use Rattle.snap_top.specs.Run.{IsAnswered, IsRun}
use Rattle.snap_top.specs.Entry.{Entry, Exit}
use Rattle.snap_top.specs.Sync.{BeginsAmong, BeginsFrom, HoldsNoContent, SyncsOver}
use Rattle.snap_top.specs.Syncing.{SyncCourse, SyncsBy, run_of}
use Rattle.snap_top.specs.Task.{Task, Left}
use Rattle.snap_top.specs.Did.{Did, reads_only}
use Rattle.snap_top.specs.Views.{World, world_of, view_of}
use Rattle.snap_top.specs.declared.end.Ending.{Ending}
use Rattle.snap_top.proofs.BytesLemmas.{sync_bytes}
use Rattle.snap_top.proofs.CompleteLemmas.{are_held}

-- what array_scan says of the stripes of a layout
abbrev pub KeepsItsStripes : Type 0
KeepsItsStripes = (table : TableValue) (kept : List (List ListedFile)) → IsValid table → KeepsStripes (layout table kept) table

-- ---- what a sync did: it only read, or it went on

pub record HasCourse (command : Command) (task : Task) (table : TableValue) (before after : World) (left : Left) (did : Did) : Type 0 where
  pub way : SyncWay
  pub command_is : command ≡ commands.Sync way
  pub failed : Bool
  pub course : SyncCourse task way table failed before after left did

pub sync_did : (answer : Answer) (task : Task) (way : SyncWay) (table : TableValue) (before after : World) (left : Left) (did : Did) → SyncsBy answer task way table before after left did
    → (did ≡ reads_only) ⊎ ((failed : Bool) × SyncCourse task way table failed before after left did)
sync_did answers.Clean task way table before after left did does = inr (false, does.course)
sync_did answers.Found task way table before after left did does = inr (false, does.course)
sync_did answers.OutputFailed task way table before after left did does = inr (false, does.course)
sync_did (answers.Zeroed disk rec) task way table before after left did does = inl does.did_is
sync_did (answers.Emptied disk) task way table before after left did does = inl does.did_is
sync_did (answers.Full blocks files) task way table before after left did does = inl does.did_is
sync_did (answers.Broken (runs.Folder disk)) task way table before after left did does = inl does.did_is
sync_did (answers.Broken runs.Vault) task way table before after left did does = inr (true, does.course)
sync_did (answers.Broken runs.Memory) task way table before after left did does = inl does.did_is

-- ---- the table that was loaded

-- an array without content has no synced stripe
none_synced : (setup : SetupValue) (seed : List ℕ) (stripe : ℕ) → IsSynced (empty_table setup seed) stripe → ⊥
none_synced setup seed stripe synced = let below = synced.within in omega (arith, below)

-- loading from a vault that held these files
module _ (files : Files) (given mid : VaultState) (files_are : given.files ≡ files) (tells : IsTrue given.tells) where
  held_by : (copy : ℕ) (table : TableValue) → content_of given.files copy ≡ Some (spelling table) → content_of files copy ≡ Some (spelling table)
  held_by copy table held = sym (ap (λ (fs : Files). content_of fs copy) files_are) ∙ held

  loaded_from : (setup : SetupValue) (seed : List ℕ) (loaded : Option TableValue) (table : TableValue) → LoadsFrom given mid loaded → BeginsWith setup seed loaded table
      → IsLoadedFrom (copies_of (view_of given)) table files
  loaded_from setup seed None table loads begins = inr (λ stripe synced. none_synced setup seed stripe (subst (λ (t : TableValue). IsSynced t stripe) begins synced))
  loaded_from setup seed (Some of) table loads begins =
      inl (loads.copy, loads.within, held_by loads.copy of (loads.held tells) ∙ ap (λ t. Some (spelling t)) (sym begins.0))

  begins_among : (setup : SetupValue) (seed : List ℕ) (loaded : Option TableValue) (table : TableValue) → LoadsFrom given mid loaded → BeginsWith setup seed loaded table
      → BeginsAmong setup seed (copies_of (view_of given)) files table
  begins_among setup seed None table loads begins = inr (λ copy below. sym (ap (λ (fs : Files). content_of fs copy) files_are) ∙ loads.none tells copy below, begins)
  begins_among setup seed (Some of) table loads begins =
      inl (loads.copy, loads.within, held_by loads.copy of (loads.held tells) ∙ ap (λ t. Some (spelling t)) (sym begins.0))

  useless_copy : (copy : ℕ) → IsUseless (view_of given) copy → HoldsNoContent files copy
  useless_copy copy (inl none) bytes is content = let clash : None ≡ Some bytes = sym none ∙ ap (λ (fs : Files). content_of fs copy) files_are ∙ is in cc
  useless_copy copy (inr damaged) bytes is content =
      let both : Some damaged.bytes ≡ Some bytes = sym damaged.held ∙ ap (λ (fs : Files). content_of fs copy) files_are ∙ is in
      let same : damaged.bytes ≡ bytes = cc in
      damaged.damaged (subst IsContent (sym same) content)

  pub begins_from : (setup : SetupValue) (seed : List ℕ) (loaded : Option TableValue) (table : TableValue) → LoadsFrom given mid loaded → BeginsWith setup seed loaded table
      → ((k : ℕ) → ¬ (HasFailed (view_of given) (view_of mid) k)) → BeginsFrom setup seed (copies_of (view_of given)) files table
  begins_from setup seed None table loads begins none =
      inr (λ copy below. sym (ap (λ (fs : Files). content_of fs copy) files_are) ∙ loads.none tells copy below, begins)
  begins_from setup seed (Some of) table loads begins none = inl (record {
    copy = loads.copy;
    within = loads.within;
    valid = subst IsValid (sym begins.0) loads.valid;
    spells = held_by loads.copy of (loads.held tells) ∙ ap (λ t. Some (spelling t)) (sym begins.0);
    first = λ k below. ⊎_elim (λ useless. useless_copy k useless) (λ failed. absurd (none k failed)) (loads.earlier tells k below);
  })

-- a reading that failed since something was given failed since that was held
failed_of : (held : VaultView) (given mid : VaultState) → given ≡ state_of held → (copy : ℕ) → HasFailed (view_of given) (view_of mid) copy → HasFailed held (view_of mid) copy
failed_of held given mid same copy failed =
    let is : HasFailed (view_of (state_of held)) (view_of mid) copy = subst (λ (s : VaultState). HasFailed (view_of s) (view_of mid) copy) same failed in
    record { within = is.within; rose = is.rose; earlier = is.earlier; call = is.call; later = is.later; read = is.read; made = is.made }

-- a reading that failed while the content was loaded is one of the run
pub failed_since : (held after : VaultView) (mid : VaultState) → SomeCalls (view_of mid) (view_of (state_of after)) → (copy : ℕ) → HasFailed held (view_of mid) copy → HasFailed held after copy
failed_since held after mid calls copy is =
    let first : VaultDone = plain_done is.call true in
    record {
      within = is.within;
      rose = let rose = is.rose in let later = calls.goes_on.later in rose_later held.faults mid.faults after.faults rose later;
      earlier = is.earlier;
      call = is.call;
      later = is.later ++ calls.done;
      read = is.read;
      made = λ told.
          calls.goes_on.calls.more told
          ∙ ap (λ (cs : List VaultDone). cs ++ calls.done) (is.made (calls.goes_on.calls.told told))
          ∙ append_assoc (held.calls ++ is.earlier) (first ∷ is.later) calls.done;
    }
  where
    rose_later : (a b c : ℕ) → Rose a b → b ≤ c → Rose a c
    rose_later a b c rose later = omega (arith, rose, later)

-- ---- what was given is what the opener held

module _ (before : Entry) (exit : Exit) (tells : IsTrue before.opener.tells) (tells_vault : IsTrue before.opener.vault.tells)
    (setup : SetupValue) (ending : Ending) (told : List Event) (ran : IsRun before exit setup ending told) where
  pub given_is : ran.given.vault ≡ state_of before.opener.vault
  given_is = ran.is_given.state.whole tells

  pub given_tells : IsTrue ran.given.vault.tells
  given_tells = ap (λ (s : VaultState). s.tells) given_is ∙ tells_vault

  pub given_files : ran.given.vault.files ≡ before.opener.vault.files
  given_files = ap (λ (s : VaultState). s.files) given_is

  pub given_copies : copies_of (view_of ran.given.vault) ≡ copies_of before.opener.vault
  given_copies = ap (λ (s : VaultState). length s.drafts) given_is

  pub given_folders : ran.given.folders ≡ before.opener.folders
  given_folders = ext_get_or (quiet_folder 0 false) ran.given.folders before.opener.folders (ran.is_given.just tells) (are_held before exit setup ending told ran tells).1

  -- by its command
  pub configured_for : (command : Command) → ran.task.command ≡ command → IsConfigured before.texts before.opener command ran.task.readers ran.task.setup
  configured_for command is = subst (λ (c : Command). IsConfigured before.texts before.opener c ran.task.readers ran.task.setup) is
      (subst (λ (s : SetupValue). IsConfigured before.texts before.opener ran.task.command ran.task.readers s) (sym ran.setup_is) ran.is_given.configured)

  module _ (left : Left) (one : IsAnswered ran.task ran.given (world_of exit.after) left ran.did) where
    pub start_folders : one.start.folders ≡ before.opener.folders
    start_folders = ap (λ (w : World). w.folders) one.reads.others ∙ given_folders

    pub start_tells : IsTrue one.start.vault.tells
    start_tells = one.reads.vault.calls.goes_on.tells ∙ given_tells

    pub start_files : one.start.vault.files ≡ before.opener.vault.files
    start_files = one.reads.vault.files given_tells ∙ given_files

    pub start_out : one.start.out ≡ before.out
    start_out = ap (λ (w : World). w.out) one.reads.others ∙ ran.given_out

    -- the table that its command began with
    pub table_loaded : IsLoadedFrom (copies_of before.opener.vault) one.table before.opener.vault.files
    table_loaded = subst (λ (n : ℕ). IsLoadedFrom n one.table before.opener.vault.files) given_copies
        (loaded_from before.opener.vault.files ran.given.vault one.start.vault given_files given_tells ran.task.setup ran.task.seed one.loaded one.table one.loads one.begins)

    pub table_among : BeginsAmong ran.task.setup before.seed (copies_of before.opener.vault) before.opener.vault.files one.table
    table_among = subst (λ (n : ℕ). BeginsAmong ran.task.setup before.seed n before.opener.vault.files one.table) given_copies
        (subst (λ (seed : List ℕ). BeginsAmong ran.task.setup seed (copies_of (view_of ran.given.vault)) before.opener.vault.files one.table) ran.seed_is
        (begins_among before.opener.vault.files ran.given.vault one.start.vault given_files given_tells ran.task.setup ran.task.seed one.loaded one.table one.loads one.begins))

    pub table_loading : SomeCalls (view_of one.start.vault) (view_of (state_of exit.after.vault)) → Loading before exit ran.task.setup one.table
    table_loading calls = record {
      at = one.start.vault;
      loaded = one.loaded;
      reads = subst (λ (s : VaultState). ReadsCopies s one.start.vault) given_is one.reads.vault;
      loads = subst (λ (s : VaultState). LoadsFrom s one.start.vault one.loaded) given_is one.loads;
      order = subst (λ (s : VaultState). LoadsInOrder (Ok one.loaded) s one.start.vault) given_is one.order;
      begins = subst (λ (seed : List ℕ). BeginsWith ran.task.setup seed one.loaded one.table) ran.seed_is one.begins;
      later = calls;
      from = λ well. subst (λ (n : ℕ). BeginsFrom ran.task.setup before.seed n before.opener.vault.files one.table) given_copies
          (subst (λ (seed : List ℕ). BeginsFrom ran.task.setup seed (copies_of (view_of ran.given.vault)) before.opener.vault.files one.table) ran.seed_is
          (begins_from before.opener.vault.files ran.given.vault one.start.vault given_files given_tells ran.task.setup ran.task.seed one.loaded one.table one.loads one.begins
          (λ k failed. well k (failed_of before.opener.vault ran.given.vault one.start.vault given_is k failed))));
    }

    -- ---- the sync of a run: it is that which its command ran from the table that was loaded

    module _ (keeps : KeepsItsStripes) (in_time : before.moment < 2 ^ 64) where
      pub sync_of : (course_of : HasCourse ran.task.command ran.task one.table one.start (world_of exit.after) left ran.did)
          → (let course = course_of.course in
          IsSyncOf before exit (run_of ran.task course_of.way one.table one.start (world_of exit.after) course.start course.listed course.readings course.ahead))
      sync_of course_of =
          let course = course_of.course in
          let start_copies : length one.start.vault.drafts ≡ copies_of before.opener.vault = ap length one.reads.vault.drafts.state ∙ given_copies in
          let run : SyncRun = run_of ran.task course_of.way one.table one.start (world_of exit.after) course.start course.listed course.readings course.ahead in
          let kept : List (List ListedFile) = kept_lists ran.task.setup course.laid.lists in
          let over : SyncsOver (copies_of before.opener.vault) before.opener.vault.files run = record {
            listed = record {
              folders = one.columns;
              as_many = course.laid.as_many;
              lists = course.laid.lists;
              listed = course.laid.listed;
              start_is = course.laid.start_is;
              reads = course.reads;
            };
            stands = record {
              valid = one.valid;
              is_loaded = subst (λ (n : ℕ). IsLoadedFrom n one.table before.opener.vault.files) (sym start_copies) table_loaded;
              laid = course.laid.valid;
              keeps = subst (λ (t : TableValue). KeepsStripes t one.table) (sym course.laid.start_is) (keeps one.table kept one.valid);
              in_time = subst (λ (n : ℕ). n < 2 ^ 64) (sym ran.moment_is) in_time;
            };
            copies_are = start_copies;
          } in
          record {
            way = course_of.way;
            readers = ran.task.readers;
            configured = configured_for (commands.Sync course_of.way) course_of.command_is;
            folders_are = start_folders;
            ended_is = refl;
            moment_is = ran.moment_is;
            copies_are = sym given_copies ∙ ap length ran.is_given.state.drafts ∙ length-replicate (length setup.contents) Absent ∙ ap (λ (s : SetupValue). length s.contents) (sym ran.setup_is);
            over = over;
            begins = table_among;
            bytes = sync_bytes run over.listed over.stands.keeps.columns;
            loading = table_loading course.vault.calls;
          }

      -- where it broke off, a call failed after its table was loaded
      pub sync_broke : (course_of : HasCourse ran.task.command ran.task one.table one.start (world_of exit.after) left ran.did) → IsTrue course_of.failed
          → Rose (sync_of course_of).loading.at.faults exit.after.vault.faults
      unfolding sync_of table_loading
      sync_broke course_of failed = (course_of.course.vault.broke failed).rose
