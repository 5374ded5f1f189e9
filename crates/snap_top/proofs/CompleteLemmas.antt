-- When a run surely ends well, from its end.
use Rattle.std.proofs.Common.{◌≡◌, ◌≢◌, ◌⊎◌, inl, inr, ⊎_elim, ℕ, ◌+◌, ◌≤◌, List, ◌∷◌, ◌++◌, take, count_by, Bool, true, false, IsTrue, Option, Some, None, Result, Ok, Err, refl, sym, ap, ◌∙◌, subst, arith, cond, if◌then◌else◌, ◌==◌, ◌||◌, slice_get, append_assoc, ap₂}
use Rattle.std.specs.List.{list_any}
use Rattle.disk_model.specs.declared.answer.Answer.{Answer as CallAnswer}
use Rattle.disk_model.specs.Cause.{Rose, RoseBy}
use Rattle.disk_model.specs.Folder.{FolderView}
use Rattle.array_scan.specs.declared.fault.ScanFault.{ScanFault}
use Rattle.array_scan.specs.declared.fault.ScanFault.TheVariants as scans
use Rattle.snap_sync.specs.Beginning.{RefusesLayout, BeginsNot}
use Rattle.snap_sync.specs.Work.{VaultBroke, broke_sync}
use Rattle.snap_sync.specs.declared.fault.SyncFault.{SyncFault}
use Rattle.snap_sync.specs.declared.fault.SyncFault.TheVariants.{Scan, Run}
use Rattle.snap_top.proofs.SyncLemmas.{any_more, broke_more}
use Rattle.disk_model.specs.Files.{content_of}
use Rattle.disk_model.specs.Sink.{SinkView}
use Rattle.disk_model.specs.Vault.{plain_done, VaultView, VaultState, VaultCall, VaultDone, SomeCalls, state_of, ParityLen, ParityRead, ParityWrite, ParitySetLen, ParitySync, ContentSize, ContentRead, DraftBegin, DraftAppend, DraftSeal, Publish}
use Rattle.disk_model.specs.declared.fault.OpenFault.{OpenFault}
use Rattle.disk_model.specs.declared.fault.OpenFault.TheVariants as opens
use Rattle.content_file.specs.declared.fault.Damage.{Damage}
use Rattle.content_file.specs.Load.{LoadsTable, LoadFails, LoadIsDamaged, IsUseless, IsReadOf}
use Rattle.content_file.specs.Spelling.{IsContent}
use Rattle.content_file.specs.declared.loading.LoadFault.TheVariants as loads
use Rattle.file_table.specs.Table.{TableValue}
use Rattle.snap_config.specs.Config.{read_setup}
use Rattle.array_setup.specs.Setup.{SetupValue, setup_value}
use Rattle.snap_config.specs.declared.options.Command.{Command}
use Rattle.snap_config.specs.declared.options.Command.TheVariants as commands
use Rattle.file_restorer.specs.Breaking.{broke_parity}
use Rattle.snap_fix.specs.FixRun.{VaultFailedBy}
use Rattle.repair_scope.specs.declared.scope.Mode.TheVariants as modes
use Rattle.snap_top.specs.Checking.{ChecksBy}
use Rattle.snap_top.specs.Fixing.{FixBroke, FixesBy}
use Rattle.snap_config.specs.declared.options.Options.{Options}
use Rattle.snap_config.specs.declared.options.WordsFault.{WordsFault}
use Rattle.snap_config.specs.declared.why.ConfigFault.{ConfigFault}
use Rattle.snap_config.specs.declared.why.ConfigFault.TheVariants as config
use Rattle.snap_report.specs.Answer.{done_answer, status_of as answer_status, broke_vault, is_io_of, is_parity_io, Gained, FolderFailed}
use Rattle.snap_report.specs.declared.answer.Answer.{Answer}
use Rattle.snap_report.specs.declared.answer.Answer.TheVariants.{Clean, Found, OutputFailed, Zeroed, Emptied, Full, Broken}
use Rattle.snap_report.specs.declared.answer.RunFault.TheVariants.{Folder, Vault, Memory}
use Rattle.snap_report.specs.declared.events.Event.{Event}
use Rattle.snap_top.specs.Array.{Matches, DiffersIn}
use Rattle.snap_top.specs.Complete.{HasContentOrNone, MayBegin, AreHeld, IsSmooth}
use Rattle.snap_top.specs.Unbroken.{BreaksFolder, BreaksVault, held_vault, left_vault}
use Rattle.snap_exercise.specs.Exercise.{is_well}
use Rattle.snap_top.specs.Does.{DoesCommand, PrintsOrStays}
use Rattle.snap_top.specs.Dup.{dup_text}
use Rattle.snap_top.specs.Exercising.{Exercises}
use Rattle.array_setup.specs.declared.ways.SyncWay.{SyncWay}
use Rattle.snap_scrub.specs.Marks.{scrubbed}
use Rattle.snap_top.specs.Scrubbing.{ScrubBreaks, ScrubsBy}
use Rattle.snap_top.specs.Syncing.{SyncsBy, SyncBreaks, SyncRefuses, answer_of}
use Rattle.snap_top.specs.Task.{Task, Left}
use Rattle.snap_top.specs.Did.{Did}
use Rattle.snap_top.specs.End.{status_of, ending_status, refusal_status, words_status, config_status, open_status}
use Rattle.snap_top.specs.Known.{unknown_in}
use Rattle.snap_top.specs.Opening.{SaysNot, IsWordsFault, is_failure, IsUnknown}
use Rattle.snap_top.specs.Asked.{asked_by, IsConfigured}
use Rattle.snap_top.specs.Run.{Goes, IsRun, IsRefused, Ran, IsAnswered}
use Rattle.snap_top.specs.Entry.{Entry, Exit}
use Rattle.snap_top.specs.Loading.{BeginsWith, LoadsFrom, ReadsCopies}
use Rattle.snap_top.specs.Views.{World, world_of, view_of, folder_at}
use Rattle.snap_top.proofs.RefusalLemmas.{done_is_no_refusal, check_not_refused, fix_not_refused, printing_not_refused, scrub_not_refused}
use Rattle.snap_top.proofs.RunLemmas.{any_later}
use Rattle.snap_top.proofs.ScrubLemmas.{scrub_broke}
use Rattle.snap_top.specs.declared.end.Difference.{Difference}
use Rattle.snap_top.specs.declared.end.Difference.TheVariants.{BlockSize, Levels, DiskName}
use Rattle.snap_top.specs.declared.end.End.{End}
use Rattle.snap_top.specs.declared.end.End.TheVariants.{Exercised, Refused, Worked}
use Rattle.snap_top.specs.declared.end.Ending.{Ending}
use Rattle.snap_top.specs.declared.end.Ending.TheVariants.{NotLoaded, NoTable, OtherArray, Answered}
use Rattle.snap_top.specs.declared.end.Refusal.{Refusal}
use Rattle.snap_top.specs.declared.end.Refusal.TheVariants as refusals

abbrev pub IsDoneOrMemory : ℕ → Type 0
IsDoneOrMemory status = (status ≤ 1) ⊎ (status ≡ 4)

pub same_ok : {A E : Type 0} (said : Result A E) (x y : A) → said ≡ Ok x → said ≡ Ok y → x ≡ y
same_ok said x y one other = let same : Ok x ≡ Ok y = sym one ∙ other in cc

pub ok_or_err : {A E : Type 0} (said : Result A E) (x : A) (e : E) → said ≡ Ok x → said ≡ Err e → ⊥
ok_or_err said x e one other = let clash : Ok x ≡ Err e = sym one ∙ other in cc

smooth_words : (before : Entry) (exit : Exit) (fault : WordsFault) → IsSmooth before exit → IsWordsFault before.texts fault → IsDoneOrMemory (words_status fault)
smooth_words before exit fault smooth (inl memory) = inr (ap words_status memory)
smooth_words before exit fault smooth (inr said) = absurd (ok_or_err (asked_by before.texts) smooth.asked fault smooth.words said)

smooth_open : (fault : OpenFault) → (IsTrue (is_failure fault) → ⊥) → IsDoneOrMemory (open_status fault)
smooth_open opens.Failed never = absurd (never refl)
smooth_open opens.Memory never = inr refl

smooth_config : (before : Entry) (exit : Exit) (asked : Options) (fault : ConfigFault) → IsSmooth before exit → asked_by before.texts ≡ Ok asked → SaysNot before.opener asked.log fault → IsDoneOrMemory (config_status fault)
smooth_config before exit asked (config.BadLine line why) smooth read not =
    let same : asked ≡ smooth.asked = same_ok (asked_by before.texts) asked smooth.asked read smooth.words in
    let bytes = not.held smooth.tells in
    let said = ap (λ bs. read_setup bs asked.log) (sym bytes) ∙ not.refused in
    let accepted = ap (λ (a : Options). read_setup (take 1048577 before.opener.config) a.log) same ∙ smooth.configuration in
    absurd (ok_or_err (read_setup (take 1048577 before.opener.config) asked.log) smooth.setup _ accepted said)
smooth_config before exit asked config.Memory smooth read not = inr refl

-- the configuration of a run is the one that is accepted
same_setup : (before : Entry) (exit : Exit) (command : Command) (readers : ℕ) (setup : SetupValue) → (smooth : IsSmooth before exit) → IsConfigured before.texts before.opener command readers setup → setup ≡ smooth.setup
same_setup before exit command readers setup smooth is =
    let same : is.asked ≡ smooth.asked = same_ok (asked_by before.texts) is.asked smooth.asked is.read smooth.words in
    let said = ap (λ bs. read_setup bs is.asked.log) (sym (is.says.held smooth.tells)) ∙ is.says.says in
    let accepted = ap (λ (a : Options). read_setup (take 1048577 before.opener.config) a.log) same ∙ smooth.configuration in
    same_ok (read_setup (take 1048577 before.opener.config) is.asked.log) setup smooth.setup said accepted

-- the names that it selects are known
smooth_known : (before : Entry) (exit : Exit) (name : List ℕ) → IsSmooth before exit → IsUnknown before.texts before.opener exit.opener name → ⊥
smooth_known before exit name smooth is =
    let setup = same_setup before exit is.command is.readers is.setup smooth is.configured in
    let asked : is.configured.asked ≡ smooth.asked = same_ok (asked_by before.texts) is.configured.asked smooth.asked is.configured.read smooth.words in
    let same : unknown_in is.setup is.command ≡ None = ap₂ unknown_in setup (is.configured.command_is ∙ ap (λ (a : Options). a.command) asked) ∙ smooth.known in
    let clash : Some name ≡ None = sym is.unknown ∙ same in cc

smooth_refusal : (before : Entry) (exit : Exit) (why : Refusal) (told : List Event) → IsSmooth before exit → IsRefused before exit why told → IsDoneOrMemory (refusal_status why)
smooth_refusal before exit (refusals.Words fault) told smooth ran = smooth_words before exit fault smooth ran.refuses.0
smooth_refusal before exit (refusals.Unread fault) told smooth ran = smooth_open fault (λ failed. smooth.unbroken.opener (ran.refuses.why_not.0 failed))
smooth_refusal before exit (refusals.Config file fault) told smooth ran = smooth_config before exit ran.refuses.asked fault smooth ran.refuses.read ran.refuses.why_not.1
smooth_refusal before exit (refusals.NoDisk name) told smooth ran = absurd (smooth_known before exit name smooth ran.refuses)
smooth_refusal before exit (refusals.Unopened fault) told smooth ran = smooth_open fault (λ failed. smooth.unbroken.opener (ran.refuses.rose failed))

-- a reading of a copy that failed is a call that reads no parity
reading_broke : (copy : ℕ) (call : VaultCall) → IsReadOf copy call → broke_vault (plain_done call true) ≡ true
reading_broke copy call (inl size) = ap (λ c. broke_vault (plain_done c true)) size
reading_broke copy call (inr read) = ap (λ c. broke_vault (plain_done c true)) read.3

any_here : {A : Type 0} (test : A → Bool) (earlier : List A) (x : A) (later : List A) → test x ≡ true → IsTrue (list_any test (earlier ++ x ∷ later))
any_here test earlier x later is = any_later test earlier (x ∷ later) (first (test x) (list_any test later) is)
  where
    first : (b c : Bool) → b ≡ true → IsTrue (b || c)
    first true c is' = refl
    first false c is' = absurd (let clash : false ≡ true = is' in cc)

useless_is_none : (v : VaultView) (copy : ℕ) (bytes : List ℕ) → content_of v.files copy ≡ Some bytes → IsContent bytes → IsUseless v copy → ⊥
useless_is_none v copy bytes held is (inl none) = let clash : Some bytes ≡ None = sym held ∙ none in cc
useless_is_none v copy bytes held is (inr damaged) =
    let both : Some damaged.bytes ≡ Some bytes = sym damaged.held ∙ held in
    let same : damaged.bytes ≡ bytes = cc in
    damaged.damaged (subst IsContent (sym same) is)

pub failed_load_breaks : (old new : VaultView) → LoadFails old new → BreaksVault old new
failed_load_breaks old new fails =
    let one = fails.some.1 in
    record {
      rose = one.rose;
      call = λ told. record {
        gained = one.earlier ++ plain_done one.call true ∷ one.later;
        now_is = one.made told ∙ append_assoc old.calls one.earlier (plain_done one.call true ∷ one.later);
        one = any_here broke_vault one.earlier (plain_done one.call true) one.later (reading_broke fails.some.0 one.call one.read);
      };
      copies = inr (λ told copy bytes below held is. ⊎_elim (λ useless. absurd (useless_is_none old copy bytes held is useless)) (λ failed. failed) (fails.useless told copy below));
    }

not_damaged : (old new : VaultView) (damages : List (ℕ × Damage)) → IsTrue old.tells → HasContentOrNone old → LoadIsDamaged old new damages → ⊥
not_damaged old new damages tells (inl none) damaged =
    let one = damaged.some tells in
    let clash : Some one.2.bytes ≡ None = sym one.2.held ∙ none one.0 one.1 in cc
not_damaged old new damages tells (inr good) damaged = useless_is_none old good.0 good.1 good.3 good.4 (damaged.useless tells good.0 good.2)

matches_not_differs : (setup : SetupValue) (table : TableValue) (difference : Difference) → Matches setup table → DiffersIn setup table difference → ⊥
matches_not_differs setup table (BlockSize content configuration) same other = other.2 (other.0 ∙ same.block_size ∙ sym other.1)
matches_not_differs setup table (Levels content configuration) same other = other.3 (other.1 ∙ same.levels ∙ sym other.2)
matches_not_differs setup table (DiskName column) same other = other.2.here (ap (λ names. slice_get names column) same.names)

-- an engine that is done has status 0 or 1, unless the output failed
done_status : (counted : ℕ) (failed : Bool) → (IsTrue failed → ⊥) → answer_status (done_answer counted failed) ≤ 1
done_status counted true never = absurd (never refl)
done_status counted false never = by (counted == 0)
  where
    by : (none : Bool) → answer_status (cond none Clean Found) ≤ 1
    by true = omega arith
    by false = omega arith

-- only a sync is refused for its layout
refused_is_sync : (command : Command) (task : Task) (table : TableValue) (start after : World) (left : Left) (did : Did) → DoesCommand command task table start after left did → answer_status left.answer ≡ 2
    → (way : SyncWay) × (command ≡ commands.Sync way) × SyncRefuses task way table start after left did
refused_is_sync commands.List task table start after left did does two =
    absurd (done_is_no_refusal 0 does.prints.failed (subst (λ a. (answer_status a ≡ 2) ⊎ (answer_status a ≡ 5)) does.prints.answer_is (inl two)))
refused_is_sync commands.Status task table start after left did does two =
    absurd (done_is_no_refusal _ does.prints.failed (subst (λ a. (answer_status a ≡ 2) ⊎ (answer_status a ≡ 5)) does.prints.answer_is (inl two)))
refused_is_sync commands.Dup task table start after left did does two = absurd (printing_not_refused (dup_text table) 0 start after left did does (inl two))
refused_is_sync (commands.Sync way) task table start after left did does two = (way, refl, by left.answer two does)
  where
    by : (answer : Answer) → answer_status answer ≡ 2 → SyncsBy answer task way table start after left did → SyncRefuses task way table start after left did
    by Clean is does' = absurd (omega (arith, is))
    by Found is does' = absurd (omega (arith, is))
    by OutputFailed is does' = absurd (omega (arith, is))
    by (Zeroed disk rec) is does' = does'
    by (Emptied disk) is does' = does'
    by (Full blocks files) is does' = does'
    by (Broken (Folder disk)) is does' = absurd (omega (arith, is))
    by (Broken Vault) is does' = absurd (omega (arith, is))
    by (Broken Memory) is does' = absurd (omega (arith, is))
refused_is_sync (commands.Scrub way) task table start after left did does two = absurd (scrub_not_refused left.answer way task table start after left did does (inl two))
refused_is_sync (commands.Check selection) task table start after left did does two = absurd (check_not_refused left.answer modes.Check selection task table start after left did does (inl two))
refused_is_sync (commands.Audit selection) task table start after left did does two = absurd (check_not_refused left.answer modes.Audit selection task table start after left did does (inl two))
refused_is_sync (commands.Fix selection) task table start after left did does two = absurd (fix_not_refused left.answer selection task table start after left did does (inl two))
refused_is_sync (commands.Exercise n) task table start after left did does two = absurd does

-- a fault that is answered with status 2 is one of the layout, which is not for memory
fault_of_layout : (setup : SetupValue) (way : SyncWay) (table : TableValue) (olds news : List FolderView) (fault : SyncFault) → answer_status (answer_of fault) ≡ 2 → BeginsNot setup way table olds news fault
    → (scan : ScanFault) × (scan ≢ scans.Memory) × RefusesLayout setup way table olds news scan
fault_of_layout setup way table olds news (Scan (scans.Zeroed disk rec) of) two why = (scans.Zeroed disk rec, (λ same. absurd (let clash : scans.Zeroed disk rec ≡ scans.Memory = same in cc)), why.1)
fault_of_layout setup way table olds news (Scan (scans.Emptied disk) of) two why = (scans.Emptied disk, (λ same. absurd (let clash : scans.Emptied disk ≡ scans.Memory = same in cc)), why.1)
fault_of_layout setup way table olds news (Scan (scans.Full blocks files) of) two why = (scans.Full blocks files, (λ same. absurd (let clash : scans.Full blocks files ≡ scans.Memory = same in cc)), why.1)
fault_of_layout setup way table olds news (Scan scans.Memory of) two why = absurd (omega (arith, two))
fault_of_layout setup way table olds news (Run (Folder disk)) two why = absurd (omega (arith, two))
fault_of_layout setup way table olds news (Run Vault) two why = absurd (omega (arith, two))
fault_of_layout setup way table olds news (Run Memory) two why = absurd (omega (arith, two))

-- only a sync, a scrub and a fix end by the vault once it is loaded
done_is_no_break : (counted : ℕ) (failed : Bool) → done_answer counted failed ≡ Broken Vault → ⊥
done_is_no_break counted true is = let clash : OutputFailed ≡ Broken Vault = is in cc
done_is_no_break counted false is = by (counted == 0) is
  where
    by : (none : Bool) → cond none Clean Found ≡ Broken Vault → ⊥
    by true is' = let clash : Clean ≡ Broken Vault = is' in cc
    by false is' = let clash : Found ≡ Broken Vault = is' in cc

untrue : {P : Type 0} → IsTrue false → P
untrue told = absurd (let clash : false ≡ true = told in cc)

-- a call that writes or syncs parity reads nothing
broke_writing : (call : VaultCall) (answer : CallAnswer) → IsTrue (broke_parity (record { call = call; answer = answer })) → IsTrue (broke_sync (record { call = call; answer = answer }))
broke_writing (ParityLen level) answer is = untrue is
broke_writing (ParityRead level at n) answer is = untrue is
broke_writing (ParityWrite level at bytes) answer is = is
broke_writing (ParitySetLen level len) answer is = untrue is
broke_writing (ParitySync level) answer is = is
broke_writing (ContentSize copy) answer is = untrue is
broke_writing (ContentRead copy at n) answer is = untrue is
broke_writing (DraftBegin copy) answer is = untrue is
broke_writing (DraftAppend copy bytes) answer is = untrue is
broke_writing (DraftSeal copy) answer is = untrue is
broke_writing (Publish copy) answer is = untrue is

fix_broke : (told : List Event) (old new : VaultView) → VaultFailedBy told old new → VaultBroke old new
fix_broke told old new broke = record {
  rose = rose_by_more (count_by is_parity_io told) old.faults new.faults broke.rose;
  call = λ now. let gained = broke.call now in record { gained = gained.gained; now_is = gained.now_is; one = any_more broke_parity broke_sync (λ (done : VaultDone) is. broke_writing done.call done.answer is) gained.gained gained.one };
}
  where
    rose_by_more : (n old' new' : ℕ) → RoseBy (n + 1) old' new' → Rose old' new'
    rose_by_more n old' new' rose = omega (arith, rose)

pub vault_broke : (command : Command) (task : Task) (table : TableValue) (start after : World) (left : Left) (did : Did) → DoesCommand command task table start after left did → left.answer ≡ Broken Vault
    → VaultBroke (view_of start.vault) (view_of after.vault) × SomeCalls (view_of start.vault) (view_of after.vault)
vault_broke commands.List task table start after left did does broken = absurd (done_is_no_break 0 does.prints.failed (sym does.prints.answer_is ∙ broken))
vault_broke commands.Status task table start after left did does broken = absurd (done_is_no_break _ does.prints.failed (sym does.prints.answer_is ∙ broken))
vault_broke commands.Dup task table start after left did does broken = absurd (by does)
  where
    by : PrintsOrStays (dup_text table) 0 start after left did → ⊥
    by (inl alone) = done_is_no_break 0 alone.prints.failed (sym alone.prints.answer_is ∙ broken)
    by (inr idle) = let clash : Broken Memory ≡ Broken Vault = sym (ap (λ (l : Left). l.answer) idle.left_is) ∙ broken in cc
vault_broke (commands.Sync way) task table start after left did does broken =
    let breaks : SyncBreaks task way table start after left did = subst (λ a. SyncsBy a task way table start after left did) broken does in
    (breaks.course.vault.broke refl, breaks.course.vault.calls)
vault_broke (commands.Scrub way) task table start after left did does broken =
    let breaks : ScrubBreaks way task table start after left did = subst (λ a. ScrubsBy a way task table start after left did) broken does in
    let course = breaks.course in
    (scrub_broke table (scrubbed task.moment table course.readings) course.readings (view_of start.vault) (view_of after.vault) course.vault, course.vault.calls)
vault_broke (commands.Check selection) task table start after left did does broken = absurd (subst (λ a. ChecksBy a modes.Check selection task table start after left did) broken does)
vault_broke (commands.Audit selection) task table start after left did does broken = absurd (subst (λ a. ChecksBy a modes.Audit selection task table start after left did) broken does)
vault_broke (commands.Fix selection) task table start after left did does broken =
    let broke : FixBroke Vault selection task table start after left did = subst (λ a. FixesBy a selection task table start after left did) broken does in
    (fix_broke left.told (view_of start.vault) (view_of after.vault) broke.broke, broke.vault.calls)
vault_broke (commands.Exercise n) task table start after left did does broken = absurd does

-- a failure since loading is one since the opening
pub breaks_since : (given mid new : VaultState) → ReadsCopies given mid → VaultBroke (view_of mid) (view_of new) → SomeCalls (view_of mid) (view_of new) → BreaksVault (view_of given) (view_of new)
breaks_since given mid new reads broke calls =
    let since : IsTrue new.tells_calls → Gained broke_sync given.calls new.calls = λ told.
    let gained = broke.call told in
    record {
      gained = reads.calls.done ++ gained.gained;
      now_is = gained.now_is ∙ ap (λ cs. cs ++ gained.gained) (reads.calls.goes_on.calls.more (calls.goes_on.calls.told told)) ∙ append_assoc given.calls reads.calls.done gained.gained;
      one = any_later broke_sync reads.calls.done gained.gained gained.one;
    } in
    record {
      rose = rose_after given.faults mid.faults new.faults reads.calls.goes_on.later broke.rose;
      call = λ told. let gained = since told in record { gained = gained.gained; now_is = gained.now_is; one = broke_more gained.gained gained.one };
      copies = inl since;
    }
  where
    rose_after : (a b c : ℕ) → a ≤ b → Rose b c → Rose a c
    rose_after a b c later rose = omega (arith, later, rose)

-- a folder that is answered for failed so that the run ends
pub folder_breaks : (disk : ℕ) (told : List Event) (old new : FolderView) → FolderFailed disk told old new → BreaksFolder old new
folder_breaks disk told old new failed = record { rose = rose_by_more (count_by (is_io_of disk) told) old.faults new.faults failed.rose; call = failed.call }
  where
    rose_by_more : (n old' new' : ℕ) → RoseBy (n + 1) old' new' → Rose old' new'
    rose_by_more n old' new' rose = omega (arith, rose)

-- the table that a refused sync began with is the one that a run begins with
begins_may : (before : Entry) (exit : Exit) (setup : SetupValue) (given mid : VaultState) (loaded : Option TableValue) (table : TableValue) → given ≡ state_of before.opener.vault
    → mid ≡ state_of exit.after.vault → LoadsFrom given mid loaded → BeginsWith setup before.seed loaded table → MayBegin before exit setup table
begins_may before exit setup given mid loaded table same left loads begins = record {
  loaded = loaded;
  loads = subst (λ (s : VaultState). LoadsFrom s (state_of exit.after.vault) loaded) same (subst (λ (s : VaultState). LoadsFrom given s loaded) left loads);
  begins = begins;
}

-- what was given is what was held
pub given_held : (before : Entry) (exit : Exit) (setup : SetupValue) (ending : Ending) (told : List Event) (run : IsRun before exit setup ending told) → IsTrue before.opener.tells → run.given.vault ≡ state_of before.opener.vault
given_held before exit setup ending told run tells = run.is_given.state.whole tells

-- the folders that were given are those that were held
pub are_held : (before : Entry) (exit : Exit) (setup : SetupValue) (ending : Ending) (told : List Event) (run : IsRun before exit setup ending told) → IsTrue before.opener.tells → AreHeld before setup run.given.folders
are_held before exit setup ending told run tells = (run.is_given.columns, λ d below. (run.is_given.each d below).whole tells)

-- the command of a run is the one that was asked for
same_command : (before : Entry) (exit : Exit) (command : Command) (readers : ℕ) (setup : SetupValue) → (smooth : IsSmooth before exit) → IsConfigured before.texts before.opener command readers setup → command ≡ smooth.asked.command
same_command before exit command readers setup smooth is =
    is.command_is ∙ ap (λ (a : Options). a.command) (same_ok (asked_by before.texts) is.asked smooth.asked is.read smooth.words)

layout_smooth : (before : Entry) (exit : Exit) (setup : SetupValue) (ending : Ending) (told : List Event) → (smooth : IsSmooth before exit) → (run : IsRun before exit setup ending told)
    → (given : VaultState) → given ≡ state_of before.opener.vault → (left : Left)
    → IsAnswered run.task (record { folders = run.given.folders; vault = given; out = run.given.out }) (world_of exit.after) left run.did
    → answer_status left.answer ≡ 2 → ⊥
layout_smooth before exit setup ending told smooth run given same left one two =
    let sync = refused_is_sync run.task.command run.task one.table one.start (world_of exit.after) left run.did one.does two in
    let refuses = sync.2 in
    let status : answer_status (answer_of refuses.fault) ≡ 2 = sym (ap (λ (l : Left). answer_status l.answer) refuses.left_is) ∙ two in
    let layout = fault_of_layout run.task.setup sync.0 one.table one.start.folders exit.after.folders refuses.fault status refuses.why in
    let folders : one.start.folders ≡ run.given.folders = ap (λ (w : World). w.folders) one.reads.others in
    let of : run.task.setup ≡ smooth.setup = run.setup_is ∙ same_setup before exit run.task.command run.task.readers setup smooth run.is_given.configured in
    let asked : smooth.asked.command ≡ commands.Sync sync.0 = sym (same_command before exit run.task.command run.task.readers setup smooth run.is_given.configured) ∙ sync.1 in
    let begins = subst (λ seed. BeginsWith run.task.setup seed one.loaded one.table) run.seed_is one.begins in
    let left : one.start.vault ≡ state_of exit.after.vault = sym (ap (λ (w : World). w.vault) refuses.others) in
    let may = begins_may before exit run.task.setup given one.start.vault one.loaded one.table same left one.loads begins in
    let refused = subst (λ fs. RefusesLayout run.task.setup sync.0 one.table fs exit.after.folders layout.0) folders layout.2 in
    layout.1 (smooth.layout sync.0 one.table run.given.folders layout.0 asked (subst (λ (s : SetupValue). MayBegin before exit s one.table) of may)
    (subst (λ (s : SetupValue). AreHeld before s run.given.folders) (sym run.setup_is ∙ of) (are_held before exit setup ending told run smooth.tells))
    (subst (λ (s : SetupValue). RefusesLayout s sync.0 one.table run.given.folders exit.after.folders layout.0) of refused))

smooth_answer : (before : Entry) (exit : Exit) (setup : SetupValue) (ending : Ending) (told : List Event) → IsSmooth before exit → (run : IsRun before exit setup ending told)
    → (given : VaultState) → given ≡ state_of before.opener.vault → (answer : Answer) (named : Option TableValue) (counted : ℕ)
    → IsAnswered run.task (record { folders = run.given.folders; vault = given; out = run.given.out }) (world_of exit.after) (record { answer = answer; named = named; counted = counted; told = told }) run.did
    → IsDoneOrMemory (answer_status answer)
smooth_answer before exit setup ending told smooth run given same Clean named counted one = inl (omega arith)
smooth_answer before exit setup ending told smooth run given same Found named counted one = inl (omega arith)
smooth_answer before exit setup ending told smooth run given same OutputFailed named counted one =
    absurd (smooth.out (subst (λ (s : SinkView). Rose s.faults exit.after.out.faults) run.given_out one.caused))
smooth_answer before exit setup ending told smooth run given same (Zeroed disk rec) named counted one = absurd (layout_smooth before exit setup ending told smooth run given same _ one refl)
smooth_answer before exit setup ending told smooth run given same (Emptied disk) named counted one = absurd (layout_smooth before exit setup ending told smooth run given same _ one refl)
smooth_answer before exit setup ending told smooth run given same (Full blocks files) named counted one = absurd (layout_smooth before exit setup ending told smooth run given same _ one refl)
smooth_answer before exit setup ending told smooth run given same (Broken (Folder disk)) named counted one =
    let held = are_held before exit setup ending told run smooth.tells in
    absurd (smooth.unbroken.folders disk (subst (λ v. BreaksFolder v (folder_at exit.after.folders disk)) (held.1 disk one.caused.0) (folder_breaks disk told _ _ one.caused.1)))
smooth_answer before exit setup ending told smooth run given same (Broken Vault) named counted one =
    let broke = vault_broke run.task.command run.task one.table one.start (world_of exit.after) _ run.did one.does refl in
    absurd (smooth.unbroken.vault (subst (λ (s : VaultState). BreaksVault (view_of s) (left_vault exit)) same (breaks_since given one.start.vault (state_of exit.after.vault) one.reads.vault broke.0 broke.1)))
smooth_answer before exit setup ending told smooth run given same (Broken Memory) named counted one = inr refl

smooth_ending : (before : Entry) (exit : Exit) (setup : SetupValue) (ending : Ending) (told : List Event) → IsSmooth before exit → (run : IsRun before exit setup ending told)
    → (given : VaultState) → given ≡ state_of before.opener.vault → Goes run.task (record { folders = run.given.folders; vault = given; out = run.given.out }) (world_of exit.after) ending told run.did
    → IsDoneOrMemory (ending_status ending)
smooth_ending before exit setup (NotLoaded loads.Failed) told smooth run given same goes =
    absurd (smooth.unbroken.vault (failed_load_breaks (held_vault before) (left_vault exit) (subst (λ (s : VaultState). LoadFails (view_of s) (left_vault exit)) same goes.2)))
smooth_ending before exit setup (NotLoaded (loads.Damaged damages)) told smooth run given same goes =
    absurd (not_damaged (held_vault before) (left_vault exit) damages smooth.tells_vault smooth.content (subst (λ (s : VaultState). LoadIsDamaged (view_of s) (left_vault exit) damages) same goes.2))
smooth_ending before exit setup (NotLoaded loads.Memory) told smooth run given same goes = inr refl
smooth_ending before exit setup NoTable told smooth run given same goes = inr refl
smooth_ending before exit setup (OtherArray difference content) told smooth run given same goes =
    let loaded = subst (λ (s : VaultState). LoadsTable (view_of s) (left_vault exit) content) same goes.1.loads in
    let of = run.setup_is ∙ same_setup before exit run.task.command run.task.readers setup smooth run.is_given.configured in
    absurd (matches_not_differs smooth.setup content difference (smooth.agrees content loaded) (subst (λ (s : SetupValue). DiffersIn s content difference) of goes.1.differs))
smooth_ending before exit setup (Answered answer named) told smooth run given same goes =
    smooth_answer before exit setup (Answered answer named) told smooth run given same answer named goes.0 goes.1

-- an exercise whose output did not fail
pub exercise_is_done : (n : ℕ) (out out_new : SinkView) (answer : Answer) → Exercises n out out_new answer → ¬ (Rose out.faults out_new.faults) → IsDoneOrMemory (answer_status answer)
exercise_is_done n out out_new answer (inl printed) unfailed =
    inl (subst (λ (a : Answer). answer_status a ≤ 1) (sym printed.prints.answer_is)
    (done_status (if is_well printed.summary then 0 else 1) printed.prints.failed (λ failed. unfailed (printed.prints.told.cause refl failed))))
exercise_is_done n out out_new answer (inr ran_out) unfailed = inr (ap answer_status ran_out.answer_is)

pub smooth_is_done : (before : Entry) (exit : Exit) (end : End) (told : List Event) (status : ℕ) → status ≡ status_of end → Ran before exit end told → IsSmooth before exit → IsDoneOrMemory status
smooth_is_done before exit (Refused why) told status is ran smooth = subst IsDoneOrMemory (sym is) (smooth_refusal before exit why told smooth ran)
smooth_is_done before exit (Worked setup ending) told status is ran smooth =
    subst IsDoneOrMemory (sym is) (smooth_ending before exit (setup_value setup) ending told smooth ran ran.given.vault (given_held before exit (setup_value setup) ending told ran smooth.tells) ran.goes)
smooth_is_done before exit (Exercised answer) told status is ran smooth =
    subst IsDoneOrMemory (sym is) (exercise_is_done ran.number before.out exit.after.out answer ran.exercises smooth.out)
