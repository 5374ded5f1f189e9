-- A fix that broke off printed a front of what another one printed.
use Rattle.std.proofs.Common.{◌≡◌, ◌≢◌, ℕ, ◌+◌, ◌<◌, ◌≤◌, List, [], ◌∷◌, length, map, get_or, ⊎_elim, is_some, true, false, IsTrue, Option, Ok, refl, sym, ap, ◌∙◌, subst, arith}
use Rattle.std.specs.Prelude.{count_by}
use Rattle.content_file.specs.declared.loading.LoadFault.TheVariants as loads
use Rattle.disk_model.specs.Cause.{RoseBy}
use Rattle.disk_model.specs.Folder.{FolderView}
use Rattle.disk_model.specs.Opener.{OpenerView}
use Rattle.disk_model.specs.Sink.{SinkView}
use Rattle.disk_model.specs.Vault.{VaultView}
use Rattle.disk_memory.specs.Folder.{fresh_folder}
use Rattle.disk_memory.specs.Vault.{VaultValue, view_of}
use Rattle.file_table.specs.Table.{TableValue}
use Rattle.array_setup.specs.Setup.{SetupValue, setup_value}
use Rattle.snap_config.specs.declared.options.Command.TheVariants as commands
use Rattle.array_setup.specs.declared.ways.Selection.{Selection}
use Rattle.snap_report.specs.Answer.{is_parity_io, status_of as answer_status}
use Rattle.snap_report.specs.declared.answer.Answer.{Answer}
use Rattle.snap_report.specs.declared.answer.Answer.TheVariants as answers
use Rattle.snap_report.specs.declared.answer.RunFault.{RunFault}
use Rattle.snap_report.specs.declared.answer.RunFault.TheVariants as runs
use Rattle.snap_report.specs.declared.events.Event.{Event}
use Rattle.stripe_reader.specs.Columns.{folder_at}
use Rattle.snap_top.specs.Alike.{HoldAlike, SeenAlike, seen_by}
use Rattle.snap_top.specs.Unbroken.{NothingRose}
use Rattle.snap_top.specs.BrokeOff.{BrokeOff, FixBrokeOff, PrintsFront, ReadsRight, RoseOnceBy, answered, left_of, seen_so_far}
use Rattle.snap_top.specs.End.{status_of}
use Rattle.snap_top.specs.FixedAlike.{KeepStampsAlike}
use Rattle.snap_top.specs.Fixing.{FixBroke}
use Rattle.snap_top.specs.LeftAlike.{AskSame}
use Rattle.snap_top.specs.Stands.{TellsAll}
use Rattle.snap_top.specs.Asked.{asked_by}
use Rattle.snap_top.specs.Restoring.{EndsFixed, events_in}
use Rattle.snap_top.specs.RunOf.{RunOf}
use Rattle.snap_top.specs.Run.{HasAccount, IsAnswered, IsRun, Ran}
use Rattle.snap_top.specs.Entry.{Entry, Exit}
use Rattle.snap_top.specs.Standing.{after_of, before_of, nothing_synced}
use Rattle.snap_top.specs.Views.{world_of}
use Rattle.snap_top.specs.declared.end.End.{End}
use Rattle.snap_top.specs.declared.end.End.TheVariants.{Exercised, Refused, Worked}
use Rattle.snap_top.specs.declared.end.Ending.TheVariants.{NotLoaded, NoTable, OtherArray, Answered}
use Rattle.snap_top.proofs.AskedLemmas.{command_asked}
use Rattle.snap_top.proofs.BrokeOffLemmas.{LeftUntold, configured, does_as, fix_broke, folders_are, out_is}
use Rattle.snap_top_histories.specs.Lived.{standing_of}
use Rattle.snap_top_histories.specs.Repeated.{are_calm}
use Rattle.snap_top_histories.proofs.RepeatedLemmas.{few_is, hold_alike, nothing_rose}
use Rattle.snap_top_histories.proofs.ResumedLemmas.{none_rose, not_risen}
use Rattle.snap_top_instances.specs.Asked.{AsksFor, everything}
use Rattle.snap_top_breaks.specs.Broken.{FailedOnce, IsFrontPrinted}
use Rattle.snap_top_instances.specs.Told.{RunsTold}
use Rattle.snap_top_instances.proofs.EndsLemmas.{ask_same, ends_fixed}

-- ---- a folder that failed

-- there is one folder, of which one call failed
pub failed_of : {F : Type 0} (folder_view : F → FolderView) (folders : List F) (folder default : F) → length folders ≡ 1 → folder ≡ get_or folders 0 default → (folder_view folder).faults ≡ 1
    → FailedOnce (map folder_view folders)
failed_of folder_view [] folder default one is faults = absurd (omega (arith, one))
failed_of folder_view (first ∷ []) folder default one is faults = record { one = refl; faults = ap (λ it. (folder_view it).faults) (sym is) ∙ faults }
failed_of folder_view (first ∷ second ∷ folders) folder default one is faults = absurd (omega (arith, one))

-- ---- what broke it off

-- it broke off by a folder that the opener held
pub record BrokeByFolder (before : Entry) (exit : Exit) : Type 0 where
  pub broke : BrokeOff before exit
  pub disk : ℕ
  pub fault_is : broke.fault ≡ runs.Folder disk
  pub within : disk < length before.opener.folders

pub not_risen_by : (n before now : ℕ) → now ≡ 0 → RoseBy (n + 1) before now → ⊥
not_risen_by n before now none rose = omega (arith, none, rose)

pub not_twice : (before now : ℕ) → now ≡ 1 → RoseBy 2 before now → ⊥
not_twice before now once rose = omega (arith, once, rose)

-- with status 3, where neither the vault nor the output failed
module _ (before : Entry) (exit : Exit) (tells : IsTrue before.opener.tells) (opened : exit.has_vault ≡ true) (vault : exit.after.vault.faults ≡ 0) (out : exit.after.out.faults ≡ 0) where
  by_answer : (setup : SetupValue) (answer : Answer) (named : Option TableValue) (told : List Event) → IsRun before exit setup (Answered answer named) told → answer_status answer ≡ 3 → BrokeByFolder before exit
  by_answer setup answers.Clean named told ran three = absurd (omega (arith, three))
  by_answer setup answers.Found named told ran three = absurd (omega (arith, three))
  by_answer setup answers.OutputFailed named told ran three = absurd (not_risen ran.given.out.faults exit.after.out.faults out ran.goes.1.caused)
  by_answer setup (answers.Zeroed disk rec) named told ran three = absurd (omega (arith, three))
  by_answer setup (answers.Emptied disk) named told ran three = absurd (omega (arith, three))
  by_answer setup (answers.Full blocks files) named told ran three = absurd (omega (arith, three))
  by_answer setup (answers.Broken (runs.Folder disk)) named told ran three =
      let within : disk < length ran.given.folders = ran.goes.1.caused.0 in
      let many : length ran.given.folders ≡ length before.opener.folders = ran.is_given.just tells in
      record {
        broke = record { setup = setup; fault = runs.Folder disk; named = named; told = told; ran = ran };
        disk = disk;
        fault_is = refl;
        within = omega (arith, within, many);
      }
  by_answer setup (answers.Broken runs.Vault) named told ran three = absurd (not_risen_by (count_by is_parity_io told) ran.given.vault.faults exit.after.vault.faults vault ran.goes.1.caused.rose)
  by_answer setup (answers.Broken runs.Memory) named told ran three = absurd (omega (arith, three))

  by_end : (end : End) (told : List Event) (status : ℕ) → status ≡ status_of end → Ran before exit end told → status ≡ 3 → BrokeByFolder before exit
  by_end (Refused why) told status is ran three = absurd (let clash : true ≡ false = sym opened ∙ ran.no_vault in cc)
  by_end (Exercised answer) told status is ran three = absurd (let clash : true ≡ false = sym opened ∙ ran.no_vault in cc)
  by_end (Worked setup (NotLoaded loads.Failed)) told status is ran three = absurd (not_risen ran.given.vault.faults exit.after.vault.faults vault ran.goes.2.some.1.rose)
  by_end (Worked setup (NotLoaded (loads.Damaged damages))) told status is ran three = absurd (omega (arith, is, three))
  by_end (Worked setup (NotLoaded loads.Memory)) told status is ran three = absurd (omega (arith, is, three))
  by_end (Worked setup NoTable) told status is ran three = absurd (omega (arith, is, three))
  by_end (Worked setup (OtherArray difference content)) told status is ran three = absurd (omega (arith, is, three))
  by_end (Worked setup (Answered answer named)) told status is ran three = by_answer (setup_value setup) answer named told ran (sym is ∙ three)

  pub broke_by_folder : (status : ℕ) → HasAccount before exit status → status ≡ 3 → BrokeByFolder before exit
  broke_by_folder status account three = by_end account.end account.told status account.status_is account.ran three

  -- of one folder
  pub first_broke : (by : BrokeByFolder before exit) → length before.opener.folders ≡ 1 → by.broke.fault ≡ runs.Folder 0
  first_broke by one =
      let within = by.within in
      let first : by.disk ≡ 0 = omega (arith, one, within) in
      by.fault_is ∙ ap (λ (d : ℕ). runs.Folder d) first

  -- of one folder, of which one call failed
  pub rose_once : (fault : RunFault) → fault ≡ runs.Folder 0 → length before.opener.folders ≡ 1 → (folder_at exit.after.folders 0).faults ≡ 1 → RoseOnceBy fault before exit
  rose_once fault is one faults =
      subst (λ (its : RunFault). RoseOnceBy its before exit) (sym is) (record {
        others = λ d below apart. absurd (apart (omega (arith, below, one)));
        once = λ rose. not_twice _ _ faults rose;
        vault = λ rose. not_risen before.opener.vault.faults exit.after.vault.faults vault rose;
      })

  -- it was a fix of one folder, of which one call failed
  module _ (by : BrokeByFolder before exit) (is_first : by.broke.fault ≡ runs.Folder 0) (one : length before.opener.folders ≡ 1) (faults : (folder_at exit.after.folders 0).faults ≡ 1)
      (tells_vault : IsTrue before.opener.vault.tells) (selection : Selection) (command_is : by.broke.ran.task.command ≡ commands.Fix selection) where
    abbrev its : IsAnswered by.broke.ran.task by.broke.ran.given (world_of exit.after) (left_of by.broke) by.broke.ran.did
    its = answered by.broke

    abbrev IsFix : Type 0
    IsFix = (off : FixBrokeOff before exit) × (off.broke.fault ≡ runs.Folder 0)

    -- it did not break off before
    told_some : exit.after.out.written ≢ before.out.written → LeftUntold its.start (world_of exit.after) (left_of by.broke) → IsFix
    told_some some none = absurd (some (ap (λ (out : SinkView). out.written) (none.out ∙ out_is before exit tells tells_vault by.broke)))

    as_fix : FixBroke by.broke.fault selection by.broke.ran.task its.table its.start (world_of exit.after) (left_of by.broke) by.broke.ran.did → IsFix
    as_fix fix = (record { broke = by.broke; selection = selection; command_is = command_is; fix = fix }, is_first)

    pub broke_off : exit.after.out.written ≢ before.out.written → IsFix
    broke_off some = ⊎_elim (told_some some) as_fix
        (fix_broke by.broke.fault selection by.broke.ran.task its.table its.start (world_of exit.after) (left_of by.broke) by.broke.ran.did
        (does_as before exit tells tells_vault by.broke (commands.Fix selection) command_is))

module _ {O F V W : Type 0} (opener_view : O → OpenerView) (folder_view : F → FolderView) (vault_view : V → VaultView) (sink_view : W → SinkView) where
  abbrev begun : RunOf O F V W → Entry
  begun run = before_of opener_view folder_view vault_view sink_view run

  abbrev ended : RunOf O F V W → Exit
  ended run = after_of opener_view folder_view vault_view sink_view run

  abbrev IsTold : List ℕ → List (List ℕ) → List ℕ → List FolderView → VaultView → ℕ → List F → V → List ℕ → Type 0
  IsTold config texts seed folders vault status left_folders left printed =
      RunsTold opener_view folder_view vault_view sink_view config texts seed folders vault status left_folders left printed

  -- what the laws say of a fix that broke off: how it read, what it saw, and what it printed
  abbrev pub FixesReadRight : Type 0
  FixesReadRight = (run : RunOf O F V W) (off : FixBrokeOff (begun run) (ended run)) → TellsAll (begun run) → RoseOnceBy off.broke.fault (begun run) (ended run) → ReadsRight off

  abbrev pub FixesSeeFirst : Type 0
  FixesSeeFirst = (run again : RunOf O F V W) (other : EndsFixed (begun again) (ended again) again.status) (off : FixBrokeOff (begun run) (ended run)) → HoldAlike (begun run) (begun again)
      → AskSame (begun run) (begun again) → RoseOnceBy off.broke.fault (begun run) (ended run) → NothingRose (begun again) (ended again) → SeenAlike (seen_so_far off) (seen_by other.run)

  abbrev pub SeenFixesPrintFront : Type 0
  SeenFixesPrintFront = (run again : RunOf O F V W) (other : EndsFixed (begun again) (ended again) again.status) (off : FixBrokeOff (begun run) (ended run)) → HoldAlike (begun run) (begun again)
      → KeepStampsAlike (begun run) (begun again) → SeenAlike (seen_so_far off) (seen_by other.run)
      → PrintsFront off.broke.told (events_in other.run other.finishes) (begun run) (begun again) (ended run) (ended again) again.status

  pub front_printed : (config : List ℕ) (texts others : List (List ℕ)) (seed : List ℕ) (folders folders_then : List FolderView) (one other : VaultValue) (status status_then : ℕ) (left_folders then_folders : List F)
      (left left_then : V) (printed printed_then : List ℕ) → FixesReadRight → FixesSeeFirst → SeenFixesPrintFront → AsksFor (commands.Fix everything) texts → AsksFor (commands.Fix everything) others → other ≡ one
      → folders ≡ fresh_folder true ∷ [] → folders_then ≡ fresh_folder true ∷ []
      → IsTold config texts seed folders (view_of one) status left_folders left printed → status ≡ 3 → (vault_view left).faults ≡ 0 → printed ≢ [] → printed ≢ printed_then → FailedOnce (map folder_view left_folders)
      → IsTold config others seed folders_then (view_of other) status_then then_folders left_then printed_then → (vault_view left_then).faults ≡ 0 → are_calm folder_view then_folders ≡ true
      → status_then ≤ 1 → IsFrontPrinted opener_view folder_view vault_view sink_view
  front_printed config texts others seed folders folders_then one other status status_then left_folders then_folders left left_then printed printed_then
      reads_right sees_first prints_front asks asks_then same_value are_new are_new_then runs three faults some less failed again faults_then calm_then few_then =
      let run : RunOf O F V W = runs.over.run in
      let run_then : RunOf O F V W = again.over.run in
      let same : standing_of config folders_then (view_of other) nothing_synced ≡ standing_of config folders (view_of one) nothing_synced
      = ap (λ (v : VaultValue). standing_of config folders_then (view_of v) nothing_synced) same_value
      ∙ ap (λ (fs : List FolderView). standing_of config fs (view_of one) nothing_synced) (are_new_then ∙ sym are_new) in
      let begins = runs.over.begins nothing_synced in
      let begins_then = again.over.begins nothing_synced in
      let hold : HoldAlike (begun run) (begun run_then)
      = hold_alike opener_view folder_view vault_view sink_view (standing_of config folders (view_of one) nothing_synced) (standing_of config folders_then (view_of other) nothing_synced) (begun run) (begun run_then)
      begins begins_then same (runs.over.seed_is ∙ sym again.over.seed_is) in
      let ask : AskSame (begun run) (begun run_then) = ask_same (commands.Fix everything) (begun run) (begun run_then)
      (subst (AsksFor (commands.Fix everything)) (sym runs.over.texts_are) asks) (subst (AsksFor (commands.Fix everything)) (sym again.over.texts_are) asks_then) in
      let stamps : KeepStampsAlike (begun run) (begun run_then)
      = λ d. ap (λ (fs : List FolderView). (folder_at fs d).keeps) (runs.held ∙ are_new ∙ sym are_new_then ∙ sym again.held) in
      let well : NothingRose (begun run_then) (ended run_then)
      = nothing_rose opener_view folder_view vault_view sink_view config others seed folders_then (view_of other) status_then then_folders left_then again.over faults_then calm_then in
      let words_then : asked_by run_then.texts ≡ Ok asks_then.asked = subst (λ (ts : List (List ℕ)). asked_by ts ≡ Ok asks_then.asked) (sym again.over.texts_are) asks_then.words in
      let other_ends : EndsFixed (begun run_then) (ended run_then) run_then.status
      = ends_fixed (begun run_then) (ended run_then) run_then.status begins_then.tells asks_then.asked words_then again.over.step (few_is run_then.status status_then 1 again.over.status_is few_then) everything asks_then.command_is in
      let opened : (ended run).has_vault ≡ true = ap (λ (v : Option V). is_some v) runs.over.vault_is in
      let vault : (ended run).after.vault.faults ≡ 0 = none_rose opener_view folder_view vault_view sink_view config texts seed folders (view_of one) status left_folders left runs.over faults in
      let by : BrokeByFolder (begun run) (ended run)
      = broke_by_folder (begun run) (ended run) begins.tells.tells opened vault runs.out_faults run.status (runs.account begins.tells.tells) (runs.over.status_is ∙ three) in
      let single : length (begun run).opener.folders ≡ 1 = ap length (runs.held ∙ are_new) in
      let failed_once : (folder_at (ended run).after.folders 0).faults ≡ 1 = ap (λ (fs : List F). (folder_at (map folder_view fs) 0).faults) runs.over.folders_are ∙ failed.faults in
      let words : asked_by run.texts ≡ Ok asks.asked = subst (λ (ts : List (List ℕ)). asked_by ts ≡ Ok asks.asked) (sym runs.over.texts_are) asks.words in
      let is_fix : by.broke.ran.task.command ≡ commands.Fix everything
      = command_asked (begun run) begins.tells.tells asks.asked words _ _ _ (configured (begun run) (ended run) begins.tells.tells begins.tells.tells_vault by.broke) ∙ asks.command_is in
      let printed_some : (ended run).after.out.written ≢ (begun run).out.written = λ none. some (sym runs.printed_is ∙ none ∙ runs.out_begins) in
      let off = broke_off (begun run) (ended run) begins.tells.tells opened vault runs.out_faults by (first_broke (begun run) (ended run) begins.tells.tells opened vault runs.out_faults by single) single failed_once
      begins.tells.tells_vault everything is_fix printed_some in
      let once : RoseOnceBy off.0.broke.fault (begun run) (ended run) = rose_once (begun run) (ended run) begins.tells.tells opened vault runs.out_faults off.0.broke.fault off.1 single failed_once in
      let seen : SeenAlike (seen_so_far off.0) (seen_by other_ends.run) = sees_first run run_then other_ends off.0 hold ask once well in
      record {
        run = run;
        again = run_then;
        off = off.0;
        fault_is = off.1;
        other = other_ends;
        hold = hold;
        ask = ask;
        stamps = stamps;
        once = once;
        well = well;
        few = few_is run_then.status status_then 1 again.over.status_is few_then;
        printed_some = printed_some;
        out_begins = runs.out_begins ∙ sym again.out_begins;
        printed_less = λ same. less (sym runs.printed_is ∙ same ∙ again.printed_is);
        right = reads_right run off.0 begins.tells once;
        seen = seen;
        front = prints_front run run_then other_ends off.0 hold stamps seen;
      }
