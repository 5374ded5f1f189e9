-- A scrub that broke off printed a front of what another one printed.
use Rattle.std.proofs.Common.{◌≡◌, ◌≢◌, ◌⊎◌, inl, inr, ℕ, ◌≤◌, List, [], ◌∷◌, map, is_some, true, false, IsTrue, Option, Ok, refl, sym, ap, ◌∙◌, subst, arith}
use Rattle.std.specs.Prelude.{count_by}
use Rattle.content_file.specs.declared.loading.LoadFault.TheVariants as loads
use Rattle.disk_model.specs.Folder.{FolderView}
use Rattle.disk_model.specs.Opener.{OpenerView}
use Rattle.disk_model.specs.Sink.{SinkView}
use Rattle.disk_model.specs.Tree.{Tree}
use Rattle.disk_model.specs.Vault.{VaultView, copies_of}
use Rattle.disk_memory.specs.Vault.{VaultValue, fresh_vault, view_of}
use Rattle.file_table.specs.Table.{TableValue}
use Rattle.array_setup.specs.Setup.{SetupValue, setup_value}
use Rattle.snap_config.specs.declared.options.Command.TheVariants as commands
use Rattle.array_setup.specs.declared.ways.ScrubWay.{ScrubWay}
use Rattle.snap_report.specs.Answer.{is_io_of, status_of as answer_status}
use Rattle.snap_report.specs.declared.answer.Answer.{Answer}
use Rattle.snap_report.specs.declared.answer.Answer.TheVariants as answers
use Rattle.snap_report.specs.declared.answer.RunFault.{RunFault}
use Rattle.snap_report.specs.declared.answer.RunFault.TheVariants as runs
use Rattle.snap_report.specs.declared.events.Event.{Event}
use Rattle.snap_sync.specs.Part.{trees_of}
use Rattle.stripe_reader.specs.Columns.{folder_at}
use Rattle.snap_top.specs.Alike.{HoldAlike}
use Rattle.snap_top.specs.Unbroken.{NothingRose}
use Rattle.snap_top.specs.BrokeOff.{BrokeOff, PrintsFront, RoseOnce, RoseOnceBy, ScrubBrokeOff, answered, left_of}
use Rattle.snap_top.specs.End.{status_of}
use Rattle.snap_top.specs.LastSynced.{LastSynced}
use Rattle.snap_top.specs.LeftAlike.{AskSame}
use Rattle.snap_top.specs.Levels.{said_by}
use Rattle.snap_top.specs.Asked.{asked_by}
use Rattle.snap_top.specs.RunOf.{RunOf}
use Rattle.snap_top.specs.Run.{HasAccount, IsRun, Ran}
use Rattle.snap_top.specs.Entry.{Entry, Exit, vault_in}
use Rattle.snap_top.specs.Scrubbed.{EndsScrubbed, events_scrubbed}
use Rattle.snap_top.specs.Standing.{Edits, IsOrigin, Runs, Stage, Standing, after_of, before_of, nothing_synced}
use Rattle.snap_top.specs.Scrubbing.{ScrubBreaks}
use Rattle.snap_top.specs.Views.{World, world_of}
use Rattle.snap_top.specs.declared.end.End.{End}
use Rattle.snap_top.specs.declared.end.End.TheVariants.{Exercised, Refused, Worked}
use Rattle.snap_top.specs.declared.end.Ending.TheVariants.{NotLoaded, NoTable, OtherArray, Answered}
use Rattle.snap_top.proofs.AskedLemmas.{command_asked}
use Rattle.snap_top.proofs.BrokeOffLemmas.{LeftUntold, configured, does_as, out_is, scrub_broke}
use Rattle.snap_top_histories.specs.Lived.{IsLeftOf, standing_of}
use Rattle.snap_top_histories.specs.Repeated.{are_calm}
use Rattle.snap_top_histories.proofs.LivedLemmas.{goes_with, trees_kept}
use Rattle.snap_top_histories.proofs.RepeatedLemmas.{calm_at, few_is, hold_alike, nothing_rose}
use Rattle.snap_top_histories.proofs.ResumedLemmas.{HoldsAlways, begins_nothing, not_risen}
use Rattle.snap_top_histories.proofs.SeenLemmas.{faults_seen}
use Rattle.snap_top_instances.specs.Asked.{AsksFor, full_scrub, plain_sync}
use Rattle.snap_top_breaks.specs.BrokenScrub.{IsFrontOfScrub}
use Rattle.snap_top_instances.specs.Told.{RunsTold}
use Rattle.snap_top_breaks.proofs.BrokenLemmas.{not_risen_by, not_twice}
use Rattle.snap_top_instances.proofs.EndsLemmas.{ask_same, ends_scrubbed, no_fix_of}

-- ---- what broke it off

pub record BrokeByVault (before : Entry) (exit : Exit) : Type 0 where
  pub broke : BrokeOff before exit
  pub fault_is : broke.fault ≡ runs.Vault

-- with status 3, where neither a folder nor the output failed, and something was printed
module _ (before : Entry) (exit : Exit) (opened : exit.has_vault ≡ true) (calm : (d : ℕ) → (folder_at exit.after.folders d).faults ≡ 0) (out : exit.after.out.faults ≡ 0)
    (some : exit.after.out.written ≢ before.out.written) where
  by_answer : (setup : SetupValue) (answer : Answer) (named : Option TableValue) (told : List Event) → IsRun before exit setup (Answered answer named) told → answer_status answer ≡ 3 → BrokeByVault before exit
  by_answer setup answers.Clean named told ran three = absurd (omega (arith, three))
  by_answer setup answers.Found named told ran three = absurd (omega (arith, three))
  by_answer setup answers.OutputFailed named told ran three = absurd (not_risen ran.given.out.faults exit.after.out.faults out ran.goes.1.caused)
  by_answer setup (answers.Zeroed disk rec) named told ran three = absurd (omega (arith, three))
  by_answer setup (answers.Emptied disk) named told ran three = absurd (omega (arith, three))
  by_answer setup (answers.Full blocks files) named told ran three = absurd (omega (arith, three))
  by_answer setup (answers.Broken (runs.Folder disk)) named told ran three =
      absurd (not_risen_by (count_by (is_io_of disk) told) (folder_at ran.given.folders disk).faults (folder_at exit.after.folders disk).faults (calm disk) ran.goes.1.caused.1.rose)
  by_answer setup (answers.Broken runs.Vault) named told ran three = record {
    broke = record { setup = setup; fault = runs.Vault; named = named; told = told; ran = ran };
    fault_is = refl;
  }
  by_answer setup (answers.Broken runs.Memory) named told ran three = absurd (omega (arith, three))

  by_end : (end : End) (told : List Event) (status : ℕ) → status ≡ status_of end → Ran before exit end told → status ≡ 3 → BrokeByVault before exit
  by_end (Refused why) told status is ran three = absurd (let clash : true ≡ false = sym opened ∙ ran.no_vault in cc)
  by_end (Exercised answer) told status is ran three = absurd (let clash : true ≡ false = sym opened ∙ ran.no_vault in cc)
  by_end (Worked setup (NotLoaded loads.Failed)) told status is ran three =
      absurd (some (ap (λ (world : World). world.out.written) ran.goes.1.others ∙ ap (λ (sink : SinkView). sink.written) ran.given_out))
  by_end (Worked setup (NotLoaded (loads.Damaged damages))) told status is ran three = absurd (omega (arith, is, three))
  by_end (Worked setup (NotLoaded loads.Memory)) told status is ran three = absurd (omega (arith, is, three))
  by_end (Worked setup NoTable) told status is ran three = absurd (omega (arith, is, three))
  by_end (Worked setup (OtherArray difference content)) told status is ran three = absurd (omega (arith, is, three))
  by_end (Worked setup (Answered answer named)) told status is ran three = by_answer (setup_value setup) answer named told ran (sym is ∙ three)

  pub broke_by_vault : (status : ℕ) → HasAccount before exit status → status ≡ 3 → BrokeByVault before exit
  broke_by_vault status account three = by_end account.end account.told status account.status_is account.ran three

  -- of the vault one call failed
  pub rose_once : (fault : RunFault) → fault ≡ runs.Vault → exit.after.vault.faults ≡ 1 → RoseOnceBy fault before exit
  rose_once fault is once =
      subst (λ (its : RunFault). RoseOnceBy its before exit) (sym is) (record {
        folders = λ d below rose. not_risen _ _ (calm d) rose;
        vault = λ rose. not_twice _ _ once rose;
      })

-- it was a scrub, since it printed something
scrub_off : (before : Entry) (exit : Exit) → IsTrue before.opener.tells → IsTrue before.opener.vault.tells → (by : BrokeByVault before exit) → exit.after.out.written ≢ before.out.written
    → (way : ScrubWay) → by.broke.ran.task.command ≡ commands.Scrub way → (off : ScrubBrokeOff before exit) × (off.broke.fault ≡ runs.Vault)
scrub_off before exit tells tells_vault by some way command_is =
    take (scrub_broke by.broke.fault way by.broke.ran.task (answered by.broke).table (answered by.broke).start (world_of exit.after) (left_of by.broke) by.broke.ran.did
    (does_as before exit tells tells_vault by.broke (commands.Scrub way) command_is))
  where
    take : LeftUntold (answered by.broke).start (world_of exit.after) (left_of by.broke)
        ⊎ ((by.broke.fault ≡ runs.Vault) × ScrubBreaks way by.broke.ran.task (answered by.broke).table (answered by.broke).start (world_of exit.after) (left_of by.broke) by.broke.ran.did)
        → (off : ScrubBrokeOff before exit) × (off.broke.fault ≡ runs.Vault)
    take (inl none) = absurd (some (ap (λ (out : SinkView). out.written) (none.out ∙ out_is before exit tells tells_vault by.broke)))
    take (inr breaks) = (record { broke = by.broke; way = way; command_is = command_is; scrub = breaks.1 }, by.fault_is)

module _ {O F V W : Type 0} (opener_view : O → OpenerView) (folder_view : F → FolderView) (vault_view : V → VaultView) (sink_view : W → SinkView) where
  abbrev begun : RunOf O F V W → Entry
  begun run = before_of opener_view folder_view vault_view sink_view run

  abbrev ended : RunOf O F V W → Exit
  ended run = after_of opener_view folder_view vault_view sink_view run

  abbrev IsTold : List ℕ → List (List ℕ) → List ℕ → List FolderView → VaultView → ℕ → List F → V → List ℕ → Type 0
  IsTold config texts seed folders vault status left_folders left printed =
      RunsTold opener_view folder_view vault_view sink_view config texts seed folders vault status left_folders left printed

  -- what the law says of a scrub that broke off
  abbrev pub ScrubsPrintFront : Type 0
  ScrubsPrintFront = (run again : RunOf O F V W) (other : EndsScrubbed (begun again) (ended again) again.status) (broke : BrokeOff (begun run) (ended run)) → HoldAlike (begun run) (begun again)
      → AskSame (begun run) (begun again) → run.moment ≡ again.moment → RoseOnceBy broke.fault (begun run) (ended run) → NothingRose (begun again) (ended again)
      → PrintsFront broke.told (events_scrubbed other.run) (begun run) (begun again) (ended run) (ended again) again.status

  -- and of what it read
  abbrev pub ScrubsReadSame : Type 0
  ScrubsReadSame = (run again : RunOf O F V W) (other : EndsScrubbed (begun again) (ended again) again.status) (off : ScrubBrokeOff (begun run) (ended run)) → HoldAlike (begun run) (begun again)
      → AskSame (begun run) (begun again) → run.moment ≡ again.moment → RoseOnce (begun run) (ended run) → NothingRose (begun again) (ended again)
      → ((answered off.broke).table ≡ other.run.loaded) × (off.scrub.course.readings ≡ other.run.readings)

  -- two scrubs of what stands, for the same
  module _ (config : List ℕ) (texts others : List (List ℕ)) (seed : List ℕ) (folders folders_then : List FolderView) (vault vault_then : VaultView) (last : LastSynced) (status status_then : ℕ)
      (left_folders then_folders : List F) (left left_then : V) (printed printed_then : List ℕ)
      (runs : IsTold config texts seed folders vault status left_folders left printed) (again : IsTold config others seed folders_then vault_then status_then then_folders left_then printed_then) where
    abbrev run : RunOf O F V W
    run = runs.over.run

    abbrev run_then : RunOf O F V W
    run_then = again.over.run

    faults_left : (ended run).after.vault.faults ≡ (vault_view left).faults
    faults_left = faults_seen (said_by (opener_view run.opener).config) (vault_in vault_view (opener_view run.opener_new).vault run.vault)
        ∙ ap (λ (v : Option V). (vault_in vault_view (opener_view run.opener_new).vault v).faults) runs.over.vault_is

    pub front_of_scrub : ScrubsPrintFront → ScrubsReadSame → AsksFor (commands.Scrub full_scrub) texts → AsksFor (commands.Scrub full_scrub) others
        → standing_of config folders_then vault_then last ≡ standing_of config folders vault last
        → status ≡ 3 → (vault_view left).faults ≡ 1 → are_calm folder_view left_folders ≡ true → printed ≢ [] → printed ≢ printed_then
        → (vault_view left_then).faults ≡ 0 → are_calm folder_view then_folders ≡ true → status_then ≤ 1 → IsFrontOfScrub opener_view folder_view vault_view sink_view
    front_of_scrub law read_law asks asks_then same three once calm some less faults_then calm_then few_then =
        let begins = runs.over.begins last in
        let begins_then = again.over.begins last in
        let hold : HoldAlike (begun run) (begun run_then)
        = hold_alike opener_view folder_view vault_view sink_view (standing_of config folders vault last) (standing_of config folders_then vault_then last) (begun run) (begun run_then)
        begins begins_then same (runs.over.seed_is ∙ sym again.over.seed_is) in
        let ask : AskSame (begun run) (begun run_then) = ask_same (commands.Scrub full_scrub) (begun run) (begun run_then)
        (subst (AsksFor (commands.Scrub full_scrub)) (sym runs.over.texts_are) asks) (subst (AsksFor (commands.Scrub full_scrub)) (sym again.over.texts_are) asks_then) in
        let at_once : run.moment ≡ run_then.moment = runs.moment_is ∙ sym again.moment_is in
        let well : NothingRose (begun run_then) (ended run_then)
        = nothing_rose opener_view folder_view vault_view sink_view config others seed folders_then vault_then status_then then_folders left_then again.over faults_then calm_then in
        let words_then : asked_by run_then.texts ≡ Ok asks_then.asked = subst (λ (ts : List (List ℕ)). asked_by ts ≡ Ok asks_then.asked) (sym again.over.texts_are) asks_then.words in
        let other : EndsScrubbed (begun run_then) (ended run_then) run_then.status
        = ends_scrubbed (begun run_then) (ended run_then) run_then.status begins_then.tells asks_then.asked words_then again.over.step
        (few_is run_then.status status_then 1 again.over.status_is few_then) full_scrub asks_then.command_is in
        let opened : (ended run).has_vault ≡ true = ap (λ (v : Option V). is_some v) runs.over.vault_is in
        let quiet : (d : ℕ) → (folder_at (ended run).after.folders d).faults ≡ 0
        = λ d. ap (λ (fs : List F). (folder_at (map folder_view fs) d).faults) runs.over.folders_are ∙ calm_at opener_view folder_view vault_view sink_view left_folders calm d in
        let printed_some : (ended run).after.out.written ≢ (begun run).out.written = λ none. some (sym runs.printed_is ∙ none ∙ runs.out_begins) in
        let by : BrokeByVault (begun run) (ended run)
        = broke_by_vault (begun run) (ended run) opened quiet runs.out_faults printed_some run.status (runs.account begins.tells.tells) (runs.over.status_is ∙ three) in
        let words : asked_by run.texts ≡ Ok asks.asked = subst (λ (ts : List (List ℕ)). asked_by ts ≡ Ok asks.asked) (sym runs.over.texts_are) asks.words in
        let is_scrub : by.broke.ran.task.command ≡ commands.Scrub full_scrub
        = command_asked (begun run) begins.tells.tells asks.asked words _ _ _ (configured (begun run) (ended run) begins.tells.tells begins.tells.tells_vault by.broke) ∙ asks.command_is in
        let off = scrub_off (begun run) (ended run) begins.tells.tells begins.tells.tells_vault by printed_some full_scrub is_scrub in
        let rose : RoseOnceBy off.0.broke.fault (begun run) (ended run)
        = rose_once (begun run) (ended run) opened quiet runs.out_faults printed_some off.0.broke.fault off.1 (faults_left ∙ once) in
        let vault_once : RoseOnce (begun run) (ended run) = subst (λ (fault : RunFault). RoseOnceBy fault (begun run) (ended run)) off.1 rose in
        let read = read_law run run_then other off.0 hold ask at_once vault_once well in
        record {
          run = run;
          again = run_then;
          off = off.0;
          fault_is = off.1;
          other = other;
          hold = hold;
          ask = ask;
          at_once = at_once;
          once = rose;
          well = well;
          few = few_is run_then.status status_then 1 again.over.status_is few_then;
          loaded = read.0;
          read = read.1;
          printed_some = printed_some;
          out_begins = runs.out_begins ∙ sym again.out_begins;
          printed_less = λ same_text. less (sym runs.printed_is ∙ same_text ∙ again.printed_is);
          front = law run run_then other off.0.broke hold ask at_once rose well;
        }

  -- over what a sync left, of which the owner changed files
  pub scrub_printed : (config : List ℕ) (begin texts others : List (List ℕ)) (seed : List ℕ) (levels copies : ℕ) (value one other : VaultValue) (folders spoiled : List FolderView) (before status status_then : ℕ)
      (synced_folders left_folders then_folders : List F) (synced left left_then : V) (first_printed printed printed_then : List ℕ)
      → HoldsAlways opener_view folder_view vault_view sink_view → ScrubsPrintFront → ScrubsReadSame
      → value ≡ fresh_vault levels copies → AsksFor (commands.Sync plain_sync) begin → AsksFor (commands.Scrub full_scrub) texts → AsksFor (commands.Scrub full_scrub) others
      → IsTold config begin seed folders (view_of value) before synced_folders synced first_printed → IsLeftOf (vault_view synced) (view_of other) → copies_of (view_of other) ≡ copies_of (view_of value)
      → one ≡ other
      → IsTold config texts seed spoiled (view_of one) status left_folders left printed → status ≡ 3 → (vault_view left).faults ≡ 1 → are_calm folder_view left_folders ≡ true → printed ≢ []
      → IsTold config others seed (map folder_view left_folders) (view_of other) status_then then_folders left_then printed_then → printed ≢ printed_then → (vault_view left_then).faults ≡ 0
      → are_calm folder_view then_folders ≡ true → status_then ≤ 1 → IsFrontOfScrub opener_view folder_view vault_view sink_view
  scrub_printed config begin texts others seed levels copies value one other folders spoiled before status status_then synced_folders left_folders then_folders synced left left_then first_printed printed printed_then
      holds law read_law fresh begins asks asks_then syncing left_of as_many same_value breaking three once calm some again less faults_then calm_then few_then =
      let first : Standing = standing_of config folders (view_of value) nothing_synced in
      let is_first : IsOrigin first = begins_nothing opener_view folder_view vault_view sink_view config folders levels copies value fresh in
      let going = goes_with opener_view folder_view vault_view sink_view config begin seed folders (view_of value) (view_of other) nothing_synced before synced_folders synced (holds first first [] is_first refl) syncing.over
      (no_fix_of (commands.Sync plain_sync) begin tt begins) left_of as_many in
      let last : LastSynced = going.0 in
      let kept : Standing = standing_of config (map folder_view synced_folders) (view_of other) last in
      let standing : Standing = standing_of config spoiled (view_of other) last in
      let stages : List (Stage O F V W) = record { change = Runs syncing.over.run; next = kept } ∷ record { change = Edits; next = standing } ∷ [] in
      let headline = holds first standing stages is_first (going.1, (refl, refl)) in
      let runs : IsTold config texts seed spoiled (view_of other) status left_folders left printed
      = subst (λ (v : VaultValue). IsTold config texts seed spoiled (view_of v) status left_folders left printed) same_value breaking in
      let same : trees_of (map folder_view left_folders) ≡ trees_of spoiled
      = trees_kept opener_view folder_view vault_view sink_view config texts seed spoiled (view_of other) last status left_folders left headline runs.over
      (no_fix_of (commands.Scrub full_scrub) texts tt asks) in
      front_of_scrub config texts others seed spoiled (map folder_view left_folders) (view_of other) (view_of other) last status status_then left_folders then_folders left left_then printed printed_then
      runs again law read_law asks asks_then (ap (λ (trees : List Tree). record standing { trees = trees }) same) three once calm some less faults_then calm_then few_then
