-- A sync that broke off by the one call that failed loaded its table without a failed reading.
use Rattle.std.proofs.Common.{◌≡◌, ◌≢◌, inl, ℕ, zero, suc, List, get_or, replicate, true, false, IsTrue, Option, None, Ok, refl, sym, ap, ◌∙◌, subst, arith}
use Rattle.disk_model.specs.Cause.{Rose, RoseBy}
use Rattle.disk_model.specs.Files.{Files, content_of}
use Rattle.disk_model.specs.Folder.{FolderView}
use Rattle.disk_model.specs.Opener.{OpenerView}
use Rattle.disk_model.specs.Sink.{SinkView}
use Rattle.disk_model.specs.Vault.{VaultView}
use Rattle.disk_memory.specs.Vault.{VaultValue, fresh_vault, view_of}
use Rattle.snap_config.specs.declared.options.Command.{Command}
use Rattle.snap_config.specs.declared.options.Command.TheVariants as commands
use Rattle.snap_config.specs.declared.options.Options.{Options}
use Rattle.array_setup.specs.declared.ways.SyncWay.{SyncWay}
use Rattle.snap_sync.specs.Part.{AllTell, SyncRun}
use Rattle.snap_top.specs.Effect.{effect}
use Rattle.snap_top.specs.Levels.{said_by}
use Rattle.snap_top.specs.Moment.{IsSoundAlways}
use Rattle.snap_top.specs.Stands.{StandsIn}
use Rattle.snap_top.specs.Asked.{asked_by}
use Rattle.snap_top.specs.RunOf.{RunOf}
use Rattle.snap_top.specs.Entry.{Entry, Exit, vault_in}
use Rattle.snap_top.specs.Standing.{after_of, before_of, nothing_synced}
use Rattle.snap_top.specs.Did.{Did, fixes, reads_only, scrubs, syncs}
use Rattle.snap_top.proofs.AskedLemmas.{command_asked}
use Rattle.snap_top_histories.specs.Lived.{files_seen}
use Rattle.snap_top_histories.proofs.ResumedLemmas.{not_risen}
use Rattle.snap_top_histories.proofs.SeenLemmas.{contents_seen, faults_seen}
use Rattle.snap_top_instances.specs.Asked.{AsksFor, plain_sync}
use Rattle.snap_top_breaks.specs.BrokenSync.{IsBrokenWellLoaded}
use Rattle.snap_top_instances.specs.Told.{RunsTold}
use Rattle.snap_top_breaks.proofs.BrokenLemmas.{not_twice}

rose_to_one : (before now : ℕ) → before ≡ 0 → now ≡ 1 → Rose before now
rose_to_one before now none one = omega (arith, none, one)

-- a vault without content
none_first : (copies : ℕ) → ◌≡◌ {A = Option (List ℕ)} (get_or (replicate copies None) 0 None) None
none_first zero = refl
none_first (suc copies) = refl

first_seen : (config : List ℕ) (vault : VaultView) → content_of (files_seen config vault) 0 ≡ content_of vault.files 0
first_seen config vault = ap (λ (contents : List (Option (List ℕ))). get_or contents 0 None) (contents_seen (said_by config) vault)

none_fresh : (config : List ℕ) (levels copies : ℕ) (value : VaultValue) → value ≡ fresh_vault levels copies → content_of (files_seen config (view_of value)) 0 ≡ None
none_fresh config levels copies value fresh =
    first_seen config (view_of value) ∙ ap (λ (v : VaultValue). content_of (view_of v).files 0) fresh ∙ none_first copies

-- what a run did that was asked for a sync, changed files, and ended with status 3, where the output did not fail
module _ (before : Entry) (exit : Exit) (status : ℕ) (tells : IsTrue before.opener.tells) (asked : Options) (words : asked_by before.texts ≡ Ok asked) (way : SyncWay)
    (command : asked.command ≡ commands.Sync way) (three : status ≡ 3) (out : exit.after.out.faults ≡ 0) (changed : exit.after.vault.files ≢ before.opener.vault.files) where
  pub did_break : (did : Did) → (effect did).is_of before exit → ((files : Files) → StandsIn before exit files → (effect did).may_stand before.opener.vault.files files)
      → ((effect did).has_ended ≡ true → (effect did).ends before exit status) → AllTell before.opener.folders → (sync : SyncRun) × (did ≡ syncs true sync)
  did_break reads_only is moments ends told = absurd (changed (moments exit.after.vault.files (inl refl)))
  did_break (syncs true sync) is moments ends told = (sync, refl)
  did_break (syncs false sync) is moments ends told =
      let at = ends refl told in
      absurd (not_risen before.out.faults exit.after.out.faults out (at.0.output (at.0.status_is.failed.0 three)))
  did_break (fixes failed fix) is moments ends told =
      let clash : commands.Fix fix.selection ≡ commands.Sync way = command_asked before tells asked words (commands.Fix fix.selection) is.readers fix.setup is.configured ∙ command in
      absurd cc
  did_break (scrubs failed scrub) is moments ends told =
      let clash : commands.Scrub scrub.way ≡ commands.Sync way = command_asked before tells asked words (commands.Scrub scrub.way) is.readers scrub.setup is.configured ∙ command in
      absurd cc

module _ {O F V W : Type 0} (opener_view : O → OpenerView) (folder_view : F → FolderView) (vault_view : V → VaultView) (sink_view : W → SinkView) where
  abbrev begun : RunOf O F V W → Entry
  begun run = before_of opener_view folder_view vault_view sink_view run

  abbrev ended : RunOf O F V W → Exit
  ended run = after_of opener_view folder_view vault_view sink_view run

  -- what the law says of a sync that broke off
  abbrev pub KnowsLoaded : Type 0
  KnowsLoaded = (run : RunOf O F V W) (always : IsSoundAlways (begun run) (ended run) run.status) (sync : SyncRun) → always.did ≡ syncs true sync
      → ¬ (RoseBy 2 (begun run).opener.vault.faults (ended run).after.vault.faults) → (effect always.did).loads_well (begun run) (ended run) always.is_did

  pub broken_well_loaded : (config : List ℕ) (texts : List (List ℕ)) (seed : List ℕ) (levels copies : ℕ) (value : VaultValue) (folders : List FolderView) (status : ℕ) (left_folders : List F) (left : V)
      (printed : List ℕ) → KnowsLoaded → value ≡ fresh_vault levels copies → AsksFor (commands.Sync plain_sync) texts
      → RunsTold opener_view folder_view vault_view sink_view config texts seed folders (view_of value) status left_folders left printed → status ≡ 3 → (vault_view left).faults ≡ 1
      → content_of (vault_view left).files 0 ≢ None → IsBrokenWellLoaded opener_view folder_view vault_view sink_view
  broken_well_loaded config texts seed levels copies value folders status left_folders left printed law fresh asks runs three one saved =
      let run : RunOf O F V W = runs.over.run in
      let begins = runs.over.begins nothing_synced in
      let step = runs.over.step in
      let held : VaultView = (opener_view run.opener_new).vault in
      let faults : (ended run).after.vault.faults ≡ 1
      = faults_seen (said_by (opener_view run.opener).config) (vault_in vault_view held run.vault) ∙ ap (λ (v : Option V). (vault_in vault_view held v).faults) runs.over.vault_is ∙ one in
      let content : content_of (ended run).after.vault.files 0 ≡ content_of (vault_view left).files 0
      = first_seen (opener_view run.opener).config (vault_in vault_view held run.vault) ∙ ap (λ (v : Option V). content_of (vault_in vault_view held v).files 0) runs.over.vault_is in
      let none : content_of (begun run).opener.vault.files 0 ≡ None = ap (λ (files : Files). content_of files 0) begins.files ∙ none_fresh config levels copies value fresh in
      let changed : (ended run).after.vault.files ≢ (begun run).opener.vault.files = λ same. saved (sym content ∙ ap (λ (files : Files). content_of files 0) same ∙ none) in
      let words : asked_by run.texts ≡ Ok asks.asked = subst (λ (ts : List (List ℕ)). asked_by ts ≡ Ok asks.asked) (sym runs.over.texts_are) asks.words in
      let did : (sync : SyncRun) × (step.always.did ≡ syncs true sync)
      = did_break (begun run) (ended run) run.status begins.tells.tells asks.asked words plain_sync asks.command_is (runs.over.status_is ∙ three) runs.out_faults changed
      step.always.did step.always.is_did step.always.moments step.at_end begins.tells.tells_folders in
      let once : ¬ (RoseBy 2 (begun run).opener.vault.faults (ended run).after.vault.faults) = λ rose. not_twice (begun run).opener.vault.faults (ended run).after.vault.faults faults rose in
      record {
        run = run;
        always = step.always;
        sync = did.0;
        broke = did.1;
        none = none;
        saved = λ gone. saved (sym content ∙ gone);
        rose = rose_to_one (begun run).opener.vault.faults (ended run).after.vault.faults runs.over.faults faults;
        once = once;
        loads = law run step.always did.0 did.1 once;
      }
