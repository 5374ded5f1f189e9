-- A sync that broke off read what another one read first, and printed a front of what that printed.
use Rattle.std.proofs.Common.{◌≡◌, ◌≢◌, ◌⊎◌, inl, inr, ℕ, ◌<◌, ◌≤◌, List, [], ◌∷◌, ◌++◌, length, map, is_some, true, false, IsTrue, Option, Ok, refl, sym, ap, ◌∙◌, subst, append-nil, arith}
use Rattle.disk_model.specs.Folder.{FolderView}
use Rattle.disk_model.specs.Opener.{OpenerView}
use Rattle.disk_model.specs.Sink.{AppendsPart, SinkView}
use Rattle.disk_model.specs.Tree.{Tree}
use Rattle.disk_model.specs.Vault.{VaultView, copies_of}
use Rattle.disk_memory.specs.Vault.{VaultValue, fresh_vault, view_of}
use Rattle.snap_config.specs.declared.options.Command.TheVariants as commands
use Rattle.array_setup.specs.declared.ways.SyncWay.{SyncWay}
use Rattle.snap_report.specs.EventLines.{lines_of}
use Rattle.snap_report.specs.Telling.{Tells, between}
use Rattle.snap_report.specs.declared.answer.RunFault.{RunFault}
use Rattle.snap_report.specs.declared.answer.RunFault.TheVariants as runs
use Rattle.snap_sync.specs.Part.{trees_of}
use Rattle.stripe_findings.specs.Findings.{events_of}
use Rattle.stripe_findings.specs.Reading.{StripeReading}
use Rattle.stripe_reader.specs.Columns.{folder_at}
use Rattle.snap_top.specs.Alike.{HoldAlike}
use Rattle.snap_top.specs.Unbroken.{NothingRose}
use Rattle.snap_top.specs.BrokeOff.{PrintsFront, RoseOnce, RoseOnceBy, SyncBrokeOff, answered, left_of}
use Rattle.snap_top.specs.LastSynced.{LastSynced}
use Rattle.snap_top.specs.LeftAlike.{AskSame}
use Rattle.snap_top.specs.Levels.{said_by}
use Rattle.snap_top.specs.InPart.{EndsInPart}
use Rattle.snap_top.specs.Asked.{asked_by}
use Rattle.snap_top.specs.RunOf.{RunOf}
use Rattle.snap_top.specs.Entry.{Entry, Exit, vault_in}
use Rattle.snap_top.specs.Standing.{Edits, IsOrigin, Runs, Stage, Standing, after_of, before_of, nothing_synced}
use Rattle.snap_top.specs.Syncing.{SyncBreaks}
use Rattle.snap_top.specs.Views.{world_of}
use Rattle.snap_top.proofs.AskedLemmas.{command_asked}
use Rattle.snap_top.proofs.BrokeOffLemmas.{LeftUntold, configured, does_as, out_is, sync_broke}
use Rattle.snap_top_histories.specs.Lived.{IsLeftOf, standing_of}
use Rattle.snap_top_histories.specs.Repeated.{are_calm}
use Rattle.snap_top_histories.proofs.LivedLemmas.{goes_with, trees_kept}
use Rattle.snap_top_histories.proofs.RepeatedLemmas.{calm_at, few_is, hold_alike, nothing_rose}
use Rattle.snap_top_histories.proofs.ResumedLemmas.{HoldsAlways, begins_nothing}
use Rattle.snap_top_histories.proofs.SeenLemmas.{faults_seen}
use Rattle.snap_top_instances.specs.Asked.{AsksFor, plain_sync}
use Rattle.snap_top_instances.specs.Told.{RunsTold}
use Rattle.snap_top_instances.proofs.EndsLemmas.{ask_same, ends_synced, no_fix_of}
use Rattle.snap_top_breaks.specs.FrontOfSync.{IsFrontOfSync}
use Rattle.snap_top_breaks.proofs.BrokenScrubLemmas.{BrokeByVault, broke_by_vault, rose_once}

-- ---- what broke off

-- it was a sync that touched the vault, since it printed something
module _ (before : Entry) (exit : Exit) (tells : IsTrue before.opener.tells) (tells_vault : IsTrue before.opener.vault.tells) (by : BrokeByVault before exit)
    (some : exit.after.out.written ≢ before.out.written) (way : SyncWay) (command_is : by.broke.ran.task.command ≡ commands.Sync way) where
  abbrev Breaks : Type 0
  Breaks = SyncBreaks by.broke.ran.task way (answered by.broke).table (answered by.broke).start (world_of exit.after) (left_of by.broke) by.broke.ran.did

  abbrev IsSync : Type 0
  IsSync = (off : SyncBrokeOff before exit) × (off.broke.fault ≡ runs.Vault) × ((answered off.broke).start.out ≡ before.out)

  begun_out : (answered by.broke).start.out ≡ before.out
  begun_out = out_is before exit tells tells_vault by.broke

  as_sync : LeftUntold (answered by.broke).start (world_of exit.after) (left_of by.broke) ⊎ ((by.broke.fault ≡ runs.Vault) × Breaks) → IsSync
  as_sync (inl none) = absurd (some (ap (λ (out : SinkView). out.written) (none.out ∙ begun_out)))
  as_sync (inr breaks) = (record { broke = by.broke; way = way; command_is = command_is; sync = breaks.1 }, by.fault_is, begun_out)

  sync_off : IsSync
  sync_off = as_sync (sync_broke by.broke.fault by.broke.ran.task way (answered by.broke).table (answered by.broke).start (world_of exit.after) (left_of by.broke) by.broke.ran.did
      (does_as before exit tells tells_vault by.broke (commands.Sync way) command_is))

-- of no text no byte was appended
nothing_new : (old new front rest : List ℕ) → front ++ rest ≡ [] → new ≡ old ++ front → new ≡ old
nothing_new old new [] rest whole appended = appended ∙ append-nil old
nothing_new old new (b ∷ front) rest whole appended = absurd (let clash : b ∷ (front ++ rest) ≡ [] = whole in cc)

-- it had read a stripe, since it printed something
read_some : (before : Entry) (exit : Exit) (off : SyncBrokeOff before exit) → (answered off.broke).start.out ≡ before.out → IsTrue before.out.tells → exit.after.out.written ≢ before.out.written
    → 0 < length off.sync.course.readings
read_some before exit off begun tells some = by off.sync.course.readings off.sync.printed
  where
    by : (readings : List StripeReading)
        → Tells (lines_of off.sync.course.start.columns (events_of off.sync.course.start readings)) (between false (answered off.broke).start.out) (between off.sync.output_failed exit.after.out)
        → 0 < length readings
    by [] told =
        let part : AppendsPart [] (answered off.broke).start.out.written exit.after.out.written = told.part (ap (λ (out : SinkView). out.tells) begun ∙ tells) in
        absurd (some (nothing_new (answered off.broke).start.out.written exit.after.out.written part.front part.rest part.whole part.appended ∙ ap (λ (out : SinkView). out.written) begun))
    by (reading ∷ readings) told = omega arith

-- ---- beside one that did not

module _ {O F V W : Type 0} (opener_view : O → OpenerView) (folder_view : F → FolderView) (vault_view : V → VaultView) (sink_view : W → SinkView) where
  abbrev begun : RunOf O F V W → Entry
  begun run = before_of opener_view folder_view vault_view sink_view run

  abbrev ended : RunOf O F V W → Exit
  ended run = after_of opener_view folder_view vault_view sink_view run

  abbrev IsTold : List ℕ → List (List ℕ) → List ℕ → List FolderView → VaultView → ℕ → List F → V → List ℕ → Type 0
  IsTold config texts seed folders vault status left_folders left printed =
      RunsTold opener_view folder_view vault_view sink_view config texts seed folders vault status left_folders left printed

  -- what the laws say of a sync that broke off: what it read, and what it printed
  abbrev pub SyncsReadFirst : Type 0
  SyncsReadFirst = (run again : RunOf O F V W) (other : EndsInPart (begun again) (ended again) again.status) (off : SyncBrokeOff (begun run) (ended run)) → HoldAlike (begun run) (begun again)
      → AskSame (begun run) (begun again) → RoseOnce (begun run) (ended run) → NothingRose (begun again) (ended again)
      → (off.sync.course.start ≡ other.run.plan.start) × ((more : List StripeReading) × (other.run.readings ≡ off.sync.course.readings ++ more))

  abbrev pub ReadSyncsPrintFront : Type 0
  ReadSyncsPrintFront = (run again : RunOf O F V W) (more : List StripeReading) (other : EndsInPart (begun again) (ended again) again.status) (off : SyncBrokeOff (begun run) (ended run))
      → off.sync.course.start ≡ other.run.plan.start → other.run.readings ≡ off.sync.course.readings ++ more
      → PrintsFront off.broke.told (events_of other.run.plan.start other.run.readings) (begun run) (begun again) (ended run) (ended again) again.status

  -- two syncs of what stands
  module _ (config : List ℕ) (texts others : List (List ℕ)) (seed : List ℕ) (folders folders_then : List FolderView) (vault vault_then : VaultView) (last : LastSynced) (status status_then : ℕ)
      (left_folders then_folders : List F) (left left_then : V) (printed printed_then : List ℕ)
      (runs : IsTold config texts seed folders vault status left_folders left printed) (again : IsTold config others seed folders_then vault_then status_then then_folders left_then printed_then) where
    abbrev run : RunOf O F V W
    run = runs.over.run

    abbrev run_then : RunOf O F V W
    run_then = again.over.run

    faults_left : (ended run).after.vault.faults ≡ (vault_view left).faults
    faults_left = faults_seen (said_by (opener_view run.opener).config) (vault_in vault_view (opener_view run.opener_new).vault run.vault)
        ∙ ap (λ (v : Option V). (vault_in vault_view (opener_view run.opener_new).vault v).faults) runs.over.vault_is

    front_of_sync : SyncsReadFirst → ReadSyncsPrintFront → AsksFor (commands.Sync plain_sync) texts → AsksFor (commands.Sync plain_sync) others
        → standing_of config folders_then vault_then last ≡ standing_of config folders vault last
        → status ≡ 3 → (vault_view left).faults ≡ 1 → are_calm folder_view left_folders ≡ true → printed ≢ [] → printed ≢ printed_then
        → (vault_view left_then).faults ≡ 0 → are_calm folder_view then_folders ≡ true → status_then ≤ 1 → IsFrontOfSync opener_view folder_view vault_view sink_view
    front_of_sync read_law law asks asks_then same three once calm some less faults_then calm_then few_then =
        let begins = runs.over.begins last in
        let begins_then = again.over.begins last in
        let hold : HoldAlike (begun run) (begun run_then)
        = hold_alike opener_view folder_view vault_view sink_view (standing_of config folders vault last) (standing_of config folders_then vault_then last) (begun run) (begun run_then)
        begins begins_then same (runs.over.seed_is ∙ sym again.over.seed_is) in
        let ask : AskSame (begun run) (begun run_then) = ask_same (commands.Sync plain_sync) (begun run) (begun run_then)
        (subst (AsksFor (commands.Sync plain_sync)) (sym runs.over.texts_are) asks) (subst (AsksFor (commands.Sync plain_sync)) (sym again.over.texts_are) asks_then) in
        let well : NothingRose (begun run_then) (ended run_then)
        = nothing_rose opener_view folder_view vault_view sink_view config others seed folders_then vault_then status_then then_folders left_then again.over faults_then calm_then in
        let words_then : asked_by run_then.texts ≡ Ok asks_then.asked = subst (λ (ts : List (List ℕ)). asked_by ts ≡ Ok asks_then.asked) (sym again.over.texts_are) asks_then.words in
        let few : run_then.status ≤ 1 = few_is run_then.status status_then 1 again.over.status_is few_then in
        let other : EndsInPart (begun run_then) (ended run_then) run_then.status
        = ends_synced (begun run_then) (ended run_then) run_then.status begins_then.tells asks_then.asked words_then again.over.step few plain_sync asks_then.command_is in
        let opened : (ended run).has_vault ≡ true = ap (λ (v : Option V). is_some v) runs.over.vault_is in
        let quiet : (d : ℕ) → (folder_at (ended run).after.folders d).faults ≡ 0
        = λ d. ap (λ (fs : List F). (folder_at (map folder_view fs) d).faults) runs.over.folders_are ∙ calm_at opener_view folder_view vault_view sink_view left_folders calm d in
        let printed_some : (ended run).after.out.written ≢ (begun run).out.written = λ none. some (sym runs.printed_is ∙ none ∙ runs.out_begins) in
        let by : BrokeByVault (begun run) (ended run)
        = broke_by_vault (begun run) (ended run) opened quiet runs.out_faults printed_some run.status (runs.account begins.tells.tells) (runs.over.status_is ∙ three) in
        let words : asked_by run.texts ≡ Ok asks.asked = subst (λ (ts : List (List ℕ)). asked_by ts ≡ Ok asks.asked) (sym runs.over.texts_are) asks.words in
        let is_sync : by.broke.ran.task.command ≡ commands.Sync plain_sync
        = command_asked (begun run) begins.tells.tells asks.asked words _ _ _ (configured (begun run) (ended run) begins.tells.tells begins.tells.tells_vault by.broke) ∙ asks.command_is in
        let off = sync_off (begun run) (ended run) begins.tells.tells begins.tells.tells_vault by printed_some plain_sync is_sync in
        let rose : RoseOnceBy off.0.broke.fault (begun run) (ended run)
        = rose_once (begun run) (ended run) opened quiet runs.out_faults printed_some off.0.broke.fault off.1 (faults_left ∙ once) in
        let vault_once : RoseOnce (begun run) (ended run) = subst (λ (fault : RunFault). RoseOnceBy fault (begun run) (ended run)) off.1 rose in
        let read = read_law run run_then other off.0 hold ask vault_once well in
        record {
          run = run;
          again = run_then;
          off = off.0;
          fault_is = off.1;
          other = other;
          hold = hold;
          ask = ask;
          once = rose;
          well = well;
          few = few;
          start = read.0;
          more = read.1.0;
          read = read.1.1;
          read_some = read_some (begun run) (ended run) off.0 off.2 runs.out_tells printed_some;
          printed_some = printed_some;
          out_begins = runs.out_begins ∙ sym again.out_begins;
          printed_less = λ same_text. less (sym runs.printed_is ∙ same_text ∙ again.printed_is);
          front = law run run_then read.1.0 other off.0 read.0 read.1.1;
        }

  -- over what a sync left, of which the owner changed files
  pub sync_printed : (config : List ℕ) (texts others : List (List ℕ)) (seed : List ℕ) (levels copies : ℕ) (value one other : VaultValue) (folders edited : List FolderView) (before status status_then : ℕ)
      (synced_folders left_folders then_folders : List F) (synced left left_then : V) (first_printed printed printed_then : List ℕ)
      → HoldsAlways opener_view folder_view vault_view sink_view → SyncsReadFirst → ReadSyncsPrintFront
      → value ≡ fresh_vault levels copies → AsksFor (commands.Sync plain_sync) texts → AsksFor (commands.Sync plain_sync) others
      → IsTold config texts seed folders (view_of value) before synced_folders synced first_printed → IsLeftOf (vault_view synced) (view_of other) → copies_of (view_of other) ≡ copies_of (view_of value)
      → one ≡ other
      → IsTold config texts seed edited (view_of one) status left_folders left printed → status ≡ 3 → (vault_view left).faults ≡ 1 → are_calm folder_view left_folders ≡ true → printed ≢ []
      → IsTold config others seed (map folder_view left_folders) (view_of other) status_then then_folders left_then printed_then → printed ≢ printed_then → (vault_view left_then).faults ≡ 0
      → are_calm folder_view then_folders ≡ true → status_then ≤ 1 → IsFrontOfSync opener_view folder_view vault_view sink_view
  sync_printed config texts others seed levels copies value one other folders edited before status status_then synced_folders left_folders then_folders synced left left_then first_printed printed printed_then
      holds read_law law fresh asks asks_then syncing left_of_sync as_many same_value breaking three once calm some again less faults_then calm_then few_then =
      let no_fix = no_fix_of (commands.Sync plain_sync) texts tt asks in
      let first : Standing = standing_of config folders (view_of value) nothing_synced in
      let is_first : IsOrigin first = begins_nothing opener_view folder_view vault_view sink_view config folders levels copies value fresh in
      let going = goes_with opener_view folder_view vault_view sink_view config texts seed folders (view_of value) (view_of other) nothing_synced before synced_folders synced (holds first first [] is_first refl) syncing.over
      no_fix left_of_sync as_many in
      let last : LastSynced = going.0 in
      let kept : Standing = standing_of config (map folder_view synced_folders) (view_of other) last in
      let standing : Standing = standing_of config edited (view_of other) last in
      let stages : List (Stage O F V W) = record { change = Runs syncing.over.run; next = kept } ∷ record { change = Edits; next = standing } ∷ [] in
      let headline = holds first standing stages is_first (going.1, (refl, refl)) in
      let runs : IsTold config texts seed edited (view_of other) status left_folders left printed
      = subst (λ (v : VaultValue). IsTold config texts seed edited (view_of v) status left_folders left printed) same_value breaking in
      let same : trees_of (map folder_view left_folders) ≡ trees_of edited
      = trees_kept opener_view folder_view vault_view sink_view config texts seed edited (view_of other) last status left_folders left headline runs.over no_fix in
      front_of_sync config texts others seed edited (map folder_view left_folders) (view_of other) (view_of other) last status status_then left_folders then_folders left left_then printed printed_then
      runs again read_law law asks asks_then (ap (λ (trees : List Tree). record standing { trees = trees }) same) three once calm some less faults_then calm_then few_then
