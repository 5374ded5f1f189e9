-- What stands at each moment of a run is sound.
use Rattle.std.proofs.Common.{◌≡◌, ◌⊎◌, inl, inr, ⊎_elim, ℕ, ◌<◌, ◌^◌, List, length, get_or, Bool, true, false, IsTrue, Option, None, Some, refl, sym, ap, ◌∙◌, subst, arith}
use Rattle.content_file.specs.Spelling.{spelling}
use Rattle.disk_model.specs.Cause.{Rose}
use Rattle.disk_model.specs.Files.{Files, content_of}
use Rattle.disk_model.specs.Folder.{FolderView}
use Rattle.disk_model.specs.Moments.{ComesBy}
use Rattle.disk_model.specs.Opener.{SameVault}
use Rattle.disk_model.specs.Vault.{ChangesBy, copies_of}
use Rattle.file_table.specs.Table.{TableValue}
use Rattle.parity_writer.specs.Parity.{Rows}
use Rattle.parity_writer.specs.Sound.{Sound, Closed}
use Rattle.stripe_reader.specs.Starts.{StartsValue}
use Rattle.stripe_examiner.specs.Facts.{StripeFacts}
use Rattle.snap_fix.specs.Fixing.{facts_of}
use Rattle.snap_fix.specs.Genuine.{AreGenuineOf}
use Rattle.repair_scope.specs.Plan.{FixPlan}
use Rattle.stripe_examiner.specs.Place.{starts_of}
use Rattle.snap_fix.specs.Underway.{IsMendedLevel, KeepsLevels}
use Rattle.snap_report.specs.declared.events.Event.{Event}
use Rattle.snap_sync.specs.Images.{MayStand, rows_after}
use Rattle.snap_sync.specs.Part.{AreOfPartSyncs, IsToldRun, SyncRun, layout_by, run_trees}
use Rattle.snap_sync.specs.Soundness.{AreSound, changed_without, snapshot_with}
use Rattle.snap_top.specs.Fix.{FixRun, MayStandFixed}
use Rattle.snap_top.specs.End.{status_of}
use Rattle.snap_top.specs.Moment.{EveryMomentIsSound, IsSoundAlways, SyncsToItsEnd}
use Rattle.snap_top.specs.Effect.{effect}
use Rattle.snap_top.specs.SoundAtEnd.{IsSoundAtEnd}
use Rattle.snap_top.specs.Stands.{HoldsFresh, StandsIn}
use Rattle.snap_top.specs.Asked.{asked_by, ChangesNothing}
use Rattle.snap_top.specs.Began.{IsFixOf, IsScrubOf, IsSyncOf}
use Rattle.snap_top.specs.Run.{Ran}
use Rattle.snap_top.specs.Entry.{Entry, Exit}
use Rattle.snap_top.specs.Scrub.{MayStandMarked, ScrubRun}
use Rattle.snap_top.specs.Did.{Did, fixes, reads_only, scrubs, syncs}
use Rattle.snap_top.specs.declared.end.End.{End}
use Rattle.snap_top.specs.declared.end.End.TheVariants.{Exercised, Refused, Worked}
use Rattle.array_setup.specs.Setup.{setup_value}
use Rattle.snap_config.specs.declared.options.Options.{Options}
use Rattle.snap_top.proofs.CompleteLemmas.{same_ok}
use Rattle.snap_top.proofs.EndsSoundLemmas.{ends_sound}
use Rattle.snap_top.proofs.OfFixLemmas.{HasFix, HasScrub, HasSync, genuine_of, loaded_sound, run_did}
use Rattle.snap_top.proofs.OfScrubLemmas.{ScrubKeepsSound, ScrubKeepsValid, scrub_sound}
use Rattle.snap_top.proofs.OfSyncLemmas.{KeepsItsStripes}
use Rattle.snap_top.proofs.RunLemmas.{stands_still}
use Rattle.snap_top.proofs.SyncEndLemmas.{FindsWhatIsPending, sound_at_end, sync_ended}
use Rattle.snap_top.proofs.SyncedLemmas.{MomentsAreSound, OneTable}

-- ---- what snap_sync says of its moments

abbrev pub LayoutIsOfTrees : Type 0
LayoutIsOfTrees = (run : SyncRun) → IsToldRun run → run.plan.start ≡ layout_by run.setup run.loaded (run_trees run)

abbrev pub CopiesAreOfPartSyncs : Type 0
CopiesAreOfPartSyncs = (run : SyncRun) (files new : Files) → IsToldRun run → MayStand run.plan run.readings files new
    → AreOfPartSyncs run.plan.start (run_trees run) run.plan.now run.plan.copies files new

-- ---- and snap_fix of those of a fix

abbrev pub FixKeepsSound : Type 0
FixKeepsSound = (plan : FixPlan) (starts : StartsValue) (firsts : List FolderView) (read : Files) (snapshot : Closed) (is_changed : ℕ → ℕ → Bool) (stripes : List StripeFacts) (table : TableValue) (files left : Files)
    → AreGenuineOf plan starts firsts read snapshot is_changed stripes → table.shape.block_size ≡ plan.table.shape.block_size → KeepsLevels plan.table.shape.block_size (IsMendedLevel plan stripes) files left
    → Sound table files snapshot is_changed → Sound table left snapshot is_changed

-- by whether it broke off
breaks_behind : (before : Entry) (exit : Exit) (failed : Bool) (run : SyncRun) (is : IsSyncOf before exit run) → (IsTrue failed → Rose is.loading.at.faults exit.after.vault.faults) → (effect (syncs failed run)).breaks_behind before exit is
breaks_behind before exit true run is broke = broke refl
breaks_behind before exit false run is broke = tt

-- ---- what stands at a moment

module _ (before : Entry) (exit : Exit) (status : ℕ) (fresh : HoldsFresh before) (synced : SyncsToItsEnd before exit status → IsSoundAtEnd before exit status) where
  abbrev old : Files
  old = before.opener.vault.files

  -- by what the run did
  pub stands_by : (did : Did) → ChangesBy (effect did).may_stand before.opener.vault exit.after.vault → (files : Files) → StandsIn before exit files → (effect did).may_stand old files
  stands_by did changes files (inl same) = subst ((effect did).may_stand old) (sym same) (changes.reads fresh.tells_vault)
  stands_by did changes files (inr at) =
      let told : IsTrue before.opener.vault.images.told = changes.leaves.told at.0 in
      ⊎_elim
      (λ was. subst ((effect did).may_stand old) (sym (fresh.settled told files was)) (stands_still did old))
      (λ (by : ComesBy (effect did).may_stand before.opener.vault.images files). subst (λ (from : Files). (effect did).may_stand from files) (fresh.settled told by.0 by.1) by.2)
      (changes.leaves.within at.0 before.opener.vault.images.moment files (omega arith) at.1)

  -- nothing was opened
  pub stands_same : SameVault before.opener.tells before.opener.vault exit.after.vault → (files : Files) → StandsIn before exit files → files ≡ old
  stands_same same files (inl at_end) = at_end ∙ same.files fresh.tells
  stands_same same files (inr at) =
      fresh.settled (sym (same.tells_images fresh.tells) ∙ at.0) files ((same.since fresh.tells before.opener.vault.images.moment files).0 at.1)

  -- a run that only reads
  pub sound_reading : ((files : Files) → StandsIn before exit files → files ≡ old) → IsSoundAlways before exit status
  sound_reading still = record {
    did = reads_only;
    is_did = tt;
    broke = tt;
    reads = λ asked words none. refl;
    moments = still;
    copies = still;
    sound = λ files snapshot is_changed at are supposed. record {
      count = 0;
      within = omega arith;
      sound = subst (λ (fs : Files). AreSound (copies_of before.opener.vault) fs snapshot is_changed) (sym (still files at)) are;
    };
    at_end = tt;
    synced = synced;
  }

  pub reading_did : (still : (files : Files) → StandsIn before exit files → files ≡ old) → (sound_reading still).did ≡ reads_only
  unfolding sound_reading
  reading_did still = refl

  -- a fix
  sound_fixing : FixKeepsSound → (failed : Bool) (run : FixRun) → IsFixOf before exit run → ((files : Files) → StandsIn before exit files → MayStandFixed run old files) → IsSoundAlways before exit status
  sound_fixing keeps_sound failed run is moments =
      let over = is.over in
      record {
        did = fixes failed run;
        is_did = is;
        broke = tt;
        reads = λ asked words none.
            let same = same_ok (asked_by before.texts) is.configured.asked asked is.configured.read words in
            absurd (subst ChangesNothing (sym (is.configured.command_is ∙ ap (λ (a : Options). a.command) same)) none);
        moments = moments;
        copies = λ files at. (moments files at).contents;
        sound = λ files snapshot is_changed at are supposed.
            let kept : MayStandFixed run old files = moments files at in
            let genuine = genuine_of (copies_of before.opener.vault) before.opener.vault run snapshot is_changed fresh.tells_vault over supposed are in
            record {
              count = 0;
              within = omega arith;
              sound = λ copy table below valid spells.
                  let spelled : content_of old copy ≡ Some (spelling table) = ap (λ (contents : List (Option (List ℕ))). get_or contents copy None) (sym kept.contents) ∙ spells in
                  let size : table.shape.block_size ≡ run.plan.table.shape.block_size
                  = supposed.one_size copy table below valid spelled ∙ ap (λ (t : TableValue). t.shape.block_size) (sym over.plan_is.table_is) in
                  keeps_sound run.plan (starts_of run.loaded run.lists) run.listed old snapshot is_changed (facts_of run.stripes) table old files genuine size kept (are copy table below valid spelled);
            };
        at_end = tt;
        synced = synced;
      }

  -- a scrub
  sound_scrubbing : OneTable → ScrubKeepsValid → ScrubKeepsSound → (failed : Bool) (run : ScrubRun) → IsScrubOf before exit run → ((files : Files) → StandsIn before exit files → MayStandMarked run old files)
      → IsSoundAlways before exit status
  sound_scrubbing one_table keeps_valid keeps_sound failed run is moments =
      let over = is.over in
      record {
        did = scrubs failed run;
        is_did = is;
        broke = tt;
        reads = λ asked words none.
            let same = same_ok (asked_by before.texts) is.configured.asked asked is.configured.read words in
            absurd (subst ChangesNothing (sym (is.configured.command_is ∙ ap (λ (a : Options). a.command) same)) none);
        moments = moments;
        copies = moments;
        sound = λ files snapshot is_changed at are supposed. record {
          count = 0;
          within = omega arith;
          sound = scrub_sound one_table keeps_valid keeps_sound run (copies_of before.opener.vault) old files snapshot is_changed over.in_time over.valid over.stripes
              (loaded_sound (copies_of before.opener.vault) run.loaded old snapshot is_changed over.valid over.is_loaded are) are (moments files at);
        };
        at_end = tt;
        synced = synced;
      }

  module _ (laid : LayoutIsOfTrees) (of_parts : CopiesAreOfPartSyncs) (sound : MomentsAreSound) (keeps_sound : FixKeepsSound) (one_table : OneTable) (marks_valid : ScrubKeepsValid) (marks_sound : ScrubKeepsSound) where
    -- a sync
    sound_syncing : (failed : Bool) (run : SyncRun) (is : IsSyncOf before exit run) → (IsTrue failed → Rose is.loading.at.faults exit.after.vault.faults) → (effect (syncs failed run)).sound_at_end before exit status
        → ((files : Files) → StandsIn before exit files → MayStand run.plan run.readings old files) → IsSoundAlways before exit status
    sound_syncing failed run is broke ends moments =
        let over = is.over in
        record {
          did = syncs failed run;
          is_did = is;
          broke = breaks_behind before exit failed run is broke;
          reads = λ asked words none.
              let same = same_ok (asked_by before.texts) is.configured.asked asked is.configured.read words in
              absurd (subst ChangesNothing (sym (is.configured.command_is ∙ ap (λ (a : Options). a.command) same)) none);
          moments = moments;
          copies = λ files at told.
              let told_run : IsToldRun run = record { told = told; of_lists = over.listed } in
              subst (λ (n : ℕ). AreOfPartSyncs (layout_by run.setup run.loaded (run_trees run)) (run_trees run) run.plan.now n old files) over.copies_are
              (subst (λ (start : TableValue). AreOfPartSyncs start (run_trees run) run.plan.now run.plan.copies old files) (laid run told_run) (of_parts run old files told_run (moments files at)));
          sound = λ files snapshot is_changed at are supposed.
              let long : length run.listed ≡ length run.plan.start.columns = over.listed.as_many ∙ over.listed.folders ∙ sym over.stands.keeps.columns in
              let after = sound run.plan run.loaded run.readings run.ahead run.listed run.ended old files snapshot is_changed long over.listed.reads over.stands
              (subst (λ (n : ℕ). AreSound n old snapshot is_changed) (sym over.copies_are) are) (moments files at) in
              let rows : Rows = rows_after run.plan run.readings after.count in
              record {
                count = after.count;
                within = after.within;
                sound = subst (λ (n : ℕ). AreSound n files (snapshot_with rows snapshot) (changed_without run.plan.start.shape.levels rows is_changed)) over.copies_are after.sound;
              };
          at_end = ends;
          synced = synced;
        }

    -- a run that opened its array
    pub sound_run : (did : Did) → (effect did).sound_at_end before exit status → ChangesBy (effect did).may_stand before.opener.vault exit.after.vault → (did ≡ reads_only) ⊎ (HasSync before exit did ⊎ (HasFix before exit did ⊎ HasScrub before exit did)) → IsSoundAlways before exit status
    sound_run did ends changes (inl read) = sound_reading (stands_by reads_only (subst (λ d. ChangesBy (effect d).may_stand before.opener.vault exit.after.vault) read changes))
    sound_run did ends changes (inr (inl sync)) =
        sound_syncing sync.failed sync.run sync.is_sync sync.broke (subst (λ d. (effect d).sound_at_end before exit status) sync.did_is ends) (stands_by (syncs sync.failed sync.run) (subst (λ d. ChangesBy (effect d).may_stand before.opener.vault exit.after.vault) sync.did_is changes))
    sound_run did ends changes (inr (inr (inl fix))) =
        sound_fixing keeps_sound fix.failed fix.run fix.is_fix (stands_by (fixes fix.failed fix.run) (subst (λ d. ChangesBy (effect d).may_stand before.opener.vault exit.after.vault) fix.did_is changes))
    sound_run did ends changes (inr (inr (inr scrub))) =
        sound_scrubbing one_table marks_valid marks_sound scrub.failed scrub.run scrub.is_scrub
        (stands_by (scrubs scrub.failed scrub.run) (subst (λ d. ChangesBy (effect d).may_stand before.opener.vault exit.after.vault) scrub.did_is changes))

    -- it is by what the run did
    pub run_did_is : (did : Did) (ends : (effect did).sound_at_end before exit status) (changes : ChangesBy (effect did).may_stand before.opener.vault exit.after.vault) (how : (did ≡ reads_only) ⊎ (HasSync before exit did ⊎ (HasFix before exit did ⊎ HasScrub before exit did))) → (sound_run did ends changes how).did ≡ did
    unfolding sound_run sound_reading sound_syncing sound_fixing sound_scrubbing
    run_did_is did ends changes (inl read) = sym read
    run_did_is did ends changes (inr (inl sync)) = sym sync.did_is
    run_did_is did ends changes (inr (inr (inl fix))) = sym fix.did_is
    run_did_is did ends changes (inr (inr (inr scrub))) = sym scrub.did_is

-- of each run
pub every_moment : LayoutIsOfTrees → CopiesAreOfPartSyncs → MomentsAreSound → FixKeepsSound → ScrubKeepsValid → ScrubKeepsSound → KeepsItsStripes → OneTable → FindsWhatIsPending → (before : Entry) (exit : Exit) (end : End) (told : List Event) (status : ℕ)
    → before.moment < 2 ^ 64 → status ≡ status_of end → Ran before exit end told → EveryMomentIsSound before exit status
every_moment laid of_parts sound keeps_sound marks_valid marks_sound keeps one_table finds before exit end told status in_time is ran fresh = by end is ran at_end
  where
    at_end : SyncsToItsEnd before exit status → IsSoundAtEnd before exit status
    at_end asked =
        sound_at_end keeps before exit fresh.tells fresh.tells_vault in_time status (sync_ended before exit end told status fresh.tells is ran asked) one_table sound finds

    by : (end : End) → status ≡ status_of end → Ran before exit end told → (SyncsToItsEnd before exit status → IsSoundAtEnd before exit status) → IsSoundAlways before exit status
    by (Refused why) is ran synced = sound_reading before exit status fresh synced (stands_same before exit status fresh synced ran.vault)
    by (Exercised answer) is ran synced = sound_reading before exit status fresh synced (stands_same before exit status fresh synced ran.vault)
    by (Worked setup ending) is ran synced =
        sound_run before exit status fresh synced laid of_parts sound keeps_sound one_table marks_valid marks_sound ran.did
        (ends_sound keeps one_table sound finds before exit fresh.tells fresh.tells_vault in_time status (setup_value setup) ending told ran is) (ran.changes fresh.tells)
        (run_did before exit fresh.tells fresh.tells_vault keeps in_time (setup_value setup) ending told ran)
