-- What is promised of whatever stands after a history.
use Rattle.std.proofs.Common.{◌≡◌, inl, inr, ⊎_elim, ℕ, ◌<◌, suc, List, [], ◌∷◌, length, true, Ok, refl, sym, ap, ◌∙◌, subst, arith}
use Rattle.std.proofs.lemmas.List.{length-map}
use Rattle.disk_model.specs.Files.{Files}
use Rattle.disk_model.specs.Folder.{FolderView}
use Rattle.disk_model.specs.Opener.{HoldsSame, OpenerView, folder_held}
use Rattle.disk_model.specs.Sink.{SinkView}
use Rattle.disk_model.specs.Tree.{Tree}
use Rattle.disk_model.specs.Vault.{VaultView, copies_of}
use Rattle.snap_config.specs.declared.options.Command.TheVariants as commands
use Rattle.snap_config.specs.declared.options.Options.{Options}
use Rattle.snap_sync.specs.Images.{AtWork, Opening, StandsBy, rows_after}
use Rattle.snap_sync.specs.Part.{AllTell, tree_at, trees_of, SyncRun, IsToldRun}
use Rattle.stripe_reader.specs.Columns.{folder_at}
use Rattle.snap_top.specs.Effect.{effect}
use Rattle.snap_top.specs.Headline.{ArrivesAtItsEnd, ChecksName, FixesAreResumed, FixesSpare, GoesOn, LeavesCopies, Headline, IsQuiet, IsSoundStanding, SyncsLast, TreesStay, UnopenedStays}
use Rattle.snap_top.specs.LastSynced.{AreSoundBy, LastSynced, synced_by}
use Rattle.snap_top.specs.Fix.{FixRun, MayStandFixed}
use Rattle.snap_top.specs.NextFix.{IsNextFix}
use Rattle.snap_top.specs.Undamaged.{HasEnough}
use Rattle.snap_top.specs.Moment.{IsSoundAlways}
use Rattle.snap_top.specs.InPart.{EndsInPart}
use Rattle.snap_top.specs.Began.{IsFixOf}
use Rattle.snap_top.specs.Asked.{asked_by}
use Rattle.snap_top.specs.Step.{ChangesFiles}
use Rattle.snap_top.specs.Restoring.{EndsFixed}
use Rattle.snap_top.specs.RunOf.{RunOf}
use Rattle.snap_top.specs.Entry.{Entry, Exit}
use Rattle.snap_top.specs.Spared.{SparesCells}
use Rattle.snap_top.specs.Stopping.{FindsNoLess, FolderStandsIn, SparesFiles, stop_of}
use Rattle.snap_top.specs.Standing.{BeginsOver, GoesOver, IsHistory, IsOrigin, LeavesTrees, Stage, Standing, after_of, before_of}
use Rattle.snap_top.specs.Did.{Did, fixes, reads_only, scrubs, syncs}
use Rattle.snap_top.specs.Sync.{end_table}
use Rattle.snap_top.specs.Views.{AllReadOnly}
use Rattle.snap_top.proofs.CompleteLemmas.{same_ok}
use Rattle.snap_top.proofs.EndedLemmas.{only_read}
use Rattle.snap_top.proofs.IntactAgain.{restorable_again}
use Rattle.snap_top.proofs.MomentLemmas.{FixKeepsSound, LayoutIsOfTrees}
use Rattle.snap_top.proofs.OfFixLemmas.{loaded_sound}
use Rattle.snap_top.proofs.OneSizeLemmas.{SavesValidTables}
use Rattle.snap_top.proofs.ResumeLemmas.{FullKeepsShape}
use Rattle.snap_top.proofs.ResumedRuns.{SyncsAreResumed}
use Rattle.snap_top.proofs.ResumingLemmas.{full_over, resumed_over}
use Rattle.snap_top.proofs.StandingLemmas.{MomentsAreSoundByRows, history_is_sound, origin_sound}
use Rattle.snap_top.proofs.OfScrubLemmas.{ScrubKeepsValid}
use Rattle.snap_top.proofs.SyncedLemmas.{OneTable}
use Rattle.snap_top.proofs.LostLemmas.{FactsAreGenuine}
use Rattle.snap_top.proofs.RestoredLastLemmas.{FilesAreFinished, FixFindsAsCheck, LevelsAreMended, restored_over, tree_of_folder}
use Rattle.snap_top.proofs.SyncEndLemmas.{stands_then}
use Rattle.snap_top.proofs.SyncedLastLemmas.{IsLaidAsItIs, WhatIsLeft, all_closed, row_given, some_content}
use Rattle.snap_top.proofs.SparedLemmas.{cells_spared, levels_spared}
use Rattle.snap_top.proofs.MissesLemmas.{finds_no_less}
use Rattle.snap_top.proofs.StoppingLemmas.{SaysOfStops, enough_again, stop_spares}
use Rattle.snap_top.proofs.UndamagedLemmas.{WholeLevelsHold}
use Rattle.std.specs.Prelude.{Bool, Contains, Option, false, get_or, if◌then◌else◌, is_some}
use Rattle.content_file.specs.Spelling.{spelling}
use Rattle.array_setup.specs.declared.ways.SyncWay.{SyncWay}
use Rattle.stripe_findings.specs.Reading.{StripeReading}
use Rattle.snap_sync.specs.Soundness.{changed_without, in_front, snapshot_with}
use Rattle.content_file.specs.Save.{HasSaved}
use Rattle.parity_writer.specs.Parity.{Row, Rows}
use Rattle.snap_fix.specs.Genuine.{TellsIntactLevels}
use Rattle.snap_fix.specs.Mended.{Mended}
use Rattle.parity_writer.specs.Sound.{Closed, last_row, newest}
use Rattle.parity_writer.specs.Closing.{changed_behind}
use Rattle.snap_top.proofs.UnchangedLemmas.{first_unchanged}

-- what was last synced, with these rows
abbrev last_with : LastSynced → ℕ → Rows → LastSynced
last_with last levels rows = record { snapshot = snapshot_with rows last.snapshot; is_changed = changed_without levels rows last.is_changed }

module _ {O F V W : Type 0} (opener_view : O → OpenerView) (folder_view : F → FolderView) (vault_view : V → VaultView) (sink_view : W → SinkView) where
  abbrev begun : RunOf O F V W → Entry
  begun run = before_of opener_view folder_view vault_view sink_view run

  abbrev ended : RunOf O F V W → Exit
  ended run = after_of opener_view folder_view vault_view sink_view run

  abbrev Goes : RunOf O F V W → Standing → Standing → Type 0
  Goes run standing next = GoesOver opener_view folder_view vault_view sink_view run standing next

  -- ---- a run that changes nothing

  quiet_over : (standing : Standing) → IsQuiet opener_view folder_view vault_view sink_view standing
  quiet_over standing run next goes why =
      let always : IsSoundAlways (begun run) (ended run) run.status = goes.step.always in
      let read : always.did ≡ reads_only = ⊎_elim (λ refused. goes.step.refused refused) (λ asked. always.reads asked.0 asked.1 asked.2) why in
      let files : next.files ≡ standing.files
      = subst (λ (did : Did). (effect did).may_stand (begun run).opener.vault.files next.files) read (always.moments next.files goes.files) ∙ goes.over.files in
      let trees : next.trees ≡ standing.trees = subst (λ (did : Did). LeavesTrees (effect did).writes_files (begun run) (ended run) standing.trees next.trees) read goes.trees in
      let last : next.last ≡ standing.last = goes.last ∙ ap (λ (did : Did). synced_by did goes.count standing.last) read in
      goes.array
      ∙ ap (λ (its : List Tree). (let made : Standing = record standing { trees = its; files = next.files; last = next.last } in made)) trees
      ∙ ap (λ (its : Files). (let made : Standing = record standing { files = its; last = next.last } in made)) files
      ∙ ap (λ (its : LastSynced). (let made : Standing = record standing { last = its } in made)) last

  -- ---- a sync that went to its end

  -- what a run leaves that was asked for a sync and did not break off
  synced_by_did : (before : Entry) (exit : Exit) (status : ℕ) (asked : Options) (way : SyncWay) → asked_by before.texts ≡ Ok asked → asked.command ≡ commands.Sync way → (did : Did) → (effect did).is_of before exit
      → (effect did).has_ended ≡ true → (effect did).ends before exit status → AllTell before.opener.folders → (ends : EndsInPart before exit status) × (did ≡ syncs false ends.run)
  synced_by_did before exit status asked way words command reads_only is done ends told = absurd (only_read reads_only refl done)
  synced_by_did before exit status asked way words command (syncs true sync) is done ends told = absurd cc
  synced_by_did before exit status asked way words command (syncs false sync) is done ends told = ((ends told).0, ap (λ (run : SyncRun). syncs false run) (sym (ends told).1))
  synced_by_did before exit status asked way words command (fixes failed fix) is done ends told =
      let same : is.configured.asked ≡ asked = same_ok (asked_by before.texts) is.configured.asked asked is.configured.read words in
      let clash : commands.Fix fix.selection ≡ commands.Sync way = is.configured.command_is ∙ ap (λ (a : Options). a.command) same ∙ command in
      absurd cc
  synced_by_did before exit status asked way words command (scrubs failed scrub) is done ends told =
      let same : is.configured.asked ≡ asked = same_ok (asked_by before.texts) is.configured.asked asked is.configured.read words in
      let clash : commands.Scrub scrub.way ≡ commands.Sync way = is.configured.command_is ∙ ap (λ (a : Options). a.command) same ∙ command in
      absurd cc

  synced_over : WhatIsLeft → IsLaidAsItIs → LayoutIsOfTrees → SavesValidTables → OneTable → (standing : Standing) → SyncsLast opener_view folder_view vault_view sink_view standing
  synced_over left laid_again laid saves_valid one_table standing run next goes well stand =
      let before : Entry = begun run in
      let exit : Exit = ended run in
      let over = goes.over in
      let step = goes.step in
      let did : Did = step.always.did in
      let done : (effect did).has_ended ≡ true = step.done well.asked well.words (subst ChangesFiles (sym well.command_is) tt) well.well in
      let both = synced_by_did before exit run.status well.asked well.way well.words well.command_is did step.always.is_did done (step.at_end done) over.tells.tells_folders in
      let ends : EndsInPart before exit run.status = both.0 in
      let its : SyncRun = ends.run in
      let n : ℕ = length its.readings in
      let copies : ℕ = copies_of before.opener.vault in
      let is_sync = ends.is_sync in
      let told : IsToldRun its = record { told = subst AllTell (sym is_sync.folders_are) over.tells.tells_folders; of_lists = is_sync.over.listed } in
      let saved : HasSaved copies (spelling (end_table its)) next.files = stands_then (HasSaved copies (spelling (end_table its))) exit next.files ends.tells ends.saved stand in
      let closed : StandsBy its.plan its.readings goes.count before.opener.vault.files next.files
      = subst (λ (files : Files). StandsBy its.plan its.readings goes.count files next.files) (sym over.files) (subst (λ (d : Did). (effect d).has_closed goes.count standing.files next.files) both.1 goes.closed) in
      let contents : 0 < length its.setup.contents = some_content is_sync.configured.says.bytes is_sync.configured.asked.log its.setup is_sync.configured.says.says in
      let some : 0 < copies = omega (arith, contents, is_sync.copies_are) in
      let rows : rows_after its.plan its.readings goes.count ≡ rows_after its.plan its.readings n
      = all_closed left laid_again laid saves_valid one_table its copies before.seed before.opener.vault.files next.files is_sync.over told is_sync.begins ends.all some saved goes.count closed in
      let last_is : synced_by did goes.count standing.last ≡ synced_by did n standing.last
      = subst (λ (d : Did). synced_by d goes.count standing.last ≡ synced_by d n standing.last) (sym both.1) (ap (last_with standing.last its.plan.start.shape.levels) rows) in
      let last_rows : next.last ≡ last_with standing.last its.plan.start.shape.levels (rows_after its.plan its.readings n)
      = goes.last ∙ last_is ∙ ap (λ (d : Did). synced_by d n standing.last) both.1 in
      let given = row_given left laid_again laid saves_valid one_table its copies before.seed before.opener.vault.files next.files is_sync.over told is_sync.begins ends.all in
      record {
        ends = ends;
        did_is = both.1;
        saved = subst (λ (k : ℕ). HasSaved k (spelling (end_table its)) next.files) over.copies saved;
        last = goes.last ∙ last_is;
        rows = λ i d within is.
            let reading : StripeReading = get_or its.readings i d in (
              ap (λ (last : LastSynced). last_row last.snapshot reading.stripe) last_rows ∙ ap (λ (found : Option Row). newest (in_front found (standing.last.snapshot reading.stripe))) (given i d within is),
              λ level below. ap (λ (last : LastSynced). last.is_changed reading.stripe level) last_rows
                  ∙ ap (λ (found : Option Row). if is_some found then changed_behind its.plan.start.shape.levels standing.last.is_changed reading.stripe level else standing.last.is_changed reading.stripe level) (given i d within is)
                  ∙ first_unchanged its.plan.start.shape.levels standing.last.is_changed reading.stripe level below,
            );
      }

  -- ---- at each moment

  copies_over : (standing : Standing) → LeavesCopies opener_view folder_view vault_view sink_view standing
  copies_over standing run next goes =
      let did : Did = goes.step.always.did in
      subst (λ (n : ℕ). (effect did).copies_are n standing.files next.files) goes.over.copies
      (subst (λ (files : Files). (effect did).copies_are (copies_of (begun run).opener.vault) files next.files) goes.over.files (goes.step.always.copies next.files goes.files))

  spares_over : SaysOfStops → (standing : Standing) → FixesSpare opener_view folder_view vault_view sink_view standing
  spares_over says standing run next goes = by goes.step.always.did goes.step.always.is_did goes.trees
      (subst (λ (files : Files). (effect goes.step.always.did).may_stand files next.files) goes.over.files (goes.step.always.moments next.files goes.files))
    where
      held_tree : (d : ℕ) → (folder_held (begun run).opener d).tree ≡ tree_at standing.trees d
      held_tree d = sym (tree_of_folder (begun run).opener.folders d) ∙ ap (λ (trees : List Tree). tree_at trees d) goes.over.trees

      by : (did : Did) → (effect did).is_of (begun run) (ended run) → LeavesTrees (effect did).writes_files (begun run) (ended run) standing.trees next.trees → (effect did).may_stand standing.files next.files
          → (effect did).spares standing.trees next.trees standing.files next.files
      by reads_only is leaves moment = tt
      by (syncs failed sync) is leaves moment = tt
      by (scrubs failed scrub) is leaves moment = tt
      by (fixes failed fix) is leaves moment = record {
        cells = λ d below.
            subst (λ (tree : Tree). SparesCells fix d tree (tree_at next.trees d)) (held_tree d)
            (cells_spared says (begun run) (ended run) fix d (tree_at next.trees d) is (leaves.1 d below));
        files = λ d below.
            subst (λ (tree : Tree). SparesFiles (stop_of fix d tree (tree_at next.trees d))) (held_tree d)
            (stop_spares says (begun run) (ended run) fix d (tree_at next.trees d) is (leaves.1 d below));
        levels = levels_spared fix standing.files next.files moment;
        vault = moment;
      }

  -- ---- the next fix

  resumes_over : WholeLevelsHold → FixKeepsSound → SaysOfStops → (standing : Standing) → IsSoundStanding standing → FixesAreResumed opener_view folder_view vault_view sink_view standing
  resumes_over holds keeps says standing sound run again next failed fix fix_again goes begins step did_is did_then loaded well =
      let before : Entry = begun run in
      let exit : Exit = ended run in
      let before_then : Entry = begun again in
      let exit_then : Exit = ended again in
      let is : IsFixOf before exit fix = subst (λ (did : Did). (effect did).is_of before exit) did_is goes.step.always.is_did in
      let is_then : IsFixOf before_then exit_then fix_again = subst (λ (did : Did). (effect did).is_of before_then exit_then) did_then step.always.is_did in
      let leaves : LeavesTrees (effect (fixes failed fix)).writes_files before exit standing.trees next.trees = subst (λ (did : Did). LeavesTrees (effect did).writes_files before exit standing.trees next.trees) did_is goes.trees in
      let held : length before.opener.folders ≡ length standing.trees = sym (length-map before.opener.folders (λ (folder : FolderView). folder.tree)) ∙ ap length goes.over.trees in
      let ends_by : (effect (fixes false fix_again)).ends before_then exit_then again.status = subst (λ (did : Did). (effect did).ends before_then exit_then again.status) did_then (step.at_end (ap (λ (did : Did). (effect did).has_ended) did_then)) in
      let ends : (ends : EndsFixed before_then exit_then again.status) × (ends.run ≡ fix_again) = ends_by begins.tells.tells_folders in
      let over_left : IsNextFix before exit fix before_then exit_then ends.0.run = record {
        tells = goes.over.tells;
        tells_then = begins.tells;
        left = λ d below. subst (λ (trees : List Tree). FolderStandsIn before exit d (tree_at trees d)) (sym begins.trees) (leaves.1 d (omega (arith, below, held)));
        loaded = ap (λ (its : FixRun). its.loaded) ends.1 ∙ loaded;
        well = well;
      } in
      let no_less : (mended mended_again : Mended) → Contains fix.stripes mended → Contains fix_again.stripes mended_again → mended_again.facts.stripe ≡ mended.facts.stripe → FindsNoLess fix fix_again mended mended_again
      = λ mended mended_again one one_then stripe. subst (λ (its : FixRun). FindsNoLess fix its mended mended_again) ends.1
      (finds_no_less says before before_then exit exit_then again.status fix is ends.0 over_left mended mended_again one (subst (λ (its : FixRun). Contains its.stripes mended_again) (sym ends.1) one_then) stripe) in
      let changed : next.last.is_changed ≡ standing.last.is_changed = ap (λ (last : LastSynced). last.is_changed) goes.last ∙ ap (λ (did : Did). (synced_by did goes.count standing.last).is_changed) did_is in
      let snapshot : next.last.snapshot ≡ standing.last.snapshot = ap (λ (last : LastSynced). last.snapshot) goes.last ∙ ap (λ (did : Did). (synced_by did goes.count standing.last).snapshot) did_is in
      let are : AreSoundBy (copies_of before.opener.vault) before.opener.vault.files standing.last
      = subst (λ (k : ℕ). AreSoundBy k before.opener.vault.files standing.last) (sym goes.over.copies) (subst (λ (fs : Files). AreSoundBy standing.copies fs standing.last) (sym goes.over.files) sound.sound) in
      let left : MayStandFixed fix before.opener.vault.files before_then.opener.vault.files = subst (MayStandFixed fix before.opener.vault.files) (sym begins.files)
      (subst (λ (did : Did). (effect did).may_stand before.opener.vault.files next.files) did_is (goes.step.always.moments next.files goes.files)) in
      record {
        enough = λ mended mended_again one one_then stripe enough.
            subst (λ (is_changed : ℕ → ℕ → Bool). HasEnough fix_again is_changed mended_again.facts) (sym changed)
            (enough_again fix fix_again standing.last.is_changed mended mended_again (no_less mended mended_again one one_then stripe) enough);
        restorable = λ mended mended_again is_intact is_intact_then one one_then stripe tells tells_then.
            restorable_again holds keeps (copies_of before.opener.vault) before.opener.vault fix standing.last.snapshot standing.last.is_changed goes.over.tells.tells_vault is.over
            (loaded_sound (copies_of before.opener.vault) fix.loaded before.opener.vault.files standing.last.snapshot standing.last.is_changed is.over.valid is.over.is_loaded are)
            (subst (λ (did : Did). (effect did).meets_no_chance standing.last.snapshot) did_is goes.genuine) mended one is_intact tells
            before_then exit_then fix_again is_then begins.tells.tells_vault loaded left mended_again one_then (no_less mended mended_again one one_then stripe) is_intact_then
            (subst (λ (snapshot : Closed). TellsIntactLevels fix_again.plan mended_again.facts (last_row snapshot mended_again.facts.stripe) is_intact_then) snapshot tells_then);
      }

  -- ---- what stands next

  closed_then : (did : Did) (old new : Files) → (effect did).may_stand old new → (count : ℕ) × (effect did).has_closed count old new
  closed_then reads_only old new moment = (0, refl)
  closed_then (syncs failed run) old new (Opening saves) = (0, inl (refl, saves))
  closed_then (syncs failed run) old new (AtWork c k work) = (k, inr (c, work))
  closed_then (fixes failed run) old new moment = (0, refl)
  closed_then (scrubs failed run) old new moment = (0, refl)

  goes_on_over : (standing : Standing) → GoesOn opener_view folder_view vault_view sink_view standing
  goes_on_over standing run files trees over step stands leaves genuine =
      let always : IsSoundAlways (begun run) (ended run) run.status = step.always in
      let closed = closed_then always.did standing.files files (subst (λ (fs : Files). (effect always.did).may_stand fs files) over.files (always.moments files stands)) in
      let next : Standing = record {
        config = standing.config;
        trees = trees;
        copies = standing.copies;
        files = files;
        last = synced_by always.did closed.0 standing.last;
      } in (
        next,
        refl,
        refl,
        record {
          over = over;
          step = step;
          genuine = genuine;
          array = refl;
          files = stands;
          trees = leaves;
          count = closed.0;
          closed = closed.1;
          last = refl;
        },
        refl,
      )

  -- ---- a check names what is lost

  names_over : (standing : Standing) → IsSoundStanding standing → ChecksName opener_view folder_view vault_view sink_view standing
  names_over standing sound run over ends genuine =
      let before : Entry = begun run in
      let checks = ends.has.is_check.over in
      let are : AreSoundBy (copies_of before.opener.vault) before.opener.vault.files standing.last
      = subst (λ (k : ℕ). AreSoundBy k before.opener.vault.files standing.last) (sym over.copies) (subst (λ (fs : Files). AreSoundBy standing.copies fs standing.last) (sym over.files) sound.sound) in
      ends.named standing.last.snapshot standing.last.is_changed
      (loaded_sound (copies_of before.opener.vault) ends.run.loaded before.opener.vault.files standing.last.snapshot standing.last.is_changed checks.valid checks.is_loaded are) genuine

  -- ---- trees at each moment of a run

  trees_over : (standing : Standing) → TreesStay opener_view folder_view vault_view sink_view standing
  trees_over standing run d left over step has none at =
      step.stops has none d left at ∙ sym (tree_of_folder (begun run).opener.folders d) ∙ ap (λ (trees : List Tree). tree_at trees d) over.trees

  -- ---- a run that opened nothing

  unopened_over : (standing : Standing) → UnopenedStays opener_view folder_view vault_view sink_view standing
  unopened_over standing run over step none =
      let same : HoldsSame (begun run).opener (ended run).opener = step.unopened none in
      let told = over.tells.tells in
      record {
        config = same.array.config told ∙ over.config;
        trees = ap trees_of (same.array.folders told) ∙ over.trees;
        copies = ap length (same.array.vault.drafts told) ∙ over.copies;
        files = same.array.vault.files told ∙ over.files;
      }

  -- ---- what stands at the end of a run

  trees_same : (olds news : List FolderView) → length news ≡ length olds → ((d : ℕ) → d < length olds → (folder_at news d).tree ≡ (folder_at olds d).tree) → trees_of news ≡ trees_of olds
  trees_same [] [] long each = refl
  trees_same [] (new ∷ news) long each = absurd (omega (arith, long))
  trees_same (old ∷ olds) [] long each = absurd (omega (arith, long))
  trees_same (old ∷ olds) (new ∷ news) long each =
      let first : new.tree ≡ old.tree = each 0 (omega arith) in
      let rest : trees_of news ≡ trees_of olds = trees_same olds news (omega (arith, long)) (λ d below. each (suc d) (omega (arith, below))) in
      ap (λ (tree : Tree). tree ∷ trees_of news) first ∙ ap (λ (trees : List Tree). old.tree ∷ trees) rest

  read_trees : (olds news : List FolderView) → AllTell olds → AllReadOnly olds news → trees_of news ≡ trees_of olds
  read_trees olds news told read = trees_same olds news read.count (λ d below. (read.each d below).tree (told d below))

  leaves_trees : (standing : Standing) (run : RunOf O F V W) → BeginsOver standing (begun run) → (did : Did) → (effect did).folders_after (begun run).opener.folders (ended run).after.folders
      → LeavesTrees (effect did).writes_files (begun run) (ended run) standing.trees (trees_of (ended run).after.folders)
  leaves_trees standing run over reads_only after = read_trees _ _ over.tells.tells_folders after ∙ over.trees
  leaves_trees standing run over (syncs failed sync) after = read_trees _ _ over.tells.tells_folders after ∙ over.trees
  leaves_trees standing run over (scrubs failed scrub) after = read_trees _ _ over.tells.tells_folders after ∙ over.trees
  leaves_trees standing run over (fixes failed fix) after =
      let news : List FolderView = (ended run).after.folders in
      let olds : List FolderView = (begun run).opener.folders in
      let held : length olds ≡ length standing.trees = sym (length-map olds (λ (folder : FolderView). folder.tree)) ∙ ap length over.trees in (
        length-map news (λ (folder : FolderView). folder.tree) ∙ after.count ∙ held,
        λ d below.
            let within : d < length olds = omega (arith, below, held) in
            record { within = within; tells = over.tells.tells_folders d within; is_tree = over.are_trees d within; stands = inl (tree_of_folder news d) },
      )

  arrives_over : (standing : Standing) → ArrivesAtItsEnd opener_view folder_view vault_view sink_view standing
  arrives_over standing run over step has genuine =
      goes_on_over standing run (ended run).after.vault.files (trees_of (ended run).after.folders) over step (inl refl)
      (leaves_trees standing run over step.always.did (step.folders has)) genuine

  -- ---- all of it

  pub headline_holds : MomentsAreSoundByRows → OneTable → LayoutIsOfTrees → SavesValidTables → ScrubKeepsValid → SyncsAreResumed → FullKeepsShape → WholeLevelsHold → WhatIsLeft → IsLaidAsItIs
      → FactsAreGenuine → FixKeepsSound → LevelsAreMended → FixFindsAsCheck → FilesAreFinished → SaysOfStops → (first standing : Standing) (stages : List (Stage O F V W)) → IsOrigin first
      → IsHistory opener_view folder_view vault_view sink_view first stages standing → Headline opener_view folder_view vault_view sink_view standing
  headline_holds by_rows one_table laid saves_valid marks_valid resumed keeps holds left laid_again genuine keeps_sound mended as_check are_finished says first standing stages origin history =
      let sound : IsSoundStanding standing = history_is_sound by_rows one_table saves_valid marks_valid opener_view folder_view vault_view sink_view first stages standing history (origin_sound first origin) in
      record {
        sound = sound;
        resumed = resumed_over opener_view folder_view vault_view sink_view resumed keeps standing sound;
        in_full = λ setup trees seed stages later again last loaded table now full.
            full_over opener_view folder_view vault_view sink_view laid one_table setup trees seed resumed keeps standing later again stages last loaded table now full sound;
        synced = synced_over left laid_again laid saves_valid one_table standing;
        restores = restored_over opener_view folder_view vault_view sink_view holds genuine mended as_check are_finished standing sound;
        spares = spares_over says standing;
        resumes = resumes_over holds keeps_sound says standing sound;
        names = names_over standing sound;
        copies = copies_over standing;
        quiet = quiet_over standing;
        trees = trees_over standing;
        unopened = unopened_over standing;
        goes_on = goes_on_over standing;
        arrives = arrives_over standing;
      }
