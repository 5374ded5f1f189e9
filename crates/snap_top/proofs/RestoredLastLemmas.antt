-- What a fix that went to its end restores of what was last synced, and what it names.
use Rattle.std.proofs.lemmas.List.Elements.{All-contains}
use Rattle.std.proofs.Common.{◌≡◌, ℕ, ◌<◌, zero, suc, List, [], ◌∷◌, length, true, Ok, refl, sym, ap, ◌∙◌, subst, arith}
use Rattle.cauchy.specs.Matrix.{byte_of}
use Rattle.disk_model.specs.Files.{Files, parity_of}
use Rattle.disk_model.specs.Folder.{FolderView}
use Rattle.disk_model.specs.Opener.{OpenerView}
use Rattle.disk_model.specs.Sink.{SinkView}
use Rattle.disk_model.specs.Tree.{Tree}
use Rattle.disk_model.specs.Vault.{VaultView, copies_of}
use Rattle.disk_model.specs.declared.meta.Stamp.{Stamp}
use Rattle.parity_writer.specs.Sound.{Sound, Closed, last_row}
use Rattle.snap_config.specs.declared.options.Command.TheVariants as commands
use Rattle.snap_config.specs.declared.options.Options.{Options}
use Rattle.array_setup.specs.declared.ways.Selection.{Selection}
use Rattle.snap_fix.specs.Fixing.{facts_of}
use Rattle.snap_fix.specs.Genuine.{AreGenuine, HasGenuineFacts, AreGenuineOf}
use Rattle.snap_fix.specs.Mended.{has_lost, Mended, is_wrong_level}
use Rattle.snap_fix.specs.Ending.{is_finished}
use Rattle.snap_fix.specs.Restored.{HoldsCell, HasFinished, HasFixed, StandsFinished}
use Rattle.snap_sync.specs.Part.{AllTell, tree_at, trees_of}
use Rattle.stripe_reader.specs.Columns.{folder_at}
use Rattle.snap_top.specs.Effect.{effect}
use Rattle.snap_top.specs.Fix.{FixRun, LeavesFixed}
use Rattle.snap_top.specs.Headline.{FixesRestore, IsSoundStanding}
use Rattle.snap_top.specs.LastSynced.{AreSoundBy}
use Rattle.snap_top.specs.Stands.{TellsAll}
use Rattle.snap_top.specs.Began.{IsFixOf}
use Rattle.snap_top.specs.Asked.{asked_by}
use Rattle.snap_top.specs.Restoring.{EndsFixed, events_in}
use Rattle.snap_top.specs.Step.{ChangesFiles}
use Rattle.snap_top.specs.RunOf.{RunOf}
use Rattle.snap_top.specs.Entry.{Entry, Exit}
use Rattle.snap_top.specs.Standing.{Standing, after_of, before_of}
use Rattle.snap_top.specs.Did.{Did, fixes, reads_only, scrubs, syncs}
use Rattle.snap_top.proofs.CompleteLemmas.{same_ok}
use Rattle.snap_top.proofs.EndedLemmas.{only_read}
use Rattle.snap_top.proofs.KeptLemmas.{among_all, kept_in}
use Rattle.snap_top.proofs.LostEvents.{blocked_is_told, told_is_blocked, told_is_unsynced, unsynced_is_told}
use Rattle.snap_top.proofs.LostLemmas.{FactsAreGenuine}
use Rattle.snap_top.proofs.OfFixLemmas.{genuine_by, loaded_sound}
use Rattle.snap_top.proofs.SyncEndLemmas.{stands_then}
use Rattle.snap_top.proofs.UndamagedLemmas.{WholeLevelsHold, restored_by_counting}
use Rattle.snap_report.specs.Kind.{is_finding}
use Rattle.std.specs.Prelude.{Bool, Contains, IsTrue, None, Option, false, filter, get_or, ◌&&◌}
use Rattle.file_restorer.specs.declared.finishing.Finish.{Finish}
use Rattle.parity_writer.specs.declared.levels.LevelRead.{LevelRead}
use Rattle.parity_writer.specs.declared.levels.LevelRead.TheVariants as here
use Rattle.stripe_examiner.specs.Findings.{is_wrong, is_wrong_by, may_write_level}
use Rattle.parity_writer.specs.Parity.{HasLevel, Row}
use Rattle.parity_writer.specs.LevelsValue.{LevelValue, no_level}
use Rattle.snap_fix.specs.Underway.{HoldsWrong}
use Rattle.stripe_examiner.specs.Known.{AreFacts, IsTried}
use Rattle.repair_scope.specs.Plan.{FixPlan, is_audit, is_searched}
use Rattle.stripe_examiner.specs.Place.{starts_of}
use Rattle.snap_report.specs.declared.events.Event.{Event}
use Rattle.snap_report.specs.declared.events.Event.TheVariants as event
use Rattle.stripe_examiner.specs.Facts.{StripeFacts}
use Rattle.file_table.specs.Table.{TableValue, records_in}
use Rattle.snap_fix.specs.Course.{check_events}
use Rattle.stripe_reader.specs.Starts.{StartsValue}
use Rattle.snap_fix.specs.FixCourse.{fix_events}
use Rattle.snap_top.proofs.HistoryLemmas.{last_bytes}

-- what snap_fix says of the levels that a fix wrote, and of what it finds
abbrev pub LevelsAreMended : Type 0
LevelsAreMended = (plan : FixPlan) (starts : StartsValue) (firsts : List FolderView) (snapshot : Row) (facts : StripeFacts) (left : Files) (r : ℕ) → HasGenuineFacts plan starts firsts snapshot facts → HoldsWrong plan facts left
    → is_wrong_level plan facts r ≡ true → HasLevel plan.table.shape.block_size r facts.stripe snapshot (parity_of left r)

abbrev pub FixFindsAsCheck : Type 0
FixFindsAsCheck = (plan : FixPlan) (starts : StartsValue) (stripes : List Mended) (finishes : List (List Finish)) (firsts news : List FolderView) → HasFixed plan starts stripes finishes firsts news
    → ((d : ℕ) → d < length plan.table.columns → IsTrue (folder_at firsts d).tells) → filter is_finding (fix_events plan stripes finishes) ≡ check_events plan (facts_of stripes)

abbrev pub FilesAreFinished : Type 0
FilesAreFinished = (plan : FixPlan) (starts : StartsValue) (stripes : List Mended) (finishes : List (List Finish)) (firsts news : List FolderView) (d i : ℕ)
    → HasFinished plan starts stripes finishes firsts news d i
    → StandsFinished plan stripes d i (folder_at firsts d).keeps (folder_at firsts d).tree (folder_at news d).tree

-- ---- what is found is told, and is all that is told of its kind

found_so : (told found : List Event) (it : Event) → filter is_finding told ≡ found → is_finding it ≡ true → Contains told it → Contains found it
found_so told found it is finding has = subst (λ (events : List Event). Contains events it) is (kept_in is_finding told it has finding)

told_so : (told found : List Event) (it : Event) → filter is_finding told ≡ found → Contains found it → Contains told it
told_so told found it is has = among_all is_finding told it (subst (λ (events : List Event). Contains events it) (sym is) has)

-- ---- a level is wrong only where the row of its stripe is known, and so searched for

pub unknown_right : (block_size r : ℕ) (state : LevelRead) (block : List ℕ) (selected : Bool) → (selected && is_wrong_by block_size r state block None) ≡ true → ⊥
unknown_right block_size r here.Bytes block true wrong = cc
unknown_right block_size r here.Short block true wrong = cc
unknown_right block_size r here.Unread block true wrong = cc
unknown_right block_size r here.Bytes block false wrong = cc
unknown_right block_size r here.Short block false wrong = cc
unknown_right block_size r here.Unread block false wrong = cc

wrong_is_searched : (plan : FixPlan) (facts : StripeFacts) (r : ℕ) → AreFacts plan facts → is_wrong_level plan facts r ≡ true → is_searched plan facts.stripe ≡ true
wrong_is_searched plan facts r are wrong = by (is_searched plan facts.stripe) are.tried
  where
    level : LevelValue
    level = get_or facts.levels r no_level

    by : (b : Bool) → IsTried plan facts b → b ≡ true
    by true tried = refl
    by false tried =
        absurd (unknown_right plan.table.shape.block_size r level.state level.block (may_write_level plan facts.stripe r) (subst (λ (row : Option Row). is_wrong plan facts.stripe level row r ≡ true) tried.2 wrong))

module _ (before : Entry) (exit : Exit) (run : FixRun) (is : IsFixOf before exit run) (tells : TellsAll before) where
  within_folders : (d : ℕ) → d < length run.plan.table.columns → d < length run.folders
  within_folders d below =
      let columns : length run.plan.table.columns ≡ length run.loaded.columns = ap (λ (t : TableValue). length t.columns) is.over.plan_is.table_is in
      omega (arith, below, columns, is.over.columns)

  all_tell : AllTell run.folders
  all_tell = subst AllTell (sym is.folders_are) tells.tells_folders

  -- the folders tell their files also once they were listed
  listed_tells : (d : ℕ) → d < length run.plan.table.columns → IsTrue (folder_at run.listed d).tells
  listed_tells d below = (is.over.listed.each d (within_folders d below)).call.called.goes_on.tells ∙ all_tell d (within_folders d below)

  -- a finished file stands so over what they held first
  finished_since : (finishes : List (List Finish)) → FilesAreFinished → HasFixed run.plan (starts_of run.loaded run.lists) run.stripes finishes run.listed run.ended
      → (d i : ℕ) → d < length run.plan.table.columns → i < length (records_in run.plan.table d) → is_finished run.plan d i ≡ true
      → StandsFinished run.plan run.stripes d i (folder_at run.folders d).keeps (folder_at run.folders d).tree (folder_at run.ended d).tree
  finished_since finishes says fixed d i below inside finished =
      let listed = is.over.listed.each d (within_folders d below) in
      let stands = says run.plan (starts_of run.loaded run.lists) run.stripes finishes run.listed run.ended d i
      (record { fixed = record { fixed = fixed; tells = listed_tells d below; column = below; inside = inside }; finished = finished }) in
      subst (λ (keeps : Stamp → Bool). StandsFinished run.plan run.stripes d i keeps (folder_at run.folders d).tree (folder_at run.ended d).tree) listed.call.called.goes_on.keeps
      (subst (λ (first : Tree). StandsFinished run.plan run.stripes d i (folder_at run.listed d).keeps first (folder_at run.ended d).tree)
      (listed.call.tree (all_tell d (within_folders d below))) stands)

pub tree_of_folder : (folders : List FolderView) (d : ℕ) → tree_at (trees_of folders) d ≡ (folder_at folders d).tree
tree_of_folder [] d = refl
tree_of_folder (folder ∷ folders) zero = refl
tree_of_folder (folder ∷ folders) (suc d) = tree_of_folder folders d

module _ {O F V W : Type 0} (opener_view : O → OpenerView) (folder_view : F → FolderView) (vault_view : V → VaultView) (sink_view : W → SinkView) where
  abbrev begun : RunOf O F V W → Entry
  begun run = before_of opener_view folder_view vault_view sink_view run

  abbrev ended : RunOf O F V W → Exit
  ended run = after_of opener_view folder_view vault_view sink_view run

  -- what a run leaves that was asked for a fix and did not break off; it met no hash by chance
  fixed_by : (before : Entry) (exit : Exit) (status : ℕ) (asked : Options) (selection : Selection) → asked_by before.texts ≡ Ok asked → asked.command ≡ commands.Fix selection → (snapshot : Closed) (did : Did)
      → (effect did).is_of before exit → (effect did).meets_no_chance snapshot → (effect did).has_ended ≡ true → (effect did).ends before exit status
      → AllTell before.opener.folders → (ends : EndsFixed before exit status) × (did ≡ fixes false ends.run) × AreGenuine ends.run.plan (last_row snapshot) (facts_of ends.run.stripes)
  fixed_by before exit status asked selection words command snapshot reads_only is genuine done ends told = absurd (only_read reads_only refl done)
  fixed_by before exit status asked selection words command snapshot (syncs failed sync) is genuine done ends told =
      let same : is.configured.asked ≡ asked = same_ok (asked_by before.texts) is.configured.asked asked is.configured.read words in
      let clash : commands.Sync is.way ≡ commands.Fix selection = is.configured.command_is ∙ ap (λ (a : Options). a.command) same ∙ command in
      absurd cc
  fixed_by before exit status asked selection words command snapshot (fixes true fix) is genuine done ends told = absurd cc
  fixed_by before exit status asked selection words command snapshot (fixes false fix) is genuine done ends told =
      let its = ends told in
      (its.0, ap (λ (run : FixRun). fixes false run) (sym its.1), subst (λ (run : FixRun). AreGenuine run.plan (last_row snapshot) (facts_of run.stripes)) (sym its.1) genuine)
  fixed_by before exit status asked selection words command snapshot (scrubs failed scrub) is genuine done ends told =
      let same : is.configured.asked ≡ asked = same_ok (asked_by before.texts) is.configured.asked asked is.configured.read words in
      let clash : commands.Scrub scrub.way ≡ commands.Fix selection = is.configured.command_is ∙ ap (λ (a : Options). a.command) same ∙ command in
      absurd cc

  pub restored_over : WholeLevelsHold → FactsAreGenuine → LevelsAreMended → FixFindsAsCheck → FilesAreFinished → (standing : Standing) → IsSoundStanding standing → FixesRestore opener_view folder_view vault_view sink_view standing
  restored_over holds are_genuine mended as_check are_finished standing sound run next goes fix at_end =
      let before : Entry = begun run in
      let exit : Exit = ended run in
      let over = goes.over in
      let step = goes.step in
      let done : (effect step.always.did).has_ended ≡ true = step.done fix.asked fix.words (subst ChangesFiles (sym fix.command_is) tt) fix.well in
      let both = fixed_by before exit run.status fix.asked fix.selection fix.words fix.command_is standing.last.snapshot step.always.did step.always.is_did goes.genuine done (step.at_end done) over.tells.tells_folders in
      let ends : EndsFixed before exit run.status = both.0 in
      let fixed : FixRun = ends.run in
      let snapshot = standing.last.snapshot in
      let is_changed = standing.last.is_changed in
      let are : AreSoundBy (copies_of before.opener.vault) before.opener.vault.files standing.last
      = subst (λ (k : ℕ). AreSoundBy k before.opener.vault.files standing.last) (sym over.copies) (subst (λ (fs : Files). AreSoundBy standing.copies fs standing.last) (sym over.files) sound.sound) in
      let loaded : Sound fixed.loaded before.opener.vault.files snapshot is_changed
      = loaded_sound (copies_of before.opener.vault) fixed.loaded before.opener.vault.files snapshot is_changed ends.is_fix.over.valid ends.is_fix.over.is_loaded are in
      let genuine_of : AreGenuineOf fixed.plan (starts_of fixed.loaded fixed.lists) fixed.listed before.opener.vault.files snapshot is_changed (facts_of fixed.stripes)
      = genuine_by (copies_of before.opener.vault) before.opener.vault fixed snapshot is_changed over.tells.tells_vault ends.is_fix.over loaded both.2 in
      let parity : is_audit fixed.plan.scope.mode ≡ false = ap is_audit ends.is_fix.over.plan_is.scope.mode_is in
      let told : filter is_finding (events_in fixed ends.finishes) ≡ check_events fixed.plan (facts_of fixed.stripes)
      = as_check fixed.plan (starts_of fixed.loaded fixed.lists) fixed.stripes ends.finishes fixed.listed fixed.ended ends.fixed (listed_tells before exit fixed ends.is_fix over.tells) in
      let tree_is : (d : ℕ) → (folder_at fixed.ended d).tree ≡ tree_at next.trees d
      = λ d. sym (ap (λ (ts : List Tree). tree_at ts d) at_end ∙ tree_of_folder exit.after.folders d ∙ ap (λ (folders : List FolderView). (folder_at folders d).tree) (sym ends.is_fix.ended_is)) in
      record {
        ends = ends;
        did_is = both.1;
        genuine = both.2;
        levels = λ files stand facts r one wrong.
            let are : AreFacts fixed.plan facts = All-contains (AreFacts fixed.plan) (facts_of fixed.stripes) facts ends.fixed.are one in
            let searched : is_searched fixed.plan facts.stripe ≡ true = wrong_is_searched fixed.plan facts r are wrong in
            mended fixed.plan (starts_of fixed.loaded fixed.lists) fixed.listed (last_row snapshot facts.stripe) facts files r
            (are_genuine fixed.plan (starts_of fixed.loaded fixed.lists) fixed.listed before.opener.vault.files snapshot is_changed (facts_of fixed.stripes) facts genuine_of one searched)
            (All-contains (λ (of : StripeFacts). HoldsWrong fixed.plan of files) (facts_of fixed.stripes) facts (stands_then (LeavesFixed fixed) exit files ends.tells ends.leaves stand) one)
            wrong;
        restores =
            let restores = ends.restores snapshot is_changed loaded both.2 in
            record {
              restored = λ facts d cell is_intact reach searched tells can.
                  subst (λ (tree : Tree). HoldsCell fixed.plan.table d cell (has_lost fixed.plan fixed.stripes d cell.rec) (byte_of (last_row snapshot facts.stripe) d) tree)
                  (tree_is d)
                  (restores.restored facts d cell is_intact (record { is = reach.is; synced = searched; bytes = last_bytes snapshot facts.stripe sound.bytes; tells = tells }) reach.free can);
              counted = λ facts d cell reach synced enough.
                  subst (λ (tree : Tree). HoldsCell fixed.plan.table d cell (has_lost fixed.plan fixed.stripes d cell.rec) (byte_of (last_row snapshot facts.stripe) d) tree)
                  (tree_is d)
                  (restored_by_counting holds before exit fixed ends.finishes snapshot is_changed facts d cell ends.is_fix over.tells.tells_vault loaded restores
                  (record { is = reach.is; synced = synced; free = reach.free; bytes = last_bytes snapshot facts.stripe sound.bytes; enough = enough }));
              named = λ facts d cell is_intact is synced tells.
                  restores.named facts d cell is_intact (record { is = is; synced = synced; bytes = last_bytes snapshot facts.stripe sound.bytes; tells = tells });
              unsynced = λ stripe. (
                λ has. told_is_unsynced fixed.plan (facts_of fixed.stripes) ends.fixed.are stripe (found_so (events_in fixed ends.finishes) (check_events fixed.plan (facts_of fixed.stripes)) (event.Unsynced stripe) told refl has),
                λ it. told_so (events_in fixed ends.finishes) (check_events fixed.plan (facts_of fixed.stripes)) (event.Unsynced stripe) told
                    (unsynced_is_told fixed.plan (facts_of fixed.stripes) parity ends.fixed.numbers stripe it),
              );
              blocked = λ d i. (
                λ has. told_is_blocked fixed.plan (facts_of fixed.stripes) d i (found_so (events_in fixed ends.finishes) (check_events fixed.plan (facts_of fixed.stripes)) (event.Blocked d i) told refl has),
                λ it. told_so (events_in fixed ends.finishes) (check_events fixed.plan (facts_of fixed.stripes)) (event.Blocked d i) told
                    (blocked_is_told fixed.plan (facts_of fixed.stripes) parity d i it),
              );
              finished = λ d i below inside finished.
                  subst (λ (tree : Tree). StandsFinished fixed.plan fixed.stripes d i (folder_at fixed.folders d).keeps (folder_at fixed.folders d).tree tree) (tree_is d)
                  (finished_since before exit fixed ends.is_fix over.tells ends.finishes are_finished ends.fixed d i below inside finished);
            };
      }
