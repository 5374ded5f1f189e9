-- Two checks of one array find the same, and a fix after one that was stopped can restore as much.
use Rattle.std.proofs.Common.{◌≡◌, inl, inr, ℕ, zero, suc, ◌≤◌, ◌&&◌, ◌==◌, List, [], ◌∷◌, get_or, map, take, Bool, true, false, Option, None, IsTrue, Ok, refl, sym, ap, ◌∙◌, subst, arith}
use Rattle.std.proofs.lemmas.Bool.Decides.{Decides-eqb}
use Rattle.disk_model.specs.Files.{Files}
use Rattle.disk_model.specs.Folder.{FolderView}
use Rattle.disk_model.specs.Opener.{OpenerView}
use Rattle.disk_model.specs.Sink.{SinkView}
use Rattle.disk_model.specs.Vault.{VaultView, copies_of}
use Rattle.file_table.specs.Table.{TableValue}
use Rattle.snap_config.specs.Config.{read_setup}
use Rattle.array_setup.specs.Setup.{SetupValue}
use Rattle.snap_config.specs.declared.options.Command.{Command}
use Rattle.snap_config.specs.declared.options.Command.TheVariants as commands
use Rattle.snap_config.specs.declared.options.Options.{Options}
use Rattle.array_setup.specs.declared.ways.Selection.{Selection}
use Rattle.repair_scope.specs.declared.scope.Mode.{Mode}
use Rattle.repair_scope.specs.declared.scope.Mode.TheVariants as modes
use Rattle.stripe_reader.specs.Columns.{folder_at}
use Rattle.snap_top.specs.Alike.{AskAlike, CheckAlike, HoldAlike}
use Rattle.snap_top.specs.Unbroken.{NothingRose}
use Rattle.snap_top.specs.Check.{CheckRun}
use Rattle.snap_top.specs.Ended.{ByStatus}
use Rattle.snap_top.specs.Effect.{effect}
use Rattle.snap_top.specs.Fix.{FixRun, MayStandFixed}
use Rattle.snap_top.specs.Headline.{Headline}
use Rattle.snap_top.specs.LastSynced.{LastSynced}
use Rattle.snap_top.specs.Asked.{asked_by, ChangesNothing}
use Rattle.snap_top.specs.Began.{IsFixOf}
use Rattle.snap_top.specs.Stands.{TellsAll}
use Rattle.snap_top.specs.Naming.{EndsChecked, HasChecked}
use Rattle.snap_top.specs.AsAsked.{EndsAsAsked}
use Rattle.snap_top.specs.RunOf.{RunOf}
use Rattle.snap_top.specs.Entry.{Entry, Exit}
use Rattle.snap_top.specs.Standing.{BeginsOver, GoesOver, IsHistory, IsOrigin, Stage, Standing, after_of, before_of}
use Rattle.snap_top.specs.Step.{ChangesFiles, RunStep}
use Rattle.snap_top.specs.Sync.{BeginsFrom}
use Rattle.snap_top.specs.Did.{Did, fixes, reads_only, scrubs, syncs}
use Rattle.snap_top.proofs.AskedLemmas.{command_asked, setup_read, unfailed}
use Rattle.snap_top.proofs.CompleteLemmas.{same_ok}
use Rattle.snap_top.proofs.ResumeLemmas.{begins_same}
use Rattle.snap_top.proofs.SyncedLemmas.{OneTable}
use Rattle.snap_top_histories.specs.Lived.{AskForFix, AskForNoFix, HasHistory, IsLeftOf, IsNoFix, RunsOver, standing_of}
use Rattle.snap_top_histories.specs.Repeated.{AskForCheck, IsCheckedTwice, IsFixedAgain, are_calm}
use Rattle.snap_top_histories.proofs.LivedLemmas.{goes_with}
use Rattle.snap_top_histories.proofs.OnceLemmas.{LeftOfOne, MeetsNone, goes_left, history, stages}
use Rattle.snap_top_histories.proofs.ResumedLemmas.{HoldsAlways, none_rose, not_risen}

pub few_is : (status is few : ℕ) → status ≡ is → is ≤ few → status ≤ few
few_is status is few same less = subst (λ (n : ℕ). n ≤ few) (sym same) less

both_are : (a b : Bool) → (a && b) ≡ true → (a ≡ true) × (b ≡ true)
both_are true b is = (refl, is)
both_are false b is = absurd (let clash : false ≡ true = is in cc)

-- copies that are the same give the same table to begin with
same_copies : (setup : SetupValue) (seed : List ℕ) (copies : ℕ) (files others : Files) (table : TableValue) → others.contents ≡ files.contents → BeginsFrom setup seed copies others table → BeginsFrom setup seed copies files table
same_copies setup seed copies files others table same (inl first) = inl (record {
  copy = first.copy;
  within = first.within;
  valid = first.valid;
  spells = ap (λ (contents : List (Option (List ℕ))). get_or contents first.copy None) (sym same) ∙ first.spells;
  first = λ k less bytes is. first.first k less bytes (ap (λ (contents : List (Option (List ℕ))). get_or contents k None) same ∙ is);
})
same_copies setup seed copies files others table same (inr none) =
    inr (λ copy below. ap (λ (contents : List (Option (List ℕ))). get_or contents copy None) (sym same) ∙ none.0 copy below, none.1)

-- what a run did that was asked for a fix and went to its end
fix_did : (before : Entry) (exit : Exit) → IsTrue before.opener.tells → (asks : AskForFix before.texts) → (did : Did) → (effect did).is_of before exit → (effect did).has_ended ≡ true → (fix : FixRun) × (did ≡ fixes false fix)
fix_did before exit tells asks reads_only is done = absurd (let clash : false ≡ true = done in cc)
fix_did before exit tells asks (syncs failed sync) is done =
    let clash : commands.Sync is.way ≡ commands.Fix asks.selection = command_asked before tells asks.asked asks.words (commands.Sync is.way) is.readers sync.setup is.configured ∙ asks.command_is in
    absurd cc
fix_did before exit tells asks (fixes true fix) is done = absurd (let clash : false ≡ true = done in cc)
fix_did before exit tells asks (fixes false fix) is done = (fix, refl)
fix_did before exit tells asks (scrubs failed scrub) is done =
    let clash : commands.Scrub scrub.way ≡ commands.Fix asks.selection = command_asked before tells asks.asked asks.words (commands.Scrub scrub.way) is.readers scrub.setup is.configured ∙ asks.command_is in
    absurd cc

-- two fixes by one configuration, over the same copies, begin with the same table
same_table : OneTable → (before before_then : Entry) (exit exit_then : Exit) (fix again : FixRun) → IsFixOf before exit fix → IsFixOf before_then exit_then again → TellsAll before → TellsAll before_then
    → (asked : Options) → asked_by before.texts ≡ Ok asked → asked_by before_then.texts ≡ Ok asked → before.opener.config ≡ before_then.opener.config → before.seed ≡ before_then.seed
    → copies_of before.opener.vault ≡ copies_of before_then.opener.vault → before_then.opener.vault.files.contents ≡ before.opener.vault.files.contents → NothingRose before exit → NothingRose before_then exit_then
    → again.loaded ≡ fix.loaded
same_table one_table before before_then exit exit_then fix again is is_then tells tells_then asked words words_then config seed copies contents well well_then =
    let files : Files = before.opener.vault.files in
    let files_then : Files = before_then.opener.vault.files in
    let setups : fix.setup ≡ again.setup = same_ok (read_setup (take 1048577 before.opener.config) asked.log) fix.setup again.setup (setup_read before tells.tells asked words _ is.readers fix.setup is.configured)
    (ap (λ (bytes : List ℕ). read_setup (take 1048577 bytes) asked.log) config ∙ setup_read before_then tells_then.tells asked words_then _ is_then.readers again.setup is_then.configured) in
    let begins : BeginsFrom fix.setup before.seed (copies_of before.opener.vault) files fix.loaded = is.loading.from (unfailed before exit is.loading well) in
    let begins_then : BeginsFrom fix.setup before.seed (copies_of before.opener.vault) files_then again.loaded =
    subst (λ (s : SetupValue). BeginsFrom s before.seed (copies_of before.opener.vault) files_then again.loaded) (sym setups)
    (subst (λ (it : List ℕ). BeginsFrom again.setup it (copies_of before.opener.vault) files_then again.loaded) (sym seed)
    (subst (λ (n : ℕ). BeginsFrom again.setup before_then.seed n files_then again.loaded) (sym copies) (is_then.loading.from (unfailed before_then exit_then is_then.loading well_then)))) in
    begins_same one_table fix.setup before.seed (copies_of before.opener.vault) files again.loaded fix.loaded
    (same_copies fix.setup before.seed (copies_of before.opener.vault) files files_then again.loaded contents begins_then) begins

-- so it is of two fixes, the second over what the first one left, or a stop at some moment of it
loaded_again : OneTable → (before before_then : Entry) (exit exit_then : Exit) (did did_then : Did) (fix again : FixRun) (standing next : Standing) (asked : Options)
    → (effect did).is_of before exit → did ≡ fixes false fix → (effect did_then).is_of before_then exit_then → did_then ≡ fixes false again
    → BeginsOver standing before → BeginsOver next before_then → next ≡ record standing { trees = next.trees; files = next.files; last = next.last } → (effect did).may_stand before.opener.vault.files next.files
    → asked_by before.texts ≡ Ok asked → asked_by before_then.texts ≡ Ok asked → before.seed ≡ before_then.seed → NothingRose before exit → NothingRose before_then exit_then → again.loaded ≡ fix.loaded
loaded_again one_table before before_then exit exit_then did did_then fix again standing next asked is did_is is_then then_is begins begins_then array stands words words_then seed well well_then =
    let moment : MayStandFixed fix before.opener.vault.files next.files = subst (λ (its : Did). (effect its).may_stand before.opener.vault.files next.files) did_is stands in
    same_table one_table before before_then exit exit_then fix again
    (subst (λ (did : Did). (effect did).is_of before exit) did_is is) (subst (λ (did : Did). (effect did).is_of before_then exit_then) then_is is_then) begins.tells begins_then.tells asked words words_then
    (begins.config ∙ sym (ap (λ (its : Standing). its.config) array) ∙ sym begins_then.config) seed
    (begins.copies ∙ sym (ap (λ (its : Standing). its.copies) array) ∙ sym begins_then.copies)
    (ap (λ (files : Files). files.contents) begins_then.files ∙ moment.contents) well well_then

-- what a check leaves that went to its end
as_checked : (before : Entry) (exit : Exit) (status : ℕ) (command : Command) (selection : Selection) → command ≡ commands.Check selection → EndsAsAsked command before exit status → EndsChecked before exit status
as_checked before exit status command selection same ends = subst (λ (its : Command). EndsAsAsked its before exit status) same ends

module _ {O F V W : Type 0} (opener_view : O → OpenerView) (folder_view : F → FolderView) (vault_view : V → VaultView) (sink_view : W → SinkView) where
  abbrev begun : RunOf O F V W → Entry
  begun run = before_of opener_view folder_view vault_view sink_view run

  abbrev ended : RunOf O F V W → Exit
  ended run = after_of opener_view folder_view vault_view sink_view run

  -- a run of which no call failed
  pub calm_at : (folders : List F) → are_calm folder_view folders ≡ true → (d : ℕ) → (folder_at (map folder_view folders) d).faults ≡ 0
  calm_at [] calm d = refl
  calm_at (folder ∷ folders) calm zero = (Decides-eqb (folder_view folder).faults 0).0 (both_are ((folder_view folder).faults == 0) (are_calm folder_view folders) calm).0
  calm_at (folder ∷ folders) calm (suc d) = calm_at folders (both_are ((folder_view folder).faults == 0) (are_calm folder_view folders) calm).1 d

  pub nothing_rose : (config : List ℕ) (texts : List (List ℕ)) (seed : List ℕ) (folders : List FolderView) (vault : VaultView) (status : ℕ) (left_folders : List F) (left : V)
      → (runs : RunsOver opener_view folder_view vault_view sink_view config texts seed folders vault status left_folders left)
      → (vault_view left).faults ≡ 0 → are_calm folder_view left_folders ≡ true → NothingRose (begun runs.run) (ended runs.run)
  nothing_rose config texts seed folders vault status left_folders left runs faults calm = record {
    folders = λ d below rose. not_risen _ _ (ap (λ (fs : List F). (folder_at (map folder_view fs) d).faults) runs.folders_are ∙ calm_at left_folders calm d) rose;
    vault = λ rose. not_risen (begun runs.run).opener.vault.faults (ended runs.run).after.vault.faults
        (none_rose opener_view folder_view vault_view sink_view config texts seed folders vault status left_folders left runs faults) rose;
  }

  -- ---- two checks

  -- what the law says of them
  abbrev pub FindsAlike : Type 0
  FindsAlike = (mode : Mode) (run again : RunOf O F V W) (one other : CheckRun) → HoldAlike (begun run) (begun again) → AskAlike mode mode (begun run) (begun again) → NothingRose (begun run) (ended run)
      → NothingRose (begun again) (ended again) → HasChecked mode (begun run) (ended run) run.status one → HasChecked mode (begun again) (ended again) again.status other → CheckAlike one other run.status again.status

  words_of : (config : List ℕ) (texts : List (List ℕ)) (seed : List ℕ) (folders : List FolderView) (vault : VaultView) (status : ℕ) (left_folders : List F) (left : V)
      → (runs : RunsOver opener_view folder_view vault_view sink_view config texts seed folders vault status left_folders left) → (asked : Options) → asked_by texts ≡ Ok asked → asked_by runs.run.texts ≡ Ok asked
  words_of config texts seed folders vault status left_folders left runs asked words = subst (λ (ts : List (List ℕ)). asked_by ts ≡ Ok asked) (sym runs.texts_are) words

  ends_checked : (config : List ℕ) (texts : List (List ℕ)) (seed : List ℕ) (folders : List FolderView) (vault : VaultView) (last : LastSynced) (status : ℕ) (left_folders : List F) (left : V)
      → (runs : RunsOver opener_view folder_view vault_view sink_view config texts seed folders vault status left_folders left) → AskForCheck texts → status ≤ 1 → EndsChecked (begun runs.run) (ended runs.run) runs.run.status
  ends_checked config texts seed folders vault last status left_folders left runs asks few =
      as_checked (begun runs.run) (ended runs.run) runs.run.status asks.asked.command asks.selection asks.command_is
      (runs.step.checked (record { tells = (runs.begins last).tells.tells; tells_vault = (runs.begins last).tells.tells_vault }) (ByStatus (few_is runs.run.status status 1 runs.status_is few)) asks.asked
      (words_of config texts seed folders vault status left_folders left runs asks.asked asks.words))

  -- both begin over the same
  pub hold_alike : (standing next : Standing) (one other : Entry) → BeginsOver standing one → BeginsOver next other → next ≡ standing → one.seed ≡ other.seed → HoldAlike one other
  hold_alike standing next one other begins begins_then same seed =
      let again : BeginsOver standing other = subst (λ (its : Standing). BeginsOver its other) same begins_then in
      record {
        tells = begins.tells;
        tells_then = again.tells;
        config = begins.config ∙ sym again.config;
        trees = begins.trees ∙ sym again.trees;
        copies = begins.copies ∙ sym again.copies;
        files = begins.files ∙ sym again.files;
        seed = λ none. seed;
      }

  -- both were asked for the same
  ask_alike : (texts : List (List ℕ)) (asks : AskForCheck texts) (one other : Entry) → asked_by one.texts ≡ Ok asks.asked → asked_by other.texts ≡ Ok asks.asked → AskAlike modes.Check modes.Check one other
  ask_alike texts asks one other words words_then = record {
    asked = asks.asked;
    asked_then = asks.asked;
    selection = asks.selection;
    words = words;
    words_then = words_then;
    command_is = asks.command_is;
    command_then = asks.command_is;
    log = refl;
  }

  checked_by : (run again : RunOf O F V W) (status : ℕ) → FindsAlike → HoldAlike (begun run) (begun again) → AskAlike modes.Check modes.Check (begun run) (begun again)
      → NothingRose (begun run) (ended run) → NothingRose (begun again) (ended again) → EndsChecked (begun run) (ended run) run.status → EndsChecked (begun again) (ended again) again.status
      → run.status ≤ 1 → again.status ≤ 1 → again.status ≡ status → IsCheckedTwice opener_view folder_view vault_view sink_view status
  checked_by run again status finds hold ask well well_then one other few few_then is =
      let alike = finds modes.Check run again one.run other.run hold ask well well_then one.has other.has in
      record {
        run = run;
        again = again;
        one = one.run;
        other = other.run;
        hold = hold;
        ask = ask;
        well = well;
        well_then = well_then;
        checked = one.has;
        checked_then = other.has;
        alike = alike;
        first_status = alike.statuses (λ three. absurd (omega (arith, three, few))) (λ three. absurd (omega (arith, three, few_then))) ∙ is;
        status_is = is;
      }

  pub checked_twice : (config : List ℕ) (texts : List (List ℕ)) (seed : List ℕ) (folders : List FolderView) (vault made : VaultView) (statuses : List ℕ) (status status_then : ℕ) (left_folders then_folders : List F) (left left_then : V)
      → HoldsAlways opener_view folder_view vault_view sink_view → FindsAlike → HasHistory opener_view folder_view vault_view sink_view config folders vault statuses → AskForCheck texts
      → RunsOver opener_view folder_view vault_view sink_view config texts seed folders vault status left_folders left → (vault_view left).faults ≡ 0 → are_calm folder_view left_folders ≡ true → status ≤ 1
      → IsLeftOf (vault_view left) made → copies_of made ≡ copies_of vault
      → RunsOver opener_view folder_view vault_view sink_view config texts seed (map folder_view left_folders) made status_then then_folders left_then → (vault_view left_then).faults ≡ 0
      → are_calm folder_view then_folders ≡ true → status_then ≤ 1 → IsCheckedTwice opener_view folder_view vault_view sink_view status_then
  checked_twice config texts seed folders vault made statuses status status_then left_folders then_folders left left_then holds finds has asks runs faults calm few left_of as_many again faults_then calm_then few_then =
      let standing : Standing = standing_of config folders vault has.last in
      let headline = holds has.first standing has.stages has.origin has.history in
      let no_fix : AskForNoFix texts = record { asked = asks.asked; words = asks.words; is_none = subst IsNoFix (sym asks.command_is) tt } in
      let words = words_of config texts seed folders vault status left_folders left runs asks.asked asks.words in
      let words_then = words_of config texts seed (map folder_view left_folders) made status_then then_folders left_then again asks.asked asks.words in
      let going = goes_with opener_view folder_view vault_view sink_view config texts seed folders vault made has.last status left_folders left headline runs no_fix left_of as_many in
      let next : Standing = standing_of config (map folder_view left_folders) made going.0 in
      checked_by runs.run again.run status_then finds
      (hold_alike standing next (begun runs.run) (begun again.run) (runs.begins has.last) (again.begins going.0)
      (headline.quiet runs.run next going.1 (inr (asks.asked, words, subst ChangesNothing (sym asks.command_is) tt))) (runs.seed_is ∙ sym again.seed_is))
      (ask_alike texts asks (begun runs.run) (begun again.run) words words_then)
      (nothing_rose config texts seed folders vault status left_folders left runs faults calm)
      (nothing_rose config texts seed (map folder_view left_folders) made status_then then_folders left_then again faults_then calm_then)
      (ends_checked config texts seed folders vault has.last status left_folders left runs asks few)
      (ends_checked config texts seed (map folder_view left_folders) made has.last status_then then_folders left_then again asks few_then)
      (few_is runs.run.status status 1 runs.status_is few) (few_is again.run.status status_then 1 again.status_is few_then) again.status_is

  -- ---- a fix, and another one

  -- by what both did
  fixed_by : (first standing next : Standing) (stages : List (Stage O F V W)) (run again : RunOf O F V W) (fix fix_again : FixRun) (asked : Options) (status : ℕ)
      → OneTable → Headline opener_view folder_view vault_view sink_view standing → IsOrigin first → IsHistory opener_view folder_view vault_view sink_view first stages standing
      → (goes : GoesOver opener_view folder_view vault_view sink_view run standing next) → BeginsOver next (begun again)
      → (step : RunStep (begun again) (ended again) again.status) → goes.step.always.did ≡ fixes false fix → step.always.did ≡ fixes false fix_again
      → asked_by run.texts ≡ Ok asked → asked_by again.texts ≡ Ok asked → run.seed ≡ again.seed → NothingRose (begun run) (ended run) → NothingRose (begun again) (ended again)
      → again.status ≡ status → IsFixedAgain opener_view folder_view vault_view sink_view status
  fixed_by first standing next stages run again fix fix_again asked status one_table headline is_first history goes begins step did_is did_then words words_then seed well well_then is =
      let loaded : fix_again.loaded ≡ fix.loaded = loaded_again one_table (begun run) (begun again) (ended run) (ended again) goes.step.always.did step.always.did fix fix_again standing next asked
      goes.step.always.is_did did_is step.always.is_did did_then goes.over begins goes.array (goes.step.always.moments next.files goes.files) words words_then seed well well_then in
      record {
        first = first;
        standing = standing;
        next = next;
        stages = stages;
        run = run;
        again = again;
        fix = fix;
        fix_again = fix_again;
        origin = is_first;
        history = history;
        goes = goes;
        begins = begins;
        step = step;
        did_is = did_is;
        did_then = did_then;
        loaded = loaded;
        well = well_then;
        resumed = headline.resumes run again next false fix fix_again goes begins step did_is did_then loaded well_then;
        status_is = is;
      }

  -- what a run did that was asked for a fix and went to its end
  pub fix_of : (run : RunOf O F V W) → IsTrue (begun run).opener.tells → (asks : AskForFix run.texts) → (step : RunStep (begun run) (ended run) run.status) → run.status ≤ 1
      → (fix : FixRun) × (step.always.did ≡ fixes false fix)
  fix_of run tells asks step few = fix_did (begun run) (ended run) tells asks step.always.did step.always.is_did (step.done asks.asked asks.words (subst ChangesFiles (sym asks.command_is) tt) (inl few))

  pub asks_of : (texts others : List (List ℕ)) → others ≡ texts → (asks : AskForFix texts) → asked_by others ≡ Ok asks.asked
  asks_of texts others same asks = subst (λ (ts : List (List ℕ)). asked_by ts ≡ Ok asks.asked) (sym same) asks.words

  fixed_over : (texts : List (List ℕ)) (first standing next : Standing) (stages : List (Stage O F V W)) (run again : RunOf O F V W) (status : ℕ)
      → OneTable → Headline opener_view folder_view vault_view sink_view standing → IsOrigin first → IsHistory opener_view folder_view vault_view sink_view first stages standing
      → (goes : GoesOver opener_view folder_view vault_view sink_view run standing next) → BeginsOver next (begun again) → RunStep (begun again) (ended again) again.status
      → AskForFix texts → run.texts ≡ texts → again.texts ≡ texts → run.seed ≡ again.seed → NothingRose (begun run) (ended run) → NothingRose (begun again) (ended again)
      → run.status ≤ 1 → again.status ≤ 1 → again.status ≡ status → IsFixedAgain opener_view folder_view vault_view sink_view status
  fixed_over texts first standing next stages run again status one_table headline is_first history goes begins step asks texts_are texts_then seed well well_then few few_then is =
      let fix = fix_of run goes.over.tells.tells (subst AskForFix (sym texts_are) asks) goes.step few in
      let fix_again = fix_of again begins.tells.tells (subst AskForFix (sym texts_then) asks) step few_then in
      fixed_by first standing next stages run again fix.0 fix_again.0 asks.asked status one_table headline is_first history goes begins step fix.1 fix_again.1
      (asks_of texts run.texts texts_are asks) (asks_of texts again.texts texts_then asks) seed well well_then is

  pub fixed_again : (config : List ℕ) (texts : List (List ℕ)) (seed : List ℕ) (folders : List FolderView) (vault made : VaultView) (before status status_then : ℕ) (left_folders then_folders : List F) (left left_then : V)
      → HoldsAlways opener_view folder_view vault_view sink_view → MeetsNone opener_view folder_view vault_view sink_view → OneTable → (once : LeftOfOne opener_view folder_view vault_view sink_view config folders vault before)
      → AskForFix texts → RunsOver opener_view folder_view vault_view sink_view config texts seed folders vault status left_folders left → (vault_view left).faults ≡ 0 → are_calm folder_view left_folders ≡ true → status ≤ 1
      → IsLeftOf (vault_view left) made → copies_of made ≡ copies_of vault
      → RunsOver opener_view folder_view vault_view sink_view config texts seed (map folder_view left_folders) made status_then then_folders left_then → (vault_view left_then).faults ≡ 0
      → are_calm folder_view then_folders ≡ true → status_then ≤ 1 → IsFixedAgain opener_view folder_view vault_view sink_view status_then
  fixed_again config texts seed folders vault made before status status_then left_folders then_folders left left_then holds meets one_table once asks runs faults calm few left_of as_many again faults_then calm_then few_then =
      let standing : Standing = standing_of config folders vault once.next.last in
      let is_history = history opener_view folder_view vault_view sink_view config texts seed folders vault made before status left_folders left holds meets once runs in
      let all : List (Stage O F V W) = stages opener_view folder_view vault_view sink_view config texts seed folders vault made before status left_folders left holds meets once runs in
      let going = goes_left opener_view folder_view vault_view sink_view config texts seed folders vault made before status left_folders left holds meets once runs left_of as_many in
      fixed_over texts once.first standing (standing_of config (map folder_view left_folders) made going.0) all runs.run again.run status_then one_table (holds once.first standing all once.origin is_history)
      once.origin is_history going.1 (again.begins going.0) again.step asks runs.texts_are again.texts_are (runs.seed_is ∙ sym again.seed_is)
      (nothing_rose config texts seed folders vault status left_folders left runs faults calm)
      (nothing_rose config texts seed (map folder_view left_folders) made status_then then_folders left_then again faults_then calm_then)
      (few_is runs.run.status status 1 runs.status_is few) (few_is again.run.status status_then 1 again.status_is few_then) again.status_is
