-- A sync of which the output failed went to its end, by the counts of faults and by its account.
use Rattle.std.proofs.Common.{◌≡◌, ◌≢◌, inl, inr, ⊎_elim, ℕ, zero, suc, ◌<◌, List, [], ◌∷◌, length, map, take, slice_index, is_some, not, ◌==◌, true, false, IsTrue, Option, None, Some, Ok, refl, sym, ap, ◌∙◌, subst, arith}
use Rattle.std.specs.Prelude.{filter}
use Rattle.std.proofs.lemmas.List.{length-map}
use Rattle.std.proofs.lemmas.List.Sums.{length-filter}
use Rattle.disk_model.specs.Bytes.{resized}
use Rattle.disk_model.specs.Files.{Files, parity_of}
use Rattle.disk_model.specs.Folder.{FolderView}
use Rattle.disk_model.specs.Opener.{OpenerView}
use Rattle.disk_model.specs.Sink.{SinkView}
use Rattle.disk_model.specs.Tree.{Tree}
use Rattle.disk_model.specs.Vault.{VaultView, copies_of}
use Rattle.disk_model.proofs.BytesLemmas.{length-resized}
use Rattle.disk_memory.specs.Vault.{VaultValue, fresh_vault, view_of}
use Rattle.file_table.specs.Table.{TableValue}
use Rattle.parity_writer.proofs.PaddedLemmas.{resized_byte}
use Rattle.snap_config.specs.Config.{read_setup}
use Rattle.array_setup.specs.Setup.{SetupValue}
use Rattle.snap_config.specs.declared.options.Command.TheVariants as commands
use Rattle.snap_report.specs.Answer.{status_of as answer_status}
use Rattle.snap_report.specs.declared.answer.Answer.{Answer}
use Rattle.snap_report.specs.declared.answer.Answer.TheVariants as answers
use Rattle.snap_sync.specs.Calls.{level_bytes}
use Rattle.snap_sync.specs.Closing.{rows_of, verified_in}
use Rattle.snap_sync.specs.Images.{HasParity}
use Rattle.snap_sync.specs.Part.{readings_by, run_trees, verified_stripes}
use Rattle.snap_top.specs.Unbroken.{NothingBroke}
use Rattle.snap_top.specs.Ended.{ByFaults, ByRun, HasEnded, has_failed_output}
use Rattle.snap_top.specs.Headline.{SyncsWell}
use Rattle.snap_top.specs.Levels.{said_by}
use Rattle.snap_top.specs.InPart.{EndsInPart}
use Rattle.snap_top.specs.Asked.{asked_by, WorksOnArray}
use Rattle.snap_top.specs.RunOf.{RunOf}
use Rattle.snap_top.specs.Run.{HasAccount}
use Rattle.snap_top.specs.Entry.{Entry, Exit}
use Rattle.snap_top.specs.Standing.{BeginsOver, IsOrigin, Standing, after_of, before_of, nothing_synced}
use Rattle.snap_top.specs.Step.{ChangesFiles}
use Rattle.snap_top.specs.Sync.{BeginsFrom}
use Rattle.snap_top.specs.Views.{folder_at}
use Rattle.snap_top.specs.declared.end.Ending.TheVariants.{Answered}
use Rattle.snap_top.proofs.AskedLemmas.{setup_read, well_in}
use Rattle.snap_top.proofs.EndedLemmas.{GoesToItsEnd, IsDoneAnswer, goes_to_its_end}
use Rattle.snap_top_histories.specs.Lived.{AskForNoFix, IsNoFix, standing_of}
use Rattle.snap_top_histories.specs.Repeated.{are_calm}
use Rattle.snap_top_histories.proofs.LivedLemmas.{no_chance, quiet_run}
use Rattle.snap_top_histories.proofs.RepeatedLemmas.{calm_at}
use Rattle.snap_top_histories.proofs.ResumedLemmas.{HoldsAlways, begins_nothing, none_failed, none_rose, not_risen}
use Rattle.snap_top_histories.proofs.SeenLemmas.{files_whole, splits}
use Rattle.stripe_findings.specs.Reading.{StripeReading, is_verified}
use Rattle.snap_top_instances.specs.Asked.{AsksFor, HasWholeLevels, plain_sync}
use Rattle.snap_top_instances.specs.Told.{RunsWhole}
use Rattle.snap_top_refusals.specs.Unheard.{HasLevels, HasParityByte, IsSyncedUnheard, RunsUnheard}
use Rattle.snap_top_instances.proofs.FullLemmas.{files_left}
use Rattle.snap_top_instances.proofs.SaidLemmas.{said_whole}

-- ---- a stripe was read

-- the first byte that was read is the file's
pub first_byte : (file out : List ℕ) (count : ℕ) → take count out ≡ take 1 file → 0 < count → slice_index out 0 ≢ 0 → (0 < length file) × (slice_index file 0 ≢ 0)
first_byte file [] count same some other = absurd (other refl)
first_byte file (byte ∷ out) zero same some other = absurd (omega (arith, some))
first_byte [] (byte ∷ out) (suc count) same some other = let clash : byte ∷ take count out ≡ [] = same in absurd cc
first_byte (first ∷ file) (byte ∷ out) (suc count) same some other =
    let both : byte ∷ take count out ≡ first ∷ [] = same in
    let is : byte ≡ first = cc in
    (omega arith, λ zero. other (is ∙ zero))

-- a byte that is set is not zero
pub not_zero : (n : ℕ) → IsTrue (not (n == 0)) → n ≢ 0
not_zero zero set is = let clash : false ≡ true = set in absurd cc
not_zero (suc n) set is = omega (arith, is)

-- where no stripe was verified, all of a level is zero that was empty before
none_closed : (start : TableValue) (old new : Files) (at : ℕ) → HasParity start.shape.levels start.shape.block_size (level_bytes start) (rows_of start []) old new
    → 0 < start.shape.levels → parity_of old 0 ≡ [] → at < length (parity_of new 0) → slice_index (parity_of new 0) at ≢ 0 → ⊥
none_closed start old new at has levels none within other =
    let bytes : ℕ = level_bytes start in
    let below : at < bytes = subst (λ (n : ℕ). at < n) (has.lengths 0 levels) within in
    let zeros : slice_index (resized (parity_of old 0) bytes) at ≡ 0 = ap (λ (file : List ℕ). slice_index (resized file bytes) at) none ∙ resized_byte [] bytes at below in
    let long : at < length (resized (parity_of old 0) bytes) = subst (λ (n : ℕ). at < n) (sym (length-resized (parity_of old 0) bytes)) below in
    other (has.others 0 at 0 levels (λ stripe row is. let clash : None ≡ Some row = is in absurd cc) (record { within = long; is = zeros })).is

some_closed : (start : TableValue) (trees : List Tree) (readings : List StripeReading) (old new : Files) (at : ℕ)
    → HasParity start.shape.levels start.shape.block_size (level_bytes start) (rows_of start (readings_by start trees (verified_stripes start readings))) old new
    → 0 < start.shape.levels → parity_of old 0 ≡ [] → at < length (parity_of new 0) → slice_index (parity_of new 0) at ≢ 0 → 0 < verified_in start readings
some_closed start trees readings old new at has levels none within other = by (verified_stripes start readings) refl
  where
    by : (verified : List ℕ) → verified_stripes start readings ≡ verified → 0 < verified_in start readings
    by [] is =
        absurd (none_closed start old new at
        (subst (λ (ns : List ℕ). HasParity start.shape.levels start.shape.block_size (level_bytes start) (rows_of start (readings_by start trees ns)) old new) is has) levels none within other)
    by (n ∷ ns) is =
        let counted : length (verified_stripes start readings) ≡ verified_in start readings
        = length-map (filter (is_verified start) readings) (λ (reading : StripeReading). reading.stripe) ∙ length-filter (is_verified start) readings in
        let long : 0 < length (verified_stripes start readings) = subst (λ (l : List ℕ). 0 < length l) (sym is) (omega arith) in
        omega (arith, counted, long)

-- a stripe that was verified was read
some_read : (start : TableValue) (readings : List StripeReading) → 0 < verified_in start readings → 0 < length readings
some_read start [] some = absurd (let none : verified_in start [] ≡ 0 = refl in omega (arith, none, some))
some_read start (reading ∷ readings) some = omega arith

-- ---- the table that it begins with is of the configuration's levels

levels_begun : (setup : SetupValue) (seed : List ℕ) (standing : Standing) (table : TableValue) → IsOrigin standing → BeginsFrom setup seed standing.copies standing.files table → table.shape.levels ≡ length setup.parts
levels_begun setup seed standing table origin (inl first) =
    absurd (origin.none first.copy first.within _ first.spells (record { table = table; valid = first.valid; spelled = refl }))
levels_begun setup seed standing table origin (inr none) = ap (λ (t : TableValue). t.shape.levels) none.1

same_ok_setup : (setup other : SetupValue) (said : Option SetupValue) → said ≡ Some setup → said ≡ Some other → setup ≡ other
same_ok_setup setup other said one then = let both : Some setup ≡ Some other = sym one ∙ then in cc

-- no level of a new vault has a byte
none_written : (levels copies : ℕ) → parity_of (view_of (fresh_vault levels copies)).files 0 ≡ []
none_written zero copies = refl
none_written (suc levels) copies = refl

-- ---- the account of a sync with status 3 that went to its end

output_failed : (answer : Answer) (named : Option TableValue) → IsDoneAnswer answer → answer_status answer ≡ 3 → has_failed_output (Answered answer named) ≡ true
output_failed answers.Clean named done three = absurd (omega (arith, three))
output_failed answers.Found named done three = absurd (omega (arith, three))
output_failed answers.OutputFailed named done three = refl
output_failed (answers.Zeroed disk rec) named done three = absurd done
output_failed (answers.Emptied disk) named done three = absurd done
output_failed (answers.Full blocks files) named done three = absurd done
output_failed (answers.Broken _) named done three = absurd done

ended_by_output : (before : Entry) (exit : Exit) (status : ℕ) → GoesToItsEnd before exit status → status ≡ 3 → HasEnded before exit status
ended_by_output before exit status goes three = record {
  setup = goes.setup;
  ending = Answered goes.answer goes.named;
  told = goes.told;
  ran = goes.ran;
  status_is = goes.status_is;
  ended = ⊎_elim (λ done. inr (output_failed goes.answer goes.named done (sym goes.status_is ∙ three))) (λ did. inl did) goes.how;
}

module _ {O F V W : Type 0} (opener_view : O → OpenerView) (folder_view : F → FolderView) (vault_view : V → VaultView) (sink_view : W → SinkView) where
  abbrev begun : RunOf O F V W → Entry
  begun run = before_of opener_view folder_view vault_view sink_view run

  abbrev ended : RunOf O F V W → Exit
  ended run = after_of opener_view folder_view vault_view sink_view run

  pub whole_unheard : (config : List ℕ) (texts : List (List ℕ)) (seed : List ℕ) (folders : List FolderView) (vault : VaultView) (status : ℕ) (left_folders : List F) (left : V) (opener : O) (out : W)
      → RunsWhole opener_view folder_view vault_view sink_view config texts seed folders vault status left_folders left opener out
      → (opener_view opener).faults ≡ 0 → RunsUnheard opener_view folder_view vault_view sink_view config texts seed folders vault status left_folders left
  whole_unheard config texts seed folders vault status left_folders left opener out whole opener_well = record {
    over = whole.over;
    account = whole.account;
    synced = whole.clauses.synced;
    opener_faults = ap (λ (o : O). (opener_view o).faults) whole.opener_is ∙ opener_well;
  }

  module _ (config : List ℕ) (texts : List (List ℕ)) (seed : List ℕ) (folders : List FolderView) (levels copies : ℕ) (value : VaultValue) (status : ℕ) (left_folders : List F) (left : V)
      (holds : HoldsAlways opener_view folder_view vault_view sink_view) (fresh : value ≡ fresh_vault levels copies) (has : HasLevels config) (asks : AsksFor (commands.Sync plain_sync) texts)
      (runs : RunsUnheard opener_view folder_view vault_view sink_view config texts seed folders (view_of value) status left_folders left)
      (faults : (vault_view left).faults ≡ 0) (calm : are_calm folder_view left_folders ≡ true) (three : status ≡ 3) (byte : HasParityByte (vault_view left)) where
    abbrev run : RunOf O F V W
    run = runs.over.run

    abbrev first : Standing
    first = standing_of config folders (view_of value) nothing_synced

    begins : BeginsOver first (begun run)
    begins = runs.over.begins nothing_synced

    words : asked_by run.texts ≡ Ok asks.asked
    words = subst (λ (ts : List (List ℕ)). asked_by ts ≡ Ok asks.asked) (sym runs.over.texts_are) asks.words

    is_first : IsOrigin first
    is_first = begins_nothing opener_view folder_view vault_view sink_view config folders levels copies value fresh

    is_three : run.status ≡ 3
    is_three = runs.over.status_is ∙ three

    unbroken : NothingBroke (begun run) (ended run)
    unbroken = record {
      opener = λ rose. not_risen (begun run).opener.faults (ended run).opener.faults runs.opener_faults rose;
      folders = λ d broke. not_risen _ _
          (ap (λ (fs : List F). (folder_at (map folder_view fs) d).faults) runs.over.folders_are ∙ calm_at opener_view folder_view vault_view sink_view left_folders calm d) broke.rose;
      vault = λ broke. not_risen (begun run).opener.vault.faults (ended run).after.vault.faults
          (none_rose opener_view folder_view vault_view sink_view config texts seed folders (view_of value) status left_folders left runs.over faults) broke.rose;
    }

    by_run : HasEnded (begun run) (ended run) run.status
    by_run =
        let account : HasAccount (begun run) (ended run) run.status = runs.account begins.tells.tells in
        ended_by_output (begun run) (ended run) run.status
        (goes_to_its_end (begun run) (ended run) account.end account.told run.status begins.tells.tells account.status_is account.ran asks.asked words (subst WorksOnArray (sym asks.command_is) tt)
        (ByFaults is_three unbroken)) is_three

    none_before : parity_of (begun run).opener.vault.files 0 ≡ []
    none_before =
        ap (λ (files : Files). parity_of files 0) (begins.files ∙ files_whole (said_by config) (view_of value) (ap splits has.says ∙ has.whole))
        ∙ ap (λ (v : VaultValue). parity_of (view_of v).files 0) fresh ∙ none_written levels copies

    left_files : (ended run).after.vault.files ≡ (vault_view left).files
    left_files = files_left opener_view folder_view vault_view sink_view config texts seed folders (view_of value) status left_folders left runs.over
        (record { setup = has.setup; says = has.says; whole = has.whole })

    -- the configuration of its sync says its levels
    setup_is : (ends : EndsInPart (begun run) (ended run) run.status) → ends.run.setup ≡ has.setup
    setup_is ends =
        let is = ends.is_sync in
        let says : said_by config ≡ Some ends.run.setup = said_whole config ends.run.setup
        (ap (λ (bytes : List ℕ). read_setup (take 1048577 bytes) None) (sym begins.config)
        ∙ ap (λ (log : Option (List ℕ)). read_setup (take 1048577 (begun run).opener.config) log) (sym asks.no_log)
        ∙ setup_read (begun run) begins.tells.tells asks.asked words _ is.readers ends.run.setup is.configured) in
        same_ok_setup ends.run.setup has.setup (said_by config) says has.says

    levels_are : (ends : EndsInPart (begun run) (ended run) run.status) → ends.run.plan.start.shape.levels ≡ length has.setup.parts
    levels_are ends =
        let is = ends.is_sync in
        let none = none_failed opener_view folder_view vault_view sink_view config texts seed folders (view_of value) status left_folders left runs.over faults in
        let from : BeginsFrom ends.run.setup (begun run).seed first.copies first.files ends.run.loaded
        = subst (λ (n : ℕ). BeginsFrom ends.run.setup (begun run).seed n first.files ends.run.loaded) begins.copies
        (subst (λ (files : Files). BeginsFrom ends.run.setup (begun run).seed (copies_of (begun run).opener.vault) files ends.run.loaded) begins.files
        (is.loading.from (well_in (begun run) (ended run) is.loading none))) in
        ap (λ (t : TableValue). t.shape.levels) ends.laid ∙ levels_begun ends.run.setup (begun run).seed first ends.run.loaded is_first from
        ∙ ap (λ (s : SetupValue). length s.parts) (setup_is ends)

    closed_in : (ends : EndsInPart (begun run) (ended run) run.status) → 0 < verified_in ends.run.plan.start ends.run.readings
    closed_in ends =
        some_closed ends.run.plan.start (run_trees ends.run) ends.run.readings (begun run).opener.vault.files (ended run).after.vault.files byte.at (ends.part.reads ends.tells).parity
        (subst (λ (n : ℕ). 0 < n) (sym (levels_are ends)) has.some) none_before
        (subst (λ (files : Files). byte.at < length (parity_of files 0)) (sym left_files) byte.within)
        (subst (λ (files : Files). slice_index (parity_of files 0) byte.at ≢ 0) (sym left_files) byte.other)

    some_in : (ends : EndsInPart (begun run) (ended run) run.status) → 0 < length ends.run.readings
    some_in ends = some_read ends.run.plan.start ends.run.readings (closed_in ends)

    pub synced_unheard : IsSyncedUnheard opener_view folder_view vault_view sink_view status
    synced_unheard =
        let headline = holds first first [] is_first refl in
        let step = runs.over.step in
        let given : (ended run).has_vault ≡ true = ap (λ (v : Option V). is_some v) runs.over.vault_is in
        let no_fix : AskForNoFix texts = record { asked = asks.asked; words = asks.words; is_none = subst IsNoFix (sym asks.command_is) tt } in
        let quiet = quiet_run opener_view folder_view vault_view sink_view config texts seed folders (view_of value) status left_folders left runs.over no_fix step.always.did step.always.is_did in
        let at_end = headline.arrives run begins step given (no_chance step.always.did quiet nothing_synced.snapshot) in
        let syncs : SyncsWell opener_view folder_view vault_view sink_view run
        = record { asked = asks.asked; way = plain_sync; words = words; command_is = asks.command_is; well = inr (is_three, unbroken) } in
        let ends : EndsInPart (begun run) (ended run) run.status = runs.synced begins.tells (ByFaults is_three unbroken) asks.asked plain_sync words asks.command_is in
        let last = headline.synced run at_end.0 at_end.3 syncs (inl at_end.1) in
        let ends_by_run : EndsInPart (begun run) (ended run) run.status = runs.synced begins.tells (ByRun by_run) asks.asked plain_sync words asks.command_is in
        record {
          first = first;
          next = at_end.0;
          run = run;
          origin = is_first;
          goes = at_end.3;
          tells = begins.tells;
          three = is_three;
          unbroken = unbroken;
          ended = by_run;
          syncs = syncs;
          ends = ends;
          ends_by_run = ends_by_run;
          some = some_in ends;
          some_by_run = some_in ends_by_run;
          unheard = ends.status_is.failed.0 is_three;
          done = at_end.3.step.done asks.asked words (subst ChangesFiles (sym asks.command_is) tt) (inr (is_three, unbroken));
          stands = inl at_end.1;
          synced = last;
          closed = closed_in last.ends;
          status_is = runs.over.status_is;
        }
