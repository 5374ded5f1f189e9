-- When a sync, a check or a fix went to its end: its answer is that of an engine that is done.
use Rattle.std.proofs.Common.{◌≡◌, ◌↔◌, ◌⊎◌, inl, inr, ⊎_elim, ℕ, ◌≤◌, ◌==◌, if◌then◌else◌, List, Bool, true, false, IsTrue, Ok, Option, refl, sym, ap, ◌∙◌, subst, arith}
use Rattle.std.proofs.lemmas.Bool.Decides.{Decides-eqb}
use Rattle.content_file.specs.Load.{LoadFails}
use Rattle.content_file.specs.declared.loading.LoadFault.TheVariants as loads
use Rattle.disk_model.specs.Cause.{Rose}
use Rattle.disk_model.specs.Sink.{SinkView}
use Rattle.disk_model.specs.Vault.{VaultState, state_of}
use Rattle.disk_model.specs.declared.fault.OpenFault.TheVariants as opens
use Rattle.file_table.specs.Table.{TableValue}
use Rattle.array_setup.specs.Setup.{SetupValue, setup_value}
use Rattle.snap_config.specs.declared.options.Options.{Options}
use Rattle.snap_config.specs.declared.options.WordsFault.{WordsFault}
use Rattle.snap_config.specs.declared.options.WordsFault.TheVariants as words
use Rattle.snap_config.specs.declared.why.ConfigFault.{ConfigFault}
use Rattle.snap_config.specs.declared.why.ConfigFault.TheVariants as config
use Rattle.snap_report.specs.Answer.{IsCaused, done_answer, status_of as answer_status}
use Rattle.snap_report.specs.declared.answer.Answer.{Answer}
use Rattle.snap_report.specs.declared.answer.Answer.TheVariants as answers
use Rattle.snap_report.specs.declared.answer.RunFault.TheVariants as runs
use Rattle.snap_report.specs.declared.events.Event.{Event}
use Rattle.snap_top.specs.Unbroken.{BreaksFolder, BreaksVault, held_vault, left_vault, NothingBroke}
use Rattle.snap_top.specs.End.{config_status, ending_status, refusal_status, status_of, words_status}
use Rattle.snap_top.specs.Ended.{ByFaults, ByRun, ByStatus, WentToItsEnd, has_failed_output}
use Rattle.snap_top.specs.Effect.{effect}
use Rattle.snap_top.specs.Output.{IsEndStatus}
use Rattle.snap_top.specs.Run.{IsAnswered, IsRefused, IsRun, Ran}
use Rattle.snap_top.specs.Entry.{Entry, Exit}
use Rattle.snap_top.specs.Asked.{asked_by, WorksOnArray}
use Rattle.snap_top.specs.Task.{Left, outside_of}
use Rattle.snap_top.specs.Did.{Did, reads_only}
use Rattle.snap_top.specs.Views.{folder_at, view_of, world_of}
use Rattle.snap_top.specs.declared.end.End.{End}
use Rattle.snap_top.specs.declared.end.End.TheVariants.{Exercised, Refused, Worked}
use Rattle.snap_top.specs.declared.end.Ending.{Ending}
use Rattle.snap_top.specs.declared.end.Ending.TheVariants.{NotLoaded, NoTable, OtherArray, Answered}
use Rattle.snap_top.specs.declared.end.Refusal.{Refusal}
use Rattle.snap_top.specs.declared.end.Refusal.TheVariants as refusals
use Rattle.snap_top.proofs.CompleteLemmas.{are_held, breaks_since, failed_load_breaks, folder_breaks, given_held, vault_broke}
use Rattle.snap_top.proofs.ExercisingLemmas.{not_exercised}
use Rattle.snap_top.proofs.SilentLemmas.{load_high, refusal_high}

-- the answers of an engine that is done
abbrev pub IsDoneAnswer : Answer → Type 0
IsDoneAnswer answers.Clean = Unit {0}
IsDoneAnswer answers.Found = Unit {0}
IsDoneAnswer answers.OutputFailed = Unit {0}
IsDoneAnswer _ = ⊥

-- A run that went to its end: its answer is such a one, or what it did says so.
pub record GoesToItsEnd (before : Entry) (exit : Exit) (status : ℕ) : Type 0 where
  pub setup : SetupValue
  pub answer : Answer
  pub named : Option TableValue
  pub told : List Event
  pub ran : IsRun before exit setup (Answered answer named) told
  pub status_is : status ≡ answer_status answer
  pub how : IsDoneAnswer answer ⊎ ((effect ran.did).has_ended ≡ true)

-- ---- by the status alone

too_high : (n status : ℕ) → 2 ≤ n → status ≡ n → status ≤ 1 → ⊥
too_high n status high is low = omega (arith, high, is, low)

done_by_status : (answer : Answer) → answer_status answer ≤ 1 → IsDoneAnswer answer
done_by_status answers.Clean low = tt
done_by_status answers.Found low = tt
done_by_status answers.OutputFailed low = tt
done_by_status (answers.Zeroed disk rec) low = absurd (omega (arith, low))
done_by_status (answers.Emptied disk) low = absurd (omega (arith, low))
done_by_status (answers.Full blocks files) low = absurd (omega (arith, low))
done_by_status (answers.Broken (runs.Folder disk)) low = absurd (omega (arith, low))
done_by_status (answers.Broken runs.Vault) low = absurd (omega (arith, low))
done_by_status (answers.Broken runs.Memory) low = absurd (omega (arith, low))

-- the words ask for a command that works on an array
abbrev AsksForArray : Entry → Type 0
AsksForArray before = (asked : Options) × (asked_by before.texts ≡ Ok asked) × WorksOnArray asked.command

by_status : (before : Entry) (exit : Exit) (end : End) (told : List Event) (status : ℕ) → status ≡ status_of end → Ran before exit end told → AsksForArray before → status ≤ 1 → GoesToItsEnd before exit status
by_status before exit (Refused why) told status is ran array low = absurd (too_high _ status (refusal_high why) is low)
by_status before exit (Exercised answer) told status is ran array low = absurd (not_exercised before.texts array.0 ran.number array.1 array.2 ran.asks)
by_status before exit (Worked setup (NotLoaded fault)) told status is ran array low = absurd (too_high _ status (load_high fault) is low)
by_status before exit (Worked setup NoTable) told status is ran array low = absurd (omega (arith, is, low))
by_status before exit (Worked setup (OtherArray difference content)) told status is ran array low = absurd (omega (arith, is, low))
by_status before exit (Worked setup (Answered answer named)) told status is ran array low = record {
  setup = setup_value setup;
  answer = answer;
  named = named;
  told = told;
  ran = ran;
  status_is = is;
  how = inl (done_by_status answer (subst (λ (n : ℕ). n ≤ 1) is low));
}

-- ---- by the faults: with status 3 something failed so that the run ends, and it was not the opener, a folder or the vault

words_not_three : (fault : WordsFault) → words_status fault ≡ 3 → ⊥
words_not_three words.Usage is = omega (arith, is)
words_not_three (words.Command word) is = omega (arith, is)
words_not_three (words.Unfit option command) is = omega (arith, is)
words_not_three (words.Value option) is = omega (arith, is)
words_not_three words.Memory is = omega (arith, is)

config_not_three : (fault : ConfigFault) → config_status fault ≡ 3 → ⊥
config_not_three (config.BadLine line why) is = omega (arith, is)
config_not_three config.Memory is = omega (arith, is)

module _ (before : Entry) (exit : Exit) (unbroken : NothingBroke before exit) (tells : IsTrue before.opener.tells) where
  no_refusal : (why : Refusal) (told : List Event) → IsRefused before exit why told → refusal_status why ≡ 3 → ⊥
  no_refusal (refusals.Words fault) told ran is = words_not_three fault is
  no_refusal (refusals.Unread opens.Failed) told ran is = unbroken.opener (ran.refuses.why_not.0 refl)
  no_refusal (refusals.Unread opens.Memory) told ran is = omega (arith, is)
  no_refusal (refusals.Config file fault) told ran is = config_not_three fault is
  no_refusal (refusals.NoDisk name) told ran is = omega (arith, is)
  no_refusal (refusals.Unopened opens.Failed) told ran is = unbroken.opener (ran.refuses.rose refl)
  no_refusal (refusals.Unopened opens.Memory) told ran is = omega (arith, is)

  loaded_well : (setup : SetupValue) (told : List Event) → IsRun before exit setup (NotLoaded loads.Failed) told → ⊥
  loaded_well setup told ran =
      let same = given_held before exit setup (NotLoaded loads.Failed) told ran tells in
      unbroken.vault (failed_load_breaks (held_vault before) (left_vault exit) (subst (λ (s : VaultState). LoadFails (view_of s) (left_vault exit)) same ran.goes.2))

  module _ (setup : SetupValue) (ending : Ending) (told : List Event) (ran : IsRun before exit setup ending told) (left : Left) (one : IsAnswered ran.task ran.given (world_of exit.after) left ran.did) where
    no_folder : (disk : ℕ) → left.answer ≡ answers.Broken (runs.Folder disk) → ⊥
    no_folder disk is =
        let caused = subst (λ (a : Answer). IsCaused a left.counted left.told (outside_of ran.given) (outside_of (world_of exit.after))) is one.caused in
        let held = (are_held before exit setup ending told ran tells).1 in
        unbroken.folders disk (subst (λ v. BreaksFolder v (folder_at exit.after.folders disk)) (held disk caused.0) (folder_breaks disk left.told _ _ caused.1))

    no_vault : left.answer ≡ answers.Broken runs.Vault → ⊥
    no_vault is =
        let broke = vault_broke ran.task.command ran.task one.table one.start (world_of exit.after) left ran.did one.does is in
        let same = given_held before exit setup ending told ran tells in
        unbroken.vault (subst (λ (s : VaultState). BreaksVault (view_of s) (left_vault exit)) same (breaks_since ran.given.vault one.start.vault (state_of exit.after.vault) one.reads.vault broke.0 broke.1))

done_by_faults : (answer : Answer) → answer_status answer ≡ 3 → ((disk : ℕ) → answer ≡ answers.Broken (runs.Folder disk) → ⊥) → (answer ≡ answers.Broken runs.Vault → ⊥) → IsDoneAnswer answer
done_by_faults answers.Clean three folder vault = tt
done_by_faults answers.Found three folder vault = tt
done_by_faults answers.OutputFailed three folder vault = tt
done_by_faults (answers.Zeroed disk rec) three folder vault = absurd (omega (arith, three))
done_by_faults (answers.Emptied disk) three folder vault = absurd (omega (arith, three))
done_by_faults (answers.Full blocks files) three folder vault = absurd (omega (arith, three))
done_by_faults (answers.Broken (runs.Folder disk)) three folder vault = absurd (folder disk refl)
done_by_faults (answers.Broken runs.Vault) three folder vault = absurd (vault refl)
done_by_faults (answers.Broken runs.Memory) three folder vault = absurd (omega (arith, three))

by_faults : (before : Entry) (exit : Exit) (end : End) (told : List Event) (status : ℕ) → IsTrue before.opener.tells → status ≡ status_of end → Ran before exit end told → AsksForArray before → status ≡ 3 → NothingBroke before exit → GoesToItsEnd before exit status
by_faults before exit (Refused why) told status tells is ran array three unbroken = absurd (no_refusal before exit unbroken tells why told ran (sym is ∙ three))
by_faults before exit (Exercised answer) told status tells is ran array three unbroken = absurd (not_exercised before.texts array.0 ran.number array.1 array.2 ran.asks)
by_faults before exit (Worked setup (NotLoaded loads.Failed)) told status tells is ran array three unbroken = absurd (loaded_well before exit unbroken tells (setup_value setup) told ran)
by_faults before exit (Worked setup (NotLoaded (loads.Damaged damages))) told status tells is ran array three unbroken = absurd (omega (arith, is, three))
by_faults before exit (Worked setup (NotLoaded loads.Memory)) told status tells is ran array three unbroken = absurd (omega (arith, is, three))
by_faults before exit (Worked setup NoTable) told status tells is ran array three unbroken = absurd (omega (arith, is, three))
by_faults before exit (Worked setup (OtherArray difference content)) told status tells is ran array three unbroken = absurd (omega (arith, is, three))
by_faults before exit (Worked setup (Answered answer named)) told status tells is ran array three unbroken =
    let left : Left = record { answer = answer; named = named; counted = ran.goes.0; told = told } in
    let one : IsAnswered ran.task ran.given (world_of exit.after) left ran.did = ran.goes.1 in
    record {
      setup = setup_value setup;
      answer = answer;
      named = named;
      told = told;
      ran = ran;
      status_is = is;
      how = inl (done_by_faults answer (sym is ∙ three) (no_folder before exit unbroken tells (setup_value setup) (Answered answer named) told ran left one)
          (no_vault before exit unbroken tells (setup_value setup) (Answered answer named) told ran left one));
    }

-- ---- so the end is that of an engine that is done, or of an exercise

abbrev pub IsDoneEnd : End → Type 0
IsDoneEnd (Worked setup (Answered answer named)) = IsDoneAnswer answer
IsDoneEnd (Exercised answer) = Unit {0}
IsDoneEnd _ = ⊥

done_low : (before : Entry) (exit : Exit) (end : End) (told : List Event) (status : ℕ) → status ≡ status_of end → Ran before exit end told → status ≤ 1 → IsDoneEnd end
done_low before exit (Refused why) told status is ran low = absurd (too_high _ status (refusal_high why) is low)
done_low before exit (Exercised answer) told status is ran low = tt
done_low before exit (Worked setup (NotLoaded fault)) told status is ran low = absurd (too_high _ status (load_high fault) is low)
done_low before exit (Worked setup NoTable) told status is ran low = absurd (omega (arith, is, low))
done_low before exit (Worked setup (OtherArray difference content)) told status is ran low = absurd (omega (arith, is, low))
done_low before exit (Worked setup (Answered answer named)) told status is ran low = done_by_status answer (subst (λ (n : ℕ). n ≤ 1) is low)

done_well : (before : Entry) (exit : Exit) (end : End) (told : List Event) (status : ℕ) → IsTrue before.opener.tells → status ≡ status_of end → Ran before exit end told → status ≡ 3 → NothingBroke before exit → IsDoneEnd end
done_well before exit (Refused why) told status tells is ran three unbroken = absurd (no_refusal before exit unbroken tells why told ran (sym is ∙ three))
done_well before exit (Exercised answer) told status tells is ran three unbroken = tt
done_well before exit (Worked setup (NotLoaded loads.Failed)) told status tells is ran three unbroken = absurd (loaded_well before exit unbroken tells (setup_value setup) told ran)
done_well before exit (Worked setup (NotLoaded (loads.Damaged damages))) told status tells is ran three unbroken = absurd (omega (arith, is, three))
done_well before exit (Worked setup (NotLoaded loads.Memory)) told status tells is ran three unbroken = absurd (omega (arith, is, three))
done_well before exit (Worked setup NoTable) told status tells is ran three unbroken = absurd (omega (arith, is, three))
done_well before exit (Worked setup (OtherArray difference content)) told status tells is ran three unbroken = absurd (omega (arith, is, three))
done_well before exit (Worked setup (Answered answer named)) told status tells is ran three unbroken =
    let left : Left = record { answer = answer; named = named; counted = ran.goes.0; told = told } in
    let one : IsAnswered ran.task ran.given (world_of exit.after) left ran.did = ran.goes.1 in
    done_by_faults answer (sym is ∙ three) (no_folder before exit unbroken tells (setup_value setup) (Answered answer named) told ran left one)
    (no_vault before exit unbroken tells (setup_value setup) (Answered answer named) told ran left one)

pub done_end : (before : Entry) (exit : Exit) (end : End) (told : List Event) (status : ℕ) → IsTrue before.opener.tells → status ≡ status_of end → Ran before exit end told
    → (status ≤ 1) ⊎ ((status ≡ 3) × NothingBroke before exit) → IsDoneEnd end
done_end before exit end told status tells is ran (inl low) = done_low before exit end told status is ran low
done_end before exit end told status tells is ran (inr well) = done_well before exit end told status tells is ran well.0 well.1

-- ---- by what it did, or by its answer

pub only_read : (did : Did) → did ≡ reads_only → (effect did).has_ended ≡ true → ⊥
only_read did is ended = let clash : false ≡ true = ap (λ (did : Did). (effect did).has_ended) (sym is) ∙ ended in cc

-- what did not go on to a command shows no end
shows_no_end : (did : Did) → did ≡ reads_only → ((effect did).has_ended ≡ true) ⊎ (false ≡ true) → ⊥
shows_no_end did is (inl ended) = only_read did is ended
shows_no_end did is (inr failed) = let clash : false ≡ true = failed in cc

-- an answer that the output failed is one of an engine that is done
done_by_output : (answer : Answer) (named : Option TableValue) → has_failed_output (Answered answer named) ≡ true
    → IsDoneAnswer answer
done_by_output answers.Clean named failed = tt
done_by_output answers.Found named failed = tt
done_by_output answers.OutputFailed named failed = tt
done_by_output (answers.Zeroed disk rec) named failed = absurd (let clash : false ≡ true = failed in cc)
done_by_output (answers.Emptied disk) named failed = absurd (let clash : false ≡ true = failed in cc)
done_by_output (answers.Full blocks files) named failed = absurd (let clash : false ≡ true = failed in cc)
done_by_output (answers.Broken _) named failed = absurd (let clash : false ≡ true = failed in cc)

by_run : (before : Entry) (exit : Exit) (status : ℕ) (setup : SetupValue) (ending : Ending) (told : List Event)
    (ran : IsRun before exit setup ending told) → status ≡ ending_status ending
    → ((effect ran.did).has_ended ≡ true) ⊎ (has_failed_output ending ≡ true) → GoesToItsEnd before exit status
by_run before exit status setup (NotLoaded fault) told ran is ended = absurd (shows_no_end ran.did ran.goes.0.1 ended)
by_run before exit status setup NoTable told ran is ended = absurd (shows_no_end ran.did ran.goes.0.1 ended)
by_run before exit status setup (OtherArray difference content) told ran is ended =
    absurd (shows_no_end ran.did ran.goes.0.1 ended)
by_run before exit status setup (Answered answer named) told ran is ended = record {
  setup = setup;
  answer = answer;
  named = named;
  told = told;
  ran = ran;
  status_is = is;
  how = ⊎_elim (λ did. inr did) (λ failed. inl (done_by_output answer named failed)) ended;
}

-- of each run that was asked for a command over an array
pub goes_to_its_end : (before : Entry) (exit : Exit) (end : End) (told : List Event) (status : ℕ) → IsTrue before.opener.tells → status ≡ status_of end → Ran before exit end told
    → (asked : Options) → asked_by before.texts ≡ Ok asked → WorksOnArray asked.command → WentToItsEnd before exit status → GoesToItsEnd before exit status
goes_to_its_end before exit end told status tells is ran asked read array (ByStatus low) = by_status before exit end told status is ran (asked, read, array) low
goes_to_its_end before exit end told status tells is ran asked read array (ByFaults three unbroken) = by_faults before exit end told status tells is ran (asked, read, array) three unbroken
goes_to_its_end before exit end told status tells is ran asked read array (ByRun run) =
    by_run before exit status run.setup run.ending run.told run.ran run.status_is run.ended

-- ---- its status, and what must have happened

pub done_status : (counted status : ℕ) (failed : Bool) → status ≡ answer_status (done_answer counted failed) → IsEndStatus status failed (counted ≡ 0)
done_status counted status true is = record {
  failed = (λ three. refl, λ failed. is);
  clean = (λ zero. absurd (omega (arith, is, zero)), λ both. absurd (let clash : true ≡ false = both.0 in cc));
  only = inr is;
}
done_status counted status false is = by (counted == 0) refl is
  where
    by : (none : Bool) → (counted == 0) ≡ none → status ≡ answer_status (if none then answers.Clean else answers.Found) → IsEndStatus status false (counted ≡ 0)
    by true at is' = record {
      failed = (λ three. absurd (omega (arith, is', three)), λ failed. absurd (let clash : false ≡ true = failed in cc));
      clean = (λ zero. (refl, (Decides-eqb counted 0).0 at), λ both. is');
      only = inl (omega (arith, is'));
    }
    by false at is' = record {
      failed = (λ three. absurd (omega (arith, is', three)), λ failed. absurd (let clash : false ≡ true = failed in cc));
      clean = (λ zero. absurd (omega (arith, is', zero)), λ both. absurd (let clash : false ≡ true = sym at ∙ (Decides-eqb counted 0).1 both.1 in cc));
      only = inl (omega (arith, is'));
    }

-- by another word for that all is well
pub well_as : {P Q : Type 0} (status : ℕ) (failed : Bool) → P ↔ Q → IsEndStatus status failed P → IsEndStatus status failed Q
well_as status failed same is = record {
  failed = is.failed;
  clean = (λ zero. ((is.clean.0 zero).0, same.0 (is.clean.0 zero).1), λ both. is.clean.1 (both.0, same.1 both.1));
  only = is.only;
}

pub output_rose : (before : Entry) (exit : Exit) (setup : SetupValue) (ending : Ending) (told : List Event) (ran : IsRun before exit setup ending told) (left : Left) → IsAnswered ran.task ran.given (world_of exit.after) left ran.did
    → (failed : Bool) → left.answer ≡ done_answer left.counted failed → IsTrue failed → Rose before.out.faults exit.after.out.faults
output_rose before exit setup ending told ran left one false is failed = absurd (let clash : false ≡ true = failed in cc)
output_rose before exit setup ending told ran left one true is failed =
    let caused = subst (λ (a : Answer). IsCaused a left.counted left.told (outside_of ran.given) (outside_of (world_of exit.after))) is one.caused in
    subst (λ (s : SinkView). Rose s.faults exit.after.out.faults) ran.given_out caused
