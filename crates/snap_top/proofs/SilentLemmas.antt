-- A run that is done says nothing on the standard error, from its end: all other ends have a higher status.
use Rattle.std.proofs.Common.{◌≡◌, ℕ, ◌≤◌, List, [], ◌∷◌, ◌++◌, IsTrue, refl, ap, ◌∙◌, subst, arith}
use Rattle.std.proofs.lemmas.List.{append-nil}
use Rattle.disk_model.specs.Sink.{SinkView}
use Rattle.disk_model.specs.declared.fault.OpenFault.{OpenFault}
use Rattle.disk_model.specs.declared.fault.OpenFault.TheVariants as opens
use Rattle.content_file.specs.declared.loading.LoadFault.{LoadFault}
use Rattle.content_file.specs.declared.loading.LoadFault.TheVariants as loads
use Rattle.array_setup.specs.Setup.{SetupValue, setup_value}
use Rattle.snap_config.specs.declared.options.WordsFault.{WordsFault}
use Rattle.snap_config.specs.declared.options.WordsFault.TheVariants as words
use Rattle.snap_config.specs.declared.why.ConfigFault.{ConfigFault}
use Rattle.snap_config.specs.declared.why.ConfigFault.TheVariants as config
use Rattle.snap_report.specs.Answer.{status_of as answer_status, answer_line}
use Rattle.snap_report.specs.declared.answer.Answer.{Answer}
use Rattle.snap_report.specs.declared.answer.Answer.TheVariants.{Clean, Found, OutputFailed, Zeroed, Emptied, Full, Broken}
use Rattle.snap_report.specs.declared.answer.RunFault.TheVariants.{Folder, Vault, Memory}
use Rattle.snap_top.specs.Complete.{IsSilent}
use Rattle.snap_top.specs.End.{status_of, line_of, ending_status, ending_line, refusal_status, words_status, config_status, open_status, load_status, disk_named, path_named}
use Rattle.snap_top.specs.Run.{IsSaid}
use Rattle.snap_top.specs.declared.end.End.{End}
use Rattle.snap_top.specs.declared.end.End.TheVariants.{Exercised, Refused, Worked}
use Rattle.snap_top.specs.declared.end.Ending.{Ending}
use Rattle.snap_top.specs.declared.end.Ending.TheVariants.{NotLoaded, NoTable, OtherArray, Answered}
use Rattle.snap_top.specs.declared.end.Refusal.{Refusal}
use Rattle.snap_top.specs.declared.end.Refusal.TheVariants as refusals

high : (n : ℕ) → 2 ≤ n → n ≤ 1 → ⊥
high n two one = omega (arith, two, one)

silent_answer : (name path : List ℕ) (answer : Answer) → answer_status answer ≤ 1 → answer_line name path answer ≡ []
silent_answer name path Clean done = refl
silent_answer name path Found done = refl
silent_answer name path OutputFailed done = absurd (omega (arith, done))
silent_answer name path (Zeroed disk rec) done = absurd (omega (arith, done))
silent_answer name path (Emptied disk) done = absurd (omega (arith, done))
silent_answer name path (Full blocks files) done = absurd (omega (arith, done))
silent_answer name path (Broken (Folder disk)) done = absurd (omega (arith, done))
silent_answer name path (Broken Vault) done = absurd (omega (arith, done))
silent_answer name path (Broken Memory) done = absurd (omega (arith, done))

open_high : (fault : OpenFault) → 2 ≤ open_status fault
open_high opens.Failed = omega arith
open_high opens.Memory = omega arith

pub load_high : (fault : LoadFault) → 2 ≤ load_status fault
load_high loads.Failed = omega arith
load_high (loads.Damaged damages) = omega arith
load_high loads.Memory = omega arith

words_high : (fault : WordsFault) → 2 ≤ words_status fault
words_high words.Usage = omega arith
words_high (words.Command word) = omega arith
words_high (words.Unfit option command) = omega arith
words_high (words.Value option) = omega arith
words_high words.Memory = omega arith

config_high : (fault : ConfigFault) → 2 ≤ config_status fault
config_high (config.BadLine line why) = omega arith
config_high config.Memory = omega arith

pub refusal_high : (why : Refusal) → 2 ≤ refusal_status why
refusal_high (refusals.Words fault) = words_high fault
refusal_high (refusals.Unread fault) = open_high fault
refusal_high (refusals.Config file fault) = config_high fault
refusal_high (refusals.NoDisk name) = omega arith
refusal_high (refusals.Unopened fault) = open_high fault

silent_ending : (setup : SetupValue) (ending : Ending) → ending_status ending ≤ 1 → ending_line setup ending ≡ []
silent_ending setup (NotLoaded fault) done = absurd (high _ (load_high fault) done)
silent_ending setup NoTable done = absurd (omega (arith, done))
silent_ending setup (OtherArray difference content) done = absurd (omega (arith, done))
silent_ending setup (Answered answer named) done = silent_answer (disk_named setup answer) (path_named named answer) answer done

silent_end : (end : End) → status_of end ≤ 1 → line_of end ≡ []
silent_end (Refused why) done = absurd (high _ (refusal_high why) done)
silent_end (Worked setup ending) done = silent_ending (setup_value setup) ending done
silent_end (Exercised answer) done = silent_answer [] [] answer done

nothing_said : (err err_new : SinkView) → IsSaid [] err err_new → IsTrue err.tells → err_new.written ≡ err.written
nothing_said err err_new said tells = let part = said.told.part tells in part.appended ∙ ap (λ bytes. err.written ++ bytes) (no_front part.front part.rest part.whole) ∙ append-nil err.written
  where
    no_front : (front rest : List ℕ) → front ++ rest ≡ [] → front ≡ []
    no_front [] rest is = refl
    no_front (b ∷ front) rest is = absurd (let clash : b ∷ (front ++ rest) ≡ [] = is in cc)

pub done_is_silent : (end : End) (status : ℕ) (err err_new : SinkView) → status ≡ status_of end → IsSaid (line_of end) err err_new → IsSilent status err err_new
done_is_silent end status err err_new is said done tells =
    let none : line_of end ≡ [] = silent_end end (subst (λ n. n ≤ 1) is done) in
    nothing_said err err_new (subst (λ line. IsSaid line err err_new) none said) tells
