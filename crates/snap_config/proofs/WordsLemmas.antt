-- What words ask for, step by step.
use Rattle.std.proofs.Common.{◌≡◌, ◌≢◌, ◌∙◌, ◌⊎◌, List, [], ◌∷◌, Some, None, Result, Ok, Err, IfOk, IfErr, ap, subst, sym, refl, inl, inr}
use Rattle.clap.specs.Words.{Kinds, Row, Text}
use Rattle.std.specs.Option.{option_map_or}
use Rattle.snap_config.specs.FlatCommand.{IsRefusal, matches_in, usage_faults}
use Rattle.snap_config.specs.Given.{command_text}
use Rattle.snap_config.specs.Words.{Answers, named, options, options_of, reading_among, unless_usage}
use Rattle.snap_config.specs.declared.option_table.CommandName.{CommandName}
use Rattle.snap_config.specs.declared.options.Options.{Options}
use Rattle.snap_config.specs.declared.options.WordsFault.{WordsFault}
use Rattle.snap_config.specs.declared.options.WordsFault.TheVariants.{Command, Memory, Usage}

-- the command of the word
pub known_answer : (built : List CommandName) (m : List Row) (command : CommandName) → Some command ≡ named built (command_text m)
    → options_of command m ≡ options built m
known_answer built m command is =
    ap (λ o. option_map_or (λ c. options_of c m) o (Err (Command (command_text m)))) is

pub unknown_answer : (built : List CommandName) (m : List Row) → None ≡ named built (command_text m) → Err (Command (command_text m)) ≡ options built m
unknown_answer built m is = ap (λ o. option_map_or (λ c. options_of c m) o (Err (Command (command_text m)))) is

usage_answer : (kinds : Kinds) (otherwise : Result Options WordsFault) → kinds ≢ [] → unless_usage kinds otherwise ≡ Err Usage
usage_answer [] otherwise some = absurd (some refl)
usage_answer (kind ∷ kinds) otherwise some = refl

pub refused_answer : (built : List CommandName) (words : List Text) (fault : WordsFault) → IsRefusal (usage_faults words) fault
    → Answers (Err fault) (reading_among built words)
unfolding reading_among
refused_answer built words fault (inl memory) = inl memory
refused_answer built words fault (inr usage) =
    inr (usage_answer (usage_faults words) (options built (matches_in words)) usage.1 ∙ ap (λ f. Err f) (sym usage.0))

pub taken_answer : (built : List CommandName) (words : List Text) (m : List Row) → usage_faults words ≡ [] → m ≡ matches_in words
    → options built m ≡ reading_among built words
unfolding reading_among
taken_answer built words m none is = ap (options built) is ∙ ap (λ kinds. unless_usage kinds (options built (matches_in words))) (sym none)

pub Answers-along : (r a b : Result Options WordsFault) → a ≡ b → Answers r a → Answers r b
Answers-along r a b same answer = subst (Answers r) same answer

pub answers_ok : (r read : Result Options WordsFault) → Answers r read → IfOk r (λ asked. read ≡ Ok asked)
answers_ok (Ok asked) read answer = answer
answers_ok (Err fault) read answer = tt

pub answers_err : (r read : Result Options WordsFault) → Answers r read → IfErr r (λ fault. (fault ≡ Memory) ⊎ (read ≡ Err fault))
answers_err (Ok asked) read answer = tt
answers_err (Err fault) read answer = answer
