-- What a run was asked for, and how one ended that went to its end.
use Rattle.std.proofs.Common.{◌≡◌, ℕ, zero, suc, ◌<◌, ◌≤◌, List, inl, Bool, true, false, Ok, refl, sym, ◌∙◌, subst, arith}
use Rattle.snap_config.specs.declared.options.Command.{Command}
use Rattle.snap_config.specs.declared.options.Command.TheVariants as commands
use Rattle.snap_config.specs.declared.options.Options.{Options}
use Rattle.array_setup.specs.declared.ways.ScrubWay.{ScrubWay}
use Rattle.array_setup.specs.declared.ways.Selection.{Selection}
use Rattle.array_setup.specs.declared.ways.SyncWay.{SyncWay}
use Rattle.repair_scope.specs.declared.scope.Mode.{Mode}
use Rattle.snap_top.specs.Alike.{AskAlike}
use Rattle.snap_top.specs.Ended.{ByStatus}
use Rattle.snap_top.specs.Effect.{effect}
use Rattle.snap_top.specs.Output.{IsEndStatus}
use Rattle.snap_top.specs.LeftAlike.{AskSame}
use Rattle.snap_top.specs.InPart.{EndsInPart}
use Rattle.snap_top.specs.Stands.{TellsAll}
use Rattle.snap_top.specs.AsAsked.{ChecksEnd, EndsAsAsked}
use Rattle.snap_top.specs.Began.{command_in}
use Rattle.snap_top.specs.Asked.{asked_by}
use Rattle.snap_top.specs.Restoring.{EndsFixed}
use Rattle.snap_top.specs.Entry.{Entry, Exit}
use Rattle.snap_top.specs.Scrubbed.{EndsScrubbed}
use Rattle.snap_top.specs.Step.{ChangesFiles, RunStep}
use Rattle.snap_top.specs.Did.{Did, fixes, reads_only, scrubs, syncs}
use Rattle.snap_top.proofs.AskedLemmas.{command_asked}
use Rattle.snap_top_histories.specs.Lived.{AskForNoFix, IsNoFix}
use Rattle.snap_top_instances.specs.Asked.{AsksFor, everything}

-- ---- what was asked for

pub ask_same : (command : Command) (one other : Entry) → AsksFor command one.texts → AsksFor command other.texts → AskSame one other
ask_same command one other asks asks_then = record {
  asked = asks.asked;
  asked_then = asks_then.asked;
  words = asks.words;
  words_then = asks_then.words;
  command = asks.command_is ∙ sym asks_then.command_is;
  log = asks.no_log ∙ sym asks_then.no_log;
}

-- each in its mode, of everything
pub asks_alike : (mode mode_then : Mode) (one other : Entry) → AsksFor (command_in mode everything) one.texts → AsksFor (command_in mode_then everything) other.texts → AskAlike mode mode_then one other
asks_alike mode mode_then one other asks asks_then = record {
  asked = asks.asked;
  asked_then = asks_then.asked;
  selection = everything;
  words = asks.words;
  words_then = asks_then.words;
  command_is = asks.command_is;
  command_then = asks_then.command_is;
  log = asks.no_log ∙ sym asks_then.no_log;
}

pub no_fix_of : (command : Command) (texts : List (List ℕ)) → IsNoFix command → AsksFor command texts → AskForNoFix texts
no_fix_of command texts none asks = record { asked = asks.asked; words = asks.words; is_none = subst IsNoFix (sym asks.command_is) none }

-- ---- how a check ended

-- one that went to its end, by what it was asked for
pub ended_as : (command : Command) (before : Entry) (exit : Exit) (status : ℕ) → TellsAll before → ChecksEnd before exit status → status ≤ 1 → AsksFor command before.texts → EndsAsAsked command before exit status
ended_as command before exit status tells checked few asks =
    subst (λ (its : Command). EndsAsAsked its before exit status) asks.command_is
    (checked (record { tells = tells.tells; tells_vault = tells.tells_vault }) (ByStatus few) asks.asked asks.words)

-- with status 1, where something is counted unless all is well
pub counted_some : (status : ℕ) (failed : Bool) (count : ℕ) → IsEndStatus status failed (count ≡ 0) → status ≡ 1 → 0 < count
counted_some status failed (suc count) is one = omega arith
counted_some status true zero is one = absurd (let three = is.failed.1 refl in omega (arith, three, one))
counted_some status false zero is one = absurd (let none = is.clean.1 (refl, refl) in omega (arith, none, one))

-- ---- how a run ended, by what it did

module _ (before : Entry) (exit : Exit) (status : ℕ) (tells : TellsAll before) (asked : Options) (words : asked_by before.texts ≡ Ok asked) where
  sync_did : (way : SyncWay) → asked.command ≡ commands.Sync way → (did : Did) → (effect did).is_of before exit → (effect did).has_ended ≡ true → (effect did).ends before exit status → EndsInPart before exit status
  sync_did way command reads_only is done ends = absurd (let clash : false ≡ true = done in cc)
  sync_did way command (syncs failed sync) is done ends = (ends tells.tells_folders).0
  sync_did way command (fixes failed fix) is done ends =
      let clash : commands.Fix fix.selection ≡ commands.Sync way = command_asked before tells.tells asked words (commands.Fix fix.selection) is.readers fix.setup is.configured ∙ command in
      absurd cc
  sync_did way command (scrubs failed scrub) is done ends =
      let clash : commands.Scrub scrub.way ≡ commands.Sync way = command_asked before tells.tells asked words (commands.Scrub scrub.way) is.readers scrub.setup is.configured ∙ command in
      absurd cc

  scrub_did : (way : ScrubWay) → asked.command ≡ commands.Scrub way → (did : Did) → (effect did).is_of before exit → (effect did).has_ended ≡ true → (effect did).ends before exit status → EndsScrubbed before exit status
  scrub_did way command reads_only is done ends = absurd (let clash : false ≡ true = done in cc)
  scrub_did way command (syncs failed sync) is done ends =
      let clash : commands.Sync is.way ≡ commands.Scrub way = command_asked before tells.tells asked words (commands.Sync is.way) is.readers sync.setup is.configured ∙ command in
      absurd cc
  scrub_did way command (fixes failed fix) is done ends =
      let clash : commands.Fix fix.selection ≡ commands.Scrub way = command_asked before tells.tells asked words (commands.Fix fix.selection) is.readers fix.setup is.configured ∙ command in
      absurd cc
  scrub_did way command (scrubs failed scrub) is done ends = ends.0

  fix_did : (selection : Selection) → asked.command ≡ commands.Fix selection → (did : Did) → (effect did).is_of before exit → (effect did).has_ended ≡ true → (effect did).ends before exit status → EndsFixed before exit status
  fix_did selection command reads_only is done ends = absurd (let clash : false ≡ true = done in cc)
  fix_did selection command (syncs failed sync) is done ends =
      let clash : commands.Sync is.way ≡ commands.Fix selection = command_asked before tells.tells asked words (commands.Sync is.way) is.readers sync.setup is.configured ∙ command in
      absurd cc
  fix_did selection command (fixes failed fix) is done ends = (ends tells.tells_folders).0
  fix_did selection command (scrubs failed scrub) is done ends =
      let clash : commands.Scrub scrub.way ≡ commands.Fix selection = command_asked before tells.tells asked words (commands.Scrub scrub.way) is.readers scrub.setup is.configured ∙ command in
      absurd cc

  module _ (step : RunStep before exit status) (few : status ≤ 1) where
    done_by : ChangesFiles asked.command → (effect step.always.did).has_ended ≡ true
    done_by changes = step.done asked words changes (inl few)

    pub ends_synced : (way : SyncWay) → asked.command ≡ commands.Sync way → EndsInPart before exit status
    ends_synced way command =
        let done = done_by (subst ChangesFiles (sym command) tt) in
        sync_did way command step.always.did step.always.is_did done (step.at_end done)

    pub ends_scrubbed : (way : ScrubWay) → asked.command ≡ commands.Scrub way → EndsScrubbed before exit status
    ends_scrubbed way command =
        let done = done_by (subst ChangesFiles (sym command) tt) in
        scrub_did way command step.always.did step.always.is_did done (step.at_end done)

    pub ends_fixed : (selection : Selection) → asked.command ≡ commands.Fix selection → EndsFixed before exit status
    ends_fixed selection command =
        let done = done_by (subst ChangesFiles (sym command) tt) in
        fix_did selection command step.always.did step.always.is_did done (step.at_end done)
