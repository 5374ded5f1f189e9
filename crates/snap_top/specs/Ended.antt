-- When a sync, a scrub, a check or a fix went to its end, and the status that it has then.
use Rattle.std.specs.Prelude.{◌≡◌, ◌⊎◌, ℕ, ◌≤◌, List, Bool, true, false}
use Rattle.array_setup.specs.Setup.{SetupValue}
use Rattle.snap_report.specs.declared.answer.Answer.TheVariants as answers
use Rattle.snap_report.specs.declared.events.Event.{Event}
use Rattle.snap_top.specs.Unbroken.{NothingBroke}
use Rattle.snap_top.specs.End.{ending_status}
use Rattle.snap_top.specs.Run.{IsRun}
use Rattle.snap_top.specs.Entry.{Entry, Exit}
use Rattle.snap_top.specs.declared.end.Ending.{Ending}
use Rattle.snap_top.specs.declared.end.Ending.TheVariants.{Answered}
use Rattle.snap_top.specs.Effect.{effect}

-- its answer is that the output failed, which no command gives that broke off
abbrev pub has_failed_output : Ending → Bool
has_failed_output (Answered answers.OutputFailed named) = true
has_failed_output _ = false

-- A run did so, by what it did with all that it was given, or by its answer. Of a check the answer alone shows it: what
-- that did is reading, whether it ended or not.
pub record HasEnded (before : Entry) (exit : Exit) (status : ℕ) : Type 0 where
  pub setup : SetupValue
  pub ending : Ending
  pub told : List Event
  pub ran : IsRun before exit setup ending told
  pub status_is : status ≡ ending_status ending
  pub ended : ((effect ran.did).has_ended ≡ true) ⊎ (has_failed_output ending ≡ true)

-- How it shows that a sync, a scrub, a check or a fix went to its end. Its status is 0 or 1. Or it is 3, and neither the opener
-- nor a folder nor the vault failed so that a run ends: then the output failed, and besides at most readings did. Or
-- the run says so itself, by what a sync, a fix or a scrub did, or by the answer that the output failed.
pub data WentToItsEnd (before : Entry) (exit : Exit) (status : ℕ) : Type 0 where
  ByStatus : status ≤ 1 → WentToItsEnd before exit status
  ByFaults : status ≡ 3 → NothingBroke before exit → WentToItsEnd before exit status
  ByRun : HasEnded before exit status → WentToItsEnd before exit status
