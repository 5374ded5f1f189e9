-- What a run is to do, and what it leaves to be said.
use Rattle.std.specs.Prelude.{◌≡◌, ℕ, List, Bool, false, Option}
use Rattle.disk_model.specs.Sink.{SinkView}
use Rattle.file_table.specs.Table.{TableValue}
use Rattle.array_setup.specs.Setup.{SetupValue, setup_value}
use Rattle.snap_config.specs.declared.options.Command.{Command}
use Rattle.snap_report.specs.Answer.{done_answer, Outside}
use Rattle.snap_report.specs.Telling.{Tells, between}
use Rattle.snap_report.specs.declared.answer.Answer.{Answer}
use Rattle.snap_report.specs.declared.events.Event.{Event}
use Rattle.snap_top.specs.Views.{World}
use Rattle.snap_top.specs.declared.job.Job.{Job}

-- what a run is to do: its command and its configuration, how many readers it has, the time in seconds since 1970, and the seed of a new array
pub record Task : Type 0 where
  pub command : Command
  pub readers : ℕ
  pub setup : SetupValue
  pub moment : ℕ
  pub seed : List ℕ

abbrev pub task_of : Job → Task
task_of job = record { command = job.command; readers = job.readers; setup = setup_value job.setup; moment = job.moment; seed = job.seed }

-- what a command leaves to be said of it: its answer, the table of the file that this names, how many findings count, and the events that were told
pub record Left : Type 0 where
  pub answer : Answer
  pub named : Option TableValue
  pub counted : ℕ
  pub told : List Event

-- A text was printed, or a write failed, and then a prefix of it. The answer is that of an engine that is done, with so many findings.
pub record Prints (text : List ℕ) (counted : ℕ) (out out_new : SinkView) (answer : Answer) : Type 0 where
  pub failed : Bool
  pub told : Tells text (between false out) (between failed out_new)
  pub answer_is : answer ≡ done_answer counted failed

-- what is outside of an engine, as the causes of its answer speak of it
abbrev pub outside_of : World → Outside
outside_of world = record { folders = world.folders; vault = world.vault; output_faults = world.out.faults }
