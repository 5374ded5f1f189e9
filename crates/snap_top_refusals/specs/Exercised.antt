-- An exercise that surely ends well, if memory does not run out, and was made.
use Rattle.std.specs.Prelude.{◌≡◌, ◌≢◌, ◌⊎◌, ℕ, ◌≤◌, List, [], IsTrue}
use Rattle.disk_model.specs.Folder.{FolderView}
use Rattle.disk_model.specs.Opener.{OpenerView}
use Rattle.disk_model.specs.Sink.{SinkView}
use Rattle.disk_model.specs.Vault.{VaultView}
use Rattle.snap_report.specs.declared.answer.Answer.{Answer}
use Rattle.snap_report.specs.declared.events.Event.{Event}
use Rattle.snap_top.specs.Complete.{IsSmoothExercise, SmoothRunsAreDone}
use Rattle.snap_top.specs.RunOf.{RunOf}
use Rattle.snap_top.specs.Run.{IsAccounted, IsExercised}
use Rattle.snap_top.specs.Standing.{after_of, before_of}

module _ {O F V W : Type 0} (opener_view : O → OpenerView) (folder_view : F → FolderView) (vault_view : V → VaultView) (sink_view : W → SinkView) where
  -- A run of these words, with its account and when it is done, and the output as it left it. Nothing was printed before.
  pub record RunsAlone (texts : List (List ℕ)) (status : ℕ) (out_new : W) : Type 0 where
    pub run : RunOf O F V W
    pub texts_are : run.texts ≡ texts
    pub status_is : run.status ≡ status
    pub out_is : run.out_new ≡ out_new
    pub tells : IsTrue (before_of opener_view folder_view vault_view sink_view run).opener.tells
    pub account : IsAccounted (before_of opener_view folder_view vault_view sink_view run) (after_of opener_view folder_view vault_view sink_view run) run.status
    pub complete : SmoothRunsAreDone (before_of opener_view folder_view vault_view sink_view run) (after_of opener_view folder_view vault_view sink_view run) run.status
    pub out_begins : (before_of opener_view folder_view vault_view sink_view run).out.written ≡ []

  -- The words of a run asked for an exercise, and its output did not fail. The exercise of that number was made and printed, and the run is done, or
  -- memory ran out.
  pub record IsSmoothlyExercised (status : ℕ) : Type 0 where
    pub run : RunOf O F V W
    pub answer : Answer
    pub told : List Event
    pub smooth : IsSmoothExercise (before_of opener_view folder_view vault_view sink_view run) (after_of opener_view folder_view vault_view sink_view run)
    pub exercised : IsExercised (before_of opener_view folder_view vault_view sink_view run) (after_of opener_view folder_view vault_view sink_view run) answer told
    pub number_is : exercised.number ≡ smooth.number
    pub begins : (before_of opener_view folder_view vault_view sink_view run).out.written ≡ []
    pub printed_some : (after_of opener_view folder_view vault_view sink_view run).after.out.written ≢ []
    pub done : (run.status ≤ 1) ⊎ (run.status ≡ 4)
    pub status_is : run.status ≡ status
