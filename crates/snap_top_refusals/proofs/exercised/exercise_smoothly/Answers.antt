use Rattle.std.proofs.Common.{sym, ◌∙◌, arith}
use Rattle.disk_memory.specs.Folder.{folder_view}
use Rattle.disk_memory.specs.Sink.{sink_view}
use Rattle.disk_memory.specs.Vault.{vault_view}
use Rattle.snap_top_refusals.proofs.ExercisedLemmas.{smoothly_exercised}
use Rattle.snap_top_refusals.proofs.exercised.exercise_smoothly.Goals as goal

pub returns : goal.returns
returns g c =
    smoothly_exercised _ folder_view vault_view sink_view _ _ _ c.in-Some._number c.in_ok-made.ensures c.in-Some.ensures
    (sym c.faults.ensures ∙ omega (arith, c.if-faults-gt0.false)) (λ none. c.says_else.ensures c.if-not-says_else.false (c.bytes.ensures ∙ none))
