use Rattle.std.proofs.Common.{[], refl}
use Rattle.snap_top.proofs.OpeningLemmas.{holds_start, no_calls_yet}
use Rattle.snap_top.proofs.RunLemmas.{exercised_runs, refused_runs, unopened_runs}
use Rattle.snap_top.proofs.running.work.Goals as goal

pub returns-in-Err : goal.returns-in-Err
returns-in-Err g c =
    unopened_runs _ _ g.O.Folder.Folder.view g.O.Vault.Vault.view _ _ _ _ _ _ _ _ _ c.unopened.ensures.end c.unopened.ensures.folders c.unopened.ensures.vault
    (refused_runs _ _ g.O.Folder.Folder.view _ _ _ _ _ [] _ _ _ refl (c.in-Err.ensures.answers, no_calls_yet _, refl) (holds_start _))

pub returns-in-Exercise : goal.returns-in-Exercise
returns-in-Exercise g c =
    let made = c.unopened-in-Exercise in
    unopened_runs _ _ g.O.Folder.Folder.view g.O.Vault.Vault.view _ _ _ _ _ _ _ _ _ made.ensures.end made.ensures.folders made.ensures.vault
    (exercised_runs _ _ g.O.Folder.Folder.view _ _ _ _ [] _ _ _ c.in-Exercise.n _ refl
    (record { asked = c.in-Ok.asked; read = c.in-Ok.ensures.answers; command_is = c.in-Exercise.is }) c.exercise_alone.ensures)
