use Rattle.std.proofs.Common.{[], length, ap, arith, refl}
use Rattle.snap_top.proofs.RunLemmas.{opened_runs, refused_runs, unopened_runs, written_back}
use Rattle.snap_top.proofs.running.work_on_array.Goals as goal

pub returns-in-Ok : goal.returns-in-Ok
returns-in-Ok g c texts read =
    let lent = c.as_mut_slice.ensures.value in
    let same = ap length lent in
    let made = c.work_by_levels-ending in
    opened_runs _ _ g.O.Folder.Folder.view _ c.in-Ok.session.setup _ _ _ _ _ c.in-Ok.session.folders.items _ made.new.folders _ (g.O.Vault.Vault.view c.in-Ok.session.vault) (g.O.Vault.Vault.view made.result.1)
    _ _ _ _ _ refl refl refl lent
    (written_back _ made.new.folders _ (omega (arith, c.in-Ok.session.folders.ok.0, same, made.auto.folders)))
    (c.in-Ok.ensures.given.given texts read) c.in-Ok.ensures.images c.in-Ok.ensures.opened.settled made.ensures

pub returns-in-Err : goal.returns-in-Err
returns-in-Err g c texts read =
    unopened_runs _ _ g.O.Folder.Folder.view g.O.Vault.Vault.view _ _ _ _ _ _ _ _ _ c.unopened.ensures.end c.unopened.ensures.folders c.unopened.ensures.vault
    (refused_runs _ _ g.O.Folder.Folder.view texts _ _ _ _ [] _ _ _ refl (c.in-Err.ensures.refused texts read) c.in-Err.ensures.kept)
