use Rattle.std.proofs.Common.{◌≡◌, ◌⊎◌, inl, inr, ℕ, List, ◌+◌, ◌-◌, ◌<◌, ◌≤◌, length, map, min, take, drop, arith, refl, ap, ◌∙◌}
use Rattle.std.proofs.lemmas.List.{length-drop, length-take-le}
use Rattle.std.proofs.lemmas.List.Elements.{All-drop, All-take}
use Rattle.snap_fix.specs.FixRun.{BreaksStripes}
use Rattle.snap_fix.specs.Fixing.{fix_scene}
use Rattle.repair_scope.specs.Plan.{seen}
use Rattle.snap_fix.specs.Windows.{window_size}
use Rattle.snap_fix.proofs.WindowsLemmas.{fill_more, takes_all}
use Rattle.snap_fix.proofs.FixIntoLemmas.{still_underway}
use Rattle.snap_fix.proofs.FixSinceLemmas.{stripes_none, stripes_whole}
use Rattle.snap_fix.proofs.FixStripesLemmas.{stripes_break, stripes_more}
use Rattle.snap_fix.proofs.FixWindowLemmas.{ascending_window}
use Rattle.file_restorer.proofs.GoesOnLemmas.{handed_on}
use Rattle.snap_fix.proofs.fixes.fix_stripes.Goals as goal

pub loop-done-init : goal.loop-done-init
loop-done-init g c = record {
  fixed = stripes_none _ _ _ _ _ _ c.requires.fits (record { counts = record { found = refl; left = refl }; blocks = refl; parities = refl });
  within = omega arith;
  fill = λ more. (0, omega arith);
  room = c.requires.can.room_is;
}

-- a window holds just so many stripes
many_in : (numbers : List ℕ) (done count : ℕ) → done + count ≤ length numbers → length (take ((done + count) - done) (drop done numbers)) ≡ count
many_in numbers done count fits =
    let real : (done + count) - done ≡ count = omega arith in
    ap (λ (n : ℕ). length (take n (drop done numbers))) real ∙ length-take-le count (drop done numbers) (omega (arith, length-drop done numbers, fits))

same_window : (numbers : List ℕ) (done count : ℕ) → take ((done + count) - done) (drop done numbers) ≡ take count (drop done numbers)
same_window numbers done count = ap (λ (n : ℕ). take n (drop done numbers)) (omega arith)

pub fix_window-requires-clause-can : goal.fix_window-requires-clause-can
fix_window-requires-clause-can g c κs within =
    let stripes = c.args.stretch.now.stripes.now in
    let so_far = c.loop-done.invariant in
    let done = c.loop-done.done in
    let count = c.min-count.result in
    let P : ℕ → Type 0 = λ (stripe : ℕ). stripe < length c.args.stretch.now.plan.table.now.infos in
    record {
      entries = c.requires.can.entries;
      starts_fit = so_far.fixed.fixes.mends.fits.starts;
      within = All-take P ((done + count) - done) (drop done stripes) (All-drop P done stripes c.requires.can.within);
      room_is = so_far.room;
      enough = omega (arith, c.min-count.ensures, c.loop-done-test.true, many_in stripes done count (omega (arith, c.min-count.ensures, c.loop-done-test.true)));
    }

pub fix_window-requires-clause-stripes : goal.fix_window-requires-clause-stripes
fix_window-requires-clause-stripes g c κs within =
    let stripes = c.args.stretch.now.stripes.now in
    let done = c.loop-done.done in
    let count = c.min-count.result in
    let some = c.loop-done.invariant.room.some in (
      omega (arith, some, c.min-count.ensures, c.loop-done-test.true, many_in stripes done count (omega (arith, c.min-count.ensures, c.loop-done-test.true))),
      ascending_window stripes done ((done + count) - done) c.requires.can.ascending,
    )

pub fix_window-requires-clause-underway : goal.fix_window-requires-clause-underway
fix_window-requires-clause-underway g c κs within = still_underway _ _ _ _ _ _ _ _ c.requires.underway c.loop-done.invariant.fixed.fixes.mends

pub returns-in_err-more-clause-broke : goal.returns-in_err-more-clause-broke
returns-in_err-more-clause-broke g c =
    let plan = seen c.args.stretch.now.plan in
    let stripes = c.args.stretch.now.stripes.now in
    let first = c.args.space.now.progress in
    let so_far = c.loop-done.invariant in
    let now = c.loop-done.space.progress in
    let old = fix_scene first.starts first.states first.written.items (map g.F.Folder.view c.args.folders.now) (g.V.Vault.view c.args.vault.now) (g.P.Spare.holding c.args.spare.now) c.args.lines.now c.args.reports.now.items in
    let mid = fix_scene now.starts now.states now.written.items (map g.F.Folder.view c.loop-done.folders) (g.V.Vault.view c.loop-done.vault) (g.P.Spare.holding c.loop-done.spare) c.loop-done.lines c.loop-done.reports.items in
    let it = c.fix_window.new in
    let new = fix_scene it.space.progress.starts it.space.progress.states it.space.progress.written.items (map g.F.Folder.view it.folders) (g.V.Vault.view it.vault) (g.P.Spare.holding it.spare) it.lines it.reports.items in
    let fault = c.in_err-more.field-0.0 in
    let window = c.in_err-more.ensures.broke in
    let done = c.loop-done.done in
    let count = c.min-count.result in
    let numbers = take ((done + count) - done) (drop done stripes) in
    let long = length stripes in
    let below : done < long = c.loop-done-test.true in
    let room : c.loop-done.space.room.window.room ≡ window_size plan = so_far.room.just in
    let count_is : count ≡ min (long - done) (window_size plan) = omega (arith, room, c.min-count.ensures) in
    let many : length numbers ≡ count = many_in stripes done count (omega (arith, count_is, below)) in
    handed_on c.from_residual.result (BreaksStripes _ _ _ plan stripes old new) fault c.from_residual.ensures.1
    (stripes_break _ _ _ plan numbers c.loop-done.space.room.window window.window mid window.mids window.read so_far.fixed.fixes.mends.fits (take done stripes) c.loop-done.totals old so_far.fixed new fault
    window.breaks stripes done count so_far.within (so_far.fill below) many (omega (arith, count_is)) (takes_all long done (window_size plan) count below count_is) c.requires.can.ascending refl
    (same_window stripes done count) c.requires.fits)

-- where stripes are left behind a window, it is full
not_all : (long done count : ℕ) {room : ℕ} → done + count < long → (long ≡ done + count) ⊎ (count ≡ room) → count ≡ room
not_all long done count further (inl all) = absurd (omega (arith, further, all))
not_all long done count further (inr full) = full

pub loop-done-preserved : goal.loop-done-preserved
loop-done-preserved g c =
    let plan = seen c.args.stretch.now.plan in
    let stripes = c.args.stretch.now.stripes.now in
    let first = c.args.space.now.progress in
    let so_far = c.loop-done.invariant in
    let now = c.loop-done.space.progress in
    let done = c.loop-done.done in
    let count = c.min-count.result in
    let window = c.in_ok-more.ensures.fixed in
    let numbers = take ((done + count) - done) (drop done stripes) in
    let old = fix_scene first.starts first.states first.written.items (map g.F.Folder.view c.args.folders.now) (g.V.Vault.view c.args.vault.now) (g.P.Spare.holding c.args.spare.now) c.args.lines.now c.args.reports.now.items in
    let mid = fix_scene now.starts now.states now.written.items (map g.F.Folder.view c.loop-done.folders) (g.V.Vault.view c.loop-done.vault) (g.P.Spare.holding c.loop-done.spare) c.loop-done.lines c.loop-done.reports.items in
    let it = c.fix_window.new in
    let new = fix_scene it.space.progress.starts it.space.progress.states it.space.progress.written.items (map g.F.Folder.view it.folders) (g.V.Vault.view it.vault) (g.P.Spare.holding it.spare) it.lines it.reports.items in
    let long = length stripes in
    let below : done < long = c.loop-done-test.true in
    let room : c.loop-done.space.room.window.room ≡ window_size plan = so_far.room.just in
    let count_is : count ≡ min (long - done) (window_size plan) = omega (arith, room, c.min-count.ensures) in
    let more = stripes_more _ _ _ plan numbers c.loop-done.space.room.window window.window mid window.mids window.read so_far.fixed.fixes.mends.fits stripes done count so_far.within (so_far.fill below)
    c.requires.can.ascending (same_window stripes done count) c.loop-done.totals c.in_ok-more.more c.and-totals.result old new so_far.fixed window.fixes (c.and-totals.ensures plan) in
    record {
      fixed = more;
      within = omega (arith, count_is, below);
      fill = λ further. fill_more plan done count (so_far.fill below) (not_all long done count further (takes_all long done (window_size plan) count below count_is));
      room = c.in_ok-more.ensures.room;
    }

pub returns-clause-fixed : goal.returns-clause-fixed
returns-clause-fixed g c =
    let first = c.args.space.now.progress in
    let so_far = c.loop-done.invariant in
    let last = c.loop-done.space.progress in
    let old = fix_scene first.starts first.states first.written.items (map g.F.Folder.view c.args.folders.now) (g.V.Vault.view c.args.vault.now) (g.P.Spare.holding c.args.spare.now) c.args.lines.now c.args.reports.now.items in
    let new = fix_scene last.starts last.states last.written.items (map g.F.Folder.view c.loop-done.folders) (g.V.Vault.view c.loop-done.vault) (g.P.Spare.holding c.loop-done.spare) c.loop-done.lines c.loop-done.reports.items in
    stripes_whole _ _ _ (seen c.args.stretch.now.plan) c.args.stretch.now.stripes.now c.loop-done.done c.loop-done.totals old new (omega (arith, c.loop-done-test.false)) so_far.fixed
