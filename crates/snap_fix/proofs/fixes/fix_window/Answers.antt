use Rattle.std.proofs.Common.{List, map}
use Rattle.disk_model.specs.Folder.{FolderView}
use Rattle.snap_fix.specs.Fixing.{fix_scene}
use Rattle.snap_fix.specs.FixRun.{BreaksWindow, FixesWindow}
use Rattle.repair_scope.specs.Plan.{seen}
use Rattle.snap_fix.proofs.AnswerLemmas.{if_ok, if_err}
use Rattle.snap_fix.proofs.FixReadLemmas.{fix_read}
use Rattle.snap_fix.proofs.FixWindowLemmas.{shows_all, spare_still, window_mended, window_not_mended}
use Rattle.snap_fix.proofs.fixes.fix_window.Goals as goal

pub fix_into-requires-clause-underway : goal.fix_into-requires-clause-underway
fix_into-requires-clause-underway g c κs within =
    let first = c.args.space.now.progress in
    let it = c.examine_window.ensures in
    fix_read (seen c.args.stretch.now.plan) first.starts _ c.args.space.now.room.window it.window (map g.F.Folder.view c.args.folders.now) (map g.F.Folder.view c.examine_window.new.folders)
    it.read c.requires.fits.folders first.starts first.states c.requires.underway

pub returns-clause-fixed : goal.returns-clause-fixed
returns-clause-fixed g c =
    let plan = seen c.args.stretch.now.plan in
    let first = c.args.space.now.progress in
    let asked = c.args.stretch.now.stripes.now in
    let ex = c.examine_window in
    let mids : List FolderView = map g.F.Folder.view ex.new.folders in
    let olds : List FolderView = map g.F.Folder.view c.args.folders.now in
    let old = fix_scene first.starts first.states first.written.items olds (g.V.Vault.view c.args.vault.now) (g.P.Spare.holding c.args.spare.now) c.args.lines.now c.args.reports.now.items in
    let it = c.fix_into.new in
    let spare = g.P.Spare.holding ex.new.spare in
    let new = fix_scene it.progress.starts it.progress.states it.progress.written.items (map g.F.Folder.view it.folders) (g.V.Vault.view it.vault) spare it.lines it.reports.items in
    if_ok c.fix_into.result _ (FixesWindow _ _ _ plan asked c.args.space.now.room.window old new)
    (λ totals mends. record {
      window = ex.ensures.window;
      mids = mids;
      read = ex.ensures.read;
      fixes = window_mended plan first.starts asked c.args.space.now.room ex.new.room olds mids _ _ _ spare c.requires.stripes.0 c.requires.can.enough c.requires.can.room_is ex.ensures _ _ _ first.states first.written.items c.args.lines.now c.args.reports.now.items totals new
          (mends ex.ensures.stripes spare (shows_all plan first.starts asked c.args.space.now.room ex.new.room olds mids _ _ _ spare c.requires.stripes.0 c.requires.can.enough c.requires.can.room_is ex.ensures _ c.deref.ensures.value)
          (spare_still plan first.starts asked c.args.space.now.room ex.new.room olds mids _ _ _ spare c.requires.stripes.0 c.requires.can.enough c.requires.can.room_is ex.ensures c.requires.fits.spare));
    })
    c.fix_into.ensures.fixed

pub returns-clause-broke : goal.returns-clause-broke
returns-clause-broke g c =
    let plan = seen c.args.stretch.now.plan in
    let first = c.args.space.now.progress in
    let asked = c.args.stretch.now.stripes.now in
    let ex = c.examine_window in
    let mids : List FolderView = map g.F.Folder.view ex.new.folders in
    let olds : List FolderView = map g.F.Folder.view c.args.folders.now in
    let old = fix_scene first.starts first.states first.written.items olds (g.V.Vault.view c.args.vault.now) (g.P.Spare.holding c.args.spare.now) c.args.lines.now c.args.reports.now.items in
    let it = c.fix_into.new in
    let spare = g.P.Spare.holding ex.new.spare in
    let new = fix_scene it.progress.starts it.progress.states it.progress.written.items (map g.F.Folder.view it.folders) (g.V.Vault.view it.vault) spare it.lines it.reports.items in
    if_err c.fix_into.result _ (BreaksWindow _ _ _ plan asked c.args.space.now.room.window old new)
    (λ fault mends. record {
      window = ex.ensures.window;
      mids = mids;
      read = ex.ensures.read;
      breaks = window_not_mended plan first.starts asked c.args.space.now.room ex.new.room olds mids _ _ _ spare c.requires.stripes.0 c.requires.can.enough c.requires.can.room_is ex.ensures _ _ _ first.states first.written.items c.args.lines.now c.args.reports.now.items fault new
          (mends ex.ensures.stripes spare (shows_all plan first.starts asked c.args.space.now.room ex.new.room olds mids _ _ _ spare c.requires.stripes.0 c.requires.can.enough c.requires.can.room_is ex.ensures _ c.deref.ensures.value)
          (spare_still plan first.starts asked c.args.space.now.room ex.new.room olds mids _ _ _ spare c.requires.stripes.0 c.requires.can.enough c.requires.can.room_is ex.ensures c.requires.fits.spare));
    })
    c.fix_into.ensures.broke
