use Rattle.std.proofs.Common.{map, refl, sym, ◌∙◌}
use Rattle.std.proofs.lemmas.List.{take_at}
use Rattle.repair_scope.specs.Plan.{seen}
use Rattle.stripe_examiner.specs.Spare.{nothing}
use Rattle.snap_fix.specs.Fixing.{fix_scene}
use Rattle.snap_fix.proofs.FixedStripeLemmas.{fits_with, fixed, folder_failed, parity_for, shows_marks, shows_tried, vault_failed}
use Rattle.snap_fix.proofs.fixing.fix_stripe.Goals as goal

pub returns-in-Err-clause-broke : goal.returns-in-Err-clause-broke
returns-in-Err-clause-broke g c facts spare it =
    let plan = seen c.args.plan.now in
    let told = c.tell_stripe-found in
    let files = c.mend_files.new in
    folder_failed _ _ _ plan facts c.args.one.now.stripe c.args.one.now.slot it.stripe_is c.args.one.now.window.now _ c.args.one.now.own.now.known
    (shows_marks plan facts c.args.one.now.stripe c.args.one.now.slot c.args.one.now.window.now c.args.one.now.own.now it _ refl)
    (fix_scene c.args.progress.now.starts c.args.progress.now.states c.args.progress.now.written.items (map g.F.Folder.view c.args.folders.now) (g.V.Vault.view c.args.vault.now) spare c.args.lines.now c.args.reports.now.items)
    told.new.lines told.new.reports.items (told.ensures.told facts c.args.one.now.slot c.args.one.now.window.now it.shows it.stripe_is)
    (fix_scene files.starts files.states c.args.progress.now.written.items (map g.F.Folder.view files.folders) (g.V.Vault.view c.args.vault.now) spare files.lines files.reports.items)
    c.in-Err.disk refl refl c.in-Err.ensures.failed

pub returns-in_default-clause-broke : goal.returns-in_default-clause-broke
returns-in_default-clause-broke g c facts spare it =
    let plan = seen c.args.plan.now in
    let told = c.tell_stripe-found in
    let files = c.mend_files.new in
    let levels = c.mend_parity.new in
    vault_failed _ _ _ plan facts c.args.one.now.stripe c.args.one.now.slot it.stripe_is c.args.one.now.window.now _ c.args.one.now.own.now.known
    (shows_marks plan facts c.args.one.now.stripe c.args.one.now.slot c.args.one.now.window.now c.args.one.now.own.now it _ refl)
    (fix_scene c.args.progress.now.starts c.args.progress.now.states c.args.progress.now.written.items (map g.F.Folder.view c.args.folders.now) (g.V.Vault.view c.args.vault.now) spare c.args.lines.now c.args.reports.now.items)
    told.new.lines told.new.reports.items (told.ensures.told facts c.args.one.now.slot c.args.one.now.window.now it.shows it.stripe_is)
    _
    files.lines files.reports.items c.in-Ok.repaired c.in-Ok.ensures.mended refl
    (c.in_default.ensures.failed facts (shows_tried plan facts c.args.one.now.stripe c.args.one.now.slot c.args.one.now.window.now c.args.one.now.own.now it))

pub returns-clause-fixed : goal.returns-clause-fixed
returns-clause-fixed g c facts spare it is_for =
    let plan = seen c.args.plan.now in
    let told = c.tell_stripe-found in
    let files = c.mend_files.new in
    let levels = c.mend_parity.new in
    fixed _ _ _ plan facts c.args.one.now.stripe c.args.one.now.slot it.stripe_is c.args.one.now.window.now _ c.args.one.now.own.now.known
    (shows_marks plan facts c.args.one.now.stripe c.args.one.now.slot c.args.one.now.window.now c.args.one.now.own.now it _ refl)
    (fix_scene c.args.progress.now.starts c.args.progress.now.states c.args.progress.now.written.items (map g.F.Folder.view c.args.folders.now) (g.V.Vault.view c.args.vault.now) spare c.args.lines.now c.args.reports.now.items)
    told.new.lines told.new.reports.items (told.ensures.told facts c.args.one.now.slot c.args.one.now.window.now it.shows it.stripe_is)
    _
    files.lines files.reports.items c.in-Ok.repaired c.in-Ok.ensures.mended refl
    _ c.in-Ok-mend_parity.parities
    (fits_with plan _ _ _ _ _ nothing spare _ _ c.requires.fits is_for)
    (parity_for _ _ _ plan facts _ _ _ _ _ _ _ c.as_mut_slice-written.ensures.value
    (sym (take_at levels.written _ c.args.progress.now.written.len (c.mend_parity.auto.written ∙ c.as_mut_slice-written.ensures.len)))
    (c.in-Ok-mend_parity.ensures.mended facts (shows_tried plan facts c.args.one.now.stripe c.args.one.now.slot c.args.one.now.window.now c.args.one.now.own.now it)))
    (c.and.ensures _ _ (told.ensures.counts facts c.args.one.now.slot c.args.one.now.window.now it.shows it.stripe_is))
    c.from.type_inv c.from.ensures c.from-2.type_inv c.from-2.ensures
