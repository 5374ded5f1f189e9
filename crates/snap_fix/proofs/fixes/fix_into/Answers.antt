use Rattle.std.proofs.Common.{◌<◌, inl, length, map, refl, arith, ◌∙◌}
use Rattle.stripe_examiner.specs.Looking.{facts_at}
use Rattle.repair_scope.specs.Plan.{seen}
use Rattle.stripe_examiner.specs.Spare.{nothing}
use Rattle.snap_fix.specs.Fixing.{fix_scene}
use Rattle.snap_fix.proofs.FixedStripeLemmas.{fits_with}
use Rattle.snap_fix.proofs.FixIntoLemmas.{into_more, into_none, into_not, into_whole, still_underway}
use Rattle.snap_fix.proofs.WindowShownLemmas.{ascending_shown, many_shown, shows_at}
use Rattle.file_restorer.proofs.GoesOnLemmas.{handed_on}
use Rattle.snap_fix.proofs.fixes.fix_into.Goals as goal

pub loop-i-init : goal.loop-i-init
loop-i-init g c = record {
  mends = λ all spare shows is_for. into_none _ _ _ (seen c.args.stretch.now.plan) _ _
      (fits_with _ _ _ _ _ _ nothing spare _ _ c.requires.fits is_for) (record { counts = record { found = refl; left = refl }; blocks = refl; parities = refl });
  block = refl;
}

pub fix_stripe-requires-clause-fits : goal.fix_stripe-requires-clause-fits
fix_stripe-requires-clause-fits g c κs within = (c.loop-i.invariant.mends c.requires.shown.0 nothing c.requires.shown.1 (inl refl)).mends.fits

pub fix_stripe-requires-clause-underway : goal.fix_stripe-requires-clause-underway
fix_stripe-requires-clause-underway g c κs within =
    still_underway _ _ _ _ _ _ _ _ c.requires.underway (c.loop-i.invariant.mends c.requires.shown.0 nothing c.requires.shown.1 (inl refl)).mends

pub loop-i-preserved : goal.loop-i-preserved
loop-i-preserved g c =
    let plan = seen c.args.stretch.now.plan in
    let i = c.loop-i.i in
    let own = c.index-rooms-i.result in
    record {
      mends = λ all spare shows is_for.
          let within : i < length all = omega (arith, many_shown plan all _ _ _ shows, shows.count, c.count-i-end.ensures, c.loop-i-test.true) in
          let old = fix_scene c.args.progress.now.starts c.args.progress.now.states c.args.progress.now.written.items (map g.F.Folder.view c.args.folders.now) (g.V.Vault.view c.args.vault.now) spare c.args.lines.now c.args.reports.now.items in
          let mid = fix_scene c.loop-i.progress.starts c.loop-i.progress.states c.loop-i.progress.written.items (map g.F.Folder.view c.loop-i.folders) (g.V.Vault.view c.loop-i.vault) spare c.loop-i.lines c.loop-i.reports.items in
          let it = c.fix_stripe.new in
          let new = fix_scene it.progress.starts it.progress.states it.progress.written.items (map g.F.Folder.view it.folders) (g.V.Vault.view it.vault) spare it.lines it.reports.items in
          into_more _ _ _ plan all (ascending_shown plan all _ _ _ shows c.requires.ascending) i within c.loop-i.totals old mid (c.loop-i.invariant.mends all spare shows is_for)
          c.in_ok-more.more c.and-totals.result new (c.and-totals.ensures plan)
          (c.in_ok-more.ensures.fixed (facts_at all i) spare (shows_at plan all _ _ _ shows i within own c.index-rooms-i.is) is_for);
      block = c.fix_stripe.auto.block ∙ c.loop-i.invariant.block;
    }

pub returns-in_err-more-clause-broke : goal.returns-in_err-more-clause-broke
returns-in_err-more-clause-broke g c =
    let plan = seen c.args.stretch.now.plan in
    let i = c.loop-i.i in
    let own = c.index-rooms-i.result in
    let fault = c.in_err-more.field-0.0 in
    handed_on c.from_residual.result _ fault c.from_residual.ensures.1
    (λ all spare shows is_for.
    let within : i < length all = omega (arith, many_shown plan all _ _ _ shows, shows.count, c.count-i-end.ensures, c.loop-i-test.true) in
    let old = fix_scene c.args.progress.now.starts c.args.progress.now.states c.args.progress.now.written.items (map g.F.Folder.view c.args.folders.now) (g.V.Vault.view c.args.vault.now) spare c.args.lines.now c.args.reports.now.items in
    let mid = fix_scene c.loop-i.progress.starts c.loop-i.progress.states c.loop-i.progress.written.items (map g.F.Folder.view c.loop-i.folders) (g.V.Vault.view c.loop-i.vault) spare c.loop-i.lines c.loop-i.reports.items in
    let it = c.fix_stripe.new in
    let new = fix_scene it.progress.starts it.progress.states it.progress.written.items (map g.F.Folder.view it.folders) (g.V.Vault.view it.vault) spare it.lines it.reports.items in
    into_not _ _ _ plan all (ascending_shown plan all _ _ _ shows c.requires.ascending) i within c.loop-i.totals old mid (c.loop-i.invariant.mends all spare shows is_for) new fault
    (c.in_err-more.ensures.broke (facts_at all i) spare (shows_at plan all _ _ _ shows i within own c.index-rooms-i.is))
    (fits_with plan _ _ _ _ _ nothing spare _ _ c.requires.fits is_for))

pub returns-clause-fixed : goal.returns-clause-fixed
returns-clause-fixed g c all spare shows is_for =
    let plan = seen c.args.stretch.now.plan in
    let i = c.loop-i.i in
    let old = fix_scene c.args.progress.now.starts c.args.progress.now.states c.args.progress.now.written.items (map g.F.Folder.view c.args.folders.now) (g.V.Vault.view c.args.vault.now) spare c.args.lines.now c.args.reports.now.items in
    let mid = fix_scene c.loop-i.progress.starts c.loop-i.progress.states c.loop-i.progress.written.items (map g.F.Folder.view c.loop-i.folders) (g.V.Vault.view c.loop-i.vault) spare c.loop-i.lines c.loop-i.reports.items in
    into_whole _ _ _ plan all i c.loop-i.totals old mid (omega (arith, many_shown plan all _ _ _ shows, shows.count, c.count-i-end.ensures, c.loop-i-test.false))
    (c.loop-i.invariant.mends all spare shows is_for)
