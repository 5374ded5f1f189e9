use Rattle.std.proofs.Common.{sym, ◌∙◌}
use Rattle.array_setup.proofs.PathLemmas.{directory-fits, directory-next, directory-done}
use Rattle.array_setup.proofs.matching.fits_directory.Goals as goal

pub returns-then-fits : goal.returns-then-fits
returns-then-fits c =
    sym (directory-fits c.args.pattern.now c.args.path.now c.loop-component.rest.now _ _ c.loop-component.invariant c.in-Some.ensures (sym c.fits.ensures ∙ c.if-fits.true))

pub loop-component-preserved : goal.loop-component-preserved
loop-component-preserved c =
    directory-next c.args.pattern.now c.args.path.now c.loop-component.rest.now _ _ c.loop-component.invariant c.in-Some.ensures (sym c.fits.ensures ∙ c.if-fits.false)

pub returns : goal.returns
returns c = sym (directory-done c.args.pattern.now c.args.path.now c.loop-component.rest.now c.loop-component.invariant c.in_default.ensures)
