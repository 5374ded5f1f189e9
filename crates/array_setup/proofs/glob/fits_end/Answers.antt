use Rattle.std.proofs.Common.{sym, ◌∙◌}
use Rattle.array_setup.proofs.GlobLemmas.{end-done, end-short, end-other, end-next}
use Rattle.array_setup.proofs.glob.fits_end.Goals as goal

pub returns-in_default-last_of : goal.returns-in_default-last_of
returns-in_default-last_of c =
    sym (end-short c.args.part.now c.args.name.now c.loop-before.wanted.now c.loop-before.rest.now _ _ c.loop-before.invariant c.in-Some.ensures.chars c.in_default-last_of.ensures)

pub returns-then-not-stands_for : goal.returns-then-not-stands_for
returns-then-not-stands_for c =
    sym (end-other c.args.part.now c.args.name.now c.loop-before.wanted.now c.loop-before.rest.now _ _ _ _ c.loop-before.invariant c.in-Some.ensures.chars c.in-Some-last_of.ensures.chars (sym c.if-not-stands_for.ensures))

pub loop-before-preserved : goal.loop-before-preserved
loop-before-preserved c =
    end-next c.args.part.now c.args.name.now c.loop-before.wanted.now c.loop-before.rest.now _ _ _ _ c.loop-before.invariant c.in-Some.ensures c.in-Some-last_of.ensures (sym c.stands_for.ensures ∙ c.if-not-stands_for.false)

pub returns : goal.returns
returns c = sym (end-done c.args.part.now c.args.name.now c.loop-before.wanted.now c.loop-before.rest.now c.loop-before.invariant c.in_default.ensures)
