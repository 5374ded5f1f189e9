use Rattle.std.proofs.Common.{◌≡◌, ◌≢◌, [], length, true, sym, ◌∙◌, ap, arith}
use Rattle.std.proofs.lemmas.Bool.Decides.{nat_tests}
use Rattle.std.proofs.lemmas.List.{nil_from_length}
use Rattle.array_setup.specs.Glob.{fits_text}
use Rattle.array_setup.specs.Walk.{IsCut}
use Rattle.array_setup.proofs.PathLemmas.{below_left-done, below_left-short, below_left-long, below_left-last, below_left-next, below_left-other}
use Rattle.array_setup.proofs.matching.fits_below.Goals as goal

pub returns-in-None-None : goal.returns-in-None-None
returns-in-None-None c =
    c.fits.ensures ∙ sym (below_left-done c.args.pattern.now c.args.path.now c.loop-part.wanted.now c.loop-part.rest.now c.loop-part.invariant c.in-None-None.ensures)

pub returns-then-not-fits : goal.returns-then-not-fits
returns-then-not-fits c =
    sym (below_left-other c.args.pattern.now c.args.path.now c.loop-part.wanted.now c.loop-part.rest.now _ _ _ _ c.loop-part.invariant c.in-Some-Some.ensures c.in-Some-Some.ensures' (sym c.if-not-fits.ensures))

pub returns-then-is_empty : goal.returns-then-is_empty
returns-then-is_empty c =
    let none : c.in-Some-Some.wanted_after.now ≡ [] = nil_from_length c.in-Some-Some.wanted_after.now (grind (arith, nat_tests)) in
    let last : IsCut 47 c.loop-part.wanted.now c.in-Some-Some.part.now [] = rw none at c.in-Some-Some.ensures in
    let fitted : fits_text c.in-Some-Some.part.now c.in-Some-Some.component.now ≡ true = sym c.if-not-fits.ensures in
    sym (below_left-last c.args.pattern.now c.args.path.now c.loop-part.wanted.now c.loop-part.rest.now _ _ _ c.loop-part.invariant last c.in-Some-Some.ensures' ∙ fitted)

pub loop-part-preserved : goal.loop-part-preserved
loop-part-preserved c =
    let some : c.in-Some-Some.wanted_after.now ≢ [] = (λ is. let none : length c.in-Some-Some.wanted_after.now ≡ 0 = ap length is in grind (arith, nat_tests)) in
    let fitted : fits_text c.in-Some-Some.part.now c.in-Some-Some.component.now ≡ true = sym c.if-not-fits.ensures in
    below_left-next c.args.pattern.now c.args.path.now c.loop-part.wanted.now c.loop-part.rest.now _ _ _ _ c.loop-part.invariant c.in-Some-Some.ensures some c.in-Some-Some.ensures' fitted

pub returns-in_default : goal.returns-in_default
returns-in_default c =
    sym (below_left-short c.args.pattern.now c.args.path.now c.loop-part.wanted.now c.loop-part.rest.now _ _ c.loop-part.invariant c.in_default.ensures c.in_default.ensures')

pub returns-in_default-2 : goal.returns-in_default-2
returns-in_default-2 c =
    sym (below_left-long c.args.pattern.now c.args.path.now c.loop-part.wanted.now c.loop-part.rest.now _ _ c.loop-part.invariant c.in_default.ensures c.in_default.ensures')
