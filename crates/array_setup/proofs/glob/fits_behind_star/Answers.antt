use Rattle.std.proofs.Common.{sym, rules, arith}
use Rattle.array_setup.proofs.TextLemmas.{has_byte-chars}
use Rattle.array_setup.proofs.GlobLemmas.{behind-none, behind-next}
use Rattle.array_setup.proofs.glob.fits_behind_star.Goals as goal

pub returns-in_default-first_strip : goal.returns-in_default-first_strip
returns-in_default-first_strip c =
    sym (behind-none c.args.pattern.now c.args.name.now c.loop-part.parts.now c.loop-part.rest.now _ _ c.loop-part.invariant c.in-Some.ensures c.in_default-first_strip.ensures)

pub loop-part-preserved : goal.loop-part-preserved
loop-part-preserved c =
    behind-next c.args.pattern.now c.args.name.now c.loop-part.parts.now c.loop-part.rest.now _ _ _ c.loop-part.invariant c.in-Some.ensures (search rules) c.in-Some-first_strip.ensures

pub fits_end-requires-clause-plain : goal.fits_end-requires-clause-plain
fits_end-requires-clause-plain c = has_byte-chars 42 c.loop-part.parts.now c.loop-part.invariant.parts_text (omega arith) c.in_default.ensures
