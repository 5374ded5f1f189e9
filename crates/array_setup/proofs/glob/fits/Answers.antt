use Rattle.std.proofs.Common.{IsUtf8, sym, ◌∙◌, rules}
use Rattle.array_setup.proofs.TextLemmas.{no_bytes}
use Rattle.array_setup.proofs.GlobLemmas.{text-done, text-short, text-star, text-none, text-plain}
use Rattle.array_setup.proofs.glob.fits.Goals as goal

pub fits_behind_star-requires : goal.fits_behind_star-requires
fits_behind_star-requires c = text-plain c.args.name.now c.in-Some.part.now c.in-Some-strip-2.rest.now c.utf8.name c.requires c.in-Some-strip-2.ensures

pub returns-in-Some-strip : goal.returns-in-Some-strip
returns-in-Some-strip c =
    let utf8 : IsUtf8 c.in-Some-strip.rest.now = search rules in
    c.is_empty.ensures ∙ no_bytes c.in-Some-strip.rest.now utf8 ∙ sym (text-done c.args.pattern.now c.args.name.now c.in-Some-strip.rest.now c.utf8.pattern c.in-None.ensures c.in-Some-strip.ensures)

pub returns-in-None-strip : goal.returns-in-None-strip
returns-in-None-strip c = sym (text-short c.args.pattern.now c.args.name.now c.utf8.pattern c.in-None.ensures c.in-None-strip.ensures)

pub returns-in-Some-strip-2 : goal.returns-in-Some-strip-2
returns-in-Some-strip-2 c =
    c.fits_behind_star.ensures ∙ sym (text-star c.args.pattern.now c.args.name.now c.in-Some.part.now c.in-Some.after.now c.in-Some-strip-2.rest.now c.in-Some.ensures c.in-Some-strip-2.ensures)

pub returns-in-None-strip-2 : goal.returns-in-None-strip-2
returns-in-None-strip-2 c = sym (text-none c.args.pattern.now c.args.name.now c.in-Some.part.now c.in-Some.after.now c.in-Some.ensures c.in-None-strip-2.ensures)
