use Rattle.std.proofs.Common.{Ok, Bool, ◌∙◌, subst}
use Rattle.std.proofs.lemmas.Slice.Eq.{bytes_eq-Decides}
use Rattle.stripe_examiner.specs.Spare.{IsSpareCall}
use Rattle.stripe_examiner.proofs.AskingLemmas.{asked_and_given, asked_and_none}
use Rattle.stripe_examiner.proofs.marking.ask.Goals as goal

pub returns-then-held-clause-asks : goal.returns-then-held-clause-asks
returns-then-held-clause-asks g c =
    let old = g.P.Spare.holding c.args.spare.now in
    let new = g.P.Spare.holding c.block.new.self in
    asked_and_given c.args.shape c.args.hash c.block.new.out _ old new c.block.ensures.size c.eq.result c.requires.spare
    (λ same. c.eq.ensures ∙ (bytes_eq-Decides c.digest.result.0 c.args.hash.0).1 (c.digest.ensures ∙ same))
    (subst (λ (held : Bool). IsSpareCall c.args.hash c.block.new.out (Ok held) old new) c.if-held.true c.in-Ok.ensures.call)

pub returns-else-held-clause-asks : goal.returns-else-held-clause-asks
returns-else-held-clause-asks g c =
    let old = g.P.Spare.holding c.args.spare.now in
    let new = g.P.Spare.holding c.block.new.self in
    rw (c.if-held.false)
    (asked_and_none c.args.shape c.args.hash c.block.new.out _ old new c.block.ensures.size
    (subst (λ (held : Bool). IsSpareCall c.args.hash c.block.new.out (Ok held) old new) c.if-held.false c.in-Ok.ensures.call))
