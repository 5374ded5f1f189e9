use Rattle.std.proofs.Common.{arith, sym, ◌∙◌}
use Rattle.hash_index.specs.Duplicates.{spots_of}
use Rattle.hash_index.proofs.LinkLemmas.{key_is, none_by_mark, none_to_end, next_by_key}
use Rattle.hash_index.proofs.links.next_same.Goals as goal

pub is_same-requires-clause-first : goal.is_same-requires-clause-first
is_same-requires-clause-first c = (key_is (spots_of c.args.records.now) c.args.keys.now c.args.place c.requires.keys c.requires.within).within

pub is_same-requires-clause-other : goal.is_same-requires-clause-other
is_same-requires-clause-other c = (key_is (spots_of c.args.records.now) c.args.keys.now c.loop-at.at c.requires.keys (omega (arith, c.loop-at-test.true))).within

pub returns-then-next-key : goal.returns-then-next-key
returns-then-next-key c =
    none_by_mark (spots_of c.args.records.now) c.args.keys.now c.args.place c.requires.keys c.requires.within
    c.loop-at.at (omega (arith, c.loop-at.auto.at)) (omega (arith, c.loop-at-test.true)) c.loop-at.invariant c.if-next-key.true

pub returns-then-is_same : goal.returns-then-is_same
returns-then-is_same c =
    next_by_key (spots_of c.args.records.now) c.args.keys.now c.args.place c.requires.keys c.requires.within
    c.loop-at.at (omega (arith, c.loop-at.auto.at)) (omega (arith, c.loop-at-test.true)) c.loop-at.invariant c.if-next-key.false (sym c.is_same.ensures ∙ c.if-is_same.true)

pub returns : goal.returns
returns c =
    none_to_end (spots_of c.args.records.now) c.args.keys.now c.args.place c.requires.keys c.requires.within
    (λ at after below. c.loop-at.invariant at after (omega (arith, c.loop-at-test.false, below)))
