use Rattle.std.proofs.Common.{◌≡◌, ◌+◌, ◌-◌, ◌*◌, List, [], take, get_or, subst, arith}
use Rattle.std.proofs.lemmas.List.{take_all}
use Rattle.parity_writer.specs.Parity.{Row}
use Rattle.stripe_examiner.specs.declared.search.Wanted.{Wanted}
use Rattle.stripe_examiner.specs.Known.{AreRemainders}
use Rattle.stripe_examiner.specs.Restorable.{filled}
use Rattle.stripe_examiner.proofs.TakenLemmas.{next_below, next_empty, next_filled}
use Rattle.stripe_examiner.proofs.finding.take_found.Goals as goal

pub loop-j-preserved : goal.loop-j-preserved
loop-j-preserved c row missing are =
    let levels = c.args.levels.now in
    let size = c.args.size in
    let wanted = c.args.wanted.now in
    let blocks = c.args.blocks.now in
    let j = c.loop-j.j in
    let start = j * size in
    let other : Wanted = record { column = 0; length = 0; hash = record { 0 = [] } } in
    let one : Wanted = get_or wanted j other in
    let real : start + one.length - start ≡ one.length = omega arith in
    subst (λ (it : Row). AreRemainders size it (take levels.count levels.levels) c.take_block.new.remainders)
    (next_filled size wanted blocks row missing j other c.loop-j-test.true (start + one.length - start) real)
    (c.take_block.ensures.left (filled size blocks (take j wanted) row)
    (next_below size wanted blocks row missing j other c.loop-j-test.true)
    (next_empty size wanted blocks row missing j other c.loop-j-test.true)
    (c.loop-j.invariant row missing are))

pub returns-clause-left : goal.returns-clause-left
returns-clause-left c row missing are =
    let levels = c.args.levels.now in
    subst (λ (wanted : List Wanted). AreRemainders c.args.size (filled c.args.size c.args.blocks.now wanted row) (take levels.count levels.levels) c.loop-j.remainders)
    (take_all c.loop-j.j c.args.wanted.now (omega (arith, c.loop-j-test.false))) (c.loop-j.invariant row missing are)
