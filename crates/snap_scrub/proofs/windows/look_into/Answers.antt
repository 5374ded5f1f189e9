use Rattle.std.proofs.Common.{◌≡◌, ◌+◌, ◌<◌, List, get_or, length, set, take, refl, ap, ◌∙◌, subst, sym, arith}
use Rattle.std.proofs.lemmas.List.{length-set, take_more_set}
use Rattle.parity_writer.specs.WindowRow.{row_at}
use Rattle.parity_writer.specs.declared.summing.Sums.{Sums}
use Rattle.parity_writer.specs.Summing.{HoldSums}
use Rattle.snap_scrub.proofs.LookingLemmas.{into_none, into_more}
use Rattle.snap_scrub.proofs.windows.look_into.Goals as goal

pub loop-i-init : goal.loop-i-init
loop-i-init g c = record {
  looks = into_none _ _ _ _ _ _ _ _ refl;
  check = record { room = c.requires.check; sums = refl };
  many = refl;
  levels = c.requires.levels;
}

pub look_at-found-requires-clause-sums : goal.look_at-found-requires-clause-sums
look_at-found-requires-clause-sums g c κs lives =
    let i = c.loop-i.i in
    let table = c.args.batch.now.table.now in
    let below : i < length c.args.batch.now.stripes.now = omega (arith, c.requires.holds.count, c.count-i-end.ensures, c.loop-i-test.true) in
    let has = c.requires.sums i below in
    let same : c.loop-i.check.sums.items ≡ c.args.check.now.sums.items = ap (λ sums. sums.items) c.loop-i.invariant.check.sums in
    record {
      there = omega (arith, has.there, ap length same);
      hold = λ other. subst (λ (all : List Sums). HoldSums table.shape.block_size (row_at c.args.batch.now.window.now i) table.shape.levels (get_or all i other).blocks.items) (sym same) (has.hold other);
    }

pub loop-i-preserved : goal.loop-i-preserved
loop-i-preserved g c =
    let i = c.loop-i.i in
    let so_far = c.loop-i.invariant in
    let verdict = c.verdict.result in
    let verdicts = c.loop-i.verdicts in
    let within : i < length verdicts = omega (arith, c.requires.verdicts, c.requires.holds.count, so_far.many, c.count-i-end.ensures, c.loop-i-test.true) in
    let one = c.look_at-found.ensures.looks in
    let kept = c.look_at-found.ensures.check in
    record {
      looks = into_more _ _ _ _ c.args.batch.now.stripes.now c.args.batch.now.window.now i (take i verdicts) (take (i + 1) (set verdicts i verdict)) verdict
          c.loop-i.findings c.saturating_add-findings.result c.look_at-found.result _ _ _
          (take_more_set verdicts i verdict within)
          c.verdict.ensures (omega (arith, c.saturating_add-findings.ensures, c.from.ensures)) so_far.looks one;
      check = record { room = kept.room; sums = kept.sums ∙ so_far.check.sums };
      many = length-set verdicts i verdict ∙ so_far.many;
      levels = one.levels.goes_on.levels ∙ so_far.levels;
    }
