use Rattle.std.proofs.Common.{◌≡◌, ◌+◌, ◌*◌, ℕ, subst, arith}
use Rattle.cauchy.specs.Elimination.{entries}
use Rattle.cauchy.specs.Solving.{RecoversWithin}
use Rattle.cauchy.proofs.SolvingLemmas.{RecoversWithin-then}
use Rattle.cauchy.proofs.recovery.groups.recover_groups.Goals as goal

pub loop-group-preserved : goal.loop-group-preserved
loop-group-preserved c =
    let start : ℕ = 32 * c.loop-group.group in
    let next : start + 32 ≡ 32 * (c.loop-group.group + 1) = omega arith in
    let m = entries c.args.inverse.now in
    record {
      done =
          subst (λ (end : ℕ). RecoversWithin 0 end c.args.count c.args.block c.args.count m c.args.work.now c.recover_group.new.work) next
          (RecoversWithin-then 0 start (start + 32) c.args.block c.args.count m c.args.work.now c.loop-group.work c.recover_group.new.work
          (omega arith) (omega arith) (omega arith) c.loop-group.invariant.done (c.recover_group.ensures m c.tables_of-tables.ensures));
      given = c.loop-group.invariant.given;
    }
