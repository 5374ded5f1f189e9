use Rattle.std.proofs.Common.{◌≡◌, ◌+◌, ℕ, get_or, refl, ◌∙◌, subst, arith}
use Rattle.cauchy.specs.Elimination.{cell}
use Rattle.cauchy.specs.Solving.{RecoversWithin}
use Rattle.cauchy.specs.System.{byte_in}
use Rattle.cauchy.proofs.SolvingLemmas.{RecoversWithin-column, recovered-same}
use Rattle.cauchy.proofs.recovery.groups.recover_group.Goals as goal

pub loop-j-preserved : goal.loop-j-preserved
loop-j-preserved c =
    λ m are.
    RecoversWithin-column c.args.p (c.args.p + 32) 32 c.args.block c.args.count c.loop-j.j m c.args.work.now c.loop-j.work c.store.new.out
    (λ k. get_or c.recovered_lanes.result k 0) c.requires.place refl c.loop-j-test.true c.store.ensures
    (λ k l.
    (c.recovered_lanes.ensures m are).each k l
    ∙ recovered-same m c.args.count (λ i. cell c.lanes_at-given.result i k) (byte_in c.args.block c.args.work.now (c.args.p + k)) c.loop-j.j
    (λ i hi. (c.lanes_at-given.ensures i hi).each k l))
    (c.loop-j.invariant m are)

pub returns : goal.returns
returns c =
    λ m are.
    let done : c.loop-j.j ≡ c.args.count = omega arith in
    subst (λ (j : ℕ). RecoversWithin c.args.p (c.args.p + 32) j c.args.block c.args.count m c.args.work.now c.loop-j.work) done (c.loop-j.invariant m are)
