use Rattle.std.proofs.Common.{◌≡◌, ℕ, ◌<◌, rules, ap, subst, arith}
use Rattle.file_table.specs.declared.shape.Shape.{Shape}
use Rattle.parity_writer.specs.Parity.{Row}
use Rattle.snap_report.proofs.ToldLemmas.{told_nothing}
use Rattle.snap_scrub.specs.Levels.{kept_events, kept_events_at}
use Rattle.snap_scrub.proofs.FoundLemmas.{found_as}
use Rattle.snap_scrub.proofs.LevelLemmas.{sum_in}
use Rattle.stripe_findings.proofs.TellingLemmas.{told_as}
use Rattle.snap_scrub.proofs.TellingLemmas.{events_more, told_more}
use Rattle.snap_scrub.proofs.levels.tell_levels.Goals as goal

pub loop-r-init : goal.loop-r-init
loop-r-init g c = record { told = λ row holds. told_nothing _ _ _ _ _ _; found = λ row holds. c.nothing-found.ensures; few = search rules }

pub loop-r-preserved : goal.loop-r-preserved
loop-r-preserved g c =
    let levels = c.args.levels.now in
    let at = λ (row : Row). kept_events_at levels.block_size c.args.stripe row levels in
    let r = c.loop-r.r in
    let below : r < c.args.table.now.shape.levels = subst (λ (n : ℕ). r < n) (ap (λ (it : Shape). it.levels) c.shape-r-end.ensures.shape) c.loop-r-test.true in
    record {
      told = λ row holds. told_more _ _ _ _ (at row) r _ _ _ _ _ _ (c.loop-r.invariant.told row holds) (c.tell_level-here.ensures.told row (sum_in c.args.sums.now levels.block_size r row c.requires.sums (holds r below)));
      found = λ row holds. found_as _ _ _ (events_more (at row) r) (c.both-found.ensures.found _ _ (c.loop-r.invariant.found row holds) (c.tell_level-here.ensures.found row (sum_in c.args.sums.now levels.block_size r row c.requires.sums (holds r below))));
      few = omega (arith, c.loop-r.invariant.few, c.tell_level-here.ensures.few, c.both-found.ensures.count);
    }

pub returns-clause-told : goal.returns-clause-told
returns-clause-told g c =
    let levels = c.args.levels.now in
    let all : c.args.table.now.shape.levels ≡ c.loop-r.r = omega (arith, ap (λ (it : Shape). it.levels) c.shape-r-end.ensures.shape, c.loop-r-test.false, c.loop-r.auto.r-end) in
    λ row holds. told_as _ _ _ _ _ _ _ _ _ _ (ap (λ (n : ℕ). kept_events levels.block_size c.args.stripe row levels n) all) (c.loop-r.invariant.told row holds)

pub returns-clause-found : goal.returns-clause-found
returns-clause-found g c =
    let levels = c.args.levels.now in
    let all : c.args.table.now.shape.levels ≡ c.loop-r.r = omega (arith, ap (λ (it : Shape). it.levels) c.shape-r-end.ensures.shape, c.loop-r-test.false, c.loop-r.auto.r-end) in
    λ row holds. found_as _ _ _ (ap (λ (n : ℕ). kept_events levels.block_size c.args.stripe row levels n) all) (c.loop-r.invariant.found row holds)
