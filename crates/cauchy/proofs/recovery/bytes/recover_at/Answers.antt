use Rattle.std.proofs.Common.{◌≡◌, ◌+◌, ◌*◌, ℕ, get_or, set, refl, ap, ◌∙◌, arith}
use Rattle.cauchy.specs.Elimination.{entries}
use Rattle.cauchy.specs.Solving.{recovered}
use Rattle.cauchy.specs.System.{byte_in}
use Rattle.cauchy.proofs.PlaceLemmas.{place_within}
use Rattle.cauchy.proofs.SolvingLemmas.{RecoversWithin-column, StoresFrom-set, recovered-same}
use Rattle.cauchy.proofs.recovery.bytes.recover_at.Goals as goal

pub loop-j-preserved : goal.loop-j-preserved
loop-j-preserved c =
    let j = c.loop-j.j in
    let p = c.args.p in
    let block = c.args.block in
    let old = c.args.work.now in
    let m = entries c.args.inverse.now in
    let place : ℕ = j * block + p in
    let within = place_within c.loop-j.work c.args.count block j p (c.loop-j.auto.work ∙ c.requires.size) c.loop-j-test.true c.requires.place in
    RecoversWithin-column p (p + 1) 1 block c.args.count j m old c.loop-j.work (set c.loop-j.work place c.recovered_byte.result)
    (λ k. c.recovered_byte.result) (omega arith) refl c.loop-j-test.true
    (StoresFrom-set place c.recovered_byte.result c.loop-j.work within)
    (λ k l.
    let here : p ≡ p + k = omega arith in
    c.recovered_byte.ensures ∙ ap (λ (n : ℕ). recovered m n (λ i. get_or c.bytes_at-given.result.items i 0) j) c.bytes_at-given.ensures.long
    ∙ recovered-same m c.args.count (λ i. get_or c.bytes_at-given.result.items i 0) (byte_in block old p) j c.bytes_at-given.ensures.made
    ∙ ap (λ (q : ℕ). recovered m c.args.count (byte_in block old q) j) here)
    c.loop-j.invariant
