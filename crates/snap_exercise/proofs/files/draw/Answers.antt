use Rattle.std.proofs.Common.{◌≡◌, ◌∙◌, ℕ, length, drop, ap, arith}
use Rattle.snap_exercise.specs.Generated.{drawn, turned_if}
use Rattle.snap_exercise.proofs.GeneratedLemmas.{written_back}
use Rattle.snap_exercise.proofs.files.draw.Goals as goal

pub returns-clause-bytes : goal.returns-clause-bytes
returns-clause-bytes c =
    let long : length c.as_mut_slice.result.now ≡ c.args.size = c.as_mut_slice.ensures.len ∙ c.in_ok-bytes.ensures.len in
    written_back c.in_ok-bytes.bytes.len c.fill.new.bytes (drop (length c.fill.new.bytes) c.in_ok-bytes.bytes.items) (omega (arith, long, c.fill.auto.bytes, c.in_ok-bytes.ensures.len))
    ∙ c.fill.ensures.bytes ∙ ap (λ (n : ℕ). turned_if c.args.turns (drawn n c.args.rng.now).0) long

pub returns-clause-rng : goal.returns-clause-rng
returns-clause-rng c =
    let long : length c.as_mut_slice.result.now ≡ c.args.size = c.as_mut_slice.ensures.len ∙ c.in_ok-bytes.ensures.len in
    c.fill.ensures.rng ∙ ap (λ (n : ℕ). (drawn n c.args.rng.now).1) long
