use Rattle.std.proofs.Common.{◌≡◌, IsTrue, false, true, List, ℕ, refl}
use Rattle.disk_model.specs.Path.{EndsWith, lost_suffix}
use Rattle.disk_model.proofs.RecordPathLemmas.{last_part, bad_part, more_parts}
use Rattle.disk_model.proofs.record_path.has_no_lost_part.Goals as goal

abbrev IsNoLost : List ℕ → Type 0
IsNoLost part = ¬ (EndsWith lost_suffix part)

pub returns-then-is_lost : goal.returns-then-is_lost
returns-then-is_lost c =
    let lost = c.is_lost.ensures.0 c.if-is_lost.true in
    let bad = bad_part IsNoLost c.args.bytes.now c.loop-rest.rest.now _ _ c.loop-rest.invariant c.first_slash-end.ensures c.split_at.ensures.front (λ no. no lost) in
    (λ (is : false ≡ true). absurd (cc), λ all. absurd (bad all))

pub returns-then-end-length : goal.returns-then-end-length
returns-then-end-length c =
    let free : ¬ (EndsWith lost_suffix c.split_at.result.0.now) = λ lost. let is : IsTrue c.is_lost.result = c.is_lost.ensures.1 lost in cc in (
      λ _. last_part IsNoLost c.args.bytes.now c.loop-rest.rest.now _ _ c.loop-rest.invariant c.first_slash-end.ensures c.split_at.ensures.front c.if-end-length.true free,
      λ _. refl,
    )

pub loop-rest-preserved : goal.loop-rest-preserved
loop-rest-preserved c =
    let free : ¬ (EndsWith lost_suffix c.split_at.result.0.now) = λ lost. let is : IsTrue c.is_lost.result = c.is_lost.ensures.1 lost in cc in
    let more = more_parts IsNoLost c.args.bytes.now c.loop-rest.rest.now _ _ c.loop-rest.invariant c.first_slash-end.ensures c.split_at.ensures.front c.if-end-length.false free in
    rw c.split_at-in-loop-rest.ensures.back more
