use Rattle.std.proofs.Common.{ℕ, List, refl, ap, ◌∙◌}
use Rattle.md5.specs.Md5.{add32, add_state, compress, rounds}
use Rattle.md5_lanes.specs.Lanes.{lane}
use Rattle.md5_lanes.proofs.LaneLemmas.{own_lanes, zip_lanes}
use Rattle.md5_lanes.proofs.RoundLemmas.{four_same}
use Rattle.md5_lanes.proofs.rounds.compress.Goals as goal

pub invariant_of-result : goal.invariant_of-result
invariant_of-result c =
    let s = c.args.state in
    let v = c.all_steps-v.result in record {
      eight = (
        (zip_lanes add32 (own_lanes s.a s.eight.0) (own_lanes v.a v.eight.0)).len,
        (zip_lanes add32 (own_lanes s.b s.eight.1) (own_lanes v.b v.eight.1)).len,
        (zip_lanes add32 (own_lanes s.c s.eight.2) (own_lanes v.c v.eight.2)).len,
        (zip_lanes add32 (own_lanes s.d s.eight.3) (own_lanes v.d v.eight.3)).len,
      );
    }

pub returns : goal.returns
unfolding compress rounds
returns c = λ i lt.
    let s = c.args.state in
    let v = c.all_steps-v.result in
    let h = lane s i in
    four_same
    ((zip_lanes add32 (own_lanes s.a s.eight.0) (own_lanes v.a v.eight.0)).at i lt)
    ((zip_lanes add32 (own_lanes s.b s.eight.1) (own_lanes v.b v.eight.1)).at i lt)
    ((zip_lanes add32 (own_lanes s.c s.eight.2) (own_lanes v.c v.eight.2)).at i lt)
    ((zip_lanes add32 (own_lanes s.d s.eight.3) (own_lanes v.d v.eight.3)).at i lt)
    ∙ ap (add_state h) (c.all_steps-v.ensures h i lt refl ∙ ap (λ (w : List ℕ). rounds h w 64) (c.load-words.ensures i lt))
