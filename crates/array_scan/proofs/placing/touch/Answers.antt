use Rattle.std.proofs.Common.{◌≡◌, ℕ, ◌+◌, ◌<◌, List, [], ◌∷◌, ◌++◌, Bool, true, length, get_or, set, take, ap, sym, ◌∙◌, subst, append_assoc}
use Rattle.std.proofs.lemmas.List.{take_all, take_more}
use Rattle.array_scan.specs.Marks.{AreTouched}
use Rattle.array_scan.proofs.PlacingLemmas.{touched_one, touched_past}
use Rattle.array_scan.proofs.placing.touch.Goals as goal
use Rattle.array_scan.proofs.placing.touch.Goals.{then-at-marks, else-at-marks}

pub loop-position-preserved : goal.loop-position-preserved
loop-position-preserved c =
    λ touched are.
    let ps = c.args.positions.now in
    let i = c.loop-position.position-index in
    let p : ℕ = get_or ps i 0 in
    let within : i < length ps = c.loop-position-test.true in
    let so_far = c.loop-position.invariant touched are in
    let more : (touched ++ take i ps) ++ p ∷ [] ≡ touched ++ take (i + 1) ps = append_assoc touched (take i ps) (p ∷ []) ∙ ap (λ (qs : List ℕ). touched ++ qs) (sym (take_more ps i 0 within)) in
    elim c.if-at-marks.branch [
      | then-at-marks w ↦
          subst (λ (ms : List Bool). AreTouched ms (touched ++ take (i + 1) ps)) (sym w.marks-is)
          (subst (AreTouched (set c.loop-position.marks p true)) more (touched_one c.loop-position.marks (touched ++ take i ps) p w.if-at-marks.true so_far))
      | else-at-marks w ↦
          subst (λ (ms : List Bool). AreTouched ms (touched ++ take (i + 1) ps)) (sym w.marks-is)
          (subst (AreTouched c.loop-position.marks) more (touched_past c.loop-position.marks (touched ++ take i ps) p w.if-at-marks.false so_far))
    ]

pub returns : goal.returns
returns c =
    λ touched are.
    subst (λ (ps : List ℕ). AreTouched c.loop-position.marks (touched ++ ps)) (take_all c.loop-position.position-index c.args.positions.now c.loop-position-test.false)
    (c.loop-position.invariant touched are)
