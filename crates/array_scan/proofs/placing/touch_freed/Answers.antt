use Rattle.std.proofs.Common.{◌≡◌, ℕ, ◌+◌, ◌<◌, List, [], ◌∷◌, ◌++◌, Bool, true, false, cond, length, get_or, set, take, ap, sym, ◌∙◌, subst, append_assoc, arith}
use Rattle.std.proofs.lemmas.List.{take_all, append-nil, get_or_default}
use Rattle.file_table.specs.declared.block.Block.{Block}
use Rattle.file_table.specs.Table.{positions_of, no_block}
use Rattle.array_scan.specs.Marks.{AreTouched}
use Rattle.array_scan.proofs.PlacingLemmas.{unheld, unheld-push, positions-more, touched_one, below_at}
use Rattle.array_scan.proofs.placing.touch_freed.Goals as goal
use Rattle.array_scan.proofs.placing.touch_freed.Goals.{then-not-held-at, else-not-held-at}

pub loop-block-preserved : goal.loop-block-preserved
loop-block-preserved c =
    λ touched are.
    let blocks = c.args.blocks.now in
    let held = c.args.held.now in
    let i = c.loop-block.block-index in
    let block : Block = get_or blocks i no_block in
    let p : ℕ = block.position in
    let within : i < length blocks = c.loop-block-test.true in
    let is : block ≡ get_or blocks i block = get_or_default blocks i no_block block within in
    let marks = c.loop-block.marks in
    let below : p < length marks = omega (arith, below_at (length held) blocks i block c.requires.below within is, c.requires.long) in
    let so_far = unheld held (positions_of (take i blocks)) in
    let now = unheld held (positions_of (take (i + 1) blocks)) in
    let more : now ≡ so_far ++ cond (get_or held p false) [] (p ∷ []) = ap (unheld held) (positions-more blocks i block within is) ∙ unheld-push held (positions_of (take i blocks)) p in
    elim c.if-not-held-at.branch [
      | then-not-held-at w ↦
          let all : (touched ++ so_far) ++ p ∷ [] ≡ touched ++ now =
          append_assoc touched so_far (p ∷ []) ∙ ap (λ (qs : List ℕ). touched ++ qs) (sym (more ∙ ap (λ (t : Bool). so_far ++ cond t [] (p ∷ [])) w.if-not-held-at.true)) in
          subst (λ (ms : List Bool). AreTouched ms (touched ++ now)) (sym w.marks-is)
          (subst (AreTouched (set marks p true)) all (touched_one marks (touched ++ so_far) p below (c.loop-block.invariant touched are)))
      | else-not-held-at w ↦
          let all : touched ++ so_far ≡ touched ++ now =
          ap (λ (qs : List ℕ). touched ++ qs) (sym (more ∙ ap (λ (t : Bool). so_far ++ cond t [] (p ∷ [])) w.if-not-held-at.false ∙ append-nil so_far)) in
          subst (λ (ms : List Bool). AreTouched ms (touched ++ now)) (sym w.marks-is) (subst (AreTouched marks) all (c.loop-block.invariant touched are))
    ]

pub returns : goal.returns
returns c =
    λ touched are.
    subst (λ (bs : List Block). AreTouched c.loop-block.marks (touched ++ unheld c.args.held.now (positions_of bs))) (take_all c.loop-block.block-index c.args.blocks.now c.loop-block-test.false)
    (c.loop-block.invariant touched are)
