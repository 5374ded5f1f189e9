use Rattle.std.proofs.Common.{◌≡◌, ◌<◌, ◌+◌, true, length, get_or, set, drop, sym, ◌∙◌, subst, arith, nat_cmp}
use Rattle.std.specs.FinSet.{FinSet}
use Rattle.std.proofs.lemmas.List.{get_or_default}
use Rattle.file_table.specs.declared.block.Block.{Block}
use Rattle.file_table.specs.Table.{no_block}
use Rattle.array_scan.specs.Marks.{AreHeld, AreFree}
use Rattle.array_scan.proofs.PlacingLemmas.{held_one, block_held, below_at}
use Rattle.array_scan.proofs.PlacedLemmas.{first_free, rest_free}
use Rattle.array_scan.proofs.placing.hold_blocks.Goals as goal

pub mark-requires-clause-free : goal.mark-requires-clause-free
mark-requires-clause-free c =
    let blocks = c.args.blocks.now in
    let i = c.loop-block.block-index in
    let block : Block = get_or blocks i no_block in
    first_free c.loop-block.list blocks i block c.loop-block.invariant.2 c.loop-block-test.true (get_or_default blocks i no_block block c.loop-block-test.true)

pub loop-block-preserved : goal.loop-block-preserved
loop-block-preserved c =
    let blocks = c.args.blocks.now in
    let i = c.loop-block.block-index in
    let block : Block = get_or blocks i no_block in
    let within : i < length blocks = c.loop-block-test.true in
    let is : block ≡ get_or blocks i block = get_or_default blocks i no_block block within in
    let list = c.loop-block.list in
    let held = c.loop-block.held in
    let below : block.position < length held = omega (arith, below_at (length c.args.held.now) blocks i block c.requires.below within is) in
    let list_is = c.in_ok-mark.ensures.ok in (
      λ positions start. list_is ∙ block_held positions blocks i block list within is (c.loop-block.invariant.0 positions start),
      subst (λ (l : FinSet nat_cmp). AreHeld (set held block.position true) l) (sym list_is) (held_one held list block.position below c.loop-block.invariant.1),
      subst (λ (l : FinSet nat_cmp). AreFree l (drop (i + 1) blocks)) (sym list_is) (rest_free list blocks i block c.loop-block.invariant.2 within is),
    )
