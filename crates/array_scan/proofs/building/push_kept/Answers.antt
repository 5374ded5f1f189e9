use Rattle.std.proofs.Common.{List, get_or, take, ap, sym, ◌∙◌, subst, Err}
use Rattle.std.proofs.lemmas.List.{take_all, take_more, get_or_default}
use Rattle.file_table.specs.declared.block.Block.{Block}
use Rattle.file_table.specs.Table.{no_block}
use Rattle.file_table.specs.Building.{BuildingValue}
use Rattle.file_table.specs.Pushing.{with_columns, with_blocks, TakesBlocks}
use Rattle.file_table.proofs.FittingLemmas.{block_fits}
use Rattle.file_table.proofs.PushingLemmas.{takes_blocks, block_pushed, no_block_pushed}
use Rattle.array_scan.proofs.MemoryLemmas.{memory_exits}
use Rattle.array_scan.proofs.building.push_kept.Goals as goal

pub loop-block-init : goal.loop-block-init
loop-block-init c = no_block_pushed c.args.builder.now c.requires.takes

pub push_block-requires-clause-before_infos : goal.push_block-requires-clause-before_infos
push_block-requires-clause-before_infos c = ap (λ (b : BuildingValue). b.infos) c.loop-block.invariant ∙ c.requires.takes.before_infos

pub push_block-requires-clause-rec : goal.push_block-requires-clause-rec
push_block-requires-clause-rec c =
    let takes : TakesBlocks c.loop-block.builder = subst TakesBlocks (sym c.loop-block.invariant) (takes_blocks c.args.builder.now (take c.loop-block.block-index c.args.blocks.now) c.requires.takes) in
    takes.some

pub loop-block-preserved : goal.loop-block-preserved
loop-block-preserved c =
    let old = c.args.builder.now in
    let blocks = c.args.blocks.now in
    let i = c.loop-block.block-index in
    let block : Block = get_or blocks i no_block in
    block_pushed old c.loop-block.builder c.push_block.new.self (take i blocks) block c.loop-block.invariant c.in_ok-push_block.ensures.ok
    ∙ ap (λ (bs : List Block). with_columns old (with_blocks old.columns bs)) (sym (take_more blocks i no_block c.loop-block-test.true))

pub returns-clause-pushed : goal.returns-clause-pushed
returns-clause-pushed c =
    let old = c.args.builder.now in
    c.loop-block.invariant ∙ ap (λ (bs : List Block). with_columns old (with_blocks old.columns bs)) (take_all c.loop-block.block-index c.args.blocks.now c.loop-block-test.false)

pub returns-in_err-push_block-clause-memory : goal.returns-in_err-push_block-clause-memory
returns-in_err-push_block-clause-memory c =
    let old = c.args.builder.now in
    let blocks = c.args.blocks.now in
    let i = c.loop-block.block-index in
    let block : Block = get_or blocks i no_block in
    let fault = c.in_err-push_block.field-0.0 in
    let refused = c.in_err-push_block.ensures in
    memory_exits _ c.from_residual.result fault c.from_residual.ensures.1 (λ why is. is)
    (block_fits old c.loop-block.builder blocks i block c.requires.takes c.requires.lacks c.requires.may c.loop-block-test.true (get_or_default blocks i no_block block c.loop-block-test.true) c.loop-block.invariant fault
    (λ e. refused.blocks (ap (λ f. Err f) e)) (λ e. refused.range (ap (λ f. Err f) e)) (λ e. refused.repeated (ap (λ f. Err f) e)) refused.only)
