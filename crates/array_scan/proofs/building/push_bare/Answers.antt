use Rattle.std.proofs.Common.{◌≡◌, ℕ, zero, suc, ◌<◌, [], ◌∷◌, List, length, get_or, take, ap, sym, ◌∙◌, subst, Err, refl}
use Rattle.std.proofs.lemmas.List.{take_all, map_more, length-map, get_or-map}
use Rattle.file_table.specs.Pushing.{LacksBlocks}
use Rattle.file_table.specs.declared.block.Block.{Block}
use Rattle.file_table.specs.Building.{BuildingValue}
use Rattle.array_scan.specs.Laying.{bare, bare_block}
use Rattle.file_table.specs.Pushing.{with_blocks, TakesBlocks}
use Rattle.file_table.specs.Pushing.{with_columns}
use Rattle.file_table.proofs.PushingLemmas.{takes_blocks, block_pushed, no_block_pushed}
use Rattle.file_table.proofs.FittingLemmas.{block_fits}
use Rattle.array_scan.proofs.MemoryLemmas.{memory_exits}
use Rattle.array_scan.proofs.building.push_bare.Goals as goal

bare-take : (n : ℕ) (ps : List ℕ) → bare (take n ps) ≡ take n (bare ps)
bare-take zero ps = refl
bare-take (suc n) [] = refl
bare-take (suc n) (p ∷ ps) = ap (λ (bs : List Block). bare_block p ∷ bs) (bare-take n ps)

pub loop-position-init : goal.loop-position-init
loop-position-init c = no_block_pushed c.args.builder.now c.requires.takes

pub push_block-requires-clause-before_infos : goal.push_block-requires-clause-before_infos
push_block-requires-clause-before_infos c = ap (λ (b : BuildingValue). b.infos) c.loop-position.invariant ∙ c.requires.takes.before_infos

pub push_block-requires-clause-rec : goal.push_block-requires-clause-rec
push_block-requires-clause-rec c =
    let takes : TakesBlocks c.loop-position.builder = subst TakesBlocks (sym c.loop-position.invariant) (takes_blocks c.args.builder.now (bare (take c.loop-position.position-index c.args.positions.now)) c.requires.takes) in
    takes.some

pub loop-position-preserved : goal.loop-position-preserved
loop-position-preserved c =
    let old = c.args.builder.now in
    let positions = c.args.positions.now in
    let i = c.loop-position.position-index in
    let block : Block = bare_block (get_or positions i 0) in
    block_pushed old c.loop-position.builder c.push_block.new.self (bare (take i positions)) block c.loop-position.invariant c.in_ok-push_block.ensures.ok
    ∙ ap (λ (bs : List Block). with_columns old (with_blocks old.columns bs)) (sym (map_more bare_block positions i 0 c.loop-position-test.true))

pub returns-clause-pushed : goal.returns-clause-pushed
returns-clause-pushed c =
    let old = c.args.builder.now in
    c.loop-position.invariant ∙ ap (λ (ps : List ℕ). with_columns old (with_blocks old.columns (bare ps))) (take_all c.loop-position.position-index c.args.positions.now c.loop-position-test.false)

pub returns-in_err-push_block-clause-memory : goal.returns-in_err-push_block-clause-memory
returns-in_err-push_block-clause-memory c =
    let old = c.args.builder.now in
    let positions = c.args.positions.now in
    let blocks = bare positions in
    let i = c.loop-position.position-index in
    let block : Block = bare_block (get_or positions i 0) in
    let long : length blocks ≡ length positions = length-map positions bare_block in
    let within : i < length blocks = subst (λ (n : ℕ). i < n) (sym long) c.loop-position-test.true in
    let is : block ≡ get_or blocks i block = sym (get_or-map bare_block positions i 0 block c.loop-position-test.true) in
    let so_far = c.loop-position.invariant ∙ ap (λ (bs : List Block). with_columns old (with_blocks old.columns bs)) (bare-take i positions) in
    let lacks : LacksBlocks old (length blocks) = subst (LacksBlocks old) (sym long) c.requires.lacks in
    let fault = c.in_err-push_block.field-0.0 in
    let refused = c.in_err-push_block.ensures in
    memory_exits _ c.from_residual.result fault c.from_residual.ensures.1 (λ why is. is)
    (block_fits old c.loop-position.builder blocks i block c.requires.takes lacks c.requires.may within is so_far fault
    (λ e. refused.blocks (ap (λ f. Err f) e)) (λ e. refused.range (ap (λ f. Err f) e)) (λ e. refused.repeated (ap (λ f. Err f) e)) refused.only)
