use Rattle.std.proofs.Common.{◌≡◌, ◌+◌, ◌<◌, ℕ, List, ◌++◌, length, get_or, length-drop, min, take, drop, refl, sym, ap, ◌∙◌, arith}
use Rattle.std.specs.List.{flat_map}
use Rattle.std.proofs.lemmas.List.{take_min}
use Rattle.file_table.specs.Table.{no_block}
use Rattle.content_file.specs.Encoding.{most_blocks_at_once}
use Rattle.content_file.specs.Spelling.{block_bytes}
use Rattle.content_file.proofs.EncodingLemmas.{one_more}
use Rattle.content_file.proofs.remaining.put_blocks.Goals as goal

pub loop-k-preserved : goal.loop-k-preserved
loop-k-preserved c =
    let blocks = c.args.blocks.now in
    let first = c.args.first in
    let k = c.loop-k.k in
    let inside : k < length (drop first blocks) = omega (arith, length-drop first blocks, c.min-count.ensures, c.loop-k-test.true) in
    record {
      put =
          c.put_block.ensures.bytes ∙ ap (λ (bytes : List ℕ). bytes ++ block_bytes (get_or blocks (first + k) no_block)) c.loop-k.invariant.put
          ∙ sym (one_more block_bytes blocks first k no_block (get_or blocks (first + k) no_block) inside refl);
      few = omega (arith, c.put_block.ensures.few, c.loop-k.invariant.few);
      some = omega (arith, c.put_block.ensures.some, c.loop-k.invariant.some);
    }

pub returns-clause-bytes : goal.returns-clause-bytes
returns-clause-bytes c =
    let blocks = c.args.blocks.now in
    let left = drop c.args.first blocks in
    let all : c.loop-k.k ≡ min most_blocks_at_once (length left) = omega (arith, length-drop c.args.first blocks, c.min-count.ensures, c.loop-k-test.false, c.loop-k.auto.k-end) in
    c.loop-k.invariant.put ∙ ap (flat_map block_bytes) (ap (λ (n : ℕ). take n left) all ∙ take_min most_blocks_at_once left)
