use Rattle.std.proofs.Common.{◌≡◌, ◌<◌, ℕ, List, ◌++◌, length, length-drop, min, take, drop, sym, ap, ◌∙◌, arith}
use Rattle.std.specs.List.{flat_map}
use Rattle.std.proofs.lemmas.List.{take_min}
use Rattle.file_table.specs.Table.{no_info}
use Rattle.content_file.specs.Encoding.{most_stripes_at_once}
use Rattle.content_file.specs.Spelling.{info_bytes}
use Rattle.content_file.proofs.EncodingLemmas.{one_more}
use Rattle.content_file.proofs.remaining.put_infos.Goals as goal

pub loop-k-preserved : goal.loop-k-preserved
loop-k-preserved c =
    let infos = c.args.table.now.infos in
    let first = c.args.first in
    let k = c.loop-k.k in
    let inside : k < length (drop first infos) = omega (arith, length-drop first infos, c.min-count.ensures, c.length.ensures.count, c.loop-k-test.true) in
    record {
      put =
          c.put_info.ensures.bytes ∙ ap (λ (bytes : List ℕ). bytes ++ info_bytes c.info.result) c.loop-k.invariant.put
          ∙ sym (one_more info_bytes infos first k no_info c.info.result inside (sym c.info.ensures));
      few = omega (arith, c.put_info.ensures.few, c.loop-k.invariant.few);
      some = omega (arith, c.put_info.ensures.some, c.loop-k.invariant.some);
    }

pub returns-clause-bytes : goal.returns-clause-bytes
returns-clause-bytes c =
    let infos = c.args.table.now.infos in
    let left = drop c.args.first infos in
    let all : c.loop-k.k ≡ min most_stripes_at_once (length left) = omega (arith, length-drop c.args.first infos, c.min-count.ensures, c.length.ensures.count, c.loop-k-test.false, c.loop-k.auto.k-end) in
    c.loop-k.invariant.put ∙ ap (flat_map info_bytes) (ap (λ (n : ℕ). take n left) all ∙ take_min most_stripes_at_once left)
