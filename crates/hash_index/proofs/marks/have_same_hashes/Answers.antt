use Rattle.std.proofs.Common.{arith, sym}
use Rattle.std.proofs.lemmas.List.{length-map}
use Rattle.file_table.specs.declared.block.Block.{Block}
use Rattle.hash_index.specs.Duplicates.{hashes_of}
use Rattle.hash_index.proofs.SameLemmas.{unlike_lengths}
use Rattle.hash_index.proofs.marks.have_same_hashes.Goals as goal

pub returns-then-first-other : goal.returns-then-first-other
returns-then-first-other c =
    let long = length-map c.args.first.now (λ (block : Block). block.hash) in
    let other_long = length-map c.args.other.now (λ (block : Block). block.hash) in
    sym (unlike_lengths (hashes_of c.args.first.now) (hashes_of c.args.other.now) (λ same. omega (arith, long, other_long, same, c.if-first-other.true)))
