-- One more than the greatest position, of more and more blocks.
use Rattle.std.proofs.Common.{◌≡◌, ℕ, ◌+◌, ◌<◌, max, List, [], ◌∷◌, ◌++◌, length, get_or, take, ap, ◌∙◌, arith}
use Rattle.std.proofs.lemmas.List.{map-append, take_more}
use Rattle.file_table.specs.declared.block.Block.{Block}
use Rattle.file_table.specs.Table.{positions_of, end_of}
use Rattle.file_table.proofs.CountLemmas.{end_of-push, end_of-with_block}

pub end_of-append : (ps qs : List ℕ) → end_of (ps ++ qs) ≡ max (end_of ps) (end_of qs)
end_of-append [] qs = omega arith
end_of-append (p ∷ ps) qs = omega (arith, end_of-append ps qs)

pub end_of_blocks-append : (blocks more : List Block) → end_of (positions_of (blocks ++ more)) ≡ max (end_of (positions_of blocks)) (end_of (positions_of more))
end_of_blocks-append blocks more = ap end_of (map-append (λ (b : Block). b.position) blocks more) ∙ end_of-append (positions_of blocks) (positions_of more)

pub one_block : (start end : ℕ) (blocks : List Block) (i : ℕ) (d : Block) → i < length blocks → end ≡ max start (end_of (positions_of (take i blocks)))
    → max end ((get_or blocks i d).position + 1) ≡ max start (end_of (positions_of (take (i + 1) blocks)))
one_block start end blocks i d within is =
    let more : end_of (positions_of (take (i + 1) blocks)) ≡ max (end_of (positions_of (take i blocks))) ((get_or blocks i d).position + 1) =
    ap (λ (bs : List Block). end_of (positions_of bs)) (take_more blocks i d within) ∙ end_of-with_block (take i blocks) (get_or blocks i d) in
    omega (arith, is, more)

pub one_position : (start end : ℕ) (ps : List ℕ) (i d : ℕ) → i < length ps → end ≡ max start (end_of (take i ps)) → max end (get_or ps i d + 1) ≡ max start (end_of (take (i + 1) ps))
one_position start end ps i d within is =
    let more : end_of (take (i + 1) ps) ≡ max (end_of (take i ps)) (get_or ps i d + 1) = ap end_of (take_more ps i d within) ∙ end_of-push (take i ps) (get_or ps i d) in
    omega (arith, is, more)
