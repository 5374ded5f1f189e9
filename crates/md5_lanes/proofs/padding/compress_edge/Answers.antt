use Rattle.std.proofs.Common.{arith, ℕ, List, [], ◌∷◌, ◌≡◌, ◌<◌, ◌∙◌, ◌++◌, ap, sym, length, take, drop, slice_index_or}
use Rattle.std.proofs.lemmas.List.{take-take}
use Rattle.std.specs.Borrow.{Bor}
use Rattle.md5.specs.Md5.{compress, padded_message}
use Rattle.md5_lanes.specs.Lanes.{lane, bytes_of}
use Rattle.md5_lanes.proofs.MessageLemmas.{bytes_is, for_eight}
use Rattle.md5_lanes.proofs.padding.compress_edge.Goals as goal

pub part-e6-requires : goal.part-e6-requires
part-e6-requires c =
    let there : 6 < length c.args.blocks.now = omega (arith, c.told-blocks) in
    record { short = c.requires.short 6 _ there; within = c.requires.within 6 _ there }

pub part-e7-requires : goal.part-e7-requires
part-e7-requires c =
    let there : 7 < length c.args.blocks.now = omega (arith, c.told-blocks) in
    record { short = c.requires.short 7 _ there; within = c.requires.within 7 _ there }

pub returns : goal.returns
returns c = λ i lt.
    let none : Bor (List ℕ) = record { ref_ptr = (0, 0); now = [] } in
    let blocks : List (Bor (List ℕ)) = c.args.blocks.now in
    let part : List ℕ → List ℕ = λ block. take 64 (drop c.args.at (padded_message (c.args.seed.now ++ block))) in
    let of : (k : ℕ) → k < 8 → part (slice_index_or blocks k none).now ≡ part (bytes_of blocks k) = λ k h. ap part (sym (bytes_is blocks k none (omega (arith, c.told-blocks)))) in
    let parts : List (List ℕ) = c.part-e0.result ∷ c.part-e1.result ∷ c.part-e2.result ∷ c.part-e3.result ∷ c.part-e4.result ∷ c.part-e5.result ∷ c.part-e6.result ∷ c.part-e7.result ∷ [] in
    let each : slice_index_or parts i [] ≡ part (bytes_of blocks i) =
    for_eight (λ k. slice_index_or parts k [] ≡ part (bytes_of blocks k))
    (c.part-e0.ensures ∙ of 0 (omega arith))
    (c.part-e1.ensures ∙ of 1 (omega arith))
    (c.part-e2.ensures ∙ of 2 (omega arith))
    (c.part-e3.ensures ∙ of 3 (omega arith))
    (c.part-e4.ensures ∙ of 4 (omega arith))
    (c.part-e5.ensures ∙ of 5 (omega arith))
    (c.part-e6.ensures ∙ of 6 (omega arith))
    (c.part-e7.ensures ∙ of 7 (omega arith))
    i lt in
    let again = take-take 64 64 (drop c.args.at (padded_message (c.args.seed.now ++ bytes_of blocks i))) (omega arith) in
    c.compress.ensures i lt ∙ ap (λ b. compress (lane c.args.state i) (take 64 b)) each ∙ ap (compress (lane c.args.state i)) again
