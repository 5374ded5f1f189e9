use Rattle.std.proofs.Common.{◌≡◌, ◌+◌, ◌*◌, ◌∷◌, [], ◌++◌, ◌<◌, ◌∙◌, ap, List, ℕ, arith, slice_index, slice_index_or}
use Rattle.std.specs.Borrow.{Bor}
use Rattle.md5_lanes.proofs.LoadLemmas.{for_four, one_of_each}
use Rattle.md5_lanes.proofs.load.words.Goals as goal

pub returns : goal.returns
returns c = λ j i low lt.
    let none : Bor (List ℕ) = record { ref_ptr = (0, 0); now = [] } in
    let p : ℕ → List ℕ = λ k. slice_index c.four.result k ∷ slice_index c.four-2.result k ∷ slice_index c.four-3.result k ∷ slice_index c.four-4.result k ∷ [] in
    let q : ℕ → List ℕ = λ k. slice_index c.four-5.result k ∷ slice_index c.four-6.result k ∷ slice_index c.four-7.result k ∷ slice_index c.four-8.result k ∷ [] in
    let both : (k : ℕ) → k < 4 → slice_index_or c.turned.result k [] ++ slice_index_or c.turned-2.result k [] ≡ p k ++ q k = λ k h.
    ap (λ l. l ++ slice_index_or c.turned-2.result k []) (c.turned.ensures k h) ∙ ap (λ l. p k ++ l) (c.turned-2.ensures k h) in
    let rows : List (List ℕ) = c.joined.result ∷ c.joined-2.result ∷ c.joined-3.result ∷ c.joined-4.result ∷ [] in
    let row : slice_index_or rows j [] ≡ p j ++ q j =
    for_four (λ k. slice_index_or rows k [] ≡ p k ++ q k)
    (c.joined.ensures ∙ both 0 (omega arith))
    (c.joined-2.ensures ∙ both 1 (omega arith))
    (c.joined-3.ensures ∙ both 2 (omega arith))
    (c.joined-4.ensures ∙ both 3 (omega arith))
    j low in
    ap (λ l. slice_index l i) row
    ∙ one_of_each c.args.blocks.now none (c.args.at + 4 * j) j
    c.four.result c.four-2.result c.four-3.result c.four-4.result c.four-5.result c.four-6.result c.four-7.result c.four-8.result c.told-blocks
    (c.four.ensures j low) (c.four-2.ensures j low) (c.four-3.ensures j low) (c.four-4.ensures j low)
    (c.four-5.ensures j low) (c.four-6.ensures j low) (c.four-7.ensures j low) (c.four-8.ensures j low) i lt
