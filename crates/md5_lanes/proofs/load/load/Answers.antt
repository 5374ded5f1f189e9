use Rattle.std.proofs.Common.{◌+◌, ◌*◌, ◌∙◌, arith, refl}
use Rattle.md5.specs.Md5.{block_words}
use Rattle.md5_lanes.specs.Lanes.{bytes_of}
use Rattle.md5_lanes.proofs.LoadLemmas.{word_at_place}
use Rattle.md5_lanes.proofs.load.load.Goals as goal

pub returns : goal.returns
unfolding block_words
returns c = λ i lt.
    let p = bytes_of c.args.blocks.now i in
    let at = c.args.at in
    let w0 = c.words.ensures 0 i (omega arith) lt ∙ word_at_place p at (at + 4 * 0) 0 (omega arith) (omega arith) in
    let w1 = c.words.ensures 1 i (omega arith) lt ∙ word_at_place p at (at + 4 * 1) 4 (omega arith) (omega arith) in
    let w2 = c.words.ensures 2 i (omega arith) lt ∙ word_at_place p at (at + 4 * 2) 8 (omega arith) (omega arith) in
    let w3 = c.words.ensures 3 i (omega arith) lt ∙ word_at_place p at (at + 4 * 3) 12 (omega arith) (omega arith) in
    let w4 = c.words-2.ensures 0 i (omega arith) lt ∙ word_at_place p at (at + 16 + 4 * 0) 16 (omega arith) (omega arith) in
    let w5 = c.words-2.ensures 1 i (omega arith) lt ∙ word_at_place p at (at + 16 + 4 * 1) 20 (omega arith) (omega arith) in
    let w6 = c.words-2.ensures 2 i (omega arith) lt ∙ word_at_place p at (at + 16 + 4 * 2) 24 (omega arith) (omega arith) in
    let w7 = c.words-2.ensures 3 i (omega arith) lt ∙ word_at_place p at (at + 16 + 4 * 3) 28 (omega arith) (omega arith) in
    let w8 = c.words-3.ensures 0 i (omega arith) lt ∙ word_at_place p at (at + 32 + 4 * 0) 32 (omega arith) (omega arith) in
    let w9 = c.words-3.ensures 1 i (omega arith) lt ∙ word_at_place p at (at + 32 + 4 * 1) 36 (omega arith) (omega arith) in
    let w10 = c.words-3.ensures 2 i (omega arith) lt ∙ word_at_place p at (at + 32 + 4 * 2) 40 (omega arith) (omega arith) in
    let w11 = c.words-3.ensures 3 i (omega arith) lt ∙ word_at_place p at (at + 32 + 4 * 3) 44 (omega arith) (omega arith) in
    let w12 = c.words-4.ensures 0 i (omega arith) lt ∙ word_at_place p at (at + 48 + 4 * 0) 48 (omega arith) (omega arith) in
    let w13 = c.words-4.ensures 1 i (omega arith) lt ∙ word_at_place p at (at + 48 + 4 * 1) 52 (omega arith) (omega arith) in
    let w14 = c.words-4.ensures 2 i (omega arith) lt ∙ word_at_place p at (at + 48 + 4 * 2) 56 (omega arith) (omega arith) in
    let w15 = c.words-4.ensures 3 i (omega arith) lt ∙ word_at_place p at (at + 48 + 4 * 3) 60 (omega arith) (omega arith) in
    rw (w0, w1, w2, w3, w4, w5, w6, w7, w8, w9, w10, w11, w12, w13, w14, w15) refl
