use Rattle.std.proofs.Common.{◌≡◌, ℕ, List, length, take, get_or, not, subst, sym, ap, ◌∙◌, IsTrue, arith}
use Rattle.std.specs.List.{EachIndex}
use Rattle.std.proofs.lemmas.List.{take_all}
use Rattle.parity_writer.specs.LevelsValue.{level_at}
use Rattle.stripe_examiner.proofs.JudgingLemmas.{differs_where_left, right_unread, wrong_known, wrong_short}
use Rattle.stripe_examiner.proofs.judging.is_wrong.Goals as goal

pub returns-in-Unread : goal.returns-in-Unread
returns-in-Unread c row left =
    right_unread c.args.levels.now.block_size c.args.r (level_at c.args.levels.now c.args.r) c.args.known row (sym c.state.ensures ∙ c.in-Unread.is)

pub returns-in-Short : goal.returns-in-Short
returns-in-Short c row left =
    wrong_short c.args.levels.now.block_size c.args.r (level_at c.args.levels.now c.args.r) c.args.known row (sym c.state.ensures ∙ c.in-Short.is)

pub returns-then-known : goal.returns-then-known
returns-then-known c row left =
    let size = c.args.levels.now.block_size in
    let level = level_at c.args.levels.now c.args.r in
    let bytes = sym c.state.ensures ∙ c.in-Bytes.is in
    let block_long : length level.block ≡ size = ap length (sym c.block.ensures.value) ∙ c.block.ensures.size in
    let whole : take (length c.block.result.now) c.args.left.now ≡ c.args.left.now =
    take_all (length c.block.result.now) c.args.left.now (omega (arith, c.block.ensures.size, c.requires.left)) in
    let IsZero : List ℕ → Type 0 = λ xs. EachIndex xs (λ p. get_or xs p 0 ≡ 0) in
    let Says : List ℕ → Type 0 = λ xs. (IsTrue c.are_zeros.result → IsZero xs) × (IsZero xs → IsTrue c.are_zeros.result) in
    wrong_known size c.args.r level c.args.known row (not c.are_zeros.result) c.if-known.true bytes
    (differs_where_left size c.args.r c.args.levels.now row c.args.left.now block_long c.requires.left bytes (left c.if-known.true) c.are_zeros.result
    (subst Says whole c.are_zeros.ensures))
