use Rattle.std.proofs.Common.{◌≡◌, ℕ, List, get_or, subst, sym, ◌∙◌, IsTrue}
use Rattle.std.specs.List.{EachIndex}
use Rattle.std.proofs.lemmas.List.{take_rest}
use lib.Pointwise.{bytes_decides}
use Rattle.stripe_examiner.proofs.SearchRight.{right_block, right_zeros}
use Rattle.stripe_examiner.proofs.search.is_right.Goals as goal

pub returns-then-eq : goal.returns-then-eq
returns-then-eq c =
    let shape = c.args.shape in
    let wanted = c.args.wanted in
    let block = c.args.block.now in
    let digest = c.digest_of.result.0 in
    let same = (bytes_decides digest wanted.hash.0).0 (sym c.eq.ensures ∙ c.if-eq.true) in
    let AreZeros : List ℕ → Type 0 = λ rest. EachIndex rest (λ i. get_or rest i 0 ≡ 0) in
    let Says : List ℕ → Type 0 = λ rest. (IsTrue c.are_zeros.result → AreZeros rest) × (AreZeros rest → IsTrue c.are_zeros.result) in
    let zeros = subst Says (take_rest block wanted.length) c.are_zeros.ensures in (
      λ true'. right_block shape wanted block digest c.requires.real c.digest_of.ensures same (zeros.0 true'),
      λ right. zeros.1 (right_zeros shape wanted block digest c.requires.real c.digest_of.ensures right),
    )
