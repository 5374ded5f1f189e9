use Rattle.std.proofs.Common.{rules}
use Rattle.std.proofs.lemmas.Fn.{always_returns_same}
use Rattle.file_table.specs.declared.index.Spot.{Spot}
use Rattle.file_table.proofs.index.Index.new.Goals as goal

pub invariant_of-result : goal.invariant_of-result
invariant_of-result c =
    c.sort_unstable_by_key.ensures.sorted (λ (spot : Spot). spot.position) (always_returns_same _ _ _ (λ a r f k. search rules))
