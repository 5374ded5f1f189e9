use Rattle.std.proofs.Common.{rules}
use Rattle.std.proofs.lemmas.Fn.{always_returns_same}
use Rattle.std.specs.Ordering.{nat_cmp}
use Rattle.file_table.specs.declared.index.Spot.{Spot}
use Rattle.file_table.proofs.index.number_of.Goals as goal

pub returns-clause-number : goal.returns-clause-number
returns-clause-number c =
    c.binary_search_by.ensures.position (λ (spot : Spot). nat_cmp spot.position c.args.position) (always_returns_same _ _ _ (λ a r f k. search rules))
