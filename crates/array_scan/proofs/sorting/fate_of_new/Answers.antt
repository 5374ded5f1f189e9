use Rattle.std.proofs.Common.{◌≡◌, Bool, true, sym, ◌∙◌, subst}
use Rattle.array_scan.specs.Fates.{may_move}
use Rattle.array_scan.specs.Lost.{Offers, left_by}
use Rattle.array_scan.proofs.sorting.fate_of_new.Goals as goal

pub returns-in-Some-clause-lost : goal.returns-in-Some-clause-lost
returns-in-Some-clause-lost c records left =
    let moves : may_move c.args.meta ≡ true = sym c.may_move.ensures ∙ c.if-not-may_move.false in
    subst (λ (t : Bool). Offers c.take.new.self (left_by t records c.args.meta)) (sym moves) (c.in_ok-rec.ensures.rest records left)

pub returns-in-None-clause-lost : goal.returns-in-None-clause-lost
returns-in-None-clause-lost c records left =
    let moves : may_move c.args.meta ≡ true = sym c.may_move.ensures ∙ c.if-not-may_move.false in
    subst (λ (t : Bool). Offers c.take.new.self (left_by t records c.args.meta)) (sym moves) (c.in_ok-rec.ensures.rest records left)
