use Rattle.std.proofs.Common.{◌≡◌, ◌∙◌, ◌*◌, ◌/◌, ◌-◌, ◌^◌, ◌≤◌, ℕ, min, IfSome, arith, ap, subst}
use Rattle.std.proofs.Math.Nat.{min-eq_left, div-le_of_le-mul}
use Rattle.progress.proofs.pace.percent.Goals as goal

pub returns-clause-value : goal.returns-clause-value
returns-clause-value c =
    let least : c.min.result ≡ min c.args.place c.args.length = c.min.ensures in
    let most : c.min.result * 100 / c.args.length ≤ 100 = div-le_of_le-mul c.args.length (omega (arith, least)) in
    let fits : min (c.min.result * 100 / c.args.length) (2 ^ 64 - 1) ≡ min c.args.place c.args.length * 100 / c.args.length =
    min-eq_left (omega (arith, most)) ∙ ap (λ (m : ℕ). m * 100 / c.args.length) least in
    subst (λ (most : ℕ). IfSome c.quotient.result (λ n. n ≡ most)) fits c.quotient.ensures.value
