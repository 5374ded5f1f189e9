use Rattle.std.proofs.Common.{◌≡◌, ◌*◌, ap, ◌∙◌, ◌∷◌, [], arith}
use Rattle.gf256.specs.Field.{product}
use Rattle.gf256.proofs.HalfLemmas.{by_halves}
use Rattle.gf256.proofs.by_halves.halves.Goals as goal

pub returns-clause-sum : goal.returns-clause-sum
returns-clause-sum c =
    λ a h.
    by_halves c.args.k a (c.products_by.result ∷ c.products_by-2.result ∷ [])
    record {
      low = λ i hi. let once : 1 * i ≡ i = omega arith in c.products_by.ensures i hi ∙ ap (product c.args.k) once;
      high = c.products_by-2.ensures;
    } h
