use Rattle.std.proofs.Common.{ℕ, get_or, refl, sym, ap, ◌∙◌, arith}
use Rattle.std.specs.Int.Bits.{bit_xor}
use Rattle.std.proofs.lemmas.Simd.{get_or-replicate}
use Rattle.cauchy.specs.Elimination.{cell}
use Rattle.cauchy.proofs.SolvingLemmas.{recovered-more}
use Rattle.cauchy.proofs.recovery.groups.recovered_lanes.Goals as goal

pub loop-i-init : goal.loop-i-init
loop-i-init c = λ m are. record { long = refl; each = λ k l. get_or-replicate 32 k 0 0 l }

pub loop-i-preserved : goal.loop-i-preserved
loop-i-preserved c =
    λ m are.
    let sofar = c.loop-i.invariant m are in
    let next = c.products.ensures (m c.loop-i.i c.args.j) (are c.loop-i.i c.args.j (omega arith) (omega arith)) in
    record {
      long = c.sums-sum.ensures.long;
      each = λ k l.
          c.sums-sum.ensures.each k l ∙ ap (λ (x : ℕ). bit_xor x (get_or c.products.result k 0)) (sofar.each k l)
          ∙ ap (bit_xor _) (next.each k l)
          ∙ sym (recovered-more m c.loop-i.i (λ i. cell c.args.given.now i k) c.args.j);
    }
