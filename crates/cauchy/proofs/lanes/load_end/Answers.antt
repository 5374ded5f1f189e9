use Rattle.std.proofs.Common.{ℕ, refl, arith}
use Rattle.std.proofs.lemmas.List.{get_or-replicate}
use Rattle.cauchy.proofs.lanes.load_end.Goals as goal

pub loop-k-init : goal.loop-k-init
loop-k-init c =
    record {
      long = refl;
      made = λ q h. absurd (omega arith);
      zeros = λ q from h. get_or-replicate {A = ℕ} 32 q 0 0 h;
    }
