use Rattle.std.proofs.Common.{◌≡◌, ◌*◌, ◌<◌, ℕ, length, get_or}
use Rattle.gf256.specs.Field.{product}
use Rattle.gf256.proofs.by_halves.products_by.Given as goal

abbrev pub invariant-loop-i : goal.invariant-loop-i
invariant-loop-i l =
    record {
      long : length l.products ≡ 16;
      made : (j : ℕ) → j < l.i → get_or l.products j 0 ≡ product l.k (l.step * j);
    }
