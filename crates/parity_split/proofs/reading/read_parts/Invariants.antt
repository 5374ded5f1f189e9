use Rattle.std.proofs.Common.{◌≡◌, ℕ, ◌+◌, ◌*◌, ◌<◌, get_or, IsTrue}
use Rattle.disk_model.specs.Files.{Stays}
use Rattle.disk_model.specs.Vault.{IsUnwritten}
use Rattle.parity_split.specs.Joined.{joined}
use Rattle.parity_split.specs.Works.{Works, IsWithin, parts_in}
use Rattle.parity_split.proofs.reading.read_parts.Given as goal

abbrev pub invariant-loop-part : goal.invariant-loop-part
invariant-loop-part g l = record {
  works : Works Stays (g.V.Base.view l.fn.base) (g.V.Base.view l.base);
  unwritten : IsUnwritten (g.V.Base.view l.fn.base) (g.V.Base.view l.base);
  within : IsWithin l.parts (g.V.Base.view l.base).levels;
  there : IsTrue (g.V.Base.view l.fn.base).tells → (k : ℕ) → l.at + k < l.part * l.parts.capacity → l.at + k < l.last
      → get_or l.out k 0 ≡ get_or (joined l.parts.capacity (parts_in l.parts (g.V.Base.view l.fn.base).files)) (l.at + k) 0;
}
