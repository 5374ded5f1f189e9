use Rattle.std.proofs.Common.{ℕ, ◌-◌, ◌<◌, ◌≤◌, length, IsTrue}
use Rattle.disk_model.specs.Files.{Stays}
use Rattle.disk_model.specs.Vault.{IsUnwritten}
use Rattle.parity_split.specs.Joined.{part_of}
use Rattle.parity_split.specs.Works.{Works, IsWithin, parts_in}
use Rattle.parity_split.proofs.parts.find.Given as goal

abbrev pub invariant-loop-len : goal.invariant-loop-len
invariant-loop-len g l = record {
  works : Works Stays (g.V.Base.view l.fn.base) (g.V.Base.view l.base);
  unwritten : IsUnwritten (g.V.Base.view l.fn.base) (g.V.Base.view l.base);
  within : IsWithin l.parts (g.V.Base.view l.base).levels;
  low : l.part < l.parts.count;
  full : IsTrue (g.V.Base.view l.fn.base).tells → (j : ℕ) → j < l.part → l.parts.capacity ≤ length (part_of (parts_in l.parts (g.V.Base.view l.fn.base).files) j);
}

abbrev pub decreases-loop-len : goal.decreases-loop-len
decreases-loop-len g l = l.parts.count - l.part
