use Rattle.disk_model.specs.Files.{Stays}
use Rattle.disk_model.specs.Vault.{Holds}
use Rattle.parity_split.specs.Works.{Works, IsWithin, SameFrom, parts_in}
use Rattle.parity_split.proofs.parts.sync_from.Given as goal

abbrev pub invariant-loop-part : goal.invariant-loop-part
invariant-loop-part g l = record {
  works : Works Stays (g.V.Base.view l.fn.base) (g.V.Base.view l.base);
  within : IsWithin l.parts (g.V.Base.view l.base).levels;
  synced : Holds (λ files. SameFrom l.from l.part (parts_in l.parts (g.V.Base.view l.fn.base).files) (parts_in l.parts files)) (g.V.Base.view l.base);
}
