use Rattle.disk_model.specs.Files.{Stays}
use Rattle.parity_split.specs.Works.{Works, IsWithin}
use Rattle.parity_split.proofs.making.is_empty.Given as goal

abbrev pub invariant-loop-part : goal.invariant-loop-part
invariant-loop-part g l = record {
  works : Works Stays (g.V.Base.view l.fn.base) (g.V.Base.view l.base);
  within : IsWithin l.parts (g.V.Base.view l.base).levels;
}
