use Rattle.std.proofs.Common.{◌+◌}
use Rattle.disk_model.specs.Vault.{Reads}
use Rattle.parity_split.specs.Parts.{IsReady}
use Rattle.parity_split.specs.Works.{Works, IsWithin, LevelBy, HoldsOf, Same, EmptyFrom, parts_in}
use Rattle.parity_split.proofs.growth.empty_behind.Given as goal

abbrev pub invariant-loop-part : goal.invariant-loop-part
invariant-loop-part g l = record {
  works : Works (LevelBy l.parts Same) (g.V.Base.view l.fn.base) (g.V.Base.view l.base);
  within : IsWithin l.parts (g.V.Base.view l.base).levels;
  ready : HoldsOf l.parts (IsReady l.parts.capacity l.end 0) (g.V.Base.view l.base);
  emptied : Reads (λ files. EmptyFrom (l.end + 1) l.part (parts_in l.parts files)) (g.V.Base.view l.base);
}
