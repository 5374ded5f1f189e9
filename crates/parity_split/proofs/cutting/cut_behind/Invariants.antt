use Rattle.disk_model.specs.Bytes.{Stretched}
use Rattle.disk_model.specs.Vault.{Reads}
use Rattle.parity_split.specs.Joined.{joined}
use Rattle.parity_split.specs.Parts.{IsNear}
use Rattle.parity_split.specs.Values.{SameBelow}
use Rattle.parity_split.specs.Works.{Works, IsWithin, LevelBy, HoldsOf, HoldsSome, IsCutAt, parts_in}
use Rattle.parity_split.proofs.cutting.cut_behind.Given as goal

abbrev pub invariant-loop-parts : goal.invariant-loop-parts
invariant-loop-parts g l = record {
  works : Works (LevelBy l.parts (Stretched l.len)) (g.V.Base.view l.fn.base) (g.V.Base.view l.base);
  within : IsWithin l.parts (g.V.Base.view l.base).levels;
  near : HoldsOf l.parts (IsNear l.parts.capacity l.now.part) (g.V.Base.view l.base);
  held : Reads (HoldsSome l.parts l.now) (g.V.Base.view l.base);
  cut : IsCutAt l.parts l.now l.len;
  same : Reads (λ files. SameBelow l.len (joined l.parts.capacity (parts_in l.parts (g.V.Base.view l.fn.base).files)) (joined l.parts.capacity (parts_in l.parts files))) (g.V.Base.view l.base);
}

abbrev pub decreases-loop-parts : goal.decreases-loop-parts
decreases-loop-parts g l = l.now.part
