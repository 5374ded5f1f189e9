use Rattle.std.proofs.Common.{◌≡◌, ◌+◌, ◌*◌, ◌-◌, ◌<◌}
use Rattle.disk_model.specs.Bytes.{Torn}
use Rattle.disk_model.specs.Vault.{Reads}
use Rattle.parity_split.specs.Joined.{joined}
use Rattle.parity_split.specs.Parts.{IsNear}
use Rattle.parity_split.specs.Values.{SameValues}
use Rattle.parity_split.specs.Works.{Works, IsWithin, LevelBy, HoldsOf, HasBytes, parts_in}
use Rattle.parity_split.proofs.growth.fill.Given as goal

abbrev pub invariant-loop-base : goal.invariant-loop-base
invariant-loop-base g l = record {
  works : Works (LevelBy l.parts (Torn (l.fn.end.part * l.parts.capacity + l.fn.rest) 0)) (g.V.Base.view l.fn.base) (g.V.Base.view l.base);
  within : IsWithin l.parts (g.V.Base.view l.base).levels;
  low : l.now.part < l.parts.count;
  near : HoldsOf l.parts (IsNear l.parts.capacity l.now.part) (g.V.Base.view l.base);
  held : Reads (HasBytes l.parts l.now) (g.V.Base.view l.base);
  sum : l.now.part * l.parts.capacity + l.rest ≡ l.fn.end.part * l.parts.capacity + l.fn.rest;
  same : Reads (λ files. SameValues (joined l.parts.capacity (parts_in l.parts (g.V.Base.view l.fn.base).files)) (joined l.parts.capacity (parts_in l.parts files))) (g.V.Base.view l.base);
}

abbrev pub decreases-loop-base : goal.decreases-loop-base
decreases-loop-base g l = l.parts.count - l.now.part
