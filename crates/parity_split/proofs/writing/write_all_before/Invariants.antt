use Rattle.std.proofs.Common.{ℕ, ◌*◌, length}
use Rattle.disk_model.specs.Bytes.{Torn}
use Rattle.disk_model.specs.Vault.{Reads}
use Rattle.parity_split.specs.Joined.{joined}
use Rattle.parity_split.specs.Parts.{IsNear, IsReady}
use Rattle.parity_split.specs.Values.{IsPutBelow}
use Rattle.parity_split.specs.Works.{Works, IsWithin, LevelBy, HoldsOf, parts_in}
use Rattle.parity_split.proofs.writing.write_all_before.Given as goal

abbrev pub invariant-loop-part : goal.invariant-loop-part
invariant-loop-part g l = record {
  works : Works (LevelBy l.parts (Torn l.at (length l.bytes))) (g.V.Base.view l.fn.base) (g.V.Base.view l.base);
  within : IsWithin l.parts (g.V.Base.view l.base).levels;
  near : HoldsOf l.parts (IsNear l.parts.capacity l.end) (g.V.Base.view l.base);
  ready : (len : ℕ) → HoldsOf l.parts (IsReady l.parts.capacity l.end len) (g.V.Base.view l.fn.base) → HoldsOf l.parts (IsReady l.parts.capacity l.end len) (g.V.Base.view l.base);
  written : Reads (λ files. IsPutBelow (l.part * l.parts.capacity) l.at l.bytes (joined l.parts.capacity (parts_in l.parts (g.V.Base.view l.fn.base).files)) (joined l.parts.capacity (parts_in l.parts files))) (g.V.Base.view l.base);
}
