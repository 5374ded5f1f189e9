use Rattle.disk_model.specs.Vault.{IsUntouched}
use Rattle.parity_split.specs.Works.{IsWithin}
use Rattle.parity_split.proofs.ahead.plan.Given as goal

abbrev pub invariant-loop-part : goal.invariant-loop-part
invariant-loop-part g l = record {
  same : IsUntouched (g.V.Base.view l.fn.base) (g.V.Base.view l.base);
  within : IsWithin l.parts (g.V.Base.view l.base).levels;
}
