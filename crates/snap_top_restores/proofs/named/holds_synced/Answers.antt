use Rattle.std.proofs.Common.{refl, sym, ◌∙◌, arith}
use Rattle.disk_memory.specs.Vault.{vault_view}
use Rattle.snap_top_restores.proofs.NamedLemmas.{synced_loaded}
use Rattle.snap_top_restores.proofs.named.holds_synced.Goals as goal

pub returns-in-Some : goal.returns-in-Some
returns-in-Some c synced =
    synced_loaded (vault_view c.args.vault) _ _ c.in-Some.table refl c.in-Ok.ensures.loaded c.in-Some.is (sym c.faults.ensures ∙ omega (arith, c.if-faults-gt0.false)) (c.is_synced.ensures synced)
