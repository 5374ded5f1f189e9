use Rattle.std.proofs.Common.{refl}
use Rattle.disk_memory.specs.Vault.{vault_view}
use Rattle.snap_top_instances.proofs.SmoothLemmas.{record_loaded}
use Rattle.snap_top_instances.proofs.smooth.has_record.Goals as goal

pub returns-in-Some : goal.returns-in-Some
returns-in-Some c some =
    record_loaded (vault_view c.args.vault) (vault_view c.load-loaded.new.vault) c.load-loaded.result c.in-Ok.held c.in-Some.table refl c.load-loaded.ensures.loaded c.in-Ok.is c.in-Some.is
    (c.is_calm.ensures c.if-not-is_calm.false) (c.has_a_record.ensures some)
