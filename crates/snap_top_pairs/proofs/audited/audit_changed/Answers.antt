use Rattle.disk_memory.specs.Folder.{folder_view}
use Rattle.disk_memory.specs.Sink.{sink_view}
use Rattle.disk_memory.specs.Vault.{vault_view}
use Rattle.snap_top_pairs.proofs.AuditedLemmas.{audited}
use Rattle.snap_top_pairs.proofs.audited.audit_changed.Goals as goal

pub returns : goal.returns
returns g c =
    let made = c.in_ok-made.ensures in
    audited _ folder_view vault_view sink_view _ _ _ _ _ _ _ _ _ (c.asks_audit_of_all.ensures c.if-not-asks_audit_of_all.false) made.ran made.faults made.calm c.if-made-ne1.false
