use Rattle.snap_fix.proofs.AuditedLemmas.{audit_finds_nothing}
use Rattle.snap_fix.proofs.laws.an_audit_finds_what_is_changed.Goals as goal

pub returns : goal.returns
returns c plan stripes audit are = audit_finds_nothing plan stripes audit are
