use Rattle.std.proofs.Common.{◌≡◌, length}
use Rattle.snap_fix.proofs.EndingSyncLemmas.{SyncedTo}
use Rattle.snap_fix.proofs.ending.sync_levels.Given as goal

abbrev pub invariant-loop-level : goal.invariant-loop-level
invariant-loop-level g l = record {
  synced : SyncedTo l.written l.level (g.V.Vault.view l.fn.vault) (g.V.Vault.view l.vault);
  levels : (g.V.Vault.view l.vault).levels ≡ length l.written;
  end : l.level-end ≡ length l.written;
}
