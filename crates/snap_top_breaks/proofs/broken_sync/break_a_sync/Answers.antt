use Rattle.std.proofs.Common.{◌≡◌, ◌∙◌, arith}
use Rattle.disk_memory.specs.Folder.{folder_view}
use Rattle.disk_memory.specs.Sink.{sink_view}
use Rattle.disk_memory.specs.Vault.{vault_value, vault_view}
use Rattle.snap_top_breaks.proofs.BrokenSyncLemmas.{broken_well_loaded}
use Rattle.snap_top_breaks.proofs.broken_sync.break_a_sync.Goals as goal

pub returns : goal.returns
returns g c =
    let broke = c.in_ok-broke.broke in
    let three : broke.status ≡ 3 = omega (arith, c.if-broke-ne3.false) in
    let one : (vault_view broke.vault).faults ≡ 1 = omega (arith, c.faults.ensures, c.if-faults-ne1.false) in
    broken_well_loaded _ folder_view vault_view sink_view _ _ _ c.args.array.levels c.args.array.copies (vault_value c.in_ok-failing.failing) _ _ _ _ _
    c.what_a_run_loaded_is_known.ensures.once (c.in_ok-failing.ensures.same ∙ c.in_ok-fresh.ensures.view) (c.asks_plain_sync.ensures c.if-not-asks_plain_sync.false)
    c.in_ok-broke.ensures three one (c.holds_content.ensures c.if-not-holds_content.false)
