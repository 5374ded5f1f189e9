use Rattle.std.proofs.Common.{◌≡◌, ◌≢◌, sym, ◌∙◌}
use Rattle.disk_memory.specs.Folder.{folder_view}
use Rattle.disk_memory.specs.Sink.{sink_view}
use Rattle.disk_memory.specs.Vault.{vault_value, vault_view}
use Rattle.snap_top_breaks.proofs.FrontOfSyncLemmas.{sync_printed}
use Rattle.snap_top_breaks.proofs.front_of_sync.break_a_sync_and_sync.Goals as goal

pub returns : goal.returns
returns g c =
    let synced = c.in_ok-synced.ensures in
    let one = c.in_ok-one.ensures in
    let same = c.in_ok-same.ensures in
    let last = c.in_ok-last.ensures in
    let broke = c.in_ok-broke.ensures in
    let less : c.in_ok-broke.broke.printed.items ≢ c.in_ok-last.last.printed.items
    = λ as_much. c.says_else.ensures c.if-not-says_else.false (c.as_slice.ensures.value ∙ as_much ∙ sym c.as_slice-2.ensures.value) in
    sync_printed _ folder_view vault_view sink_view _ _ _ _ c.args.array.levels c.args.array.copies (vault_value c.in_ok-fresh.fresh) (vault_value c.in_ok-failing.failing) (vault_value c.in_ok-same.same)
    _ _ _ _ _ _ _ _ _ _ _ _ _ _ c.headline.ensures c.a_broken_run_reads_the_same_first.ensures.syncs c.a_broken_run_prints_a_front.ensures.read_syncs c.in_ok-fresh.ensures.view
    (c.asks_plain_sync.ensures c.if-not-asks_plain_sync.false) (c.asks_plain_sync-2.ensures c.if-not-asks_plain_sync-2.false)
    synced.ran same.left (same.copies ∙ c.copies-copies.ensures) (c.in_ok-failing.ensures.same ∙ one.picked ∙ sym same.picked) broke.ran broke.three broke.once broke.calm broke.some
    last.ran less last.faults last.calm last.ended
