use Rattle.std.proofs.Common.{sym, ◌∙◌}
use Rattle.disk_memory.specs.Folder.{folder_view}
use Rattle.disk_memory.specs.Sink.{sink_view}
use Rattle.disk_memory.specs.Vault.{vault_value, vault_view}
use Rattle.snap_top_restores.proofs.NamedLemmas.{run_over_lost}
use Rattle.snap_top_restores.proofs.named.lose_and_run.Goals as goal

pub returns : goal.returns
returns g c =
    let seen = c.in_ok-seen.ensures in
    let one = c.in_ok-one.ensures in
    let same = c.in_ok-same.ensures in
    let made = c.in_ok-made.ensures in
    let last = c.in_ok-last.ensures in
    run_over_lost _ folder_view vault_view sink_view _ _ _ _ _ c.args.array.levels c.args.array.copies (vault_value c.in_ok-fresh.fresh) (vault_value c.in_ok-one.one) (vault_value c.in_ok-same.same) (vault_value c.in_ok-seen.seen)
    _ _ _ _ _ _ _ _ _ _ _ _ _ _ _ c.headline.ensures c.in_ok-fresh.ensures.view (c.asks_plain_sync.ensures c.if-not-asks_plain_sync.false) c.in_ok-synced.ensures.ran
    one.left (one.copies ∙ c.copies-copies.ensures) (same.picked ∙ sym one.picked) (seen.picked ∙ sym one.picked) (c.holds_synced.ensures c.if-not-holds_synced.false)
    c.in_ok-lost.ensures c.in_ok-lost_again.ensures made.ran made.faults made.calm made.ended last.ran last.faults last.calm last.ended
