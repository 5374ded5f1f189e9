use Rattle.std.proofs.Common.{sym, ◌∙◌, arith}
use Rattle.disk_memory.specs.Folder.{folder_view}
use Rattle.disk_memory.specs.Sink.{sink_view}
use Rattle.disk_memory.specs.Vault.{vault_value, vault_view}
use Rattle.snap_top_stops.proofs.StaysSoundLemmas.{sound_history}
use Rattle.snap_top_stops.proofs.stays_sound.sync_over_a_lost_level.Goals as goal

pub returns : goal.returns
returns g c =
    let left = c.in_ok-left.ensures in
    let seen = c.in_ok-seen.ensures in
    let shown = c.in_ok-shown.ensures in
    let hurt = c.in_ok-hurt.ensures in
    sound_history _ folder_view vault_view sink_view _ _ _ c.args.array.levels c.args.array.copies (vault_value c.in_ok-fresh.fresh) (vault_value c.in_ok-left.left) (vault_value c.in_ok-seen.seen) (vault_value c.in_ok-shown.shown)
    (vault_view c.in_ok-hurt.hurt) _ _ _ _ _ _ _ c.copies_stay_sound.ensures c.in_ok-fresh.ensures.view (c.ask_for_sync.ensures c.if-not-ask_for_sync.false)
    (c.has_whole_levels.ensures c.if-not-has_whole_levels.false) c.in_ok-made.ensures left.left (left.copies ∙ c.copies-copies.ensures) (seen.picked ∙ sym left.picked)
    (c.has_parity.ensures c.if-not-has_parity.false) (shown.picked ∙ sym left.picked) (c.has_content.ensures c.if-not-has_content.false) hurt.changed hurt.lost c.in_ok-last.ensures (omega (arith, c.if-status-gt1.false)) (c.has_parity-2.ensures c.if-not-has_parity-2.false)
