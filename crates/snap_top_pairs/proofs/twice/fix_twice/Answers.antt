use Rattle.std.proofs.Common.{sym, ◌∙◌}
use Rattle.disk_memory.specs.Folder.{folder_view}
use Rattle.disk_memory.specs.Sink.{sink_view}
use Rattle.disk_memory.specs.Vault.{vault_value, vault_view}
use Rattle.snap_top_pairs.proofs.TwiceLemmas.{fixed_twice}
use Rattle.snap_top_pairs.proofs.twice.fix_twice.Goals as goal

pub returns : goal.returns
returns g c =
    let one = c.in_ok-one.ensures in
    let same = c.in_ok-same.ensures in
    let made = c.in_ok-made.ensures in
    let last = c.in_ok-last.ensures in
    fixed_twice _ folder_view vault_view sink_view _ _ _ _ _ _ (vault_value c.in_ok-one.one) (vault_value c.in_ok-same.same)
    _ _ _ _ _ _ _ _ c.one_array_is_left_alike.ensures.fixes c.what_is_read_alike_is_left_alike.ensures.fixes
    (c.asks_fix_of_all.ensures c.if-not-asks_fix_of_all.false) (c.asks_fix_of_all-2.ensures c.if-not-asks_fix_of_all-2.false) (c.ask_for_others.ensures c.if-not-ask_for_others.false) (same.picked ∙ sym one.picked)
    c.in_ok-lost.ensures c.in_ok-lost_again.ensures made.ran made.faults made.calm made.ended
    (c.in_ok-there.ensures c.if-not-there.false) last.ran last.faults last.calm last.ended
