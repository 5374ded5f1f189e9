use Rattle.std.proofs.Common.{◌∙◌}
use Rattle.disk_memory.specs.Folder.{folder_view}
use Rattle.disk_memory.specs.Sink.{sink_view}
use Rattle.disk_memory.specs.Vault.{vault_view}
use Rattle.snap_top_histories.proofs.RepeatedLemmas.{fixed_again}
use Rattle.snap_top_histories.proofs.repeated.fix_and_fix_again.Goals as goal

pub returns : goal.returns
returns g c =
    let made = c.in_ok-made.ensures in
    let left = c.in_ok-left.ensures in
    let last = c.in_ok-last.ensures in
    fixed_again _ folder_view vault_view sink_view _ _ _ _ _ _ _ _ _ _ _ _ _ c.headline.ensures c.a_fix_of_what_is_left_meets_no_chance.ensures c.one_table_has_a_spelling.ensures c.requires.once
    (c.ask_for_fix.ensures c.if-not-ask_for_fix.false) made.ran made.faults made.calm made.ended left.left (left.copies ∙ c.copies-copies.ensures) last.ran last.faults last.calm last.ended
