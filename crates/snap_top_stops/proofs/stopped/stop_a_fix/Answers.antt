use Rattle.std.proofs.Common.{List, sym, ap, ◌∙◌}
use Rattle.disk_memory.specs.Folder.{folder_view}
use Rattle.disk_memory.specs.Sink.{sink_view}
use Rattle.disk_memory.specs.Vault.{vault_view}
use Rattle.disk_memory.specs.declared.folder.MemFolder.{MemFolder}
use Rattle.snap_top_stops.specs.Stopped.{all_tell_calls}
use Rattle.snap_top_stops.proofs.StoppedLemmas.{spared_at_stop}
use Rattle.snap_top_stops.proofs.stopped.stop_a_fix.Goals as goal

pub returns : goal.returns
returns g c =
    let once = c.in_ok-once.ensures in
    let made = c.in_ok-made.ensures in
    let left = c.in_ok-left.ensures in
    let told = ap (λ (folders : List MemFolder). all_tell_calls folder_view folders) (sym c.as_slice.ensures.value) ∙ sym c.tell_calls.ensures ∙ c.if-not-tell_calls.false in
    spared_at_stop _ folder_view vault_view sink_view _ _ _ _ _ (vault_view c.in_ok-left.left) _ _ _ _ c.headline.ensures c.a_fix_of_what_is_left_meets_no_chance.ensures once.once made.ran.over
    c.a_folder_stands_among_what_a_stop_may_leave.ensures.later c.one_table_has_a_spelling.ensures (c.asks_fix_of_missing.ensures c.if-not-asks_fix_of_missing.false) made.faults made.calm made.ended
    left.left (left.copies ∙ c.copies-copies.ensures) told _ _ _ _ (c.has_stripe.ensures c.if-not-has_stripe.false) once.kept once.lost (c.in_ok-restored.ensures.there c.if-not-restored.false)
