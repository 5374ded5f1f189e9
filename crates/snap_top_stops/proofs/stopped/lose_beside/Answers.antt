use Rattle.std.proofs.Common.{◌∙◌}
use Rattle.disk_memory.specs.Folder.{folder_view}
use Rattle.disk_memory.specs.Sink.{sink_view}
use Rattle.disk_memory.specs.Vault.{vault_view}
use Rattle.snap_top_stops.proofs.StoppedLemmas.{holds_still, lacks_still, left_with}
use Rattle.snap_top_stops.proofs.stopped.lose_beside.Goals as goal

pub returns-clause-once : goal.returns-clause-once
returns-clause-once g c = left_with _ folder_view vault_view sink_view _ _ _ _ _ c.in_ok-left.ensures.once (c.in_ok-stays.ensures.same ∙ c.in_ok-is_there.ensures.same)

pub returns-clause-lost : goal.returns-clause-lost
returns-clause-lost g c = lacks_still _ _ _ _ (c.in_ok-stays.ensures.same ∙ c.in_ok-is_there.ensures.same) (c.in_ok-is_there.ensures.none c.if-is_there.false)

pub returns-clause-kept : goal.returns-clause-kept
returns-clause-kept g c = holds_still _ _ _ _ c.in_ok-stays.ensures.same (c.in_ok-stays.ensures.there c.if-not-stays.false)
