use Rattle.disk_memory.specs.Folder.{folder_view}
use Rattle.disk_memory.specs.Sink.{sink_view}
use Rattle.disk_memory.specs.Vault.{vault_view}
use Rattle.snap_top_refusals.proofs.RefusedLemmas.{refused_over_content}
use Rattle.snap_top_refusals.proofs.refused.refuse_over_content.Goals as goal

pub returns : goal.returns
returns g c =
    refused_over_content _ folder_view vault_view sink_view _ _ _ _ _ _ _ _ _ c.headline.ensures c.a_broken_run_prints_a_front.ensures.early c.in_ok-made.ensures
    (c.is_refused.ensures c.if-not-is_refused.false) _ (vault_view c.in_ok-seen.seen) c.requires.lived c.requires.fresh c.in_ok-seen.ensures.left
    (c.has_record.ensures c.if-not-has_record.false)
