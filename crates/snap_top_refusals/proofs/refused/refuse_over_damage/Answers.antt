use Rattle.std.proofs.Common.{sym, ◌∙◌}
use Rattle.disk_memory.specs.Folder.{folder_view}
use Rattle.disk_memory.specs.Sink.{sink_view}
use Rattle.disk_memory.specs.Vault.{vault_value, vault_view}
use Rattle.snap_top_refusals.proofs.RefusedLemmas.{refused_over_damage}
use Rattle.snap_top_refusals.proofs.refused.refuse_over_damage.Goals as goal

pub returns : goal.returns
returns g c =
    let seen = c.in_ok-seen.ensures in
    let left = c.in_ok-left.ensures in
    refused_over_damage _ folder_view vault_view sink_view _ _ _ _ (vault_view c.args.lived.vault) (vault_value c.in_ok-seen.seen) (vault_value c.in_ok-left.left) _ _ _ _ _
    c.headline.ensures c.a_broken_run_prints_a_front.ensures.early c.requires.lived (seen.picked ∙ sym left.picked) (left.copies ∙ c.copies-copies.ensures)
    (c.is_damaged.ensures c.if-not-is_damaged.false) c.in_ok-made.ensures (c.is_refused.ensures c.if-not-is_refused.false)
