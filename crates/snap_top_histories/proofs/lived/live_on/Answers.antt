use Rattle.std.proofs.Common.{◌∙◌}
use Rattle.disk_memory.specs.Folder.{folder_view}
use Rattle.disk_memory.specs.Sink.{sink_view}
use Rattle.disk_memory.specs.Vault.{vault_view}
use Rattle.snap_top_histories.proofs.LivedLemmas.{history_goes_on}
use Rattle.snap_top_histories.proofs.lived.live_on.Goals as goal

pub returns-clause-lived : goal.returns-clause-lived
returns-clause-lived g c =
    history_goes_on _ folder_view vault_view sink_view _ _ _ _ _ _ _ _ _ _ _ c.headline.ensures c.requires.lived c.in_ok-made.ensures (c.ask_for_no_fix.ensures c.if-not-ask_for_no_fix.false)
    c.in_ok-vault.ensures.left (c.in_ok-vault.ensures.copies ∙ c.copies-copies.ensures) c.in_ok-push.ensures.items
