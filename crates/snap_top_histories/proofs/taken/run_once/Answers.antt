use Rattle.std.proofs.Common.{◌∙◌}
use Rattle.disk_memory.specs.Folder.{folder_view}
use Rattle.disk_memory.specs.Sink.{sink_view}
use Rattle.disk_memory.specs.Vault.{vault_value, vault_view}
use Rattle.snap_top_histories.proofs.OnceLemmas.{left_of_one}
use Rattle.snap_top_histories.proofs.taken.run_once.Goals as goal

pub returns-clause-fresh : goal.returns-clause-fresh
returns-clause-fresh g c = c.in_ok-vault.ensures.left.is_new

pub returns-clause-once : goal.returns-clause-once
returns-clause-once g c =
    left_of_one _ folder_view vault_view sink_view _ _ _ c.args.array.levels c.args.array.copies (vault_value c.in_ok-fresh.fresh) _ _ _ _ _ c.headline.ensures c.in_ok-fresh.ensures.view
    (c.ask_for_no_fix.ensures c.if-not-ask_for_no_fix.false) c.in_ok-made.ensures c.in_ok-vault.ensures.left (c.in_ok-vault.ensures.copies ∙ c.copies-copies.ensures)
