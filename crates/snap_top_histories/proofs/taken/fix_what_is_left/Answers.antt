use Rattle.std.proofs.Common.{◌∙◌, ◌++◌, ℕ, List, [], ◌∷◌, ap, arith}
use Rattle.disk_memory.specs.Folder.{folder_view}
use Rattle.disk_memory.specs.Sink.{sink_view}
use Rattle.disk_memory.specs.Vault.{vault_view}
use Rattle.snap_top_histories.proofs.OnceLemmas.{fixed_on, fixed_whole}
use Rattle.snap_top_histories.proofs.taken.fix_what_is_left.Goals as goal

pub returns-clause-fresh : goal.returns-clause-fresh
returns-clause-fresh g c = c.in_ok-vault.ensures.left.is_new

pub returns-clause-fixed : goal.returns-clause-fixed
returns-clause-fixed g c =
    fixed_whole _ folder_view vault_view sink_view _ _ _ _ _ (vault_view c.in_ok-vault.vault) _ _ _ _ c.headline.ensures c.a_fix_of_what_is_left_meets_no_chance.ensures c.requires.once c.in_ok-made.ensures
    (c.ask_for_fix.ensures c.if-not-ask_for_fix.false) (omega (arith, c.if-made-gt1.false))

pub returns-clause-lived : goal.returns-clause-lived
returns-clause-lived g c =
    fixed_on _ folder_view vault_view sink_view _ _ _ _ _ (vault_view c.in_ok-vault.vault) _ _ _ _ c.headline.ensures c.a_fix_of_what_is_left_meets_no_chance.ensures c.requires.once c.in_ok-made.ensures _
    c.in_ok-vault.ensures.left (c.in_ok-vault.ensures.copies ∙ c.copies-copies.ensures)
    (c.in_ok-push-2.ensures.items ∙ ap (λ (told : List ℕ). told ++ c.in_ok-made.made.status ∷ []) (c.in_ok-push.ensures.items ∙ ap (λ (told : List ℕ). told ++ c.args.once.status ∷ []) c.new-statuses.ensures.items))
