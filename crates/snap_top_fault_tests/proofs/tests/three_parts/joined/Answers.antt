use Rattle.std.proofs.Common.{List, [], ◌∷◌, ℕ, true, sym, ap, subst}
use Rattle.disk_model.specs.Vault.{IsSettled, VaultView}
use Rattle.disk_memory.specs.Vault.{vault_view}
use Rattle.parity_split.specs.Split.{split_view}
use Rattle.snap_top.proofs.LevelsLemmas.{settled_by}
use Rattle.snap_top_fault_tests.proofs.tests.three_parts.joined.Goals as goal

pub returns-clause-settled : goal.returns-clause-settled
returns-clause-settled c =
    subst (λ (v : VaultView). IsSettled (split_view (3 ∷ []) 2048 v)) (ap vault_view (sym c.new.ensures)) (settled_by true (3 ∷ []) 2048 (vault_view c.args.files) c.requires.settled)
