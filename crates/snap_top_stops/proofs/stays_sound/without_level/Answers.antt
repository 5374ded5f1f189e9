use Rattle.std.proofs.Common.{◌∙◌, ap, length}
use Rattle.disk_model.specs.Files.{parity_of}
use Rattle.disk_memory.specs.Vault.{VaultValue, vault_value, view_of}
use Rattle.snap_top_histories.proofs.ChangedLemmas.{damaged_new}
use Rattle.snap_top_stops.proofs.StaysSoundLemmas.{either_way, emptied}
use Rattle.snap_top_stops.proofs.stays_sound.without_level.Goals as goal

pub returns-clause-changed : goal.returns-clause-changed
returns-clause-changed c = damaged_new _ _ _ _ c.in_ok-set_parity.ensures.set c.requires c.in_ok-set_parity.ensures.settled_now c.in_ok-set_parity.ensures.drafts

pub returns-clause-lost : goal.returns-clause-lost
returns-clause-lost c =
    let damaged = c.in_ok-set_parity.ensures.set in
    either_way (vault_value c.args.vault).told _ _
    (λ is. ap (λ (v : VaultValue). length (parity_of (view_of v).files 0)) (damaged.told is))
    (λ is. ap (λ (v : VaultValue). length (parity_of (view_of v).files 0)) (damaged.lost is))
    ∙ emptied (vault_value c.args.vault).held_now.files.parities
