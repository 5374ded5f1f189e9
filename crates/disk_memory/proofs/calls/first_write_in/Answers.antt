use Rattle.std.proofs.Common.{◌∙◌, sym}
use Rattle.disk_model.specs.Vault.{VaultDone}
use Rattle.disk_memory.specs.Calls.{is_write, vault_done}
use Rattle.disk_memory.proofs.VaultLemmas.{position-map}
use Rattle.disk_memory.proofs.calls.first_write_in.Goals as goal

pub returns : goal.returns
returns c = c.first_write_entry.ensures ∙ sym (position-map (λ (d : VaultDone). is_write d.call) vault_done c.args.entries.now)
