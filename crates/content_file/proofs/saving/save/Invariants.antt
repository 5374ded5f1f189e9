use Rattle.std.proofs.Common.{◌≡◌, length}
use Rattle.disk_model.specs.Vault.{copies_of}
use Rattle.content_file.specs.Spelling.{spelling}
use Rattle.content_file.proofs.SaveLemmas.{Saving}
use Rattle.content_file.proofs.saving.save.Given as goal

abbrev pub invariant-loop-copy : goal.invariant-loop-copy
invariant-loop-copy g l = record { saving : Saving (length l.fn.buffer) l.copy (spelling l.table) (g.V.Vault.view l.fn.vault) (g.V.Vault.view l.vault); end : l.copy-end ≡ copies_of (g.V.Vault.view l.fn.vault); long : length l.buffer ≡ length l.fn.buffer }
