use Rattle.std.proofs.Common.{◌≡◌, length}
use Rattle.content_file.specs.Spelling.{spelling}
use Rattle.content_file.proofs.Drafts.{Filling}
use Rattle.content_file.proofs.saving.fill.Given as goal

abbrev pub invariant-loop-encoder : goal.invariant-loop-encoder
invariant-loop-encoder g l = record { filling : Filling (length l.fn.buffer) l.copy (spelling l.table) l.encoder (g.V.Vault.view l.fn.vault) (g.V.Vault.view l.vault); long : length l.buffer ≡ length l.fn.buffer }

abbrev pub decreases-loop-encoder : goal.decreases-loop-encoder
decreases-loop-encoder g l = length l.encoder
