use Rattle.content_file.specs.Load.{ReadsInPieces}
use Rattle.content_file.proofs.LoadLoop.{HasPassed}
use Rattle.content_file.proofs.OrderCopies.{HasRead}
use Rattle.content_file.proofs.loading.load_by.Given as goal

abbrev pub invariant-loop-copy : goal.invariant-loop-copy
invariant-loop-copy g l =
    HasPassed (g.V.Vault.view l.fn.vault) (g.V.Vault.view l.vault) l.copy l.failed l.damages
    × ReadsInPieces l.copy (g.V.Vault.view l.fn.vault) (g.V.Vault.view l.vault)
    × HasRead (g.V.Vault.view l.fn.vault) (g.V.Vault.view l.vault) l.copy l.failed l.damages
