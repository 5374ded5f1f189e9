use Rattle.std.proofs.Common.{refl, arith}
use Rattle.disk_model.specs.Files.{parity_of}
use Rattle.disk_memory.specs.Vault.{vault_view}
use Rattle.snap_top_refusals.proofs.UnheardLemmas.{first_byte, not_zero}
use Rattle.snap_top_refusals.proofs.unheard.has_parity_byte.Goals as goal

pub returns : goal.returns
returns c set =
    let byte = first_byte (parity_of (vault_view c.args.vault).files 0) c.parity_read.new.out c.in-Ok.count (c.in-Ok.ensures.found refl) (omega (arith, c.if-count-eq0.false)) (not_zero _ set) in
    record { at = 0; within = byte.0; other = byte.1 }
