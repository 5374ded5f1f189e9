use Rattle.std.proofs.Common.{◌*◌, get_or}
use Rattle.cauchy.specs.Matrix.{parity_of as level_of}
use Rattle.disk_model.specs.Bytes.{put}
use Rattle.disk_model.specs.Ran.{RanAll, log_of}
use Rattle.disk_model.specs.Vault.{Reads, state_of}
use Rattle.parity_writer.specs.Calls.{sum_calls}
use Rattle.parity_writer.specs.Keeps.{WritesBlock}
use Rattle.parity_writer.specs.WindowRow.{row_at}
use Rattle.parity_writer.proofs.Keeping.{Keeping}
use Rattle.parity_writer.proofs.LevelsLemmas.{Mapped}
use Rattle.parity_writer.proofs.writing.write_levels.Given as goal

abbrev pub invariant-loop-level : goal.invariant-loop-level
invariant-loop-level g l =
    let size = l.window.block_size in
    let stripe = get_or l.stripes l.i 0 in
    record {
      keeping : Keeping (WritesBlock size stripe) (g.V.Vault.view l.fn.vault) (g.V.Vault.view l.vault);
      ran : RanAll (sum_calls l.level size stripe (row_at l.window l.i)) (log_of (state_of (g.V.Vault.view l.fn.vault))) (log_of (state_of (g.V.Vault.view l.vault)));
      written : Reads (Mapped (λ level xs. put xs (stripe * size) (level_of level size (row_at l.window l.i))) l.level (g.V.Vault.view l.fn.vault).files) (g.V.Vault.view l.vault);
    }
