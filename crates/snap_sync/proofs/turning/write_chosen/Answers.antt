use Rattle.std.proofs.Common.{ℕ, sym, subst}
use Rattle.parity_writer.specs.Summing.{AreSumsOf}
use Rattle.snap_sync.proofs.turning.write_chosen.Goals as goal

pub write_sums-requires-clause-sums : goal.write_sums-requires-clause-sums
write_sums-requires-clause-sums g c κs lives =
    subst (λ (n : ℕ). AreSumsOf c.args.near.now.window.now n c.args.sums.now) (sym c.requires.levels) c.requires.summed

pub returns : goal.returns
returns g c =
    let it = c.write_sums.ensures in
    record { calls = it.calls; ran = it.ran; changes = it.changes; written = it.written }
