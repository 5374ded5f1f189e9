use Rattle.std.proofs.Common.{sym, subst}
use Rattle.parity_writer.specs.Summing.{HaveSize}
use Rattle.parity_writer.proofs.summing.sum_window.Goals as goal

pub for_each_mut-requires-clause-accepts : goal.for_each_mut-requires-clause-accepts
for_each_mut-requires-clause-accepts g c κs outlive k own below is = (
  c.requires.columns,
  c.requires.levels,
  subst (HaveSize c.args.window.now.block_size) (sym is) (c.requires.room k own.now below),
)
