use Rattle.std.proofs.Common.{arith}
use Rattle.snap_config.proofs.PartsLemmas.{may_be}
use Rattle.snap_config.proofs.builder.SetupBuilder.add_parity.Goals as goal

pub new-files-requires : goal.new-files-requires
new-files-requires c = may_be c.args.argument.now c.in_ok-files.files.items c.in_ok-files.ensures (omega (arith, c.if-len-gt-MOST_PARTS.false, c.len.ensures))
