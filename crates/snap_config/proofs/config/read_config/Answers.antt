use Rattle.std.proofs.Common.{rules}
use Rattle.array_setup.specs.Setup.{setup_value}
use Rattle.snap_config.specs.Line.{lines_of}
use Rattle.snap_config.specs.Reading.{builder_value}
use Rattle.snap_config.proofs.SetupLemmas.{setup_ok, size_read}
use Rattle.snap_config.proofs.config.read_config.Goals as goal

pub returns-clause-valid : goal.returns-clause-valid
returns-clause-valid c = setup_ok (λ setup. setup_value setup) c.args.bytes.now c.args.log c.map_err.result (search rules)

pub finish-requires : goal.finish-requires
finish-requires c = size_read (lines_of c.args.bytes.now) (builder_value c.in_ok-builder.builder) c.in_ok-builder.ensures.ok
