use Rattle.snap_config.specs.Config.{read_lines}
use Rattle.snap_config.specs.Builder.{no_lines, take_line}
use Rattle.snap_config.specs.Line.{lines_of}
use Rattle.snap_config.specs.Reading.{builder_value}
use Rattle.snap_config.proofs.ConfigLemmas.{read-next, read-refused, read-last, read-last_refused, refused_at}
use Rattle.snap_config.proofs.config.read_lines.Goals as goal

pub returns-in-Err-clause-refused : goal.returns-in-Err-clause-refused
returns-in-Err-clause-refused c =
    let builder = builder_value c.loop-line.builder in
    rw c.at.ensures (refused_at c.in-Err.fault c.loop-line.number (take_line c.in-Some.line.now builder) (read_lines 1 no_lines (lines_of c.args.bytes.now)) c.in-Err.ensures
    (λ why said. read-refused c.args.bytes.now c.loop-line.number builder why c.loop-line.rest.now _ _ c.loop-line.invariant c.in-Some.ensures said))

pub loop-line-preserved : goal.loop-line-preserved
loop-line-preserved c =
    read-next c.args.bytes.now c.loop-line.number (builder_value c.loop-line.builder) _ c.loop-line.rest.now _ _ c.loop-line.invariant c.in-Some.ensures c.in_default-take_line.ensures

pub returns-in-Ok-clause-ok : goal.returns-in-Ok-clause-ok
returns-in-Ok-clause-ok c =
    read-last c.args.bytes.now c.loop-line.number (builder_value c.loop-line.builder) _ c.loop-line.rest.now c.loop-line.invariant c.in_default.ensures c.in-Ok.ensures

pub returns-in-Err-take_line-clause-refused : goal.returns-in-Err-take_line-clause-refused
returns-in-Err-take_line-clause-refused c =
    let builder = builder_value c.loop-line.builder in
    rw c.at-in-Err-take_line.ensures (refused_at c.in-Err-take_line.fault c.loop-line.number (take_line c.loop-line.rest.now builder) (read_lines 1 no_lines (lines_of c.args.bytes.now)) c.in-Err-take_line.ensures
    (λ why said. read-last_refused c.args.bytes.now c.loop-line.number builder why c.loop-line.rest.now c.loop-line.invariant c.in_default.ensures said))
