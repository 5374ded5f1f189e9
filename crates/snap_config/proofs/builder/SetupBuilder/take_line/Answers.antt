use Rattle.std.proofs.Common.{sym, ◌∙◌}
use Rattle.snap_config.specs.Reading.{builder_value}
use Rattle.snap_config.proofs.BuilderLemmas.{line-not_utf8, line-skipped, line-content}
use Rattle.snap_config.proofs.builder.SetupBuilder.take_line.Goals as goal

pub returns-in_default : goal.returns-in_default
returns-in_default c = line-not_utf8 c.args.line.now (builder_value c.args.self.now) c.in_default.ensures.cases.0

pub returns-then-is_skipped : goal.returns-then-is_skipped
returns-then-is_skipped c =
    line-skipped c.args.line.now c.in-Ok.text.now c.content_of-content.result.now (builder_value c.args.self.now) c.in-Ok.ensures.cases.1 c.in-Ok.ensures.cases.0 c.content_of-content.ensures
    (sym c.is_skipped.ensures ∙ c.if-is_skipped.true)

pub returns : goal.returns
returns c =
    rw (line-content c.args.line.now c.in-Ok.text.now c.content_of-content.result.now (builder_value c.args.self.now) c.in-Ok.ensures.cases.1 c.in-Ok.ensures.cases.0 c.content_of-content.ensures
    (sym c.is_skipped.ensures ∙ c.if-is_skipped.false)) c.take_content.ensures
