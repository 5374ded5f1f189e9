use Rattle.std.proofs.Common.{sym, ap, ◌∙◌}
use Rattle.content_file.specs.Flaw.{Good}
use Rattle.content_file.specs.ReadingOn.{BodyValue}
use Rattle.content_file.specs.Body.{table_of}
use Rattle.content_file.proofs.Fields.{some_is}
use Rattle.content_file.specs.Decoding.{Decodes}
use Rattle.content_file.proofs.Steps.{handed_on}
use Rattle.content_file.proofs.DecodingLemmas.{holds_of, finishes}
use Rattle.content_file.proofs.decoder.Decoder.finish.Goals as goal

pub returns-in_err-read_whole-clause-answer : goal.returns-in_err-read_whole-clause-answer
returns-in_err-read_whole-clause-answer c = λ fed has.
    handed_on (Decodes fed) c.from_residual.result c.in_err-read_whole.field-0.0 c.from_residual.ensures.1 (c.in_err-read_whole.ensures.reads fed (holds_of c.args.self fed c.in_default.is has).0)

pub returns-clause-answer : goal.returns-clause-answer
returns-clause-answer c = λ fed has.
    let reads = c.in_ok-read_whole.ensures.reads fed (holds_of c.args.self fed c.in_default.is has).0 in
    finishes c.finish.result c.in-Some-body.body fed has.bytes (reads.2 ∙ ap (λ (b : BodyValue). Good (table_of b.builder)) (some_is reads.0 c.in-Some-body.body (sym reads.1 ∙ c.in-Some-body.is))) c.finish.ensures.ok c.finish.ensures.memory
