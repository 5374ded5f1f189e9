use Rattle.std.proofs.Common.{Some, None, Err, sym, subst}
use Rattle.content_file.specs.ReadingOn.{BodyValue}
use Rattle.content_file.specs.Body.{GoesOn}
use Rattle.content_file.specs.Decoding.{StopsOn}
use Rattle.std.specs.Prelude.{Option}
use Rattle.content_file.proofs.Starts.{goes_then}
use Rattle.content_file.proofs.DecodingLemmas.{start_stops}
use Rattle.content_file.proofs.ending.read_on.Goals as goal

pub returns-in-Err-clause-stops : goal.returns-in-Err-clause-stops
returns-in-Err-clause-stops c =
    subst (λ (p : Option BodyValue). StopsOn p c.args.bytes.now (Err c.in-Err.refusal)) (sym c.in-None.is) (start_stops c.args.bytes.now c.in-Err.refusal c.in-Err.ensures.err)

pub returns-in-Ok-clause-goes : goal.returns-in-Ok-clause-goes
returns-in-Ok-clause-goes c =
    subst (λ (p : Option BodyValue). GoesOn p c.args.bytes.now (Some c.read-answer.new.self) c.read-answer.result.0.now) (sym c.in-None.is)
    (goes_then None (Some c.in-Ok.started) (Some c.read-answer.new.self) c.args.bytes.now c.in-Ok.rest.now c.read-answer.result.0.now c.in-Ok.ensures.ok.goes_on c.read-answer.ensures.goes)
