use Rattle.std.proofs.Common.{◌≡◌, ℕ, List, ◌++◌, length, take, sym, ap, ◌∙◌, arith}
use Rattle.std.proofs.lemmas.Bool.Decides.{Decides-eqb}
use Rattle.std.proofs.lemmas.List.{take-append-drop}
use Rattle.content_file.specs.Decoding.{Feeds}
use Rattle.content_file.proofs.Steps.{handed_on}
use Rattle.content_file.proofs.DecodingLemmas.{holds_of, bytes_all, front_more, front_all, front_refused}
use Rattle.content_file.proofs.decoder.Decoder.take_all.Goals as goal

pub returns-in_err-take_in-clause-answer : goal.returns-in_err-take_in-clause-answer
returns-in_err-take_in-clause-answer c = λ fed has.
    let rest = c.loop-rest.rest.now in
    let chunk = c.split_at.result.0.now in
    let after = c.split_at.result.1.now in
    let next : rest ≡ chunk ++ after =
    sym (ap (λ (f : List ℕ). f ++ after) c.split_at.ensures.front ∙ ap (λ (b : List ℕ). take c.min.result rest ++ b) c.split_at.ensures.back ∙ take-append-drop c.min.result rest) in
    handed_on (λ r. Feeds (fed ++ c.args.piece.now) r) c.from_residual.result c.in_err-take_in.field-0.0 c.from_residual.ensures.1
    (front_refused c.args.self.now c.loop-rest.self c.args.piece.now rest chunk after c.in_err-take_in.field-0.0 c.loop-rest.invariant.front next
    (bytes_all c.args.piece.now (λ i. omega (arith, c.type_inv.piece i))) c.in_err-take_in.ensures.answer fed has)

pub loop-rest-preserved : goal.loop-rest-preserved
loop-rest-preserved c =
    let rest = c.loop-rest.rest.now in
    let chunk = c.split_at.result.0.now in
    let after = c.split_at.result.1.now in
    let next : rest ≡ chunk ++ after =
    sym (ap (λ (f : List ℕ). f ++ after) c.split_at.ensures.front ∙ ap (λ (b : List ℕ). take c.min.result rest ++ b) c.split_at.ensures.back ∙ take-append-drop c.min.result rest) in
    record {
      none = c.in_ok-take_in.ensures.same;
      front = front_more c.args.self.now c.loop-rest.self c.take_in.new.self c.args.piece.now rest chunk after c.loop-rest.invariant.front next c.in_ok-take_in.ensures.fed;
    }

pub returns-clause-fed : goal.returns-clause-fed
returns-clause-fed c = λ fed has.
    front_all c.args.self.now c.loop-rest.self c.args.piece.now c.loop-rest.rest.now c.loop-rest.invariant.front
    ((Decides-eqb (length c.loop-rest.rest.now) 0).0 (sym c.is_empty.ensures ∙ c.loop-rest-test.false)) fed has

pub returns-clause-answer : goal.returns-clause-answer
returns-clause-answer c = λ fed has.
    (holds_of c.loop-rest.self (fed ++ c.args.piece.now) c.loop-rest.invariant.none (returns-clause-fed c fed has)).1
