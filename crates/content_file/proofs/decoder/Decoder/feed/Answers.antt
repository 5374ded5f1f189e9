use Rattle.std.proofs.Common.{arith}
use Rattle.content_file.proofs.DecodingLemmas.{bytes_more, bytes_all, refusal_kept, fed_refused}
use Rattle.content_file.proofs.decoder.Decoder.feed.Goals as goal

pub returns-in-Some-clause-fed : goal.returns-in-Some-clause-fed
returns-in-Some-clause-fed c = λ fed has.
    fed_refused c.args.self.now fed c.args.piece.now c.in-Some.fault c.in-Some.is (bytes_all c.args.piece.now (λ i. omega (arith, c.type_inv.piece i))) has

pub returns-in-Some-clause-answer : goal.returns-in-Some-clause-answer
returns-in-Some-clause-answer c = λ fed has. refusal_kept c.args.self.now fed c.args.piece.now c.in-Some.fault c.in-Some.is has

pub returns-in-Err-clause-fed : goal.returns-in-Err-clause-fed
returns-in-Err-clause-fed c = λ fed has. record {
  bytes = bytes_more fed c.args.piece.now has.bytes (bytes_all c.args.piece.now (λ i. omega (arith, c.type_inv.piece i)));
  kept = c.in-Err.ensures.answer fed has;
}
