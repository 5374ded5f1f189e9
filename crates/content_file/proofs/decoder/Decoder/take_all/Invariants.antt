use Rattle.std.proofs.Common.{◌≡◌, length, None}
use Rattle.content_file.specs.Decoding.{FeedsFront, refusal_of}
use Rattle.content_file.proofs.decoder.Decoder.take_all.Given as goal

abbrev pub invariant-loop-rest : goal.invariant-loop-rest
invariant-loop-rest l = record { none : refusal_of l.self ≡ None; front : FeedsFront l.fn.self l.piece l.self l.rest }

abbrev pub decreases-loop-rest : goal.decreases-loop-rest
decreases-loop-rest l = length l.rest
