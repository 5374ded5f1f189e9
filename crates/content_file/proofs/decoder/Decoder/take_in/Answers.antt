use Rattle.std.proofs.Common.{ℕ, List, ◌++◌, ◌∙◌, arith}
use Rattle.content_file.specs.Decoding.{IsCut, HasFed}
use Rattle.content_file.proofs.DecodingLemmas.{holds_of, fed_of, may_go_on, cut_off, bytes_more, bytes_all, on_ok_if}
use Rattle.content_file.proofs.decoder.Decoder.take_in.Goals as goal

pub returns-in-Ok-clause-fed : goal.returns-in-Ok-clause-fed
returns-in-Ok-clause-fed c = λ fed has.
    let all = fed ++ c.args.chunk.now in
    let mid = c.in_ok-hold.ensures.holds fed (holds_of c.args.self.now fed c.requires has).0 in
    let bytes = bytes_more fed c.args.chunk.now has.bytes (bytes_all c.args.chunk.now (λ i. omega (arith, c.type_inv.chunk i))) in
    fed_of c.read_whole.new.self all (c.in-Ok.ensures.same ∙ c.in_ok-hold.ensures.same ∙ c.requires) bytes (c.in-Ok.ensures.holds all mid) (may_go_on c.read_whole.new.self all (c.in-Ok.ensures.reads all mid))

pub returns-in-Err-clause-fed : goal.returns-in-Err-clause-fed
returns-in-Err-clause-fed c =
    on_ok_if (IsCut c.in-Err.fault) ((fed : List ℕ) → HasFed c.args.self.now fed → HasFed c.read_whole.new.self (fed ++ c.args.chunk.now)) c.past_cut.result c.past_cut.ensures.cut (λ cut fed has.
    let all = fed ++ c.args.chunk.now in
    let mid = c.in_ok-hold.ensures.holds fed (holds_of c.args.self.now fed c.requires has).0 in
    let bytes = bytes_more fed c.args.chunk.now has.bytes (bytes_all c.args.chunk.now (λ i. omega (arith, c.type_inv.chunk i))) in
    fed_of c.read_whole.new.self all (c.in-Err.ensures.same ∙ c.in_ok-hold.ensures.same ∙ c.requires) bytes (c.in-Err.ensures.holds all mid) (cut_off all c.in-Err.fault (c.in-Err.ensures.reads all mid) cut))
