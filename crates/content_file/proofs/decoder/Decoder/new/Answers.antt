use Rattle.std.proofs.Common.{[], refl, ◌<◌}
use Rattle.std.proofs.lemmas.List.Elements.{All-nil}
use Rattle.content_file.proofs.DecodingLemmas.{first_holding, fed_of, nothing_may_go_on}
use Rattle.content_file.proofs.decoder.Decoder.new.Goals as goal

pub returns : goal.returns
returns c = fed_of _ [] refl (All-nil (λ byte. byte < 256)) (first_holding _ refl c.in_ok-with_capacity.ensures.items refl c.new.ensures) nothing_may_go_on
