use Rattle.md5_lanes.proofs.LoadLemmas.{four_words}
use Rattle.md5_lanes.proofs.load.four.Goals as goal

pub returns : goal.returns
returns c = λ j lt. four_words c.args.bytes.now c.args.at j c.requires c.type_inv.bytes lt
