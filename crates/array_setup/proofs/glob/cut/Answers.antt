use Rattle.array_setup.proofs.TextLemmas.{cut_result}
use Rattle.array_setup.proofs.glob.cut.Goals as goal

pub returns : goal.returns
returns c = cut_result c.args.at c.args.text.now c.split_once.result c.split_once.ensures.cases c.requires c.utf8.text
