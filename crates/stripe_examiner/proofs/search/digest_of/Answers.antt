use Rattle.std.proofs.Common.{◌∙◌, ap, sym, arith}
use Rattle.std.proofs.lemmas.List.{take_all}
use Rattle.block_hash.specs.Hash.{hash}
use Rattle.stripe_examiner.proofs.search.digest_of.Goals as goal

pub returns-in-Some : goal.returns-in-Some
returns-in-Some c =
    c.requires.made c.in-Some.whole c.in-Some.is
    ∙ ap (hash c.args.shape.kind c.args.shape.seed) (sym (take_all c.args.real c.args.block.now (omega arith)))
