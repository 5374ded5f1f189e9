use Rattle.std.proofs.Common.{◌-◌, length, take}
use Rattle.std.proofs.lemmas.Bool.Decides.{Decides-eqb}
use Rattle.std.proofs.lemmas.Slice.Eq.{ends_is}
use Rattle.snap_top_restores.proofs.FixedLineLemmas.{one_fixed}
use Rattle.snap_top_restores.proofs.reached.tells_one_fixed.Goals as goal

pub returns : goal.returns
returns c ends =
    let both = ends_is Decides-eqb c.args.printed.now one_fixed c.ends_with.result c.ends_with.ensures.value in
    (take (length c.args.printed.now - length one_fixed) c.args.printed.now, both.0 ends)
