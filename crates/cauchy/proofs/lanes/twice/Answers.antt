use Rattle.std.proofs.Common.{◌++◌, ◌%◌, get_or, sym, subst, arith, length-append}
use Rattle.std.proofs.lemmas.Simd.{pick_l_whole}
use Rattle.cauchy.specs.Lanes.{HasLanes}
use Rattle.cauchy.proofs.LaneLemmas.{HasLanes-twice}
use Rattle.cauchy.proofs.lanes.twice.Goals as goal

pub returns : goal.returns
returns c =
    let table = c.args.table in
    subst (λ v. HasLanes v (λ k. get_or table (k % 16) 0))
    (sym (pick_l_whole 0 (table ++ table) 32 (omega (arith, length-append table table)))) (HasLanes-twice table (omega arith))
