use Rattle.std.proofs.Common.{◌≡◌, ◌==◌, ◌+◌, ◌++◌, codes, false, ap}
use Rattle.std.proofs.lemmas.Bool.{ne_eqb}
use Rattle.std.specs.Fmt.{decimal}
use Rattle.snap_report.proofs.PutsLemmas.{puts_then, puts_same}
use Rattle.snap_report.proofs.pages.Lines.put_level.Goals as goal

pub returns-else-level-eq0 : goal.returns-else-level-eq0
returns-else-level-eq0 g c =
    let above : (c.args.level == 0) ≡ false = ne_eqb c.args.level 0 c.if-level-eq0.false in
    rw above (puts_same _ _ _ _ _ (puts_then _ _ _ _ _ _ c.put_number.ensures c.put-else-level-eq0.ensures) (ap (λ n. decimal (n + 1) ++ codes "-parity") c.from.ensures))
