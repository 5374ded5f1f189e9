use Rattle.snap_top.proofs.AlikeLemmas.{a_fix_alike, checks_alike}
use Rattle.snap_top.proofs.laws.what_is_read_alike_is_found_alike.Goals as goal

pub returns-clause-checks : goal.returns-clause-checks
returns-clause-checks g c mode run again one other = checks_alike c.what_is_read_determines_what_is_found.ensures.stripes mode _ _ _ _ run.status again.status one other

pub returns-clause-fix : goal.returns-clause-fix
returns-clause-fix g c run again one ends =
    let says = c.a_check_finds_what_a_fix_finds.ensures in
    a_fix_alike c.what_is_read_determines_what_is_found.ensures.stripes (record {
      plans = says.plans;
      stripes = says.stripes;
      events = says.events;
      fixed = says.fixed;
    }) _ _ _ _ run.status again.status one ends
