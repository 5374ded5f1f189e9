use Rattle.snap_top.proofs.OneArrayLemmas.{a_fix_of_one_array, checks_of_one_array}
use Rattle.snap_top.proofs.PrintsAlikeLemmas.{prints_of_one_array}
use Rattle.snap_top.proofs.laws.one_array_is_found_alike.Goals as goal

pub returns-clause-checks : goal.returns-clause-checks
returns-clause-checks g c mode run again one other =
    checks_of_one_array c.what_is_read_determines_what_is_found.ensures.stripe c.one_table_has_a_spelling.ensures mode _ _ _ _ run.status again.status one other

pub returns-clause-fix : goal.returns-clause-fix
returns-clause-fix g c run again one ends =
    let says = c.a_check_finds_what_a_fix_finds.ensures in
    a_fix_of_one_array c.what_is_read_determines_what_is_found.ensures.stripe says.facts (record {
      plans = says.plans;
      stripes = says.stripes;
      events = says.events;
      fixed = says.fixed;
    }) c.one_table_has_a_spelling.ensures _ _ _ _ run.status again.status one ends

pub returns-clause-prints : goal.returns-clause-prints
returns-clause-prints g c command text counted run again one other = prints_of_one_array c.one_table_has_a_spelling.ensures command text counted _ _ _ _ run.status again.status one other
