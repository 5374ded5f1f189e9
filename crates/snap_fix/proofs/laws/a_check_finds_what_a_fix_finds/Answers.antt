use Rattle.snap_fix.proofs.FoundLemmas.{fix_finds, fixed_finds}
use Rattle.snap_fix.proofs.ModeLemmas.{facts_of_check, facts_of_fix, plans_differ, same_events, same_stripes}
use Rattle.snap_fix.proofs.laws.a_check_finds_what_a_fix_finds.Goals as goal

pub returns-clause-found : goal.returns-clause-found
returns-clause-found c plan stripes finishes written there = fix_finds plan stripes finishes written there

pub returns-clause-fixed : goal.returns-clause-fixed
returns-clause-fixed c plan starts stripes finishes firsts news has tell = fixed_finds plan starts stripes finishes firsts news has tell

pub returns-clause-plans : goal.returns-clause-plans
returns-clause-plans c selection names table lists check fix one other = plans_differ selection names table lists check fix one other

pub returns-clause-stripes : goal.returns-clause-stripes
returns-clause-stripes c check fix differ = same_stripes check fix differ

pub returns-clause-facts : goal.returns-clause-facts
returns-clause-facts c check fix facts differ = (facts_of_fix check fix differ facts, facts_of_check check fix differ facts)

pub returns-clause-events : goal.returns-clause-events
returns-clause-events c check fix stripes differ = same_events check fix differ stripes
