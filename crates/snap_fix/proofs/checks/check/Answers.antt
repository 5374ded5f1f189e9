use Rattle.std.proofs.Common.{◌++◌, refl, ◌∙◌}
use Rattle.snap_report.specs.EndLines.{check_text}
use Rattle.snap_report.specs.EventLines.{lines_of}
use Rattle.snap_report.proofs.PutsLemmas.{puts_then}
use Rattle.snap_report.proofs.ToldLemmas.{told_then}
use Rattle.snap_fix.specs.Checking.{plan_for}
use Rattle.stripe_examiner.specs.Findings.{opening_events, events_of}
use Rattle.snap_fix.proofs.AuditedLemmas.{audit_finds_nothing, capped}
use Rattle.snap_fix.proofs.BeginningLemmas.{all_listed}
use Rattle.snap_fix.proofs.CourseLemmas.{entries_begun, work_begun, read_begun}
use Rattle.snap_fix.proofs.checks.check.Goals as goal

pub tell_opening-opening-requires : goal.tell_opening-opening-requires
tell_opening-opening-requires g c = entries_begun _ _ _ _ _ _ _ c.in_ok-work.ensures.begun

pub check_stripes-stripes-requires-clause-work : goal.check_stripes-stripes-requires-clause-work
check_stripes-stripes-requires-clause-work g c κs within = work_begun _ _ _ _ _ _ _ c.in_ok-work.ensures.begun

pub returns-in_default-clause-failed : goal.returns-in_default-clause-failed
returns-in_default-clause-failed g c =
    let begun = c.in_ok-work.ensures.begun in
    (all_listed _ _ _ begun.as_many begun.listed, refl, refl, refl, refl)

pub returns-clause-checks : goal.returns-clause-checks
returns-clause-checks g c =
    let begun = c.in_ok-work.ensures.begun in
    let table = c.args.task.now.table.now in
    let plan = plan_for table c.in_ok-work.work in
    let checks = c.check_stripes-stripes.ensures.checks in
    let told = told_then _ _ _ table.columns (opening_events plan) (events_of plan checks.stripes) _ _ _ _ _ _ c.tell_opening-opening.ensures.told checks.looks.told in
    let counts = c.and-counts.ensures (opening_events plan) (events_of plan checks.stripes) c.tell_opening-opening.ensures.counts checks.looks.counts_are in
    record {
      lists = begun.lists;
      mids = _;
      as_many = begun.as_many;
      listed = begun.listed;
      plan = plan;
      plan_is = record { scope = begun.scope; table_is = refl; entries = begun.entries };
      stripes = checks.stripes;
      numbers = checks.numbers ∙ begun.stripes;
      are = checks.looks.are;
      read = read_begun _ _ _ _ _ _ _ begun plan checks.stripes _ _ checks.read;
      levels = checks.looks.levels;
      spare = checks.looks.spare;
      given = told.given;
      puts = puts_then _ (lines_of table.columns (opening_events plan ++ events_of plan checks.stripes)) (check_text c.and-counts.result.found) _ _ _ told.puts c.end_check.ensures.puts;
      settled = c.end_check.ensures.settled;
      findings = counts.found;
      left = counts.left;
      no_blocks = refl;
      no_parities = refl;
      audited = λ audit. capped (audit_finds_nothing plan checks.stripes (begun.scope.mode_is ∙ audit) checks.looks.are) counts.found;
    }
