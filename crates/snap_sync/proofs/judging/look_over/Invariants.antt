use Rattle.std.proofs.Common.{◌≡◌, ◌≤◌, length, map, take}
use Rattle.snap_report.specs.Told.{Told}
use Rattle.snap_sync.specs.Closing.{verified_in}
use Rattle.stripe_findings.specs.Findings.{events_of}
use Rattle.stripe_findings.specs.Reading.{is_verified}
use Rattle.snap_sync.specs.Work.{more_findings}
use Rattle.stripe_findings.proofs.SlotLemmas.{readings_to}
use Rattle.snap_sync.proofs.judging.look_over.Given as goal

abbrev pub invariant-loop-i : goal.invariant-loop-i
invariant-loop-i g l =
    let readings = readings_to l.stripes l.window l.i in
    record {
      told : Told g.W.Sink.view (λ b. (goal.Report-dyn g (b.vtable, b.value)).standing b.value) (λ b. (goal.Report-dyn g (b.vtable, b.value)).stands b.value)
          l.table.columns (events_of l.table readings) l.fn.lines l.lines l.fn.reports.items l.reports.items;
      chosen : take l.i l.chosen ≡ map (is_verified l.table) readings;
      synced : l.counts.synced ≡ verified_in l.table readings;
      few : l.counts.synced ≤ l.i;
      findings : l.counts.findings ≡ more_findings 0 (length (events_of l.table readings));
    }
