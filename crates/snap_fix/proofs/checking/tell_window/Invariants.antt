use Rattle.std.proofs.Common.{List, take}
use Rattle.stripe_reader.specs.WindowValue.{WindowValue}
use Rattle.stripe_examiner.specs.Facts.{StripeFacts}
use Rattle.stripe_examiner.specs.Findings.{events_of}
use Rattle.repair_scope.specs.Plan.{seen}
use Rattle.stripe_examiner.proofs.TellingLemmas.{Tells}
use Rattle.snap_fix.specs.Checking.{AreShown}
use Rattle.snap_fix.proofs.checking.tell_window.Given as goal

-- what is found in the stripes so far is told
abbrev pub invariant-loop-k : goal.invariant-loop-k
invariant-loop-k g l =
    (all : List StripeFacts) (window : WindowValue) → AreShown (seen l.plan) all l.stripes window l.rooms
    → Tells g.W.Sink.view (λ b. (goal.Report-dyn g (b.vtable, b.value)).standing b.value) (λ b. (goal.Report-dyn g (b.vtable, b.value)).stands b.value) l.plan.table.now.columns
    (events_of (seen l.plan) (take l.k all))
    l.counts l.fn.lines l.lines l.fn.reports.items l.reports.items
