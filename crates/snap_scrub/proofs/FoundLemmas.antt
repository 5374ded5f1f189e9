-- What is found, added up.
use Rattle.std.proofs.Common.{◌≡◌, List, sym, subst}
use Rattle.snap_report.specs.declared.events.Event.{Event}
use Rattle.snap_scrub.specs.declared.verdict.Found.{Found}
use Rattle.snap_scrub.specs.Looking.{AreFound}

-- the same events
pub found_as : (events same : List Event) (found : Found) → events ≡ same → AreFound same found → AreFound events found
found_as events same found is are = subst (λ (es : List Event). AreFound es found) (sym is) are
