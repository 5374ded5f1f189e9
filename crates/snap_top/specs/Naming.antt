-- What a run tells that was asked to check an array, or for another thing that changes no files.
use Rattle.std.specs.Prelude.{◌≡◌, ◌↔◌, ℕ, List, ◌++◌, Bool, false, IsTrue, count_by}
use Rattle.disk_model.specs.Cause.{Rose, RoseBy}
use Rattle.parity_writer.specs.Sound.{Sound, Closed}
use Rattle.stripe_examiner.specs.Counts.{at_most}
use Rattle.snap_fix.specs.Audited.{FindsNothing}
use Rattle.snap_fix.specs.Course.{check_events}
use Rattle.snap_fix.specs.Genuine.{AreGenuine, held_row}
use Rattle.stripe_examiner.specs.Looking.{unread_in}
use Rattle.repair_scope.specs.declared.scope.Mode.{Mode}
use Rattle.repair_scope.specs.declared.scope.Mode.TheVariants as modes
use Rattle.snap_report.specs.EndLines.{check_text}
use Rattle.snap_report.specs.EventLines.{lines_of}
use Rattle.snap_report.specs.Kind.{is_finding}
use Rattle.snap_report.specs.Telling.{Tells, between}
use Rattle.snap_report.specs.declared.events.Event.{Event}
use Rattle.snap_top.specs.Check.{CheckRun}
use Rattle.snap_top.specs.Output.{IsEndStatus}
use Rattle.snap_top.specs.Lost.{NamesLost, NamesPending}
use Rattle.snap_top.specs.Entry.{Entry, Exit}
use Rattle.snap_top.specs.Began.{IsCheckOf}

-- all events of a check
abbrev pub events_found : CheckRun → List Event
events_found run = check_events run.plan run.stripes

-- It went to its end: it looked at all stripes with something selected. Each level that it could not read was counted
-- as a fault, and so was each cell (`ChecksOver.read`). It printed all lines, or a prefix where the output failed; its
-- status is 0 exactly where that did not and nothing was found. A failure of the output is counted, and changes nothing
-- else of this.
pub record HasChecked (mode : Mode) (before : Entry) (exit : Exit) (status : ℕ) (run : CheckRun) : Type 0 where
  pub is_check : IsCheckOf mode before exit run
  pub unread_levels : RoseBy (unread_in run.readings) before.opener.vault.faults exit.after.vault.faults
  pub output_failed : Bool
  pub printed : Tells
      (lines_of run.loaded.columns (events_found run) ++ check_text (at_most (count_by is_finding (events_found run))))
      (between false before.out) (between output_failed exit.after.out)
  pub status_is : IsEndStatus status output_failed (count_by is_finding (events_found run) ≡ 0)
  pub output : IsTrue output_failed → Rose before.out.faults exit.after.out.faults

-- A check that went to its end. Each selected damaged cell of a pending stripe is told to be lost. Where the table that
-- it began with was sound, and no hash is met by chance, one of a synced stripe is told to be lost exactly where the
-- stripe isn't restorable.
pub record EndsChecked (before : Entry) (exit : Exit) (status : ℕ) : Type 0 where
  pub run : CheckRun
  pub has : HasChecked modes.Check before exit status run
  pub pending : NamesPending run.plan run.stripes (events_found run)
  pub named : (snapshot : Closed) (is_changed : ℕ → ℕ → Bool)
      → Sound run.loaded before.opener.vault.files snapshot is_changed
      → AreGenuine run.plan (held_row run.plan.table snapshot) run.stripes → NamesLost run.plan run.stripes snapshot (events_found run)

-- An audit that went to its end. It found nothing exactly where each selected record is listed as it was recorded, no
-- reading of a selected cell of its stripes failed, and each block that came has the recorded hash, if there is one. That
-- it reads no parity is said by `CheckEnds` (`levels`).
pub record EndsAudited (before : Entry) (exit : Exit) (status : ℕ) : Type 0 where
  pub run : CheckRun
  pub has : HasChecked modes.Audit before exit status run
  pub clean : (count_by is_finding (events_found run) ≡ 0) ↔ FindsNothing run.plan run.stripes
