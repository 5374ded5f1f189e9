-- A window of stripes that was examined, and then written anew.
use Rattle.std.proofs.Common.{◌≡◌, ℕ, ◌<◌, ◌≤◌, List, [], ◌∷◌, inl, length, take, drop, All, Bool, refl, sym, ap, ◌∙◌, subst, arith}
use Rattle.std.proofs.lemmas.List.{get_or_default, length-map, take-append-drop}
use Rattle.folder_listing.proofs.JoinedLemmas.{AllPairs-right}
use Rattle.disk_model.specs.Folder.{FolderView}
use Rattle.disk_model.specs.Sink.{SinkView}
use Rattle.disk_model.specs.Vault.{VaultView}
use Rattle.file_table.proofs.ListFacts.{AllPairs-take}
use Rattle.snap_report.specs.Report.{ReportView}
use Rattle.snap_report.specs.declared.answer.RunFault.{RunFault}
use Rattle.snap_report.specs.declared.events.Event.{Event}
use Rattle.snap_report.specs.declared.pages.Lines.{Lines}
use Rattle.stripe_reader.specs.Starts.{StartsValue}
use Rattle.snap_fix.specs.declared.fixing.Totals.{Totals}
use Rattle.file_restorer.specs.declared.state.FileState.{FileState}
use Rattle.stripe_examiner.specs.declared.room.Room.{Room}
use Rattle.stripe_examiner.specs.declared.room.StripeRoom.{StripeRoom}
use Rattle.stripe_examiner.specs.Facts.{StripeFacts}
use Rattle.stripe_examiner.specs.Known.{AreFacts}
use Rattle.stripe_examiner.specs.Looking.{no_facts}
use Rattle.repair_scope.specs.Plan.{FixPlan}
use Rattle.stripe_examiner.specs.Room.{IsRoomFor}
use Rattle.stripe_examiner.specs.Spare.{IsSpareFor, SpareView, nothing}
use Rattle.stripe_examiner.specs.WindowExamined.{ExaminesWindow}
use Rattle.snap_fix.specs.FixRun.{AreAscending, BreaksInto, FixesInto, MendsInto, MendsNotInto, with_folders}
use Rattle.snap_fix.specs.Fixing.{FixScene, SceneFits, fix_scene}
use Rattle.snap_fix.specs.WindowShown.{ShowsAll}
use Rattle.snap_fix.specs.Windows.{window_size}
use Rattle.snap_fix.proofs.FixIntoLemmas.{into_all, into_breaks}

-- of ascending numbers those of a window ascend
pub ascending_window : (items : List ℕ) (done n : ℕ) → AreAscending items → AreAscending (take n (drop done items))
ascending_window items done n ascending =
    AllPairs-take (λ (a b : ℕ). a < b) n (drop done items)
    (AllPairs-right (λ (a b : ℕ). a < b) (take done items) (drop done items) (subst AreAscending (sym (take-append-drop done items)) ascending))

-- some room of these
some_room : (rooms : List StripeRoom) → 0 < length rooms → StripeRoom
some_room [] some = absurd (omega (arith, some))
some_room (room ∷ rooms) some = room

module _ (plan : FixPlan) (starts : StartsValue) (asked : List ℕ) (before after : Room) (olds mids : List FolderView) (vault vault_after : VaultView) (spare spare_after : SpareView)
    (some : 0 < length asked) (enough : length asked ≤ before.window.room) (is_room : IsRoomFor plan.table before)
    (it : ExaminesWindow plan starts asked before after olds mids vault vault_after spare spare_after) where
  many : length it.stripes ≡ length asked
  many = sym (length-map it.stripes (λ (facts : StripeFacts). facts.stripe)) ∙ ap (λ (ns : List ℕ). length ns) it.numbers_are

  rooms_enough : length asked ≤ length after.stripes.items
  rooms_enough = omega (arith, enough, it.as_large, it.room.as_many)

  pub shows_all : (rooms : List StripeRoom) → rooms ≡ after.stripes.items → ShowsAll plan it.stripes asked after.window rooms
  shows_all rooms same = subst (ShowsAll plan it.stripes asked after.window) (sym same) (record {
    numbers_are = it.numbers_are;
    fits = it.room.window;
    count = it.count;
    cells = it.cells;
    enough = rooms_enough;
    each = it.each;
  })

  all_are : All (AreFacts plan) it.stripes
  all_are k none below =
      subst (AreFacts plan) (get_or_default it.stripes k no_facts none below)
      (it.each k (some_room after.stripes.items (omega (arith, below, many, rooms_enough))) below).are

  has_some : 0 < length it.stripes
  has_some = omega (arith, many, some)

  few : length it.stripes ≤ window_size plan
  few = omega (arith, many, enough, is_room.just)

  pub spare_still : IsSpareFor plan.table.shape spare → IsSpareFor plan.table.shape spare_after
  spare_still is = subst (IsSpareFor plan.table.shape) (sym it.asked.same) is

  module _ {W R : Type 0} (view : W → SinkView) (standing : R → ReportView) (stands : R → List Event → Type 0) (states : List (List FileState)) (written : List Bool) (lines : Lines W) (reports : List R) where
    abbrev old : FixScene W R
    old = fix_scene starts states written olds vault spare lines reports

    abbrev then : FixScene W R
    then = fix_scene starts states written mids vault_after spare_after lines reports

    -- it fits the plan, whatever the spare is
    pub then_fits : SceneFits plan old → SceneFits plan (fix_scene starts states written mids vault_after nothing lines reports)
    then_fits fits = record {
      folders = it.read.folders ∙ fits.folders;
      starts = fits.starts;
      states = fits.states;
      written = fits.written;
      levels = it.levels.goes_on.levels ∙ fits.levels;
      spare = inl refl;
    }

    pub window_mended : (totals : Totals) (new : FixScene W R) → MendsInto view standing stands plan it.stripes then new totals
        → FixesInto view standing stands plan asked it.window (with_folders old mids) new totals
    window_mended totals new mends =
        into_all view standing stands plan asked it.window it.stripes it.numbers_are it.slots all_are has_some few (with_folders old mids) vault_after spare_after it.levels it.asked totals new mends

    pub window_not_mended : (fault : RunFault) (new : FixScene W R) → MendsNotInto view standing stands plan it.stripes then new fault
        → BreaksInto view standing stands plan asked it.window (with_folders old mids) new fault
    window_not_mended fault new mends =
        into_breaks view standing stands plan asked it.window it.stripes it.numbers_are it.slots all_are has_some few (with_folders old mids) vault_after spare_after it.levels it.asked new fault mends
