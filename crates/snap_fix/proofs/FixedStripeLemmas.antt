-- A stripe that was examined is told and written anew: what holds of it where all went well, and where a folder or the vault failed.
use Rattle.std.proofs.Common.{◌≡◌, ℕ, ◌<◌, ◌^◌, List, [], ◌∷◌, ◌++◌, length, Bool, refl, sym, ap, ◌∙◌, subst, append_assoc, arith}
use Rattle.disk_model.specs.Folder.{FolderView}
use Rattle.disk_model.specs.Sink.{SinkView}
use Rattle.disk_model.specs.Vault.{VaultView, GoesOn}
use Rattle.snap_report.specs.Report.{ReportView}
use Rattle.snap_report.specs.Told.{Told}
use Rattle.snap_report.specs.declared.answer.RunFault.TheVariants as fault
use Rattle.snap_report.specs.declared.events.Event.{Event}
use Rattle.snap_report.specs.declared.pages.Lines.{Lines}
use Rattle.snap_report.proofs.ToldLemmas.{told_then}
use Rattle.stripe_reader.specs.Starts.{StartsValue}
use Rattle.stripe_reader.specs.WindowValue.{WindowValue}
use Rattle.snap_fix.specs.declared.fixing.Totals.{Totals}
use Rattle.stripe_examiner.specs.declared.marking.SlotMark.{SlotMark}
use Rattle.stripe_examiner.specs.declared.room.StripeRoom.{StripeRoom}
use Rattle.file_restorer.specs.declared.state.FileState.{FileState}
use Rattle.snap_fix.specs.declared.repairing.Repaired.{Repaired}
use Rattle.stripe_examiner.specs.Counts.{AreCounts}
use Rattle.stripe_examiner.specs.Facts.{StripeFacts}
use Rattle.stripe_examiner.specs.Findings.{stripe_events}
use Rattle.snap_fix.specs.Fixing.{BreaksStripe, FixScene, FixesStripe, MendsVault, SceneFits, fix_scene, with_answers}
use Rattle.snap_fix.specs.FixSteps.{MendsNotParity, MendsParity, ShowsTried}
use Rattle.snap_fix.specs.Mended.{Mended, all_cell_news, all_level_news, cell_news, level_news}
use Rattle.stripe_examiner.specs.Marks.{levels_read}
use Rattle.repair_scope.specs.Plan.{FixPlan, is_searched}
use Rattle.snap_fix.specs.Repairing.{LevelsOutside, MendsFiles, MendsNotFiles, levels_outside, outside}
use Rattle.stripe_examiner.specs.Showing.{ShowsFacts}
use Rattle.stripe_examiner.specs.Spare.{IsSpareFor, SpareView}
use Rattle.snap_fix.specs.Underway.{IsMendCall}
use Rattle.snap_fix.specs.WindowShown.{ShowsFactsOf}
use Rattle.snap_fix.proofs.FixedCountLemmas.{totals_of, writes_one}
use Rattle.file_restorer.proofs.FolderFailsLemmas.{fails_gained}
use Rattle.snap_fix.proofs.MendedCounts.{events_split}
use Rattle.snap_fix.proofs.MendedVaultLemmas.{goes_on_none, mends_nothing}
use Rattle.stripe_examiner.proofs.TellingLemmas.{events_to}

-- ---- what its room shows

module _ (plan : FixPlan) (facts : StripeFacts) (stripe i : ℕ) (window : WindowValue) (own : StripeRoom) (it : ShowsFactsOf plan facts stripe i window own) where
  -- as its facts are shown to what writes its cells and its levels
  pub shows_tried : ShowsTried plan facts stripe i window own.levels own.known
  shows_tried = record {
    are = it.shows.are;
    stripe_is = it.stripe_is;
    levels_are = it.shows.levels ∙ ap (λ (n : ℕ). levels_read (is_searched plan n) own.levels) it.stripe_is;
    row = it.shows.shows.row;
  }

  pub shows_marks : (marks : List SlotMark) → marks ≡ own.marks.items → ShowsFacts plan facts i marks own.known window
  shows_marks marks same = subst (λ (all : List SlotMark). ShowsFacts plan facts i all own.known window) (sym same) it.shows.shows

-- the flags may be said otherwise
pub parity_for : {W R : Type 0} (view : W → SinkView) (standing : R → ReportView) (stands : R → List Event → Type 0) (plan : FixPlan) (facts : StripeFacts)
    (one two before after : List Bool) (old new : LevelsOutside W R) (count : ℕ) → one ≡ before → two ≡ after
    → MendsParity view standing stands plan facts one two old new count → MendsParity view standing stands plan facts before after old new count
parity_for view standing stands plan facts one two before after old new count same_before same_after mends =
    subst (λ (flags : List Bool). MendsParity view standing stands plan facts before flags old new count) same_after
    (subst (λ (flags : List Bool). MendsParity view standing stands plan facts flags two old new count) same_before mends)

-- whatever the spare is
pub fits_with : {W R : Type 0} (plan : FixPlan) (starts : StartsValue) (states : List (List FileState)) (written : List Bool) (folders : List FolderView) (vault : VaultView)
    (one other : SpareView) (lines : Lines W) (reports : List R) → SceneFits plan (fix_scene starts states written folders vault one lines reports) → IsSpareFor plan.table.shape other
    → SceneFits plan (fix_scene starts states written folders vault other lines reports)
fits_with plan starts states written folders vault one other lines reports fits spare = record {
  folders = fits.folders;
  starts = fits.starts;
  states = fits.states;
  written = fits.written;
  levels = fits.levels;
  spare = spare;
}

-- ---- it is told and written

module _ {W R : Type 0} (view : W → SinkView) (standing : R → ReportView) (stands : R → List Event → Type 0)
    (plan : FixPlan) (facts : StripeFacts) (stripe i : ℕ) (stripe_is : facts.stripe ≡ stripe) (window : WindowValue) (marks : List SlotMark) (known : Bool)
    (shown : ShowsFacts plan facts i marks known window) (old : FixScene W R) (lines : Lines W) (reports : List R)
    (told : Told view standing stands plan.table.columns (stripe_events plan facts) old.lines lines old.reports reports) where
  abbrev found : List Event
  found = stripe_events plan facts

  -- ---- its cells were written

  module _ (new : FixScene W R) (lines_then : Lines W) (reports_then : List R) (repaired : Repaired)
      (files : MendsFiles view standing stands plan stripe i window marks known
      (outside old.starts old.states old.folders lines reports) (outside new.starts new.states new.folders lines_then reports_then) repaired) (spare : new.spare ≡ old.spare) where
    abbrev mended : Mended
    mended = with_answers facts files.answers

    abbrev cells : List Event
    cells = all_cell_news plan mended

    told_cells : Told view standing stands plan.table.columns (found ++ cells) old.lines lines_then old.reports reports_then
    told_cells =
        told_then view standing stands plan.table.columns found cells old.lines lines lines_then old.reports reports reports_then told
        (files.told facts stripe_is shown)

    -- and its levels
    pub fixed : (totals : Totals) (parities : ℕ) → SceneFits plan old
        → MendsParity view standing stands plan facts old.written new.written (levels_outside old.vault lines_then reports_then) (levels_outside new.vault new.lines new.reports) parities
        → (AreCounts cells repaired.counts → AreCounts (found ++ cells) totals.counts)
        → totals.blocks < 2 ^ 64 → totals.blocks ≡ repaired.blocks → totals.parities < 2 ^ 64 → totals.parities ≡ parities
        → FixesStripe view standing stands plan facts old new totals
    fixed totals parities fits parity counts few_blocks blocks few_parities parities_are =
        let levels : List Event = all_level_news plan facts in
        record {
          answers = files.answers;
          as_many = files.as_many;
          fits = record {
            folders = files.folders ∙ fits.folders;
            starts = files.starts_fit;
            states = files.states_fit;
            written = parity.flags.0 ∙ fits.written;
            levels = parity.calls.goes_on.levels ∙ fits.levels;
            spare = subst (IsSpareFor plan.table.shape) (sym spare) fits.spare;
          };
          told = subst (λ (events : List Event). Told view standing stands plan.table.columns events old.lines new.lines old.reports new.reports)
              (append_assoc found cells levels)
              (told_then view standing stands plan.table.columns (found ++ cells) levels old.lines lines_then new.lines old.reports reports_then new.reports told_cells parity.told);
          totals_are = totals_of plan mended totals (counts (files.counts facts stripe_is shown))
              few_blocks (blocks ∙ files.blocks facts stripe_is shown) few_parities (parities_are ∙ parity.count_is);
          written = writes_one plan mended old.written new.written parity.flags;
          answers_fit = files.answered facts stripe_is shown;
          stood = files.stood;
          ran = parity.ran;
          vault = record { calls = parity.calls; drafts = parity.drafts; changes = parity.changes };
          zeros = parity.zeros;
          holds = parity.holds;
          spare = spare;
          makes = files.makes facts stripe_is shown;
          underway = files.underway facts stripe_is shown;
        }

    -- or the vault failed
    pub vault_failed : MendsNotParity view standing stands plan facts (levels_outside old.vault lines_then reports_then) (levels_outside new.vault new.lines new.reports)
        → BreaksStripe view standing stands plan facts old new fault.Vault
    vault_failed parity =
        let below : List Event = events_to (level_news plan facts) parity.level in
        let within = parity.ran.within in
        let split = events_split (level_news plan facts) parity.level (length facts.levels) (omega (arith, within)) in
        record {
          answers = files.answers;
          level = parity.level;
          first = (found ++ cells) ++ below;
          tells = record {
            told_is = append_assoc found cells below;
            rest = split.0;
            events =
                ap (λ (levels : List Event). found ++ (cells ++ levels)) split.1
                ∙ sym (append_assoc found cells (below ++ split.0))
                ∙ sym (append_assoc (found ++ cells) below split.0);
          };
          told = told_then view standing stands plan.table.columns (found ++ cells) below old.lines lines_then new.lines old.reports reports_then new.reports told_cells parity.told;
          folders = files.folders;
          answers_fit = files.answered facts stripe_is shown;
          ran = parity.ran;
          vault = record { calls = parity.calls; drafts = parity.drafts; changes = parity.changes };
          spare = spare;
          makes = record {
            starts = new.starts;
            states = new.states;
            stood = files.stood;
            makes = files.makes facts stripe_is shown;
            underway = files.underway facts stripe_is shown;
          };
          broke = record { rose = parity.rose; call = parity.call };
        }

  -- ---- a folder failed

  pub folder_failed : (new : FixScene W R) (disk : ℕ) → new.vault ≡ old.vault → new.spare ≡ old.spare
      → MendsNotFiles view standing stands plan stripe i window marks known
      (outside old.starts old.states old.folders lines reports) (outside new.starts new.states new.folders new.lines new.reports) disk
      → BreaksStripe view standing stands plan facts old new (fault.Folder disk)
  folder_failed new disk same spare files =
      let part = files.broke facts stripe_is shown in
      let answers : List Bool = part.0 in
      let cells_to : List Event = events_to (cell_news plan (with_answers facts answers)) disk in
      let levels : List Event = all_level_news plan facts in
      let fails = part.3 in
      let within = fails.in_column.within in
      let split = events_split (cell_news plan (with_answers facts answers)) disk
      (length plan.table.columns) (omega (arith, within)) in
      record {
        answers = answers;
        level = 0;
        first = found ++ cells_to;
        tells = record {
          told_is = refl;
          rest = split.0 ++ levels;
          events =
              ap (λ (cells : List Event). found ++ (cells ++ levels)) split.1
              ∙ ap (λ (events : List Event). found ++ events) (append_assoc cells_to split.0 levels)
              ∙ sym (append_assoc found cells_to (split.0 ++ levels));
        };
        told = told_then view standing stands plan.table.columns found cells_to old.lines lines new.lines old.reports reports new.reports told part.2;
        folders = files.folders;
        answers_fit = part.1;
        ran = subst (λ (vault : VaultView). GoesOn old.vault vault []) (sym same) (goes_on_none old.vault);
        vault = subst (MendsVault plan [] old.vault) (sym same) (mends_nothing plan [] old.vault);
        spare = spare;
        makes = fails;
        broke = (fails.in_column.within, record { rose = fails.in_column.here.rose; call = fails_gained (IsMendCall plan old.starts disk (with_answers facts answers ∷ [])) fails.in_column.here });
      }
