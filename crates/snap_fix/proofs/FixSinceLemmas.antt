-- What was done to the stripes of a window after it was read: it was done since before.
use Rattle.std.proofs.Common.{◌≡◌, ℕ, ◌+◌, ◌<◌, ◌≤◌, List, [], ◌++◌, length, take, All, refl, sym, ap, ◌∙◌, subst, arith}
use Rattle.std.specs.List.{count_by}
use Rattle.std.proofs.lemmas.List.{length-map, length-take-le, take_all}
use Rattle.std.proofs.lemmas.List.Sums.{sum_by-append}
use Rattle.disk_model.specs.Cause.{Rose, RoseBy}
use Rattle.disk_model.specs.Folder.{FolderView}
use Rattle.disk_model.specs.Sink.{SinkView}
use Rattle.disk_model.specs.Vault.{VaultView}
use Rattle.parity_writer.specs.LevelReading.{LevelReading, has_failed}
use Rattle.snap_report.specs.Report.{ReportView}
use Rattle.snap_report.specs.declared.answer.RunFault.{RunFault}
use Rattle.snap_report.specs.declared.answer.RunFault.TheVariants.{Folder, Vault, Memory}
use Rattle.snap_report.specs.declared.events.Event.{Event}
use Rattle.stripe_reader.specs.Columns.{ReadsWindow, folder_at}
use Rattle.stripe_reader.specs.WindowValue.{WindowValue}
use Rattle.snap_fix.specs.declared.fixing.Totals.{Totals}
use Rattle.snap_fix.specs.FixRun.{FixesAll, FixesStripes, HasBrokenInto, MendsAll, RoseBeyond, with_folders}
use Rattle.snap_fix.specs.Fixing.{AreTotals, FixScene, SceneFits, facts_of}
use Rattle.snap_fix.specs.Mended.{Mended}
use Rattle.stripe_examiner.specs.Facts.{StripeFacts}
use Rattle.stripe_examiner.specs.Looking.{unread_cells, unread_in}
use Rattle.repair_scope.specs.Plan.{FixPlan}
use Rattle.file_restorer.specs.State.{FolderMakesBy}
use Rattle.snap_fix.specs.Underway.{AreStripeCalls}
use Rattle.snap_fix.specs.Windows.{FillWindows, IsFull}
use Rattle.snap_fix.proofs.FixAllLemmas.{fixes_none}
use Rattle.snap_fix.proofs.FixReadLemmas.{underway_read, window_makes}
use Rattle.snap_fix.proofs.FolderWindowsLemmas.{windows_none}
use Rattle.snap_fix.proofs.KeptStartsLemmas.{well_then}
use Rattle.snap_fix.proofs.ReadsLemmas.{stripes_unread}
use Rattle.snap_fix.proofs.StartsKeptLemmas.{keeps_starts_same}
use Rattle.snap_fix.proofs.WindowsLemmas.{all_full}

-- a call that failed after readings counts beside them
pub rose_past : (n before mid now : ℕ) → RoseBy n before mid → Rose mid now → RoseBy (n + 1) before now
rose_past n before mid now read rose = omega (arith, read, rose)

-- so does the one that broke off a window, beside all readings before the window, too
pub rose_since : (plan : FixPlan) (by : RunFault) (stripes : List StripeFacts) (first more : List (List LevelReading)) (told : List Event) (olds mids news : List FolderView) (old mid new : VaultView)
    → HasBrokenInto plan by told mids news mid new
    → ((d : ℕ) → d < length plan.table.columns → RoseBy (unread_cells d stripes) (folder_at olds d).faults (folder_at mids d).faults)
    → RoseBy (unread_in first) old.faults mid.faults → RoseBeyond by [] more mids news mid new → RoseBeyond by stripes (first ++ more) olds news old new
rose_since plan (Folder disk) stripes first more told olds mids news old mid new broke cells levels rose =
    rose_past (unread_cells disk stripes) (folder_at olds disk).faults (folder_at mids disk).faults (folder_at news disk).faults (cells disk broke.0) rose
rose_since plan Vault stripes first more told olds mids news old mid new broke cells levels rose =
    let counted : unread_in (first ++ more) ≡ unread_in first + unread_in more = sum_by-append (count_by has_failed) first more in
    omega (arith, counted, levels, rose)
rose_since plan Memory stripes first more told olds mids news old mid new broke cells levels rose = rose

module _ {W R : Type 0} (view : W → SinkView) (standing : R → ReportView) (stands : R → List Event → Type 0) (plan : FixPlan) where
  pub stripes_none : (totals : Totals) (s : FixScene W R) → SceneFits plan s → AreTotals plan [] totals → FixesStripes view standing stands plan [] s s totals
  unfolding fixes_none
  stripes_none totals s fits none = record {
    stripes = [];
    numbers_are = refl;
    fixes = fixes_none view standing stands plan totals s fits none;
    read = λ firsts fixable is k below. absurd (omega (arith, below));
    unread = λ d below. omega arith;
    io = λ d below. omega arith;
    reads = λ d below. stripes_unread plan s.starts d (folder_at s.folders d);
    in_windows = λ d below. windows_none plan s.starts d (folder_at s.folders d);
  }

  -- all of them were
  pub stripes_whole : (all : List ℕ) (done : ℕ) (totals : Totals) (old new : FixScene W R) → length all ≤ done → FixesStripes view standing stands plan (take done all) old new totals
      → FixesStripes view standing stands plan all old new totals
  stripes_whole all done totals old new enough it = subst (λ (its : List ℕ). FixesStripes view standing stands plan its old new totals) (take_all done all enough) it

  -- the first stripes are so many, and their windows are full
  pub many_before : (mid : FixScene W R) (first : List ℕ) (one : Totals) (old : FixScene W R) (so_far : FixesStripes view standing stands plan first old mid one) (items : List ℕ) (done : ℕ)
      → done ≤ length items → first ≡ take done items → length so_far.stripes ≡ done
  many_before mid first one old so_far items done within first_is =
      sym (length-map so_far.stripes (λ (it : Mended). it.facts)) ∙ sym (length-map (facts_of so_far.stripes) (λ (it : StripeFacts). it.stripe))
      ∙ ap (λ (ns : List ℕ). length ns) (so_far.numbers_are ∙ first_is) ∙ length-take-le done items within

  pub windows_full : (mid : FixScene W R) (first : List ℕ) (one : Totals) (old : FixScene W R) (so_far : FixesStripes view standing stands plan first old mid one) (items : List ℕ) (done : ℕ)
      → done ≤ length items → FillWindows plan done → first ≡ take done items → All (IsFull plan) so_far.fixes.windows
  windows_full mid first one old so_far items done within fill first_is =
      all_full plan so_far.fixes.windows (facts_of so_far.stripes) so_far.fixes.readings so_far.fixes.windows_are
      (subst (FillWindows plan) (sym (length-map so_far.stripes (λ (it : Mended). it.facts) ∙ many_before mid first one old so_far items done within first_is)) fill)

  module _ (numbers : List ℕ) (before window : WindowValue) (mid : FixScene W R) (mids : List FolderView) (read : ReadsWindow plan.table mid.starts numbers before window mid.folders mids)
      (fits : SceneFits plan mid) where
    -- the calls of the reading
    reads : (d : ℕ) → d < length plan.table.columns → FolderMakesBy (AreStripeCalls plan mid.starts d []) (folder_at mid.folders d) (folder_at mids d)
    reads d below = window_makes plan mid.starts numbers before window mid.folders mids read fits.folders d below

    told_as : (d : ℕ) → d < length plan.table.columns → (folder_at mids d).tells ≡ (folder_at mid.folders d).tells
    told_as d below = (reads d below).goes_on.tells

    -- what was done after the window was read was done since before it
    pub mends_read : (stripes : List Mended) (totals : Totals) (new : FixScene W R) → MendsAll view standing stands plan stripes (with_folders mid mids) new totals → MendsAll view standing stands plan stripes mid new totals
    mends_read stripes totals new mends = record {
      fits = mends.fits;
      told = mends.told;
      totals_are = mends.totals_are;
      written = mends.written;
      answered = λ k none within d below told. mends.answered k none within d below (told_as d below ∙ told);
      stood = mends.stood;
      vault = mends.vault;
      zeros = mends.zeros;
      holds = mends.holds;
      makes = λ d below. well_then plan mid.starts mid.starts (keeps_starts_same mid.starts) d [] stripes (reads d below) (mends.makes d below);
      underway = λ earlier firsts fixable is. mends.underway earlier firsts fixable
          (underway_read plan mid.starts numbers before window mid.folders mids read fits.folders earlier firsts mid.starts mid.states is);
    }

    unfoldable pub since_read : (stripes : List Mended) (totals : Totals) (new : FixScene W R) → FixesAll view standing stands plan stripes (with_folders mid mids) new totals → FixesAll view standing stands plan stripes mid new totals
    since_read stripes totals new fixes = record {
      are = fixes.are;
      mends = mends_read stripes totals new fixes.mends;
      windows = fixes.windows;
      readings = fixes.readings;
      windows_are = fixes.windows_are;
      read = fixes.read;
      unread = fixes.unread;
      ran = fixes.ran;
      spare = fixes.spare;
    }
