use Rattle.std.proofs.Common.{◌≡◌, ◌<◌, ℕ, All, Bool, List, [], length, get_or, map, false, refl, sym, ap, ◌∙◌, subst, arith}
use Rattle.std.proofs.lemmas.List.{get_or-replicate, length-replicate}
use Rattle.disk_model.specs.Folder.{FolderView, IsFolder}
use Rattle.disk_model.specs.Sink.{SinkView}
use Rattle.file_table.specs.Table.{TableValue}
use Rattle.array_setup.specs.declared.ways.Selection.{Selection}
use Rattle.snap_report.specs.Report.{ReportView}
use Rattle.snap_report.specs.declared.answer.RunFault.{RunFault}
use Rattle.snap_report.specs.declared.events.Event.{Event}
use Rattle.repair_scope.specs.declared.scope.Mode.TheVariants.{Fix}
use Rattle.repair_scope.specs.Plan.{FixPlan}
use Rattle.file_restorer.specs.Mending.{StatesFit}
use Rattle.file_restorer.specs.declared.state.FileState.{FileState}
use Rattle.snap_fix.specs.declared.fixing.Totals.{Totals}
use Rattle.snap_fix.specs.declared.plan.Progress.{Progress}
use Rattle.snap_fix.specs.declared.repairs.Begun.{Begun}
use Rattle.snap_fix.specs.Checking.{plan_for}
use Rattle.snap_fix.specs.Course.{outside}
use Rattle.snap_fix.specs.FixBegun.{BeganFrom, IsFirst, work_of}
use Rattle.snap_fix.specs.FixCourse.{Fixes}
use Rattle.snap_fix.specs.FixRun.{AreAscending, BreaksStripes, FixesStripes}
use Rattle.snap_fix.specs.Fixing.{FixScene}
use Rattle.snap_fix.specs.Underway.{AreFixable}
use Rattle.snap_fix.proofs.AnswerLemmas.{at_err, at_ok}
use Rattle.snap_fix.proofs.CourseLemmas.{entries_begun, work_begun}
use Rattle.snap_fix.proofs.FixBrokenLemmas.{stripes_broke}
use Rattle.snap_fix.proofs.FixCourseLemmas.{finish_broke, fixes, sync_broke}
use Rattle.snap_fix.proofs.FixEndLemmas.{can_finish}
use Rattle.snap_fix.proofs.FixStartLemmas.{folders_formed, states_fit, work_ascending, work_fixable, work_listed, work_underway}
use Rattle.file_restorer.proofs.GoesOnLemmas.{handed_on}
use Rattle.snap_fix.proofs.repairs.fix_begun.Goals as goal

-- the stripes are those of the slice
fixed_for : {W R : Type 0} (view : W → SinkView) (standing : R → ReportView) (stands : R → List Event → Type 0) (plan : FixPlan) (one other : List ℕ) (old new : FixScene W R) (totals : Totals)
    → one ≡ other → FixesStripes view standing stands plan one old new totals → FixesStripes view standing stands plan other old new totals
fixed_for view standing stands plan one other old new totals same fixed = subst (λ (numbers : List ℕ). FixesStripes view standing stands plan numbers old new totals) same fixed

broken_for : {W R : Type 0} (view : W → SinkView) (standing : R → ReportView) (stands : R → List Event → Type 0) (plan : FixPlan) (one other : List ℕ) (old new : FixScene W R) (fault : RunFault)
    → one ≡ other → BreaksStripes view standing stands plan one old new fault → BreaksStripes view standing stands plan other old new fault
broken_for view standing stands plan one other old new fault same broke = subst (λ (numbers : List ℕ). BreaksStripes view standing stands plan numbers old new fault) same broke

-- each file of a record that isn't blocked may be written, since the folders were open
fixable_from : {F : Type 0} (view : F → FolderView) → ((folder : F) → IsFolder (view folder)) → (selection : Selection) (names : List (List ℕ)) (table : TableValue) (begun : Begun) (olds : List FolderView) (folders : List F)
    → BeganFrom selection names table begun olds (map view folders) → AreFixable (plan_for table (work_of begun)) (map view folders)
fixable_from view formed selection names table begun olds folders is =
    work_fixable Fix selection names table (work_of begun) olds (map view folders) is.begins.begins is.folders_are is.were_open (folders_formed view formed folders)

-- there is a flag for each level, and none is set
as_many : (table : TableValue) (progress : Progress) → IsFirst table progress → length progress.written.items ≡ table.shape.levels
as_many table progress first = ap (λ (flags : List Bool). length flags) first.written ∙ length-replicate table.shape.levels false

none_set : (table : TableValue) (progress : Progress) → IsFirst table progress → (r : ℕ) → r < length progress.written.items → get_or progress.written.items r false ≡ false
none_set table progress first r below =
    let few = as_many table progress first in
    ap (λ (flags : List Bool). get_or flags r false) first.written ∙ get_or-replicate table.shape.levels r false false (omega (arith, below, few))

pub tell_opening-opening-requires : goal.tell_opening-opening-requires
tell_opening-opening-requires g c = entries_begun _ _ _ _ _ _ _ c.requires.began.begins.begins

pub fix_stripes-requires-clause-can : goal.fix_stripes-requires-clause-can
fix_stripes-requires-clause-can g c κs within =
    let begins = c.requires.began.begins.begins in
    let fit = work_begun _ _ _ _ _ _ _ begins in
    record {
      entries = fit.entries;
      within = subst (λ (numbers : List ℕ). All (λ (stripe : ℕ). stripe < length c.args.table.now.infos) numbers) (sym c.as_slice-stripes.ensures.value) fit.within;
      room_is = fit.room;
      ascending = subst AreAscending (sym c.as_slice-stripes.ensures.value) (work_ascending _ _ _ _ _ _ _ begins c.requires.began.folders_are);
    }

pub fix_stripes-requires-clause-fits : goal.fix_stripes-requires-clause-fits
fix_stripes-requires-clause-fits g c κs within =
    let begins = c.requires.began.begins.begins in
    let first = c.requires.began.begins.first in
    let progress = c.args.begun.now.space.progress in
    let fit = work_begun _ _ _ _ _ _ _ begins in
    record {
      folders = begins.as_many ∙ c.requires.began.folders_are;
      starts = fit.starts;
      states = subst (λ (states : List (List FileState)). StatesFit c.args.table.now states) (sym first.states) (states_fit c.args.table.now progress.starts fit.starts);
      written = as_many c.args.table.now progress first;
      levels = c.requires.levels;
      spare = c.requires.spare_is;
    }

pub fix_stripes-requires-clause-underway : goal.fix_stripes-requires-clause-underway
fix_stripes-requires-clause-underway g c κs within =
    let has = c.requires in
    record {
      stripes = [];
      firsts = map g.F.Folder.view c.args.folders.now;
      fixable = fixable_from g.F.Folder.view g.F.Folder.well_formed has.selection has.names c.args.table.now c.args.begun.now has.olds c.args.folders.now has.began;
      underway = work_underway _ _ _ _ _ _ _ has.began.begins.begins has.began.folders_are c.args.begun.now.space.progress.states has.began.begins.first.states;
    }

pub returns-in_err-totals-clause-broke : goal.returns-in_err-totals-clause-broke
returns-in_err-totals-clause-broke g c =
    let table = c.args.table.now in
    let began = c.args.begun.now in
    let opened = c.tell_opening-opening in
    let mid = c.fix_stripes.new in
    let fault = c.in_err-totals.field-0.0 in
    handed_on c.from_residual.result _ fault c.from_residual.ensures.1 (λ selection names olds is.
    let old = outside olds (g.V.Vault.view c.args.vault.now) (g.P.Spare.holding c.args.spare.now) c.args.lines.now c.args.reports.now.items in
    let fixable = fixable_from g.F.Folder.view g.F.Folder.well_formed selection names table began olds c.args.folders.now is in
    stripes_broke _ _ _ Fix selection names table is.begins.first.valid (work_of began) old (map g.F.Folder.view c.args.folders.now) is.begins.begins is.folders_are fixable
    began.space.progress.states is.begins.first.states opened.new.lines opened.new.reports.items opened.ensures.told
    began.space.progress.written.items mid.space.progress.starts mid.space.progress.states mid.space.progress.written.items (map g.F.Folder.view mid.folders) (g.V.Vault.view mid.vault) (g.P.Spare.holding mid.spare) mid.lines mid.reports.items
    fault (broken_for _ _ _ (plan_for table (work_of began)) _ _ _ _ fault c.as_slice-stripes.ensures.value c.in_err-totals.ensures.broke))

pub returns-then-is_err-clause-broke : goal.returns-then-is_err-clause-broke
returns-then-is_err-clause-broke g c selection names olds is =
    let table = c.args.table.now in
    let began = c.args.begun.now in
    let opened = c.tell_opening-opening in
    let mid = c.fix_stripes.new in
    let old = outside olds (g.V.Vault.view c.args.vault.now) (g.P.Spare.holding c.args.spare.now) c.args.lines.now c.args.reports.now.items in
    let fixable = fixable_from g.F.Folder.view g.F.Folder.well_formed selection names table began olds c.args.folders.now is in
    sync_broke _ _ _ Fix selection names table is.begins.first.valid (work_of began) old (map g.F.Folder.view c.args.folders.now) is.begins.begins is.folders_are fixable
    began.space.progress.states is.begins.first.states opened.new.lines opened.new.reports.items opened.ensures.told
    began.space.progress.written.items mid.space.progress.starts mid.space.progress.states mid.space.progress.written.items (map g.F.Folder.view mid.folders) (g.V.Vault.view mid.vault) (g.P.Spare.holding mid.spare) mid.lines mid.reports.items
    c.in_ok-totals.totals (fixed_for _ _ _ (plan_for table (work_of began)) _ _ _ _ c.in_ok-totals.totals c.as_slice-stripes.ensures.value c.in_ok-totals.ensures.fixed) (g.V.Vault.view c.sync_levels.new.vault)
    c.as_slice.result.now c.as_slice.ensures.value (as_many table began.space.progress is.begins.first) (none_set table began.space.progress is.begins.first)
    (at_err c.sync_levels.result _ (sym c.is_err.ensures.value ∙ c.if-is_err.true) c.sync_levels.ensures.failed)

pub finish_all-requires-after_bounds : goal.finish_all-requires-after_bounds
finish_all-requires-after_bounds g c κs within =
    let has = c.requires in
    let is = has.began in
    let began = c.args.begun.now in
    let table = c.args.table.now in
    let mids = map g.F.Folder.view c.args.folders.now in
    let mid = c.fix_stripes.new in
    let fixed = c.in_ok-totals.ensures.fixed in
    let fixable = fixable_from g.F.Folder.view g.F.Folder.well_formed has.selection has.names table began has.olds c.args.folders.now is in
    let first = work_underway _ _ _ _ _ _ _ is.begins.begins is.folders_are began.space.progress.states is.begins.first.states in
    let fits = fixed.fixes.mends.fits in
    can_finish (plan_for table (work_of began)) is.begins.first.valid fixed.stripes mids (map g.F.Folder.view mid.folders) mid.space.progress.starts mid.space.progress.states fixable
    (fixed.fixes.mends.underway [] mids fixable first)
    (work_listed _ _ _ _ _ _ _ is.begins.begins is.folders_are) fits.folders (entries_begun _ _ _ _ _ _ _ is.begins.begins) fits.starts fits.states

pub returns-in-Err-clause-broke : goal.returns-in-Err-clause-broke
returns-in-Err-clause-broke g c selection names olds is =
    let table = c.args.table.now in
    let began = c.args.begun.now in
    let opened = c.tell_opening-opening in
    let mid = c.fix_stripes.new in
    let done = c.finish_all.new in
    let old = outside olds (g.V.Vault.view c.args.vault.now) (g.P.Spare.holding c.args.spare.now) c.args.lines.now c.args.reports.now.items in
    let fixable = fixable_from g.F.Folder.view g.F.Folder.well_formed selection names table began olds c.args.folders.now is in
    finish_broke _ _ _ Fix selection names table is.begins.first.valid (work_of began) old (map g.F.Folder.view c.args.folders.now) is.begins.begins is.folders_are fixable
    began.space.progress.states is.begins.first.states opened.new.lines opened.new.reports.items opened.ensures.told
    began.space.progress.written.items mid.space.progress.starts mid.space.progress.states mid.space.progress.written.items (map g.F.Folder.view mid.folders) (g.V.Vault.view mid.vault) (g.P.Spare.holding mid.spare) mid.lines mid.reports.items
    c.in_ok-totals.totals (fixed_for _ _ _ (plan_for table (work_of began)) _ _ _ _ c.in_ok-totals.totals c.as_slice-stripes.ensures.value c.in_ok-totals.ensures.fixed) (g.V.Vault.view c.sync_levels.new.vault)
    c.as_slice.result.now (at_ok c.sync_levels.result _ (sym c.is_err.ensures.value ∙ c.if-is_err.false) c.sync_levels.ensures.synced)
    done.progress.starts done.progress.states (map g.F.Folder.view done.folders) done.lines done.reports.items
    (g.V.Vault.well_formed c.sync_levels.new.vault) c.as_slice.ensures.value (as_many table began.space.progress is.begins.first) (none_set table began.space.progress is.begins.first)
    c.in-Err.disk _ refl c.in-Err.ensures.failed

pub returns-clause-fixes : goal.returns-clause-fixes
returns-clause-fixes g c selection names olds is =
    let table = c.args.table.now in
    let began = c.args.begun.now in
    let opened = c.tell_opening-opening in
    let mid = c.fix_stripes.new in
    let done = c.finish_all.new in
    let new = outside (map g.F.Folder.view done.folders) (g.V.Vault.view c.sync_levels.new.vault) (g.P.Spare.holding mid.spare) c.end_with.new.lines done.reports.items in
    let old = outside olds (g.V.Vault.view c.args.vault.now) (g.P.Spare.holding c.args.spare.now) c.args.lines.now c.args.reports.now.items in
    let fixable = fixable_from g.F.Folder.view g.F.Folder.well_formed selection names table began olds c.args.folders.now is in
    subst (Fixes _ _ _ Fix selection names table old new) (sym c.end_with.ensures.end)
    (fixes _ _ _ Fix selection names table is.begins.first.valid (work_of began) old (map g.F.Folder.view c.args.folders.now) is.begins.begins is.folders_are fixable
    began.space.progress.states is.begins.first.states opened.new.lines opened.new.reports.items opened.ensures.told
    began.space.progress.written.items mid.space.progress.starts mid.space.progress.states mid.space.progress.written.items (map g.F.Folder.view mid.folders) (g.V.Vault.view mid.vault) (g.P.Spare.holding mid.spare) mid.lines mid.reports.items
    c.in_ok-totals.totals (fixed_for _ _ _ (plan_for table (work_of began)) _ _ _ _ c.in_ok-totals.totals c.as_slice-stripes.ensures.value c.in_ok-totals.ensures.fixed) (g.V.Vault.view c.sync_levels.new.vault)
    c.as_slice.result.now (at_ok c.sync_levels.result _ (sym c.is_err.ensures.value ∙ c.if-is_err.false) c.sync_levels.ensures.synced)
    done.progress.starts done.progress.states (map g.F.Folder.view done.folders) done.lines done.reports.items
    (g.V.Vault.well_formed c.sync_levels.new.vault) c.as_slice.ensures.value (as_many table began.space.progress is.begins.first) (none_set table began.space.progress is.begins.first)
    opened.result c.in-Ok.news c.and.result c.and-counts.result c.end_with.new.lines _ refl c.in-Ok.ensures.finished
    opened.ensures.counts c.and.ensures c.and-counts.ensures c.end_with.ensures.puts c.end_with.ensures.settled)
