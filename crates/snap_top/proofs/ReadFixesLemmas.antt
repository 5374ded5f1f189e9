-- Two fixes of one array that saw the same blocks print, find and restore the same, whatever readings failed in them. Where none did, they saw
-- the same.
use Rattle.std.proofs.Common.{◌≡◌, ℕ, sym, ap, ◌∙◌, subst, refl}
use Rattle.std.specs.Prelude.{All}
use Rattle.snap_fix.specs.Fixing.{facts_of}
use Rattle.stripe_examiner.specs.Known.{AreFacts}
use Rattle.stripe_examiner.specs.Looking.{numbers_of}
use Rattle.repair_scope.specs.Plan.{FixPlan, names_of, stripes_of}
use Rattle.repair_scope.specs.declared.scope.Mode.TheVariants as modes
use Rattle.snap_top.specs.Alike.{HoldAlike, seen_by, AskAlike, SeenAlike}
use Rattle.snap_top.specs.Unbroken.{NothingRose}
use Rattle.snap_top.specs.FixedAlike.{FixesAlike, KeepStampsAlike}
use Rattle.snap_top.specs.LeftAlike.{PrintAlike, AskSame}
use Rattle.snap_top.specs.Restoring.{EndsFixed}
use Rattle.snap_top.specs.Entry.{Entry, Exit}
use Rattle.snap_top.proofs.AlikeLemmas.{one_plan}
use Rattle.snap_top.proofs.OneArrayLemmas.{plan_as, came_as, fix_came, fix_tells, levels_same, selections, setups, slot_alike}
use Rattle.snap_top.proofs.RestoredLastLemmas.{FilesAreFinished}
use Rattle.snap_top.proofs.SeenLemmas.{IsDetermined}
use Rattle.snap_top.proofs.TwoFixesLemmas.{fixes_same}
use Rattle.snap_top.proofs.WholeFilesLemmas.{LeavesTheRest}
use Rattle.file_table.specs.Valid.{IsValid}
use Rattle.snap_sync.specs.Part.{trees_of}
use Rattle.snap_top.proofs.AskedLemmas.{command_asked, same_loaded, unfailed}
use Rattle.snap_top.proofs.HeldLemmas.{lists_same}
use Rattle.snap_top.proofs.SyncedLemmas.{OneTable}
use Rattle.snap_top.proofs.CameLemmas.{as_long, came_to_same}

-- two fixes that were asked for the same of disks with the same names, began with the same, listed the same and saw the same blocks
pub fixes_seen_alike : IsDetermined → LeavesTheRest → FilesAreFinished → (before before_then : Entry) (exit exit_then : Exit) (status status_then : ℕ) (one : EndsFixed before exit status)
    (other : EndsFixed before_then exit_then status_then) → HoldAlike before before_then → KeepStampsAlike before before_then → SeenAlike (seen_by one.run) (seen_by other.run)
    → FixesAlike one.run other.run one.finishes other.finishes exit exit_then × PrintAlike before before_then exit exit_then status status_then
fixes_seen_alike determined rest are_finished before before_then exit exit_then status status_then one other hold stamps seen =
    let over = one.is_fix.over in
    let over_then = other.is_fix.over in
    let run = one.run in
    let again = other.run in
    let plans : run.plan ≡ again.plan = one_plan modes.Fix run.selection (names_of run.setup) run.loaded run.lists run.plan again.plan over.plan_is
    (plan_as modes.Fix run.selection again.selection (names_of run.setup) (names_of again.setup) run.loaded again.loaded run.lists again.lists again.plan seen.selection seen.names seen.loaded seen.lists
    over_then.plan_is) in
    let numbers : numbers_of (facts_of run.stripes) ≡ numbers_of (facts_of again.stripes) = one.fixed.numbers ∙ ap stripes_of plans ∙ sym other.fixed.numbers in
    let are_then : All (AreFacts run.plan) (facts_of again.stripes) = subst (λ (p : FixPlan). All (AreFacts p) (facts_of again.stripes)) (sym plans) over_then.finds.are in
    fixes_same determined rest are_finished before before_then exit exit_then status status_then one other hold stamps seen plans
    (as_long run.plan (facts_of run.stripes) (facts_of again.stripes) over.finds.are are_then over.no_gifts over_then.no_gifts numbers)
    (came_to_same run.plan (facts_of run.stripes) (facts_of again.stripes) over.finds.are are_then over.no_gifts over_then.no_gifts numbers seen.came)

-- ---- where no count of faults rose

fixes_asked : (before before_then : Entry) (hold : HoldAlike before before_then) (ask : AskSame before before_then) (exit : Exit) (status : ℕ) → EndsFixed before exit status → AskAlike modes.Fix modes.Fix before before_then
fixes_asked before before_then hold ask exit status one =
    let is = one.is_fix in
    let command = command_asked before hold.tells.tells ask.asked ask.words _ is.readers one.run.setup is.configured in
    record {
      asked = ask.asked;
      asked_then = ask.asked_then;
      selection = one.run.selection;
      words = ask.words;
      words_then = ask.words_then;
      command_is = sym command;
      command_then = sym ask.command ∙ sym command;
      log = ask.log;
    }

pub fixes_of_one_array : IsDetermined → LeavesTheRest → FilesAreFinished → OneTable → (before before_then : Entry) (exit exit_then : Exit) (status status_then : ℕ) (one : EndsFixed before exit status) (other : EndsFixed before_then exit_then status_then)
    → HoldAlike before before_then → AskSame before before_then → KeepStampsAlike before before_then → NothingRose before exit → NothingRose before_then exit_then
    → FixesAlike one.run other.run one.finishes other.finishes exit exit_then × PrintAlike before before_then exit exit_then status status_then
fixes_of_one_array determined rest are_finished one_table before before_then exit exit_then status status_then one other hold same stamps well well_then =
    let is = one.is_fix in
    let is_then = other.is_fix in
    let over = is.over in
    let over_then = is_then.over in
    let run = one.run in
    let again = other.run in
    let ask : AskAlike modes.Fix modes.Fix before before_then = fixes_asked before before_then hold same exit status one in
    let selected : run.selection ≡ again.selection
    = selections modes.Fix modes.Fix before before_then hold ask run.selection again.selection run.setup again.setup is.readers is_then.readers is.configured is_then.configured in
    let set : run.setup ≡ again.setup
    = setups modes.Fix modes.Fix before before_then hold ask run.selection again.selection run.setup again.setup is.readers is_then.readers is.configured is_then.configured in
    let loaded : run.loaded ≡ again.loaded
    = same_loaded one_table before before_then hold run.setup again.setup run.loaded again.loaded set (is.loading.from (unfailed before exit is.loading well)) (is_then.loading.from (unfailed before_then exit_then is_then.loading well_then)) in
    let trees : trees_of run.folders ≡ trees_of again.folders = ap trees_of is.folders_are ∙ hold.trees ∙ sym (ap trees_of is_then.folders_are) in
    let lists : run.lists ≡ again.lists = lists_same run.folders run.listed again.folders again.listed run.lists again.lists over.listed over_then.listed
    (fix_tells before exit status hold.tells well one) (fix_tells before_then exit_then status_then hold.tells_then well_then other) trees in
    let plans : run.plan ≡ again.plan = one_plan modes.Fix run.selection (names_of run.setup) run.loaded run.lists run.plan again.plan over.plan_is
    (plan_as modes.Fix run.selection again.selection (names_of run.setup) (names_of again.setup) run.loaded again.loaded run.lists again.lists again.plan selected (ap names_of set) loaded lists over_then.plan_is) in
    let valid : IsValid run.plan.table = subst IsValid (sym over.plan_is.table_is) over.valid in
    let are_then : All (AreFacts run.plan) (facts_of again.stripes) = subst (λ (p : FixPlan). All (AreFacts p) (facts_of again.stripes)) (sym plans) over_then.finds.are in
    let numbers : numbers_of (facts_of run.stripes) ≡ numbers_of (facts_of again.stripes) = one.fixed.numbers ∙ ap stripes_of plans ∙ sym other.fixed.numbers in
    let came = came_as run.plan.table run.loaded run.lists run.lists (trees_of run.folders) (trees_of run.folders) before.opener.vault.files before.opener.vault.files (facts_of run.stripes) over.plan_is.table_is refl refl refl
    (fix_came before exit status hold.tells well one) in
    let came_then = came_as run.plan.table again.loaded run.lists again.lists (trees_of run.folders) (trees_of again.folders) before.opener.vault.files before_then.opener.vault.files (facts_of again.stripes)
    (over.plan_is.table_is ∙ loaded) lists trees hold.files (fix_came before_then exit_then status_then hold.tells_then well_then other) in
    let seen : SeenAlike (seen_by run) (seen_by again) = record {
      selection = selected;
      names = ap names_of set;
      loaded = loaded;
      lists = lists;
      came = λ k within. record {
        cells = slot_alike determined run.plan valid run.lists (trees_of run.folders) before.opener.vault.files (facts_of run.stripes) (facts_of again.stripes) over.finds.are are_then over.no_gifts over_then.no_gifts numbers
            came came_then k within;
        levels = levels_same determined run.plan valid run.lists (trees_of run.folders) before.opener.vault.files (facts_of run.stripes) (facts_of again.stripes) over.finds.are are_then over.no_gifts over_then.no_gifts numbers
            came came_then k within;
      };
    } in
    fixes_seen_alike determined rest are_finished before before_then exit exit_then status status_then one other hold stamps seen
