-- Two fixes of one array print, find and restore the same, where no count of faults rose.
use Rattle.std.proofs.Common.{◌≡◌, inl, inr, ℕ, ◌<◌, List, ◌++◌, length, count_by, Bool, true, false, IsTrue, refl, sym, ap, ap₂, ◌∙◌, subst, arith}
use Rattle.std.specs.Prelude.{All, sum_by}
use Rattle.std.proofs.lemmas.List.{get_or-map, length-map}
use Rattle.folder_listing.specs.Kept.{ListedFile}
use Rattle.disk_model.specs.Files.{Files}
use Rattle.disk_model.specs.Folder.{FolderView}
use Rattle.disk_model.specs.Tree.{Tree, file_of, path_of}
use Rattle.disk_model.specs.declared.meta.Stamp.{Stamp}
use Rattle.file_restorer.specs.State.{IsNameOf, record_path}
use Rattle.file_restorer.specs.declared.finishing.Finish.{Finish}
use Rattle.file_table.specs.Table.{TableValue, record_at, records_in}
use Rattle.file_table.specs.Valid.{IsValid}
use Rattle.snap_fix.specs.Ending.{AreDone, finish_at, finishes_at, is_finished}
use Rattle.snap_fix.specs.FixCourse.{fix_events}
use Rattle.snap_fix.specs.Fixing.{facts_of, mended_at, no_mended}
use Rattle.snap_fix.specs.Mended.{AnswersFit, Mended, all_mended_events, has_lost, is_wrong_level, writes_of, wrong_in, written_in}
use Rattle.snap_fix.specs.Restored.{HasFixed}
use Rattle.snap_fix.specs.Underway.{AddsZeros, HoldsWrong, IsMendedLevel, KeepsLevels}
use Rattle.snap_report.specs.EndLines.{fix_text}
use Rattle.snap_report.specs.EventLines.{lines_of}
use Rattle.snap_report.specs.Kind.{is_left}
use Rattle.snap_report.specs.Telling.{Tells, between}
use Rattle.snap_report.specs.declared.events.Event.{Event}
use Rattle.snap_sync.specs.Part.{AllTell, trees_of, tree_at}
use Rattle.stripe_examiner.specs.Counts.{at_most}
use Rattle.stripe_examiner.specs.Facts.{StripeFacts}
use Rattle.stripe_examiner.specs.Findings.{opening_events}
use Rattle.stripe_examiner.specs.Known.{AreFacts}
use Rattle.stripe_examiner.specs.Looking.{facts_at, no_facts}
use Rattle.repair_scope.specs.Plan.{FixPlan}
use Rattle.stripe_examiner.specs.Place.{starts_of}
use Rattle.stripe_reader.specs.Columns.{folder_at}
use Rattle.stripe_reader.specs.Starts.{StartsValue}
use Rattle.snap_top.specs.Alike.{HoldAlike, SeenAlike, seen_by}
use Rattle.snap_top.specs.Fix.{FixRun}
use Rattle.snap_top.specs.FixedAlike.{FixesAlike, HaveSameBytes, HaveSameFiles, KeepStampsAlike, bytes_in}
use Rattle.snap_top.specs.LeftAlike.{PrintAlike}
use Rattle.snap_top.specs.Stands.{TellsAll}
use Rattle.snap_top.specs.Restoring.{EndsFixed, events_in}
use Rattle.snap_top.specs.Entry.{Entry, Exit}
use Rattle.snap_top.proofs.AskedLemmas.{same_status}
use Rattle.snap_top.proofs.FinishedByLemmas.{all_news_same, bytes_last, last_same, tells_mid}
use Rattle.snap_top.proofs.HeldLemmas.{tells_then, tree_then}
use Rattle.snap_top.proofs.LevelsSameLemmas.{mended_same}
use Rattle.snap_top.proofs.MendedAlikeLemmas.{AreWritten, CameToSame, all_events_same, all_written_same, all_wrong_same, has_lost_same, level_wrong_same, row_known_same, writes_of_same}
use Rattle.snap_top.proofs.PlacesLemmas.{named_or_not}
use Rattle.snap_top.proofs.RestoredLastLemmas.{FilesAreFinished}
use Rattle.snap_top.proofs.SeenLemmas.{IsDetermined, NoGifts, all_rows_same, rows_of}
use Rattle.snap_top.proofs.WholeFilesLemmas.{LeavesTheRest, whole_same}

-- ---- two fixes by one plan, of whose stripes the same came

facts_is : (stripes : List Mended) (k : ℕ) → k < length stripes → facts_at (facts_of stripes) k ≡ (mended_at stripes k).facts
facts_is stripes k within = get_or-map (λ (mended : Mended). mended.facts) stripes k no_mended no_facts within

as_facts : (stripes : List Mended) (k : ℕ) → k < length stripes → k < length (facts_of stripes)
as_facts stripes k within = let long = length-map stripes (λ (mended : Mended). mended.facts) in omega (arith, within, long)

module _ (determined : IsDetermined) (plan : FixPlan) (valid : IsValid plan.table) (ones others : List Mended) (are : All (AreFacts plan) (facts_of ones)) (are_then : All (AreFacts plan) (facts_of others))
    (none_then : All NoGifts (facts_of others)) (many_facts : length (facts_of ones) ≡ length (facts_of others))
    (same_facts : (k : ℕ) → k < length (facts_of ones) → CameToSame (facts_at (facts_of ones) k) (facts_at (facts_of others) k)) (firsts firsts_then : List FolderView)
    (answered : All (AnswersFit plan firsts) ones) (answered_then : All (AnswersFit plan firsts_then) others) (tells : (d : ℕ) → d < length plan.table.columns → IsTrue (folder_at firsts d).tells)
    (tells_after : (d : ℕ) → d < length plan.table.columns → IsTrue (folder_at firsts_then d).tells) where
  abbrev one_facts : List StripeFacts
  one_facts = facts_of ones

  abbrev other_facts : List StripeFacts
  other_facts = facts_of others

  many : length ones ≡ length others
  many = sym (length-map ones (λ (mended : Mended). mended.facts)) ∙ many_facts ∙ length-map others (λ (mended : Mended). mended.facts)

  near : (k : ℕ) → k < length ones → k < length others
  near k within = omega (arith, within, many)

  same : (k : ℕ) → k < length ones → CameToSame (mended_at ones k).facts (mended_at others k).facts
  same k within =
      subst (λ (facts : StripeFacts). CameToSame facts (mended_at others k).facts) (facts_is ones k within)
      (subst (λ (facts : StripeFacts). CameToSame (facts_at one_facts k) facts) (facts_is others k (near k within)) (same_facts k (as_facts ones k within)))

  its : (k : ℕ) → k < length ones → AreFacts plan (mended_at ones k).facts
  its k within = subst (AreFacts plan) (facts_is ones k within) (are k no_facts (as_facts ones k within))

  its_then : (k : ℕ) → k < length ones → AreFacts plan (mended_at others k).facts
  its_then k within = subst (AreFacts plan) (facts_is others k (near k within)) (are_then k no_facts (as_facts others k (near k within)))

  given_none : (k : ℕ) → k < length ones → NoGifts (mended_at others k).facts
  given_none k within = subst NoGifts (facts_is others k (near k within)) (none_then k no_facts (as_facts others k (near k within)))

  written : (k : ℕ) → k < length ones → AreWritten plan (mended_at ones k)
  written k within d below = answered k no_mended within d below (tells d below)

  written_then : (k : ℕ) → k < length ones → AreWritten plan (mended_at others k)
  written_then k within d below = answered_then k no_mended (near k within) d below (tells_after d below)

  pub told_same : all_mended_events plan ones ≡ all_mended_events plan others
  told_same = all_events_same determined plan valid ones others many its its_then same given_none written written_then

  pub written_same : sum_by (written_in plan) ones ≡ sum_by (written_in plan) others
  written_same = all_written_same determined plan valid ones others many its its_then same given_none written written_then

  pub wrong_same : sum_by (wrong_in plan) ones ≡ sum_by (wrong_in plan) others
  wrong_same = all_wrong_same determined plan valid ones others many its its_then same given_none written written_then

  pub lost_alike : (d i : ℕ) → d < length plan.table.columns → has_lost plan ones d i ≡ has_lost plan others d i
  lost_alike = has_lost_same determined plan valid ones others many its its_then same given_none written written_then

  pub wrote_alike : (d i : ℕ) → d < length plan.table.columns → writes_of plan ones d i ≡ writes_of plan others d i
  wrote_alike = writes_of_same determined plan valid ones others many its its_then same given_none written written_then

  -- the levels

  at_facts : {X : Type 0} (f : StripeFacts → X) (k : ℕ) → k < length one_facts → ((k : ℕ) → k < length ones → f (mended_at ones k).facts ≡ f (mended_at others k).facts) → f (facts_at one_facts k) ≡ f (facts_at other_facts k)
  at_facts f k below alike =
      let within : k < length ones = (let long = length-map ones (λ (mended : Mended). mended.facts) in omega (arith, below, long)) in
      ap f (facts_is ones k within) ∙ alike k within ∙ sym (ap f (facts_is others k (near k within)))

  pub rows_same : rows_of one_facts ≡ rows_of other_facts
  rows_same = all_rows_same one_facts other_facts many_facts
      (λ k below. at_facts (λ (facts : StripeFacts). facts.row) k below (λ j within. row_known_same determined plan valid ones others many its its_then same given_none written written_then j within))

  pub vault_same : (old one other : Files) → KeepsLevels plan.table.shape.block_size (IsMendedLevel plan one_facts) old one → KeepsLevels plan.table.shape.block_size (IsMendedLevel plan other_facts) old other
      → AddsZeros plan.table.shape.block_size (IsMendedLevel plan one_facts) old one → AddsZeros plan.table.shape.block_size (IsMendedLevel plan other_facts) old other
      → All (λ (facts : StripeFacts). HoldsWrong plan facts one) one_facts → All (λ (facts : StripeFacts). HoldsWrong plan facts other) other_facts → HaveSameFiles one other
  vault_same old one other =
      mended_same plan one_facts other_facts many_facts
      (λ k below. at_facts (λ (facts : StripeFacts). facts.stripe) k below (λ j within. (same j within).stripe))
      (λ k r below. at_facts (λ (facts : StripeFacts). is_wrong_level plan facts r) k below (λ j within. level_wrong_same determined plan valid ones others many its its_then same given_none written written_then j r within))
      (λ k below. at_facts (λ (facts : StripeFacts). facts.row) k below (λ j within. row_known_same determined plan valid ones others many its its_then same given_none written written_then j within))
      old one other

  -- the files

  module _ (rest : LeavesTheRest) (starts : StartsValue) (finishes finishes_then : List (List Finish)) (news news_then : List FolderView) (has : HasFixed plan starts ones finishes firsts news)
      (has_then : HasFixed plan starts others finishes_then firsts_then news_then) (same_trees : (d : ℕ) → d < length plan.table.columns → (folder_at firsts d).tree ≡ (folder_at firsts_then d).tree)
      (keeps : (d : ℕ) → d < length plan.table.columns → (folder_at firsts d).keeps ≡ (folder_at firsts_then d).keeps) where
    done : AreDone plan has.files.written.starts has.files.written.states has.files.written.folders finishes
    done d i below within finished = (has.files.finished d below).is i within finished

    done_then : AreDone plan has_then.files.written.starts has_then.files.written.states has_then.files.written.folders finishes_then
    done_then d i below within finished = (has_then.files.finished d below).is i within finished

    pub all_told_same : fix_events plan ones finishes ≡ fix_events plan others finishes_then
    all_told_same = ap₂ (λ (stripes news : List Event). opening_events plan ++ (stripes ++ news)) told_same
        (all_news_same plan starts ones others firsts firsts_then has.files.written has_then.files.written has.files.writes has_then.files.writes finishes finishes_then tells tells_after same_trees keeps
        lost_alike wrote_alike done done_then)

    finished_bytes_same : (d i : ℕ) (below : d < length plan.table.columns) (within : i < length (records_in plan.table d)) → is_finished plan d i ≡ true → (lost : Bool)
        → bytes_in (file_of (folder_at news d).tree (path_of (record_path (records_in plan.table d) i) lost)) ≡ bytes_in (file_of (folder_at news_then d).tree (path_of (record_path (records_in plan.table d) i) lost))
    finished_bytes_same d i below within finished lost =
        bytes_last plan starts ones firsts has.files.written has.files.writes d below (tells d below) i within (finish_at (finishes_at finishes d) i) (folder_at has.files.written.folders d).keeps (folder_at news d).tree
        (done d i below within finished)
        ((has.files.finished d below).holds (tells_mid plan starts ones firsts has.files.written has.files.writes d below (tells d below) i within) i within finished) lost
        ∙ last_same plan starts ones others firsts firsts_then has.files.written has_then.files.written has.files.writes has_then.files.writes finishes finishes_then tells tells_after same_trees keeps
        lost_alike wrote_alike d i below lost
        ∙ sym (bytes_last plan starts others firsts_then has_then.files.written has_then.files.writes d below (tells_after d below) i within (finish_at (finishes_at finishes_then d) i)
        (folder_at has_then.files.written.folders d).keeps (folder_at news_then d).tree (done_then d i below within finished)
        ((has_then.files.finished d below).holds (tells_mid plan starts others firsts_then has_then.files.written has_then.files.writes d below (tells_after d below) i within) i within finished) lost)

    record_bytes_same : (d i : ℕ) (below : d < length plan.table.columns) (within : i < length (records_in plan.table d)) (lost : Bool)
        → bytes_in (file_of (folder_at news d).tree (path_of (record_path (records_in plan.table d) i) lost)) ≡ bytes_in (file_of (folder_at news_then d).tree (path_of (record_path (records_in plan.table d) i) lost))
    record_bytes_same d i below within lost = by (is_finished plan d i) refl
      where
        by : (b : Bool) → is_finished plan d i ≡ b
            → bytes_in (file_of (folder_at news d).tree (path_of (record_path (records_in plan.table d) i) lost)) ≡ bytes_in (file_of (folder_at news_then d).tree (path_of (record_path (records_in plan.table d) i) lost))
        by true finished = finished_bytes_same d i below within finished lost
        by false not =
            ap bytes_in (rest.unfinished plan starts ones finishes firsts news d i lost (record { fixed = has; tells = tells d below; column = below; inside = within }) not)
            ∙ ap (λ (tree : Tree). bytes_in (file_of tree (path_of (record_path (records_in plan.table d) i) lost))) (same_trees d below)
            ∙ sym (ap bytes_in (rest.unfinished plan starts others finishes_then firsts_then news_then d i lost (record { fixed = has_then; tells = tells_after d below; column = below; inside = within }) not))

    pub bytes_same : (d : ℕ) → d < length plan.table.columns → HaveSameBytes (folder_at news d).tree (folder_at news_then d).tree
    bytes_same d below name = elim (named_or_not (record_path (records_in plan.table d)) name (length (records_in plan.table d))) [
      | inl is ↦
          subst (λ (its_name : List ℕ). bytes_in (file_of (folder_at news d).tree its_name) ≡ bytes_in (file_of (folder_at news_then d).tree its_name)) (sym is.3)
          (record_bytes_same d is.0 below is.2 is.1)
      | inr unnamed ↦
          let apart : ¬ (IsNameOf (records_in plan.table d) name) = λ is. unnamed is.0 is.1 is.2 is.3 in
          ap bytes_in (rest.others plan starts ones finishes firsts news d name has (tells d below) below apart)
          ∙ ap (λ (tree : Tree). bytes_in (file_of tree name)) (same_trees d below)
          ∙ sym (ap bytes_in (rest.others plan starts others finishes_then firsts_then news_then d name has_then (tells_after d below) below apart))
    ]

-- ---- one fix

module _ (before : Entry) (exit : Exit) (status : ℕ) (tells : TellsAll before) (ends : EndsFixed before exit status) where
  abbrev run : FixRun
  run = ends.run

  all_tell : AllTell run.folders
  all_tell = subst AllTell (sym ends.is_fix.folders_are) tells.tells_folders

  within_folders : (d : ℕ) → d < length run.plan.table.columns → d < length run.folders
  within_folders d below =
      let columns : length run.plan.table.columns ≡ length run.loaded.columns = ap (λ (t : TableValue). length t.columns) ends.is_fix.over.plan_is.table_is in
      let folders = ends.is_fix.over.columns in
      omega (arith, below, columns, folders)

  pub listed_tells : (d : ℕ) → d < length run.plan.table.columns → IsTrue (folder_at run.listed d).tells
  listed_tells d below = tells_then run.folders run.listed run.lists ends.is_fix.over.listed all_tell d (within_folders d below)

  pub listed_tree : (d : ℕ) → d < length run.plan.table.columns → (folder_at run.listed d).tree ≡ tree_at (trees_of run.folders) d
  listed_tree d below = tree_then run.folders run.listed run.lists ends.is_fix.over.listed all_tell d (within_folders d below)

  pub listed_keeps : (d : ℕ) → d < length run.plan.table.columns → (folder_at run.listed d).keeps ≡ (folder_at before.opener.folders d).keeps
  listed_keeps d below =
      (ends.is_fix.over.listed.each d (within_folders d below)).call.called.goes_on.keeps
      ∙ ap (λ (folders : List FolderView). (folder_at folders d).keeps) ends.is_fix.folders_are

-- what a fix prints
abbrev fix_lines : TableValue → List Event → ℕ → ℕ → List ℕ
fix_lines table events blocks parities = lines_of table.columns events ++ fix_text (at_most blocks) (at_most parities) (at_most (count_by is_left events))

-- ---- two fixes of one array

-- by one plan, of whose stripes the same came
pub fixes_same : IsDetermined → LeavesTheRest → FilesAreFinished → (before before_then : Entry) (exit exit_then : Exit) (status status_then : ℕ) (one : EndsFixed before exit status) (other : EndsFixed before_then exit_then status_then)
    → HoldAlike before before_then → KeepStampsAlike before before_then → SeenAlike (seen_by one.run) (seen_by other.run) → one.run.plan ≡ other.run.plan
    → length (facts_of one.run.stripes) ≡ length (facts_of other.run.stripes)
    → ((k : ℕ) → k < length (facts_of one.run.stripes) → CameToSame (facts_at (facts_of one.run.stripes) k) (facts_at (facts_of other.run.stripes) k))
    → FixesAlike one.run other.run one.finishes other.finishes exit exit_then × PrintAlike before before_then exit exit_then status status_then
fixes_same determined rest are_finished before before_then exit exit_then status status_then one other hold stamps seen plans many same =
    let loaded = seen.loaded in
    let lists = seen.lists in
    let is = one.is_fix in
    let is_then = other.is_fix in
    let over = is.over in
    let over_then = is_then.over in
    let run = one.run in
    let again = other.run in
    let trees : trees_of run.folders ≡ trees_of again.folders = ap trees_of is.folders_are ∙ hold.trees ∙ sym (ap trees_of is_then.folders_are) in
    let starts : starts_of run.loaded run.lists ≡ starts_of again.loaded again.lists = ap₂ (λ (t : TableValue) (ls : List (List ListedFile)). starts_of t ls) loaded lists in
    let valid : IsValid run.plan.table = subst IsValid (sym over.plan_is.table_is) over.valid in
    let are_then : All (AreFacts run.plan) (facts_of again.stripes) = subst (λ (p : FixPlan). All (AreFacts p) (facts_of again.stripes)) (sym plans) over_then.finds.are in
    let answered_then : All (AnswersFit run.plan again.listed) again.stripes = subst (λ (p : FixPlan). All (AnswersFit p again.listed) again.stripes) (sym plans) over_then.finds.answered in
    let has_then : HasFixed run.plan (starts_of run.loaded run.lists) again.stripes other.finishes again.listed again.ended =
    subst (λ (p : FixPlan). HasFixed p (starts_of run.loaded run.lists) again.stripes other.finishes again.listed again.ended) (sym plans)
    (subst (λ (s : StartsValue). HasFixed again.plan s again.stripes other.finishes again.listed again.ended) (sym starts) other.fixed) in
    let columns : length run.plan.table.columns ≡ length again.plan.table.columns = ap (λ (p : FixPlan). length p.table.columns) plans in
    let here : (d : ℕ) → d < length run.plan.table.columns → d < length again.plan.table.columns = λ d below. omega (arith, below, columns) in
    let tell = listed_tells before exit status hold.tells one in
    let tell_then : (d : ℕ) → d < length run.plan.table.columns → IsTrue (folder_at again.listed d).tells = λ d below. listed_tells before_then exit_then status_then hold.tells_then other d (here d below) in
    let listed_trees : (d : ℕ) → d < length run.plan.table.columns → (folder_at run.listed d).tree ≡ (folder_at again.listed d).tree = λ d below.
    (listed_tree before exit status hold.tells one d below
    ∙ ap (λ (ts : List Tree). tree_at ts d) trees
    ∙ sym (listed_tree before_then exit_then status_then hold.tells_then other d (here d below))) in
    let keeps : (d : ℕ) → d < length run.plan.table.columns → (folder_at run.listed d).keeps ≡ (folder_at again.listed d).keeps = λ d below.
    (listed_keeps before exit status hold.tells one d below ∙ stamps d ∙ sym (listed_keeps before_then exit_then status_then hold.tells_then other d (here d below))) in
    let size : ℕ = run.plan.table.shape.block_size in
    let old : Files = before.opener.vault.files in
    let files_then : Files = exit_then.after.vault.files in
    let keeps_then : KeepsLevels size (IsMendedLevel run.plan (facts_of again.stripes)) old files_then =
    subst (λ (p : FixPlan). KeepsLevels p.table.shape.block_size (IsMendedLevel p (facts_of again.stripes)) old files_then) (sym plans)
    (subst (λ (fs : Files). KeepsLevels again.plan.table.shape.block_size (IsMendedLevel again.plan (facts_of again.stripes)) fs files_then) (sym hold.files) other.moment) in
    let zeros_then : AddsZeros size (IsMendedLevel run.plan (facts_of again.stripes)) old files_then =
    subst (λ (p : FixPlan). AddsZeros p.table.shape.block_size (IsMendedLevel p (facts_of again.stripes)) old files_then) (sym plans)
    (subst (λ (fs : Files). AddsZeros again.plan.table.shape.block_size (IsMendedLevel again.plan (facts_of again.stripes)) fs files_then) (sym hold.files) other.zeros) in
    let holds_then : All (λ (facts : StripeFacts). HoldsWrong run.plan facts files_then) (facts_of again.stripes) =
    subst (λ (p : FixPlan). All (λ (facts : StripeFacts). HoldsWrong p facts files_then) (facts_of again.stripes)) (sym plans) (other.leaves.reads other.tells) in
    let events : events_in run one.finishes ≡ events_in again other.finishes =
    all_told_same determined run.plan valid run.stripes again.stripes over.finds.are are_then over_then.no_gifts many same run.listed again.listed over.finds.answered
    answered_then tell tell_then rest (starts_of run.loaded run.lists) one.finishes other.finishes run.ended again.ended one.fixed has_then listed_trees keeps
    ∙ ap (λ (p : FixPlan). fix_events p again.stripes other.finishes) plans in
    let blocks : sum_by (written_in run.plan) run.stripes ≡ sum_by (written_in again.plan) again.stripes =
    written_same determined run.plan valid run.stripes again.stripes over.finds.are are_then over_then.no_gifts many same run.listed again.listed
    over.finds.answered answered_then tell tell_then
    ∙ ap (λ (p : FixPlan). sum_by (written_in p) again.stripes) plans in
    let parities : sum_by (wrong_in run.plan) run.stripes ≡ sum_by (wrong_in again.plan) again.stripes =
    wrong_same determined run.plan valid run.stripes again.stripes over.finds.are are_then over_then.no_gifts many same run.listed again.listed
    over.finds.answered answered_then tell tell_then
    ∙ ap (λ (p : FixPlan). sum_by (wrong_in p) again.stripes) plans in
    let text : List ℕ = fix_lines run.loaded (events_in run one.finishes) (sum_by (written_in run.plan) run.stripes) (sum_by (wrong_in run.plan) run.stripes) in
    let lines : text ≡ fix_lines again.loaded (events_in again other.finishes) (sum_by (written_in again.plan) again.stripes) (sum_by (wrong_in again.plan) again.stripes) =
    ap₂ (λ (t : TableValue) (es : List Event). fix_lines t es (sum_by (written_in run.plan) run.stripes) (sum_by (wrong_in run.plan) run.stripes)) loaded events
    ∙ ap₂ (fix_lines again.loaded (events_in again other.finishes)) blocks parities in (
      record {
        loaded = loaded;
        seen = seen;
        rows = rows_same determined run.plan valid run.stripes again.stripes over.finds.are are_then over_then.no_gifts many same run.listed again.listed over.finds.answered answered_then tell tell_then;
        events = events;
        folders = λ d below.
            (let within : d < length run.plan.table.columns = (let as_loaded = ap (λ (t : TableValue). length t.columns) over.plan_is.table_is in omega (arith, below, as_loaded)) in
            subst (λ (news : List FolderView). HaveSameBytes (folder_at news d).tree (folder_at exit_then.after.folders d).tree) is.ended_is
            (subst (λ (news : List FolderView). HaveSameBytes (folder_at run.ended d).tree (folder_at news d).tree) is_then.ended_is
            (bytes_same determined run.plan valid run.stripes again.stripes over.finds.are are_then over_then.no_gifts many same run.listed again.listed
            over.finds.answered answered_then tell tell_then rest (starts_of run.loaded run.lists) one.finishes other.finishes run.ended again.ended one.fixed has_then listed_trees keeps d within)));
        whole = λ d name below stamped none.
            (let within : d < length run.plan.table.columns = (let as_loaded = ap (λ (t : TableValue). length t.columns) over.plan_is.table_is in omega (arith, below, as_loaded)) in
            let listed_keep : (folder_at run.listed d).keeps ≡ (folder_at run.folders d).keeps = listed_keeps before exit status hold.tells one d within
            ∙ ap (λ (folders : List FolderView). (folder_at folders d).keeps) (sym is.folders_are) in
            let at_first : (i : ℕ) → i < length (records_in run.plan.table d) → is_finished run.plan d i ≡ true → path_of (record_path (records_in run.plan.table d) i) false ≡ name
            → IsTrue ((folder_at run.listed d).keeps (record_at run.plan.table.columns d i).meta.stamp) = λ i inside finished under.
            (ap (λ (keeps_it : Stamp → Bool). keeps_it (record_at run.plan.table.columns d i).meta.stamp) listed_keep ∙ stamped i inside finished under) in
            let bytes : HaveSameBytes (folder_at run.ended d).tree (folder_at again.ended d).tree =
            bytes_same determined run.plan valid run.stripes again.stripes over.finds.are are_then over_then.no_gifts many same run.listed again.listed
            over.finds.answered answered_then tell tell_then rest (starts_of run.loaded run.lists) one.finishes other.finishes run.ended again.ended one.fixed has_then listed_trees keeps d within in
            subst (λ (news : List FolderView). file_of (folder_at news d).tree name ≡ file_of (folder_at exit_then.after.folders d).tree name) is.ended_is
            (subst (λ (news : List FolderView). file_of (folder_at run.ended d).tree name ≡ file_of (folder_at news d).tree name) is_then.ended_is
            (whole_same rest are_finished run.plan (starts_of run.loaded run.lists) run.stripes again.stripes one.finishes other.finishes run.listed again.listed run.ended again.ended one.fixed has_then d within
            (tell d within) (tell_then d within) (listed_trees d within) (keeps d within)
            (λ i. lost_alike determined run.plan valid run.stripes again.stripes over.finds.are are_then over_then.no_gifts many same run.listed
            again.listed over.finds.answered answered_then tell tell_then d i within) bytes name at_first none)));
        vault = vault_same determined run.plan valid run.stripes again.stripes over.finds.are are_then over_then.no_gifts many same run.listed again.listed
            over.finds.answered answered_then tell tell_then old exit.after.vault.files files_then one.moment keeps_then one.zeros zeros_then (one.leaves.reads one.tells) holds_then;
      },
      record {
        text = text;
        printed = record { failed = one.output_failed; status_is = one.status_is.failed; told = one.printed };
        printed_then = record {
          failed = other.output_failed;
          status_is = other.status_is.failed;
          told = subst (λ (its : List ℕ). Tells its (between false before_then.out) (between other.output_failed exit_then.after.out)) (sym lines) other.printed;
        };
        statuses = same_status status status_then one.output_failed other.output_failed _ _ (λ clean. ap (count_by is_left) (sym events) ∙ clean) (λ clean. ap (count_by is_left) events ∙ clean) one.status_is
            other.status_is;
      },
    )
