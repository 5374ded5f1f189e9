-- A fix that broke off told and printed a front of what one does over the same array of whose stripes the same blocks came first.
use Rattle.std.proofs.Common.{◌≡◌, ⊎_elim, ℕ, ◌+◌, ◌<◌, List, [], ◌∷◌, ◌++◌, length, take, drop, take-append-drop, append_assoc, append-nil, false, IsTrue, sym, ap, ap₂, ◌∙◌, subst, arith}
use Rattle.std.specs.Prelude.{All, count_by, sum_by}
use Rattle.std.specs.List.{flat_map, range_with_len}
use Rattle.std.proofs.lemmas.Grind.{flat_map-append}
use Rattle.std.proofs.lemmas.List.{length-map, take_all}
use Rattle.folder_listing.specs.Kept.{ListedFile}
use Rattle.disk_model.specs.Folder.{FolderView}
use Rattle.disk_model.specs.Sink.{SinkView}
use Rattle.disk_model.specs.Tree.{Tree}
use Rattle.disk_model.specs.Vault.{VaultView}
use Rattle.file_table.specs.Table.{TableValue}
use Rattle.file_table.specs.Valid.{IsValid}
use Rattle.parity_writer.specs.LevelReading.{LevelReading}
use Rattle.snap_fix.specs.BrokenStripe.{broken_events}
use Rattle.snap_fix.specs.Ending.{AreDone, all_finish_news}
use Rattle.snap_fix.specs.FixBreaking.{BreaksEnding, BreaksWriting}
use Rattle.snap_fix.specs.FixCourse.{WritesFiles, Written, fix_events}
use Rattle.snap_fix.specs.FixRun.{BreaksInLast, HasBroken}
use Rattle.snap_fix.specs.Fixing.{facts_of}
use Rattle.snap_fix.specs.Mended.{AnswersFit, Mended, all_cell_news, all_level_news, all_mended_events, cell_news, has_lost, level_news, mended_events, writes_of, written_in, wrong_in}
use Rattle.snap_fix.specs.Restored.{HasFixed}
use Rattle.snap_fix.specs.Windows.{FixWindow}
use Rattle.file_restorer.specs.declared.finishing.Finish.{Finish}
use Rattle.snap_report.specs.EndLines.{fix_text}
use Rattle.snap_report.specs.EventLines.{event_line, lines_of}
use Rattle.snap_report.specs.Kind.{is_left}
use Rattle.snap_report.specs.Telling.{Tells, between}
use Rattle.snap_report.specs.declared.answer.RunFault.{RunFault}
use Rattle.snap_report.specs.declared.answer.RunFault.TheVariants as runs
use Rattle.snap_report.specs.declared.events.Event.{Event}
use Rattle.snap_sync.specs.Part.{AllTell, tree_at, trees_of}
use Rattle.stripe_examiner.specs.Counts.{at_most}
use Rattle.stripe_examiner.specs.Facts.{StripeFacts}
use Rattle.stripe_examiner.specs.Findings.{opening_events, stripe_events}
use Rattle.stripe_examiner.specs.Known.{AreFacts}
use Rattle.stripe_examiner.specs.Looking.{facts_at, numbers_of}
use Rattle.repair_scope.specs.Plan.{FixPlan, names_of}
use Rattle.stripe_examiner.specs.Place.{starts_of}
use Rattle.repair_scope.specs.declared.scope.Mode.TheVariants as modes
use Rattle.stripe_reader.specs.Columns.{folder_at}
use Rattle.stripe_reader.specs.Starts.{StartsValue}
use Rattle.snap_top.specs.Alike.{BlocksAlike, HoldAlike, SeenAlike, seen_by}
use Rattle.snap_top.specs.BrokeOff.{BrokeOff, FixBrokeOff, PrintsFront, answered, left_of, seen_so_far}
use Rattle.snap_top.specs.Fix.{FixRun}
use Rattle.snap_top.specs.FixedAlike.{KeepStampsAlike}
use Rattle.snap_top.specs.Fixing.{FixBroke}
use Rattle.snap_top.specs.Restoring.{EndsFixed, events_in}
use Rattle.snap_top.specs.Run.{IsAnswered}
use Rattle.snap_top.specs.Entry.{Entry, Exit}
use Rattle.snap_top.specs.Views.{view_of, world_of}
use Rattle.snap_top.proofs.AlikeLemmas.{one_plan}
use Rattle.snap_top.proofs.FinishedByLemmas.{all_news_same}
use Rattle.snap_top.proofs.BrokeOffLemmas.{folders_are, out_is}
use Rattle.snap_top.proofs.HeldLemmas.{tells_then, tree_then}
use Rattle.snap_top.proofs.OneArrayLemmas.{plan_as}
use Rattle.snap_top.proofs.MendedAlikeLemmas.{CameToSame}
use Rattle.snap_top.proofs.SeenLemmas.{IsDetermined, NoGifts}
use Rattle.snap_top.proofs.CameLemmas.{as_long, came_to_same, first_are, first_at, first_gifts, numbers_are, numbers_first}
use Rattle.snap_top.proofs.TwoFixesLemmas.{listed_keeps, listed_tells, listed_tree, lost_alike, told_same, wrote_alike}
use Rattle.snap_top.proofs.FirstsLemmas.{IsFront, all_front, all_take, front_below, front_in, front_more}

-- ---- what a stripe told that broke off

broken_front : (fault : RunFault) (plan : FixPlan) (level : ℕ) (earlier behind : List StripeFacts) (last : Mended) (readings : List (List LevelReading)) (old new : VaultView) (told : List Event) (olds news : List FolderView)
    → BreaksInLast plan fault level earlier last.facts behind readings old new → HasBroken plan fault told olds news old new → IsFront (broken_events fault plan last level) (mended_events plan last)
broken_front (runs.Folder disk) plan level earlier behind last readings old new told olds news ran broke =
    let within = broke.0 in
    front_in (stripe_events plan last.facts) (flat_map (cell_news plan last) (range_with_len 0 disk)) (all_cell_news plan last ++ all_level_news plan last.facts)
    (front_more (flat_map (cell_news plan last) (range_with_len 0 disk)) (all_cell_news plan last) (all_level_news plan last.facts)
    (front_below (cell_news plan last) disk (length plan.table.columns) (omega (arith, within))))
broken_front runs.Vault plan level earlier behind last readings old new told olds news ran broke =
    let within = ran.ran.within in
    front_in (stripe_events plan last.facts) (all_cell_news plan last ++ flat_map (level_news plan last.facts) (range_with_len 0 level)) (all_cell_news plan last ++ all_level_news plan last.facts)
    (front_in (all_cell_news plan last) (flat_map (level_news plan last.facts) (range_with_len 0 level)) (all_level_news plan last.facts)
    (front_below (level_news plan last.facts) level (length last.facts.levels) (omega (arith, within))))
broken_front runs.Memory plan level earlier behind last readings old new told olds news ran broke = absurd broke

-- ---- all that it told

module _ (plan : FixPlan) (starts : StartsValue) (fault : RunFault) (ones others : List Mended) (finishes_then : List (List Finish)) (ahead : FixWindow) (readings : List (List LevelReading)) (told : List Event)
    (firsts news : List FolderView) (old new : VaultView) (same : all_mended_events plan ones ≡ all_mended_events plan (take (length ones) others)) where
  abbrev rest_of : List Event
  rest_of = all_mended_events plan (drop (length ones) others)

  abbrev news_then : List Event
  news_then = all_finish_news plan finishes_then

  -- the events of its stripes are the first ones
  mended_front : (front : List Event) → IsFront front (all_mended_events plan ones) → IsFront front (all_mended_events plan others)
  mended_front front is =
      let parts : all_mended_events plan others ≡ all_mended_events plan ones ++ rest_of =
      ap (all_mended_events plan) (sym (take-append-drop (length ones) others))
      ∙ flat_map-append (mended_events plan) (take (length ones) others) (drop (length ones) others)
      ∙ ap (λ (events : List Event). events ++ rest_of) (sym same) in
      subst (λ (events : List Event). IsFront front events) (sym parts) (front_more front (all_mended_events plan ones) rest_of is)

  whole_front : (front : List Event) → IsFront front (all_mended_events plan ones) → IsFront (opening_events plan ++ front) (fix_events plan others finishes_then)
  whole_front front is = front_in (opening_events plan) front (all_mended_events plan others ++ news_then) (front_more front (all_mended_events plan others) news_then (mended_front front is))

  writing_front : HasBroken plan fault told firsts news old new → BreaksWriting plan starts fault ones readings ahead told firsts news old new → IsFront told (fix_events plan others finishes_then)
  writing_front broke breaks =
      let earlier = breaks.earlier in
      let last = breaks.last in
      let before : List Event = all_mended_events plan earlier in
      let broken : List Event = broken_events fault plan last breaks.level in
      let in_last : IsFront broken (mended_events plan last ++ []) = front_more broken (mended_events plan last) []
      (broken_front fault plan breaks.level (facts_of earlier) ahead.stripes last (readings ++ ahead.readings) old new told firsts news breaks.ran broke) in
      let all : all_mended_events plan ones ≡ before ++ (mended_events plan last ++ []) =
      ap (all_mended_events plan) breaks.stripes_are ∙ flat_map-append (mended_events plan) earlier (last ∷ []) in
      let in_ones : IsFront (before ++ broken) (all_mended_events plan ones) =
      subst (λ (events : List Event). IsFront (before ++ broken) events) (sym all) (front_in before broken (mended_events plan last ++ []) in_last) in
      let is : told ≡ opening_events plan ++ (before ++ broken) = breaks.first_is ∙ append_assoc (opening_events plan) before broken in
      subst (λ (events : List Event). IsFront events (fix_events plan others finishes_then)) (sym is) (whole_front (before ++ broken) in_ones)

  -- at the end, where the same is told of the files
  module _ (all : length ones ≡ length others)
      (news_same : (written : Written) (finishes : List (List Finish)) → WritesFiles plan starts ones firsts written → AreDone plan written.starts written.states written.folders finishes → all_finish_news plan finishes ≡ news_then) where
    mended_all : all_mended_events plan ones ≡ all_mended_events plan others
    mended_all = same ∙ ap (all_mended_events plan) (take_all (length ones) others (omega (arith, all)))

    ending_front : (its_fault : RunFault) (written : Written) → WritesFiles plan starts ones firsts written → BreaksEnding its_fault plan ones readings told written news old new → IsFront told (fix_events plan others finishes_then)
    ending_front (runs.Folder disk) written writes ending =
        let finished : List Event = ending.finished in
        let in_news : IsFront finished news_then = (ending.rest, sym (news_same written ending.finishes writes ending.are) ∙ ending.finished_are) in
        let in_all : IsFront (all_mended_events plan ones ++ finished) (all_mended_events plan others ++ news_then) =
        subst (λ (events : List Event). IsFront (all_mended_events plan ones ++ finished) (events ++ news_then)) mended_all (front_in (all_mended_events plan ones) finished news_then in_news) in
        let is : told ≡ opening_events plan ++ (all_mended_events plan ones ++ finished) = ending.events ∙ append_assoc (opening_events plan) (all_mended_events plan ones) finished in
        subst (λ (events : List Event). IsFront events (fix_events plan others finishes_then)) (sym is)
        (front_in (opening_events plan) (all_mended_events plan ones ++ finished) (all_mended_events plan others ++ news_then) in_all)
    ending_front runs.Vault written writes ending =
        subst (λ (events : List Event). IsFront events (fix_events plan others finishes_then)) (sym ending.events) (whole_front (all_mended_events plan ones) (all_front (all_mended_events plan ones)))
    ending_front runs.Memory written writes ending = absurd ending

-- ---- over one array, of whose stripes the same blocks came

module _ (determined : IsDetermined) (before before_then : Entry) (exit exit_then : Exit) (status_then : ℕ) (off : FixBrokeOff before exit) (other : EndsFixed before_then exit_then status_then)
    (hold : HoldAlike before before_then) (stamps : KeepStampsAlike before before_then) (seen : SeenAlike (seen_so_far off) (seen_by other.run)) where
  abbrev broke : BrokeOff before exit
  broke = off.broke

  abbrev its : IsAnswered broke.ran.task broke.ran.given (world_of exit.after) (left_of broke) broke.ran.did
  its = answered broke

  abbrev again : FixRun
  again = other.run

  abbrev tells : IsTrue before.opener.tells
  tells = hold.tells.tells

  abbrev tells_vault : IsTrue before.opener.vault.tells
  tells_vault = hold.tells.tells_vault

  abbrev fix : FixBroke broke.fault off.selection broke.ran.task its.table its.start (world_of exit.after) (left_of broke) broke.ran.did
  fix = off.fix

  abbrev plan : FixPlan
  plan = fix.course.plan

  abbrev stripes : List Mended
  stripes = fix.course.stripes

  abbrev first_others : List Mended
  first_others = take (length stripes) again.stripes

  folders_is : its.start.folders ≡ before.opener.folders
  folders_is = folders_are before exit tells tells_vault broke

  trees_are : trees_of its.start.folders ≡ trees_of again.folders
  trees_are = ap trees_of folders_is ∙ hold.trees ∙ sym (ap trees_of other.is_fix.folders_are)

  all_tell : AllTell its.start.folders
  all_tell = subst AllTell (sym folders_is) hold.tells.tells_folders

  plans : plan ≡ again.plan
  plans = one_plan modes.Fix off.selection (names_of broke.ran.task.setup) its.table fix.course.lists plan again.plan fix.course.plan_is
      (plan_as modes.Fix off.selection again.selection (names_of broke.ran.task.setup) (names_of again.setup) its.table again.loaded fix.course.lists again.lists again.plan seen.selection seen.names seen.loaded seen.lists
      other.is_fix.over.plan_is)

  starts_are : starts_of its.table fix.course.lists ≡ starts_of again.loaded again.lists
  starts_are = ap₂ (λ (t : TableValue) (ls : List (List ListedFile)). starts_of t ls) seen.loaded seen.lists

  valid : IsValid plan.table
  valid = subst IsValid (sym fix.course.plan_is.table_is) its.valid

  numbers_same : numbers_of (facts_of stripes) ≡ numbers_of (facts_of first_others)
  numbers_same = numbers_first before before_then exit exit_then status_then off other plans

  are_then : All (AreFacts plan) (facts_of first_others)
  are_then = first_are before before_then exit exit_then status_then off other plans

  none_then : All NoGifts (facts_of first_others)
  none_then = first_gifts before before_then exit exit_then status_then off other plans

  answered_then : All (AnswersFit plan again.listed) first_others
  answered_then = all_take (AnswersFit plan again.listed) (length stripes) again.stripes
      (subst (λ (p : FixPlan). All (AnswersFit p again.listed) again.stripes) (sym plans) other.is_fix.over.finds.answered)

  columns_are : length plan.table.columns ≡ length again.plan.table.columns
  columns_are = ap (λ (p : FixPlan). length p.table.columns) plans

  wide : length plan.table.columns ≡ length its.table.columns
  wide = ap (λ (t : TableValue). length t.columns) fix.course.plan_is.table_is

  within : (d : ℕ) → d < length plan.table.columns → d < length its.start.folders
  within d below = let columns = its.columns in omega (arith, below, wide, columns)

  here : (d : ℕ) → d < length plan.table.columns → d < length again.plan.table.columns
  here d below = omega (arith, below, columns_are)

  tell : (d : ℕ) → d < length plan.table.columns → IsTrue (folder_at fix.course.listed d).tells
  tell d below = tells_then its.start.folders fix.course.listed fix.course.lists fix.course.lists_are all_tell d (within d below)

  tell_then : (d : ℕ) → d < length plan.table.columns → IsTrue (folder_at again.listed d).tells
  tell_then d below = listed_tells before_then exit_then status_then hold.tells_then other d (here d below)

  same_trees : (d : ℕ) → d < length plan.table.columns → (folder_at fix.course.listed d).tree ≡ (folder_at again.listed d).tree
  same_trees d below =
      tree_then its.start.folders fix.course.listed fix.course.lists fix.course.lists_are all_tell d (within d below)
      ∙ ap (λ (ts : List Tree). tree_at ts d) trees_are
      ∙ sym (listed_tree before_then exit_then status_then hold.tells_then other d (here d below))

  keeps : (d : ℕ) → d < length plan.table.columns → (folder_at fix.course.listed d).keeps ≡ (folder_at again.listed d).keeps
  keeps d below =
      (fix.course.lists_are.each d (within d below)).call.called.goes_on.keeps
      ∙ ap (λ (folders : List FolderView). (folder_at folders d).keeps) folders_is
      ∙ stamps d
      ∙ sym (listed_keeps before_then exit_then status_then hold.tells_then other d (here d below))

  many_first : length (facts_of stripes) ≡ length (facts_of first_others)
  many_first = as_long plan (facts_of stripes) (facts_of first_others) fix.course.finds.are are_then fix.course.no_gifts none_then numbers_same

  blocks_first : (k : ℕ) → k < length (facts_of stripes) → BlocksAlike (facts_at (facts_of stripes) k) (facts_at (facts_of first_others) k)
  blocks_first k near = subst (BlocksAlike (facts_at (facts_of stripes) k)) (sym (first_at before before_then exit exit_then status_then off other plans k near)) (seen.came k near)

  same_first : (k : ℕ) → k < length (facts_of stripes) → CameToSame (facts_at (facts_of stripes) k) (facts_at (facts_of first_others) k)
  same_first = came_to_same plan (facts_of stripes) (facts_of first_others) fix.course.finds.are are_then fix.course.no_gifts none_then numbers_same blocks_first

  mended_same : all_mended_events plan stripes ≡ all_mended_events plan first_others
  mended_same = told_same determined plan valid stripes first_others fix.course.finds.are are_then none_then many_first same_first fix.course.listed again.listed
      fix.course.finds.answered answered_then tell tell_then

  -- at the end all stripes were looked at
  all_looked : fix.behind ≡ [] → length stripes ≡ length again.stripes
  all_looked none =
      sym (length-map stripes (λ (mended : Mended). mended.facts)) ∙ sym (length-map (facts_of stripes) (λ (facts : StripeFacts). facts.stripe))
      ∙ ap length (sym (append-nil (numbers_of (facts_of stripes))) ∙ ap (λ (ns : List ℕ). numbers_of (facts_of stripes) ++ ns) (sym none) ∙ numbers_are before before_then exit exit_then status_then off other plans)
      ∙ length-map (facts_of again.stripes) (λ (facts : StripeFacts). facts.stripe) ∙ length-map again.stripes (λ (mended : Mended). mended.facts)

  has_then : HasFixed plan (starts_of its.table fix.course.lists) again.stripes other.finishes again.listed again.ended
  has_then = subst (λ (p : FixPlan). HasFixed p (starts_of its.table fix.course.lists) again.stripes other.finishes again.listed again.ended) (sym plans)
      (subst (λ (s : StartsValue). HasFixed again.plan s again.stripes other.finishes again.listed again.ended) (sym starts_are) other.fixed)

  first_is_all : fix.behind ≡ [] → first_others ≡ again.stripes
  first_is_all none = let long = all_looked none in take_all (length stripes) again.stripes (omega (arith, long))

  finishes_same : fix.behind ≡ [] → (written : Written) (finishes : List (List Finish)) → WritesFiles plan (starts_of its.table fix.course.lists) stripes fix.course.listed written
      → AreDone plan written.starts written.states written.folders finishes → all_finish_news plan finishes ≡ all_finish_news plan other.finishes
  finishes_same none written finishes writes are =
      all_news_same plan (starts_of its.table fix.course.lists) stripes again.stripes fix.course.listed again.listed written has_then.files.written writes has_then.files.writes finishes other.finishes tell tell_then same_trees keeps
      (λ d i below.
      lost_alike determined plan valid stripes first_others fix.course.finds.are are_then none_then many_first same_first fix.course.listed again.listed
      fix.course.finds.answered answered_then tell tell_then d i below
      ∙ ap (λ (ms : List Mended). has_lost plan ms d i) (first_is_all none))
      (λ d i below.
      wrote_alike determined plan valid stripes first_others fix.course.finds.are are_then none_then many_first same_first fix.course.listed again.listed
      fix.course.finds.answered answered_then tell tell_then d i below
      ∙ ap (λ (ms : List Mended). writes_of plan ms d i) (first_is_all none))
      are (λ d i below inside finished. (has_then.files.finished d below).is i inside finished)

  told_front : IsFront broke.told (fix_events plan again.stripes other.finishes)
  told_front = ⊎_elim
      (λ breaks. writing_front plan (starts_of its.table fix.course.lists) broke.fault stripes again.stripes other.finishes fix.ahead fix.course.readings broke.told fix.course.listed exit.after.folders (view_of its.start.vault)
      (view_of (world_of exit.after).vault) mended_same fix.broke breaks)
      (λ ends. ending_front plan (starts_of its.table fix.course.lists) broke.fault stripes again.stripes other.finishes fix.ahead fix.course.readings broke.told fix.course.listed exit.after.folders (view_of its.start.vault)
      (view_of (world_of exit.after).vault) mended_same (all_looked ends.0) (finishes_same ends.0) broke.fault ends.1.written ends.1.writes ends.1.ending)
      fix.off

  pub fix_seen_front : PrintsFront broke.told (events_in again other.finishes) before before_then exit exit_then status_then
  fix_seen_front =
      let more : List Event = told_front.0 in
      let events : events_in again other.finishes ≡ broke.told ++ more = ap (λ (p : FixPlan). fix_events p again.stripes other.finishes) (sym plans) ∙ told_front.1 in
      let end : List ℕ = fix_text (at_most (sum_by (written_in again.plan) again.stripes)) (at_most (sum_by (wrong_in again.plan) again.stripes)) (at_most (count_by is_left (events_in again other.finishes))) in
      let lines : lines_of again.loaded.columns (events_in again other.finishes) ++ end ≡ lines_of its.table.columns broke.told ++ (lines_of its.table.columns more ++ end) =
      ap₂ (λ (t : TableValue) (es : List Event). lines_of t.columns es ++ end) (sym seen.loaded) events
      ∙ ap (λ (ls : List ℕ). ls ++ end) (flat_map-append (event_line its.table.columns) broke.told more)
      ∙ append_assoc (lines_of its.table.columns broke.told) (lines_of its.table.columns more) end in
      record {
        more = more;
        events = events;
        text = lines_of its.table.columns broke.told;
        rest = lines_of its.table.columns more ++ end;
        failed = fix.output_failed;
        printed = subst (λ (out : SinkView). Tells (lines_of its.table.columns broke.told) (between false out) (between fix.output_failed exit.after.out)) (out_is before exit tells tells_vault broke) fix.printed;
        printed_then = record {
          failed = other.output_failed;
          status_is = other.status_is.failed;
          told = subst (λ (text : List ℕ). Tells text (between false before_then.out) (between other.output_failed exit_then.after.out)) lines other.printed;
        };
      }
