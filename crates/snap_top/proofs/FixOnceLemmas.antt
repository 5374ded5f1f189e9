-- A fix that broke off by the one call that failed read all that it came to, and told and printed a front of what one does over the same
-- array in which nothing failed.
use Rattle.std.proofs.Common.{◌≡◌, inl, inr, ⊎_elim, ℕ, ◌+◌, ◌<◌, ◌≤◌, List, [], ◌++◌, length, false, IsTrue, sym, ap, ◌∙◌, subst, arith}
use Rattle.std.specs.Prelude.{count_by, sum_by}
use Rattle.std.proofs.lemmas.Bool.{cases_eq}
use Rattle.std.proofs.lemmas.List.Sums.{sum_by-append}
use Rattle.content_file.specs.Load.{HasFailed}
use Rattle.disk_model.specs.Cause.{Rose, RoseBy}
use Rattle.disk_model.specs.Folder.{FolderView}
use Rattle.file_table.specs.Table.{TableValue}
use Rattle.parity_writer.specs.LevelReading.{LevelReading, has_failed}
use Rattle.snap_config.specs.declared.options.Command.TheVariants as commands
use Rattle.snap_fix.proofs.FixCountLemmas.{count_append}
use Rattle.snap_fix.specs.FixRun.{RoseBeyond}
use Rattle.snap_fix.specs.Fixing.{facts_of}
use Rattle.snap_fix.specs.Mended.{written_in, wrong_in}
use Rattle.snap_report.specs.EndLines.{fix_text}
use Rattle.snap_report.specs.EventLines.{lines_of}
use Rattle.snap_report.specs.Kind.{is_left}
use Rattle.snap_report.specs.declared.answer.RunFault.{RunFault}
use Rattle.snap_report.specs.declared.answer.RunFault.TheVariants as runs
use Rattle.snap_report.specs.declared.events.Event.{Event}
use Rattle.stripe_examiner.specs.Counts.{at_most}
use Rattle.stripe_examiner.specs.Facts.{StripeFacts}
use Rattle.stripe_examiner.specs.Looking.{unread_cells, unread_in}
use Rattle.stripe_reader.specs.Columns.{folder_at}
use Rattle.snap_top.specs.Alike.{HoldAlike, SeenAlike, seen_by}
use Rattle.snap_top.specs.Unbroken.{NothingRose}
use Rattle.snap_top.specs.BrokeOff.{BrokeOff, FixBrokeOff, PrintsFront, ReadsRight, RoseOnceBy, answered, left_of, seen_so_far}
use Rattle.snap_top.specs.Fix.{FixRun}
use Rattle.snap_top.specs.FixedAlike.{KeepStampsAlike}
use Rattle.snap_top.specs.Fixing.{FixBroke}
use Rattle.snap_top.specs.LeftAlike.{AskSame}
use Rattle.snap_top.specs.Restoring.{EndsFixed, events_in}
use Rattle.snap_top.specs.Run.{IsAnswered}
use Rattle.snap_top.specs.Entry.{Entry, Exit}
use Rattle.snap_top.specs.Views.{view_of, world_of}
use Rattle.snap_top.proofs.AskedLemmas.{command_asked}
use Rattle.snap_top.proofs.BrokeOffLemmas.{LeftUntold, begun, configured, does_as, fix_broke, folders_are, given_faults, printed_nothing}
use Rattle.snap_top.proofs.FixSeesLemmas.{fix_front, fix_sees}
use Rattle.snap_top.proofs.HeldLemmas.{none_risen}
use Rattle.snap_top.proofs.ScrubFrontLemmas.{none_unread}
use Rattle.snap_top.proofs.SeenLemmas.{IsDetermined}
use Rattle.snap_top.proofs.SyncedLemmas.{OneTable}

-- ---- counts of faults

rose_through : (a b c d : ℕ) → a ≤ b → Rose b c → c ≤ d → Rose a d
rose_through a b c d before rose after = omega (arith, before, rose, after)

rose_one : (n a b : ℕ) → RoseBy (n + 1) a b → Rose a b
rose_one n a b rose = omega (arith, rose)

rose_twice : (a b c : ℕ) → Rose a b → Rose b c → RoseBy 2 a c
rose_twice a b c one two = omega (arith, one, two)

-- of none of all, none of the first ones
no_first_cells : (d : ℕ) (stripes ahead : List StripeFacts) → unread_cells d (stripes ++ ahead) ≡ 0 → unread_cells d stripes ≡ 0
no_first_cells d stripes ahead none =
    let counted : unread_cells d (stripes ++ ahead) ≡ unread_cells d stripes + unread_cells d ahead = count_append _ stripes ahead in
    omega (arith, counted, none)

no_first_levels : (readings ahead : List (List LevelReading)) → unread_in (readings ++ ahead) ≡ 0 → unread_in readings ≡ 0
no_first_levels readings ahead none =
    let counted : unread_in (readings ++ ahead) ≡ unread_in readings + unread_in ahead = sum_by-append (count_by has_failed) readings ahead in
    omega (arith, counted, none)

-- ---- of a fix that broke off by the one call that failed

module _ (before : Entry) (exit : Exit) (tells : IsTrue before.opener.tells) (tells_vault : IsTrue before.opener.vault.tells) (off : FixBrokeOff before exit) (once : RoseOnceBy off.broke.fault before exit) where
  abbrev broke : BrokeOff before exit
  broke = off.broke

  abbrev answer : IsAnswered broke.ran.task broke.ran.given (world_of exit.after) (left_of broke) broke.ran.did
  answer = answered broke

  abbrev fix : FixBroke broke.fault off.selection broke.ran.task answer.table answer.start (world_of exit.after) (left_of broke) broke.ran.did
  fix = off.fix

  abbrev stripes : List StripeFacts
  stripes = facts_of fix.course.stripes

  abbrev readings : List (List LevelReading)
  readings = fix.course.readings

  abbrev Beyond : RunFault → Type 0
  Beyond fault = RoseBeyond fault (stripes ++ fix.ahead.stripes) (readings ++ fix.ahead.readings) fix.course.listed exit.after.folders (view_of answer.start.vault) (view_of (world_of exit.after).vault)

  folders_is : answer.start.folders ≡ before.opener.folders
  folders_is = folders_are before exit tells tells_vault broke

  begun_before : before.opener.vault.faults ≤ answer.start.vault.faults
  begun_before = subst (λ (n : ℕ). n ≤ answer.start.vault.faults) (given_faults before exit tells tells_vault broke) (begun before exit tells tells_vault broke)

  ended_later : answer.start.vault.faults ≤ exit.after.vault.faults
  ended_later = fix.vault.calls.goes_on.later

  -- no reading of a copy failed
  copies : (fault : RunFault) → RoseOnceBy fault before exit → Beyond fault → (copy : ℕ) → ¬ (HasFailed (view_of broke.ran.given.vault) (view_of answer.start.vault) copy)
  copies (runs.Folder disk) one rose copy failed =
      one.vault (subst (λ (n : ℕ). Rose n exit.after.vault.faults) (given_faults before exit tells tells_vault broke)
      (rose_through broke.ran.given.vault.faults broke.ran.given.vault.faults answer.start.vault.faults exit.after.vault.faults (omega arith) failed.rose ended_later))
  copies runs.Vault one rose copy failed =
      one.vault (subst (λ (n : ℕ). RoseBy 2 n exit.after.vault.faults) (given_faults before exit tells tells_vault broke)
      (rose_twice broke.ran.given.vault.faults answer.start.vault.faults exit.after.vault.faults failed.rose (rose_one (unread_in (readings ++ fix.ahead.readings)) answer.start.vault.faults exit.after.vault.faults rose)))
  copies runs.Memory one rose copy failed = rose

  -- nor one of a level
  levels : (fault : RunFault) → RoseOnceBy fault before exit → Beyond fault → unread_in readings ≡ 0
  levels (runs.Folder disk) one rose =
      no_first_levels readings fix.ahead.readings
      (none_risen (unread_in (readings ++ fix.ahead.readings)) answer.start.vault.faults exit.after.vault.faults
      (λ risen. one.vault (rose_through before.opener.vault.faults answer.start.vault.faults exit.after.vault.faults exit.after.vault.faults begun_before risen (omega arith))) fix.unread)
  levels runs.Vault one rose =
      no_first_levels readings fix.ahead.readings
      (none_unread (unread_in (readings ++ fix.ahead.readings)) before.opener.vault.faults answer.start.vault.faults exit.after.vault.faults begun_before rose one.vault)
  levels runs.Memory one rose = absurd rose

  -- of a folder whose count of faults did not rise
  quiet_cells : (d : ℕ) → d < length fix.course.plan.table.columns → ¬ (Rose (folder_at before.opener.folders d).faults (folder_at exit.after.folders d).faults) → unread_cells d stripes ≡ 0
  quiet_cells d below none =
      none_risen (unread_cells d stripes) (folder_at before.opener.folders d).faults (folder_at exit.after.folders d).faults none
      (subst (λ (folders : List FolderView). RoseBy (unread_cells d stripes) (folder_at folders d).faults (folder_at exit.after.folders d).faults) folders_is (fix.course.unread d below))

  within : (d : ℕ) → d < length fix.course.plan.table.columns → d < length answer.start.folders
  within d below =
      let wide : length fix.course.plan.table.columns ≡ length answer.table.columns = ap (λ (t : TableValue). length t.columns) fix.course.plan_is.table_is in
      let columns = answer.columns in
      omega (arith, below, wide, columns)

  opened : (d : ℕ) → d < length fix.course.plan.table.columns → d < length before.opener.folders
  opened d below = subst (λ (folders : List FolderView). d < length folders) folders_is (within d below)

  -- nor one of a cell
  cells : (fault : RunFault) → RoseOnceBy fault before exit → Beyond fault → (d : ℕ) → d < length fix.course.plan.table.columns → unread_cells d stripes ≡ 0
  cells (runs.Folder disk) one rose d below = elim (cases_eq d disk) [
    | inl same ↦ subst (λ (k : ℕ). unread_cells k stripes ≡ 0) (sym same) (here (subst (λ (k : ℕ). k < length fix.course.plan.table.columns) same below))
    | inr differs ↦ quiet_cells d below (one.others d (opened d below) differs)
  ]
    where
      here : disk < length fix.course.plan.table.columns → unread_cells disk stripes ≡ 0
      here inside =
          no_first_cells disk stripes fix.ahead.stripes
          (none_unread (unread_cells disk (stripes ++ fix.ahead.stripes)) (folder_at before.opener.folders disk).faults (folder_at fix.course.listed disk).faults (folder_at exit.after.folders disk).faults
          (subst (λ (folders : List FolderView). (folder_at folders disk).faults ≤ (folder_at fix.course.listed disk).faults) folders_is
          (fix.course.lists_are.each disk (within disk inside)).call.called.goes_on.later) rose one.once)
  cells runs.Vault one rose d below = quiet_cells d below (one.folders d (opened d below))
  cells runs.Memory one rose d below = absurd rose

  pub right_once : ReadsRight off
  right_once = record {
    copies = copies broke.fault once fix.rose;
    cells = cells broke.fault once fix.rose;
    levels = levels broke.fault once fix.rose;
  }

-- ---- over one array

module _ (determined : IsDetermined) (one_table : OneTable) (before before_then : Entry) (exit exit_then : Exit) (status_then : ℕ) (broke : BrokeOff before exit) (other : EndsFixed before_then exit_then status_then)
    (hold : HoldAlike before before_then) (ask : AskSame before before_then) (stamps : KeepStampsAlike before before_then) (once : RoseOnceBy broke.fault before exit) (well_then : NothingRose before_then exit_then) where
  abbrev its : IsAnswered broke.ran.task broke.ran.given (world_of exit.after) (left_of broke) broke.ran.did
  its = answered broke

  abbrev again : FixRun
  again = other.run

  abbrev tells : IsTrue before.opener.tells
  tells = hold.tells.tells

  abbrev tells_vault : IsTrue before.opener.vault.tells
  tells_vault = hold.tells.tells_vault

  command_is : broke.ran.task.command ≡ commands.Fix again.selection
  command_is =
      command_asked before tells ask.asked ask.words _ _ _ (configured before exit tells tells_vault broke)
      ∙ ask.command
      ∙ sym (command_asked before_then hold.tells_then.tells ask.asked_then ask.words_then _ other.is_fix.readers again.setup other.is_fix.configured)

  abbrev all_told : List Event
  all_told = events_in again other.finishes

  -- it told and printed nothing
  no_front : LeftUntold its.start (world_of exit.after) (left_of broke) → PrintsFront broke.told all_told before before_then exit exit_then status_then
  no_front none = record {
    more = all_told;
    events = ap (λ (told : List Event). told ++ all_told) (sym none.untold);
    text = [];
    rest = lines_of again.loaded.columns all_told ++ fix_text (at_most (sum_by (written_in again.plan) again.stripes)) (at_most (sum_by (wrong_in again.plan) again.stripes)) (at_most (count_by is_left all_told));
    failed = false;
    printed = printed_nothing before exit tells tells_vault broke none.out;
    printed_then = record { failed = other.output_failed; status_is = other.status_is.failed; told = other.printed };
  }

  broken_front : FixBroke broke.fault again.selection broke.ran.task its.table its.start (world_of exit.after) (left_of broke) broke.ran.did → PrintsFront broke.told all_told before before_then exit exit_then status_then
  broken_front fix =
      let off : FixBrokeOff before exit = record { broke = broke; selection = again.selection; command_is = command_is; fix = fix } in
      fix_front determined one_table before before_then exit exit_then status_then off (right_once before exit tells tells_vault off once) other hold ask well_then stamps

  pub fix_front_once : PrintsFront broke.told all_told before before_then exit exit_then status_then
  fix_front_once = ⊎_elim no_front broken_front
      (fix_broke broke.fault again.selection broke.ran.task its.table its.start (world_of exit.after) (left_of broke) broke.ran.did
      (does_as before exit tells tells_vault broke (commands.Fix again.selection) command_is))

-- so it saw of its stripes what the other one saw first
pub fix_sees_once : IsDetermined → OneTable → (before before_then : Entry) (exit exit_then : Exit) (status_then : ℕ) (off : FixBrokeOff before exit) (other : EndsFixed before_then exit_then status_then) → HoldAlike before before_then
    → AskSame before before_then → RoseOnceBy off.broke.fault before exit → NothingRose before_then exit_then → SeenAlike (seen_so_far off) (seen_by other.run)
fix_sees_once determined one_table before before_then exit exit_then status_then off other hold ask once well_then =
    fix_sees determined one_table before before_then exit exit_then status_then off (right_once before exit hold.tells.tells hold.tells.tells_vault off once) other hold ask well_then
