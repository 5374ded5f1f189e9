-- What a fix saw that broke off, and read all that it came to, is what another one saw first over the same array in which nothing failed. So it
-- told and printed a front of what that one does.
use Rattle.std.proofs.Common.{◌≡◌, ℕ, ◌<◌, List, length, take, IsTrue, refl, sym, ap, ◌∙◌, subst}
use Rattle.std.specs.Prelude.{All}
use Rattle.disk_model.specs.Files.{Files}
use Rattle.disk_model.specs.Tree.{Tree}
use Rattle.disk_model.specs.Vault.{copies_of}
use Rattle.file_table.specs.Valid.{IsValid}
use Rattle.snap_fix.specs.Fixing.{facts_of}
use Rattle.snap_report.specs.declared.answer.Answer.TheVariants as answers
use Rattle.snap_sync.specs.Part.{AllTell, trees_of}
use Rattle.stripe_examiner.specs.Facts.{StripeFacts}
use Rattle.stripe_examiner.specs.Known.{AreFacts}
use Rattle.stripe_examiner.specs.Looking.{facts_at, numbers_of}
use Rattle.repair_scope.specs.Plan.{FixPlan, names_of}
use Rattle.repair_scope.specs.declared.scope.Mode.TheVariants as modes
use Rattle.snap_top.specs.Alike.{BlocksAlike, HoldAlike, SeenAlike, seen_by}
use Rattle.snap_top.specs.Unbroken.{NothingRose}
use Rattle.snap_top.specs.BrokeOff.{BrokeOff, FixBrokeOff, PrintsFront, ReadsRight, answered, left_of, seen_so_far}
use Rattle.snap_top.proofs.CameLemmas.{first_are, first_at, first_gifts, numbers_first}
use Rattle.snap_top.proofs.FixFrontLemmas.{fix_seen_front}
use Rattle.snap_top.specs.Fix.{FixRun}
use Rattle.snap_top.specs.FixedAlike.{KeepStampsAlike}
use Rattle.snap_top.specs.Fixing.{FixBroke}
use Rattle.snap_top.specs.LeftAlike.{AskSame}
use Rattle.snap_top.specs.Asked.{IsConfigured}
use Rattle.snap_top.specs.Restoring.{EndsFixed, events_in}
use Rattle.snap_top.specs.Run.{IsAnswered}
use Rattle.snap_top.specs.Entry.{Entry, Exit}
use Rattle.snap_top.specs.Sync.{BeginsFrom}
use Rattle.snap_top.specs.Views.{view_of, world_of}
use Rattle.snap_top.specs.declared.end.Ending.TheVariants.{Answered}
use Rattle.snap_top.proofs.AlikeLemmas.{one_plan}
use Rattle.snap_top.proofs.AskedLemmas.{command_asked, one_setup, same_loaded, unfailed}
use Rattle.snap_top.proofs.BrokeOffLemmas.{configured, files_are, folders_are, vault_tells}
use Rattle.snap_top.proofs.HeldLemmas.{CameAsHeld, lists_same, read_held, tells_then}
use Rattle.snap_top.proofs.OfSyncLemmas.{begins_from, given_copies, given_files, given_tells}
use Rattle.snap_top.proofs.OneArrayLemmas.{came_as, fix_came, fix_tells, levels_same, one_selection, plan_as, slot_alike}
use Rattle.snap_top.proofs.SeenLemmas.{IsDetermined, NoGifts}
use Rattle.snap_top.proofs.SyncedLemmas.{OneTable}
use Rattle.snap_top.proofs.FirstsLemmas.{came_first, facts_take}

module _ (determined : IsDetermined) (one_table : OneTable) (before before_then : Entry) (exit exit_then : Exit) (status_then : ℕ) (off : FixBrokeOff before exit) (right : ReadsRight off) (other : EndsFixed before_then exit_then status_then)
    (hold : HoldAlike before before_then) (ask : AskSame before before_then) (well_then : NothingRose before_then exit_then) where
  abbrev broke : BrokeOff before exit
  broke = off.broke

  abbrev its : IsAnswered broke.ran.task broke.ran.given (world_of exit.after) (left_of broke) broke.ran.did
  its = answered broke

  abbrev again : FixRun
  again = other.run

  abbrev tells : IsTrue before.opener.tells
  tells = hold.tells.tells

  abbrev tells_vault : IsTrue before.opener.vault.tells
  tells_vault = hold.tells.tells_vault

  abbrev fix : FixBroke broke.fault off.selection broke.ran.task its.table its.start (world_of exit.after) (left_of broke) broke.ran.did
  fix = off.fix

  abbrev plan : FixPlan
  plan = fix.course.plan

  abbrev stripes : List StripeFacts
  stripes = facts_of fix.course.stripes

  abbrev first_others : List StripeFacts
  first_others = facts_of (take (length fix.course.stripes) again.stripes)

  folders_is : its.start.folders ≡ before.opener.folders
  folders_is = folders_are before exit tells tells_vault broke

  is_configured : IsConfigured before.texts before.opener broke.ran.task.command broke.ran.task.readers broke.ran.task.setup
  is_configured = configured before exit tells tells_vault broke

  selected : off.selection ≡ again.selection
  selected = one_selection modes.Fix off.selection again.selection
      (sym off.command_is
      ∙ command_asked before tells ask.asked ask.words _ _ _ is_configured
      ∙ ask.command
      ∙ sym (command_asked before_then hold.tells_then.tells ask.asked_then ask.words_then _ other.is_fix.readers again.setup other.is_fix.configured))

  setup_is : broke.ran.task.setup ≡ again.setup
  setup_is = one_setup before before_then hold ask.asked ask.asked_then ask.words ask.words_then ask.log _ _ broke.ran.task.readers other.is_fix.readers broke.ran.task.setup again.setup is_configured other.is_fix.configured

  begins : BeginsFrom broke.ran.task.setup before.seed (copies_of before.opener.vault) before.opener.vault.files its.table
  begins =
      subst (λ (n : ℕ). BeginsFrom broke.ran.task.setup before.seed n before.opener.vault.files its.table) (given_copies before exit tells tells_vault broke.setup (Answered (answers.Broken broke.fault) broke.named) broke.told broke.ran)
      (subst (λ (seed : List ℕ). BeginsFrom broke.ran.task.setup seed (copies_of (view_of broke.ran.given.vault)) before.opener.vault.files its.table) broke.ran.seed_is
      (begins_from before.opener.vault.files broke.ran.given.vault its.start.vault (given_files before exit tells tells_vault broke.setup (Answered (answers.Broken broke.fault) broke.named) broke.told broke.ran)
      (given_tells before exit tells tells_vault broke.setup (Answered (answers.Broken broke.fault) broke.named) broke.told broke.ran) broke.ran.task.setup broke.ran.task.seed its.loaded its.table its.loads its.begins right.copies))

  loaded_is : its.table ≡ again.loaded
  loaded_is = same_loaded one_table before before_then hold broke.ran.task.setup again.setup its.table again.loaded setup_is begins (other.is_fix.loading.from (unfailed before_then exit_then other.is_fix.loading well_then))

  trees_are : trees_of its.start.folders ≡ trees_of again.folders
  trees_are = ap trees_of folders_is ∙ hold.trees ∙ sym (ap trees_of other.is_fix.folders_are)

  all_tell : AllTell its.start.folders
  all_tell = subst AllTell (sym folders_is) hold.tells.tells_folders

  lists_are : fix.course.lists ≡ again.lists
  lists_are = lists_same its.start.folders fix.course.listed again.folders again.listed fix.course.lists again.lists fix.course.lists_are other.is_fix.over.listed all_tell
      (fix_tells before_then exit_then status_then hold.tells_then well_then other) trees_are

  plans : plan ≡ again.plan
  plans = one_plan modes.Fix off.selection (names_of broke.ran.task.setup) its.table fix.course.lists plan again.plan fix.course.plan_is
      (plan_as modes.Fix off.selection again.selection (names_of broke.ran.task.setup) (names_of again.setup) its.table again.loaded fix.course.lists again.lists again.plan selected (ap names_of setup_is) loaded_is lists_are
      other.is_fix.over.plan_is)

  valid : IsValid plan.table
  valid = subst IsValid (sym fix.course.plan_is.table_is) its.valid

  numbers_same : numbers_of stripes ≡ numbers_of first_others
  numbers_same = numbers_first before before_then exit exit_then status_then off other plans

  are_then : All (AreFacts plan) first_others
  are_then = first_are before before_then exit exit_then status_then off other plans

  none_then : All NoGifts first_others
  none_then = first_gifts before before_then exit exit_then status_then off other plans

  abbrev held_trees : List Tree
  held_trees = trees_of its.start.folders

  abbrev held_files : Files
  held_files = before.opener.vault.files

  came : CameAsHeld plan.table fix.course.lists held_trees held_files stripes
  came = came_as plan.table its.table fix.course.lists fix.course.lists held_trees held_trees held_files its.start.vault.files stripes fix.course.plan_is.table_is refl refl (sym (files_are before exit tells tells_vault broke))
      (read_held plan its.table fix.course.plan_is.table_is fix.course.lists stripes its.start.folders fix.course.listed fix.course.lists_are its.columns all_tell fix.course.finds.cells right.cells
      (view_of its.start.vault) fix.course.readings fix.course.finds.levels (vault_tells before exit tells tells_vault broke) right.levels)

  came_then : CameAsHeld plan.table fix.course.lists held_trees held_files first_others
  came_then = subst (CameAsHeld plan.table fix.course.lists held_trees held_files) (sym (facts_take (length fix.course.stripes) again.stripes))
      (came_first plan.table fix.course.lists held_trees held_files (length fix.course.stripes) (facts_of again.stripes)
      (came_as plan.table again.loaded fix.course.lists again.lists held_trees (trees_of again.folders) held_files before_then.opener.vault.files (facts_of again.stripes) (fix.course.plan_is.table_is ∙ loaded_is) lists_are trees_are hold.files
      (fix_came before_then exit_then status_then hold.tells_then well_then other)))

  first_stripe : (k : ℕ) → k < length stripes → facts_at first_others k ≡ facts_at (facts_of again.stripes) k
  first_stripe = first_at before before_then exit exit_then status_then off other plans

  blocks_same : (k : ℕ) → k < length stripes → BlocksAlike (facts_at stripes k) (facts_at first_others k)
  blocks_same k within = record {
    cells = slot_alike determined plan valid fix.course.lists held_trees held_files stripes first_others fix.course.finds.are are_then fix.course.no_gifts none_then numbers_same came came_then k within;
    levels = levels_same determined plan valid fix.course.lists held_trees held_files stripes first_others fix.course.finds.are are_then fix.course.no_gifts none_then numbers_same came came_then k within;
  }

  pub fix_sees : SeenAlike (seen_so_far off) (seen_by again)
  fix_sees = record {
    selection = selected;
    names = ap names_of setup_is;
    loaded = loaded_is;
    lists = lists_are;
    came = λ k within. subst (BlocksAlike (facts_at stripes k)) (first_stripe k within) (blocks_same k within);
  }

  pub fix_front : KeepStampsAlike before before_then → PrintsFront broke.told (events_in again other.finishes) before before_then exit exit_then status_then
  fix_front stamps = fix_seen_front determined before before_then exit exit_then status_then off other hold stamps fix_sees
