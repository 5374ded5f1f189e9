-- What a check leaves, as a command that was carried out.
use Rattle.std.proofs.Common.{◌≡◌, ℕ, ◌==◌, List, [], ◌∷◌, ◌++◌, length, Bool, true, false, if◌then◌else◌, get_or, is_some, Option, None, Some, refl, sym, ap, ◌∙◌, subst}
use Rattle.std.specs.List.{All}
use Rattle.std.proofs.lemmas.Bool.{both_ways}
use Rattle.std.proofs.lemmas.List.Elements.{All-weaker}
use Rattle.disk_model.specs.Files.{Stays}
use Rattle.disk_model.specs.Folder.{FolderView}
use Rattle.disk_model.specs.Sink.{SinkView}
use Rattle.disk_model.specs.Vault.{VaultView, VaultDone, GoesOn, state_of}
use Rattle.disk_model.proofs.VaultLemmas.{no_calls, changes_start}
use Rattle.file_table.specs.Table.{TableValue}
use Rattle.snap_config.specs.declared.options.Command.{Command}
use Rattle.array_setup.specs.declared.ways.Selection.{Selection}
use Rattle.stripe_examiner.specs.Asking.{AsksSpare, is_held}
use Rattle.snap_fix.specs.Beginning.{BeginsNot}
use Rattle.snap_fix.specs.ByMode.{AreOpenFor, Repairs, RepairsNot}
use Rattle.snap_fix.specs.Course.{Checks, Outside as OutsideOf, check_events, outside}
use Rattle.stripe_examiner.specs.Facts.{StripeFacts, gift_of}
use Rattle.parity_writer.specs.LevelReading.{LevelReading, IsReadingOf}
use Rattle.stripe_examiner.specs.Looking.{AreAllLevelsOf, AreRead, LevelsAreRead}
use Rattle.stripe_reader.specs.Starts.{StartsValue}
use Rattle.repair_scope.specs.Plan.{FixPlan, names_of}
use Rattle.stripe_examiner.specs.Spare.{SpareView, nothing}
use Rattle.stripe_examiner.proofs.LookingLemmas.{levels_unwritten}
use Rattle.snap_fix.specs.declared.checks.FixEnd.{FixEnd}
use Rattle.repair_scope.specs.declared.scope.Mode.{Mode}
use Rattle.repair_scope.specs.declared.scope.Mode.TheVariants as modes
use Rattle.snap_report.specs.Answer.{Outside, IsCaused, done_answer}
use Rattle.snap_report.specs.EndLines.{check_text}
use Rattle.snap_report.specs.EventLines.{lines_of}
use Rattle.snap_report.specs.Report.{ReportView}
use Rattle.snap_report.specs.State.{state_of as told_of}
use Rattle.snap_report.specs.Telling.{Written, between}
use Rattle.snap_report.specs.declared.answer.Answer.TheVariants as answers
use Rattle.snap_report.specs.declared.answer.RunFault.{RunFault}
use Rattle.snap_report.specs.declared.answer.RunFault.TheVariants as runs
use Rattle.snap_report.specs.declared.events.Event.{Event}
use Rattle.snap_report.specs.declared.pages.Lines.{Lines}
use Rattle.snap_report.proofs.ReportLemmas.{all_given_nothing}
use Rattle.snap_top.specs.Checking.{CheckEnds, CheckRefuses, ChecksBy, checks_as}
use Rattle.snap_top.specs.Does.{DoesCommand, IsDone}
use Rattle.snap_top.specs.Task.{Task, Left, outside_of}
use Rattle.snap_top.specs.Did.{Did, reads_only}
use Rattle.snap_top.specs.Views.{World, world_view, world_of, view_of, AllReadOnly}
use Rattle.snap_top.proofs.DoneLemmas.{by_output, nothing_more}
use Rattle.snap_top.proofs.FolderLemmas.{all_listed, column_reads_only, ran_out, failed_at}
use Rattle.snap_top.proofs.SyncLemmas.{changes_of, printed_lines, listing_failed}
use Rattle.snap_top.proofs.ViewsLemmas.{some_calls_of, sink_stays, all_read_then}

-- ---- by its states

pub goes_on_of : (old new : VaultView) (done : List VaultDone) → GoesOn old new done → GoesOn (view_of (state_of old)) (view_of (state_of new)) done
goes_on_of old new done g = record { later = g.later; writes = g.writes; levels = g.levels; copies = g.copies; tells = g.tells; calls = g.calls }

pub all_levels_of : (block_size : ℕ) (v : VaultView) (stripes : List StripeFacts) (readings : List (List LevelReading)) → AreAllLevelsOf block_size v stripes readings → AreAllLevelsOf block_size (view_of (state_of v)) stripes readings
all_levels_of block_size v [] [] are = tt
all_levels_of block_size v [] (of ∷ readings) are = absurd are
all_levels_of block_size v (facts ∷ stripes) [] are = absurd are
all_levels_of block_size v (facts ∷ stripes) (of ∷ readings) (first, rest) = (
  record { as_many = first.as_many; are_kept = first.are_kept; are_of = λ r below. one facts.stripe r (get_or of r None) (first.are_of r below) },
  all_levels_of block_size v stripes readings rest,
)
  where
    one : (stripe r : ℕ) (reading : LevelReading) → IsReadingOf v block_size stripe r reading → IsReadingOf (view_of (state_of v)) block_size stripe r reading
    one stripe r None is = tt
    one stripe r (Some bytes) is = is

levels_of : (plan : FixPlan) (stripes : List StripeFacts) (old new : VaultView) → LevelsAreRead plan stripes old new → LevelsAreRead plan stripes (view_of (state_of old)) (view_of (state_of new))
levels_of plan stripes old new read = record {
  readings = read.readings;
  are = all_levels_of plan.table.shape.block_size old stripes read.readings read.are;
  unread = read.unread;
  goes_on = goes_on_of old new _ read.goes_on;
  changes = changes_of Stays old new read.changes;
  drafts = record { state = read.drafts.state; bytes = read.drafts.bytes };
}

folders_read : (plan : FixPlan) (starts : StartsValue) (stripes : List StripeFacts) (olds news : List FolderView) → AreRead plan starts stripes olds news → AllReadOnly olds news
folders_read plan starts stripes olds news read = record {
  count = read.folders;
  each = λ d below. column_reads_only (read.each d below);
}

begun_not : (olds news : List FolderView) (fault : RunFault) → length news ≡ length olds → BeginsNot olds news fault → AllReadOnly olds news
begun_not olds news (runs.Folder disk) many why = failed_at disk olds news many why
begun_not olds news runs.Memory many why = ran_out olds news why
begun_not olds news runs.Vault many why = absurd why

-- what holds nothing gives none
gives_none : (gift : Option (List ℕ)) → (is_some gift ≡ true → false ≡ true) → gift ≡ None
gives_none None held = refl
gives_none (Some given) held = absurd (both_ways false refl (held refl))

pub none_given : (plan : FixPlan) (stripes : List StripeFacts) (new : SpareView) → AsksSpare plan stripes nothing new → All (λ (facts : StripeFacts). (d : ℕ) → gift_of facts d ≡ None) stripes
none_given plan stripes new asks =
    All-weaker (λ (facts : StripeFacts). (d : ℕ) → is_some (gift_of facts d) ≡ true → is_held nothing plan facts d ≡ true) (λ (facts : StripeFacts). (d : ℕ) → gift_of facts d ≡ None)
    (λ facts held d. gives_none (gift_of facts d) (held d)) stripes (asks.gave refl)

-- ---- one that did not begin, a check or a fix

caused_by : (fault : RunFault) (olds news : List FolderView) (old new : Outside) → old.folders ≡ olds → new.folders ≡ news → BeginsNot olds news fault → IsCaused (answers.Broken fault) 0 [] old new
caused_by (runs.Folder disk) olds news old new os ns fails = (
  rw (os) fails.within,
  rw (os, ns) (listing_failed disk _ _ fails.failed),
)
caused_by runs.Memory olds news old new os ns why = tt
caused_by runs.Vault olds news old new os ns why = absurd why

-- what is left to be said of it
abbrev pub refusal_of : RunFault → Left
refusal_of fault = record { answer = answers.Broken fault; named = None; counted = 0; told = [] }

-- it is a refusal of its command
abbrev pub IsRefusal : Task → TableValue → RunFault → Type 0
IsRefusal task table fault = (first last : World) → BeginsNot first.folders last.folders fault → CheckRefuses first last (refusal_of fault) reads_only
    → DoesCommand task.command task table first last (refusal_of fault) reads_only

module _ {W R : Type 0} (standing : R → ReportView) (stands : R → List Event → Type 0) (view : W → SinkView) (task : Task) (table : TableValue)
    (folders folders_new : List FolderView) (vault vault_new : VaultView) (out out_new : SinkView) (lines lines_new : Lines W) (olds news : List R)
    (start_is : told_of view lines ≡ between false out) (last_is : (told_of view lines_new).sink ≡ out_new) where
  refused_done : (fault : RunFault) → length folders_new ≡ length folders → BeginsNot folders folders_new fault → IsRefusal task table fault
      → IsDone standing stands task table (world_view folders vault out) (world_view folders_new vault out) olds olds (answers.Broken fault) None
  refused_done fault many why does =
      let before = world_of (world_view folders vault out) in
      let here = world_of (world_view folders_new vault out) in
      record {
        left = refusal_of fault;
        answer_is = refl;
        named_is = refl;
        did = reads_only;
        does = does before here why (record { fault = fault; why = why; left_is = refl; did_is = refl; others = refl });
        changes = changes_start Stays vault (λ files. refl);
        ends = λ tells. nothing_more vault.files vault;
        caused = caused_by fault folders folders_new (outside_of before) (outside_of here) refl refl why;
        keeps = record { folders = begun_not folders folders_new fault many why; vault = no_calls (view_of (state_of vault)); writes = refl; out = sink_stays out };
        reports = all_given_nothing standing stands olds;
      }

  pub not_begun_done : (untouched : Type 0) (fault : RunFault) → length folders_new ≡ length folders → (untouched → (P : VaultView → Type 0) → P vault → P vault_new) → (untouched → told_of view lines_new ≡ told_of view lines)
      → (untouched → news ≡ olds) → untouched → BeginsNot folders folders_new fault → IsRefusal task table fault
      → IsDone standing stands task table (world_view folders vault out) (world_view folders_new vault_new out_new) olds news (answers.Broken fault) None
  not_begun_done untouched fault many same_vault same_lines same_reports still why does =
      let out_same : out_new ≡ out = sym last_is ∙ ap (λ (w : Written). w.sink) (same_lines still ∙ start_is) in
      subst (λ rs. IsDone standing stands task table (world_view folders vault out) (world_view folders_new vault_new out_new) olds rs (answers.Broken fault) None) (sym (same_reports still))
      (subst (λ o. IsDone standing stands task table (world_view folders vault out) (world_view folders_new vault_new o) olds olds (answers.Broken fault) None) (sym out_same)
      (same_vault still (λ v. IsDone standing stands task table (world_view folders vault out) (world_view folders_new v out) olds olds (answers.Broken fault) None) (refused_done fault many why does)))

-- ---- by its answer

ends_by : (counted : ℕ) (failed : Bool) (mode : Mode) (selection : Selection) (task : Task) (table : TableValue) (before after : World) (left : Left) (did : Did) → CheckEnds mode selection task table before after left did
    → ChecksBy (done_answer counted failed) mode selection task table before after left did
ends_by counted true mode selection task table before after left did ends = ends
ends_by counted false mode selection task table before after left did ends = by (counted == 0)
  where
    by : (none : Bool) → ChecksBy (if none then answers.Clean else answers.Found) mode selection task table before after left did
    by true = ends
    by false = ends

refuses_by : (fault : RunFault) (mode : Mode) (selection : Selection) (task : Task) (table : TableValue) (before after : World) (left : Left) (did : Did) → BeginsNot before.folders after.folders fault
    → CheckRefuses before after left did → ChecksBy (answers.Broken fault) mode selection task table before after left did
refuses_by (runs.Folder disk) mode selection task table before after left did why refuses = refuses
refuses_by runs.Memory mode selection task table before after left did why refuses = refuses
refuses_by runs.Vault mode selection task table before after left did why refuses = absurd why

-- by the command
as_command : (mode : Mode) (selection : Selection) (task : Task) (table : TableValue) (before after : World) (left : Left) (did : Did) → checks_as mode selection task.command → ChecksBy left.answer mode selection task table before after left did
    → DoesCommand task.command task table before after left did
as_command modes.Check selection task table before after left did command does = subst (λ (c : Command). DoesCommand c task table before after left did) (sym command) does
as_command modes.Audit selection task table before after left did command does = subst (λ (c : Command). DoesCommand c task table before after left did) (sym command) does
as_command modes.Fix selection task table before after left did command does = absurd command

-- ---- by its mode

-- a check needs no open folders
pub none_open : (mode : Mode) (selection : Selection) (task : Task) (table : TableValue) (folders : List FolderView) → checks_as mode selection task.command → AreOpenFor mode table folders
none_open modes.Check selection task table folders command = tt
none_open modes.Audit selection task table folders command = tt
none_open modes.Fix selection task table folders command = absurd command

module _ {W R : Type 0} (view : W → SinkView) (standing : R → ReportView) (stands : R → List Event → Type 0) where
  -- what is repaired in the mode of a check is checked
  pub checks_by : (mode : Mode) (selection : Selection) (task : Task) → checks_as mode selection task.command → (names : List (List ℕ)) (table : TableValue) (old new : OutsideOf W R) (end : FixEnd)
      → Repairs view standing stands mode selection names table old new end → Checks view standing stands mode selection names table old new end
  checks_by modes.Check selection task command names table old new end repairs = repairs
  checks_by modes.Audit selection task command names table old new end repairs = repairs
  checks_by modes.Fix selection task command names table old new end repairs = absurd command

  pub begins_not_by : (mode : Mode) (selection : Selection) (task : Task) → checks_as mode selection task.command → (names : List (List ℕ)) (table : TableValue) (old new : OutsideOf W R) (untouched : Type 0) (fault : RunFault)
      → RepairsNot view standing stands mode selection names table old new untouched fault → BeginsNot old.folders new.folders fault × untouched
  begins_not_by modes.Check selection task command names table old new untouched fault why = why
  begins_not_by modes.Audit selection task command names table old new untouched fault why = why
  begins_not_by modes.Fix selection task command names table old new untouched fault why = absurd command

-- ---- the whole

module _ {W R : Type 0} (standing : R → ReportView) (stands : R → List Event → Type 0) (view : W → SinkView) (mode : Mode) (selection : Selection) (task : Task) (table : TableValue) (command : checks_as mode selection task.command)
    (folders folders_new : List FolderView) (vault vault_new : VaultView) (out out_new : SinkView) (lines lines_new : Lines W) (olds news : List R)
    (start_is : told_of view lines ≡ between false out) (last_is : (told_of view lines_new).sink ≡ out_new) where
  abbrev before : World
  before = world_of (world_view folders vault out)

  abbrev after : World
  after = world_of (world_view folders_new vault_new out_new)

  pub check_done : (end : FixEnd) → Checks view standing stands mode selection (names_of task.setup) table (outside folders vault nothing lines olds) (outside folders_new vault_new nothing lines_new news) end
      → IsDone standing stands task table (world_view folders vault out) (world_view folders_new vault_new out_new) olds news (done_answer end.findings lines_new.failed) None
  check_done end checks =
      let events = check_events checks.plan checks.stripes in
      let told = printed_lines view (lines_of table.columns events ++ check_text end.findings) out out_new lines lines_new start_is last_is checks.puts (λ settled. checks.settled) in
      let left : Left = record { answer = done_answer end.findings lines_new.failed; named = None; counted = end.findings; told = events } in
      record {
        left = left;
        answer_is = refl;
        named_is = refl;
        did = reads_only;
        does = as_command mode selection task table before after left reads_only command
            (ends_by end.findings lines_new.failed mode selection task table before after left reads_only (record {
              did_is = refl;
              lists = checks.lists;
              listed = checks.mids;
              as_many = checks.as_many;
              lists_are = checks.listed;
              plan = checks.plan;
              plan_is = checks.plan_is;
              stripes = checks.stripes;
              numbers = checks.numbers;
              are = checks.are;
              no_gifts = none_given checks.plan checks.stripes nothing checks.spare;
              read = checks.read;
              levels = levels_of checks.plan checks.stripes vault vault_new checks.levels;
              told_is = refl;
              named_is = refl;
              counted_is = checks.findings;
              audited = checks.audited;
              prints = record { failed = lines_new.failed; told = told; answer_is = refl };
            }));
        changes = checks.levels.changes;
        ends = λ tells. nothing_more vault.files vault_new;
        caused = by_output end.findings lines_new.failed events (outside_of before) (outside_of after) (λ failed. told.cause refl failed);
        keeps = record {
          folders = all_read_then folders checks.mids folders_new (all_listed folders checks.mids checks.lists checks.as_many checks.listed) (folders_read checks.plan _ checks.stripes checks.mids folders_new checks.read);
          vault = some_calls_of vault vault_new (record { done = _; goes_on = checks.levels.goes_on });
          writes = levels_unwritten checks.plan checks.stripes vault vault_new checks.levels;
          out = told.goes_on;
        };
        reports = checks.given;
      }

  pub check_refused : (untouched : Type 0) (fault : RunFault) → length folders_new ≡ length folders → (untouched → (P : VaultView → Type 0) → P vault → P vault_new) → (untouched → told_of view lines_new ≡ told_of view lines)
      → (untouched → news ≡ olds) → untouched → BeginsNot folders folders_new fault
      → IsDone standing stands task table (world_view folders vault out) (world_view folders_new vault_new out_new) olds news (answers.Broken fault) None
  check_refused untouched fault many same_vault same_lines same_reports still why =
      not_begun_done standing stands view task table folders folders_new vault vault_new out out_new lines lines_new olds news start_is last_is untouched fault many same_vault same_lines same_reports still why
      (λ first last not_begun refuses. as_command mode selection task table first last (refusal_of fault) reads_only command (refuses_by fault mode selection task table first last (refusal_of fault) reads_only not_begun refuses))
