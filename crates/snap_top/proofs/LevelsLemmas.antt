-- A vault by the levels of a configuration, and a run by them.
use Rattle.std.proofs.Common.{◌≡◌, ℕ, zero, suc, ◌+◌, ◌*◌, ◌^◌, ◌<◌, ◌≤◌, List, [], ◌∷◌, length, take, All, Bool, true, false, nat_lt, ◌==◌, ◌||◌, if◌then◌else◌, IsTrue, Option, None, Some, Result, Ok, Err, refl, sym, ap, ◌∙◌, subst, arith}
use Rattle.std.specs.List.{list_any, sum}
use Rattle.std.proofs.lemmas.Bool.Decides.{nat_tests}
use Rattle.std.proofs.lemmas.List.Sums.{sum_by-cons}
use Rattle.disk_model.specs.Folder.{FolderView}
use Rattle.disk_model.specs.Sink.{SinkView}
use Rattle.disk_model.specs.Moments.{SameImages}
use Rattle.disk_model.specs.Opener.{OpenerView, OpenerDone, OpenerGoesOn, HoldsSame, SameVault}
use Rattle.disk_model.specs.Vault.{VaultView, VaultState, state_of, IsSettled}
use Rattle.parity_split.specs.Joined.{seen}
use Rattle.parity_split.specs.Split.{AreParts, loosely, split_view}
use Rattle.snap_config.specs.Builder.{BuilderValue, no_lines}
use Rattle.snap_config.specs.Config.{Refusal, at_line, finish, lacks_level, read_lines, read_setup, setup_of, then_read}
use Rattle.snap_config.specs.Line.{lines_of}
use Rattle.array_setup.specs.Setup.{SetupValue, IsSetup, setup_value}
use Rattle.snap_config.specs.declared.options.Command.{Command}
use Rattle.snap_config.specs.declared.why.Why.{Why}
use Rattle.snap_config.specs.declared.why.Why.TheVariants.{TooLong, NoParity, NoContent, NoData}
use Rattle.snap_report.specs.Report.{ReportView}
use Rattle.snap_report.specs.declared.answer.Answer.{Answer}
use Rattle.snap_report.specs.declared.events.Event.{Event}
use Rattle.snap_top.specs.Complete.{RefusalsTouchNothing}
use Rattle.snap_top.specs.End.{status_of}
use Rattle.snap_top.specs.Levels.{IsOpenedBy, IsShapedBy, by_levels, by_parts, by_setup, is_split, opener_by, said_by, setup_in}
use Rattle.snap_top.specs.Opening.{ConfiguresNot, Refuses, SaysNot}
use Rattle.snap_top.specs.Asked.{IsConfigured, Says}
use Rattle.snap_top.specs.Run.{IsExercised, IsRefused, IsRun, Ran, RanWith, Works, setup_of as setup_at}
use Rattle.snap_top.specs.Entry.{Entry, entry_by, entry_seen, Exit, exit_by, exit_seen}
use Rattle.snap_top.specs.Task.{Task}
use Rattle.snap_top.specs.Views.{world_view}
use Rattle.snap_top.specs.declared.end.Ending.{Ending}
use Rattle.snap_top.specs.declared.end.End.{End}
use Rattle.snap_top.specs.declared.end.End.TheVariants.{Exercised, Refused, Worked}
use Rattle.snap_top.specs.declared.end.Refusal.TheVariants as refusals
use Rattle.snap_top.specs.declared.end.Refusal.{Refusal as Why_not}
use Rattle.snap_top.proofs.RefusalLemmas.{refusal_touches_nothing}

-- ---- a vault

pub state_by : (split : Bool) (parts : List ℕ) (capacity : ℕ) (held given : VaultView) → state_of given ≡ state_of held
    → state_of (by_parts split parts capacity given) ≡ state_of (by_parts split parts capacity held)
state_by true parts capacity held given same =
    ap (λ (s : VaultState). record { faults = s.faults; writes = loosely s.writes; levels = length parts; drafts = s.drafts; tells = s.tells; files = seen parts capacity s.files; staged = s.staged; tells_calls = false; calls = [] }) same
state_by false parts capacity held given same = same

pub images_by : (split : Bool) (parts : List ℕ) (capacity : ℕ) (held given : VaultView) → SameImages held.images given.images
    → SameImages (by_parts split parts capacity held).images (by_parts split parts capacity given).images
images_by true parts capacity held given same = record {
  told = same.told;
  moment = same.moment;
  since = λ t files. (λ left. (left.0, (same.since t left.0).0 left.1, left.2), λ left. (left.0, (same.since t left.0).1 left.1, left.2));
}
images_by false parts capacity held given same = same

-- nothing of it is unsynced by its levels either
pub settled_by : (split : Bool) (parts : List ℕ) (capacity : ℕ) (v : VaultView) → IsSettled v → IsSettled (by_parts split parts capacity v)
settled_by true parts capacity v settled told files left = left.2 ∙ ap (seen parts capacity) (settled told left.0 left.1)
settled_by false parts capacity v settled told files left = settled told files left

same_vault_by : (split : Bool) (parts : List ℕ) (capacity : ℕ) (told : Bool) (held other : VaultView) → SameVault told held other
    → SameVault told (by_parts split parts capacity held) (by_parts split parts capacity other)
same_vault_by true parts capacity told held other same = record {
  faults = same.faults;
  writes = ap loosely same.writes;
  levels = λ is. refl;
  drafts = same.drafts;
  tells = same.tells;
  files = λ is. ap (seen parts capacity) (same.files is);
  staged = same.staged;
  tells_calls = λ is. refl;
  calls = λ is. refl;
  tells_images = same.tells_images;
  moment = same.moment;
  since = λ is t files. (λ left. (left.0, (same.since is t left.0).0 left.1, left.2), λ left. (left.0, (same.since is t left.0).1 left.1, left.2));
}
same_vault_by false parts capacity told held other same = same

same_vault : (setup : Option SetupValue) (told : Bool) (held other : VaultView) → SameVault told held other → SameVault told (by_setup setup held) (by_setup setup other)
same_vault None told held other same = same
same_vault (Some setup) told held other same = same_vault_by (is_split setup.parts) setup.parts setup.split told held other same

-- ---- how many levels there are

one_each : (parts : List ℕ) → is_split parts ≡ false → All (λ count. 1 ≤ count) parts → sum parts ≡ length parts
one_each [] none some = refl
one_each (count ∷ counts) none some = by (nat_lt 1 count) refl none (λ more. one_each counts more (λ i d below. some (suc i) d (omega (arith, below))))
  where
    few : (n : ℕ) → nat_lt 1 n ≡ false → n ≤ 1
    few n is = grind (arith, nat_tests)

    by : (b : Bool) → nat_lt 1 count ≡ b → (b || is_split counts) ≡ false → (is_split counts ≡ false → sum counts ≡ length counts)
        → sum (count ∷ counts) ≡ length (count ∷ counts)
    by true at is rest = absurd cc
    by false at is rest =
        let all = rest is in
        let first = some 0 count (omega arith) in
        let least = few count at in
        let both = sum_by-cons (λ n. n) count counts in
        omega (arith, all, first, least, both)

pub levels_by : (setup : SetupValue) (v : VaultView) → IsSetup setup → v.levels ≡ length setup.parities → (by_levels setup v).levels ≡ length setup.parts
levels_by setup v valid files = by (is_split setup.parts) refl
  where
    by : (b : Bool) → is_split setup.parts ≡ b → (by_parts b setup.parts setup.split v).levels ≡ length setup.parts
    by true at = refl
    by false at = files ∙ sym valid.all_parts ∙ one_each setup.parts at valid.some_part

sum_few : (parts : List ℕ) → All (λ count. count ≤ 8) parts → sum parts ≤ 8 * length parts
sum_few [] few = omega arith
sum_few (count ∷ counts) few =
    let rest = sum_few counts (λ i d below. few (suc i) d (omega (arith, below))) in
    let first = few 0 count (omega arith) in
    let both = sum_by-cons (λ n. n) count counts in
    omega (arith, rest, first, both)

-- the files of a vault as it was opened become the parts of levels
pub are_parts : (parts : List ℕ) (setup : SetupValue) (v : VaultView) → IsSetup setup → IsOpenedBy parts setup v → AreParts setup.parts setup.split v.levels
are_parts parts setup v valid opened =
    let all : sum setup.parts ≡ v.levels = valid.all_parts ∙ sym opened.files in
    let few = sum_few setup.parts valid.few_parts in
    let levels = valid.few_levels in
    record {
      each = λ i d below. some (valid.some_part i d below);
      all = all;
      fit = omega (arith, all, few, levels);
      some = omega (arith, valid.split);
    }
  where
    some : {n : ℕ} → 1 ≤ n → 0 < n
    some is = omega (arith, is)

pub shaped_parts : (counts : List ℕ) (capacity : ℕ) (parts : List ℕ) (setup : SetupValue) (v : VaultView) → IsSetup setup → IsShapedBy counts capacity parts setup v
    → AreParts counts capacity v.levels
shaped_parts counts capacity parts setup v valid shaped =
    subst (λ (k : ℕ). AreParts counts k v.levels) shaped.capacity_is
    (subst (λ (cs : List ℕ). AreParts cs setup.split v.levels) shaped.counts_are (are_parts parts setup v valid shaped.opened))

-- ---- an opener

pub goes_on_by : (setup : Option SetupValue) (old new : OpenerView) (done : List OpenerDone) → OpenerGoesOn old new done → OpenerGoesOn (opener_by setup old) (opener_by setup new) done
goes_on_by setup old new done goes = record { later = goes.later; tells = goes.tells; calls = goes.calls }

pub holds_by : (setup : Option SetupValue) (old new : OpenerView) → HoldsSame old new → HoldsSame (opener_by setup old) (opener_by setup new)
holds_by setup old new same = record {
  array = record {
    config = same.array.config;
    folders = same.array.folders;
    folder_counts = same.array.folder_counts;
    folder_writes = same.array.folder_writes;
    vault = same_vault setup old.tells old.vault new.vault same.array.vault;
  };
  import = record { folder = same.import.folder; count = same.import.count; writes = same.import.writes };
}

abbrev says_by : (by : Option SetupValue) (opener : OpenerView) (log : Option (List ℕ)) (setup : SetupValue) → Says opener log setup → Says (opener_by by opener) log setup
says_by by opener log setup says = record { bytes = says.bytes; held = says.held; says = says.says }

abbrev pub configured_by : (by : Option SetupValue) (texts : List (List ℕ)) (opener : OpenerView) (command : Command) (readers : ℕ) (setup : SetupValue)
    → IsConfigured texts opener command readers setup → IsConfigured texts (opener_by by opener) command readers setup
configured_by by texts opener command readers setup is = record {
  asked = is.asked;
  read = is.read;
  array = is.array;
  command_is = is.command_is;
  readers_are = is.readers_are;
  says = says_by by opener is.asked.log setup is.says;
}

configures_not_by : (by : Option SetupValue) (file : List ℕ) (log : Option (List ℕ)) (old new : OpenerView) (why : Why_not)
    → ConfiguresNot file log old new why → ConfiguresNot file log (opener_by by old) (opener_by by new) why
configures_not_by by file log old new (refusals.Words fault) is = is
configures_not_by by file log old new (refusals.Unread fault) is = (is.0, goes_on_by by old new _ is.1)
configures_not_by by file log old new (refusals.Config named fault) is =
    (is.0, record { bytes = is.1.bytes; held = is.1.held; refused = is.1.refused }, goes_on_by by old new _ is.2)
configures_not_by by file log old new (refusals.NoDisk name) is = is
configures_not_by by file log old new (refusals.Unopened fault) is = is

refuses_by : (by : Option SetupValue) (texts : List (List ℕ)) (old new : OpenerView) (why : Why_not) → Refuses texts old new why → Refuses texts (opener_by by old) (opener_by by new) why
refuses_by by texts old new (refusals.Words fault) is = (is.0, goes_on_by by old new _ is.1, is.2)
refuses_by by texts old new (refusals.Unread fault) is =
    record { asked = is.asked; read = is.read; array = is.array; why_not = configures_not_by by is.asked.conf is.asked.log old new (refusals.Unread fault) is.why_not }
refuses_by by texts old new (refusals.Config file fault) is =
    record { asked = is.asked; read = is.read; array = is.array; why_not = configures_not_by by is.asked.conf is.asked.log old new (refusals.Config file fault) is.why_not }
refuses_by by texts old new (refusals.NoDisk name) is = record {
  command = is.command;
  readers = is.readers;
  setup = is.setup;
  configured = configured_by by texts old is.command is.readers is.setup is.configured;
  unknown = is.unknown;
  calls = goes_on_by by old new _ is.calls;
}
refuses_by by texts old new (refusals.Unopened fault) is = record {
  command = is.command;
  readers = is.readers;
  setup = is.setup;
  configured = configured_by by texts old is.command is.readers is.setup is.configured;
  known = is.known;
  rose = is.rose;
  calls = goes_on_by by old new _ is.calls;
}

-- ---- what a configuration says, whatever the log

module _ (log : Option (List ℕ)) (setup : SetupValue) where
  abbrev LogLess : Option SetupValue
  LogLess = Some (record setup { log = None })

  said_last : (builder : BuilderValue) → at_line 0 (finish log builder) ≡ Ok setup → setup_in (at_line 0 (finish None builder)) ≡ LogLess
  said_last builder is = by (lacks_level builder.parities) (length builder.contents == 0) (length builder.disks == 0) is
    where
      by : (lacks none no_disk : Bool)
          → at_line 0 (if lacks then Err NoParity else if none then Err NoContent else if no_disk then Err NoData else Ok (setup_of log builder)) ≡ Ok setup
          → setup_in (at_line 0 (if lacks then Err NoParity else if none then Err NoContent else if no_disk then Err NoData else Ok (setup_of None builder))) ≡ LogLess
      by true none no_disk it = absurd cc
      by false true no_disk it = absurd cc
      by false false true it = absurd cc
      by false false false it =
          let same : setup_of log builder ≡ setup = cc in
          ap (λ (s : SetupValue). Some (record s { log = None })) same

  said_of : (bytes : List ℕ) → read_setup bytes log ≡ Ok setup → setup_in (read_setup bytes None) ≡ LogLess
  said_of bytes is = by (nat_lt 1048576 (length bytes)) is
    where
      from : (read : Result BuilderValue Refusal) → then_read read (λ builder. at_line 0 (finish log builder)) ≡ Ok setup
          → setup_in (then_read read (λ builder. at_line 0 (finish None builder))) ≡ LogLess
      from (Ok builder) it = said_last builder it
      from (Err why) it = absurd cc

      by : (b : Bool) → (if b then Err (record { line = 0; why = TooLong }) else then_read (read_lines 1 no_lines (lines_of bytes)) (λ builder. at_line 0 (finish log builder))) ≡ Ok setup
          → setup_in (if b then Err (record { line = 0; why = TooLong }) else then_read (read_lines 1 no_lines (lines_of bytes)) (λ builder. at_line 0 (finish None builder))) ≡ LogLess
      by true it = absurd cc
      by false it = from (read_lines 1 no_lines (lines_of bytes)) it

  pub said_is : (config : List ℕ) → read_setup (take 1048577 config) log ≡ Ok setup → said_by config ≡ Some (record setup { log = None })
  unfolding said_by
  said_is config is = said_of (take 1048577 config) is

-- ---- a run

pub refused_by : (by : Option SetupValue) (before : Entry) (exit : Exit) (why : Why_not) (told : List Event) → IsRefused before exit why told
    → IsRefused (entry_by by before) (exit_by by exit) why told
refused_by by before exit why told is = record {
  refuses = refuses_by by before.texts before.opener exit.opener why is.refuses;
  kept = holds_by by before.opener exit.opener is.kept;
  folders = is.folders;
  no_vault = is.no_vault;
  vault = same_vault by before.opener.tells before.opener.vault exit.after.vault is.vault;
  out = is.out;
  untold = is.untold;
}

pub exercised_by : (by : Option SetupValue) (before : Entry) (exit : Exit) (answer : Answer) (told : List Event) → IsExercised before exit answer told
    → IsExercised (entry_by by before) (exit_by by exit) answer told
exercised_by by before exit answer told is = record {
  number = is.number;
  asks = is.asks;
  exercises = is.exercises;
  uncalled = goes_on_by by before.opener exit.opener [] is.uncalled;
  unfailed = is.unfailed;
  kept = holds_by by before.opener exit.opener is.kept;
  folders = is.folders;
  no_vault = is.no_vault;
  vault = same_vault by before.opener.tells before.opener.vault exit.after.vault is.vault;
  untold = is.untold;
}

-- where the opener tells what it holds, the levels are those that its configuration says
ran_seen : (before : Entry) (exit : Exit) (end : End) (told : List Event) → IsTrue before.opener.tells
    → Ran (entry_by (setup_at end) before) (exit_by (setup_at end) exit) end told → Ran (entry_seen before) (exit_seen before exit) end told
ran_seen before exit (Refused why) told tells ran = refused_by (said_by before.opener.config) before exit why told ran
ran_seen before exit (Exercised answer) told tells ran = exercised_by (said_by before.opener.config) before exit answer told ran
ran_seen before exit (Worked setup ending) told tells ran =
    let asked = ran.is_given.configured.asked in
    let says = ran.is_given.configured.says in
    let read : read_setup (take 1048577 before.opener.config) asked.log ≡ Ok (setup_value setup)
    = ap (λ (bytes : List ℕ). read_setup bytes asked.log) (sym (says.held tells)) ∙ says.says in
    subst (λ (by : Option SetupValue). IsRun (entry_by by before) (exit_by by exit) (setup_value setup) ending told)
    (sym (said_is asked.log (setup_value setup) before.opener.config read)) ran

refusal_seen : (before : Entry) (exit : Exit) (end : End) (told : List Event) (status : ℕ) → status ≡ status_of end
    → Ran (entry_by (setup_at end) before) (exit_by (setup_at end) exit) end told → RefusalsTouchNothing (entry_seen before) (exit_seen before exit) status
refusal_seen before exit (Refused why) told status is ran refused =
    refusal_touches_nothing (entry_seen before) (exit_seen before exit) (Refused why) told status is (refused_by (said_by before.opener.config) before exit why told ran) refused
refusal_seen before exit (Exercised answer) told status is ran refused =
    refusal_touches_nothing (entry_seen before) (exit_seen before exit) (Exercised answer) told status is (exercised_by (said_by before.opener.config) before exit answer told ran) refused
refusal_seen before exit (Worked setup ending) told status is ran refused = record {
  out = (refusal_touches_nothing (entry_by (Some (setup_value setup)) before) (exit_by (Some (setup_value setup)) exit) (Worked setup ending) told status is ran refused).out;
  opened = λ has tells.
      (refusal_touches_nothing (entry_seen before) (exit_seen before exit) (Worked setup ending) told status is (ran_seen before exit (Worked setup ending) told tells ran) refused).opened has tells;
  unopened = λ none. absurd (let clash : true ≡ false = sym ran.has_vault ∙ none in cc);
}

module _ {R : Type 0} (standing : R → ReportView) (stands : R → List Event → Type 0) (before : Entry) (exit : Exit) (olds news : List R) (end : End) (ran : RanWith standing stands before exit olds news end) where
  pub by_said : IsTrue before.opener.tells → Ran (entry_seen before) (exit_seen before exit) end ran.told
  by_said tells = ran_seen before exit end ran.told tells ran.ran

  pub refused_seen : (status : ℕ) → status ≡ status_of end → RefusalsTouchNothing (entry_seen before) (exit_seen before exit) status
  refused_seen status is = refusal_seen before exit end ran.told status is ran.ran

-- ---- the work on what was opened

module _ {R : Type 0} (standing : R → ReportView) (stands : R → List Event → Type 0) (task : Task) (folders folders_new : List FolderView) (v w : VaultView) (out out_new : SinkView)
    (olds news : List R) (ending : Ending) (parts : List ℕ) (setup : SetupValue) (parts_are : parts ≡ setup.parts) where
  abbrev WorksBy : VaultView → VaultView → Type 0
  WorksBy old new = Works standing stands task (world_view folders old out) (world_view folders_new new out_new) olds news ending

  -- on levels of which some has several files, and on those of one file each
  pub works_split : is_split parts ≡ true → WorksBy (split_view parts setup.split v) (split_view parts setup.split w) → WorksBy (by_levels setup v) (by_levels setup w)
  works_split is works = by (is_split setup.parts) (ap is_split (sym parts_are) ∙ is)
    where
      by : (b : Bool) → b ≡ true → WorksBy (by_parts b setup.parts setup.split v) (by_parts b setup.parts setup.split w)
      by true at = subst (λ (counts : List ℕ). WorksBy (split_view counts setup.split v) (split_view counts setup.split w)) parts_are works
      by false at = absurd cc

  pub works_whole : is_split parts ≡ false → WorksBy v w → WorksBy (by_levels setup v) (by_levels setup w)
  works_whole is works = by (is_split setup.parts) (ap is_split (sym parts_are) ∙ is)
    where
      by : (b : Bool) → b ≡ false → WorksBy (by_parts b setup.parts setup.split v) (by_parts b setup.parts setup.split w)
      by true at = absurd cc
      by false at = works

-- the same of a base that was handed out and came back
pub works_on_base : {V R : Type 0} (standing : R → ReportView) (stands : R → List Event → Type 0) (view : V → VaultView) (task : Task) (folders folders_new : List FolderView) (made given left back : V)
    (counts : List ℕ) (capacity : ℕ) (out out_new : SinkView) (olds news : List R) (ending : Ending)
    → made ≡ given → back ≡ left
    → Works standing stands task (world_view folders (split_view counts capacity (view made)) out) (world_view folders_new (split_view counts capacity (view left)) out_new) olds news ending
    → Works standing stands task (world_view folders (split_view counts capacity (view given)) out) (world_view folders_new (split_view counts capacity (view back)) out_new) olds news ending
works_on_base {V} standing stands view task folders folders_new made given left back counts capacity out out_new olds news ending given_is back_is works =
    let by : V → V → Type 0
    = λ old new. Works standing stands task (world_view folders (split_view counts capacity (view old)) out) (world_view folders_new (split_view counts capacity (view new)) out_new) olds news ending in
    subst (λ (old : V). by old back) given_is (subst (λ (new : V). by made new) (sym back_is) works)

-- where no level has several files, there are as many levels as files
pub whole_levels : (parts : List ℕ) (setup : SetupValue) (v : VaultView) → IsSetup setup → IsOpenedBy parts setup v → is_split parts ≡ false → v.levels ≡ length setup.parts
whole_levels parts setup v valid opened none =
    opened.files ∙ sym valid.all_parts ∙ one_each setup.parts (ap is_split (sym opened.parts_are) ∙ none) valid.some_part
