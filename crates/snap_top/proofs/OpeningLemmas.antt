-- The calls of an opener, one after another, and what it gave.
use Rattle.std.proofs.Common.{◌≡◌, ℕ, ◌<◌, ◌≤◌, List, [], ◌∷◌, ◌++◌, length, map, get_or, replicate, Bool, true, false, IsTrue, None, Some, Ok, Err, arith, refl, sym, ◌∙◌, ap, subst, append_assoc}
use Rattle.std.proofs.lemmas.List.{append-nil, length-map}
use Rattle.disk_model.specs.Cause.{Rose}
use Rattle.disk_model.specs.Folder.{FolderView, quiet_folder}
use Rattle.disk_model.specs.Moments.{SameImages}
use Rattle.disk_model.specs.Opener.{OpenerView, OpenerCall, OpenerDone, OpenerGoesOn, IsOpenerCall, HoldsSame, SameVault, Config, Open, folder_held, FolderIsGiven, VaultIsGiven}
use Rattle.disk_model.specs.Vault.{VaultView, state_of}
use Rattle.disk_model.specs.declared.fault.OpenFault.{OpenFault}
use Rattle.disk_model.specs.declared.fault.OpenFault.TheVariants as opens
use Rattle.disk_model.proofs.GivenLemmas.{same_state, same_images}
use Rattle.array_setup.specs.Setup.{IsSetup, SetupValue}
use Rattle.snap_config.specs.declared.options.Command.{Command}
use Rattle.snap_config.specs.declared.options.Options.{Options}
use Rattle.disk_model.specs.declared.draft.Draft.TheVariants.{Absent}
use Rattle.snap_top.specs.Known.{unknown_in}
use Rattle.snap_top.specs.Levels.{by_parts, is_split}
use Rattle.snap_top.specs.Opening.{IsGivenBy, IsGivenFor, IsUnopened, StateIsGiven, reads_config, opens_places, is_failure}
use Rattle.snap_top.specs.Asked.{IsConfigured, Says, WorksOnArray}
use Rattle.snap_top.proofs.LevelsLemmas.{configured_by, goes_on_by, levels_by, state_by}
use Rattle.parity_split.specs.Split.{loosely}

-- no call
pub no_calls_yet : (opener : OpenerView) → OpenerGoesOn opener opener []
no_calls_yet opener = record { later = omega arith; tells = refl; calls = record { told = λ t. t; more = λ t. sym (append-nil opener.calls) } }

goes_on_then : (old mid new : OpenerView) (first second : List OpenerDone) → OpenerGoesOn old mid first → OpenerGoesOn mid new second → OpenerGoesOn old new (first ++ second)
goes_on_then old mid new first second one two = record {
  later = omega (arith, one.later, two.later);
  tells = two.tells ∙ one.tells;
  calls = record {
    told = λ t. one.calls.told (two.calls.told t);
    more = λ t. two.calls.more t ∙ ap (λ xs. xs ++ second) (one.calls.more (two.calls.told t)) ∙ append_assoc old.calls first second;
  };
}

-- the call for a file that went well
pub config_asked : {T : Type 0} (file name : List ℕ) (x : T) (old new : OpenerView) → name ≡ file → IsOpenerCall (Config name) (Ok x) old new → OpenerGoesOn old new (reads_config file false ∷ [])
config_asked file name x old new same call = subst (λ n. OpenerGoesOn old new (reads_config n false ∷ [])) same call.goes_on

-- a call that did not go well, by its fault
failure_is : {T : Type 0} (call : OpenerCall) (fault : OpenFault) (old new : OpenerView) → IsOpenerCall {T = T} call (Err fault) old new
    → (IsTrue (is_failure fault) → Rose old.faults new.faults) × OpenerGoesOn old new (record { call = call; failed = is_failure fault } ∷ [])
failure_is call opens.Failed old new is = (is.cause, is.goes_on)
failure_is call opens.Memory old new is = (is.cause, is.goes_on)

pub config_failed : {T : Type 0} (file name : List ℕ) (fault : OpenFault) (old new : OpenerView) → name ≡ file → IsOpenerCall {T = T} (Config name) (Err fault) old new
    → (IsTrue (is_failure fault) → Rose old.faults new.faults) × OpenerGoesOn old new (reads_config file (is_failure fault) ∷ [])
config_failed file name fault old new same is =
    let by_name = failure_is (Config name) fault old new is in
    (by_name.0, subst (λ n. OpenerGoesOn old new (reads_config n (is_failure fault) ∷ [])) same by_name.1)

-- ---- an opener holds what it held

same_vault_then : (told_old told_mid : Bool) (old mid new : VaultView) → told_mid ≡ told_old → SameVault told_old old mid → SameVault told_mid mid new → SameVault told_old old new
same_vault_then told_old told_mid old mid new tells one two = record {
  faults = two.faults ∙ one.faults;
  writes = two.writes ∙ one.writes;
  levels = λ told. two.levels (tells ∙ told) ∙ one.levels told;
  drafts = λ told. two.drafts (tells ∙ told) ∙ one.drafts told;
  tells = λ told. two.tells (tells ∙ told) ∙ one.tells told;
  files = λ told. two.files (tells ∙ told) ∙ one.files told;
  staged = λ told. two.staged (tells ∙ told) ∙ one.staged told;
  tells_calls = λ told. two.tells_calls (tells ∙ told) ∙ one.tells_calls told;
  calls = λ told. two.calls (tells ∙ told) ∙ one.calls told;
  tells_images = λ told. two.tells_images (tells ∙ told) ∙ one.tells_images told;
  moment = λ told. two.moment (tells ∙ told) ∙ one.moment told;
  since = λ told t files. (λ left. (one.since told t files).0 ((two.since (tells ∙ told) t files).0 left), λ left. (two.since (tells ∙ told) t files).1 ((one.since told t files).1 left));
}

pub holds_start : (opener : OpenerView) → HoldsSame opener opener
holds_start opener = record {
  array = record {
    config = λ told. refl;
    folders = λ told. refl;
    folder_counts = λ column. refl;
    folder_writes = λ column. refl;
    vault = record {
      faults = refl;
      writes = refl;
      levels = λ told. refl;
      drafts = λ told. refl;
      tells = λ told. refl;
      files = λ told. refl;
      staged = λ told. refl;
      tells_calls = λ told. refl;
      calls = λ told. refl;
      tells_images = λ told. refl;
      moment = λ told. refl;
      since = λ told t files. (λ left. left, λ left. left);
    };
  };
  import = record { folder = λ told. refl; count = refl; writes = refl };
}

pub holds_then : (old mid new : OpenerView) → mid.tells ≡ old.tells → HoldsSame old mid → HoldsSame mid new → HoldsSame old new
holds_then old mid new tells one two = record {
  array = record {
    config = λ told. two.array.config (tells ∙ told) ∙ one.array.config told;
    folders = λ told. two.array.folders (tells ∙ told) ∙ one.array.folders told;
    folder_counts = λ column. two.array.folder_counts column ∙ one.array.folder_counts column;
    folder_writes = λ column. two.array.folder_writes column ∙ one.array.folder_writes column;
    vault = same_vault_then old.tells mid.tells old.vault mid.vault new.vault tells one.array.vault two.array.vault;
  };
  import = record {
    folder = λ told. two.import.folder (tells ∙ told) ∙ one.import.folder told;
    count = two.import.count ∙ one.import.count;
    writes = two.import.writes ∙ one.import.writes;
  };
}

-- ---- what was opened

same_told : (is_told : Bool) (held other : VaultView) → IsTrue is_told → SameVault is_told held other → SameVault true held other
same_told is_told held other told same = subst (λ b. SameVault b held other) told same

-- of a vault that is given after the configuration was read, of what was held before
pub images_given : (parities contents : ℕ) (old mid : OpenerView) (given : VaultView) → HoldsSame old mid → mid.tells ≡ old.tells → VaultIsGiven mid.tells parities contents mid.vault given
    → IsTrue old.tells → SameImages old.vault.images given.images
images_given parities contents old mid given same tells is told =
    same_images old.vault given (same_told old.tells old.vault given told (same_vault_then old.tells mid.tells old.vault mid.vault given tells same.array.vault is.same))

state_given : (parities contents : ℕ) (old mid : OpenerView) (given : VaultView) → HoldsSame old mid → mid.tells ≡ old.tells → VaultIsGiven mid.tells parities contents mid.vault given
    → StateIsGiven old.tells parities contents (state_of old.vault) (state_of given)
state_given parities contents old mid given same tells is =
    let whole = same_vault_then old.tells mid.tells old.vault mid.vault given tells same.array.vault is.same in
    record { faults = whole.faults; writes = whole.writes; whole = λ told. same_state old.vault given (same_told old.tells old.vault given told whole); levels = is.levels; drafts = is.drafts }

folder_given : (old mid : OpenerView) (column : ℕ) (given : FolderView) → HoldsSame old mid → mid.tells ≡ old.tells
    → FolderIsGiven mid.tells (folder_held mid column) given → FolderIsGiven old.tells (folder_held old column) given
folder_given old mid column given same tells is = record {
  faults = is.faults ∙ same.array.folder_counts column;
  writes = is.writes ∙ same.array.folder_writes column;
  is_open = is.is_open;
  whole = λ told. is.whole (tells ∙ told) ∙ ap (λ folders. get_or folders column (quiet_folder 0 false)) (same.array.folders told);
}

-- the lists that a vector's length counts
pub as_many_levels : (parities contents p c : ℕ) (told : Bool) (held given : VaultView) → parities ≡ p → contents ≡ c → VaultIsGiven told parities contents held given → VaultIsGiven told p c held given
as_many_levels parities contents p c told held given ps cs is =
    subst (λ n. VaultIsGiven told p n held given) cs (subst (λ n. VaultIsGiven told n contents held given) ps is)

pub opened_given : {T F : Type 0} (view : F → FolderView) (fs : List F) (vault : VaultView) (x : T) (texts : List (List ℕ)) (command : Command) (readers : ℕ) (setup : SetupValue) (old mid new : OpenerView)
    → (configured : IsConfigured texts old command readers setup) → unknown_in setup command ≡ None → OpenerGoesOn old mid (reads_config configured.asked.conf false ∷ []) → HoldsSame old mid
    → IsOpenerCall (Open setup.dirs setup.parities setup.contents) (Ok x) mid new → length fs ≡ length setup.dirs → (IsTrue mid.tells → length fs ≡ length mid.folders)
    → ((column : ℕ) → column < length fs → FolderIsGiven mid.tells (folder_held mid column) (get_or (map view fs) column (quiet_folder 0 false)))
    → VaultIsGiven mid.tells (length setup.parities) (length setup.contents) mid.vault vault → IsSetup setup
    → IsGivenBy texts old new command readers setup (map view fs) vault
opened_given view fs vault x texts command readers setup old mid new configured known first same second columns just each is valid =
    let tells = first.tells in
    let state = state_given (length setup.parities) (length setup.contents) old mid vault same tells is in
    let split : Bool = is_split setup.parts in
    let many : length (map view fs) ≡ length fs = length-map fs view in
    record {
      configured = configured_by (Some setup) texts old command readers setup configured;
      known = known;
      calls = goes_on_by (Some setup) old new _ (goes_on_then old mid new (reads_config configured.asked.conf false ∷ []) (opens_places setup false ∷ []) first second.goes_on);
      columns = many ∙ columns;
      just = λ told. many ∙ just (tells ∙ told) ∙ ap length (same.array.folders told);
      each = λ d below. folder_given old mid d _ same tells (each d (omega (arith, below, many)));
      state = record {
        faults = faults_by split state.faults;
        writes = writes_by split state.writes;
        whole = λ told. state_by split setup.parts setup.split old.vault vault (state.whole told);
        levels = levels_by setup vault valid state.levels;
        drafts = drafts_by split state.drafts;
      };
    }
  where
    faults_by : (b : Bool) → vault.faults ≡ old.vault.faults → (by_parts b setup.parts setup.split vault).faults ≡ (by_parts b setup.parts setup.split old.vault).faults
    faults_by true is' = is'
    faults_by false is' = is'

    writes_by : (b : Bool) → vault.writes ≡ old.vault.writes → (by_parts b setup.parts setup.split vault).writes ≡ (by_parts b setup.parts setup.split old.vault).writes
    writes_by true is' = ap loosely is'
    writes_by false is' = is'

    drafts_by : (b : Bool) → vault.drafts ≡ replicate (length setup.contents) Absent → (by_parts b setup.parts setup.split vault).drafts ≡ replicate (length setup.contents) Absent
    drafts_by true is' = is'
    drafts_by false is' = is'

-- so it is of all words that ask for this
pub given_for : {T F : Type 0} (view : F → FolderView) (fs : List F) (vault : VaultView) (x : T) (asked : Options) (command : Command) (readers : ℕ) (setup : SetupValue) (old mid new : OpenerView)
    → WorksOnArray asked.command → command ≡ asked.command → readers ≡ asked.readers → Says old asked.log setup → unknown_in setup command ≡ None
    → OpenerGoesOn old mid (reads_config asked.conf false ∷ []) → HoldsSame old mid
    → IsOpenerCall (Open setup.dirs setup.parities setup.contents) (Ok x) mid new → length fs ≡ length setup.dirs → (IsTrue mid.tells → length fs ≡ length mid.folders)
    → ((column : ℕ) → column < length fs → FolderIsGiven mid.tells (folder_held mid column) (get_or (map view fs) column (quiet_folder 0 false)))
    → VaultIsGiven mid.tells (length setup.parities) (length setup.contents) mid.vault vault → IsSetup setup
    → IsGivenFor asked old new command readers setup (map view fs) vault
given_for view fs vault x asked command readers setup old mid new works command_is readers_are says known first same second columns just each is valid =
    let many : length (map view fs) ≡ length fs = length-map fs view in
    record {
      columns = many ∙ columns;
      are_open = λ d below. (each d (omega (arith, below, many))).is_open;
      given = λ texts read. opened_given view fs vault x texts command readers setup old mid new
          (record { asked = asked; read = read; array = works; command_is = command_is; readers_are = readers_are; says = says }) known first same second columns just each is valid;
    }

pub unopened : {T : Type 0} (texts : List (List ℕ)) (command : Command) (readers : ℕ) (setup : SetupValue) (old mid new : OpenerView) (fault : OpenFault)
    → (configured : IsConfigured texts old command readers setup) → unknown_in setup command ≡ None → OpenerGoesOn old mid (reads_config configured.asked.conf false ∷ [])
    → IsOpenerCall {T = T} (Open setup.dirs setup.parities setup.contents) (Err fault) mid new → IsUnopened texts old new fault
unopened texts command readers setup old mid new fault configured known first second =
    let last = failure_is (Open setup.dirs setup.parities setup.contents) fault mid new second in
    record {
      command = command;
      readers = readers;
      setup = setup;
      configured = configured;
      known = known;
      rose = λ failed. rose_after old.faults mid.faults new.faults first.later (last.0 failed);
      calls = goes_on_then old mid new (reads_config configured.asked.conf false ∷ []) (opens_places setup (is_failure fault) ∷ []) first last.1;
    }
  where
    rose_after : (a b c : ℕ) → a ≤ b → Rose b c → Rose a c
    rose_after a b c later rose = omega (arith, later, rose)
