-- What a run asks its opener for, and what it is given.
use Rattle.std.specs.Prelude.{◌≡◌, ◌⊎◌, ℕ, ◌<◌, List, [], ◌∷◌, length, take, replicate, Bool, true, false, IsTrue, Option, None, Some, Ok, Err}
use Rattle.disk_model.specs.Cause.{Rose}
use Rattle.disk_model.specs.Folder.{FolderView}
use Rattle.disk_model.specs.Opener.{OpenerView, OpenerDone, OpenerGoesOn, Config, Open, FolderIsGiven, folder_held}
use Rattle.disk_model.specs.Vault.{VaultState, VaultView, state_of}
use Rattle.disk_model.specs.declared.draft.Draft.TheVariants.{Absent}
use Rattle.disk_model.specs.declared.fault.OpenFault.{OpenFault}
use Rattle.disk_model.specs.declared.fault.OpenFault.TheVariants as opens
use Rattle.snap_config.specs.Config.{read_setup, IsRefusal}
use Rattle.array_setup.specs.Setup.{SetupValue}
use Rattle.snap_config.specs.declared.options.Command.{Command}
use Rattle.snap_config.specs.declared.options.Options.{Options}
use Rattle.snap_config.specs.declared.options.WordsFault.{WordsFault}
use Rattle.snap_config.specs.declared.options.WordsFault.TheVariants as words
use Rattle.snap_config.specs.declared.why.ConfigFault.{ConfigFault}
use Rattle.snap_top.specs.Known.{unknown_in}
use Rattle.snap_top.specs.Levels.{by_levels, opener_by}
use Rattle.snap_top.specs.Asked.{WorksOnArray, IsConfigured, asked_by}
use Rattle.snap_top.specs.Views.{AreAllOpen, folder_at}
use Rattle.snap_top.specs.declared.end.Refusal.{Refusal}
use Rattle.snap_top.specs.declared.end.Refusal.TheVariants.{Words, Unread, Config as BadConfig, NoDisk, Unopened}

-- ---- the calls of the opener

-- the call for a configuration file, and the one for all that a configuration names
abbrev pub reads_config : List ℕ → Bool → OpenerDone
reads_config file failed = record { call = Config file; failed = failed }

abbrev pub opens_places : SetupValue → Bool → OpenerDone
opens_places setup failed = record { call = Open setup.dirs setup.parities setup.contents; failed = failed }

-- an opener that failed, and one for which memory ran out
abbrev pub is_failure : OpenFault → Bool
is_failure opens.Failed = true
is_failure opens.Memory = false

-- ---- what was asked for

pub record SaysNot (opener : OpenerView) (log : Option (List ℕ)) (fault : ConfigFault) : Type 0 where
  pub bytes : List ℕ
  pub held : IsTrue opener.tells → bytes ≡ take 1048577 opener.config
  pub refused : IsRefusal fault (read_setup bytes log)

-- ---- why nothing was opened

-- the words are refused, or memory ran out
abbrev pub IsWordsFault : List (List ℕ) → WordsFault → Type 0
IsWordsFault texts fault = (fault ≡ words.Memory) ⊎ (asked_by texts ≡ Err fault)

-- why a configuration file gave no setup
abbrev pub ConfiguresNot : List ℕ → Option (List ℕ) → OpenerView → OpenerView → Refusal → Type 0
ConfiguresNot file log old new (Words fault) = ⊥
ConfiguresNot file log old new (Unread fault) = (IsTrue (is_failure fault) → Rose old.faults new.faults) × OpenerGoesOn old new (reads_config file (is_failure fault) ∷ [])
ConfiguresNot file log old new (BadConfig named fault) = (named ≡ file) × SaysNot old log fault × OpenerGoesOn old new (reads_config file false ∷ [])
ConfiguresNot file log old new (NoDisk name) = ⊥
ConfiguresNot file log old new (Unopened fault) = ⊥

-- the words ask for a command that works on an array, and the configuration file gave no setup
pub record IsUnconfigured (texts : List (List ℕ)) (old new : OpenerView) (why : Refusal) : Type 0 where
  pub asked : Options
  pub read : asked_by texts ≡ Ok asked
  pub array : WorksOnArray asked.command
  pub why_not : ConfiguresNot asked.conf asked.log old new why

-- this is the first name that the command selects and neither a disk nor a level of the configuration has
pub record IsUnknown (texts : List (List ℕ)) (old new : OpenerView) (name : List ℕ) : Type 0 where
  pub command : Command
  pub readers : ℕ
  pub setup : SetupValue
  pub configured : IsConfigured texts old command readers setup
  pub unknown : unknown_in setup command ≡ Some name
  pub calls : OpenerGoesOn old new (reads_config configured.asked.conf false ∷ [])

-- what the configuration names was not opened
pub record IsUnopened (texts : List (List ℕ)) (old new : OpenerView) (fault : OpenFault) : Type 0 where
  pub command : Command
  pub readers : ℕ
  pub setup : SetupValue
  pub configured : IsConfigured texts old command readers setup
  pub known : unknown_in setup command ≡ None
  pub rose : IsTrue (is_failure fault) → Rose old.faults new.faults
  pub calls : OpenerGoesOn old new (reads_config configured.asked.conf false ∷ opens_places setup (is_failure fault) ∷ [])

-- by the refusal: its cause, all calls of the opener and, where words are refused, that its count stays
abbrev pub Refuses : List (List ℕ) → OpenerView → OpenerView → Refusal → Type 0
Refuses texts old new (Words fault) = IsWordsFault texts fault × OpenerGoesOn old new [] × (new.faults ≡ old.faults)
Refuses texts old new (Unread fault) = IsUnconfigured texts old new (Unread fault)
Refuses texts old new (BadConfig file fault) = IsUnconfigured texts old new (BadConfig file fault)
Refuses texts old new (NoDisk name) = IsUnknown texts old new name
Refuses texts old new (Unopened fault) = IsUnopened texts old new fault

-- so it is of all words that ask for this
abbrev pub RefusesFor : Options → OpenerView → OpenerView → Refusal → Type 0
RefusesFor asked old new why = (texts : List (List ℕ)) → asked_by texts ≡ Ok asked → Refuses texts old new why

-- ---- what was opened

-- a vault is given as it was held, of so many levels and copies, without drafts
pub record StateIsGiven (is_told : Bool) (parities contents : ℕ) (held given : VaultState) : Type 0 where
  pub faults : given.faults ≡ held.faults
  pub writes : given.writes ≡ held.writes
  pub whole : IsTrue is_told → given ≡ held
  pub levels : given.levels ≡ parities
  pub drafts : given.drafts ≡ replicate contents Absent

-- A folder for each directory, and the vault with as many levels and copies as the configuration has: just what the opener held, where it tells that. It
-- was asked for the configuration and for what that names, once each, and for nothing else.
pub record IsGiven (texts : List (List ℕ)) (old new : OpenerView) (command : Command) (readers : ℕ) (setup : SetupValue) (folders : List FolderView) (vault : VaultState) : Type 0 where
  pub configured : IsConfigured texts old command readers setup
  pub known : unknown_in setup command ≡ None
  pub calls : OpenerGoesOn old new (reads_config configured.asked.conf false ∷ opens_places setup false ∷ [])
  pub columns : length folders ≡ length setup.dirs
  pub just : IsTrue old.tells → length folders ≡ length old.folders
  pub each : (d : ℕ) → d < length folders → FolderIsGiven old.tells (folder_held old d) (folder_at folders d)
  pub state : StateIsGiven old.tells (length setup.parts) (length setup.contents) (state_of old.vault) vault

-- the same by the levels of the configuration, of a vault as it was opened
abbrev pub IsGivenBy : List (List ℕ) → OpenerView → OpenerView → Command → ℕ → SetupValue → List FolderView → VaultView → Type 0
IsGivenBy texts old new command readers setup folders vault =
    IsGiven texts (opener_by (Some setup) old) (opener_by (Some setup) new) command readers setup folders (state_of (by_levels setup vault))

-- Open folders, one for each directory; and so it is of all words that ask for this.
pub record IsGivenFor (asked : Options) (old new : OpenerView) (command : Command) (readers : ℕ) (setup : SetupValue) (folders : List FolderView) (vault : VaultView) : Type 0 where
  pub columns : length folders ≡ length setup.dirs
  pub are_open : AreAllOpen folders
  pub given : (texts : List (List ℕ)) → asked_by texts ≡ Ok asked → IsGivenBy texts old new command readers setup folders vault
