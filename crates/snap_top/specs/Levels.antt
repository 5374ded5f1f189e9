-- The levels of an array, each of one file or of several, as its configuration says. All that is said of the vault of a run
-- speaks of levels: where each has one file, they are those of the vault that was opened.
use Rattle.std.specs.Prelude.{◌≡◌, ℕ, List, length, Bool, true, false, nat_lt, take, Option, None, Some, Result, Ok, Err}
use Rattle.std.specs.List.{list_any}
use Rattle.disk_model.specs.Opener.{OpenerView}
use Rattle.disk_model.specs.Vault.{IsSettled, VaultView}
use Rattle.parity_split.specs.Split.{split_view}
use Rattle.snap_config.specs.Config.{Refusal, read_setup}
use Rattle.array_setup.specs.Setup.{SetupValue}

-- some level has several files
abbrev pub is_split : List ℕ → Bool
is_split parts = list_any (λ count. nat_lt 1 count) parts

-- a vault of one level for each file, by levels of so many files each, where some has several
abbrev pub by_parts : Bool → List ℕ → ℕ → VaultView → VaultView
by_parts true parts capacity v = split_view parts capacity v
by_parts false parts capacity v = v

-- by the levels of a configuration
abbrev pub by_levels : SetupValue → VaultView → VaultView
by_levels setup v = by_parts (is_split setup.parts) setup.parts setup.split v

-- and where there is none, as it is
abbrev pub by_setup : Option SetupValue → VaultView → VaultView
by_setup None v = v
by_setup (Some setup) v = by_levels setup v

-- what these bytes of a configuration say, whatever the log
abbrev pub setup_in : Result SetupValue Refusal → Option SetupValue
setup_in (Ok setup) = Some setup
setup_in (Err refusal) = None

unfoldable pub said_by : List ℕ → Option SetupValue
said_by config = setup_in (read_setup (take 1048577 config) None)

-- an opener, by the levels of the vault that it holds
abbrev pub opener_by : Option SetupValue → OpenerView → OpenerView
opener_by setup opener = record opener { vault = by_setup setup opener.vault }

-- A vault as it was opened for this configuration, and how many files each of its levels has.
pub record IsOpenedBy (parts : List ℕ) (setup : SetupValue) (vault : VaultView) : Type 0 where
  pub parts_are : parts ≡ setup.parts
  pub files : vault.levels ≡ length setup.parities
  pub settled : IsSettled vault

-- the same of a shape of levels that is the configuration's
pub record IsShapedBy (counts : List ℕ) (capacity : ℕ) (parts : List ℕ) (setup : SetupValue) (vault : VaultView) : Type 0 where
  pub opened : IsOpenedBy parts setup vault
  pub counts_are : setup.parts ≡ counts
  pub capacity_is : setup.split ≡ capacity
