-- A vault by the levels of a configuration: what stays of it.
use Rattle.std.proofs.Common.{◌≡◌, ℕ, List, Bool, true, false, Option, None, Some, IsTrue, refl, ap, ◌∙◌}
use Rattle.disk_model.specs.Files.{Files}
use Rattle.disk_model.specs.Vault.{IsSettled, VaultView, copies_of}
use Rattle.parity_split.specs.Joined.{seen}
use Rattle.parity_split.specs.Split.{split_view}
use Rattle.array_setup.specs.Setup.{SetupValue}
use Rattle.snap_top.specs.Levels.{by_parts, by_setup, is_split}
use Rattle.snap_top.proofs.LevelsLemmas.{settled_by}

-- what is the same of a vault whose levels are split
module _ {A : Type 0} (part : VaultView → A) (same : (parts : List ℕ) (capacity : ℕ) (v : VaultView) → part (split_view parts capacity v) ≡ part v) where
  same_parts : (split : Bool) (parts : List ℕ) (capacity : ℕ) (v : VaultView) → part (by_parts split parts capacity v) ≡ part v
  same_parts true parts capacity v = same parts capacity v
  same_parts false parts capacity v = refl

  pub same_of : (by : Option SetupValue) (v : VaultView) → part (by_setup by v) ≡ part v
  same_of None v = refl
  same_of (Some setup) v = same_parts (is_split setup.parts) setup.parts setup.split v

pub tells_seen : (by : Option SetupValue) (v : VaultView) → (by_setup by v).tells ≡ v.tells
tells_seen by v = same_of (λ (w : VaultView). w.tells) (λ parts capacity w. refl) by v

pub faults_seen : (by : Option SetupValue) (v : VaultView) → (by_setup by v).faults ≡ v.faults
faults_seen by v = same_of (λ (w : VaultView). w.faults) (λ parts capacity w. refl) by v

pub copies_seen : (by : Option SetupValue) (v : VaultView) → copies_of (by_setup by v) ≡ copies_of v
copies_seen by v = same_of (λ (w : VaultView). copies_of w) (λ parts capacity w. refl) by v

pub moment_seen : (by : Option SetupValue) (v : VaultView) → (by_setup by v).images.moment ≡ v.images.moment
moment_seen by v = same_of (λ (w : VaultView). w.images.moment) (λ parts capacity w. refl) by v

pub contents_seen : (by : Option SetupValue) (v : VaultView) → (by_setup by v).files.contents ≡ v.files.contents
contents_seen by v = same_of (λ (w : VaultView). w.files.contents) (λ parts capacity w. refl) by v

files_parts : (split : Bool) (parts : List ℕ) (capacity : ℕ) (v w : VaultView) → v.files ≡ w.files
    → (by_parts split parts capacity v).files ≡ (by_parts split parts capacity w).files
files_parts true parts capacity v w same = ap (seen parts capacity) same
files_parts false parts capacity v w same = same

pub files_by : (by : Option SetupValue) (v w : VaultView) → v.files ≡ w.files → (by_setup by v).files ≡ (by_setup by w).files
files_by None v w same = same
files_by (Some setup) v w same = files_parts (is_split setup.parts) setup.parts setup.split v w same

-- some level has several files
abbrev pub splits : Option SetupValue → Bool
splits None = false
splits (Some setup) = is_split setup.parts

-- where none has, all that it reads stays
pub files_whole : (by : Option SetupValue) (v : VaultView) → splits by ≡ false → (by_setup by v).files ≡ v.files
files_whole None v whole = refl
files_whole (Some setup) v whole = ap (λ (split : Bool). (by_parts split setup.parts setup.split v).files) whole

pub settled_seen : (by : Option SetupValue) (v : VaultView) → IsSettled v → IsSettled (by_setup by v)
settled_seen None v settled told files left = settled told files left
settled_seen (Some setup) v settled told files left = settled_by (is_split setup.parts) setup.parts setup.split v settled told files left

-- what a stop leaves of it, by its levels
abbrev pub LeavesAt : VaultView → ℕ → Files → Type 0
LeavesAt v moment files = IsTrue v.images.told × v.images.since moment files

left_parts : (split : Bool) (parts : List ℕ) (capacity : ℕ) (v made : VaultView) (moment : ℕ) → LeavesAt v moment made.files
    → LeavesAt (by_parts split parts capacity v) moment (by_parts split parts capacity made).files
left_parts true parts capacity v made moment left = (left.0, (made.files, left.1, refl))
left_parts false parts capacity v made moment left = left

pub left_seen : (by : Option SetupValue) (v made : VaultView) (moment : ℕ) → LeavesAt v moment made.files → LeavesAt (by_setup by v) moment (by_setup by made).files
left_seen None v made moment left = left
left_seen (Some setup) v made moment left = left_parts (is_split setup.parts) setup.parts setup.split v made moment left
