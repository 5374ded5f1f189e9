-- What a run began with, and what it left.
use Rattle.std.specs.Prelude.{ℕ, List, Bool, Option, None, Some, is_some, map}
use Rattle.disk_model.specs.Folder.{FolderView}
use Rattle.disk_model.specs.Opener.{OpenerView}
use Rattle.disk_model.specs.Sink.{SinkView}
use Rattle.disk_model.specs.Vault.{VaultView}
use Rattle.array_setup.specs.Setup.{SetupValue}
use Rattle.snap_top.specs.Levels.{by_setup, opener_by, said_by}
use Rattle.snap_top.specs.Views.{WorldView, world_view}

-- What a run began with, and what it left: all that it touched but the standard error and the reports. Where nothing was opened, the vault is the
-- one that the opener still holds.
pub record Entry : Type 1 where
  pub texts : List (List ℕ)
  pub opener : OpenerView
  pub out : SinkView
  pub moment : ℕ
  pub seed : List ℕ

pub record Exit : Type 1 where
  pub opener : OpenerView
  pub has_vault : Bool
  pub after : WorldView

abbrev pub at_entry : List (List ℕ) → OpenerView → SinkView → ℕ → List ℕ → Entry
at_entry texts opener out moment seed = record { texts = texts; opener = opener; out = out; moment = moment; seed = seed }

abbrev pub at_exit : OpenerView → Bool → WorldView → Exit
at_exit opener has_vault after = record { opener = opener; has_vault = has_vault; after = after }

abbrev pub vault_in : {V : Type 0} → (V → VaultView) → VaultView → Option V → VaultView
vault_in view held None = held
vault_in view held (Some vault) = view vault

-- what it left, by what goes back
abbrev pub exit_of : {F V : Type 0} → (F → FolderView) → (V → VaultView) → OpenerView → List F → Option V → SinkView → Exit
exit_of folder_view vault_view opener folders vault out =
    at_exit opener (is_some vault) (world_view (map folder_view folders) (vault_in vault_view opener.vault vault) out)

-- By the levels of a setup: those of the vault that the opener holds, and of the one that goes back.
abbrev pub entry_by : Option SetupValue → Entry → Entry
entry_by setup before = record before { opener = opener_by setup before.opener }

abbrev pub exit_by : Option SetupValue → Exit → Exit
exit_by setup exit = record exit { opener = opener_by setup exit.opener; after = record exit.after { vault = by_setup setup exit.after.vault } }

-- by the levels that the configuration of the entry says
abbrev pub entry_seen : Entry → Entry
entry_seen before = entry_by (said_by before.opener.config) before

abbrev pub exit_seen : Entry → Exit → Exit
exit_seen before exit = exit_by (said_by before.opener.config) exit

-- What is said of a run by its levels.
abbrev pub ByLevels : (Entry → Exit → ℕ → Type 0) → Entry → Exit → ℕ → Type 0
ByLevels P before exit status = P (entry_seen before) (exit_seen before exit) status
