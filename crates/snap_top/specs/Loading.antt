-- How a run loaded the table that it begins with.
use Rattle.std.specs.Prelude.{ℕ, Option, Ok, ◌≡◌, List, IsTrue, None, Some, Result}
use Rattle.content_file.specs.Load.{HasFailed, IsReadBelow, Loads, ReadsInPieces}
use Rattle.disk_model.specs.Vault.{SomeCalls, VaultState, copies_of, state_of, DraftsStay}
use Rattle.file_table.specs.Table.{TableValue}
use Rattle.array_setup.specs.Setup.{SetupValue}
use Rattle.snap_top.specs.Entry.{Entry, Exit}
use Rattle.snap_top.specs.Sync.{BeginsFrom}
use Rattle.snap_top.specs.Views.{view_of}
use Rattle.content_file.specs.InOrder.{AreReadFor, ReadsInOrder}
use Rattle.content_file.specs.declared.loading.LoadFault.{LoadFault}
use Rattle.disk_model.specs.Calls.{MakesOnly}
use Rattle.snap_top.specs.Array.{empty_table, Matches}

-- The content copies were read, each in so many calls at most (`ReadsInPieces`), and nothing of the vault was changed.
pub record ReadsCopies (old new : VaultState) : Type 0 where
  pub calls : SomeCalls (view_of old) (view_of new)
  pub made : MakesOnly (IsReadBelow (copies_of (view_of old))) (view_of old) (view_of new)
  pub pieces : ReadsInPieces (copies_of (view_of old)) (view_of old) (view_of new)
  pub drafts : DraftsStay (view_of old) (view_of new)
  pub files : IsTrue old.tells → new.files ≡ old.files

-- what loading gave, and why it gave nothing
abbrev pub LoadsFrom : VaultState → VaultState → Option TableValue → Type 0
LoadsFrom old new loaded = Loads (view_of old) (view_of new) loaded

-- The copies were read in order, each to its end or to where it failed, and what was loaded is what came (`ReadsInOrder`).
abbrev pub LoadsInOrder : Result (Option TableValue) LoadFault → VaultState → VaultState → Type 0
LoadsInOrder result old new = ReadsInOrder (AreReadFor (copies_of (view_of old)) result) (view_of old) (view_of new)

-- the table that a command begins with: the one that was loaded, which is of the configuration's array, or that of an array without content
abbrev pub BeginsWith : SetupValue → List ℕ → Option TableValue → TableValue → Type 0
BeginsWith setup seed None table = table ≡ empty_table setup seed
BeginsWith setup seed (Some loaded) table = (table ≡ loaded) × Matches setup loaded

-- no reading of a copy failed since a run began, by a state of its vault
abbrev pub ReadsWell : Entry → VaultState → Type 0
ReadsWell before at = (copy : ℕ) → ¬ (HasFailed before.opener.vault (view_of at) copy)

-- The vault was in this state when the table was loaded that a run begins with. Only copies were read by then, in order, and this is what
-- they gave; all other calls came later. Where no reading of a copy had failed by then, the table is that of the first copy that is a
-- content file.
pub record Loading (before : Entry) (exit : Exit) (setup : SetupValue) (table : TableValue) : Type 0 where
  pub at : VaultState
  pub loaded : Option TableValue
  pub reads : ReadsCopies (state_of before.opener.vault) at
  pub loads : LoadsFrom (state_of before.opener.vault) at loaded
  pub order : LoadsInOrder (Ok loaded) (state_of before.opener.vault) at
  pub begins : BeginsWith setup before.seed loaded table
  pub later : SomeCalls (view_of at) (view_of (state_of exit.after.vault))
  pub from : ReadsWell before at → BeginsFrom setup before.seed (copies_of before.opener.vault) before.opener.vault.files table
