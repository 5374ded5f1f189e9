-- All that a command may touch, before and after it.
use Rattle.std.specs.Prelude.{◌≡◌, ℕ, ◌<◌, List, length, drop, slice_index_or, false, IsTrue, None}
use Rattle.disk_model.specs.Folder.{FolderView, FolderCall, FolderDone, SomeFolderCalls, TreeStays, quiet_folder}
use Rattle.disk_model.specs.Sink.{SinkView, SinkGoesOn}
use Rattle.disk_model.specs.Stopped.{EachCall, written_path}
use Rattle.disk_model.specs.Vault.{VaultView, VaultState, SomeCalls, state_of, no_images}

-- The folders, the vault and the output, but for what a stop may leave of the vault: so a relation can hold it.
pub record World : Type 0 where
  pub folders : List FolderView
  pub vault : VaultState
  pub out : SinkView

-- the same with what a stop may leave
pub record WorldView : Type 1 where
  pub folders : List FolderView
  pub vault : VaultView
  pub out : SinkView

abbrev pub world_view : List FolderView → VaultView → SinkView → WorldView
world_view folders vault out = record { folders = folders; vault = vault; out = out }

abbrev pub world_of : WorldView → World
world_of view = record { folders = view.folders; vault = state_of view.vault; out = view.out }

-- a vault in this state that tells nothing of what a stop may leave
abbrev pub view_of : VaultState → VaultView
view_of state = record {
  faults = state.faults;
  writes = state.writes;
  levels = state.levels;
  drafts = state.drafts;
  tells = state.tells;
  files = state.files;
  staged = state.staged;
  tells_calls = state.tells_calls;
  calls = state.calls;
  images = no_images;
}

abbrev pub folder_at : List FolderView → ℕ → FolderView
folder_at folders d = slice_index_or folders d (quiet_folder 0 false)

-- no folder is closed
abbrev pub AreAllOpen : List FolderView → Type 0
AreAllOpen folders = (d : ℕ) → d < length folders → (folder_at folders d).closed ≡ false

-- the calls of a folder that were made since then, where it tells its calls
abbrev pub calls_since : FolderView → FolderView → List FolderDone
calls_since old new = drop (length old.calls) new.calls

-- a folder was only read: its count of writing calls stays, and where it tells its calls, none of them writes
pub record ReadsOnly (old new : FolderView) : Type 0 where
  pub calls : SomeFolderCalls old new
  pub unwritten : new.writes ≡ old.writes
  pub reads : IsTrue new.tells_calls → EachCall (λ (call : FolderCall). written_path call ≡ None) (calls_since old new)
  pub tree : TreeStays old new

-- the folders were only read
pub record AllReadOnly (olds news : List FolderView) : Type 0 where
  pub count : length news ≡ length olds
  pub each : (d : ℕ) → d < length olds → ReadsOnly (folder_at olds d) (folder_at news d)

-- the folders went on by this, the vault by some calls of which that holds, and the output only grew
pub record KeepsBy (P : List FolderView → List FolderView → Type 0) (Q : VaultState → VaultState → Type 0) (before after : World) : Type 0 where
  pub folders : P before.folders after.folders
  pub vault : SomeCalls (view_of before.vault) (view_of after.vault)
  pub writes : Q before.vault after.vault
  pub out : SinkGoesOn before.out after.out
