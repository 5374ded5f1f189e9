-- A run with its objects, seen as an entry and an exit.
use Rattle.std.specs.Prelude.{ℕ, List, Option}
use Rattle.disk_model.specs.Files.{Files}
use Rattle.disk_model.specs.Folder.{FolderView}
use Rattle.disk_model.specs.Opener.{OpenerView}
use Rattle.disk_model.specs.Sink.{SinkView}
use Rattle.disk_model.specs.Vault.{VaultView}
use Rattle.snap_top.specs.Entry.{at_entry, Entry, entry_seen, Exit, exit_of, exit_seen}

-- its words, its objects at its beginning and at its end, and its status
pub record RunOf (O F V W : Type 0) : Type 0 where
  pub texts : List (List ℕ)
  pub opener : O
  pub opener_new : O
  pub out : W
  pub out_new : W
  pub moment : ℕ
  pub seed : List ℕ
  pub folders : List F
  pub vault : Option V
  pub status : ℕ

-- and the files that a stop at some moment of it leaves
pub record StoppedRun (O F V W : Type 0) : Type 0 where
  pub run : RunOf O F V W
  pub left : Files

-- by the levels that its configuration says
abbrev pub entry_of : {O F V W : Type 0} → (O → OpenerView) → (W → SinkView) → RunOf O F V W → Entry
entry_of opener_view sink_view run = entry_seen (at_entry run.texts (opener_view run.opener) (sink_view run.out) run.moment run.seed)

abbrev pub end_of : {O F V W : Type 0} → (O → OpenerView) → (F → FolderView) → (V → VaultView) → (W → SinkView) → RunOf O F V W → Exit
end_of opener_view folder_view vault_view sink_view run =
    exit_seen (at_entry run.texts (opener_view run.opener) (sink_view run.out) run.moment run.seed)
    (exit_of folder_view vault_view (opener_view run.opener_new) run.folders run.vault (sink_view run.out_new))
