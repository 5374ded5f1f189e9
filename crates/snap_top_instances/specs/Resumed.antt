-- A sync that was stopped at some moment or ended, and one after it: an instance of what the headline supposes of the full sync of what there was before.
use Rattle.std.specs.Prelude.{◌≡◌, ℕ, ◌<◌, List, [], ◌∷◌, length}
use Rattle.disk_model.specs.Files.{Files, parity_of}
use Rattle.disk_model.specs.Folder.{FolderView}
use Rattle.disk_model.specs.Opener.{OpenerView}
use Rattle.disk_model.specs.Sink.{SinkView}
use Rattle.disk_model.specs.Tree.{Tree}
use Rattle.disk_model.specs.Vault.{VaultView}
use Rattle.file_table.specs.Table.{TableValue}
use Rattle.array_setup.specs.Setup.{SetupValue}
use Rattle.snap_sync.specs.Part.{IsFullSync}
use Rattle.snap_top.specs.Headline.{AreStoppedSyncs, EndsInFull, Syncs, SyncsClean}
use Rattle.snap_top.specs.RunOf.{RunOf}
use Rattle.snap_top.specs.Standing.{IsHistory, IsOrigin, Stage, Standing}
use Rattle.snap_top.specs.Sync.{BeginsFrom}

module _ {O F V W : Type 0} (opener_view : O → OpenerView) (folder_view : F → FolderView) (vault_view : V → VaultView) (sink_view : W → SinkView) where
  -- A sync of an array without content that was stopped at some moment or ended, and one with status 0 of what it left. The full sync of what there was before it writes
  -- parity. So the last one ends as that.
  pub record IsResumedWhole : Type 0 where
    pub first : Standing
    pub still : Standing
    pub again : Standing
    pub setup : SetupValue
    pub trees : List Tree
    pub seed : List ℕ
    pub stages : List (Stage O F V W)
    pub last : RunOf O F V W
    pub loaded : TableValue
    pub table : TableValue
    pub now : ℕ
    pub full : Files
    pub wrote : 0 < length (parity_of full 0)
    pub stop : Stage O F V W
    pub stages_are : stages ≡ stop ∷ []
    pub is_sync : Syncs opener_view folder_view vault_view sink_view setup trees seed first stop.change stop.next
    pub origin : IsOrigin first
    pub copies_are : first.copies ≡ length setup.contents
    pub history : IsHistory opener_view folder_view vault_view sink_view first stages still
    pub stopped : AreStoppedSyncs opener_view folder_view vault_view sink_view setup trees seed first stages
    pub resumed : SyncsClean opener_view folder_view vault_view sink_view setup trees seed still last again
    pub begins : BeginsFrom setup seed first.copies first.files loaded
    pub is_full : IsFullSync setup loaded trees now first.files table full
    pub ends : EndsInFull first.copies first.last.is_changed table full again.files
