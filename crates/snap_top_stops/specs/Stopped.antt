-- A fix that may be stopped before any call of its folders was done, and that went to its end: an instance of what the headline says of both.
use Rattle.std.specs.Prelude.{◌≡◌, ◌≢◌, ℕ, ◌<◌, List, [], length, Bool, true, false, None, Some, Contains}
use Rattle.std.specs.List.{list_all}
use Rattle.disk_model.specs.Folder.{FolderView}
use Rattle.disk_model.specs.Opener.{OpenerView}
use Rattle.disk_model.specs.Sink.{SinkView}
use Rattle.disk_model.specs.Tree.{File, file_of}
use Rattle.disk_model.specs.Vault.{VaultView, copies_of}
use Rattle.file_restorer.specs.Mending.{cell_path}
use Rattle.file_restorer.specs.State.{record_path}
use Rattle.file_table.specs.Cells.{cell_in}
use Rattle.file_table.specs.Table.{TableValue, column_at, records_in}
use Rattle.file_table.specs.declared.block.Cell.{Cell}
use Rattle.array_setup.specs.declared.ways.Selection.{Selection}
use Rattle.snap_fix.specs.Fixing.{facts_of}
use Rattle.snap_fix.specs.Stopped.{StandsInCell, file_placed}
use Rattle.snap_sync.specs.Part.{tree_at, trees_of}
use Rattle.stripe_examiner.specs.Facts.{StripeFacts}
use Rattle.repair_scope.specs.Plan.{cell_at}
use Rattle.snap_top.specs.Fix.{FixRun}
use Rattle.snap_top.specs.RunOf.{RunOf}
use Rattle.snap_top.specs.Spared.{IsLeftAlone, SparesRest}
use Rattle.snap_top.specs.Standing.{GoesOver, IsHistory, IsOrigin, Stage, Standing, after_of}
use Rattle.snap_top.specs.Stopping.{stop_of}
use Rattle.snap_top.specs.Sync.{IsFirstContent}
use Rattle.snap_top.specs.Did.{fixes}

-- all missing files, and nothing else
abbrev pub missing_alone : Selection
missing_alone = record { disks = []; patterns = []; missing = true; errors = false }

-- each of these folders tells its calls
abbrev pub all_tell_calls : {F : Type 0} → (F → FolderView) → List F → Bool
all_tell_calls folder_view folders = list_all (λ folder. (folder_view folder).tells_calls) folders

-- a disk holds a file of this name, or it holds none
abbrev pub HoldsAt : List FolderView → ℕ → List ℕ → Type 0
HoldsAt folders d name = file_of (tree_at (trees_of folders) d) name ≢ None

abbrev pub LacksAt : List FolderView → ℕ → List ℕ → Type 0
LacksAt folders d name = file_of (tree_at (trees_of folders) d) name ≡ None

-- At a stripe a column of a table has a cell, of the file of this path.
pub record IsCellAt (table : TableValue) (stripe d : ℕ) (path : List ℕ) : Type 0 where
  pub inside : stripe < length table.infos
  pub column : d < length table.columns
  pub cell : Cell
  pub cell_is : cell_in (column_at table.columns d) stripe ≡ Some cell
  pub within : cell.rec < length (records_in table d)
  pub path_is : record_path (records_in table d) cell.rec ≡ path

-- The first copy that is a content file has such a cell, and another one of the first column at that stripe.
pub record HasStripe (vault : VaultView) (stripe d : ℕ) (path name : List ℕ) : Type 0 where
  pub table : TableValue
  pub content : IsFirstContent (copies_of vault) vault.files table
  pub kept : IsCellAt table stripe d path
  pub lost : IsCellAt table stripe 0 name

-- A fix leaves a cell alone in a stripe that it looked at. A file stood in the place of its record, and next one stands there with those bytes
-- of that cell that the first one had.
pub record SparesOne (fix : FixRun) (standing next : Standing) : Type 0 where
  pub disk : ℕ
  pub facts : StripeFacts
  pub cell : Cell
  pub file : File
  pub below : disk < length standing.trees
  pub looked_at : Contains (facts_of fix.stripes) facts
  pub cell_is : cell_at fix.plan facts.stripe disk ≡ Some cell
  pub alone : IsLeftAlone fix disk cell
  pub there : file_placed (tree_at standing.trees disk) (cell_path fix.plan.table disk cell) ≡ Some file
  pub kept : StandsInCell (stop_of fix disk (tree_at standing.trees disk) (tree_at next.trees disk)) cell file

module _ {O F V W : Type 0} (opener_view : O → OpenerView) (folder_view : F → FolderView) (vault_view : V → VaultView) (sink_view : W → SinkView) where
  -- A run over what stands is stopped before any call of its folders was done: what stands next has the trees that stood. It is a fix, and the stop
  -- spares what it leaves alone.
  pub record IsSparedStop (run : RunOf O F V W) (standing : Standing) : Type 0 where
    pub next : Standing
    pub failed : Bool
    pub fix : FixRun
    pub goes : GoesOver opener_view folder_view vault_view sink_view run standing next
    pub did_is : goes.step.always.did ≡ fixes failed fix
    pub stopped : next.trees ≡ standing.trees
    pub spares : SparesRest fix standing.trees next.trees standing.files next.files

  -- A fix of what stood after a history left the first disk other files than it had. It may be stopped before any of its calls of the folders was
  -- done. There, and where the trees are those at its end, it leaves a cell alone of which a file stands.
  pub record IsSparedAtStop : Type 0 where
    pub first : Standing
    pub standing : Standing
    pub stages : List (Stage O F V W)
    pub run : RunOf O F V W
    pub origin : IsOrigin first
    pub history : IsHistory opener_view folder_view vault_view sink_view first stages standing
    pub wrote : tree_at (trees_of (after_of opener_view folder_view vault_view sink_view run).after.folders) 0 ≢ tree_at standing.trees 0
    pub stops : IsSparedStop run standing
    pub one : SparesOne stops.fix standing stops.next
    pub end : Standing
    pub fix : FixRun
    pub goes : GoesOver opener_view folder_view vault_view sink_view run standing end
    pub did_is : goes.step.always.did ≡ fixes false fix
    pub at_end : end.trees ≡ trees_of (after_of opener_view folder_view vault_view sink_view run).after.folders
    pub one_at_end : SparesOne fix standing end
