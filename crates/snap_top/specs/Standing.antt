-- What stands between the runs over an array, what may happen to it, and what stands then: a history.
use Rattle.std.specs.Prelude.{◌≡◌, ℕ, ◌<◌, List, [], ◌∷◌, length, Bool, false, true}
use Rattle.disk_model.specs.Files.{Files}
use Rattle.disk_model.specs.Folder.{FolderView}
use Rattle.disk_model.specs.Opener.{OpenerView, folder_held}
use Rattle.disk_model.specs.Sink.{SinkView}
use Rattle.disk_model.specs.Tree.{IsTree, Tree}
use Rattle.disk_model.specs.Vault.{IsSettled, VaultView, copies_of}
use Rattle.snap_sync.specs.Part.{tree_at, trees_of}
use Rattle.snap_top.specs.LastSynced.{IsChange, LastSynced, synced_by}
use Rattle.snap_top.specs.Stands.{StandsIn, TellsAll}
use Rattle.snap_top.specs.RunOf.{end_of, entry_of, RunOf}
use Rattle.snap_top.specs.Entry.{Entry, Exit}
use Rattle.snap_top.specs.Step.{RunStep}
use Rattle.snap_top.specs.Stopping.{FolderStandsIn}
use Rattle.snap_top.specs.Sync.{HoldsNoContent}
use Rattle.snap_top.specs.Effect.{effect}

-- ---- what stands

-- the bytes of the configuration, the trees of the folders, how many copies there are, the files of the vault, and what was last synced
pub record Standing : Type 0 where
  pub config : List ℕ
  pub trees : List Tree
  pub copies : ℕ
  pub files : Files
  pub last : LastSynced

abbrev pub nothing_synced : LastSynced
nothing_synced = record { snapshot = λ stripe. []; is_changed = λ stripe level. false }

-- before the first run no copy is a content file, and nothing was synced
pub record IsOrigin (standing : Standing) : Type 0 where
  pub none : (copy : ℕ) → copy < standing.copies → HoldsNoContent standing.files copy
  pub nothing : standing.last ≡ nothing_synced

-- ---- what may happen

-- A run, which ends or is stopped; the owner changes files; files of the vault are changed from outside; or there is another configuration.
pub data Change (O F V W : Type 0) : Type 0 where
  Runs : RunOf O F V W → Change O F V W
  Edits : Change O F V W
  Damages : Change O F V W
  Configures : Change O F V W

-- this, and what stands then
pub record Stage (O F V W : Type 0) : Type 0 where
  pub change : Change O F V W
  pub next : Standing

-- ---- a run

-- It begins over what stands. Its opener tells all that it holds, each folder holds a tree, and its vault was opened anew.
pub record BeginsOver (standing : Standing) (before : Entry) : Type 0 where
  pub tells : TellsAll before
  pub settled : IsSettled before.opener.vault
  pub config : before.opener.config ≡ standing.config
  pub are_trees : (d : ℕ) → d < length before.opener.folders → IsTree (folder_held before.opener d).tree
  pub trees : trees_of before.opener.folders ≡ standing.trees
  pub copies : copies_of before.opener.vault ≡ standing.copies
  pub files : before.opener.vault.files ≡ standing.files

-- The trees after it stay, as they do at each moment of it over folders that tell their calls (`TreesStay`). Only where it writes files of folders,
-- each is one that its calls of that folder leave, or a stop within them.
abbrev pub LeavesTrees : (writes_files : Bool) → Entry → Exit → List Tree → List Tree → Type 0
LeavesTrees true before exit old new = (length new ≡ length old) × ((d : ℕ) → d < length old → FolderStandsIn before exit d (tree_at new d))
LeavesTrees false before exit old new = new ≡ old

-- ---- a history

-- Files of the vault were changed from outside. The snapshot stays, and what is changed counts as that.
pub record IsChanged (standing next : Standing) : Type 0 where
  pub snapshot : next.last.snapshot ≡ standing.last.snapshot
  pub change : IsChange standing.copies next.copies standing.last.is_changed next.last.is_changed standing.files next.files

module _ {O F V W : Type 0} (opener_view : O → OpenerView) (folder_view : F → FolderView) (vault_view : V → VaultView) (sink_view : W → SinkView) where
  abbrev pub before_of : RunOf O F V W → Entry
  before_of run = entry_of opener_view sink_view run

  abbrev pub after_of : RunOf O F V W → Exit
  after_of run = end_of opener_view folder_view vault_view sink_view run

  -- A run over what stands, as `run` says in its clause `step`; it met no hash by chance. What stands next is what its end leaves, or a stop at some moment
  -- of it. The rows that parity has by then are those that were last synced.
  pub record GoesOver (run : RunOf O F V W) (standing next : Standing) : Type 0 where
    pub over : BeginsOver standing (before_of run)
    pub step : RunStep (before_of run) (after_of run) run.status
    pub genuine : (effect step.always.did).meets_no_chance standing.last.snapshot
    pub array : next ≡ record standing { trees = next.trees; files = next.files; last = next.last }
    pub files : StandsIn (before_of run) (after_of run) next.files
    pub trees : LeavesTrees (effect step.always.did).writes_files (before_of run) (after_of run) standing.trees next.trees
    pub count : ℕ
    pub closed : (effect step.always.did).has_closed count standing.files next.files
    pub last : next.last ≡ synced_by step.always.did count standing.last

  -- by what happens
  abbrev pub Follows : Change O F V W → Standing → Standing → Type 0
  Follows (Runs run) standing next = GoesOver run standing next
  Follows Edits standing next = next ≡ record standing { trees = next.trees }
  Follows Damages standing next = (next ≡ record standing { files = next.files; last = next.last }) × IsChanged standing next
  Follows Configures standing next = IsChanged standing next

  -- from what stands first to what stands at last, one stage after another
  abbrev pub IsHistory : Standing → List (Stage O F V W) → Standing → Type 0
  IsHistory first [] standing = standing ≡ first
  IsHistory first (stage ∷ stages) standing = Follows stage.change first stage.next × IsHistory stage.next stages standing
