-- A run over an array in memory, with all that it says of itself but its line and its reports.
use Rattle.std.specs.Prelude.{◌≡◌, ◌≢◌, ℕ, List, [], true}
use Rattle.std.specs.FinMap as finite_map
use Rattle.disk_model.specs.Folder.{FolderView}
use Rattle.disk_model.specs.Opener.{OpenerView}
use Rattle.disk_model.specs.Sink.{SinkView}
use Rattle.disk_model.specs.Vault.{VaultView}
use Rattle.snap_sync.specs.Part.{tree_at, trees_of}
use Rattle.snap_top.specs.Complete.{RefusalsTouchNothing, SmoothRunsAreDone}
use Rattle.snap_top.specs.Moment.{EveryMomentIsSound}
use Rattle.snap_top.specs.AsAsked.{ChecksEnd, FixesEnd, ScrubsEnd, SyncsEndInPart}
use Rattle.snap_top.specs.Run.{IsAccounted}
use Rattle.snap_top.specs.Entry.{Entry, Exit}
use Rattle.snap_top.specs.Standing.{after_of, before_of}
use Rattle.snap_top_histories.specs.Lived.{RunsOver}

-- the first disk holds some file
abbrev pub HoldsFile : List FolderView → Type 0
HoldsFile folders = tree_at (trees_of folders) 0 ≢ finite_map.empty

-- What a run says of itself besides its step, its account, when it is done, and its line and reports.
pub record KeepsClauses (before : Entry) (exit : Exit) (status : ℕ) : Type 0 where
  pub refused : RefusalsTouchNothing before exit status
  pub sound : EveryMomentIsSound before exit status
  pub synced : SyncsEndInPart before exit status
  pub checked : ChecksEnd before exit status
  pub fixed : FixesEnd before exit status
  pub scrubbed : ScrubsEnd before exit status

module _ {O F V W : Type 0} (opener_view : O → OpenerView) (folder_view : F → FolderView) (vault_view : V → VaultView) (sink_view : W → SinkView) where
  -- A run of these words, with what it says of itself, and the opener and the output as it left them. Its opener held these folders, and nothing
  -- was printed before.
  pub record RunsWhole (config : List ℕ) (texts : List (List ℕ)) (seed : List ℕ) (folders : List FolderView) (vault : VaultView)
      (status : ℕ) (left_folders : List F) (left_vault : V) (opener_new : O) (out_new : W) : Type 0 where
    pub over : RunsOver opener_view folder_view vault_view sink_view config texts seed folders vault status left_folders left_vault
    pub held : (before_of opener_view folder_view vault_view sink_view over.run).opener.folders ≡ folders
    pub moment_is : over.run.moment ≡ 100
    pub account : IsAccounted (before_of opener_view folder_view vault_view sink_view over.run)
        (after_of opener_view folder_view vault_view sink_view over.run) over.run.status
    pub complete : SmoothRunsAreDone (before_of opener_view folder_view vault_view sink_view over.run)
        (after_of opener_view folder_view vault_view sink_view over.run) over.run.status
    pub clauses : KeepsClauses (before_of opener_view folder_view vault_view sink_view over.run)
        (after_of opener_view folder_view vault_view sink_view over.run) over.run.status
    pub out_begins : (before_of opener_view folder_view vault_view sink_view over.run).out.written ≡ []
    pub out_tells : (before_of opener_view folder_view vault_view sink_view over.run).out.tells ≡ true
    pub opener_is : over.run.opener_new ≡ opener_new
    pub out_is : over.run.out_new ≡ out_new

  -- A run of these words, with what it says of itself. Its opener held these folders. No call of the opener or of
  -- the output failed, and this was printed.
  pub record RunsTold (config : List ℕ) (texts : List (List ℕ)) (seed : List ℕ) (folders : List FolderView) (vault : VaultView)
      (status : ℕ) (left_folders : List F) (left_vault : V) (printed : List ℕ) : Type 0 where
    pub over : RunsOver opener_view folder_view vault_view sink_view config texts seed folders vault status left_folders left_vault
    pub held : (before_of opener_view folder_view vault_view sink_view over.run).opener.folders ≡ folders
    pub moment_is : over.run.moment ≡ 100
    pub account : IsAccounted (before_of opener_view folder_view vault_view sink_view over.run)
        (after_of opener_view folder_view vault_view sink_view over.run) over.run.status
    pub complete : SmoothRunsAreDone (before_of opener_view folder_view vault_view sink_view over.run)
        (after_of opener_view folder_view vault_view sink_view over.run) over.run.status
    pub clauses : KeepsClauses (before_of opener_view folder_view vault_view sink_view over.run)
        (after_of opener_view folder_view vault_view sink_view over.run) over.run.status
    pub opener_faults : (after_of opener_view folder_view vault_view sink_view over.run).opener.faults ≡ 0
    pub out_begins : (before_of opener_view folder_view vault_view sink_view over.run).out.written ≡ []
    pub out_tells : (before_of opener_view folder_view vault_view sink_view over.run).out.tells ≡ true
    pub out_faults : (after_of opener_view folder_view vault_view sink_view over.run).after.out.faults ≡ 0
    pub printed_is : (after_of opener_view folder_view vault_view sink_view over.run).after.out.written ≡ printed
