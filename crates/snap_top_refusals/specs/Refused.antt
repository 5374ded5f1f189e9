-- Runs that are refused: over content with a record, over copies that are damaged, and before anything is opened.
use Rattle.std.specs.Prelude.{◌≡◌, ◌⊎◌, ℕ, ◌<◌, List, Some, length, true, false}
use Rattle.content_file.specs.Load.{IsDamaged}
use Rattle.content_file.specs.Spelling.{IsContent}
use Rattle.disk_model.specs.Files.{Stays, content_of}
use Rattle.disk_model.specs.Folder.{FolderView}
use Rattle.disk_model.specs.Opener.{HoldsSame, OpenerView}
use Rattle.disk_model.specs.Sink.{SinkView}
use Rattle.disk_model.specs.Vault.{ChangesBy, VaultView, copies_of}
use Rattle.file_table.specs.Table.{TableValue, records_in}
use Rattle.snap_top.specs.BrokeOff.{EndedEarly}
use Rattle.snap_top.specs.Complete.{TouchesNothing}
use Rattle.snap_top.specs.Headline.{HoldsWhatStands}
use Rattle.snap_top.specs.RunOf.{RunOf}
use Rattle.snap_top.specs.Standing.{BeginsOver, GoesOver, IsHistory, IsOrigin, Stage, Standing, after_of, before_of}
use Rattle.snap_top.specs.Step.{RunStep}
use Rattle.snap_top.specs.Sync.{HoldsNoContent, IsFirstContent}
use Rattle.snap_top.specs.Did.{reads_only}
use Rattle.snap_top_instances.specs.Told.{HoldsFile}

-- some copy of a vault is damaged, and none is a content file
pub record HasDamage (vault : VaultView) : Type 0 where
  pub copy : ℕ
  pub within : copy < copies_of vault
  pub damaged : IsDamaged vault copy
  pub none : (k : ℕ) → k < copies_of vault → HoldsNoContent vault.files k

module _ {O F V W : Type 0} (opener_view : O → OpenerView) (folder_view : F → FolderView) (vault_view : V → VaultView) (sink_view : W → SinkView) where
  -- A run over what stands after a history was refused with this status, once its array was opened. So it printed nothing and only read, a stop leaves
  -- what there was, and what stands stays.
  pub record IsRefusedOver (standing : Standing) (status : ℕ) : Type 0 where
    pub first : Standing
    pub next : Standing
    pub stages : List (Stage O F V W)
    pub run : RunOf O F V W
    pub origin : IsOrigin first
    pub history : IsHistory opener_view folder_view vault_view sink_view first stages standing
    pub goes : GoesOver opener_view folder_view vault_view sink_view run standing next
    pub refused : (run.status ≡ 2) ⊎ (run.status ≡ 5)
    pub opened : (after_of opener_view folder_view vault_view sink_view run).has_vault ≡ true
    pub untouched : TouchesNothing (before_of opener_view folder_view vault_view sink_view run) (after_of opener_view folder_view vault_view sink_view run)
    pub changes : ChangesBy Stays (before_of opener_view folder_view vault_view sink_view run).opener.vault
        (after_of opener_view folder_view vault_view sink_view run).after.vault
    pub read_only : goes.step.always.did ≡ reads_only
    pub early : EndedEarly (before_of opener_view folder_view vault_view sink_view run) (after_of opener_view folder_view vault_view sink_view run)
    pub out : (after_of opener_view folder_view vault_view sink_view run).after.out ≡ (before_of opener_view folder_view vault_view sink_view run).out
    pub stays : next ≡ standing
    pub status_is : run.status ≡ status

  -- so it was over content with a record of the first disk
  pub record IsRefusedOverContent (status : ℕ) : Type 0 where
    pub standing : Standing
    pub table : TableValue
    pub over : IsRefusedOver standing status
    pub content : IsFirstContent standing.copies standing.files table
    pub has_record : 0 < length (records_in table 0)

  -- and over copies of which one is damaged, and none is a content file
  pub record IsRefusedOverDamage (status : ℕ) : Type 0 where
    pub standing : Standing
    pub over : IsRefusedOver standing status
    pub copy : ℕ
    pub bytes : List ℕ
    pub within : copy < standing.copies
    pub held : content_of standing.files copy ≡ Some bytes
    pub damaged : ¬ (IsContent bytes)
    pub none : (k : ℕ) → k < standing.copies → HoldsNoContent standing.files k

  -- A run over an array without content was refused with this status before anything was opened. So it printed nothing, and its opener holds what
  -- stood: a disk with a file.
  pub record IsRefusedUnopened (status : ℕ) : Type 0 where
    pub standing : Standing
    pub run : RunOf O F V W
    pub origin : IsOrigin standing
    pub begins : BeginsOver standing (before_of opener_view folder_view vault_view sink_view run)
    pub step : RunStep (before_of opener_view folder_view vault_view sink_view run) (after_of opener_view folder_view vault_view sink_view run) run.status
    pub refused : (run.status ≡ 2) ⊎ (run.status ≡ 5)
    pub some : HoldsFile (before_of opener_view folder_view vault_view sink_view run).opener.folders
    pub unopened : (after_of opener_view folder_view vault_view sink_view run).has_vault ≡ false
    pub untouched : TouchesNothing (before_of opener_view folder_view vault_view sink_view run) (after_of opener_view folder_view vault_view sink_view run)
    pub holds : HoldsSame (before_of opener_view folder_view vault_view sink_view run).opener (after_of opener_view folder_view vault_view sink_view run).opener
    pub stands : HoldsWhatStands standing (after_of opener_view folder_view vault_view sink_view run).opener
    pub early : EndedEarly (before_of opener_view folder_view vault_view sink_view run) (after_of opener_view folder_view vault_view sink_view run)
    pub out : (after_of opener_view folder_view vault_view sink_view run).after.out ≡ (before_of opener_view folder_view vault_view sink_view run).out
    pub status_is : run.status ≡ status
