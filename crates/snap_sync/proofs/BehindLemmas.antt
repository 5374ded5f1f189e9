-- The checkpoint behind a window, where one is due.
use Rattle.std.proofs.Common.{◌≡◌, ℕ, List, length, Bool, true, false, IsTrue, Ok, Err, sym, ap₂, ◌∙◌, subst}
use Rattle.content_file.specs.Save.{piece_size}
use Rattle.disk_model.specs.declared.fault.Failed.{Failed}
use Rattle.disk_model.specs.Vault.{VaultView, IsWellFormed, SomeCalls}
use Rattle.file_table.specs.Table.{TableValue}
use Rattle.snap_sync.specs.Calls.{SyncPlan, saves_after}
use Rattle.snap_sync.specs.Closing.{closed}
use Rattle.snap_sync.specs.Course.{Outside}
use Rattle.stripe_findings.specs.Reading.{StripeReading}
use Rattle.snap_sync.specs.Run.{Saves, saves_behind}
use Rattle.snap_sync.specs.Work.{IsUnderway}
use Rattle.snap_sync.proofs.StandLemmas.{IsStopped, IsWritten}
use Rattle.snap_sync.proofs.UnderwayLemmas.{IsSaved, SavesNot, underway_unsaved, underway_saved, underway_stopped_saving}
use Rattle.snap_sync.proofs.RunLemmas.{IsSetting}

pub saved_is : (table : TableValue) (old new : VaultView) → Saves {T = Unit {0}} table (Ok tt) old new → IsSaved piece_size table old new
saved_is table old new saves = record { calls = saves.calls; ran = saves.ran; changes = saves.changes; settled = saves.settled; saved = saves.saved }

pub saves_not : (table : TableValue) (fault : Failed) (old new : VaultView) → Saves {T = Unit {0}} table (Err fault) old new → SavesNot piece_size table old new
saves_not table fault old new saves = record { calls = saves.calls; ran = saves.ran; changes = saves.changes; broke = saves.broke }

module _ {plan : SyncPlan} {readings : List StripeReading} {c all done : ℕ} {table : TableValue} {W R : Type 0} {old : Outside W R} {mid new : VaultView} (setting : IsSetting plan old) (all_is : all ≡ plan.all) (done_is : done ≡ length readings)
    (table_is : table ≡ closed plan.now plan.start readings) (formed : IsWellFormed new) (written : IsWritten plan readings c old.vault mid) where
  behind_is : saves_behind plan.every all done ≡ saves_after plan (length readings)
  behind_is = ap₂ (λ (a n : ℕ). saves_behind plan.every a n) all_is done_is

  pub underway_behind : (b : Bool) → saves_behind plan.every all done ≡ b → (IsTrue (saves_behind plan.every all done) → Saves {T = Unit {0}} table (Ok tt) mid new) → (saves_behind plan.every all done ≡ false → new ≡ mid)
      → (c : ℕ) × IsUnderway plan readings c (length readings) old.vault new
  underway_behind true is saves rests =
      (length readings, underway_saved plan readings c piece_size setting.piece_is table table_is old.vault mid new setting.for formed (sym behind_is ∙ is) written (saved_is table mid new (saves is)))
  underway_behind false is saves rests =
      (c, subst (λ (vault : VaultView). IsUnderway plan readings c (length readings) old.vault vault) (sym (rests is)) (underway_unsaved plan readings c old.vault mid (sym behind_is ∙ is) written))

  pub stopped_behind : (b : Bool) (fault : Failed) → saves_behind plan.every all done ≡ b → (IsTrue (saves_behind plan.every all done) → Saves {T = Unit {0}} table (Err fault) mid new) → (saves_behind plan.every all done ≡ false → IsTrue false)
      → IsStopped plan readings old.vault new
  stopped_behind true fault is saves rests = underway_stopped_saving plan readings c piece_size setting.piece_is table table_is old.vault mid new setting.for formed (sym behind_is ∙ is) written (saves_not table fault mid new (saves is))
  stopped_behind false fault is saves rests = absurd (let clash : false ≡ true = rests is in cc)

  -- it was begun
  pub calls_behind : (b : Bool) (fault : Failed) → saves_behind plan.every all done ≡ b → (IsTrue (saves_behind plan.every all done) → Saves {T = Unit {0}} table (Err fault) mid new) → (saves_behind plan.every all done ≡ false → IsTrue false)
      → SomeCalls mid new
  calls_behind true fault is saves rests = (saves is).calls
  calls_behind false fault is saves rests = absurd (let clash : false ≡ true = rests is in cc)
