-- What stands of a vault that a sync works with, and how its calls go.
use Rattle.std.proofs.Common.{◌≡◌, ℕ, ◌≤◌, List, ◌++◌, length, take, true, false, sym, ◌∙◌, ap, subst, append_assoc, length-append, arith}
use Rattle.std.proofs.lemmas.List.{take-append-le}
use Rattle.disk_model.specs.Files.{Files}
use Rattle.disk_model.specs.Ran.{log_of}
use Rattle.disk_model.specs.Vault.{VaultView, VaultCall, SomeCalls, ChangesBy, Reads, Holds, state_of}
use Rattle.content_file.specs.Save.{HasSaved}
use Rattle.content_file.specs.Spelling.{spelling}
use Rattle.parity_writer.specs.Parity.{HoldsRows}
use Rattle.snap_sync.specs.Calls.{SyncPlan, RanOpened, stripe_calls, ending_calls, reading_calls}
use Rattle.snap_sync.specs.Closing.{closed, rows_of}
use Rattle.snap_sync.specs.Images.{KeepsSynced, SpellsEither, MayStand, Opening, AtWork, HasParityAfter, table_after, rows_after}
use Rattle.stripe_findings.specs.Reading.{StripeReading}
use Rattle.snap_sync.specs.Work.{IsUnderway, VaultBroke}
use Rattle.snap_sync.proofs.OpeningLemmas.{kept_by_save}
use Rattle.snap_sync.proofs.CallsLemmas.{behind}
use Rattle.snap_sync.proofs.OpenedLemmas.{opened_as, opened_front}

-- What stands once all these stripes were read and written: the table closed by the first c of them is in every copy.
pub record Stands (plan : SyncPlan) (readings : List StripeReading) (c : ℕ) (old new : VaultView) : Type 0 where
  pub order : c ≤ length readings
  pub calls : SomeCalls old new
  pub changes : ChangesBy (MayStand plan readings) old new
  pub copies : Holds (HasSaved plan.copies (spelling (table_after plan readings c))) new
  pub rows : Holds (HoldsRows plan.start.shape.levels plan.start.shape.block_size (rows_after plan readings c)) new
  pub parity : Reads (HasParityAfter plan readings (length readings) old.files) new

-- the same, where the checkpoint behind them, if one stands there, is still due
pub record IsWritten (plan : SyncPlan) (readings : List StripeReading) (c : ℕ) (old new : VaultView) : Type 0 where
  pub stands : Stands plan readings c old new
  pub so_far : List VaultCall
  pub whole : so_far ++ behind plan readings (length readings) ≡ stripe_calls plan readings (length readings)
  pub ran : RanOpened plan so_far false (state_of old) (log_of (state_of new))

-- a call failed
pub record IsStopped (plan : SyncPlan) (readings : List StripeReading) (old new : VaultView) : Type 0 where
  pub calls : SomeCalls old new
  pub ran : RanOpened plan (reading_calls plan readings) true (state_of old) (log_of (state_of new))
  pub broke : VaultBroke old new
  pub changes : ChangesBy (MayStand plan readings) old new

-- all was done, and the last checkpoint too
pub record IsEnded (plan : SyncPlan) (readings : List StripeReading) (old new : VaultView) : Type 0 where
  pub calls : SomeCalls old new
  pub ran : RanOpened plan (reading_calls plan readings) false (state_of old) (log_of (state_of new))
  pub changes : ChangesBy (MayStand plan readings) old new
  pub saved : Holds (HasSaved plan.copies (spelling (closed plan.now plan.start readings))) new
  pub parity : Holds (HasParityAfter plan readings (length readings) old.files) new

pub stands_of : (plan : SyncPlan) (readings : List StripeReading) (c : ℕ) (old new : VaultView) → IsUnderway plan readings c (length readings) old new → Stands plan readings c old new
stands_of plan readings c old new under =
    record { order = under.order; calls = under.calls; changes = under.changes; copies = under.copies; rows = under.rows; parity = under.parity }

-- ---- the files

-- the synced stripes stay, whatever stands
pub kept_of_stand : (plan : SyncPlan) (readings : List StripeReading) (a b : Files) → MayStand plan readings a b → KeepsSynced plan.start a b
kept_of_stand plan readings a b (Opening may) = kept_by_save plan.start (spelling plan.start) a b may
kept_of_stand plan readings a b (AtWork c k work) = work.kept

-- more stripes were read
pub stand_longer : (plan : SyncPlan) (readings ws : List StripeReading) (a b : Files) → MayStand plan readings a b → MayStand plan (readings ++ ws) a b
stand_longer plan readings ws a b (Opening may) = Opening may
stand_longer plan readings ws a b (AtWork c k work) =
    let firsts : take c (readings ++ ws) ≡ take c readings = take-append-le c readings ws (omega (arith, work.order, work.within)) in
    let all : take k (readings ++ ws) ≡ take k readings = take-append-le k readings ws work.within in
    let either = λ (xs ys : List StripeReading). SpellsEither plan.copies (closed plan.now plan.start xs) (closed plan.now plan.start ys) b in
    AtWork c k (record {
      order = work.order;
      within = omega (arith, work.within, length-append readings ws);
      copies = subst (λ (xs : List StripeReading). either xs (take k (readings ++ ws))) (sym firsts) (subst (λ (ys : List StripeReading). either (take c readings) ys) (sym all) work.copies);
      rows = subst (λ (xs : List StripeReading). HoldsRows plan.start.shape.levels plan.start.shape.block_size (rows_of plan.start xs) b) (sym all) work.rows;
      kept = work.kept;
    })

-- a front of the calls of a sync failed
pub front_of_all : (plan : SyncPlan) (readings : List StripeReading) (so_far rest : List VaultCall) (old new : VaultView) → so_far ++ rest ≡ stripe_calls plan readings (length readings)
    → RanOpened plan so_far true (state_of old) (log_of (state_of new)) → RanOpened plan (reading_calls plan readings) true (state_of old) (log_of (state_of new))
front_of_all plan readings so_far rest old new whole up =
    let ending = ending_calls plan readings in
    opened_as plan (so_far ++ (rest ++ ending)) (reading_calls plan readings) true (state_of old) (log_of (state_of new))
    (sym (append_assoc so_far rest ending) ∙ ap (λ cs. cs ++ ending) whole)
    (opened_front plan so_far (rest ++ ending) (state_of old) (log_of (state_of new)) up)
