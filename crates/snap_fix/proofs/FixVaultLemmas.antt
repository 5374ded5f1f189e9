-- What a fix did to the vault, once the levels that it wrote are synced.
use Rattle.std.proofs.Common.{◌≡◌, ◌⊎◌, inl, inr, ℕ, zero, suc, ◌+◌, ◌<◌, ◌≤◌, List, ◌++◌, length, All, get_or, Bool, true, false, IsTrue, refl, sym, ap, ap₂, ◌∙◌, subst, arith, append_assoc}
use Rattle.std.specs.List.{flat_map, range_with_len}
use Rattle.disk_model.specs.Cause.{RoseBy}
use Rattle.disk_model.specs.Files.{Files, Stays, parity_of}
use Rattle.disk_model.specs.Vault.{VaultView, VaultCall, VaultDone, GoesOn, SomeCalls, ChangesBy, DraftsStay, IsWellFormed}
use Rattle.disk_model.proofs.VaultLemmas.{calls_then, then_stays}
use Rattle.disk_model.proofs.CountLemmas.{writes_then}
use Rattle.parity_writer.specs.LevelReading.{LevelReading}
use Rattle.snap_fix.specs.Ending.{IsLevelSettled, SyncsWritten, sync_call, sync_if, written_syncs}
use Rattle.stripe_examiner.specs.Facts.{StripeFacts}
use Rattle.snap_fix.specs.FixCourse.{FixesVault, fix_calls, mend_syncs}
use Rattle.snap_fix.specs.FixRun.{HoldAllWrong}
use Rattle.snap_fix.specs.Fixing.{MendsVault, Writes, facts_of, was_written}
use Rattle.stripe_examiner.specs.Looking.{unread_in}
use Rattle.snap_fix.specs.Mended.{Mended}
use Rattle.repair_scope.specs.Plan.{FixPlan}
use Rattle.snap_fix.specs.Underway.{AddsZeros, HoldsWrong, IsMendedLevel, KeepsLevels, done_well}
use Rattle.snap_fix.specs.Windows.{AreWindows, FixWindow, mend_calls}

-- ---- what stays of what was done

-- a sync of levels leaves what was done to the vault
pub mends_synced : (plan : FixPlan) (stripes : List StripeFacts) (old mid new : VaultView) → MendsVault plan stripes old mid
    → SomeCalls mid new → DraftsStay mid new → ChangesBy Stays mid new → MendsVault plan stripes old new
mends_synced plan stripes old mid new mends calls drafts stays =
    let tells : mid.tells ≡ old.tells = mends.calls.goes_on.tells in
    record {
      calls = calls_then old mid new mends.calls calls;
      drafts = record { state = drafts.state ∙ mends.drafts.state; bytes = λ told. drafts.bytes (tells ∙ told) ∙ mends.drafts.bytes told };
      changes = then_stays (KeepsLevels plan.table.shape.block_size (IsMendedLevel plan stripes)) old mid new tells mends.changes stays;
    }

pub holds_synced : (plan : FixPlan) (stripes : List StripeFacts) (mid new : VaultView) → SomeCalls mid new → ChangesBy Stays mid new → HoldAllWrong plan stripes mid → HoldAllWrong plan stripes new
holds_synced plan stripes mid new calls stays holds told =
    let before : IsTrue mid.tells = subst IsTrue calls.goes_on.tells told in
    subst (λ (files : Files). All (λ (facts : StripeFacts). HoldsWrong plan facts files) stripes) (sym (stays.reads before)) (holds before)

-- a stop leaves of a level what a read gives
settled_now : (level : ℕ) (mid new : VaultView) → IsWellFormed new → SomeCalls mid new → ChangesBy Stays mid new → IsLevelSettled level mid new → IsLevelSettled level new new
settled_now level mid new formed calls stays settled = record {
  reads = λ told. refl;
  leaves = λ images files may.
      let told : IsTrue mid.tells = subst IsTrue calls.goes_on.tells (formed.tells images) in
      settled.leaves images files may ∙ ap (λ (fs : Files). parity_of fs level) (sym (stays.reads told));
}

-- a count that rose goes on
pub rose_on : (n before mid now : ℕ) → RoseBy n before mid → mid ≤ now → RoseBy n before now
rose_on n before mid now rose later = omega (arith, rose, later)

-- ---- which levels are synced

-- two lists, joined over so many numbers, are the same where those of each number are
same_over : {A : Type 0} (f g : ℕ → List A) (from n : ℕ) → ((k : ℕ) → k < from + n → f k ≡ g k) → flat_map f (range_with_len from n) ≡ flat_map g (range_with_len from n)
same_over f g from zero same = refl
same_over f g from (suc n) same = ap₂ (λ xs ys. xs ++ ys) (same from (omega arith)) (same_over f g (from + 1) n (λ k below. same k (omega (arith, below))))

-- where none was written at first, those of the stripes were
same_flag : (now was : Bool) → (now ≡ true → was ≡ true) → (was ≡ true → now ≡ true) → now ≡ was
same_flag true was only all = sym (only refl)
same_flag false true only all = all refl
same_flag false false only all = refl

pub flag_is : (plan : FixPlan) (stripes : List Mended) (before after : List Bool) → Writes plan stripes before after → (r : ℕ) → r < length before → get_or before r false ≡ false
    → get_or after r false ≡ was_written plan stripes r
flag_is plan stripes before after writes r within none =
    same_flag (get_or after r false) (was_written plan stripes r) (λ is. by ((writes.1 r within).0 is)) (λ was. (writes.1 r within).1 (inr was))
  where
    by : (get_or before r false ≡ true) ⊎ (was_written plan stripes r ≡ true) → was_written plan stripes r ≡ true
    by (inl is) = let clash : false ≡ true = sym none ∙ is in absurd cc
    by (inr was) = was

pub syncs_are : (plan : FixPlan) (stripes : List Mended) (levels : List Bool) → length levels ≡ plan.table.shape.levels
    → ((r : ℕ) → r < plan.table.shape.levels → get_or levels r false ≡ was_written plan stripes r) → written_syncs levels ≡ mend_syncs plan stripes
syncs_are plan stripes levels long flags =
    ap (λ (n : ℕ). flat_map (sync_call levels) (range_with_len 0 n)) long
    ∙ same_over (sync_call levels) (λ (r : ℕ). sync_if (was_written plan stripes r) r) 0 plan.table.shape.levels
    (λ r below. ap (λ (written : Bool). sync_if written r) (flags r (omega (arith, below))))

-- and these after others
calls_on : (old mid new : VaultView) (one two : List VaultDone) → GoesOn old mid one → GoesOn mid new two → GoesOn old new (one ++ two)
calls_on old mid new one two a b = record {
  later = omega (arith, a.later, b.later);
  writes = writes_then one two old.writes mid.writes new.writes a.writes b.writes;
  levels = b.levels ∙ a.levels;
  copies = b.copies ∙ a.copies;
  tells = b.tells ∙ a.tells;
  calls = record {
    told = λ t. a.calls.told (b.calls.told t);
    more = λ t. b.calls.more t ∙ ap (λ (calls : List VaultDone). calls ++ two) (a.calls.more (b.calls.told t)) ∙ append_assoc old.calls one two;
  };
}

-- ---- all of it

module _ (plan : FixPlan) (stripes : List Mended) (readings : List (List LevelReading)) (windows : List FixWindow) (windows_are : AreWindows plan windows (facts_of stripes) readings)
    (old mid new : VaultView) (levels : List Bool)
    (long : length levels ≡ plan.table.shape.levels) (flags : (r : ℕ) → r < plan.table.shape.levels → get_or levels r false ≡ was_written plan stripes r)
    (synced : SyncsWritten levels mid new) where
  abbrev facts : List StripeFacts
  facts = facts_of stripes

  -- all calls were made
  pub fixes_ran : GoesOn old mid (mend_calls plan windows) → GoesOn old new (fix_calls plan stripes windows)
  fixes_ran ran = subst (λ (calls : List VaultCall). GoesOn old new (mend_calls plan windows ++ done_well calls)) (syncs_are plan stripes levels long flags)
      (calls_on old mid new (mend_calls plan windows) (done_well (written_syncs levels)) ran synced.syncs.ran)

  -- The levels that were written anew are synced.
  pub fixes_vault : IsWellFormed new → GoesOn old mid (mend_calls plan windows) → RoseBy (unread_in readings) old.faults mid.faults → MendsVault plan facts old mid
      → (IsTrue old.tells → AddsZeros plan.table.shape.block_size (IsMendedLevel plan facts) old.files mid.files) → HoldAllWrong plan facts mid
      → FixesVault plan stripes readings old new
  fixes_vault formed ran unread mends zeros holds = record {
    windows = windows;
    windows_are = windows_are;
    ran = fixes_ran ran;
    unread = rose_on (unread_in readings) old.faults mid.faults new.faults unread synced.syncs.some.goes_on.later;
    mends = mends_synced plan facts old mid new mends synced.syncs.some synced.syncs.drafts synced.syncs.changes;
    zeros = λ told. subst (AddsZeros plan.table.shape.block_size (IsMendedLevel plan facts) old.files) (sym (synced.syncs.changes.reads (mends.calls.goes_on.tells ∙ told))) (zeros told);
    holds = holds_synced plan facts mid new synced.syncs.some synced.syncs.changes holds;
    synced = λ level below was.
        settled_now level mid new formed synced.syncs.some synced.syncs.changes (synced.settled level (omega (arith, below, long)) (flags level below ∙ was));
  }
