-- How far the vault is: once it is opened, after a window was written, after a checkpoint, at the end, and where a call failed.
use Rattle.std.proofs.Common.{◌≡◌, ℕ, ◌+◌, ◌<◌, List, [], ◌++◌, length, map, take, Bool, true, false, if◌then◌else◌, sym, ◌∙◌, ap, ap₂, subst, arith}
use Rattle.std.proofs.lemmas.Bool.{eq-eqb}
use Rattle.std.proofs.lemmas.List.{append-nil}
use Rattle.std.proofs.Math.Seq.{take-length}
use Rattle.array_scan.specs.Layout.{pending_stripes}
use Rattle.disk_model.specs.Ran.{RanAll, RanUpTo, log_of}
use Rattle.disk_model.specs.Vault.{VaultView, VaultCall, IsWellFormed, SomeCalls, ChangesBy, Reads, Holds, copies_of, state_of}
use Rattle.disk_model.proofs.VaultLemmas.{calls_then}
use Rattle.file_table.specs.Table.{TableValue}
use Rattle.content_file.specs.Save.{HasSaved, piecewise_calls}
use Rattle.content_file.specs.Spelling.{spelling}
use Rattle.parity_writer.specs.Calls.{sync_calls}
use Rattle.parity_writer.specs.Chosen.{Choice, IsChosen, window_calls, rows_with as window_rows}
use Rattle.parity_writer.specs.Keeps.{SameParities}
use Rattle.parity_writer.specs.Parity.{Rows, HoldsRows, WritesBlocks}
use Rattle.stripe_reader.specs.WindowValue.{WindowValue, Fits}
use Rattle.snap_sync.specs.Calls.{SyncPlan, RanOpened, checkpoint_calls, saves_after, stripe_calls, ending_calls, reading_calls}
use Rattle.snap_sync.specs.Closing.{closed}
use Rattle.snap_sync.specs.Images.{MayStand}
use Rattle.stripe_findings.specs.Reading.{StripeReading, stripes_of, readings_in, is_verified}
use Rattle.snap_sync.specs.Work.{IsPlanFor, IsUnderway, MaySettle, VaultBroke}
use Rattle.snap_sync.proofs.BrokeLemmas.{broke_after, broke_among, window_changes}
use Rattle.snap_sync.proofs.RowsLemmas.{IsWindowOf}
use Rattle.snap_sync.proofs.CallsLemmas.{behind, window_ends}
use Rattle.snap_sync.proofs.OpenedLemmas.{opened_as, opened_front, opened_then}
use Rattle.snap_sync.proofs.PendingLemmas.{AreNext, window_is_of}
use Rattle.snap_sync.proofs.StandLemmas.{Stands, IsWritten, IsStopped, IsEnded, stands_of, front_of_all}
use Rattle.snap_sync.proofs.WrittenLemmas.{written, stopped_writing}
use Rattle.snap_sync.proofs.SavedLemmas.{saving_stands, saved_stands, all_saved, parity_left, checkpoint_is}

-- A window comes next that was read and judged: its stripes are the next pending ones, and no checkpoint stands within it.
pub record ComesNext (plan : SyncPlan) (readings : List StripeReading) (stripes : List ℕ) (window : WindowValue) (chosen : List Bool) : Type 0 where
  pub fits : Fits plan.start window
  pub count : length stripes ≡ window.count
  pub some : 0 < length stripes
  pub judged : chosen ≡ map (is_verified plan.start) (readings_in stripes window)
  pub many : ℕ
  pub first : stripes_of readings ++ stripes ≡ take many (pending_stripes plan.start.infos)
  pub none_within : (j : ℕ) → 0 < j → j < length stripes → saves_after plan (length readings + j) ≡ false

-- the stripes of a window and which of them are chosen
abbrev pub choice_of : List ℕ → List Bool → Choice
choice_of stripes chosen = record { stripes = stripes; chosen = chosen }

-- a vault that a checkpoint went well on
pub record IsSaved (piece : ℕ) (table : TableValue) (mid new : VaultView) : Type 0 where
  pub calls : SomeCalls mid new
  pub ran : RanAll (sync_calls mid.levels ++ piecewise_calls piece (copies_of mid) (spelling table)) (log_of (state_of mid)) (log_of (state_of new))
  pub changes : ChangesBy (MaySettle mid.levels mid.files (spelling table)) mid new
  pub settled : Holds (SameParities mid.levels mid.files) new
  pub saved : Holds (HasSaved (copies_of mid) (spelling table)) new

-- and one on which a call of it failed
pub record SavesNot (piece : ℕ) (table : TableValue) (mid new : VaultView) : Type 0 where
  pub calls : SomeCalls mid new
  pub ran : RanUpTo (sync_calls mid.levels ++ piecewise_calls piece (copies_of mid) (spelling table)) (log_of (state_of mid)) (log_of (state_of new))
  pub changes : ChangesBy (MaySettle mid.levels mid.files (spelling table)) mid new
  pub broke : VaultBroke mid new

-- ---- the opening failed

pub underway_stopped_opening : (plan : SyncPlan) (old new : VaultView) → SomeCalls old new → VaultBroke old new → RanOpened plan [] true (state_of old) (log_of (state_of new))
    → ChangesBy (MayStand plan []) old new → IsStopped plan [] old new
underway_stopped_opening plan old new calls broke up changes = record {
  calls = calls;
  ran = opened_front plan [] (reading_calls plan []) (state_of old) (log_of (state_of new)) up;
  broke = broke;
  changes = changes;
}

-- ---- a window

module _ (plan : SyncPlan) (readings : List StripeReading) (stripes : List ℕ) (window : WindowValue) (chosen : List Bool) (c : ℕ) (old mid new : VaultView) (for : IsPlanFor plan old) (next : ComesNext plan readings stripes window chosen)
    (under : IsUnderway plan readings c (length readings) old mid) (formed : IsWellFormed new) (calls : SomeCalls mid new) (changes : ChangesBy (WritesBlocks window.block_size (IsChosen (choice_of stripes chosen))) mid new) where
  abbrev ws : List StripeReading
  ws = readings_in stripes window

  of : IsWindowOf plan.start ws window (choice_of stripes chosen)
  of = window_is_of plan.start stripes window chosen next.fits next.judged

  long : length ws ≡ length stripes
  long = sym of.as_many

  nexts : AreNext plan.start readings stripes
  nexts = record { many = next.many; first = next.first }

  whole : (stripe_calls plan readings (length readings) ++ window_calls plan.start.shape.levels window (choice_of stripes chosen) (length ws)) ++ behind plan (readings ++ ws) (length (readings ++ ws))
      ≡ stripe_calls plan (readings ++ ws) (length (readings ++ ws))
  whole = window_ends plan readings ws window (choice_of stripes chosen) of (omega (arith, long, next.some)) (λ j more small. next.none_within j more (omega (arith, small, long)))

  pub underway_written : RanAll (window_calls mid.levels window (choice_of stripes chosen) window.count) (log_of (state_of mid)) (log_of (state_of new))
      → ((rows : Rows) → Reads (HoldsRows mid.levels window.block_size rows) mid → Reads (HoldsRows mid.levels window.block_size (window_rows window (choice_of stripes chosen) window.count rows)) new)
      → IsWritten plan (readings ++ readings_in stripes window) c old new
  underway_written ran holds =
      written plan readings ws window (choice_of stripes chosen) c old mid new for of nexts (stands_of plan readings c old mid under) formed calls changes under.ran whole window.count (sym next.count ∙ sym long) ran holds

  pub underway_stopped_writing : RanUpTo (window_calls mid.levels window (choice_of stripes chosen) window.count) (log_of (state_of mid)) (log_of (state_of new)) → VaultBroke mid new
      → IsStopped plan (readings ++ readings_in stripes window) old new
  underway_stopped_writing up broke =
      stopped_writing plan readings ws window (choice_of stripes chosen) c old mid new for of nexts (stands_of plan readings c old mid under) formed calls changes under.ran whole window.count (sym next.count ∙ sym long) up broke

-- what a failed window of writes is by its calls
pub writing_broke : (levels : ℕ) (window : WindowValue) (choice : Choice) (count : ℕ) (mid new : VaultView) → RanUpTo (window_calls levels window choice count) (log_of (state_of mid)) (log_of (state_of new)) → VaultBroke mid new
writing_broke levels window choice count mid new up = broke_among (window_calls levels window choice count) mid new (window_changes levels window choice count) up

-- ---- a checkpoint behind it, or none

module _ (plan : SyncPlan) (readings : List StripeReading) (c : ℕ) where
  due : (b : Bool) → saves_after plan (length readings) ≡ b → behind plan readings (length readings) ≡ (if b then checkpoint_calls plan (closed plan.now plan.start readings) else [])
  due b is = ap₂ (λ (t : Bool) (xs : List StripeReading). if t then checkpoint_calls plan (closed plan.now plan.start xs) else []) is (take-length readings)

  pub underway_unsaved : (old new : VaultView) → saves_after plan (length readings) ≡ false → IsWritten plan readings c old new → IsUnderway plan readings c (length readings) old new
  underway_unsaved old new none done = record {
    order = done.stands.order;
    within = omega arith;
    calls = done.stands.calls;
    ran = opened_as plan done.so_far (stripe_calls plan readings (length readings)) false (state_of old) (log_of (state_of new))
        (sym (append-nil done.so_far) ∙ ap (λ cs. done.so_far ++ cs) (sym (due false none)) ∙ done.whole) done.ran;
    changes = done.stands.changes;
    copies = done.stands.copies;
    rows = done.stands.rows;
    parity = done.stands.parity;
  }

  module _ (piece : ℕ) (piece_is : plan.piece ≡ piece) (table : TableValue) (table_is : table ≡ closed plan.now plan.start readings) (old mid new : VaultView) (for : IsPlanFor plan old) (formed : IsWellFormed new) where
    -- the calls so far, and then those of the checkpoint
    all_ran : (so_far : List VaultCall) → Stands plan readings c old mid → IsSaved piece table mid new → RanOpened plan so_far false (state_of old) (log_of (state_of mid))
        → RanOpened plan (so_far ++ checkpoint_calls plan (closed plan.now plan.start readings)) false (state_of old) (log_of (state_of new))
    all_ran so_far stands it ran =
        subst (λ cs. RanOpened plan (so_far ++ cs) false (state_of old) (log_of (state_of new)))
        (checkpoint_is plan readings c old mid new for stands formed table table_is it.calls it.changes piece piece_is)
        (opened_then plan so_far (sync_calls mid.levels ++ piecewise_calls piece (copies_of mid) (spelling table)) false (state_of old) (log_of (state_of mid)) (log_of (state_of new)) ran it.ran)

    up_ran : (so_far : List VaultCall) → Stands plan readings c old mid → SavesNot piece table mid new → RanOpened plan so_far false (state_of old) (log_of (state_of mid))
        → RanOpened plan (so_far ++ checkpoint_calls plan (closed plan.now plan.start readings)) true (state_of old) (log_of (state_of new))
    up_ran so_far stands it ran =
        subst (λ cs. RanOpened plan (so_far ++ cs) true (state_of old) (log_of (state_of new)))
        (checkpoint_is plan readings c old mid new for stands formed table table_is it.calls it.changes piece piece_is)
        (opened_then plan so_far (sync_calls mid.levels ++ piecewise_calls piece (copies_of mid) (spelling table)) true (state_of old) (log_of (state_of mid)) (log_of (state_of new)) ran it.ran)

    -- within a sync
    module _ (saves : saves_after plan (length readings) ≡ true) (done : IsWritten plan readings c old mid) where
      split : done.so_far ++ checkpoint_calls plan (closed plan.now plan.start readings) ≡ stripe_calls plan readings (length readings)
      split = ap (λ cs. done.so_far ++ cs) (sym (due true saves)) ∙ done.whole

      pub underway_saved : IsSaved piece table mid new → IsUnderway plan readings (length readings) (length readings) old new
      underway_saved it =
          let now = saved_stands plan readings c old mid new for done.stands formed table table_is it.calls it.changes it.settled it.saved in
          record {
            order = omega arith;
            within = omega arith;
            calls = now.calls;
            ran = opened_as plan (done.so_far ++ checkpoint_calls plan (closed plan.now plan.start readings)) (stripe_calls plan readings (length readings)) false (state_of old) (log_of (state_of new)) split
                (all_ran done.so_far done.stands it done.ran);
            changes = now.changes;
            copies = now.copies;
            rows = now.rows;
            parity = now.parity;
          }

      pub underway_stopped_saving : SavesNot piece table mid new → IsStopped plan readings old new
      underway_stopped_saving it = record {
        calls = calls_then old mid new done.stands.calls it.calls;
        ran =
            front_of_all plan readings (stripe_calls plan readings (length readings)) [] old new (append-nil (stripe_calls plan readings (length readings)))
            (opened_as plan (done.so_far ++ checkpoint_calls plan (closed plan.now plan.start readings)) (stripe_calls plan readings (length readings)) true (state_of old) (log_of (state_of new)) split
            (up_ran done.so_far done.stands it done.ran));
        broke = broke_after old mid new done.stands.calls it.calls it.broke;
        changes = saving_stands plan readings c old mid new for done.stands formed table table_is it.calls it.changes;
      }

    -- at its end
    module _ (all : length readings ≡ plan.all) (under : IsUnderway plan readings c (length readings) old mid) where
      ends_so : ending_calls plan readings ≡ checkpoint_calls plan (closed plan.now plan.start readings)
      ends_so = ap (λ (b : Bool). if b then checkpoint_calls plan (closed plan.now plan.start readings) else []) (eq-eqb (length readings) plan.all all)

      joined : stripe_calls plan readings (length readings) ++ checkpoint_calls plan (closed plan.now plan.start readings) ≡ reading_calls plan readings
      joined = ap (λ cs. stripe_calls plan readings (length readings) ++ cs) (sym ends_so)

      pub underway_ended : IsSaved piece table mid new → IsEnded plan readings old new
      underway_ended it =
          let stands = stands_of plan readings c old mid under in
          record {
            calls = calls_then old mid new under.calls it.calls;
            ran = opened_as plan (stripe_calls plan readings (length readings) ++ checkpoint_calls plan (closed plan.now plan.start readings)) (reading_calls plan readings) false (state_of old) (log_of (state_of new)) joined
                (all_ran (stripe_calls plan readings (length readings)) stands it under.ran);
            changes = saving_stands plan readings c old mid new for stands formed table table_is it.calls it.changes;
            saved = all_saved plan readings c old mid new for stands formed table table_is it.calls it.changes it.settled it.saved;
            parity = parity_left plan readings c old mid new for stands formed table table_is it.calls it.changes it.settled it.saved;
          }

      pub underway_stopped_ending : SavesNot piece table mid new → IsStopped plan readings old new
      underway_stopped_ending it =
          let stands = stands_of plan readings c old mid under in
          record {
            calls = calls_then old mid new under.calls it.calls;
            ran = opened_as plan (stripe_calls plan readings (length readings) ++ checkpoint_calls plan (closed plan.now plan.start readings)) (reading_calls plan readings) true (state_of old) (log_of (state_of new)) joined
                (up_ran (stripe_calls plan readings (length readings)) stands it under.ran);
            broke = broke_after old mid new under.calls it.calls it.broke;
            changes = saving_stands plan readings c old mid new for stands formed table table_is it.calls it.changes;
          }
