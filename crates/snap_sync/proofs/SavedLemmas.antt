-- A checkpoint: parity is settled, and then a table is saved.
use Rattle.std.proofs.Common.{◌≡◌, inl, inr, ⊎_elim, ℕ, List, ◌++◌, length, Some, IsTrue, sym, ◌∙◌, ap, ap₂, subst, arith}
use Rattle.std.proofs.Math.Seq.{take-length}
use Rattle.disk_model.specs.Files.{Files}
use Rattle.disk_model.specs.Vault.{VaultView, IsWellFormed, SomeCalls, ChangesBy, Holds, copies_of}
use Rattle.disk_model.proofs.VaultLemmas.{calls_then}
use Rattle.file_table.specs.Table.{TableValue}
use Rattle.content_file.specs.Save.{HasSaved, piecewise_calls}
use Rattle.content_file.specs.Spelling.{spelling}
use Rattle.parity_writer.specs.Calls.{sync_calls}
use Rattle.parity_writer.specs.Keeps.{SameParities}
use Rattle.snap_sync.specs.Calls.{SyncPlan, level_bytes, checkpoint_calls}
use Rattle.snap_sync.specs.Closing.{closed}
use Rattle.snap_sync.specs.Images.{MayStand, AtWork, HasParityAfter, table_after, rows_after}
use Rattle.stripe_findings.specs.Reading.{StripeReading}
use Rattle.snap_sync.specs.Work.{IsPlanFor, MaySettle}
use Rattle.snap_sync.proofs.StepLemmas.{changes_by}
use Rattle.snap_sync.proofs.OpeningLemmas.{kept_by_save, kept_then}
use Rattle.snap_sync.proofs.RowsLemmas.{same_rows, same_parity}
use Rattle.snap_sync.proofs.StandLemmas.{Stands, kept_of_stand}

module _ (plan : SyncPlan) (readings : List StripeReading) (c : ℕ) (old mid new : VaultView) (for : IsPlanFor plan old) (under : Stands plan readings c old mid) (formed : IsWellFormed new)
    (table : TableValue) (table_is : table ≡ closed plan.now plan.start readings) (calls : SomeCalls mid new) (changes : ChangesBy (MaySettle mid.levels mid.files (spelling table)) mid new) where
  abbrev start : TableValue
  start = plan.start

  abbrev size : ℕ
  size = start.shape.block_size

  abbrev k : ℕ
  k = length readings

  saved_is : Some (spelling table) ≡ Some (spelling (table_after plan readings k))
  saved_is = ap (λ (t : TableValue). Some (spelling t)) (table_is ∙ ap (closed plan.now start) (sym (take-length readings)))

  levels_are : mid.levels ≡ start.shape.levels
  levels_are = under.calls.goes_on.levels ∙ for.levels

  copies_are : copies_of mid ≡ plan.copies
  copies_are = under.calls.goes_on.copies ∙ for.copies

  its_levels : (files : Files) → SameParities mid.levels mid.files files → SameParities start.shape.levels mid.files files
  its_levels files same = subst (λ (l : ℕ). SameParities l mid.files files) levels_are same

  mid_tells : IsTrue new.tells → IsTrue mid.tells
  mid_tells told = sym calls.goes_on.tells ∙ told

  settles : IsTrue new.tells → (a b d : Files) → MayStand plan readings a b → HasSaved plan.copies (spelling (table_after plan readings c)) b → MaySettle mid.levels mid.files (spelling table) b d → MayStand plan readings a d
  settles told a b d stood has it = ⊎_elim
      (λ same. subst (λ (files : Files). MayStand plan readings a files) (sym same) stood)
      (λ settled. AtWork c k (record {
        order = under.order;
        within = omega arith;
        copies = λ copy below. ⊎_elim (λ was. inl (was ∙ has copy below)) (λ is. inr (is ∙ saved_is)) (it.saves.contents copy);
        rows = same_rows start.shape.levels size (rows_after plan readings k) mid.files d (its_levels d settled) (under.parity (mid_tells told)).rows_held;
        kept = kept_then start a b d (kept_of_stand plan readings a b stood) (kept_by_save start (spelling table) b d it.saves);
      }))
      it.settled

  pub saving_stands : ChangesBy (MayStand plan readings) old new
  saving_stands = changes_by (MayStand plan readings) (MaySettle mid.levels mid.files (spelling table)) (MayStand plan readings) (HasSaved plan.copies (spelling (table_after plan readings c))) old mid new formed
      (λ told a b stood. stood) settles under.calls calls under.changes under.copies changes

  module _ (settled : Holds (SameParities mid.levels mid.files) new) (saved : Holds (HasSaved (copies_of mid) (spelling table)) new) where
    parity_is : (files : Files) → IsTrue new.tells → SameParities mid.levels mid.files files → HasParityAfter plan readings k old.files files
    parity_is files told same = same_parity start.shape.levels size (level_bytes start) (rows_after plan readings k) old.files mid.files files (its_levels files same) (under.parity (mid_tells told))

    pub parity_left : Holds (HasParityAfter plan readings k old.files) new
    parity_left = record {
      reads = λ told. parity_is new.files told (settled.reads told);
      leaves = λ told files left. parity_is files (formed.tells told) (settled.leaves told files left);
    }

    its_copies : Holds (HasSaved plan.copies (spelling table)) new
    its_copies = subst (λ (n : ℕ). Holds (HasSaved n (spelling table)) new) copies_are saved

    pub all_saved : Holds (HasSaved plan.copies (spelling (closed plan.now start readings))) new
    all_saved = subst (λ (t : TableValue). Holds (HasSaved plan.copies (spelling t)) new) table_is its_copies

    pub saved_stands : Stands plan readings k old new
    saved_stands = record {
      order = omega arith;
      calls = calls_then old mid new under.calls calls;
      changes = saving_stands;
      copies = record { reads = λ told copy below. its_copies.reads told copy below ∙ saved_is; leaves = λ told files left copy below. its_copies.leaves told files left copy below ∙ saved_is };
      rows = record { reads = λ told. (parity_left.reads told).rows_held; leaves = λ told files left. (parity_left.leaves told files left).rows_held };
      parity = parity_left.reads;
    }

  -- its calls
  pub checkpoint_is : (piece : ℕ) → plan.piece ≡ piece → sync_calls mid.levels ++ piecewise_calls piece (copies_of mid) (spelling table) ≡ checkpoint_calls plan (closed plan.now start readings)
  checkpoint_is piece piece_is =
      ap₂ (λ (l n : ℕ). sync_calls l ++ piecewise_calls piece n (spelling table)) levels_are copies_are
      ∙ ap₂ (λ (n : ℕ) (t : TableValue). sync_calls start.shape.levels ++ piecewise_calls n plan.copies (spelling t)) (sym piece_is) table_is
