-- Levels synced one after another.
use Rattle.std.proofs.Common.{◌≡◌, ℕ, ◌+◌, refl, sym, ◌∙◌, ap, arith, below_more, Result}
use Rattle.disk_model.specs.Files.{Stays, parity_of}
use Rattle.disk_model.specs.Vault.{VaultView, VaultCall, IsCall, SomeCalls, ChangesBy, DraftsStay, Holds, IsWellFormed}
use Rattle.disk_model.specs.declared.fault.Failed.{Failed}
use Rattle.disk_model.proofs.VaultLemmas.{no_calls, more_calls, changes_start, stays_then}
use Rattle.parity_writer.specs.Keeps.{SameParities}
use Rattle.parity_writer.proofs.Keeping.{drafts_start, drafts_then}

-- the first levels are synced
pub record Settling (level : ℕ) (old now : VaultView) : Type 0 where
  pub calls : SomeCalls old now
  pub changes : ChangesBy Stays old now
  pub drafts : DraftsStay old now
  pub settled : Holds (SameParities level old.files) now

pub settling_start : (old : VaultView) → Settling 0 old old
settling_start old = record {
  calls = no_calls old;
  changes = changes_start Stays old (λ _. refl);
  drafts = drafts_start old;
  settled = record { reads = λ told level below. absurd (omega arith); leaves = λ told files left level below. absurd (omega arith) };
}

pub settling_more : {T : Type 0} {call : VaultCall} {result : Result T Failed} (level : ℕ) (old mid new : VaultView)
    → Settling level old mid → IsWellFormed mid → IsCall call result mid new → ChangesBy Stays mid new → DraftsStay mid new
    → Holds (λ files. parity_of files level ≡ parity_of mid.files level) new → Settling (level + 1) old new
settling_more level old mid new so_far formed call changes drafts synced = record {
  calls = more_calls old mid new _ so_far.calls call.goes_on;
  changes = stays_then Stays old mid new so_far.calls.goes_on.tells so_far.changes changes (λ _. refl);
  drafts = drafts_then old mid new so_far.calls.goes_on.tells so_far.drafts drafts;
  settled = record {
    reads = λ told l below. ap (λ f. parity_of f l) (changes.reads (sym call.goes_on.tells ∙ told) ∙ so_far.changes.reads (sym so_far.calls.goes_on.tells ∙ sym call.goes_on.tells ∙ told));
    leaves = λ told files left.
        let mid_told = changes.leaves.told told in
        let was = changes.leaves.at_end told files left in
        let same : files ≡ was.0 = was.2 in
        let read : mid.files ≡ old.files = so_far.changes.reads (sym so_far.calls.goes_on.tells ∙ formed.tells mid_told) in
        below_more (λ l. parity_of files l ≡ parity_of old.files l) level
        (λ l below. ap (λ f. parity_of f l) same ∙ so_far.settled.leaves mid_told was.0 was.1 l below)
        (synced.leaves told files left ∙ ap (λ f. parity_of f level) read);
  };
}

-- a call more, that may have failed
pub settling_ends : (old mid new : VaultView) (level : ℕ) → Settling level old mid → ChangesBy Stays mid new → ChangesBy Stays old new
settling_ends old mid new level so_far changes = stays_then Stays old mid new so_far.calls.goes_on.tells so_far.changes changes (λ _. refl)
