-- Calls on one level after another whose changes are of one kind.
use Rattle.std.proofs.Common.{◌≡◌, refl, ◌∙◌}
use Rattle.disk_model.specs.Files.{Files}
use Rattle.disk_model.specs.Vault.{VaultView, SomeCalls, ChangesBy, DraftsStay}
use Rattle.disk_model.proofs.VaultLemmas.{no_calls, calls_then, changes_start, changes_then}

pub record Keeping (step : Files → Files → Type 0) (old now : VaultView) : Type 0 where
  pub calls : SomeCalls old now
  pub changes : ChangesBy step old now
  pub drafts : DraftsStay old now

pub drafts_start : (v : VaultView) → DraftsStay v v
drafts_start v = record { state = refl; bytes = λ told. refl }

pub drafts_then : (old mid new : VaultView) → mid.tells ≡ old.tells → DraftsStay old mid → DraftsStay mid new → DraftsStay old new
drafts_then old mid new tells one two = record { state = two.state ∙ one.state; bytes = λ told. two.bytes (tells ∙ told) ∙ one.bytes told }

pub keeping_start : (step : Files → Files → Type 0) (old : VaultView) → ((files : Files) → step files files) → Keeping step old old
keeping_start step old same = record { calls = no_calls old; changes = changes_start step old same; drafts = drafts_start old }

-- more calls, whose change is of that kind too
pub keeping_more : (step one : Files → Files → Type 0) (old mid new : VaultView) → ((a b c : Files) → step a b → one b c → step a c)
    → Keeping step old mid → SomeCalls mid new → ChangesBy one mid new → DraftsStay mid new → Keeping step old new
keeping_more step one old mid new then so_far calls changes drafts =
    let tells = so_far.calls.goes_on.tells in
    record {
      calls = calls_then old mid new so_far.calls calls;
      changes = changes_then step one step old mid new (λ a b s. s) then tells so_far.changes changes;
      drafts = drafts_then old mid new tells so_far.drafts drafts;
    }
