-- A vault of which all that is known is as it was: what holds since then has held since before.
use Rattle.std.proofs.Common.{◌≡◌, ℕ, List, ◌++◌, length, refl, sym, ◌∙◌, ap, subst, arith}
use Rattle.disk_model.specs.Cause.{RoseBy, Counts}
use Rattle.disk_model.specs.Files.{Files}
use Rattle.disk_model.specs.Vault.{VaultView, VaultState, VaultDone, any_write, GoesOn, ChangesBy, DraftsStay, IsUntouched}
use Rattle.disk_model.proofs.GivenLemmas.{changes_held}

pub untouched_here : (v : VaultView) → IsUntouched v v
untouched_here v = record {
  state = refl;
  images = record { told = refl; moment = refl; since = λ t files. (λ left. left, λ left. left) };
}

pub untouched_then : (old mid new : VaultView) → IsUntouched old mid → IsUntouched mid new → IsUntouched old new
untouched_then old mid new one two = record {
  state = two.state ∙ one.state;
  images = record {
    told = two.images.told ∙ one.images.told;
    moment = two.images.moment ∙ one.images.moment;
    since = λ t files. (λ left. (one.images.since t files).0 ((two.images.since t files).0 left), λ left. (two.images.since t files).1 ((one.images.since t files).1 left));
  };
}

pub same_faults : (old mid : VaultView) → IsUntouched old mid → mid.faults ≡ old.faults
same_faults old mid same = ap (λ (s : VaultState). s.faults) same.state

pub same_writes : (old mid : VaultView) → IsUntouched old mid → mid.writes ≡ old.writes
same_writes old mid same = ap (λ (s : VaultState). s.writes) same.state

pub same_levels : (old mid : VaultView) → IsUntouched old mid → mid.levels ≡ old.levels
same_levels old mid same = ap (λ (s : VaultState). s.levels) same.state

pub same_tells : (old mid : VaultView) → IsUntouched old mid → mid.tells ≡ old.tells
same_tells old mid same = ap (λ (s : VaultState). s.tells) same.state

pub same_files : (old mid : VaultView) → IsUntouched old mid → mid.files ≡ old.files
same_files old mid same = ap (λ (s : VaultState). s.files) same.state

-- the same calls since then
pub goes_on_untouched : (old mid new : VaultView) (done : List VaultDone) → IsUntouched old mid → GoesOn mid new done → GoesOn old new done
goes_on_untouched old mid new done same it = record {
  later = let faults = same_faults old mid same in omega (arith, faults, it.later);
  writes = subst (λ w. Counts (any_write done) w new.writes) (same_writes old mid same) it.writes;
  levels = it.levels ∙ same_levels old mid same;
  copies = it.copies ∙ ap (λ (s : VaultState). length s.drafts) same.state;
  tells = it.tells ∙ same_tells old mid same;
  calls = record {
    told = λ told. sym (ap (λ (s : VaultState). s.tells_calls) same.state) ∙ it.calls.told told;
    more = λ told. it.calls.more told ∙ ap (λ (s : VaultState). s.calls ++ done) same.state;
  };
}

pub changes_untouched : (step : Files → Files → Type 0) (old mid new : VaultView) → IsUntouched old mid → ChangesBy step mid new → ChangesBy step old new
changes_untouched step old mid new same changes = changes_held step old mid new same.state same.images changes

pub drafts_untouched : (old mid new : VaultView) → IsUntouched old mid → DraftsStay mid new → DraftsStay old new
drafts_untouched old mid new same drafts = record {
  state = drafts.state ∙ ap (λ (s : VaultState). s.drafts) same.state;
  bytes = λ told. drafts.bytes (same_tells old mid same ∙ told) ∙ ap (λ (s : VaultState). s.staged) same.state;
}

pub rose_untouched : (n : ℕ) (old mid new : VaultView) → IsUntouched old mid → RoseBy n mid.faults new.faults → RoseBy n old.faults new.faults
rose_untouched n old mid new same rose = subst (λ f. RoseBy n f new.faults) (same_faults old mid same) rose
