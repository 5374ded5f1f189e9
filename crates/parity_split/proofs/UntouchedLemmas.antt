-- What is known of a vault of several parts a level, where its base is as it was.
use Rattle.std.proofs.Common.{ℕ, List, [], length, false, refl, sym, ap, subst}
use Rattle.disk_model.specs.Files.{Stays}
use Rattle.disk_model.specs.Moments.{Images, SameImages}
use Rattle.disk_model.specs.Vault.{VaultView, VaultState, IsWellFormed, IsUntouched}
use Rattle.disk_model.proofs.UntouchedLemmas.{same_levels, same_tells, changes_untouched}
use Rattle.disk_model.proofs.VaultLemmas.{changes_start}
use Rattle.parity_split.specs.Joined.{seen}
use Rattle.parity_split.specs.Split.{AreParts, AllInStep, seen_images, loosely, split_view}
use Rattle.parity_split.specs.Works.{IsWithin}
use Rattle.parity_split.specs.declared.parts.Parts.{Parts}
use Rattle.parity_split.proofs.SplitLemmas.{in_step_stays}

pub within_untouched : (p : Parts) (old new : VaultView) → IsUntouched old new → IsWithin p old.levels → IsWithin p new.levels
within_untouched p old new same within = subst (λ n. IsWithin p n) (sym (same_levels old new same)) within

module _ (counts : List ℕ) (capacity : ℕ) where
  same_seen : (old new : Images) → SameImages old new → SameImages (seen_images counts capacity old) (seen_images counts capacity new)
  same_seen old new same = record {
    told = same.told;
    moment = same.moment;
    since = λ t files. (λ left. (left.0, (same.since t left.0).0 left.1, left.2), λ left. (left.0, (same.since t left.0).1 left.1, left.2));
  }

  -- as a level is seen
  abbrev seen_state : VaultState → VaultState
  seen_state s = record {
    faults = s.faults;
    writes = loosely s.writes;
    levels = length counts;
    drafts = s.drafts;
    tells = s.tells;
    files = seen counts capacity s.files;
    staged = s.staged;
    tells_calls = false;
    calls = [];
  }

  pub untouched_seen : (old new : VaultView) → IsUntouched old new → IsUntouched (split_view counts capacity old) (split_view counts capacity new)
  untouched_seen old new same = record {
    state = ap seen_state same.state;
    images = same_seen old.images new.images same.images;
  }

  pub are_untouched : (old new : VaultView) → IsUntouched old new → AreParts counts capacity old.levels → AreParts counts capacity new.levels
  are_untouched old new same are = subst (λ n. AreParts counts capacity n) (sym (same_levels old new same)) are

  pub in_step_untouched : (old new : VaultView) → IsWellFormed old → IsUntouched old new → AllInStep counts capacity old → AllInStep counts capacity new
  in_step_untouched old new formed same in_step = in_step_stays counts capacity old new formed (same_tells old new same)
      (changes_untouched Stays old new new same (changes_start Stays new (λ files. refl))) in_step
