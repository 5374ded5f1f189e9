-- What is known of a vault that was given as it was held.
use Rattle.std.proofs.Common.{◌≡◌, true, IsTrue, inl, inr, ⊎_elim, sym, ◌∙◌, subst, arith, refl}
use Rattle.disk_model.specs.Files.{Files}
use Rattle.disk_model.specs.Moments.{SameImages}
use Rattle.disk_model.specs.Opener.{SameVault}
use Rattle.disk_model.specs.Vault.{VaultView, VaultState, state_of, ChangesBy}

-- its state, where that is told
pub same_state : (held other : VaultView) → SameVault true held other → state_of other ≡ state_of held
same_state held other same i = record {
  faults = same.faults i;
  writes = same.writes i;
  levels = same.levels refl i;
  drafts = same.drafts refl i;
  tells = same.tells refl i;
  files = same.files refl i;
  staged = same.staged refl i;
  tells_calls = same.tells_calls refl i;
  calls = same.calls refl i;
}

-- and what a stop leaves of it
pub same_images : (held other : VaultView) → SameVault true held other → SameImages held.images other.images
same_images held other same = record { told = same.tells_images refl; moment = same.moment refl; since = same.since refl }

-- what changes since a vault was given has changed since it was held
pub changes_held : (step : Files → Files → Type 0) (held given new : VaultView) → state_of given ≡ state_of held → SameImages held.images given.images → ChangesBy step given new → ChangesBy step held new
changes_held step held given new same images changes =
    let moment = images.moment in
    record {
      reads = λ told. subst (λ (s : VaultState). step s.files new.files) same (changes.reads (subst (λ (s : VaultState). IsTrue s.tells) (sym same) told));
      leaves = record {
        told = λ told. sym images.told ∙ changes.leaves.told told;
        later = λ told. omega (arith, moment, changes.leaves.later told);
        within = λ told t files le left. ⊎_elim
            (λ was. inl ((images.since t files).0 was))
            (λ came. inr (came.0, (images.since held.images.moment came.0).0 (subst (λ m. given.images.since m came.0) moment came.1), came.2))
            (changes.leaves.within told t files (omega (arith, moment, le)) left);
        at_end = λ told files left. let came = changes.leaves.at_end told files left in (came.0, (images.since held.images.moment came.0).0 (subst (λ m. given.images.since m came.0) moment came.1), came.2);
      };
    }
