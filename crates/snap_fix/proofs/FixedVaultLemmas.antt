-- The levels of stripes were read, and then the wrong ones of some written: what was done to the vault since before that.
use Rattle.std.proofs.Common.{◌≡◌, IsTrue, List, ◌∙◌, subst}
use Rattle.disk_model.specs.Files.{Files}
use Rattle.disk_model.specs.Vault.{VaultView, SomeCalls}
use Rattle.disk_model.proofs.VaultLemmas.{calls_then, stays_then}
use Rattle.stripe_examiner.specs.Facts.{StripeFacts}
use Rattle.stripe_examiner.specs.Looking.{LevelsAreRead}
use Rattle.repair_scope.specs.Plan.{FixPlan}
use Rattle.snap_fix.specs.Fixing.{MendsVault}
use Rattle.snap_fix.specs.Underway.{AddsZeros, IsMendedLevel, KeepsLevels}
use Rattle.snap_fix.proofs.WrittenLevelLemmas.{keeps_nothing}

module _ (plan : FixPlan) (all : List StripeFacts) (old mid : VaultView) (reads : LevelsAreRead plan all old mid) where
  pub reading_calls : SomeCalls old mid
  reading_calls = record { done = _; goes_on = reads.goes_on }

  module _ (stripes : List StripeFacts) (new : VaultView) where
    pub mends_since : MendsVault plan stripes mid new → MendsVault plan stripes old new
    mends_since mends =
        let tells : mid.tells ≡ old.tells = reads.goes_on.tells in
        let nothing = keeps_nothing plan.table.shape.block_size (IsMendedLevel plan stripes) in
        record {
          calls = calls_then old mid new reading_calls mends.calls;
          drafts = record {
            state = mends.drafts.state ∙ reads.drafts.state;
            bytes = λ told. mends.drafts.bytes (tells ∙ told) ∙ reads.drafts.bytes told;
          };
          changes = stays_then (KeepsLevels plan.table.shape.block_size (IsMendedLevel plan stripes)) old mid new tells reads.changes mends.changes nothing;
        }

    pub zeros_since : (IsTrue mid.tells → AddsZeros plan.table.shape.block_size (IsMendedLevel plan stripes) mid.files new.files)
        → IsTrue old.tells → AddsZeros plan.table.shape.block_size (IsMendedLevel plan stripes) old.files new.files
    zeros_since zeros told =
        let tells : mid.tells ≡ old.tells = reads.goes_on.tells in
        subst (λ (files : Files). AddsZeros plan.table.shape.block_size (IsMendedLevel plan stripes) files new.files)
        (reads.changes.reads told) (zeros (tells ∙ told))
