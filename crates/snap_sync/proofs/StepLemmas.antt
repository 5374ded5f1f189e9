-- What files go through by steps that are known to start from files of some kind.
use Rattle.std.proofs.Common.{inl, inr, ⊎_elim, ◌≤◌, IsTrue, sym, ◌∙◌, arith}
use Rattle.disk_model.specs.Files.{Files}
use Rattle.disk_model.specs.Moments.{Images, AllLeft, ComesBy, LeavesBy}
use Rattle.disk_model.specs.Vault.{VaultView, IsWellFormed, SomeCalls, ChangesBy, Holds}
use Rattle.disk_model.proofs.MomentsLemmas.{leaves_more, all_left_then}

leaves_by : (first step whole : Files → Files → Type 0) (P : Files → Type 0) (old mid new : Images)
    → (IsTrue new.told → (a b : Files) → first a b → whole a b)
    → (IsTrue new.told → (a b c : Files) → first a b → P b → step b c → whole a c)
    → LeavesBy first old mid → AllLeft P mid → LeavesBy step mid new → LeavesBy whole old new
leaves_by first step whole P old mid new alone both one all two = record {
  told = λ told. one.told (two.told told);
  later = λ told. (let a = one.later (two.told told) in let b = two.later told in omega arith);
  within = λ told t files le left.
      let mid_told = two.told told in
      let le_mid : t ≤ mid.moment = (let a = one.later mid_told in omega arith) in
      ⊎_elim
      (λ was. ⊎_elim (λ old_left. inl old_left) (λ came. inr (came.0, came.1, alone told _ _ came.2)) (one.within mid_told t files le was))
      (λ came. inr (ends told files came))
      (two.within told t files le_mid left);
  at_end = λ told files left. ends told files (two.at_end told files left);
}
  where
    ends : IsTrue new.told → (files : Files) → ComesBy step mid files → ComesBy whole old files
    ends told files came =
        let mid_told = two.told told in
        let from = one.at_end mid_told came.0 came.1 in
        (from.0, from.1, both told _ _ _ from.2 (all mid_told came.0 came.1) came.2)

-- after a step all files have P, and then there is another one
pub changes_by : (first step whole : Files → Files → Type 0) (P : Files → Type 0) (old mid new : VaultView) → IsWellFormed new
    → (IsTrue new.tells → (a b : Files) → first a b → whole a b)
    → (IsTrue new.tells → (a b c : Files) → first a b → P b → step b c → whole a c)
    → SomeCalls old mid → SomeCalls mid new → ChangesBy first old mid → Holds P mid → ChangesBy step mid new → ChangesBy whole old new
changes_by first step whole P old mid new formed alone both calls more one holds two = record {
  reads = λ told.
      let mid_told = calls.goes_on.tells ∙ told in
      both (more.goes_on.tells ∙ mid_told) _ _ _ (one.reads told) (holds.reads mid_told) (two.reads mid_told);
  leaves = leaves_by first step whole P old.images mid.images new.images (λ told. alone (formed.tells told)) (λ told. both (formed.tells told)) one.leaves holds.leaves two.leaves;
}

-- by a looser step
pub changes_looser : (step looser : Files → Files → Type 0) (old new : VaultView) → ((a b : Files) → step a b → looser a b) → ChangesBy step old new → ChangesBy looser old new
changes_looser step looser old new more changes = record {
  reads = λ told. more _ _ (changes.reads told);
  leaves = leaves_more step looser old.images new.images (λ told. more) changes.leaves;
}

-- what is known of all files is known of them after a step that keeps it
pub holds_on : (step : Files → Files → Type 0) (P Q : Files → Type 0) (old new : VaultView) → SomeCalls old new → ((a b : Files) → P a → step a b → Q b) → ChangesBy step old new → Holds P old → Holds Q new
holds_on step P Q old new calls go changes holds = record {
  reads = λ told. let was = sym calls.goes_on.tells ∙ told in go _ _ (holds.reads was) (changes.reads was);
  leaves = all_left_then step P Q old.images new.images go changes.leaves holds.leaves;
}
