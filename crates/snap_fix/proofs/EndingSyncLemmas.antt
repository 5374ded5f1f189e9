-- Levels that were written are synced one after another.
use Rattle.std.proofs.Common.{◌≡◌, inl, inr, ℕ, ◌+◌, ◌<◌, ◌||◌, Bool, true, false, List, [], ◌∷◌, ◌++◌, length, get_or, IsTrue, refl, sym, ap, ◌∙◌, subst, arith, append_assoc}
use Rattle.std.specs.List.{range_with_len, flat_map, list_any}
use Rattle.std.proofs.lemmas.Bool.{cases_lt}
use Rattle.std.proofs.lemmas.List.{map-append}
use Rattle.folder_listing.proofs.JoinedLemmas.{flat_range_more}
use Rattle.disk_model.specs.Files.{Files, Stays, parity_of}
use Rattle.disk_model.specs.Vault.{plain_done, VaultView, VaultCall, VaultDone, GoesOn, ChangesBy, DraftsStay, IsWellFormed}
use Rattle.disk_model.proofs.VaultLemmas.{no_calls, calls_then, changes_start, stays_then}
use Rattle.file_restorer.specs.Breaking.{FailsAfter, broke_parity}
use Rattle.snap_fix.specs.Ending.{IsLevelSettled, Syncs, SyncsNot, sync_call, sync_if, written_syncs}
use Rattle.snap_fix.specs.Underway.{done_well}
use Rattle.snap_fix.proofs.BreakingLemmas.{fails_behind, fails_more, flat_split}
use Rattle.stripe_examiner.proofs.LookingLemmas.{vault_goes_on}
use Rattle.snap_fix.proofs.MendedVaultLemmas.{goes_on_none}

-- ---- some calls, and then others

drafts_then : (old mid new : VaultView) → mid.tells ≡ old.tells → DraftsStay old mid → DraftsStay mid new → DraftsStay old new
drafts_then old mid new tells one two = record { state = two.state ∙ one.state; bytes = λ told. two.bytes (tells ∙ told) ∙ one.bytes told }

syncs_none : (v : VaultView) → Syncs [] v v
syncs_none v = record {
  some = no_calls v;
  drafts = record { state = refl; bytes = λ told. refl };
  ran = goes_on_none v;
  changes = changes_start Stays v (λ files. refl);
}

syncs_then : (one two : List VaultCall) (old mid new : VaultView) → Syncs one old mid → Syncs two mid new → Syncs (one ++ two) old new
syncs_then one two old mid new a b = record {
  some = calls_then old mid new a.some b.some;
  drafts = drafts_then old mid new a.some.goes_on.tells a.drafts b.drafts;
  ran = subst (GoesOn old new) (sym (map-append (λ (call : VaultCall). plain_done call false) one two)) (vault_goes_on old mid new (done_well one) (done_well two) a.ran b.ran);
  changes = stays_then Stays old mid new a.some.goes_on.tells a.changes b.changes (λ files. refl);
}

-- ---- the first levels

pub record SyncedTo (written : List Bool) (level : ℕ) (old now : VaultView) : Type 0 where
  pub syncs : Syncs (flat_map (sync_call written) (range_with_len 0 level)) old now
  pub settled : (l : ℕ) → l < level → get_or written l false ≡ true → IsLevelSettled l old now

pub synced_start : (written : List Bool) (old : VaultView) → SyncedTo written 0 old old
synced_start written old = record { syncs = syncs_none old; settled = λ l below. absurd (omega (arith, below)) }

-- what was settled stays so while the files stay
settled_on : (l : ℕ) (old mid new : VaultView) → mid.tells ≡ old.tells → new.tells ≡ mid.tells → ChangesBy Stays mid new → IsLevelSettled l old mid → IsLevelSettled l old new
settled_on l old mid new first next changes settled = record {
  reads = λ told.
      let told_mid : IsTrue mid.tells = sym next ∙ told in
      ap (λ (files : Files). parity_of files l) (changes.reads told_mid) ∙ settled.reads told_mid;
  leaves = λ told files left.
      let was = changes.leaves.at_end told files left in
      ap (λ (files : Files). parity_of files l) was.2 ∙ settled.leaves (changes.leaves.told told) was.0 was.1;
}

-- what is settled later is as it was before, since the files stayed
settled_since : (l : ℕ) (old mid new : VaultView) → IsWellFormed mid → mid.tells ≡ old.tells → new.tells ≡ mid.tells → ChangesBy Stays old mid → ChangesBy Stays mid new
    → IsLevelSettled l mid new → IsLevelSettled l old new
settled_since l old mid new formed first next before changes settled = record {
  reads = λ told. settled.reads told ∙ ap (λ (files : Files). parity_of files l) (before.reads (sym first ∙ sym next ∙ told));
  leaves = λ told files left.
      settled.leaves told files left ∙ ap (λ (files : Files). parity_of files l) (before.reads (sym first ∙ formed.tells (changes.leaves.told told)));
}

pub synced_more : (written : List Bool) (level : ℕ) (is : Bool) (old mid new : VaultView) → is ≡ get_or written level false → IsWellFormed mid → SyncedTo written level old mid
    → Syncs (sync_if is level) mid new → (is ≡ true → IsLevelSettled level mid new) → SyncedTo written (level + 1) old new
synced_more written level is old mid new here formed so_far one settled = record {
  syncs = subst (λ (calls : List VaultCall). Syncs calls old new) (flat_range_more (sync_call written) level)
      (syncs_then (flat_map (sync_call written) (range_with_len 0 level)) (sync_call written level) old mid new so_far.syncs
      (subst (λ (b : Bool). Syncs (sync_if b level) mid new) here one));
  settled = λ l below was. elim (cases_lt l level) [
    | inl near ↦ settled_on l old mid new so_far.syncs.some.goes_on.tells one.some.goes_on.tells one.changes (so_far.settled l near was)
    | inr far ↦
        let last : level ≡ l = omega (arith, below, far) in
        subst (λ (n : ℕ). IsLevelSettled n old new) last
        (settled_since level old mid new formed so_far.syncs.some.goes_on.tells one.some.goes_on.tells so_far.syncs.changes one.changes
        (settled (here ∙ ap (λ (n : ℕ). get_or written n false) last ∙ was)))
  ];
}

-- ---- a call that failed

any_later : (front back : List VaultDone) → IsTrue (list_any broke_parity back) → IsTrue (list_any broke_parity (front ++ back))
any_later [] back one = one
any_later (done ∷ front) back one = or_right (broke_parity done) (list_any broke_parity (front ++ back)) (any_later front back one)
  where
    or_right : (a b : Bool) → IsTrue b → IsTrue (a || b)
    or_right true b is = cc
    or_right false b is = is

-- the first ones of all syncs, and then that of the next level failed
syncs_fail : (written : List Bool) (level : ℕ) (old mid new : VaultView) → level < length written → Syncs (flat_map (sync_call written) (range_with_len 0 level)) old mid
    → FailsAfter [] (done_well (sync_call written level)) mid new → FailsAfter [] (done_well (written_syncs written)) old new
syncs_fail written level old mid new below synced fails =
    let front : List VaultCall = flat_map (sync_call written) (range_with_len 0 level) in
    let next : List VaultCall = sync_call written level in
    let split = flat_split (sync_call written) (level + 1) (length written) (omega (arith, below)) in
    let whole : written_syncs written ≡ front ++ (next ++ split.0) =
    split.1 ∙ ap (λ (calls : List VaultCall). calls ++ split.0) (sym (flat_range_more (sync_call written) level)) ∙ append_assoc front next split.0 in
    subst (λ (calls : List VaultCall). FailsAfter [] (done_well calls) old new) (sym whole)
    (subst (λ (calls : List VaultDone). FailsAfter [] calls old new) (sym (well_then front (next ++ split.0)))
    (fails_behind (done_well front) (done_well (next ++ split.0)) old mid new synced.ran
    (subst (λ (calls : List VaultDone). FailsAfter [] calls mid new) (sym (well_then next split.0)) (fails_more (done_well next) (done_well split.0) mid new fails))))
  where
    well_then : (one two : List VaultCall) → done_well (one ++ two) ≡ done_well one ++ done_well two
    well_then one two = map-append (λ (call : VaultCall). plain_done call false) one two

pub synced_not : (written : List Bool) (level : ℕ) (is : Bool) (old mid new : VaultView) → is ≡ get_or written level false → level < length written → SyncedTo written level old mid
    → SyncsNot (sync_if is level) mid new → SyncsNot (written_syncs written) old new
synced_not written level is old mid new here below so_far broke = record {
  ran = syncs_fail written level old mid new below so_far.syncs (subst (λ (b : Bool). FailsAfter [] (done_well (sync_if b level)) mid new) here broke.ran);
  rose = (let more = so_far.syncs.ran.later in let rose = broke.rose in omega arith);
  call = λ tells.
      let told : IsTrue mid.tells_calls = broke.calls.goes_on.calls.told tells in
      let gained = broke.call tells in
      let before = so_far.syncs.some.done in
      record {
        gained = before ++ gained.gained;
        now_is = gained.now_is ∙ ap (λ (calls : List VaultDone). calls ++ gained.gained) (so_far.syncs.some.goes_on.calls.more told) ∙ append_assoc old.calls before gained.gained;
        one = any_later before gained.gained gained.one;
      };
  calls = calls_then old mid new so_far.syncs.some broke.calls;
  drafts = drafts_then old mid new so_far.syncs.some.goes_on.tells so_far.syncs.drafts broke.drafts;
  changes = stays_then Stays old mid new so_far.syncs.some.goes_on.tells so_far.syncs.changes broke.changes (λ files. refl);
}
