-- A call of the vault failed that reads no parity.
use Rattle.std.proofs.Common.{◌≡◌, ℕ, List, [], ◌∷◌, ◌++◌, length, map, Bool, true, false, ◌||◌, if◌then◌else◌, All, IsTrue, Result, Ok, Err, OnErr, refl, ◌∙◌, ap, subst, append_assoc, length-append, arith}
use Rattle.std.specs.List.{range_with_len, flat_map, list_any}
use Rattle.std.proofs.Math.Seq.{get_or-append_seam}
use Rattle.std.proofs.lemmas.List.Elements.{All-append, All-nil, All-cons, All-head, All-tail}
use Rattle.std.proofs.lemmas.List.Folds.{list_any_at}
use Rattle.disk_model.specs.Calls.{FailsBy}
use Rattle.disk_model.specs.Ran.{RanUpTo, Ran, log_of}
use Rattle.disk_model.specs.Vault.{plain_done, VaultView, VaultCall, VaultDone, ParityLen, ParityRead, ParityWrite, ParitySetLen, ParitySync, ContentSize, ContentRead, DraftBegin, DraftAppend, DraftSeal, Publish, SomeCalls, state_of}
use Rattle.disk_model.specs.declared.fault.Failed.{Failed}
use Rattle.content_file.specs.Save.{piece_count, append_call, append_calls, draft_calls, copy_calls, piecewise_calls}
use Rattle.parity_writer.specs.Calls.{IsLengthCall, sum_call, sum_calls, sync_calls}
use Rattle.parity_writer.specs.Chosen.{Choice, is_chosen, stripe_in, choice_calls, window_calls}
use Rattle.parity_writer.specs.WindowRow.{row_at}
use Rattle.stripe_reader.specs.WindowValue.{WindowValue}
use Rattle.snap_sync.specs.Work.{VaultBroke, broke_sync, is_vault_reading}

-- a call that reads no parity
abbrev pub Changing : VaultCall → Type 0
Changing call = is_vault_reading call ≡ false

-- of each of some numbers
pub each_changes : (calls : ℕ → List VaultCall) → ((n : ℕ) → All Changing (calls n)) → (ns : List ℕ) → All Changing (flat_map calls ns)
each_changes calls each [] = All-nil Changing
each_changes calls each (n ∷ ns) = All-append Changing (calls n) (flat_map calls ns) (each n) (each_changes calls each ns)

pub one_changes : (call : ℕ → VaultCall) → ((n : ℕ) → Changing (call n)) → (ns : List ℕ) → All Changing (map call ns)
one_changes call each [] = All-nil Changing
one_changes call each (n ∷ ns) = All-cons Changing (call n) (map call ns) (each n) (one_changes call each ns)

copy_changes : (size : ℕ) (bytes : List ℕ) (copy : ℕ) → All Changing (copy_calls size bytes copy)
copy_changes size bytes copy =
    let last = All-cons Changing (DraftSeal copy) [] refl (All-nil Changing) in
    let filled = All-append Changing (append_calls size copy bytes) (DraftSeal copy ∷ []) (one_changes (append_call size copy bytes) (λ n. refl) (range_with_len 0 (piece_count size bytes))) last in
    All-append Changing (draft_calls size bytes copy) (Publish copy ∷ [])
    (All-cons Changing (DraftBegin copy) (append_calls size copy bytes ++ DraftSeal copy ∷ []) refl filled)
    (All-cons Changing (Publish copy) [] refl (All-nil Changing))

pub pieces_change : (size copies : ℕ) (bytes : List ℕ) → All Changing (piecewise_calls size copies bytes)
pieces_change size copies bytes = each_changes (copy_calls size bytes) (copy_changes size bytes) (range_with_len 0 copies)

pub syncs_change : (levels : ℕ) → All Changing (sync_calls levels)
syncs_change levels = one_changes ParitySync (λ n. refl) (range_with_len 0 levels)

pub window_changes : (levels : ℕ) (window : WindowValue) (choice : Choice) (count : ℕ) → All Changing (window_calls levels window choice count)
window_changes levels window choice count = each_changes (choice_calls levels window choice) (λ i. by i (is_chosen choice i)) (range_with_len 0 count)
  where
    by : (i : ℕ) (chosen : Bool) → All Changing (if chosen then sum_calls levels window.block_size (stripe_in choice i) (row_at window i) else [])
    by i true = one_changes (sum_call window.block_size (stripe_in choice i) (row_at window i)) (λ n. refl) (range_with_len 0 levels)
    by i false = All-nil Changing

broke_by : (call : VaultCall) → Changing call → broke_sync (plain_done call true) ≡ true
broke_by call changing = ap (λ (b : Bool). if b then false else true) changing

-- the last call alone failed
one_broke : (earlier : List VaultDone) (call : VaultCall) → Changing call → IsTrue (list_any broke_sync (earlier ++ plain_done call true ∷ []))
one_broke earlier call changing =
    list_any_at broke_sync (earlier ++ plain_done call true ∷ []) (length earlier) (plain_done call true)
    (omega (arith, length-append earlier (plain_done call true ∷ [])))
    (ap broke_sync (get_or-append_seam earlier (plain_done call true) [] (plain_done call true)) ∙ broke_by call changing)

here : (P : VaultCall → Type 0) (xs : List VaultCall) (y : VaultCall) (ys : List VaultCall) → All P (xs ++ y ∷ ys) → P y
here P [] y ys all = All-head P y ys all
here P (x ∷ xs) y ys all = here P xs y ys (All-tail P x (xs ++ y ∷ ys) all)

pub broke_among : (calls : List VaultCall) (old new : VaultView) → All Changing calls → RanUpTo calls (log_of (state_of old)) (log_of (state_of new)) → VaultBroke old new
broke_among calls old new all up = record {
  rose = up.rose;
  call = λ told. record {
    gained = up.done ++ plain_done up.call true ∷ [];
    now_is = up.grown.more told;
    one = one_broke up.done up.call (here Changing up.earlier up.call up.later (subst (All Changing) up.whole all));
  };
}

pub broke_if_failed : {T : Type 0} (calls : List VaultCall) (result : Result T Failed) (old new : VaultView) → All Changing calls → Ran calls result (state_of old) (state_of new) → OnErr result (VaultBroke old new)
broke_if_failed calls (Ok x) old new all ran = tt
broke_if_failed calls (Err e) old new all ran = broke_among calls old new all ran

length_changes : (bytes : ℕ) (call : VaultCall) → IsLengthCall bytes call → Changing call
length_changes bytes (ParityLen level) is = refl
length_changes bytes (ParityRead level at n) is = absurd is
length_changes bytes (ParityWrite level at content) is = refl
length_changes bytes (ParitySetLen level len) is = refl
length_changes bytes (ParitySync level) is = refl
length_changes bytes (ContentSize copy) is = absurd is
length_changes bytes (ContentRead copy at n) is = absurd is
length_changes bytes (DraftBegin copy) is = refl
length_changes bytes (DraftAppend copy content) is = refl
length_changes bytes (DraftSeal copy) is = refl
length_changes bytes (Publish copy) is = refl

pub broke_lengths : (bytes : ℕ) (old new : VaultView) → FailsBy (IsLengthCall bytes) old new → VaultBroke old new
broke_lengths bytes old new fails = record {
  rose = fails.rose;
  call = λ told. record { gained = fails.earlier ++ plain_done fails.call true ∷ []; now_is = fails.made told; one = one_broke fails.earlier fails.call (length_changes bytes fails.call fails.is) };
}

-- after other calls
pub broke_after : (old mid new : VaultView) → SomeCalls old mid → SomeCalls mid new → VaultBroke mid new → VaultBroke old new
broke_after old mid new calls more broke = record {
  rose = omega (arith, calls.goes_on.later, broke.rose);
  call = λ told.
      let its = broke.call told in
      record {
        gained = calls.done ++ its.gained;
        now_is = its.now_is ∙ ap (λ cs. cs ++ its.gained) (calls.goes_on.calls.more (more.goes_on.calls.told told)) ∙ append_assoc old.calls calls.done its.gained;
        one = later calls.done its.gained its.one;
      };
}
  where
    later : (xs ys : List VaultDone) → IsTrue (list_any broke_sync ys) → IsTrue (list_any broke_sync (xs ++ ys))
    later [] ys one = one
    later (x ∷ xs) ys one = by (broke_sync x) (later xs ys one)
      where
        by : (b : Bool) {rest : Bool} → rest ≡ true → (b || rest) ≡ true
        by true rest = refl
        by false rest = rest
