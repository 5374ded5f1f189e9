-- Calls by how they ended, one after another.
use Rattle.std.proofs.Common.{◌≡◌, ℕ, suc, ◌+◌, ◌-◌, ◌<◌, ◌≤◌, List, [], ◌∷◌, ◌++◌, map, Bool, true, false, IsTrue, Result, Ok, Err, refl, sym, ◌∙◌, ap, subst, append_assoc, arith}
use Rattle.std.specs.List.{range_with_len, flat_map}
use Rattle.std.specs.Result.{IsErrAnd}
use Rattle.std.proofs.lemmas.List.{append-nil, map-append}
use Rattle.std.proofs.lemmas.List.FromFn.{map-range_with_len_more}
use Rattle.std.proofs.lemmas.Grind.{flat_map-append}
use Rattle.disk_model.specs.Answer.{is_failure}
use Rattle.disk_model.specs.Calls.{MakesThese, FailsAmong}
use Rattle.disk_model.specs.Cause.{Rose, Grows}
use Rattle.disk_model.specs.Ran.{Log, RanAll, RanUpTo, RanLog, Ran, log_of}
use Rattle.disk_model.specs.Vault.{VaultView, VaultState, VaultCall, plain_done, state_of, SomeCalls, IsCall}
use Rattle.disk_model.specs.declared.answer.Answer.{Answer}
use Rattle.disk_model.specs.declared.answer.Answer.TheVariants as answers
use Rattle.disk_model.specs.declared.answer.Answer.TheVariants.{Done}
use Rattle.disk_model.specs.declared.fault.Failed.{Failed}
use Rattle.disk_model.proofs.CallsLemmas.{well_then, well_one, failure_is}
use Rattle.disk_model.proofs.InOrder.{range_more, range_split}

-- what grew twice
pub grows_then : {A : Type 0} (t u v : Bool) (xs ys zs one two : List A) → Grows t xs u ys one → Grows u ys v zs two → Grows t xs v zs (one ++ two)
grows_then t u v xs ys zs one two a b = record {
  told = λ now. a.told (b.told now);
  more = λ now. b.more now ∙ ap (λ cs. cs ++ two) (a.more (b.told now)) ∙ append_assoc xs one two;
}

pub ran_none : (log : Log) → RanAll [] log log
ran_none log = record { later = omega arith; done = []; are = refl; grown = record { told = λ t. t; more = λ t. sym (append-nil log.calls) } }

-- some calls, and then others
pub ran_all_then : (one two : List VaultCall) (old mid new : Log) → RanAll one old mid → RanAll two mid new → RanAll (one ++ two) old new
ran_all_then one two old mid new a b = record {
  later = let l1 = a.later in let l2 = b.later in omega arith;
  done = a.done ++ b.done;
  are = well_then one two a.done b.done a.are b.are;
  grown = grows_then _ _ _ _ _ _ _ _ a.grown b.grown;
}

pub ran_up_then : (one two : List VaultCall) (old mid new : Log) → RanAll one old mid → RanUpTo two mid new → RanUpTo (one ++ two) old new
ran_up_then one two old mid new a b = record {
  rose = let l = a.later in let r = b.rose in omega arith;
  earlier = one ++ b.earlier;
  call = b.call;
  later = b.later;
  whole = ap (λ cs. one ++ cs) b.whole ∙ sym (append_assoc one b.earlier (b.call ∷ b.later));
  done = a.done ++ b.done;
  are = well_then one b.earlier a.done b.done a.are b.are;
  grown = subst (Grows old.tells old.calls new.tells new.calls) (sym (append_assoc a.done b.done (plain_done b.call true ∷ []))) (grows_then _ _ _ _ _ _ _ _ a.grown b.grown);
}

pub ran_then : (one two : List VaultCall) (failed : Bool) (old mid new : Log) → RanAll one old mid → RanLog two failed mid new → RanLog (one ++ two) failed old new
ran_then one two false old mid new a b = ran_all_then one two old mid new a b
ran_then one two true old mid new a b = ran_up_then one two old mid new a b

-- a call of a front failed
pub ran_front : (one two : List VaultCall) (old new : Log) → RanUpTo one old new → RanUpTo (one ++ two) old new
ran_front one two old new a = record {
  rose = a.rose;
  earlier = a.earlier;
  call = a.call;
  later = a.later ++ two;
  whole = ap (λ cs. cs ++ two) a.whole ∙ append_assoc a.earlier (a.call ∷ a.later) two;
  done = a.done;
  are = a.are;
  grown = a.grown;
}

-- one call
pub ran_one : (call : VaultCall) (answer : Answer) (old new : Log) → old.faults ≤ new.faults → (IsTrue (is_failure answer) → Rose old.faults new.faults)
    → Grows old.tells old.calls new.tells new.calls (record { call = call; answer = answer } ∷ []) → RanLog (call ∷ []) (is_failure answer) old new
ran_one call answer old new later rose grown = by (is_failure answer) refl
  where
    by : (failed : Bool) → is_failure answer ≡ failed → RanLog (call ∷ []) failed old new
    by false well = record { later = later; done = record { call = call; answer = answer } ∷ []; are = well_one call answer well; grown = grown }
    by true ill = record {
      rose = rose ill;
      earlier = [];
      call = call;
      later = [];
      whole = refl;
      done = [];
      are = refl;
      grown = subst (λ (a : Answer). Grows old.tells old.calls new.tells new.calls (record { call = call; answer = a } ∷ [])) (failure_is answer ill) grown;
    }

-- ---- for each of so many numbers, in order

pub ran_each_none : (call : ℕ → VaultCall) (log : Log) → RanAll (map call (range_with_len 0 0)) log log
ran_each_none call log = ran_none log

abbrev each : (ℕ → VaultCall) → ℕ → List VaultCall
each call n = map call (range_with_len 0 n)

-- the call on one number more went well
pub ran_each_more : (call : ℕ → VaultCall) (k : ℕ) (old mid new : Log) → RanAll (map call (range_with_len 0 k)) old mid → RanAll (call k ∷ []) mid new
    → RanAll (map call (range_with_len 0 (k + 1))) old new
ran_each_more call k old mid new so_far one =
    subst (λ calls. RanAll calls old new) (sym (map-range_with_len_more call 0 k k (omega arith))) (ran_all_then (each call k) (call k ∷ []) old mid new so_far one)

each_split : (call : ℕ → VaultCall) (k n : ℕ) → k < n → (each call k ++ call k ∷ []) ++ map call (range_with_len (k + 1) (n - suc k)) ≡ each call n
each_split call k n below =
    append_assoc (each call k) (call k ∷ []) (map call (range_with_len (k + 1) (n - suc k))) ∙ sym (map-append call (range_with_len 0 k) (k ∷ range_with_len (k + 1) (n - suc k))) ∙ ap (map call) (range_split k n below)

-- it failed
pub ran_each_fails : (call : ℕ → VaultCall) (k n : ℕ) (old mid new : Log) → k < n → RanAll (map call (range_with_len 0 k)) old mid → RanUpTo (call k ∷ []) mid new
    → RanUpTo (map call (range_with_len 0 n)) old new
ran_each_fails call k n old mid new below so_far one =
    subst (λ calls. RanUpTo calls old new) (each_split call k n below)
    (ran_front (each call k ++ call k ∷ []) (map call (range_with_len (k + 1) (n - suc k))) old new (ran_up_then (each call k) (call k ∷ []) old mid new so_far one))

-- the calls for one number more went well
pub ran_all_more : (calls : ℕ → List VaultCall) (k : ℕ) (old mid new : Log) → RanAll (flat_map calls (range_with_len 0 k)) old mid → RanAll (calls k) mid new
    → RanAll (flat_map calls (range_with_len 0 (k + 1))) old new
ran_all_more calls k old mid new so_far these =
    subst (λ cs. RanAll cs old new)
    (ap (λ cs. flat_map calls (range_with_len 0 k) ++ cs) (sym (append-nil (calls k))) ∙ sym (flat_map-append calls (range_with_len 0 k) (k ∷ [])) ∙ ap (flat_map calls) (range_more k))
    (ran_all_then (flat_map calls (range_with_len 0 k)) (calls k) old mid new so_far these)

-- one of them failed
pub ran_all_fails : (calls : ℕ → List VaultCall) (k n : ℕ) (old mid new : Log) → k < n → RanAll (flat_map calls (range_with_len 0 k)) old mid → RanUpTo (calls k) mid new
    → RanUpTo (flat_map calls (range_with_len 0 n)) old new
ran_all_fails calls k n old mid new below so_far these =
    let rest = flat_map calls (range_with_len (k + 1) (n - suc k)) in
    subst (λ cs. RanUpTo cs old new)
    (sym (flat_map-append calls (range_with_len 0 k) (k ∷ range_with_len (k + 1) (n - suc k))) ∙ ap (flat_map calls) (range_split k n below))
    (ran_up_then (flat_map calls (range_with_len 0 k)) (calls k ++ rest) old mid new so_far (ran_front (calls k) rest mid new these))

-- ---- one call of a vault

pub ran_call : {T : Type 0} (call : VaultCall) (result : Result T Failed) (old new : VaultView) → IsCall call result old new → Ran (call ∷ []) result (state_of old) (state_of new)
ran_call call (Ok x) old new called = ran_one call Done (log_of (state_of old)) (log_of (state_of new)) called.goes_on.later (λ failed. absurd (let clash : false ≡ true = failed in cc)) called.goes_on.calls
ran_call call (Err e) old new called = ran_one call answers.Failed (log_of (state_of old)) (log_of (state_of new)) called.goes_on.later (λ failed. called.cause) called.goes_on.calls

-- what a `?` hands on
pub ran_exit : {T : Type 0} (P : Failed → Type 0) (calls : List VaultCall) (result : Result T Failed) (old new : VaultState) → IsErrAnd result P
    → RanUpTo calls (log_of old) (log_of new) → Ran calls result old new
ran_exit P calls (Ok x) old new is up = absurd is
ran_exit P calls (Err e) old new is up = up

-- ---- from what is said of views

pub ran_of_these : (calls : List VaultCall) (old new : VaultView) → SomeCalls old new → MakesThese calls old new → RanAll calls (log_of (state_of old)) (log_of (state_of new))
ran_of_these calls old new some these = record { later = some.goes_on.later; done = these.done; are = these.are; grown = these.grown }

pub ran_of_among : (calls : List VaultCall) (old new : VaultView) → SomeCalls old new → FailsAmong calls old new → RanUpTo calls (log_of (state_of old)) (log_of (state_of new))
ran_of_among calls old new some among = record {
  rose = among.rose;
  earlier = among.earlier;
  call = among.call;
  later = among.later;
  whole = among.whole;
  done = among.done;
  are = among.are;
  grown = record { told = some.goes_on.calls.told; more = among.made };
}
