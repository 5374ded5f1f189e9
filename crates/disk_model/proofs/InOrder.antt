-- Calls in a given order: of two lists, of each of so many numbers.
use Rattle.std.proofs.Common.{◌≡◌, ℕ, zero, suc, ◌+◌, ◌-◌, ◌<◌, ◌≤◌, List, [], ◌∷◌, ◌++◌, map, true, false, IsTrue, Result, Ok, Err, OnOk, OnErr, refl, sym, ◌∙◌, ap, subst, append_assoc, arith}
use Rattle.std.specs.List.{range_with_len, flat_map}
use Rattle.std.proofs.lemmas.List.{append-nil, map-append}
use Rattle.std.proofs.lemmas.List.FromFn.{map-range_with_len_more}
use Rattle.std.proofs.lemmas.Grind.{flat_map-append}
use Rattle.disk_model.specs.Answer.{is_failure}
use Rattle.disk_model.specs.Calls.{MakesThese, FailsAmong}
use Rattle.disk_model.specs.Cause.{Rose}
use Rattle.disk_model.specs.Vault.{plain_done, VaultView, VaultCall, VaultDone, GoesOn, SomeCalls, IsCall}
use Rattle.disk_model.specs.declared.answer.Answer.{Answer}
use Rattle.disk_model.specs.declared.answer.Answer.TheVariants as answers
use Rattle.disk_model.specs.declared.answer.Answer.TheVariants.{Done}
use Rattle.disk_model.specs.declared.fault.Failed.{Failed}
use Rattle.disk_model.proofs.CountLemmas.{writes_then}
use Rattle.disk_model.proofs.CallsLemmas.{well_then, these_none, these_more, among_one}

-- ---- two lists

pub these_then : (one two : List VaultCall) (old mid new : VaultView) → MakesThese one old mid → MakesThese two mid new → MakesThese (one ++ two) old new
these_then one two old mid new a b = record {
  done = a.done ++ b.done;
  are = well_then one two a.done b.done a.are b.are;
  writes = writes_then a.done b.done old.writes mid.writes new.writes a.writes b.writes;
  grown = record {
    told = λ t. a.grown.told (b.grown.told t);
    more = λ t. b.grown.more t ∙ ap (λ cs. cs ++ b.done) (a.grown.more (b.grown.told t)) ∙ append_assoc old.calls a.done b.done;
  };
}

-- the first list was made, and a call of the second failed
pub among_then : (one two : List VaultCall) (old mid new : VaultView) → old.faults ≤ mid.faults → (IsTrue new.tells_calls → IsTrue mid.tells_calls) → MakesThese one old mid → FailsAmong two mid new → FailsAmong (one ++ two) old new
among_then one two old mid new later still a b = record {
  rose = omega (arith, later, b.rose);
  earlier = one ++ b.earlier;
  call = b.call;
  later = b.later;
  whole = ap (λ cs. one ++ cs) b.whole ∙ sym (append_assoc one b.earlier (b.call ∷ b.later));
  done = a.done ++ b.done;
  are = well_then one b.earlier a.done b.done a.are b.are;
  made = λ t.
      b.made t
      ∙ ap (λ cs. cs ++ (b.done ++ last)) (a.grown.more (still t))
      ∙ append_assoc old.calls a.done (b.done ++ last)
      ∙ ap (λ cs. old.calls ++ cs) (sym (append_assoc a.done b.done last));
}
  where
    last : List VaultDone
    last = plain_done b.call true ∷ []

-- a call of the first list failed
pub among_front : (one two : List VaultCall) (old new : VaultView) → FailsAmong one old new → FailsAmong (one ++ two) old new
among_front one two old new a = record {
  rose = a.rose;
  earlier = a.earlier;
  call = a.call;
  later = a.later ++ two;
  whole = ap (λ cs. cs ++ two) a.whole ∙ append_assoc a.earlier (a.call ∷ a.later) two;
  done = a.done;
  are = a.are;
  made = a.made;
}

-- ---- one call, by its answer

pub call_these : {T : Type 0} (call : VaultCall) (result : Result T Failed) (old new : VaultView) → IsCall call result old new → OnOk result (MakesThese (call ∷ []) old new)
call_these call (Ok x) old new called = these_more [] call Done old old new refl (these_none old) called.goes_on
call_these call (Err e) old new called = tt

pub call_among : {T : Type 0} (call : VaultCall) (result : Result T Failed) (old new : VaultView) → IsCall call result old new → OnErr result (FailsAmong (call ∷ []) old new)
call_among call (Ok x) old new called = tt
call_among call (Err e) old new called = among_one [] [] call answers.Failed old old new refl (omega arith) called.cause (these_none old) called.goes_on

-- what is done after calls that went well
pub then_these : {T E : Type 0} (one two : List VaultCall) (result : Result T E) (old mid new : VaultView) → MakesThese one old mid → OnOk result (MakesThese two mid new) → OnOk result (MakesThese (one ++ two) old new)
then_these one two (Ok x) old mid new a b = these_then one two old mid new a b
then_these one two (Err e) old mid new a b = tt

pub then_among : {T E : Type 0} (one two : List VaultCall) (result : Result T E) (old mid new : VaultView) → SomeCalls old mid → SomeCalls mid new → MakesThese one old mid → OnErr result (FailsAmong two mid new) → OnErr result (FailsAmong (one ++ two) old new)
then_among one two (Ok x) old mid new before after a b = tt
then_among one two (Err e) old mid new before after a b = among_then one two old mid new before.goes_on.later after.goes_on.calls.told a b

-- ---- for each of so many numbers, in order

-- one call
abbrev pub each_of : (ℕ → VaultCall) → ℕ → List VaultCall
each_of call n = map call (range_with_len 0 n)

-- some calls
abbrev pub all_of : (ℕ → List VaultCall) → ℕ → List VaultCall
all_of calls n = flat_map calls (range_with_len 0 n)

range_in_two : (a m n : ℕ) → range_with_len a (m + suc n) ≡ range_with_len a m ++ (a + m) ∷ range_with_len (a + m + 1) n
range_in_two a zero n =
    let here : a ≡ a + 0 = omega arith in
    let more : 0 + suc n ≡ suc n = omega arith in
    ap (range_with_len a) more ∙ ap (λ b. b ∷ range_with_len (b + 1) n) here
range_in_two a (suc m) n =
    let more : suc m + suc n ≡ suc (m + suc n) = omega arith in
    let there : a + 1 + m ≡ a + suc m = omega arith in
    ap (range_with_len a) more
    ∙ ap (λ xs. a ∷ xs) (range_in_two (a + 1) m n)
    ∙ ap (λ b. a ∷ (range_with_len (a + 1) m ++ b ∷ range_with_len (b + 1) n)) there

-- one of the numbers stands between those before it and those after it
pub range_split : (k n : ℕ) → k < n → range_with_len 0 k ++ k ∷ range_with_len (k + 1) (n - suc k) ≡ range_with_len 0 n
range_split k n below =
    let whole : k + suc (n - suc k) ≡ n = omega (arith, below) in
    let here : 0 + k ≡ k = omega arith in
    ap (λ b. range_with_len 0 k ++ b ∷ range_with_len (b + 1) (n - suc k)) (sym here)
    ∙ sym (range_in_two 0 k (n - suc k))
    ∙ ap (range_with_len 0) whole

pub range_more : (k : ℕ) → range_with_len 0 k ++ k ∷ [] ≡ range_with_len 0 (k + 1)
range_more k =
    let one : k + 1 - suc k ≡ 0 = omega arith in
    ap (λ n. range_with_len 0 k ++ k ∷ range_with_len (k + 1) n) (sym one) ∙ range_split k (k + 1) (omega arith)

each_split : (call : ℕ → VaultCall) (k n : ℕ) → k < n → each_of call k ++ call k ∷ map call (range_with_len (k + 1) (n - suc k)) ≡ each_of call n
each_split call k n below = sym (map-append call (range_with_len 0 k) (k ∷ range_with_len (k + 1) (n - suc k))) ∙ ap (map call) (range_split k n below)

-- the call on one number more went well
pub each_more : (call : ℕ → VaultCall) (made : VaultCall) (k : ℕ) (answer : Answer) (old mid new : VaultView) → made ≡ call k → is_failure answer ≡ false
    → MakesThese (each_of call k) old mid → GoesOn mid new (record { call = made; answer = answer } ∷ []) → MakesThese (each_of call (k + 1)) old new
each_more call made k answer old mid new is well so_far goes_on =
    subst (λ calls. MakesThese calls old new)
    (ap (λ c. each_of call k ++ c ∷ []) is ∙ sym (map-range_with_len_more call 0 k k (omega arith)))
    (these_more (each_of call k) made answer old mid new well so_far goes_on)

-- it failed
pub each_fails : (call : ℕ → VaultCall) (made : VaultCall) (k n : ℕ) (answer : Answer) (old mid new : VaultView) → k < n → made ≡ call k → is_failure answer ≡ true → old.faults ≤ mid.faults → Rose mid.faults new.faults
    → MakesThese (each_of call k) old mid → GoesOn mid new (record { call = made; answer = answer } ∷ []) → FailsAmong (each_of call n) old new
each_fails call made k n answer old mid new below is ill later rose so_far goes_on =
    subst (λ calls. FailsAmong calls old new)
    (ap (λ c. each_of call k ++ c ∷ map call (range_with_len (k + 1) (n - suc k))) is ∙ each_split call k n below)
    (among_one (each_of call k) (map call (range_with_len (k + 1) (n - suc k))) made answer old mid new ill later rose so_far goes_on)

-- the calls for one number more went well
pub all_more : (calls : ℕ → List VaultCall) (k : ℕ) (old mid new : VaultView) → MakesThese (all_of calls k) old mid → MakesThese (calls k) mid new → MakesThese (all_of calls (k + 1)) old new
all_more calls k old mid new so_far these =
    subst (λ cs. MakesThese cs old new)
    (ap (λ cs. all_of calls k ++ cs) (sym (append-nil (calls k))) ∙ sym (flat_map-append calls (range_with_len 0 k) (k ∷ [])) ∙ ap (flat_map calls) (range_more k))
    (these_then (all_of calls k) (calls k) old mid new so_far these)

-- one of them failed
pub all_fail : (calls : ℕ → List VaultCall) (k n : ℕ) (old mid new : VaultView) → k < n → old.faults ≤ mid.faults → (IsTrue new.tells_calls → IsTrue mid.tells_calls)
    → MakesThese (all_of calls k) old mid → FailsAmong (calls k) mid new → FailsAmong (all_of calls n) old new
all_fail calls k n old mid new below later still so_far among =
    let rest = flat_map calls (range_with_len (k + 1) (n - suc k)) in
    subst (λ cs. FailsAmong cs old new)
    (sym (flat_map-append calls (range_with_len 0 k) (k ∷ range_with_len (k + 1) (n - suc k))) ∙ ap (flat_map calls) (range_split k n below))
    (among_then (all_of calls k) (calls k ++ rest) old mid new later still so_far (among_front (calls k) rest mid new among))
