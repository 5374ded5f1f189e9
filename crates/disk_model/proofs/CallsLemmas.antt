-- Calls of some kind, one after another.
use Rattle.std.proofs.Common.{◌≡◌, ◌≤◌, ℕ, List, [], ◌∷◌, ◌++◌, Bool, true, false, IsTrue, Result, Ok, Err, OnOk, OnErr, refl, sym, ◌∙◌, ap, ap₂, subst, append_assoc, arith, All}
use Rattle.std.proofs.lemmas.List.{append-nil, map-append}
use Rattle.std.proofs.lemmas.List.Elements.{All-append, All-nil, All-cons, All-head, All-tail}
use Rattle.disk_model.specs.Cause.{Rose}
use Rattle.disk_model.specs.Calls.{WentWell, MakesOnly, Makes, LastFailed, FailsBy, MakesThese, FailsAmong, WentWellAs, gone_well}
use Rattle.disk_model.specs.Answer.{is_failure}
use Rattle.disk_model.specs.Vault.{VaultView, VaultCall, VaultDone, VaultOutcome, plain_done, outcome_of, writes_vault, GoesOn, SomeCalls, IsCall, IsUnwritten}
use Rattle.disk_model.specs.declared.answer.Answer.{Answer}
use Rattle.disk_model.specs.declared.answer.Answer.TheVariants.{Failed, OutOfMemory, Missing, Done, Saw, Bytes, Kept}
use Rattle.disk_model.specs.declared.fault.Failed.{Failed as Fault}
use Rattle.disk_model.proofs.CountLemmas.{counts_none, writes_then, none_writes, counts_stay}

abbrev Is : (VaultCall → Type 0) → VaultDone → Type 0
Is P d = P d.call

-- ---- whether they failed or not

pub only_none : (P : VaultCall → Type 0) (v : VaultView) → MakesOnly P v v
only_none P v = record { done = []; grown = record { told = λ t. t; more = λ t. sym (append-nil v.calls) }; writes = counts_none v.writes; each = All-nil (Is P) }

pub only_one : (P : VaultCall → Type 0) (old new : VaultView) (call : VaultCall) (answer : Answer) → P call → GoesOn old new (record { call = call; answer = answer } ∷ []) → MakesOnly P old new
only_one P old new call answer is goes_on = record { done = record { call = call; answer = answer } ∷ []; grown = goes_on.calls; writes = goes_on.writes; each = All-cons (Is P) (record { call = call; answer = answer }) [] is (All-nil (Is P)) }

pub only_then : (P : VaultCall → Type 0) (old mid new : VaultView) → MakesOnly P old mid → MakesOnly P mid new → MakesOnly P old new
only_then P old mid new one two = record {
  done = one.done ++ two.done;
  grown = record {
    told = λ t. one.grown.told (two.grown.told t);
    more = λ t. two.grown.more t ∙ ap (λ cs. cs ++ two.done) (one.grown.more (two.grown.told t)) ∙ append_assoc old.calls one.done two.done;
  };
  writes = writes_then one.done two.done old.writes mid.writes new.writes one.writes two.writes;
  each = All-append (Is P) one.done two.done one.each two.each;
}

pub only_wider : (P Q : VaultCall → Type 0) (old new : VaultView) → ((call : VaultCall) → P call → Q call) → MakesOnly P old new → MakesOnly Q old new
only_wider P Q old new wider only = record { done = only.done; grown = only.grown; writes = only.writes; each = λ k d below. wider _ (only.each k d below) }

-- calls that only read leave the count
pub only_reads : (P : VaultCall → Type 0) (old new : VaultView) → ((call : VaultCall) → P call → writes_vault call ≡ false) → MakesOnly P old new → IsUnwritten old new
only_reads P old new reads only = counts_stay old.writes new.writes (none_writes P only.done reads only.each) only.writes

-- ---- where none failed

pub makes_none : (P : VaultCall → Type 0) (v : VaultView) → Makes P v v
makes_none P v = record { done = []; grown = record { told = λ t. t; more = λ t. sym (append-nil v.calls) }; writes = counts_none v.writes; each = All-nil (WentWell P) }

-- a call that went well
pub makes_one : (P : VaultCall → Type 0) (old new : VaultView) (call : VaultCall) (answer : Answer) → P call → is_failure answer ≡ false → GoesOn old new (record { call = call; answer = answer } ∷ []) → Makes P old new
makes_one P old new call answer is well goes_on = record {
  done = record { call = call; answer = answer } ∷ [];
  grown = goes_on.calls;
  writes = goes_on.writes;
  each = All-cons (WentWell P) (record { call = call; answer = answer }) [] (record { is = is; unfailed = well }) (All-nil (WentWell P));
}

pub makes_then : (P : VaultCall → Type 0) (old mid new : VaultView) → Makes P old mid → Makes P mid new → Makes P old new
makes_then P old mid new one two = record {
  done = one.done ++ two.done;
  grown = record {
    told = λ t. one.grown.told (two.grown.told t);
    more = λ t. two.grown.more t ∙ ap (λ cs. cs ++ two.done) (one.grown.more (two.grown.told t)) ∙ append_assoc old.calls one.done two.done;
  };
  writes = writes_then one.done two.done old.writes mid.writes new.writes one.writes two.writes;
  each = All-append (WentWell P) one.done two.done one.each two.each;
}

went_wider : (P Q : VaultCall → Type 0) → ((call : VaultCall) → P call → Q call) → (done : VaultDone) → WentWell P done → WentWell Q done
went_wider P Q wider done well = record { is = wider done.call well.is; unfailed = well.unfailed }

-- of a wider kind
pub makes_wider : (P Q : VaultCall → Type 0) (old new : VaultView) → ((call : VaultCall) → P call → Q call) → Makes P old new → Makes Q old new
makes_wider P Q old new wider makes = record { done = makes.done; grown = makes.grown; writes = makes.writes; each = λ k d below. went_wider P Q wider _ (makes.each k d below) }

pub makes_only : (P : VaultCall → Type 0) (old new : VaultView) → Makes P old new → MakesOnly P old new
makes_only P old new makes = record { done = makes.done; grown = makes.grown; writes = makes.writes; each = λ k d below. (makes.each k d below).is }

-- ---- where the last failed

-- the one answer that is a failure
pub failure_is : (answer : Answer) → is_failure answer ≡ true → answer ≡ Failed
failure_is Failed is = refl
failure_is OutOfMemory is = absurd (let clash : false ≡ true = is in cc)
failure_is Missing is = absurd (let clash : false ≡ true = is in cc)
failure_is Done is = absurd (let clash : false ≡ true = is in cc)
failure_is (Saw meta) is = absurd (let clash : false ≡ true = is in cc)
failure_is (Bytes n) is = absurd (let clash : false ≡ true = is in cc)
failure_is (Kept kept) is = absurd (let clash : false ≡ true = is in cc)

-- a call that failed
pub fails_one : (P : VaultCall → Type 0) (old new : VaultView) (call : VaultCall) (answer : Answer) → P call → is_failure answer ≡ true → Rose old.faults new.faults
    → GoesOn old new (record { call = call; answer = answer } ∷ []) → FailsBy P old new
fails_one P old new call answer is ill rose goes_on = record {
  rose = rose;
  earlier = [];
  each = All-nil (WentWell P);
  call = call;
  is = is;
  made = λ t. goes_on.calls.more t ∙ ap (λ (a : Answer). old.calls ++ (let d : VaultDone = record { call = call; answer = a } in d) ∷ []) (failure_is answer ill);
}

-- after calls that went well
pub fails_after : (P : VaultCall → Type 0) (old mid new : VaultView) → old.faults ≤ mid.faults → (IsTrue new.tells_calls → IsTrue mid.tells_calls) → Makes P old mid → FailsBy P mid new → FailsBy P old new
fails_after P old mid new later still one two = record {
  rose = omega (arith, later, two.rose);
  earlier = one.done ++ two.earlier;
  each = All-append (WentWell P) one.done two.earlier one.each two.each;
  call = two.call;
  is = two.is;
  made = λ t. two.made t ∙ ap (λ cs. cs ++ (two.earlier ++ last)) (one.grown.more (still t)) ∙ append_assoc old.calls one.done (two.earlier ++ last) ∙ ap (λ cs. old.calls ++ cs) (sym (append_assoc one.done two.earlier last));
}
  where
    last : List VaultDone
    last = plain_done two.call true ∷ []

pub fails_wider : (P Q : VaultCall → Type 0) (faults : ℕ) (calls : List VaultDone) (new : VaultView) → ((call : VaultCall) → P call → Q call) → LastFailed P faults calls new → LastFailed Q faults calls new
fails_wider P Q faults calls new wider fails = record {
  rose = fails.rose;
  earlier = fails.earlier;
  each = λ k d below. went_wider P Q wider _ (fails.each k d below);
  call = fails.call;
  is = wider fails.call fails.is;
  made = fails.made;
}

-- ---- calls in a given order

pub well_then : (one two : List VaultCall) (done more : List VaultDone) → WentWellAs one done → WentWellAs two more → WentWellAs (one ++ two) (done ++ more)
well_then one two done more a b =
    map-append outcome_of done more ∙ ap₂ (λ (xs ys : List VaultOutcome). xs ++ ys) a b ∙ sym (map-append gone_well one two)

pub well_one : (call : VaultCall) (answer : Answer) → is_failure answer ≡ false → WentWellAs (call ∷ []) (record { call = call; answer = answer } ∷ [])
well_one call answer well = ap (λ (failed : Bool). (let o : VaultOutcome = record { call = call; failed = failed } in o) ∷ []) well

pub these_none : (v : VaultView) → MakesThese [] v v
these_none v = record { done = []; are = refl; writes = counts_none v.writes; grown = record { told = λ t. t; more = λ t. sym (append-nil v.calls) } }

-- one more that went well
pub these_more : (calls : List VaultCall) (call : VaultCall) (answer : Answer) (old mid new : VaultView) → is_failure answer ≡ false → MakesThese calls old mid
    → GoesOn mid new (record { call = call; answer = answer } ∷ []) → MakesThese (calls ++ call ∷ []) old new
these_more calls call answer old mid new well one goes_on = record {
  done = one.done ++ record { call = call; answer = answer } ∷ [];
  are = well_then calls (call ∷ []) one.done (record { call = call; answer = answer } ∷ []) one.are (well_one call answer well);
  writes = writes_then one.done (record { call = call; answer = answer } ∷ []) old.writes mid.writes new.writes one.writes goes_on.writes;
  grown = record {
    told = λ t. one.grown.told (goes_on.calls.told t);
    more = λ t.
        goes_on.calls.more t
        ∙ ap (λ cs. cs ++ record { call = call; answer = answer } ∷ []) (one.grown.more (goes_on.calls.told t))
        ∙ append_assoc old.calls one.done (record { call = call; answer = answer } ∷ []);
  };
}

-- one more that failed
pub among_one : (earlier later : List VaultCall) (call : VaultCall) (answer : Answer) (old mid new : VaultView) → is_failure answer ≡ true → old.faults ≤ mid.faults → Rose mid.faults new.faults
    → MakesThese earlier old mid → GoesOn mid new (record { call = call; answer = answer } ∷ []) → FailsAmong (earlier ++ call ∷ later) old new
among_one earlier later call answer old mid new ill grown rose one goes_on = record {
  rose = omega (arith, grown, rose);
  earlier = earlier;
  call = call;
  later = later;
  whole = refl;
  done = one.done;
  are = one.are;
  made = λ t.
      goes_on.calls.more t
      ∙ ap (λ (a : Answer). mid.calls ++ (let d : VaultDone = record { call = call; answer = a } in d) ∷ []) (failure_is answer ill)
      ∙ ap (λ cs. cs ++ plain_done call true ∷ []) (one.grown.more (goes_on.calls.told t))
      ∙ append_assoc old.calls one.done (plain_done call true ∷ []);
}

-- of a list in two parts
all_front : (P : VaultCall → Type 0) (xs ys : List VaultCall) → All P (xs ++ ys) → All P xs
all_front P [] ys all = All-nil P
all_front P (x ∷ xs) ys all = All-cons P x xs (All-head P x (xs ++ ys) all) (all_front P xs ys (All-tail P x (xs ++ ys) all))

all_here : (P : VaultCall → Type 0) (xs : List VaultCall) (y : VaultCall) (ys : List VaultCall) → All P (xs ++ y ∷ ys) → P y
all_here P [] y ys all = All-head P y ys all
all_here P (x ∷ xs) y ys all = all_here P xs y ys (All-tail P x (xs ++ y ∷ ys) all)

-- each of these is of a kind that the calls are of, and did not fail
well_as_all : (P : VaultCall → Type 0) (calls : List VaultCall) (done : List VaultDone) → WentWellAs calls done → All P calls → All (WentWell P) done
well_as_all P [] [] are all = All-nil (WentWell P)
well_as_all P [] (d ∷ done) are all = absurd cc
well_as_all P (call ∷ calls) [] are all = absurd cc
well_as_all P (call ∷ calls) (d ∷ done) are all =
    All-cons (WentWell P) d done (record { is = subst P (sym call_is) (All-head P call calls all); unfailed = well })
    (well_as_all P calls done (ap rest are) (All-tail P call calls all))
  where
    here : List VaultOutcome → VaultOutcome
    here [] = gone_well call
    here (o ∷ os) = o

    rest : List VaultOutcome → List VaultOutcome
    rest [] = []
    rest (o ∷ os) = os

    call_is : d.call ≡ call
    call_is = ap (λ (os : List VaultOutcome). (here os).call) are

    well : is_failure d.answer ≡ false
    well = ap (λ (os : List VaultOutcome). (here os).failed) are

-- they are of some kind
pub these_make : (P : VaultCall → Type 0) (calls : List VaultCall) (old new : VaultView) → All P calls → MakesThese calls old new → Makes P old new
these_make P calls old new all these = record { done = these.done; grown = these.grown; writes = these.writes; each = well_as_all P calls these.done these.are all }

pub among_fails : (P : VaultCall → Type 0) (calls : List VaultCall) (old new : VaultView) → All P calls → FailsAmong calls old new → FailsBy P old new
among_fails P calls old new all among =
    let split = subst (All P) among.whole all in
    record {
      rose = among.rose;
      earlier = among.done;
      each = well_as_all P among.earlier among.done among.are (all_front P among.earlier (among.call ∷ among.later) split);
      call = among.call;
      is = all_here P among.earlier among.call among.later split;
      made = among.made;
    }

-- ---- one call, by its answer

pub call_makes : {T : Type 0} (P : VaultCall → Type 0) (call : VaultCall) (result : Result T Fault) (old new : VaultView) → P call → IsCall call result old new → OnOk result (Makes P old new)
call_makes P call (Ok x) old new is called = makes_one P old new call Done is refl called.goes_on
call_makes P call (Err e) old new is called = tt

pub call_fails : {T : Type 0} (P : VaultCall → Type 0) (call : VaultCall) (result : Result T Fault) (old new : VaultView) → P call → IsCall call result old new → OnErr result (FailsBy P old new)
call_fails P call (Ok x) old new is called = tt
call_fails P call (Err e) old new is called = fails_one P old new call Failed is refl called.cause called.goes_on

-- what is done after calls that went well
pub then_makes : {T E : Type 0} (P : VaultCall → Type 0) (result : Result T E) (old mid new : VaultView) → Makes P old mid → OnOk result (Makes P mid new) → OnOk result (Makes P old new)
then_makes P (Ok x) old mid new one two = makes_then P old mid new one two
then_makes P (Err e) old mid new one two = tt

pub then_fails : {T E : Type 0} (P : VaultCall → Type 0) (result : Result T E) (old mid new : VaultView) → SomeCalls old mid → SomeCalls mid new → Makes P old mid → OnErr result (FailsBy P mid new) → OnErr result (FailsBy P old new)
then_fails P (Ok x) old mid new before after one two = tt
then_fails P (Err e) old mid new before after one two = fails_after P old mid new before.goes_on.later after.goes_on.calls.told one two
