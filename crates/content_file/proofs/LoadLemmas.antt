-- The calls that loading makes, one after another.
use Rattle.std.proofs.Common.{◌≡◌, inl, inr, ℕ, ◌+◌, ◌<◌, ◌≤◌, List, [], ◌∷◌, ◌++◌, true, false, IsTrue, arith, sym, ◌∙◌, ap, subst, append_assoc}
use Rattle.std.proofs.lemmas.List.{append-nil}
use Rattle.std.specs.List.{AllByRecursion}
use Rattle.disk_model.specs.Answer.{is_failure}
use Rattle.disk_model.specs.Cause.{Rose}
use Rattle.disk_model.specs.Vault.{VaultView, VaultCall, VaultDone, plain_done, GoesOn, SomeCalls, copies_of}
use Rattle.disk_model.specs.declared.answer.Answer.{Answer}
use Rattle.std.proofs.lemmas.List.Elements.{recursion_from_All}
use Rattle.disk_model.specs.Calls.{MakesOnly}
use Rattle.disk_model.specs.Vault.{ContentSize, ContentRead}
use Rattle.disk_model.proofs.CallsLemmas.{only_then, only_wider}
use Rattle.content_file.specs.Load.{IsReadOf, IsReadBelow, HasFailed, NoneFailed, IsReadWell}

-- a call that failed, as the last of some
pub failed_last : (old mid new : VaultView) (call : VaultCall) (copy : ℕ) → SomeCalls old mid → GoesOn mid new (plain_done call true ∷ []) → Rose mid.faults new.faults
    → copy < copies_of old → IsReadOf copy call → HasFailed old new copy
failed_last old mid new call copy one two rose within read = record {
  within = within;
  rose = omega (arith, one.goes_on.later, rose);
  earlier = one.done;
  call = call;
  later = [];
  read = read;
  made = λ told. two.calls.more told ∙ ap (λ cs. cs ++ plain_done call true ∷ []) (one.goes_on.calls.more (two.calls.told told));
}

-- one that failed earlier
pub failed_before : (old mid new : VaultView) (copy : ℕ) → HasFailed old mid copy → SomeCalls mid new → HasFailed old new copy
failed_before old mid new copy one two = record {
  within = one.within;
  rose = omega (arith, one.rose, two.goes_on.later);
  earlier = one.earlier;
  call = one.call;
  later = one.later ++ two.done;
  read = one.read;
  made = λ told. two.goes_on.calls.more told ∙ ap (λ cs. cs ++ two.done) (one.made (two.goes_on.calls.told told))
      ∙ append_assoc (old.calls ++ one.earlier) (plain_done one.call true ∷ one.later) two.done;
}

-- one that failed after others
pub failed_after : (old mid new : VaultView) (copy : ℕ) → SomeCalls old mid → HasFailed mid new copy → (IsTrue new.tells_calls → IsTrue mid.tells_calls) → HasFailed old new copy
failed_after old mid new copy one two still = record {
  within = subst (λ n. copy < n) one.goes_on.copies two.within;
  rose = omega (arith, one.goes_on.later, two.rose);
  earlier = one.done ++ two.earlier;
  call = two.call;
  later = two.later;
  read = two.read;
  made = λ told. two.made told ∙ ap (λ cs. cs ++ plain_done two.call true ∷ two.later)
      (ap (λ cs. cs ++ two.earlier) (one.goes_on.calls.more (still told)) ∙ append_assoc old.calls one.done two.earlier);
}

-- no call
pub none_failed_yet : (v : VaultView) → NoneFailed v v
none_failed_yet v = record { done = []; grown = record { told = λ t. t; more = λ t. sym (append-nil v.calls) }; each = tt }

all_then : (first second : List VaultDone) → AllByRecursion (λ (d : VaultDone). is_failure d.answer ≡ false) first → AllByRecursion (λ (d : VaultDone). is_failure d.answer ≡ false) second → AllByRecursion (λ (d : VaultDone). is_failure d.answer ≡ false) (first ++ second)
all_then [] second one two = two
all_then (d ∷ first) second one two = (one.0, all_then first second one.1 two)

pub none_failed_then : (old mid new : VaultView) → NoneFailed old mid → NoneFailed mid new → NoneFailed old new
none_failed_then old mid new one two = record {
  done = one.done ++ two.done;
  grown = record {
    told = λ t. one.grown.told (two.grown.told t);
    more = λ t. two.grown.more t ∙ ap (λ cs. cs ++ two.done) (one.grown.more (two.grown.told t)) ∙ append_assoc old.calls one.done two.done;
  };
  each = all_then one.done two.done one.each two.each;
}

-- one call that did not fail
pub one_not_failed : (old new : VaultView) (call : VaultCall) (answer : Answer) → is_failure answer ≡ false → GoesOn old new (record { call = call; answer = answer } ∷ []) → NoneFailed old new
one_not_failed old new call answer not goes_on = record { done = record { call = call; answer = answer } ∷ []; grown = goes_on.calls; each = (not, tt) }

-- ---- which copies were read

copy_in : VaultCall → ℕ
copy_in (ContentSize copy) = copy
copy_in (ContentRead copy at n) = copy
copy_in _ = 0

is_of : (copy : ℕ) (call : VaultCall) → IsReadOf copy call → copy_in call ≡ copy
unfolding copy_in
is_of copy call (inl size) = ap copy_in size
is_of copy call (inr read) = ap copy_in read.3

-- the copies so far, and one more
pub below_then : (copies : ℕ) (old mid new : VaultView) → MakesOnly (IsReadBelow copies) old mid → MakesOnly (IsReadOf copies) mid new → MakesOnly (IsReadBelow (copies + 1)) old new
below_then copies old mid new one two =
    only_then (IsReadBelow (copies + 1)) old mid new
    (only_wider (IsReadBelow copies) (IsReadBelow (copies + 1)) old mid (λ call is. (is.0, omega (arith, is.1), is.2)) one)
    (only_wider (IsReadOf copies) (IsReadBelow (copies + 1)) mid new (λ call is. (copies, omega arith, is)) two)

pub below_all : (some all : ℕ) (old new : VaultView) → some ≤ all → MakesOnly (IsReadBelow some) old new → MakesOnly (IsReadBelow all) old new
below_all some all old new few made = only_wider (IsReadBelow some) (IsReadBelow all) old new (λ call is. (is.0, omega (arith, is.1, few), is.2)) made

-- calls on other copies, and then calls that did not fail
none_of : (copy : ℕ) (done : List VaultDone) → AllByRecursion (λ (d : VaultDone). IsReadBelow copy d.call) done → AllByRecursion (λ (d : VaultDone). IsReadOf copy d.call → is_failure d.answer ≡ false) done
none_of copy [] all = tt
none_of copy (d ∷ done) all = (λ is. absurd (let one = is_of copy d.call is in let two = is_of all.0.0 d.call all.0.2 in omega (arith, one, two, all.0.1)), none_of copy done all.1)

well_of : (copy : ℕ) (done : List VaultDone) → AllByRecursion (λ (d : VaultDone). is_failure d.answer ≡ false) done → AllByRecursion (λ (d : VaultDone). IsReadOf copy d.call → is_failure d.answer ≡ false) done
well_of copy [] all = tt
well_of copy (d ∷ done) all = (λ is. all.0, well_of copy done all.1)

both_of : (copy : ℕ) (first second : List VaultDone) → AllByRecursion (λ (d : VaultDone). IsReadOf copy d.call → is_failure d.answer ≡ false) first → AllByRecursion (λ (d : VaultDone). IsReadOf copy d.call → is_failure d.answer ≡ false) second
    → AllByRecursion (λ (d : VaultDone). IsReadOf copy d.call → is_failure d.answer ≡ false) (first ++ second)
both_of copy [] second one two = two
both_of copy (d ∷ first) second one two = (one.0, both_of copy first second one.1 two)

pub read_well : (copy : ℕ) (old mid new : VaultView) → MakesOnly (IsReadBelow copy) old mid → NoneFailed mid new → IsReadWell old new copy
read_well copy old mid new one two = record {
  done = one.done ++ two.done;
  grown = record {
    told = λ t. one.grown.told (two.grown.told t);
    more = λ t. two.grown.more t ∙ ap (λ cs. cs ++ two.done) (one.grown.more (two.grown.told t)) ∙ append_assoc old.calls one.done two.done;
  };
  each = both_of copy one.done two.done (none_of copy one.done (recursion_from_All (λ (d : VaultDone). IsReadBelow copy d.call) one.done one.each)) (well_of copy two.done two.each);
}
