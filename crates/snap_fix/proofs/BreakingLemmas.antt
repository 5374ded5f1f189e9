-- Some calls of a vault of which one failed, behind others and before others.
use Rattle.std.proofs.Common.{◌≡◌, ℕ, zero, suc, ◌+◌, ◌-◌, ◌≤◌, List, [], ◌∷◌, ◌++◌, false, true, sym, ap, ◌∙◌, subst, arith, append_assoc}
use Rattle.std.specs.List.{range_with_len, flat_map}
use Rattle.std.proofs.lemmas.List.{append-nil}
use Rattle.folder_listing.proofs.JoinedLemmas.{flat_range_more}
use Rattle.disk_model.specs.Vault.{plain_done, VaultView, VaultDone, GoesOn}
use Rattle.snap_report.specs.declared.answer.RunFault.{RunFault}
use Rattle.snap_report.specs.declared.answer.RunFault.TheVariants.{Folder, Vault, Memory}
use Rattle.file_restorer.specs.Breaking.{FailsAfter, FailsIn}
use Rattle.snap_fix.specs.BrokenStripe.{BreaksLevels, FailsAtLevel, writes_below}
use Rattle.stripe_examiner.specs.Facts.{StripeFacts}
use Rattle.repair_scope.specs.Plan.{FixPlan}
use Rattle.snap_fix.specs.Underway.{done_well, level_write}
use Rattle.stripe_examiner.proofs.LookingLemmas.{vault_goes_on}

-- others were to come after them
in_more : (whole more done : List VaultDone) → FailsIn whole done → FailsIn (whole ++ more) done
in_more whole more done fails = record {
  front = fails.front;
  call = fails.call;
  writes = fails.writes;
  rest = fails.rest ++ more;
  whole_is = ap (λ (calls : List VaultDone). calls ++ more) fails.whole_is ∙ append_assoc fails.front (plain_done fails.call false ∷ fails.rest) more;
  done_is = fails.done_is;
}

-- others were made before them
in_behind : (front whole done : List VaultDone) → FailsIn whole done → FailsIn (front ++ whole) (front ++ done)
in_behind front whole done fails = record {
  front = front ++ fails.front;
  call = fails.call;
  writes = fails.writes;
  rest = fails.rest;
  whole_is = ap (λ (calls : List VaultDone). front ++ calls) fails.whole_is ∙ sym (append_assoc front fails.front (plain_done fails.call false ∷ fails.rest));
  done_is = ap (λ (calls : List VaultDone). front ++ calls) fails.done_is ∙ sym (append_assoc front fails.front (plain_done fails.call true ∷ []));
}

pub fails_more : (whole more : List VaultDone) (old new : VaultView) → FailsAfter [] whole old new → FailsAfter [] (whole ++ more) old new
fails_more whole more old new part = record { done = part.done; fails = in_more whole more part.done part.fails; goes_on = part.goes_on }

pub fails_behind : (front whole : List VaultDone) (old mid new : VaultView) → GoesOn old mid front → FailsAfter [] whole mid new → FailsAfter [] (front ++ whole) old new
fails_behind front whole old mid new ran part = record {
  done = front ++ part.done;
  fails = in_behind front whole part.done part.fails;
  goes_on = vault_goes_on old mid new front part.done ran part.goes_on;
}

-- ---- behind some calls

pub fails_after : (before others : List VaultDone) (old mid new : VaultView) → GoesOn old mid before → FailsAfter [] others mid new → FailsAfter before others old new
fails_after before others old mid new ran part = record {
  done = part.done;
  fails = part.fails;
  goes_on = vault_goes_on old mid new before part.done ran part.goes_on;
}

-- and behind more of them
pub level_after : (plan : FixPlan) (facts : StripeFacts) (level : ℕ) (front before : List VaultDone)
    (old mid new : VaultView) → GoesOn old mid front → FailsAtLevel plan facts level before mid new
    → FailsAtLevel plan facts level (front ++ before) old new
level_after plan facts level front before old mid new ran part =
    let done = done_well (writes_below plan facts level) ++ plain_done (level_write plan facts part.row level) true ∷ [] in
    record {
      within = part.within;
      wrong = part.wrong;
      row = part.row;
      row_is = part.row_is;
      goes_on = subst (GoesOn old new) (sym (append_assoc front before done))
          (vault_goes_on old mid new front (before ++ done) ran part.goes_on);
      holds = part.holds;
    }

pub breaks_then : (fault : RunFault) (plan : FixPlan) (facts : StripeFacts) (level : ℕ) (front before : List VaultDone)
    (old mid new : VaultView) → GoesOn old mid front → BreaksLevels fault plan facts level before mid new
    → BreaksLevels fault plan facts level (front ++ before) old new
breaks_then (Folder disk) plan facts level front before old mid new ran part =
    vault_goes_on old mid new front before ran part
breaks_then Vault plan facts level front before old mid new ran part =
    level_after plan facts level front before old mid new ran part
breaks_then Memory plan facts level front before old mid new ran part = part

-- ---- joined over numbers

split_by : {A : Type 0} (of : ℕ → List A) (n k : ℕ) → (rest : List A) × (flat_map of (range_with_len 0 (n + k)) ≡ flat_map of (range_with_len 0 n) ++ rest)
split_by {A = A} of n zero =
    ([], ap (λ (m : ℕ). flat_map of (range_with_len 0 m)) (omega arith) ∙ sym (append-nil (flat_map of (range_with_len 0 n))))
split_by {A = A} of n (suc k) =
    let earlier = split_by of n k in
    let next : n + suc k ≡ (n + k) + 1 = omega arith in (
      earlier.0 ++ of (n + k),
      ap (λ (m : ℕ). flat_map of (range_with_len 0 m)) next ∙ sym (flat_range_more of (n + k)) ∙ ap (λ (xs : List A). xs ++ of (n + k)) earlier.1
          ∙ append_assoc (flat_map of (range_with_len 0 n)) earlier.0 (of (n + k)),
    )

-- the list of so many numbers begins with that of fewer
pub flat_split : {A : Type 0} (of : ℕ → List A) (n m : ℕ) → n ≤ m → (rest : List A) × (flat_map of (range_with_len 0 m) ≡ flat_map of (range_with_len 0 n) ++ rest)
flat_split of n m short =
    let split = split_by of n (m - n) in
    let whole : m ≡ n + (m - n) = omega (arith, short) in
    (split.0, ap (λ (k : ℕ). flat_map of (range_with_len 0 k)) whole ∙ split.1)
