-- What is known while the copies are tried.
use Rattle.std.proofs.Common.{◌≡◌, ◌⊎◌, inl, inr, ℕ, ◌+◌, ◌<◌, ◌≤◌, Bool, true, false, IsTrue, List, [], ◌∷◌, ◌++◌, length, Option, None, Some, Result, Ok, Err, arith, add-one, append-nil, length-append, refl, sym, ◌∙◌, ap, subst, below_more}
use Rattle.std.specs.Prelude.{◌==◌, OnOk, is_err}
use Rattle.std.proofs.lemmas.Bool.Decides.{Decides-eqb}
use Rattle.std.proofs.lemmas.List.{nil_from_length}
use Rattle.disk_model.specs.Files.{Files, Stays, content_of}
use Rattle.disk_model.specs.Vault.{VaultView, SomeCalls, ChangesBy, DraftsStay, copies_of}
use Rattle.disk_model.proofs.VaultLemmas.{no_calls, calls_then, changes_start, changes_on}
use Rattle.file_table.specs.Table.{TableValue}
use Rattle.disk_model.proofs.CallsLemmas.{only_none}
use Rattle.content_file.specs.Flaw.{Damage}
use Rattle.content_file.specs.FirstFlaw.{first_flaw}
use Rattle.content_file.specs.Damages.{with_flaw, damage_in, damages_below}
use Rattle.content_file.specs.Load.{IsReadBelow, ReadsBelow, HasFailed, NoneFailed, IsDamaged, IsUseless, HasDamage, IsFoundDamaged, ReadsCopy, IsCopyOf, LoadsTable, LoadsNothing, LoadFails, LoadIsDamaged, ReadsInPieces}
use Rattle.content_file.proofs.ReadContent.{none_from_content}
use Rattle.content_file.proofs.LoadLemmas.{failed_before, failed_after, none_failed_yet, none_failed_then, below_then, below_all, read_well}

-- So many copies were tried, and none gave a table. Some failed, or all that are there were found damaged as listed.
pub record HasPassed (old now : VaultView) (copies : ℕ) (failed : Bool) (damages : List (ℕ × Damage)) : Type 0 where
  pub reads : ReadsBelow copies old now
  pub passed : IsTrue old.tells → (k : ℕ) → k < copies → IsUseless old k ⊎ HasFailed old now k
  pub some_failed : failed ≡ true → (k : ℕ) × HasFailed old now k
  pub none_failed : failed ≡ false → NoneFailed old now
  pub useless : failed ≡ false → IsTrue old.tells → (k : ℕ) → k < copies → IsUseless old k
  pub some_damaged : 0 < length damages → IsTrue old.tells → (k : ℕ) × (k < copies) × IsDamaged old k
  pub absent : failed ≡ false → damages ≡ [] → IsTrue old.tells → (k : ℕ) → k < copies → content_of old.files k ≡ None
  pub listed : failed ≡ false → IsTrue old.tells → damages ≡ damages_below copies old.files
  pub few : length damages ≤ copies

pub passed_none : (v : VaultView) → HasPassed v v 0 false []
passed_none v = record {
  reads = record { calls = no_calls v; made = only_none (IsReadBelow 0) v; changes = changes_start Stays v (λ files. refl); drafts = record { state = refl; bytes = λ told. refl } };
  passed = λ told k below. absurd (omega (arith, below));
  some_failed = λ yes. absurd (cc);
  none_failed = λ _. none_failed_yet v;
  useless = λ _ told k below. absurd (omega (arith, below));
  some_damaged = λ yes told. absurd (omega (arith, yes));
  absent = λ _ _ told k below. absurd (omega (arith, below));
  listed = λ no told. refl;
  few = omega arith;
}

-- ---- the list with one copy more

below_one : (n : ℕ) (files : Files) → damages_below (n + 1) files ≡ damages_below n files ++ damage_in n (content_of files n)
below_one n files = ap (λ (k : ℕ). damages_below k files) (add-one n)

one_absent : (n : ℕ) (files : Files) (list : List (ℕ × Damage)) → list ≡ damages_below n files → content_of files n ≡ None → list ≡ damages_below (n + 1) files
one_absent n files list same none = same ∙ sym (append-nil (damages_below n files)) ∙ ap (λ (o : Option (List ℕ)). damages_below n files ++ damage_in n o) (sym none) ∙ sym (below_one n files)

one_damaged : (n : ℕ) (files : Files) (list : List (ℕ × Damage)) (bytes : List ℕ) (flaw : Damage) → list ≡ damages_below n files → content_of files n ≡ Some bytes → first_flaw bytes ≡ Some flaw
    → list ++ (n, flaw) ∷ [] ≡ damages_below (n + 1) files
one_damaged n files list bytes flaw same held is =
    ap (λ (l : List (ℕ × Damage)). l ++ (n, flaw) ∷ []) same
    ∙ ap (λ (o : Option Damage). damages_below n files ++ with_flaw n o) (sym is)
    ∙ ap (λ (o : Option (List ℕ)). damages_below n files ++ damage_in n o) (sym held) ∙ sym (below_one n files)

-- ---- what an earlier view tells, where a later one does

pub stays_on : (old mid new : VaultView) → mid.tells ≡ old.tells → ChangesBy Stays old mid → ChangesBy Stays mid new → ChangesBy Stays old new
stays_on old mid new tells one two = changes_on Stays old mid new (λ a b c s t. t ∙ s) tells one two

pub drafts_on : (old mid new : VaultView) → mid.tells ≡ old.tells → DraftsStay old mid → DraftsStay mid new → DraftsStay old new
drafts_on old mid new tells one two = record { state = two.state ∙ one.state; bytes = λ told. two.bytes (tells ∙ told) ∙ one.bytes told }

pub content_then : (old mid : VaultView) (k : ℕ) → ChangesBy Stays old mid → IsTrue old.tells → content_of mid.files k ≡ content_of old.files k
content_then old mid k changes told = ap (λ (files : Files). content_of files k) (changes.reads told)

damage_then : (old mid : VaultView) (k : ℕ) (flaw : Damage) → ChangesBy Stays old mid → IsTrue old.tells → HasDamage mid k flaw → HasDamage old k flaw
damage_then old mid k flaw changes told is = record { bytes = is.bytes; held = sym (content_then old mid k changes told) ∙ is.held; flaw = is.flaw }

damaged_by : (v : VaultView) (k : ℕ) (flaw : Damage) → HasDamage v k flaw → IsDamaged v k
damaged_by v k flaw is = record { bytes = is.bytes; held = is.held; damaged = λ content. let clash : None ≡ Some flaw = sym (none_from_content is.bytes content) ∙ is.flaw in cc }

passed_before : (old mid new : VaultView) (k : ℕ) → SomeCalls mid new → IsUseless old k ⊎ HasFailed old mid k → IsUseless old k ⊎ HasFailed old new k
passed_before old mid new k calls (inl useless) = inl useless
passed_before old mid new k calls (inr failed) = inr (failed_before old mid new k failed calls)

-- fewer copies than all
read_below : (some all : ℕ) (old new : VaultView) → some ≤ all → ReadsBelow some old new → ReadsBelow all old new
read_below some all old new few reads = record { calls = reads.calls; made = below_all some all old new few reads.made; changes = reads.changes; drafts = reads.drafts }

-- ---- one copy more

module _ (old mid new : VaultView) (copies : ℕ) (failed : Bool) (damages : List (ℕ × Damage)) (one : HasPassed old mid copies failed damages) (reads : ReadsCopy copies mid new) where
  tells : mid.tells ≡ old.tells
  tells = one.reads.calls.goes_on.tells

  reads_on : ReadsBelow (copies + 1) old new
  reads_on = record {
    calls = calls_then old mid new one.reads.calls reads.calls;
    made = below_then copies old mid new one.reads.made reads.made;
    changes = stays_on old mid new tells one.reads.changes reads.changes;
    drafts = drafts_on old mid new tells one.reads.drafts reads.drafts;
  }

  -- whatever the last answer was
  pub reads_all : copies < copies_of old → ReadsBelow (copies_of old) old new
  reads_all within = read_below (copies + 1) (copies_of old) old new (omega (arith, within)) reads_on

  passed_on : (IsTrue old.tells → IsUseless old copies ⊎ HasFailed old new copies) → IsTrue old.tells → (k : ℕ) → k < copies + 1 → IsUseless old k ⊎ HasFailed old new k
  passed_on here told = below_more (λ k. IsUseless old k ⊎ HasFailed old new k) copies (λ k below. passed_before old mid new k reads.calls (one.passed told k below)) (here told)

  failed_on : failed ≡ true → (k : ℕ) × HasFailed old new k
  failed_on is = let before = one.some_failed is in (before.0, failed_before old mid new before.0 before.1 reads.calls)

  damaged_on : 0 < length damages → IsTrue old.tells → (k : ℕ) × (k < copies + 1) × IsDamaged old k
  damaged_on some told = let before = one.some_damaged some told in (before.0, omega (arith, before.1), before.2)

  -- the next copy is absent
  pub passed_absent : IsCopyOf mid copies None → NoneFailed mid new → HasPassed old new (copies + 1) failed damages
  passed_absent none quiet =
      let here : IsTrue old.tells → content_of old.files copies ≡ None = λ told. sym (content_then old mid copies one.reads.changes told) ∙ none (tells ∙ told) in
      record {
        reads = reads_on;
        passed = passed_on (λ told. inl (inl (here told)));
        some_failed = failed_on;
        none_failed = λ no. none_failed_then old mid new (one.none_failed no) quiet;
        useless = λ no told. below_more (IsUseless old) copies (one.useless no told) (inl (here told));
        some_damaged = damaged_on;
        absent = λ no sound told. below_more (λ k. content_of old.files k ≡ None) copies (one.absent no sound told) (here told);
        listed = λ no told. one_absent copies old.files damages (one.listed no told) (here told);
        few = omega (arith, one.few);
      }

  -- the next copy is damaged
  pub passed_damaged : (flaw : Damage) → IsFoundDamaged mid new copies flaw → HasPassed old new (copies + 1) failed (damages ++ (copies, flaw) ∷ [])
  passed_damaged flaw over =
      let found : IsTrue old.tells → HasDamage old copies flaw = λ told. damage_then old mid copies flaw one.reads.changes told (over.damaged (tells ∙ told)) in
      let here : IsTrue old.tells → IsDamaged old copies = λ told. damaged_by old copies flaw (found told) in
      let longer = length-append damages ((copies, flaw) ∷ []) in
      record {
        reads = reads_on;
        passed = passed_on (λ told. inl (inr (here told)));
        some_failed = failed_on;
        none_failed = λ no. none_failed_then old mid new (one.none_failed no) over.none_failed;
        useless = λ no told. below_more (IsUseless old) copies (one.useless no told) (inr (here told));
        some_damaged = λ _ told. (copies, omega arith, here told);
        absent = λ no sound told. absurd (let none = ap length sound in omega (arith, longer, none));
        listed = λ no told. let is = found told in one_damaged copies old.files damages is.bytes flaw (one.listed no told) is.held is.flaw;
        few = omega (arith, one.few, longer);
      }

  -- the reading of the next copy failed
  pub passed_failed : HasFailed mid new copies → HasPassed old new (copies + 1) true damages
  passed_failed fails =
      let here : HasFailed old new copies = failed_after old mid new copies one.reads.calls fails reads.calls.goes_on.calls.told in
      record {
        reads = reads_on;
        passed = passed_on (λ told. inr here);
        some_failed = λ _. (copies, here);
        none_failed = λ no. absurd (cc);
        useless = λ no told. absurd (cc);
        some_damaged = damaged_on;
        absent = λ no sound told. absurd (cc);
        listed = λ no told. absurd (cc);
        few = omega (arith, one.few);
      }

  -- the next copy gave a table
  pub passed_to_table : (table : TableValue) → copies < copies_of old → NoneFailed mid new → ReadsInPieces (copies + 1) old new → IsCopyOf mid copies (Some table) → LoadsTable old new table
  passed_to_table table within well pieces is = record {
    copy = copies;
    within = within;
    valid = is.0;
    held = λ told. sym (content_then old mid copies one.reads.changes told) ∙ is.1 (tells ∙ told);
    read = read_well copies old mid new one.reads.made well;
    pieces = pieces;
    earlier = λ told k below. passed_before old mid new k reads.calls (one.passed told k below);
  }

-- the list and the flag after a step, as they then are called
pub as_called : (old new : VaultView) (copies : ℕ) (failed : Bool) (damages : List (ℕ × Damage)) (failed_now : Bool) (damages_now : List (ℕ × Damage)) → failed_now ≡ failed → damages_now ≡ damages
    → HasPassed old new copies failed damages → HasPassed old new copies failed_now damages_now
as_called old new copies failed damages failed_now damages_now same_failed same_damages passed =
    subst (λ f. HasPassed old new copies f damages_now) (sym same_failed) (subst (λ d. HasPassed old new copies failed d) (sym same_damages) passed)

pub copy_of : (v : VaultView) (copy : ℕ) (held is : Option TableValue) → held ≡ is → IsCopyOf v copy held → IsCopyOf v copy is
copy_of v copy held is same holds = subst (IsCopyOf v copy) same holds

pub went_well : {T E P : Type 0} (r : Result T E) → is_err r ≡ false → OnOk r P → P
went_well (Ok x) not is = is
went_well (Err e) not is = absurd (let clash : true ≡ false = not in cc)

-- ---- after the last copy

pub is_empty : (damages : List (ℕ × Damage)) → (length damages == 0) ≡ true → damages ≡ []
is_empty damages is = nil_from_length damages ((Decides-eqb (length damages) 0).0 is)

pub not_empty : (damages : List (ℕ × Damage)) → (length damages == 0) ≡ false → 0 < length damages
not_empty [] not = absurd (let clash : true ≡ false = not in cc)
not_empty (d ∷ damages) not = omega arith

module _ (old new : VaultView) (copies : ℕ) (failed : Bool) (damages : List (ℕ × Damage)) (all : copies_of old ≡ copies) (passed : HasPassed old new copies failed damages) where
  pub ends_reading : ReadsBelow (copies_of old) old new
  ends_reading = read_below copies (copies_of old) old new (omega (arith, all)) passed.reads

  pub ends_failed : failed ≡ true → LoadFails old new
  ends_failed is = record { some = passed.some_failed is; useless = λ told k below. passed.passed told k (omega (arith, below, all)) }

  pub ends_damaged : failed ≡ false → 0 < length damages → LoadIsDamaged old new damages
  ends_damaged sound some = record {
    some = λ told. let one = passed.some_damaged some told in (one.0, omega (arith, one.1, all), one.2);
    useless = λ told k below. passed.useless sound told k (omega (arith, below, all));
    none_failed = passed.none_failed sound;
    not_empty = some;
    listed = λ told. passed.listed sound told ∙ ap (λ (n : ℕ). damages_below n old.files) (sym all);
  }

  pub ends_empty : failed ≡ false → damages ≡ [] → LoadsNothing old new
  ends_empty sound empty = record { none = λ told k below. passed.absent sound empty told k (omega (arith, below, all)); none_failed = passed.none_failed sound }
