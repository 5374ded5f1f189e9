-- The copies are read one after another, and what each gave is kept.
use Rattle.std.proofs.Common.{◌≡◌, inl, inr, ℕ, ◌+◌, ◌<◌, ◌≤◌, List, [], ◌∷◌, ◌++◌, length, true, false, Bool, Option, None, Some, Ok, Err, arith, append-nil, append_assoc, length-append, refl, sym, ◌∙◌, ap, ap₂, subst}
use Rattle.std.specs.List.{AllByRecursion}
use Rattle.disk_model.specs.Answer.{size_answer}
use Rattle.disk_model.specs.Cause.{Grows}
use Rattle.disk_model.specs.Vault.{VaultView, VaultDone, GoesOn}
use Rattle.disk_model.specs.declared.answer.Answer.TheVariants as answers
use Rattle.file_table.specs.Table.{TableValue}
use Rattle.file_table.specs.Valid.{IsValid}
use Rattle.content_file.specs.Damages.{with_flaw, damage_in}
use Rattle.content_file.specs.Decoding.{HasFed, IsFaultOf}
use Rattle.content_file.specs.FirstFlaw.{first_flaw}
use Rattle.content_file.specs.Flaw.{Damage}
use Rattle.content_file.specs.InOrder.{FeedsToEnd, StopsAtPiece, CopyReading, Absent, Broken, Came, size_done, AreCallsOf, ReadsCopyInOrder, IsReadInto, IsReadFor, AreCallsFrom, ReadsInOrder, IsAbsent, IsPassed, bytes_of, damages_from, AreReadFor}
use Rattle.content_file.specs.Spelling.{spelling, IsContent}
use Rattle.content_file.specs.declared.decoder.Decoder.{Decoder}
use Rattle.content_file.specs.declared.fault.DecodeFault.{DecodeFault}
use Rattle.content_file.specs.declared.fault.DecodeFault.TheVariants as faults
use Rattle.content_file.specs.declared.loading.CopyFault.{CopyFault}
use Rattle.content_file.specs.declared.loading.CopyFault.TheVariants as copy_faults
use Rattle.content_file.specs.declared.loading.LoadFault.TheVariants as loads
use Rattle.content_file.proofs.LoadCounts.{grown_then, grown_none}
use Rattle.content_file.proofs.ReadContent.{none_from_content}

-- ---- one copy into a decoder

-- the size as it was answered
asked_of : (copy : ℕ) (size is : Option ℕ) (old new : VaultView) → size ≡ is → GoesOn old new (size_done copy (size_answer size) ∷ [])
    → Grows old.tells_calls old.calls new.tells_calls new.calls (size_done copy (size_answer is) ∷ [])
asked_of copy size is old new same goes_on =
    subst (λ (o : Option ℕ). Grows old.tells_calls old.calls new.tells_calls new.calls (size_done copy (size_answer o) ∷ [])) same goes_on.calls

module _ (copy : ℕ) (size : Option ℕ) (n : ℕ) (old mid new : VaultView) (some : size ≡ Some n) (asked : GoesOn old mid (size_done copy (size_answer size) ∷ [])) where
  first : Grows old.tells_calls old.calls mid.tells_calls mid.calls (size_done copy (answers.Bytes n) ∷ [])
  first = asked_of copy size (Some n) old mid some asked

  -- its pieces came
  pub copy_came : (decoder : Decoder) → FeedsToEnd copy n decoder mid new → ReadsCopyInOrder copy (IsReadInto (Ok (Some decoder))) old new
  copy_came decoder feeds = record {
    reading = Came feeds.bytes;
    done = size_done copy (answers.Bytes n) ∷ feeds.done;
    grown = grown_then old mid new (size_done copy (answers.Bytes n) ∷ []) feeds.done first feeds.grown;
    calls = (n, feeds.done, refl, feeds.end);
    gives = (feeds.bytes, refl, feeds.fed);
  }

  -- one of them failed
  pub copy_broken : StopsAtPiece copy n mid new → ReadsCopyInOrder copy (IsReadInto (Err copy_faults.Failed)) old new
  copy_broken stops = record {
    reading = Broken;
    done = size_done copy (answers.Bytes n) ∷ stops.done;
    grown = grown_then old mid new (size_done copy (answers.Bytes n) ∷ []) stops.done first stops.grown;
    calls = inr (n, stops.done, refl, stops.fails);
    gives = refl;
  }

-- ---- one copy into a table

-- with something else of what it gave
with_gives : (copy : ℕ) (P Q : CopyReading → Type 0) (old new : VaultView) → ((reading : CopyReading) → P reading → Q reading) → ReadsCopyInOrder copy P old new → ReadsCopyInOrder copy Q old new
with_gives copy P Q old new then reads = record { reading = reads.reading; done = reads.done; grown = reads.grown; calls = reads.calls; gives = then reads.reading reads.gives }

-- what the decoder is, as it is then called
pub into_is : (copy : ℕ) (held is : Option Decoder) (old new : VaultView) → held ≡ is → ReadsCopyInOrder copy (IsReadInto (Ok held)) old new → ReadsCopyInOrder copy (IsReadInto (Ok is)) old new
into_is copy held is old new same reads = subst (λ (o : Option Decoder). ReadsCopyInOrder copy (IsReadInto (Ok o)) old new) same reads

-- its bytes spell the table
pub table_came : (copy : ℕ) (decoder : Decoder) (table : TableValue) (old new : VaultView) → ((fed : List ℕ) → HasFed decoder fed → IsValid table × (fed ≡ spelling table))
    → ReadsCopyInOrder copy (IsReadInto (Ok (Some decoder))) old new → ReadsCopyInOrder copy (IsReadFor (Ok (Some table))) old new
table_came copy decoder table old new answer reads =
    with_gives copy (IsReadInto (Ok (Some decoder))) (IsReadFor (Ok (Some table))) old new (λ reading into. into.1 ∙ ap Came (answer into.0 into.2).1) reads

-- they have a wrong field
pub damage_came : (copy : ℕ) (decoder : Decoder) (refusal : DecodeFault) (damage : Damage) (old new : VaultView) → refusal ≡ faults.Damaged damage → ((fed : List ℕ) → HasFed decoder fed → IsFaultOf fed refusal)
    → ReadsCopyInOrder copy (IsReadInto (Ok (Some decoder))) old new → ReadsCopyInOrder copy (IsReadFor (Err (copy_faults.Damaged damage))) old new
damage_came copy decoder refusal damage old new same answer reads =
    with_gives copy (IsReadInto (Ok (Some decoder))) (IsReadFor (Err (copy_faults.Damaged damage))) old new
    (λ reading into. (into.0, into.1, subst (IsFaultOf into.0) same (answer into.0 into.2))) reads

-- there was no memory for the table
pub no_memory_then : (copy : ℕ) (decoder : Decoder) (old new : VaultView) → ReadsCopyInOrder copy (IsReadInto (Ok (Some decoder))) old new → ReadsCopyInOrder copy (IsReadFor (Err copy_faults.Memory)) old new
no_memory_then copy decoder old new reads = with_gives copy (IsReadInto (Ok (Some decoder))) (IsReadFor (Err copy_faults.Memory)) old new (λ reading into. tt) reads

-- ---- one copy more

calls_more : (copy : ℕ) (readings : List CopyReading) (reading : CopyReading) (done own : List VaultDone) → AreCallsFrom copy readings done → AreCallsOf (copy + length readings) reading own
    → AreCallsFrom copy (readings ++ reading ∷ []) (done ++ own)
calls_more copy [] reading done own none calls =
    let here : copy + 0 ≡ copy = omega arith in
    (own, [], ap (λ (ds : List VaultDone). ds ++ own) none ∙ sym (append-nil own), subst (λ (k : ℕ). AreCallsOf k reading own) here calls, refl)
calls_more copy (one ∷ readings) reading done own some calls =
    let there : copy + length (one ∷ readings) ≡ copy + 1 + length readings = omega arith in (
      some.0,
      some.1 ++ own,
      ap (λ (ds : List VaultDone). ds ++ own) some.2 ∙ append_assoc some.0 some.1 own,
      some.3,
      calls_more (copy + 1) readings reading some.1 own some.4 (subst (λ (k : ℕ). AreCallsOf k reading own) there calls),
    )

all_more : (P : CopyReading → Type 0) (readings : List CopyReading) (reading : CopyReading) → AllByRecursion P readings → P reading → AllByRecursion P (readings ++ reading ∷ [])
all_more P [] reading all is = (is, tt)
all_more P (one ∷ readings) reading all is = (all.0, all_more P readings reading all.1 is)

damages_more : (copy : ℕ) (readings : List CopyReading) (reading : CopyReading) → damages_from copy (readings ++ reading ∷ []) ≡ damages_from copy readings ++ damage_in (copy + length readings) (bytes_of reading)
damages_more copy [] reading =
    let here : copy ≡ copy + 0 = omega arith in
    append-nil (damage_in copy (bytes_of reading)) ∙ ap (λ (k : ℕ). damage_in k (bytes_of reading)) here
damages_more copy (one ∷ readings) reading =
    let there : copy + 1 + length readings ≡ copy + length (one ∷ readings) = omega arith in
    ap (λ (ds : List (ℕ × Damage)). damage_in copy (bytes_of one) ++ ds) (damages_more (copy + 1) readings reading)
    ∙ sym (append_assoc (damage_in copy (bytes_of one)) (damages_from (copy + 1) readings) (damage_in (copy + 1 + length readings) (bytes_of reading)))
    ∙ ap (λ (k : ℕ). (damage_in copy (bytes_of one) ++ damages_from (copy + 1) readings) ++ damage_in k (bytes_of reading)) there

-- So many copies were read, and none gave a table.
pub record HasRead (old now : VaultView) (copies : ℕ) (failed : Bool) (damages : List (ℕ × Damage)) : Type 0 where
  pub readings : List CopyReading
  pub many : length readings ≡ copies
  pub done : List VaultDone
  pub grown : Grows old.tells_calls old.calls now.tells_calls now.calls done
  pub calls : AreCallsFrom 0 readings done
  pub passed : AllByRecursion IsPassed readings
  pub listed : damages ≡ damages_from 0 readings
  pub absent : failed ≡ false → damages ≡ [] → AllByRecursion IsAbsent readings

pub read_none : (v : VaultView) → HasRead v v 0 false []
read_none v = record { readings = []; many = refl; done = []; grown = grown_none v; calls = refl; passed = tt; listed = refl; absent = λ no empty. tt }

module _ (old mid new : VaultView) (copies : ℕ) (failed : Bool) (damages : List (ℕ × Damage)) (one : HasRead old mid copies failed damages) where
  calls_on : (reading : CopyReading) (own : List VaultDone) → AreCallsOf copies reading own → AreCallsFrom 0 (one.readings ++ reading ∷ []) (one.done ++ own)
  calls_on reading own calls =
      let here : copies ≡ 0 + length one.readings = omega (arith, one.many) in
      calls_more 0 one.readings reading one.done own one.calls (subst (λ (k : ℕ). AreCallsOf k reading own) here calls)

  many_on : (reading : CopyReading) → length (one.readings ++ reading ∷ []) ≡ copies + 1
  many_on reading = omega (arith, length-append one.readings (reading ∷ []), one.many)

  listed_on : (reading : CopyReading) (own : List (ℕ × Damage)) → damage_in copies (bytes_of reading) ≡ own → damages ++ own ≡ damages_from 0 (one.readings ++ reading ∷ [])
  listed_on reading own is =
      let here : copies ≡ 0 + length one.readings = omega (arith, one.many) in
      ap₂ (λ (ds es : List (ℕ × Damage)). ds ++ es) one.listed (sym is ∙ ap (λ (k : ℕ). damage_in k (bytes_of reading)) here) ∙ sym (damages_more 0 one.readings reading)

  -- whatever the last gave
  pub read_so : (P : CopyReading → Type 0) → ReadsCopyInOrder copies P mid new → (all : ℕ) → copies < all → ReadsInOrder (AreReadFor all (Err loads.Memory)) old new
  read_so P two all within = record {
    readings = one.readings ++ two.reading ∷ [];
    done = one.done ++ two.done;
    grown = grown_then old mid new one.done two.done one.grown two.grown;
    calls = calls_on two.reading two.done two.calls;
    gives = omega (arith, many_on two.reading, within);
  }

  -- it gave a table
  pub read_table : (table : TableValue) → ReadsCopyInOrder copies (IsReadFor (Ok (Some table))) mid new → (all : ℕ) → copies < all → ReadsInOrder (AreReadFor all (Ok (Some table))) old new
  read_table table two all within = record {
    readings = one.readings ++ two.reading ∷ [];
    done = one.done ++ two.done;
    grown = grown_then old mid new one.done two.done one.grown two.grown;
    calls = calls_on two.reading two.done two.calls;
    gives = (one.readings, ap (λ (r : CopyReading). one.readings ++ r ∷ []) two.gives, omega (arith, one.many, within), one.passed);
  }

  -- there is none
  pub read_absent : ReadsCopyInOrder copies (IsReadFor (Ok None)) mid new → HasRead old new (copies + 1) failed damages
  read_absent two = record {
    readings = one.readings ++ two.reading ∷ [];
    many = many_on two.reading;
    done = one.done ++ two.done;
    grown = grown_then old mid new one.done two.done one.grown two.grown;
    calls = calls_on two.reading two.done two.calls;
    passed = all_more IsPassed one.readings two.reading one.passed (subst IsPassed (sym two.gives) tt);
    listed = sym (append-nil damages) ∙ listed_on two.reading [] (ap (λ (r : CopyReading). damage_in copies (bytes_of r)) two.gives);
    absent = λ no empty. all_more IsAbsent one.readings two.reading (one.absent no empty) two.gives;
  }

  -- its reading failed
  pub read_failed : ReadsCopyInOrder copies (IsReadFor (Err copy_faults.Failed)) mid new → HasRead old new (copies + 1) true damages
  read_failed two = record {
    readings = one.readings ++ two.reading ∷ [];
    many = many_on two.reading;
    done = one.done ++ two.done;
    grown = grown_then old mid new one.done two.done one.grown two.grown;
    calls = calls_on two.reading two.done two.calls;
    passed = all_more IsPassed one.readings two.reading one.passed (subst IsPassed (sym two.gives) tt);
    listed = sym (append-nil damages) ∙ listed_on two.reading [] (ap (λ (r : CopyReading). damage_in copies (bytes_of r)) two.gives);
    absent = λ no empty. absurd (let clash : true ≡ false = no in cc);
  }

  -- it is damaged
  pub read_damaged : (damage : Damage) → ReadsCopyInOrder copies (IsReadFor (Err (copy_faults.Damaged damage))) mid new → HasRead old new (copies + 1) failed (damages ++ (copies, damage) ∷ [])
  read_damaged damage two =
      let bytes = two.gives.0 in
      let is : two.reading ≡ Came bytes = two.gives.1 in
      let flaw : first_flaw bytes ≡ Some damage = two.gives.2 in
      let no_content : ¬ (IsContent bytes) = λ content. (let clash : None ≡ Some damage = sym (none_from_content bytes content) ∙ flaw in cc) in
      record {
        readings = one.readings ++ two.reading ∷ [];
        many = many_on two.reading;
        done = one.done ++ two.done;
        grown = grown_then old mid new one.done two.done one.grown two.grown;
        calls = calls_on two.reading two.done two.calls;
        passed = all_more IsPassed one.readings two.reading one.passed (subst IsPassed (sym is) no_content);
        listed = listed_on two.reading ((copies, damage) ∷ []) (ap (λ (r : CopyReading). damage_in copies (bytes_of r)) is ∙ ap (with_flaw copies) flaw);
        absent = λ no empty. absurd (let none = ap length empty in omega (arith, length-append damages ((copies, damage) ∷ []), none));
      }

-- the list and the flag after a step, as they then are called
pub read_as_called : (old new : VaultView) (copies : ℕ) (failed : Bool) (damages : List (ℕ × Damage)) (failed_now : Bool) (damages_now : List (ℕ × Damage)) → failed_now ≡ failed → damages_now ≡ damages
    → HasRead old new copies failed damages → HasRead old new copies failed_now damages_now
read_as_called old new copies failed damages failed_now damages_now same_failed same_damages read =
    subst (λ f. HasRead old new copies f damages_now) (sym same_failed) (subst (λ d. HasRead old new copies failed d) (sym same_damages) read)

-- what a copy gave, as it is then called
pub found_is : (copy : ℕ) (held is : Option TableValue) (old new : VaultView) → held ≡ is → ReadsCopyInOrder copy (IsReadFor (Ok held)) old new → ReadsCopyInOrder copy (IsReadFor (Ok is)) old new
found_is copy held is old new same reads = subst (λ (o : Option TableValue). ReadsCopyInOrder copy (IsReadFor (Ok o)) old new) same reads

pub fault_is : (copy : ℕ) (fault is : CopyFault) (old new : VaultView) → fault ≡ is → ReadsCopyInOrder copy (IsReadFor (Err fault)) old new → ReadsCopyInOrder copy (IsReadFor (Err is)) old new
fault_is copy fault is old new same reads = subst (λ (f : CopyFault). ReadsCopyInOrder copy (IsReadFor (Err f)) old new) same reads

-- ---- after the last copy

module _ (old new : VaultView) (copies : ℕ) (failed : Bool) (damages : List (ℕ × Damage)) (all : ℕ) (all_is : all ≡ copies) (read : HasRead old new copies failed damages) where
  as_many : length read.readings ≡ all
  as_many = omega (arith, read.many, all_is)

  pub order_failed : ReadsInOrder (AreReadFor all (Err loads.Failed)) old new
  order_failed = record { readings = read.readings; done = read.done; grown = read.grown; calls = read.calls; gives = (as_many, read.passed) }

  pub order_damaged : ReadsInOrder (AreReadFor all (Err (loads.Damaged damages))) old new
  order_damaged = record { readings = read.readings; done = read.done; grown = read.grown; calls = read.calls; gives = (as_many, read.passed, read.listed) }

  pub order_empty : failed ≡ false → damages ≡ [] → ReadsInOrder (AreReadFor all (Ok None)) old new
  order_empty sound empty = record { readings = read.readings; done = read.done; grown = read.grown; calls = read.calls; gives = (as_many, read.absent sound empty) }
