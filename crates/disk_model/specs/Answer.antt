-- What calls answer, as it is kept with them.
use Rattle.std.specs.Prelude.{ℕ, Option, None, Some, Bool, true, false, Result, Ok, Err}
use Rattle.disk_model.specs.declared.answer.Answer.{Answer}
use Rattle.disk_model.specs.declared.answer.Answer.TheVariants.{Failed, OutOfMemory, Missing, Done, Saw, Bytes, Kept}
use Rattle.disk_model.specs.declared.fault.Failed.{Failed as Fault}
use Rattle.disk_model.specs.declared.fault.FileFault.{FileFault}
use Rattle.disk_model.specs.declared.fault.FileFault.TheVariants as files
use Rattle.disk_model.specs.declared.fault.ListFault.{ListFault}
use Rattle.disk_model.specs.declared.fault.ListFault.TheVariants as lists

-- the answer is that the device failed
abbrev pub is_failure : Answer → Bool
is_failure Failed = true
is_failure OutOfMemory = false
is_failure Missing = false
is_failure Done = false
is_failure (Saw meta) = false
is_failure (Bytes n) = false
is_failure (Kept kept) = false

-- the answer is that there is no such file
abbrev pub is_missing : Answer → Bool
is_missing Failed = false
is_missing OutOfMemory = false
is_missing Missing = true
is_missing Done = false
is_missing (Saw meta) = false
is_missing (Bytes n) = false
is_missing (Kept kept) = false

-- of a call that answers nothing more than whether it failed
abbrev pub plain : Bool → Answer
plain true = Failed
plain false = Done

-- of a call on one file of a folder, by what it gives
abbrev pub file_answer : {T : Type 0} → (T → Answer) → Result T FileFault → Answer
file_answer gives (Ok given) = gives given
file_answer gives (Err files.Missing) = Missing
file_answer gives (Err files.Failed) = Failed

-- of a call on one file that gives nothing
abbrev pub done_answer : {T : Type 0} → Result T FileFault → Answer
done_answer result = file_answer (λ _. Done) result

-- of a listing
abbrev pub listing_answer : {T : Type 0} → Result T ListFault → Answer
listing_answer (Ok _) = Done
listing_answer (Err lists.Failed) = Failed
listing_answer (Err lists.Memory) = OutOfMemory

-- of a reading call of a vault, by what it gives
abbrev pub vault_answer : {T : Type 0} → (T → Answer) → Result T Fault → Answer
vault_answer gives (Ok given) = gives given
vault_answer gives (Err _) = Failed

-- of the size of a content copy
abbrev pub size_answer : Option ℕ → Answer
size_answer None = Missing
size_answer (Some n) = Bytes n
