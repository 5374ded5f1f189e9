-- What a call of the builder refuses for memory alone is handed on as that.
use Rattle.std.proofs.Common.{◌≡◌, ◌∙◌, Result, Ok, Err, IfErr, OnOk}
use Rattle.std.specs.Prelude.{IsErrAnd}
use Rattle.file_table.specs.declared.fault.BuildFault.{BuildFault}
use Rattle.file_table.specs.declared.fault.BuildFault.TheVariants.{Memory}

pub memory_exits : {T : Type 0} (Q : BuildFault → Type 0) (r : Result T BuildFault) (fault : BuildFault) → IsErrAnd r Q → ((why : BuildFault) → Q why → why ≡ fault) → fault ≡ Memory → IfErr r (λ why. why ≡ Memory)
memory_exits Q (Ok x) fault known same memory = tt
memory_exits Q (Err why) fault known same memory = same why known ∙ memory

pub on_ok : {T E : Type 0} (P Q : Type 0) (r : Result T E) → (P → Q) → OnOk r P → OnOk r Q
on_ok P Q (Ok x) more is = more is
on_ok P Q (Err e) more is = tt
