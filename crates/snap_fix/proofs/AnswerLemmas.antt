-- What follows of an answer, whichever it is.
use Rattle.std.proofs.Common.{◌≡◌, true, false, Result, Ok, Err}
use Rattle.std.specs.Prelude.{IfOk, IfErr}
use Rattle.std.specs.Result.{is_err}

pub if_ok : {T E : Type 0} (result : Result T E) (P Q : T → Type 0) → ((x : T) → P x → Q x) → IfOk result P → IfOk result Q
if_ok (Ok x) P Q more p = more x p
if_ok (Err e) P Q more p = tt

pub if_err : {T E : Type 0} (result : Result T E) (P Q : E → Type 0) → ((e : E) → P e → Q e) → IfErr result P → IfErr result Q
if_err (Ok x) P Q more p = tt
if_err (Err e) P Q more p = more e p

-- of two facts
pub if_both : {T E : Type 0} (result : Result T E) (P Q S : T → Type 0) → ((x : T) → P x → Q x → S x) → IfOk result P → IfOk result Q → IfOk result S
if_both (Ok x) P Q S both one two = both x one two
if_both (Err e) P Q S both one two = tt

-- what holds anyway holds of a fault
pub on_err : {T E : Type 0} (result : Result T E) (P : Type 0) → P → IfErr result (λ fault. P)
on_err (Ok x) P is = tt
on_err (Err e) P is = is

-- what holds of each fault, where there is one
pub at_err : {T E : Type 0} (result : Result T E) (P : Type 0) → is_err result ≡ true → IfErr result (λ _. P) → P
at_err (Ok x) P is holds = let clash : false ≡ true = is in absurd cc
at_err (Err e) P is holds = holds

-- what holds where there is none
pub at_ok : {T E : Type 0} (result : Result T E) (P : Type 0) → is_err result ≡ false → IfOk result (λ _. P) → P
at_ok (Ok x) P is holds = holds
at_ok (Err e) P is holds = let clash : true ≡ false = is in absurd cc
