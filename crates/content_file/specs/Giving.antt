-- What a reader of fields returns.
use Rattle.std.specs.Prelude.{◌≡◌, Result, Ok, Err}
use Rattle.content_file.specs.Flaw.{Read, Good, Bad}
use Rattle.content_file.specs.declared.fault.Refusal.{Refusal}
use Rattle.content_file.specs.declared.fault.Refusal.TheVariants as refusals

-- a refusal is the one that reading gives, unless memory ran out
abbrev pub Refuses : {Y : Type 0} → Refusal → Read Y → Type 0
Refuses (refusals.Flawed why field) read = read ≡ Bad why field.now
Refuses refusals.Length read = ⊥
Refuses refusals.Memory read = Unit {0}

-- what a function returned, seen by view, is what reading gives, unless memory ran out
abbrev pub Gives : {X Y : Type 0} → (X → Y) → Result X Refusal → Read Y → Type 0
Gives view (Ok x) read = read ≡ Good (view x)
Gives view (Err e) read = Refuses e read
