use Rattle.std.proofs.Common.{◌≡◌, ◌⊎◌, ℕ, arith, ◌+◌, ◌-◌, ◌≤◌, List, ◌++◌, length, take, drop, refl, sym, ap, subst, ◌∙◌}
use Rattle.std.specs.Prelude.{IsSome, Result, OnOk, IfSome}
use Rattle.sha2.specs.Hashers.{Holds256}
use Rattle.content_file.specs.Body.{GoesOn, IsEnded}
use Rattle.content_file.specs.declared.fault.DecodeFault.{DecodeFault}
use Rattle.content_file.proofs.Faults.{ended_told}
use Rattle.content_file.specs.Decoding.{IsHolding, ReadsFields, StopsOn}
use Rattle.content_file.proofs.DecodingLemmas.{read_on_holding, held_is, stops_told}
use Rattle.content_file.proofs.decoder.Decoder.read_fields.Goals as goal

pub returns-clause-reads : goal.returns-clause-reads
returns-clause-reads c = λ fed is.
    let old = c.args.self.now in
    let items = old.held.items in
    let rest = c.read_on.result.0.now in
    let place = c.read_on.new.place in
    let new = record old { body = place; hasher = c.update.new.self; held = c.drop_front.new.bytes } in
    let same = c.as_slice.ensures.value in
    let count : c.len.result ≡ length items = omega (arith, c.len.ensures, c.as_slice.ensures.len, ap length same) in
    let goes : GoesOn old.body items place rest = subst (λ (b : List ℕ). GoesOn old.body b place rest) same c.read_on.ensures.goes in
    let long = subst (λ (b : List ℕ). IsSome place → IsSome old.body ⊎ (length rest + 30 ≤ length b)) same c.read_on.ensures.long in
    let left = c.drop_front.ensures ∙ ap (λ (n : ℕ). drop (n - length rest) items) count in
    let hashed : (m : List ℕ) → Holds256 old.hasher m → Holds256 c.update.new.self (m ++ take (length items - length rest) items) = λ m h.
    subst (λ (b : List ℕ). Holds256 c.update.new.self (m ++ b)) (ap (λ (b : List ℕ). take (c.len.result - length rest) b) c.as_slice-2.ensures.value ∙ ap (λ (n : ℕ). take (n - length rest) items) count) (c.update.ensures m h) in
    let holding : IsHolding new fed = read_on_holding old new fed rest is goes long left hashed refl in
    subst (ReadsFields new fed) (sym c.told-answer.ensures)
    (stops_told new fed c.read_on.result.1 holding (subst (λ (b : List ℕ). StopsOn place b c.read_on.result.1) (sym (held_is items rest c.drop_front.new.bytes.items goes.ends left)) c.read_on.ensures.stops))

pub returns-clause-ended : goal.returns-clause-ended
returns-clause-ended c =
    subst (λ (r : Result Unit DecodeFault). OnOk r (IfSome c.read_on.new.place IsEnded)) (sym c.told-answer.ensures) (ended_told c.read_on.new.place c.read_on.result.0.now c.args.self.now.fed c.read_on.result.1 c.read_on.ensures.stops)
