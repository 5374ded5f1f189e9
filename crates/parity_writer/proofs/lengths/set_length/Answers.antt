use Rattle.std.proofs.Common.{subst, sym, refl}
use Rattle.disk_model.specs.Files.{StretchesParity}
use Rattle.disk_model.proofs.VaultLemmas.{one_call, more_calls, changes_more, on_any}
use Rattle.parity_writer.proofs.KeepsLemmas.{stretch_nothing}
use Rattle.disk_model.proofs.CallsLemmas.{these_none, these_more, among_one, makes_one, fails_one, call_makes, call_fails, then_makes, then_fails}
use Rattle.disk_model.specs.Vault.{ParityLen, ParitySetLen}
use Rattle.disk_model.specs.declared.answer.Answer.TheVariants.{Failed, Bytes}
use Rattle.parity_writer.specs.Calls.{IsLengthCall}
use Rattle.std.proofs.Common.{◌≡◌, [], ◌∷◌, ◌==◌, length, if◌then◌else◌, ◌∙◌, IsTrue, arith}
use Rattle.disk_model.specs.Calls.{MakesThese, FailsAmong}
use Rattle.disk_model.specs.Files.{parity_of}
use Rattle.disk_model.proofs.VaultLemmas.{on_ok, on_err}
use Rattle.disk_model.proofs.InOrder.{these_then, among_then, among_front, call_these, call_among}
use Rattle.parity_writer.proofs.LengthCalls.{right_length, other_length}
use Rattle.parity_writer.proofs.lengths.set_length.Goals as goal

pub returns-in_err-parity_len-clause-changes : goal.returns-in_err-parity_len-clause-changes
returns-in_err-parity_len-clause-changes g c =
    changes_more _ _ _ _ (g.V.Vault.well_formed _) (λ told a b same. subst (StretchesParity c.args.level c.args.bytes a) (sym same) (stretch_nothing c.args.level c.args.bytes a)) c.parity_len.ensures.call.changes

pub returns-then-branch-bytes-clause-changes : goal.returns-then-branch-bytes-clause-changes
returns-then-branch-bytes-clause-changes g c =
    changes_more _ _ _ _ (g.V.Vault.well_formed _) (λ told a b same. subst (StretchesParity c.args.level c.args.bytes a) (sym same) (stretch_nothing c.args.level c.args.bytes a)) c.parity_len.ensures.call.changes

pub returns-clause-calls : goal.returns-clause-calls
returns-clause-calls g c = more_calls _ _ _ _ (one_call _ _ _ c.parity_len.ensures.call.called.goes_on) c.parity_set_len.ensures.call.goes_on

pub returns-in_err-parity_len-clause-cause : goal.returns-in_err-parity_len-clause-cause
returns-in_err-parity_len-clause-cause g c =
    on_any c.from_residual.result (fails_one (IsLengthCall c.args.bytes) (g.V.Vault.view c.args.vault.now) (g.V.Vault.view c.parity_len.new.self) (ParityLen c.args.level) Failed tt refl c.in_err-parity_len.ensures.call.called.cause c.in_err-parity_len.ensures.call.called.goes_on)

pub returns-then-branch-bytes-clause-made : goal.returns-then-branch-bytes-clause-made
returns-then-branch-bytes-clause-made g c =
    makes_one (IsLengthCall c.args.bytes) (g.V.Vault.view c.args.vault.now) (g.V.Vault.view c.parity_len.new.self) (ParityLen c.args.level) (Bytes _) tt refl c.in_ok-parity_len.ensures.call.called.goes_on

pub returns-clause-made : goal.returns-clause-made
returns-clause-made g c =
    let old = g.V.Vault.view c.args.vault.now in
    let mid = g.V.Vault.view c.parity_len.new.self in
    let new = g.V.Vault.view c.parity_set_len.new.self in
    let P = IsLengthCall c.args.bytes in
    then_makes P c.parity_set_len.result old mid new (makes_one P old mid (ParityLen c.args.level) (Bytes _) tt refl c.in_ok-parity_len.ensures.call.called.goes_on)
    (call_makes P (ParitySetLen c.args.level c.args.bytes) c.parity_set_len.result mid new refl c.parity_set_len.ensures.call)

pub returns-clause-cause : goal.returns-clause-cause
returns-clause-cause g c =
    let old = g.V.Vault.view c.args.vault.now in
    let mid = g.V.Vault.view c.parity_len.new.self in
    let new = g.V.Vault.view c.parity_set_len.new.self in
    let P = IsLengthCall c.args.bytes in
    then_fails P c.parity_set_len.result old mid new (one_call old mid _ c.parity_len.ensures.call.called.goes_on) (one_call mid new _ c.parity_set_len.ensures.call.goes_on)
    (makes_one P old mid (ParityLen c.args.level) (Bytes _) tt refl c.in_ok-parity_len.ensures.call.called.goes_on)
    (call_fails P (ParitySetLen c.args.level c.args.bytes) c.parity_set_len.result mid new refl c.parity_set_len.ensures.call)

pub returns-in_err-parity_len-clause-failed : goal.returns-in_err-parity_len-clause-failed
returns-in_err-parity_len-clause-failed g c =
    let old = g.V.Vault.view c.args.vault.now in
    let new = g.V.Vault.view c.parity_len.new.self in
    let later = if length (parity_of old.files c.args.level) == c.args.bytes then [] else ParitySetLen c.args.level c.args.bytes ∷ [] in
    on_any c.from_residual.result (λ (told : IsTrue old.tells).
    among_front (ParityLen c.args.level ∷ []) later old new (among_one [] [] (ParityLen c.args.level) Failed old old new refl (omega arith) c.in_err-parity_len.ensures.call.called.cause (these_none old) c.in_err-parity_len.ensures.call.called.goes_on))

pub returns-then-branch-bytes-clause-ordered : goal.returns-then-branch-bytes-clause-ordered
returns-then-branch-bytes-clause-ordered g c = λ told.
    let old = g.V.Vault.view c.args.vault.now in
    let new = g.V.Vault.view c.parity_len.new.self in
    let right : length (parity_of old.files c.args.level) ≡ c.args.bytes = sym (c.in_ok-parity_len.ensures.found told) ∙ c.if-branch-bytes.true in
    subst (λ calls. MakesThese calls old new) (sym (right_length c.args.bytes c.args.level old.files right))
    (these_more [] (ParityLen c.args.level) (Bytes _) old old new refl (these_none old) c.in_ok-parity_len.ensures.call.called.goes_on)

pub returns-clause-ordered : goal.returns-clause-ordered
returns-clause-ordered g c =
    let old = g.V.Vault.view c.args.vault.now in
    let mid = g.V.Vault.view c.parity_len.new.self in
    let new = g.V.Vault.view c.parity_set_len.new.self in
    let asked : MakesThese (ParityLen c.args.level ∷ []) old mid = these_more [] (ParityLen c.args.level) (Bytes _) old old mid refl (these_none old) c.in_ok-parity_len.ensures.call.called.goes_on in
    on_ok c.parity_set_len.result
    (λ (two : MakesThese (ParitySetLen c.args.level c.args.bytes ∷ []) mid new) (told : IsTrue old.tells).
    subst (λ calls. MakesThese calls old new) (sym (other_length c.args.bytes c.args.level old.files (λ same. c.if-branch-bytes.false (c.in_ok-parity_len.ensures.found told ∙ same))))
    (these_then (ParityLen c.args.level ∷ []) (ParitySetLen c.args.level c.args.bytes ∷ []) old mid new asked two))
    (call_these (ParitySetLen c.args.level c.args.bytes) c.parity_set_len.result mid new c.parity_set_len.ensures.call)

pub returns-clause-failed : goal.returns-clause-failed
returns-clause-failed g c =
    let old = g.V.Vault.view c.args.vault.now in
    let mid = g.V.Vault.view c.parity_len.new.self in
    let new = g.V.Vault.view c.parity_set_len.new.self in
    let asked : MakesThese (ParityLen c.args.level ∷ []) old mid = these_more [] (ParityLen c.args.level) (Bytes _) old old mid refl (these_none old) c.in_ok-parity_len.ensures.call.called.goes_on in
    on_err c.parity_set_len.result
    (λ (two : FailsAmong (ParitySetLen c.args.level c.args.bytes ∷ []) mid new) (told : IsTrue old.tells).
    subst (λ calls. FailsAmong calls old new) (sym (other_length c.args.bytes c.args.level old.files (λ same. c.if-branch-bytes.false (c.in_ok-parity_len.ensures.found told ∙ same))))
    (among_then (ParityLen c.args.level ∷ []) (ParitySetLen c.args.level c.args.bytes ∷ []) old mid new c.parity_len.ensures.call.called.goes_on.later c.parity_set_len.ensures.call.goes_on.calls.told asked two))
    (call_among (ParitySetLen c.args.level c.args.bytes) c.parity_set_len.result mid new c.parity_set_len.ensures.call)
