use Rattle.std.proofs.Common.{[], ◌∷◌, ◌++◌, length, refl, ◌∙◌}
use Rattle.disk_model.specs.Files.{Stays}
use Rattle.disk_model.specs.Vault.{DraftBegin, DraftSeal}
use Rattle.disk_model.proofs.VaultLemmas.{stays_then, one_call, more_calls, calls_then, on_ok, on_err, on_any}
use Rattle.disk_model.proofs.InOrder.{these_then, among_then, among_front, call_these, call_among, then_these, then_among}
use Rattle.content_file.specs.Save.{append_calls}
use Rattle.content_file.specs.Spelling.{spelling}
use Rattle.content_file.proofs.Drafts.{begun_filled, filled_sealed, draft_gone}
use Rattle.content_file.proofs.saving.write_draft.Goals as goal

pub returns-in_err-draft_begin-clause-cause : goal.returns-in_err-draft_begin-clause-cause
returns-in_err-draft_begin-clause-cause g c =
    let old = g.V.Vault.view c.args.vault.now in
    let new = g.V.Vault.view c.draft_begin.new.self in
    let appends = append_calls (length c.args.buffer.now) c.args.copy (spelling c.args.table.now) in
    on_any c.from_residual.result (among_front (DraftBegin c.args.copy ∷ []) (appends ++ DraftSeal c.args.copy ∷ []) old new (call_among (DraftBegin c.args.copy) _ old new c.in_err-draft_begin.ensures.call))

pub returns-in_err-fill-clause-cause : goal.returns-in_err-fill-clause-cause
returns-in_err-fill-clause-cause g c =
    let old = g.V.Vault.view c.args.vault.now in
    let mid = g.V.Vault.view c.draft_begin.new.self in
    let new = g.V.Vault.view c.fill.new.vault in
    let appends = append_calls (length c.args.buffer.now) c.args.copy (spelling c.args.table.now) in
    on_any c.from_residual-in_err-fill.result
    (among_then (DraftBegin c.args.copy ∷ []) (appends ++ DraftSeal c.args.copy ∷ []) old mid new c.draft_begin.ensures.call.goes_on.later c.fill.ensures.calls.goes_on.calls.told
    (call_these (DraftBegin c.args.copy) _ old mid c.in_ok-draft_begin.ensures.call) (among_front appends (DraftSeal c.args.copy ∷ []) mid new c.in_err-fill.ensures.cause))

-- the draft was begun and filled
pub returns-clause-made : goal.returns-clause-made
returns-clause-made g c =
    let old = g.V.Vault.view c.args.vault.now in
    let begun = g.V.Vault.view c.draft_begin.new.self in
    let filled = g.V.Vault.view c.fill.new.vault in
    let new = g.V.Vault.view c.draft_seal.new.self in
    let appends = append_calls (length c.args.buffer.now) c.args.copy (spelling c.args.table.now) in
    then_these (DraftBegin c.args.copy ∷ appends) (DraftSeal c.args.copy ∷ []) c.draft_seal.result old filled new
    (these_then (DraftBegin c.args.copy ∷ []) appends old begun filled (call_these (DraftBegin c.args.copy) _ old begun c.in_ok-draft_begin.ensures.call) c.in_ok-fill.ensures.made)
    (call_these (DraftSeal c.args.copy) c.draft_seal.result filled new c.draft_seal.ensures.call)

pub returns-clause-cause : goal.returns-clause-cause
returns-clause-cause g c =
    let old = g.V.Vault.view c.args.vault.now in
    let begun = g.V.Vault.view c.draft_begin.new.self in
    let filled = g.V.Vault.view c.fill.new.vault in
    let new = g.V.Vault.view c.draft_seal.new.self in
    let appends = append_calls (length c.args.buffer.now) c.args.copy (spelling c.args.table.now) in
    then_among (DraftBegin c.args.copy ∷ appends) (DraftSeal c.args.copy ∷ []) c.draft_seal.result old filled new (calls_then old begun filled (one_call old begun _ c.draft_begin.ensures.call.goes_on) c.fill.ensures.calls) (one_call filled new _ c.draft_seal.ensures.call.goes_on)
    (these_then (DraftBegin c.args.copy ∷ []) appends old begun filled (call_these (DraftBegin c.args.copy) _ old begun c.in_ok-draft_begin.ensures.call) c.in_ok-fill.ensures.made)
    (call_among (DraftSeal c.args.copy) c.draft_seal.result filled new c.draft_seal.ensures.call)

pub returns-in_err-fill-clause-changes : goal.returns-in_err-fill-clause-changes
returns-in_err-fill-clause-changes g c = stays_then Stays _ _ _ c.draft_begin.ensures.call.goes_on.tells c.draft_begin.ensures.changes c.fill.ensures.changes (λ _. refl)

pub returns-clause-changes : goal.returns-clause-changes
returns-clause-changes g c =
    stays_then Stays _ _ _ (c.fill.ensures.calls.goes_on.tells ∙ c.draft_begin.ensures.call.goes_on.tells)
    (stays_then Stays _ _ _ c.draft_begin.ensures.call.goes_on.tells c.draft_begin.ensures.changes c.fill.ensures.changes (λ _. refl)) c.draft_seal.ensures.changes (λ _. refl)

pub returns-in_err-fill-clause-calls : goal.returns-in_err-fill-clause-calls
returns-in_err-fill-clause-calls g c = calls_then _ _ _ (one_call _ _ _ c.draft_begin.ensures.call.goes_on) c.fill.ensures.calls

pub returns-in_err-fill-clause-gone : goal.returns-in_err-fill-clause-gone
returns-in_err-fill-clause-gone g c = on_any c.from_residual-in_err-fill.result (draft_gone _ _ _ _ _ (one_call _ _ _ c.draft_begin.ensures.call.goes_on) c.in_ok-draft_begin.ensures.begun c.in_err-fill.ensures.gone)

pub returns-clause-calls : goal.returns-clause-calls
returns-clause-calls g c = more_calls _ _ _ _ (calls_then _ _ _ (one_call _ _ _ c.draft_begin.ensures.call.goes_on) c.fill.ensures.calls) c.draft_seal.ensures.call.goes_on

pub returns-clause-sealed : goal.returns-clause-sealed
returns-clause-sealed g c =
    let filled = begun_filled _ _ _ _ _ c.draft_begin.ensures.call (g.V.Vault.well_formed _) c.requires.copy c.in_ok-draft_begin.ensures.begun c.in_ok-fill.ensures.filled in
    on_ok c.draft_seal.result (filled_sealed _ _ _ _ _ c.draft_begin.ensures.call c.fill.ensures.calls (g.V.Vault.well_formed _) c.requires.copy filled) c.draft_seal.ensures.sealed

pub returns-clause-gone : goal.returns-clause-gone
returns-clause-gone g c =
    let filled = begun_filled _ _ _ _ _ c.draft_begin.ensures.call (g.V.Vault.well_formed _) c.requires.copy c.in_ok-draft_begin.ensures.begun c.in_ok-fill.ensures.filled in
    on_err c.draft_seal.result (draft_gone _ _ _ _ _ (calls_then _ _ _ (one_call _ _ _ c.draft_begin.ensures.call.goes_on) c.fill.ensures.calls) filled) c.draft_seal.ensures.gone
