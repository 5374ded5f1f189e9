use Rattle.std.proofs.Common.{[], ◌∷◌, length}
use Rattle.disk_model.specs.Vault.{Publish}
use Rattle.disk_model.proofs.VaultLemmas.{one_call, more_calls, on_any}
use Rattle.disk_model.proofs.InOrder.{among_front, call_these, call_among, then_these, then_among}
use Rattle.content_file.specs.Save.{draft_calls}
use Rattle.content_file.specs.Spelling.{spelling}
use Rattle.content_file.proofs.Drafts.{draft_gone}
use Rattle.content_file.proofs.SaveLemmas.{no_publish, published, copy_saved}
use Rattle.content_file.proofs.saving.save_copy.Goals as goal

pub returns-in_err-write_draft-clause-cause : goal.returns-in_err-write_draft-clause-cause
returns-in_err-write_draft-clause-cause g c =
    on_any c.from_residual.result (among_front (draft_calls (length c.args.buffer.now) (spelling c.args.table.now) c.args.copy) (Publish c.args.copy ∷ []) (g.V.Vault.view c.args.vault.now) (g.V.Vault.view c.write_draft.new.vault) c.in_err-write_draft.ensures.cause)

pub returns-clause-made : goal.returns-clause-made
returns-clause-made g c =
    let mid = g.V.Vault.view c.write_draft.new.vault in
    let new = g.V.Vault.view c.publish.new.self in
    then_these (draft_calls (length c.args.buffer.now) (spelling c.args.table.now) c.args.copy) (Publish c.args.copy ∷ []) c.publish.result (g.V.Vault.view c.args.vault.now) mid new c.in_ok-write_draft.ensures.made
    (call_these (Publish c.args.copy) c.publish.result mid new c.publish.ensures.call)

pub returns-clause-cause : goal.returns-clause-cause
returns-clause-cause g c =
    let mid = g.V.Vault.view c.write_draft.new.vault in
    let new = g.V.Vault.view c.publish.new.self in
    then_among (draft_calls (length c.args.buffer.now) (spelling c.args.table.now) c.args.copy) (Publish c.args.copy ∷ []) c.publish.result (g.V.Vault.view c.args.vault.now) mid new c.write_draft.ensures.calls (one_call mid new _ c.publish.ensures.call.goes_on) c.in_ok-write_draft.ensures.made
    (call_among (Publish c.args.copy) c.publish.result mid new c.publish.ensures.call)

pub returns-in_err-write_draft-clause-changes : goal.returns-in_err-write_draft-clause-changes
returns-in_err-write_draft-clause-changes g c = no_publish _ _ _ _ c.write_draft.ensures.changes

pub returns-clause-calls : goal.returns-clause-calls
returns-clause-calls g c = more_calls _ _ _ _ c.write_draft.ensures.calls c.publish.ensures.call.goes_on

pub returns-clause-changes : goal.returns-clause-changes
returns-clause-changes g c =
    published _ _ _ _ _ c.write_draft.ensures.calls (g.V.Vault.well_formed _) c.requires.copy c.in_ok-write_draft.ensures.sealed c.write_draft.ensures.changes c.publish.ensures.changes

pub returns-clause-saved : goal.returns-clause-saved
returns-clause-saved g c =
    copy_saved c.publish.result c.args.copy (spelling c.args.table.now) _ _ _ c.write_draft.ensures.calls (g.V.Vault.well_formed _) (g.V.Vault.well_formed _) c.requires.copy c.in_ok-write_draft.ensures.sealed c.publish.ensures.call.goes_on.tells c.publish.ensures.published

pub returns-clause-gone : goal.returns-clause-gone
returns-clause-gone g c = draft_gone _ _ _ _ _ c.write_draft.ensures.calls c.in_ok-write_draft.ensures.sealed c.publish.ensures.gone
