use Rattle.std.proofs.Common.{◌≡◌, ℕ, ◌*◌, [], length, ap, ap₂, ◌∙◌}
use Rattle.disk_model.specs.Ran.{log_of}
use Rattle.disk_model.specs.Vault.{copies_of, state_of}
use Rattle.disk_model.proofs.VaultLemmas.{calls_then, on_any, on_err}
use Rattle.file_table.specs.declared.shape.Shape.{Shape}
use Rattle.content_file.specs.Save.{piecewise_calls}
use Rattle.content_file.specs.Spelling.{spelling}
use Rattle.snap_sync.specs.Calls.{level_bytes}
use Rattle.snap_sync.specs.Work.{IsPlanFor, IsUnderway}
use Rattle.snap_sync.proofs.BrokeLemmas.{pieces_change, broke_among, broke_lengths, broke_after}
use Rattle.snap_sync.proofs.OpenedLemmas.{opened_exit}
use Rattle.snap_sync.proofs.OpeningLemmas.{SavedFirst, SetsLengths, saves_stand, saves_up_to, open_stands, open_ran, open_opened, ok_for_each}
use Rattle.snap_sync.proofs.opening.open.Goals as goal

pub returns-in_err-save-clause-broke : goal.returns-in_err-save-clause-broke
returns-in_err-save-clause-broke g c =
    let vault = g.V.Vault.view in
    let old = vault c.args.vault.now in
    let new = vault c.save.new.vault in
    let size = length c.args.piece.now in
    let bytes = spelling c.args.table.now in
    on_any c.from_residual.result (broke_among (piecewise_calls size (copies_of old) bytes) old new (pieces_change size (copies_of old) bytes) c.in_err-save.ensures.ran)

pub returns-in_err-save-clause-ran : goal.returns-in_err-save-clause-ran
returns-in_err-save-clause-ran g c = λ plan start_is piece_is for.
    let vault = g.V.Vault.view in
    let old = vault c.args.vault.now in
    let new = vault c.save.new.vault in
    opened_exit _ plan [] c.from_residual.result (state_of old) (log_of (state_of new)) c.from_residual.ensures.1
    (saves_up_to plan c.args.table.now (length c.args.piece.now) old new start_is piece_is for c.in_err-save.ensures.ran)

pub returns-in_err-save-clause-changes : goal.returns-in_err-save-clause-changes
returns-in_err-save-clause-changes g c = λ plan start_is for.
    let vault = g.V.Vault.view in
    saves_stand plan c.args.table.now (vault c.args.vault.now) (vault c.save.new.vault) start_is for c.save.ensures.calls c.save.ensures.changes

pub returns-clause-broke : goal.returns-clause-broke
returns-clause-broke g c =
    let vault = g.V.Vault.view in
    let old = vault c.args.vault.now in
    let mid = vault c.save.new.vault in
    let new = vault c.set_lengths.new.vault in
    on_err c.set_lengths.result (λ fails. broke_after old mid new c.save.ensures.calls c.set_lengths.ensures.calls (broke_lengths _ mid new fails)) c.set_lengths.ensures.cause

pub returns-clause-ran : goal.returns-clause-ran
returns-clause-ran g c = λ plan start_is piece_is for.
    let vault = g.V.Vault.view in
    let old = vault c.args.vault.now in
    let mid = vault c.save.new.vault in
    let new = vault c.set_lengths.new.vault in
    let table = c.args.table.now in
    let bytes_are : c.from.result * c.from-2.result ≡ level_bytes table = ap₂ (λ (a b : ℕ). a * b) (c.from.ensures ∙ c.length.ensures.count) (c.from-2.ensures ∙ ap (λ (shape : Shape). shape.block_size) c.shape.ensures.shape) in
    let first : SavedFirst table (length c.args.piece.now) (copies_of old) old mid = record { calls = c.save.ensures.calls; changes = c.save.ensures.changes; ran = c.in_ok-save.ensures.ran; saved = c.in_ok-save.ensures.saved } in
    let it = c.set_lengths.ensures in
    let sets : SetsLengths (c.from.result * c.from-2.result) c.set_lengths.result mid new = record { calls = it.calls; changes = it.changes; ordered = it.ordered; failed = it.failed; made = it.made; cause = it.cause; set = it.set } in
    open_ran plan table (length c.args.piece.now) (c.from.result * c.from-2.result) c.set_lengths.result old mid new start_is for bytes_are first sets (g.V.Vault.well_formed c.set_lengths.new.vault) piece_is

pub returns-clause-changes : goal.returns-clause-changes
returns-clause-changes g c = λ plan start_is for.
    let vault = g.V.Vault.view in
    let old = vault c.args.vault.now in
    let mid = vault c.save.new.vault in
    let new = vault c.set_lengths.new.vault in
    let table = c.args.table.now in
    let bytes_are : c.from.result * c.from-2.result ≡ level_bytes table = ap₂ (λ (a b : ℕ). a * b) (c.from.ensures ∙ c.length.ensures.count) (c.from-2.ensures ∙ ap (λ (shape : Shape). shape.block_size) c.shape.ensures.shape) in
    let first : SavedFirst table (length c.args.piece.now) (copies_of old) old mid = record { calls = c.save.ensures.calls; changes = c.save.ensures.changes; ran = c.in_ok-save.ensures.ran; saved = c.in_ok-save.ensures.saved } in
    let it = c.set_lengths.ensures in
    let sets : SetsLengths (c.from.result * c.from-2.result) c.set_lengths.result mid new = record { calls = it.calls; changes = it.changes; ordered = it.ordered; failed = it.failed; made = it.made; cause = it.cause; set = it.set } in
    open_stands plan table (length c.args.piece.now) (c.from.result * c.from-2.result) c.set_lengths.result old mid new start_is for bytes_are first sets (g.V.Vault.well_formed c.set_lengths.new.vault)

pub returns-clause-opened : goal.returns-clause-opened
returns-clause-opened g c =
    let vault = g.V.Vault.view in
    let old = vault c.args.vault.now in
    let mid = vault c.save.new.vault in
    let new = vault c.set_lengths.new.vault in
    let table = c.args.table.now in
    let bytes_are : c.from.result * c.from-2.result ≡ level_bytes table = ap₂ (λ (a b : ℕ). a * b) (c.from.ensures ∙ c.length.ensures.count) (c.from-2.ensures ∙ ap (λ (shape : Shape). shape.block_size) c.shape.ensures.shape) in
    let first : SavedFirst table (length c.args.piece.now) (copies_of old) old mid = record { calls = c.save.ensures.calls; changes = c.save.ensures.changes; ran = c.in_ok-save.ensures.ran; saved = c.in_ok-save.ensures.saved } in
    let it = c.set_lengths.ensures in
    let sets : SetsLengths (c.from.result * c.from-2.result) c.set_lengths.result mid new = record { calls = it.calls; changes = it.changes; ordered = it.ordered; failed = it.failed; made = it.made; cause = it.cause; set = it.set } in
    ok_for_each (λ plan. IsPlanFor plan old) (λ plan. IsUnderway plan [] 0 0 old new) c.set_lengths.result table (length c.args.piece.now)
    (λ plan start_is piece_is for.
    open_opened plan table (length c.args.piece.now) (c.from.result * c.from-2.result) c.set_lengths.result old mid new start_is for bytes_are first sets (g.V.Vault.well_formed c.set_lengths.new.vault) piece_is)

pub returns-clause-calls : goal.returns-clause-calls
returns-clause-calls g c = calls_then (g.V.Vault.view c.args.vault.now) (g.V.Vault.view c.save.new.vault) (g.V.Vault.view c.set_lengths.new.vault) c.save.ensures.calls c.set_lengths.ensures.calls
