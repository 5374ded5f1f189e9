use Rattle.std.proofs.Common.{ℕ, ◌++◌, subst, is_err}
use Rattle.disk_model.specs.Ran.{Ran, log_of}
use Rattle.disk_model.specs.Vault.{copies_of, state_of}
use Rattle.disk_model.proofs.RanLemmas.{ran_exit, ran_front, ran_then, ran_of_these, ran_of_among}
use Rattle.disk_model.proofs.VaultLemmas.{calls_then, on_any, on_err}
use Rattle.content_file.specs.Save.{piecewise_calls, piece_size}
use Rattle.content_file.specs.Spelling.{spelling}
use Rattle.parity_writer.specs.Calls.{sync_calls}
use Rattle.snap_sync.proofs.BrokeLemmas.{syncs_change, pieces_change, broke_among, broke_if_failed, broke_after}
use Rattle.snap_sync.proofs.CheckpointLemmas.{settles_not, settles_and_saves, still_settled, saved_as, not_ok, ok_or_not}
use Rattle.snap_sync.proofs.opening.checkpoint.Goals as goal

pub returns-in_err-settle : goal.returns-in_err-settle
returns-in_err-settle g c =
    let vault = g.V.Vault.view in
    let old = vault c.args.vault.now in
    let new = vault c.settle.new.vault in
    let bytes = spelling c.args.table.now in
    let syncs = sync_calls old.levels in
    let saves = piecewise_calls piece_size (copies_of old) bytes in
    let it = c.settle.ensures in
    let up = ran_of_among syncs old new it.calls c.in_err-settle.ensures.cause in
    let failed = c.from_residual.ensures.1 in
    record {
      calls = it.calls;
      ran = ran_exit _ (syncs ++ saves) c.from_residual.result (state_of old) (state_of new) failed (ran_front syncs saves (log_of (state_of old)) (log_of (state_of new)) up);
      changes = settles_not old.levels bytes old new it.changes;
      settled = not_ok _ _ c.from_residual.result failed;
      saved = not_ok _ _ c.from_residual.result failed;
      no_draft = not_ok _ _ c.from_residual.result failed;
      broke = on_any c.from_residual.result (broke_among syncs old new (syncs_change old.levels) up);
    }

pub returns : goal.returns
returns g c =
    let vault = g.V.Vault.view in
    let old = vault c.args.vault.now in
    let mid = vault c.settle.new.vault in
    let new = vault c.save.new.vault in
    let bytes = spelling c.args.table.now in
    let syncs = sync_calls old.levels in
    let its = c.settle.ensures in
    let it = c.save.ensures in
    let settled = c.in_ok-settle.ensures.settled in
    let formed = g.V.Vault.well_formed c.save.new.vault in
    let as_many = its.calls.goes_on.copies in
    let saves = subst (λ (size : ℕ). Ran (piecewise_calls size (copies_of mid) bytes) c.save.result (state_of mid) (state_of new)) c.requires.piece it.ran in
    record {
      calls = calls_then old mid new its.calls it.calls;
      ran =
          subst (λ (copies : ℕ). Ran (syncs ++ piecewise_calls piece_size copies bytes) c.save.result (state_of old) (state_of new)) as_many
          (ran_then syncs (piecewise_calls piece_size (copies_of mid) bytes) (is_err c.save.result) (log_of (state_of old)) (log_of (state_of mid)) (log_of (state_of new))
          (ran_of_these syncs old mid its.calls c.in_ok-settle.ensures.made) saves);
      changes = settles_and_saves old.levels bytes old new mid formed its.calls it.calls its.changes settled it.changes;
      settled = ok_or_not c.save.result (still_settled old.levels bytes old new mid formed its.calls it.calls its.changes settled it.changes);
      saved = saved_as c.save.result (copies_of mid) (copies_of old) bytes new as_many it.saved;
      no_draft = it.gone;
      broke = on_err c.save.result (broke_after old mid new its.calls it.calls)
          (broke_if_failed (piecewise_calls piece_size (copies_of mid) bytes) c.save.result mid new (pieces_change piece_size (copies_of mid) bytes) saves);
    }
