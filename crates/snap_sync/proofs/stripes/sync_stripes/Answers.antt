-- The invariant is `HasSynced` of the work whose near window has its digests: `RunLemmas` says how it begins, `JudgedLemmas` and
-- `BehindLemmas` how it goes on and what a failed call leaves, and `FetchedLemmas` what a turn is to them.
use Rattle.std.proofs.Common.{◌≡◌, ◌+◌, ◌<◌, ℕ, length, map, refl, sym, ap, ◌∙◌, arith}
use Rattle.std.proofs.lemmas.List.{length-map}
use Rattle.std.specs.Vec.{with_items}
use Rattle.content_file.specs.Save.{piece_size}
use Rattle.disk_model.proofs.VaultLemmas.{calls_then}
use Rattle.snap_sync.specs.declared.beginning.Work.{Work}
use Rattle.snap_sync.specs.Closing.{closed}
use Rattle.snap_sync.specs.Course.{outside}
use Rattle.snap_sync.specs.Run.{plan_for, all_of, readings_near, saves_behind, stripes_near}
use Rattle.snap_sync.proofs.BehindLemmas.{underway_behind, stopped_behind, calls_behind}
use Rattle.snap_sync.proofs.FetchedLemmas.{first_cells, first_hashed, first_read, judges_of, keeps_far, next_cells, next_unhashed, reads_far, reads_next, ready_hashed, ready_without, swaps_far, syncs_hashed, turned_cells, turned_chosen, turned_ready, work_without}
use Rattle.snap_sync.proofs.JudgedLemmas.{was_judged, levels_now, folders_now, turned_table, turned_all, turned_done, breaks_turned, synced_more, written_judged, stopped_judged}
use Rattle.snap_sync.proofs.RunLemmas.{setting_of, synced_start, breaks_opening, on_err}
use Rattle.snap_sync.proofs.UnderwayLemmas.{underway_stopped_opening}
use Rattle.snap_sync.proofs.WorkLemmas.{turned_work}
use Rattle.snap_sync.proofs.stripes.sync_stripes.Goals as goal

pub returns-in_err-open-clause-broke : goal.returns-in_err-open-clause-broke
returns-in_err-open-clause-broke g c =
    let old = outside (map g.F.Folder.view c.args.folders.now) (g.V.Vault.view c.args.vault.now) c.args.lines.now c.args.reports.now.items in
    let setting = setting_of c.args.work.now c.args.pace old c.requires.disks.levels (length-map c.args.folders.now g.F.Folder.view ∙ c.requires.disks.columns) c.requires.begun.every c.requires.begun.pending in
    let plan = plan_for c.args.work.now c.args.pace old.vault in
    let piece : piece_size ≡ length c.as_mut_slice.result.now = sym (ap length c.as_mut_slice.ensures.value ∙ c.requires.begun.is_work.room.piece) in
    let stopped = underway_stopped_opening plan old.vault (g.V.Vault.view c.open.new.vault) c.open.ensures.calls c.in_err-open.ensures.broke (c.in_err-open.ensures.ran plan refl piece setting.for) (c.open.ensures.changes plan refl setting.for) in
    on_err c.from_residual.result (breaks_opening _ _ _ plan old _ refl refl refl stopped)

pub loop-progress-init : goal.loop-progress-init
loop-progress-init g c =
    let old = outside (map g.F.Folder.view c.args.folders.now) (g.V.Vault.view c.args.vault.now) c.args.lines.now c.args.reports.now.items in
    let setting = setting_of c.args.work.now c.args.pace old c.requires.disks.levels (length-map c.args.folders.now g.F.Folder.view ∙ c.requires.disks.columns) c.requires.begun.every c.requires.begun.pending in
    let piece : piece_size ≡ length c.as_mut_slice.result.now = sym (ap length c.as_mut_slice.ensures.value ∙ c.requires.begun.is_work.room.piece) in
    let begun = c.args.work.now in
    let start : Work = record begun { room = record begun.room { piece = with_items begun.room.piece c.open.new.piece } } in
    let work = c.fetch_first.new.work in
    let first = c.fetch_first.ensures in
    record {
      synced = synced_start _ _ _ old refl c.requires.begun.pending setting.lent (first_hashed start work first.rest) (ready_hashed c.args.pace.every work 0 first.ready) (first_read start work (stripes_near work 0) _ _ first.rest first.fetched) refl
          (c.in_ok-open.ensures.opened (plan_for c.args.work.now c.args.pace old.vault) refl piece setting.for);
      unhashed = first.fetched.unhashed;
      cells = first_cells start work (stripes_near work 0) _ _ first.rest first.fetched;
    }

pub turn_window-requires-clause-ready : goal.turn_window-requires-clause-ready
turn_window-requires-clause-ready g c κs within =
    ready_without c.args.pace.every c.loop-progress.work c.loop-progress.progress.done c.loop-progress.invariant.synced.ready

pub turn_window-requires-clause-disks : goal.turn_window-requires-clause-disks
turn_window-requires-clause-disks g c κs within =
    let old = outside (map g.F.Folder.view c.args.folders.now) (g.V.Vault.view c.args.vault.now) c.args.lines.now c.args.reports.now.items in
    let setting = setting_of c.args.work.now c.args.pace old c.requires.disks.levels (length-map c.args.folders.now g.F.Folder.view ∙ c.requires.disks.columns) c.requires.begun.every c.requires.begun.pending in
    let so_far = c.loop-progress.invariant.synced in
    record {
      columns = sym (length-map c.loop-progress.folders g.F.Folder.view) ∙ folders_now so_far setting;
      levels = levels_now so_far setting;
    }

pub returns-in_err-counts-clause-broke : goal.returns-in_err-counts-clause-broke
returns-in_err-counts-clause-broke g c =
    let old = outside (map g.F.Folder.view c.args.folders.now) (g.V.Vault.view c.args.vault.now) c.args.lines.now c.args.reports.now.items in
    let setting = setting_of c.args.work.now c.args.pace old c.requires.disks.levels (length-map c.args.folders.now g.F.Folder.view ∙ c.requires.disks.columns) c.requires.begun.every c.requires.begun.pending in
    let now = c.args.pace.now in
    let done = c.loop-progress.progress.done in
    let turned = c.turn_window.new.work in
    let turns = c.turn_window.ensures.turns in
    let syncs = syncs_hashed _ _ _ _ _ _ _ _ _ _ _ c.turn_window.ensures.syncs in
    let window = was_judged c.loop-progress.invariant.synced (judges_of now c.loop-progress.work turned done turns syncs.chosen_are) syncs.told in
    let all : c.len-all.result ≡ all_of c.args.work.now = c.len-all.ensures ∙ c.fetch_first.new.work.pending.ok.0 ∙ ap all_of c.fetch_first.ensures.rest in
    let more : c.loop-progress.progress.done < all_of c.loop-progress.work = omega (arith, c.loop-progress-test.true, all, setting.all_is, ap length c.loop-progress.invariant.synced.pending) in
    let closed_work : Work = record turned { table = closed now turned.table (readings_near turned done) } in
    let read = reads_next now c.loop-progress.work turned done turns closed_work refl c.args.pace.every _ _ c.turn_window.ensures.fetched in
    let writes = (syncs_hashed _ _ _ _ _ _ _ _ _ _ _ c.in_err-counts.ensures.syncs).writes in
    let stopped = stopped_judged window setting more (g.V.Vault.well_formed c.turn_window.new.vault) writes.calls writes.changes writes.ran in
    on_err c.from_residual-in_err-counts.result (breaks_turned window setting read writes.calls stopped)

pub close_window-requires-clause-ready : goal.close_window-requires-clause-ready
close_window-requires-clause-ready g c =
    let work = c.loop-progress.work in
    let done = c.loop-progress.progress.done in
    turned_ready c.args.pace.now work c.turn_window.new.work done c.turn_window.ensures.turns c.args.pace.every (ready_without c.args.pace.every work done c.loop-progress.invariant.synced.ready) c.turn_window.ensures.fetched.read.room

pub close_window-requires-clause-cells : goal.close_window-requires-clause-cells
close_window-requires-clause-cells g c =
    turned_cells c.args.pace.now c.loop-progress.work c.turn_window.new.work c.loop-progress.progress.done c.turn_window.ensures.turns c.loop-progress.invariant.cells

pub close_window-requires-clause-chosen : goal.close_window-requires-clause-chosen
close_window-requires-clause-chosen g c =
    let syncs = syncs_hashed _ _ _ _ _ _ _ _ _ _ _ c.turn_window.ensures.syncs in
    turned_chosen c.args.pace.now c.loop-progress.work c.turn_window.new.work c.loop-progress.progress.done c.turn_window.ensures.turns syncs.chosen_are

pub save_behind-requires-clause-work : goal.save_behind-requires-clause-work
save_behind-requires-clause-work g c κs within =
    let now = c.args.pace.now in
    let done = c.loop-progress.progress.done in
    let turned = c.turn_window.new.work in
    let turns = c.turn_window.ensures.turns in
    let syncs = syncs_hashed _ _ _ _ _ _ _ _ _ _ _ c.turn_window.ensures.syncs in
    let window = was_judged c.loop-progress.invariant.synced (judges_of now c.loop-progress.work turned done turns syncs.chosen_are) syncs.told in
    let closed_work = c.close_window.new.work in
    let far = reads_far now c.loop-progress.work turned done turns closed_work c.close_window.ensures in
    let read = reads_next now c.loop-progress.work turned done turns closed_work c.close_window.ensures c.args.pace.every _ _ c.turn_window.ensures.fetched in
    work_without closed_work (turned_work _ _ window.ready.is_work far read.room)

pub returns-in_err-save_behind-clause-broke : goal.returns-in_err-save_behind-clause-broke
returns-in_err-save_behind-clause-broke g c =
    let old = outside (map g.F.Folder.view c.args.folders.now) (g.V.Vault.view c.args.vault.now) c.args.lines.now c.args.reports.now.items in
    let setting = setting_of c.args.work.now c.args.pace old c.requires.disks.levels (length-map c.args.folders.now g.F.Folder.view ∙ c.requires.disks.columns) c.requires.begun.every c.requires.begun.pending in
    let now = c.args.pace.now in
    let done = c.loop-progress.progress.done in
    let turned = c.turn_window.new.work in
    let turns = c.turn_window.ensures.turns in
    let syncs = syncs_hashed _ _ _ _ _ _ _ _ _ _ _ c.turn_window.ensures.syncs in
    let window = was_judged c.loop-progress.invariant.synced (judges_of now c.loop-progress.work turned done turns syncs.chosen_are) syncs.told in
    let all : c.len-all.result ≡ all_of c.args.work.now = c.len-all.ensures ∙ c.fetch_first.new.work.pending.ok.0 ∙ ap all_of c.fetch_first.ensures.rest in
    let more : c.loop-progress.progress.done < all_of c.loop-progress.work = omega (arith, c.loop-progress-test.true, all, setting.all_is, ap length c.loop-progress.invariant.synced.pending) in
    let closed_work = c.close_window.new.work in
    let far = reads_far now c.loop-progress.work turned done turns closed_work c.close_window.ensures in
    let read = reads_next now c.loop-progress.work turned done turns closed_work c.close_window.ensures c.args.pace.every _ _ c.turn_window.ensures.fetched in
    let synced = syncs_hashed _ _ _ _ _ _ _ _ _ _ _ c.in_ok-counts.ensures.syncs in
    let writes = synced.writes in
    let written = written_judged window setting more (g.V.Vault.well_formed c.turn_window.new.vault) writes.calls writes.changes writes.ran writes.written in
    let done_is = c.with-progress.ensures.done ∙ ap (λ (n : ℕ). done + n) c.count.ensures in
    let next = turned_done window c.with-progress.result.done far done_is in
    let stopped = stopped_behind setting (turned_all window far setting) next (turned_table window far) (g.V.Vault.well_formed c.save_behind.new.vault) written
    (saves_behind c.args.pace.every (all_of closed_work) c.with-progress.result.done) c.in_err-save_behind.field-0.0 refl c.in_err-save_behind.ensures.saves (λ none. (c.in_err-save_behind.ensures.rests none).0) in
    let calls = calls_then (g.V.Vault.view c.loop-progress.vault) (g.V.Vault.view c.turn_window.new.vault) (g.V.Vault.view c.save_behind.new.vault) writes.calls
    (calls_behind setting (turned_all window far setting) next (turned_table window far) (g.V.Vault.well_formed c.save_behind.new.vault) written
    (saves_behind c.args.pace.every (all_of closed_work) c.with-progress.result.done) c.in_err-save_behind.field-0.0 refl c.in_err-save_behind.ensures.saves (λ none. (c.in_err-save_behind.ensures.rests none).0)) in
    on_err c.from_residual-in_err-save_behind.result (breaks_turned window setting read calls stopped)

pub loop-progress-preserved : goal.loop-progress-preserved
loop-progress-preserved g c =
    let old = outside (map g.F.Folder.view c.args.folders.now) (g.V.Vault.view c.args.vault.now) c.args.lines.now c.args.reports.now.items in
    let setting = setting_of c.args.work.now c.args.pace old c.requires.disks.levels (length-map c.args.folders.now g.F.Folder.view ∙ c.requires.disks.columns) c.requires.begun.every c.requires.begun.pending in
    let now = c.args.pace.now in
    let done = c.loop-progress.progress.done in
    let turned = c.turn_window.new.work in
    let turns = c.turn_window.ensures.turns in
    let syncs = syncs_hashed _ _ _ _ _ _ _ _ _ _ _ c.turn_window.ensures.syncs in
    let window = was_judged c.loop-progress.invariant.synced (judges_of now c.loop-progress.work turned done turns syncs.chosen_are) syncs.told in
    let all : c.len-all.result ≡ all_of c.args.work.now = c.len-all.ensures ∙ c.fetch_first.new.work.pending.ok.0 ∙ ap all_of c.fetch_first.ensures.rest in
    let more : c.loop-progress.progress.done < all_of c.loop-progress.work = omega (arith, c.loop-progress-test.true, all, setting.all_is, ap length c.loop-progress.invariant.synced.pending) in
    let closed_work = c.close_window.new.work in
    let far = reads_far now c.loop-progress.work turned done turns closed_work c.close_window.ensures in
    let read = reads_next now c.loop-progress.work turned done turns closed_work c.close_window.ensures c.args.pace.every _ _ c.turn_window.ensures.fetched in
    let synced = syncs_hashed _ _ _ _ _ _ _ _ _ _ _ c.in_ok-counts.ensures.syncs in
    let writes = synced.writes in
    let written = written_judged window setting more (g.V.Vault.well_formed c.turn_window.new.vault) writes.calls writes.changes writes.ran writes.written in
    let done_is = c.with-progress.ensures.done ∙ ap (λ (n : ℕ). done + n) c.count.ensures in
    let next = turned_done window c.with-progress.result.done far done_is in
    let under = underway_behind setting (turned_all window far setting) next (turned_table window far) (g.V.Vault.well_formed c.save_behind.new.vault) written
    (saves_behind c.args.pace.every (all_of closed_work) c.with-progress.result.done) refl c.in_ok-save_behind.ensures.saves (λ none. ap g.V.Vault.view (c.in_ok-save_behind.ensures.rests none).1) in
    let saved = c.save_behind.new.work in
    let swapped = c.swap_windows.new.work in
    record {
      synced = synced_more window setting read synced.counts far refl (keeps_far closed_work saved c.save_behind.ensures.rest)
          (swaps_far saved swapped c.swap_windows.ensures) done_is c.with-progress.ensures.synced c.with-progress.ensures.findings under.1;
      unhashed = next_unhashed now c.loop-progress.work turned done turns closed_work c.close_window.ensures saved swapped c.save_behind.ensures.rest c.swap_windows.ensures c.turn_window.ensures.fetched.unhashed;
      cells = next_cells now c.loop-progress.work turned done turns closed_work c.close_window.ensures c.args.pace.every _ _ saved swapped c.with-progress.result.done
          (ready_without c.args.pace.every c.loop-progress.work done c.loop-progress.invariant.synced.ready) c.turn_window.ensures.fetched c.save_behind.ensures.rest c.swap_windows.ensures done_is;
    }
