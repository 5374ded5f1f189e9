-- The folders were listed and the table laid out: then it is carried out.
use Rattle.std.proofs.Common.{◌*◌, ℕ, length, sym, ap, ap₂, ◌∙◌}
use Rattle.std.proofs.lemmas.List.{length-map}
use Rattle.folder_listing.specs.Kept.{kept_lists}
use Rattle.file_table.specs.Table.{TableValue}
use Rattle.array_setup.specs.Setup.{setup_value}
use Rattle.snap_sync.specs.Schedule.{save_after}
use Rattle.snap_sync.specs.declared.stripes.Pace.{Pace}
use Rattle.snap_sync.proofs.BeginLemmas.{layout_width}
use Rattle.snap_sync.proofs.EndLemmas.{plan_is, syncs_with, breaks_off}
use Rattle.snap_sync.proofs.WorkLemmas.{work_begun}
use Rattle.snap_sync.proofs.syncing.sync.Goals as goal

pub carry_out-requires-clause-begun : goal.carry_out-requires-clause-begun
carry_out-requires-clause-begun g c κs within = record {
  is_work = work_begun c.in_ok-work.work c.in_ok-work.ensures.room c.in_ok-work.ensures.pending c.in_ok-work.ensures.laid.valid.short;
  pending = c.in_ok-work.ensures.pending;
  every = c.save_after.ensures.some;
}

pub carry_out-requires-clause-disks : goal.carry_out-requires-clause-disks
carry_out-requires-clause-disks g c κs within =
    let laid = c.in_ok-work.ensures.laid in
    record {
      columns = sym (length-map c.begin.new.folders g.F.Folder.view) ∙ laid.as_many ∙ c.requires.folders_are
          ∙ sym (ap (λ (table : TableValue). length table.columns) laid.start_is ∙ layout_width c.args.old (kept_lists (setup_value c.args.setup.now) laid.lists));
      levels = c.requires.levels ∙ sym (ap (λ (table : TableValue). table.shape.levels) laid.start_is);
    }

pub returns-in-Ok-clause-done : goal.returns-in-Ok-clause-done
returns-in-Ok-clause-done g c =
    let work = c.in_ok-work.work in
    let every = c.save_after.ensures.value ∙ ap₂ (λ (size columns : ℕ). save_after c.args.way.now.save_every c.args.setup.now.autosave (size * columns)) (c.from.ensures ∙ ap (λ it. it.block_size) c.shape.ensures.shape) (c.from-columns.ensures ∙ c.disks.ensures.count) in
    let pace : Pace = record { every = c.save_after.result; readers = c.args.readers; now = c.args.now } in
    syncs_with c.in_ok-work.ensures.laid (plan_is (setup_value c.args.setup.now) c.args.way.now work pace (g.V.Vault.view c.args.vault.now) c.in_ok-work.ensures.pending every) c.in-Ok.ensures.ends

pub returns-in-Err-clause-failed : goal.returns-in-Err-clause-failed
returns-in-Err-clause-failed g c =
    let work = c.in_ok-work.work in
    let every = c.save_after.ensures.value ∙ ap₂ (λ (size columns : ℕ). save_after c.args.way.now.save_every c.args.setup.now.autosave (size * columns)) (c.from.ensures ∙ ap (λ it. it.block_size) c.shape.ensures.shape) (c.from-columns.ensures ∙ c.disks.ensures.count) in
    let pace : Pace = record { every = c.save_after.result; readers = c.args.readers; now = c.args.now } in
    breaks_off c.in_ok-work.ensures.laid (plan_is (setup_value c.args.setup.now) c.args.way.now work pace (g.V.Vault.view c.args.vault.now) c.in_ok-work.ensures.pending every) c.in-Err.ensures.broke
