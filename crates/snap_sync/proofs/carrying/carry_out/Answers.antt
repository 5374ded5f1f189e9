-- All pending stripes were read; the last checkpoint and the last line come to it.
use Rattle.std.proofs.Common.{◌≡◌, ◌+◌, ◌-◌, length, map, refl, sym, subst, ap, ◌∙◌, arith}
use Rattle.std.proofs.lemmas.List.{length-map}
use Rattle.content_file.specs.Encoding.{IsDigestOf}
use Rattle.file_table.specs.Table.{TableValue}
use Rattle.snap_sync.specs.Course.{outside}
use Rattle.snap_sync.specs.Run.{all_of}
use Rattle.snap_sync.proofs.BehindLemmas.{saved_is, saves_not}
use Rattle.snap_sync.proofs.EndLemmas.{none_read, synced_within, breaks_ending, ends_with}
use Rattle.snap_sync.proofs.RunLemmas.{setting_of, on_err}
use Rattle.snap_sync.proofs.carrying.carry_out.Goals as goal

pub digest_after-digest-requires : goal.digest_after-digest-requires
digest_after-digest-requires g c = λ none.
    let so_far = c.in_ok-progress.ensures.synced in
    let same : c.sync_stripes.new.work.table ≡ c.args.work.table = none_read so_far.readings c.args.pace.now c.args.work.table c.sync_stripes.new.work.table (so_far.count ∙ none) so_far.table in
    subst (λ (table : TableValue). IsDigestOf table c.of-start.result) (sym same) c.of-start.ensures

pub returns-in_err-checkpoint-clause-broke : goal.returns-in_err-checkpoint-clause-broke
returns-in_err-checkpoint-clause-broke g c =
    let so_far = c.in_ok-progress.ensures.synced in
    let old = outside (map g.F.Folder.view c.args.folders.now) (g.V.Vault.view c.args.vault.now) c.args.lines.now c.args.reports.now.items in
    let setting = setting_of c.args.work c.args.pace old c.requires.disks.levels (length-map c.args.folders.now g.F.Folder.view ∙ c.requires.disks.columns) c.requires.begun.every c.requires.begun.pending in
    let saves = saves_not c.sync_stripes.new.work.table _ (g.V.Vault.view c.sync_stripes.new.vault) (g.V.Vault.view c.checkpoint.new.vault) c.in_err-checkpoint.ensures in
    on_err c.from_residual-in_err-checkpoint.result (breaks_ending so_far setting c.in_ok-progress.ensures.all refl (g.V.Vault.well_formed c.checkpoint.new.vault) saves)

pub returns-clause-ends : goal.returns-clause-ends
returns-clause-ends g c =
    let so_far = c.in_ok-progress.ensures.synced in
    let old = outside (map g.F.Folder.view c.args.folders.now) (g.V.Vault.view c.args.vault.now) c.args.lines.now c.args.reports.now.items in
    let setting = setting_of c.args.work c.args.pace old c.requires.disks.levels (length-map c.args.folders.now g.F.Folder.view ∙ c.requires.disks.columns) c.requires.begun.every c.requires.begun.pending in
    let saves = saved_is c.sync_stripes.new.work.table (g.V.Vault.view c.sync_stripes.new.vault) (g.V.Vault.view c.checkpoint.new.vault) c.in_ok-checkpoint.ensures in
    let counted : c.in_ok-progress.progress.synced + (c.len.result - c.in_ok-progress.progress.synced) ≡ all_of c.args.work =
    omega (arith, synced_within so_far setting c.in_ok-progress.ensures.all, c.len.ensures, c.sync_stripes.new.work.pending.ok.0, ap length so_far.pending, setting.all_is) in
    ends_with so_far setting c.in_ok-progress.ensures.all refl (g.V.Vault.well_formed c.checkpoint.new.vault) _ saves c.in_ok-checkpoint.ensures.no_draft refl refl refl counted c.end_sync.ensures.puts c.end_sync.ensures.settled
