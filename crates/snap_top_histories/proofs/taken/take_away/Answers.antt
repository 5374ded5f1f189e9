use Rattle.std.proofs.Common.{refl, subst}
use Rattle.disk_memory.specs.Folder.{folder_view}
use Rattle.disk_memory.specs.Sink.{sink_view}
use Rattle.disk_memory.specs.Vault.{vault_view}
use Rattle.disk_memory.specs.declared.folder.MemFolder.{MemFolder}
use Rattle.snap_top.specs.Taken.{IsTakenFrom}
use Rattle.snap_top_histories.proofs.OnceLemmas.{taken_on}
use Rattle.snap_top_histories.proofs.taken.take_away.Goals as goal

pub returns-clause-once : goal.returns-clause-once
returns-clause-once c =
    taken_on _ folder_view vault_view sink_view _ c.args.once.folders.items _ _ _ c.args.disk c.take_from.new.folder c.in-Some.folder.now c.requires.once c.in-Some.ensures.item.3.0
    (subst (λ (folder : MemFolder). IsTakenFrom (folder_view folder).tree (folder_view c.take_from.new.folder).tree) c.in-Some.ensures.value c.in_ok-take_from-in-Some.ensures) refl
