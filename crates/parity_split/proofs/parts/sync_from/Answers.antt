use Rattle.std.proofs.Common.{arith}
use Rattle.disk_model.specs.Files.{Stays}
use Rattle.parity_split.proofs.WorksLemmas.{syncs_then, still_within, call_works, synced_more}
use Rattle.parity_split.proofs.parts.sync_from.Goals as goal

pub loop-part-preserved : goal.loop-part-preserved
loop-part-preserved g c =
    let works = syncs_then _ _ _ _ _ c.loop-part.invariant.works c.part_sync.ensures.call c.part_sync.ensures.changes c.part_sync.ensures.drafts in
    record {
      works = works;
      within = still_within c.args.parts Stays _ _ works c.requires;
      synced = synced_more c.args.parts c.args.from c.loop-part.part _ _ _ (omega arith) (g.V.Base.well_formed _) c.loop-part.invariant.works (call_works Stays _ _ _ _ c.part_sync.ensures.call c.part_sync.ensures.changes c.part_sync.ensures.drafts) c.loop-part.invariant.synced c.in_ok-part_sync.ensures.synced;
    }

pub returns-in_err-part_sync-clause-works : goal.returns-in_err-part_sync-clause-works
returns-in_err-part_sync-clause-works g c = syncs_then _ _ _ _ _ c.loop-part.invariant.works c.part_sync.ensures.call c.part_sync.ensures.changes c.part_sync.ensures.drafts
