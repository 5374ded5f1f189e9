use Rattle.std.proofs.Common.{◌+◌, refl}
use Rattle.disk_model.proofs.VaultLemmas.{on_ok}
use Rattle.parity_split.specs.Parts.{IsReady}
use Rattle.parity_split.specs.Works.{Same, LevelBy}
use Rattle.parity_split.proofs.WorksLemmas.{level_works_then, works_level, still_holds, rose_after}
use Rattle.parity_split.proofs.GrowthLemmas.{same_then, cleared_all}
use Rattle.parity_split.proofs.growth.clear.Goals as goal

pub returns-clause-works : goal.returns-clause-works
returns-clause-works g c =
    let old = g.V.Base.view c.args.base.now in
    let mid = g.V.Base.view c.empty_behind.new.base in
    let new = g.V.Base.view c.sync_from.new.base in
    level_works_then c.args.parts Same old mid new same_then c.empty_behind.ensures.works (works_level c.args.parts Same mid new (λ x. refl) c.sync_from.ensures.works)

pub returns-clause-cause : goal.returns-clause-cause
returns-clause-cause g c = rose_after c.sync_from.result (LevelBy c.args.parts Same) (g.V.Base.view c.args.base.now) (g.V.Base.view c.empty_behind.new.base) (g.V.Base.view c.sync_from.new.base) c.empty_behind.ensures.works c.sync_from.ensures.cause

pub returns-clause-ready : goal.returns-clause-ready
returns-clause-ready g c = still_holds c.args.parts (IsReady c.args.parts.capacity c.args.end 0) (g.V.Base.view c.empty_behind.new.base) (g.V.Base.view c.sync_from.new.base) (g.V.Base.well_formed _) c.sync_from.ensures.works c.empty_behind.ensures.ready

pub returns-clause-cleared : goal.returns-clause-cleared
returns-clause-cleared g c = on_ok c.sync_from.result (cleared_all c.args.parts (c.args.end + 1) c.args.parts.count (g.V.Base.view c.empty_behind.new.base) (g.V.Base.view c.sync_from.new.base) (g.V.Base.well_formed _) c.sync_from.ensures.works.calls.goes_on.tells c.in_ok-empty_behind.ensures.emptied) c.sync_from.ensures.synced
