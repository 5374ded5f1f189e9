use Rattle.std.proofs.Common.{ℕ, List, map, take, sym, ap, subst, ◌∙◌}
use Rattle.std.proofs.lemmas.List.{with_items_is}
use Rattle.stripe_reader.specs.Fetched.{FetchesWindow}
use Rattle.snap_sync.proofs.FetchedLemmas.{syncs_as}
use Rattle.snap_sync.proofs.SliceLemmas.{near_slice, next_slice}
use Rattle.snap_sync.proofs.stripes.turn_window.Goals as goal

pub returns-clause-fetched : goal.returns-clause-fetched
returns-clause-fetched g c =
    let work = c.args.work.now in
    subst (λ (ahead : List ℕ). FetchesWindow work.table work.room.starts ahead work.room.far c.turn.new.far (map g.F.Folder.view c.args.folders.now) (map g.F.Folder.view c.turn.new.folders))
    (next_slice c.args.pace.every work c.args.done c.count-count.result c.window_count-more.result c.room.result c.len-all.result _ c.count-count.ensures c.room.ensures (c.len-all.ensures ∙ work.pending.ok.0) c.window_count-more.ensures.value c.deref-2.ensures.value) c.turn.ensures.fetched

pub returns-clause-syncs : goal.returns-clause-syncs
returns-clause-syncs g c =
    let work = c.args.work.now in
    syncs_as _ _ _ _ _ _ _ _ _ _ _ _ _ (near_slice work c.args.done c.count-count.result _ c.count-count.ensures c.deref.ensures.value)
    (sym (ap (take work.room.near.count) (with_items_is work.room.chosen c.turn.new.chosen (c.turn.auto.chosen ∙ c.as_mut_slice.ensures.len)))) c.turn.ensures.near
