use Rattle.std.proofs.Common.{ap, ◌∙◌}
use Rattle.disk_memory.specs.Folder.{folder_view}
use Rattle.disk_memory.specs.Sink.{sink_view}
use Rattle.disk_memory.specs.Vault.{VaultValue, vault_value, vault_view, view_of}
use Rattle.snap_top_pairs.proofs.TwiceLemmas.{none_synced, synced_twice}
use Rattle.snap_top_pairs.proofs.twice.sync_twice.Goals as goal

pub returns : goal.returns
returns g c =
    let made = c.in_ok-made.ensures in
    let last = c.in_ok-last.ensures in
    synced_twice _ folder_view vault_view sink_view _ _ _ _ c.args.array.levels c.args.array.copies (vault_value c.in_ok-fresh.fresh) (vault_value c.in_ok-fresh_too.fresh_too) _ _ _ _ _ _ _ _ _
    c.headline.ensures c.one_array_is_left_alike.ensures.syncs c.what_is_read_alike_is_left_alike.ensures.syncs c.in_ok-fresh.ensures.view c.in_ok-fresh_too.ensures.view
    (c.asks_plain_sync.ensures c.if-not-asks_plain_sync.false) (c.asks_plain_sync-2.ensures c.if-not-asks_plain_sync-2.false) (c.ask_for_others.ensures c.if-not-ask_for_others.false) made.ran made.faults made.calm made.ended
    (λ is. c.says_else.ensures c.if-not-says_else.false (c.as_slice.ensures.value ∙ is ∙ none_synced)) last.ran last.faults last.calm last.ended

pub run_well-requires-2-after_bounds : goal.run_well-requires-2-after_bounds
run_well-requires-2-after_bounds g c κs within =
    let made = c.in_ok-fresh_too.ensures in
    record {
      settled = made.settled;
      drafts = made.drafts;
      moment = ap (λ (v : VaultValue). (view_of v).images.moment) made.view;
      faults = ap (λ (v : VaultValue). v.faults) made.view;
    }
