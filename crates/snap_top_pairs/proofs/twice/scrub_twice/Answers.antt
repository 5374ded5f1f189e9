use Rattle.std.proofs.Common.{sym, ◌∙◌}
use Rattle.disk_memory.specs.Folder.{folder_view}
use Rattle.disk_memory.specs.Sink.{sink_view}
use Rattle.disk_memory.specs.Vault.{vault_value, vault_view}
use Rattle.snap_top_pairs.proofs.TwiceLemmas.{none_checked, scrubbed_twice}
use Rattle.snap_top_pairs.proofs.twice.scrub_twice.Goals as goal

pub returns : goal.returns
returns g c =
    let synced = c.in_ok-synced.ensures in
    let one = c.in_ok-one.ensures in
    let same = c.in_ok-same.ensures in
    let made = c.in_ok-made.ensures in
    let last = c.in_ok-last.ensures in
    scrubbed_twice _ folder_view vault_view sink_view _ _ _ _ _ c.args.array.levels c.args.array.copies (vault_value c.in_ok-fresh.fresh) (vault_value c.in_ok-one.one) (vault_value c.in_ok-same.same)
    _ _ _ _ _ _ _ _ _ _ _ _ _ c.headline.ensures c.one_array_is_left_alike.ensures.scrubs c.what_is_read_alike_is_left_alike.ensures.scrubs c.in_ok-fresh.ensures.view
    (c.asks_plain_sync.ensures c.if-not-asks_plain_sync.false) (c.asks_full_scrub.ensures c.if-not-asks_full_scrub.false) (c.asks_full_scrub-2.ensures c.if-not-asks_full_scrub-2.false) (c.ask_for_others.ensures c.if-not-ask_for_others.false)
    synced.ran one.left (one.copies ∙ c.copies-copies.ensures) (same.picked ∙ sym one.picked) made.ran made.faults made.calm made.ended
    (λ is. c.says_else.ensures c.if-not-says_else.false (c.as_slice.ensures.value ∙ is ∙ none_checked)) last.ran last.faults last.calm last.ended
