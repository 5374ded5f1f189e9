use Rattle.std.proofs.Common.{◌≡◌, ◌≢◌, [], true, sym, ap, ◌∙◌, arith}
use Rattle.disk_memory.specs.Folder.{folder_view}
use Rattle.disk_memory.specs.Sink.{sink_view}
use Rattle.disk_memory.specs.Vault.{vault_value, vault_view}
use Rattle.snap_top_histories.specs.Repeated.{are_calm}
use Rattle.snap_top_breaks.proofs.BrokenScrubLemmas.{scrub_printed}
use Rattle.snap_top_breaks.proofs.broken_scrub.break_a_scrub.Goals as goal

pub returns : goal.returns
returns g c =
    let synced = c.in_ok-synced.ensures in
    let one = c.in_ok-one.ensures in
    let same = c.in_ok-same.ensures in
    let last = c.in_ok-last.ensures in
    let broke = c.in_ok-broke.broke in
    let three : broke.status ≡ 3 = omega (arith, c.if-status-ne3.false) in
    let once : (vault_view broke.vault).faults ≡ 1 = omega (arith, c.faults.ensures, c.if-faults-ne1.false) in
    let calm : are_calm folder_view broke.folders.items ≡ true
    = ap (are_calm folder_view) (sym c.as_slice.ensures.value) ∙ sym c.have_not_failed.ensures ∙ c.if-not-have_not_failed.false in
    let some : broke.printed.items ≢ [] = λ none. c.says_else.ensures c.if-not-says_else.false (c.as_slice-2.ensures.value ∙ none) in
    let less : broke.printed.items ≢ c.in_ok-last.last.printed.items
    = λ as_much. c.says_else-2.ensures c.if-not-says_else-2.false (c.as_slice-3.ensures.value ∙ as_much ∙ sym c.as_slice-4.ensures.value) in
    scrub_printed _ folder_view vault_view sink_view _ _ _ _ _ c.args.array.levels c.args.array.copies (vault_value c.in_ok-fresh.fresh) (vault_value c.in_ok-failing.failing) (vault_value c.in_ok-same.same)
    _ _ _ _ _ _ _ _ _ _ _ _ _ _ c.headline.ensures c.a_broken_run_prints_a_front.ensures.scrubs c.a_broken_run_reads_the_same_first.ensures.scrubs c.in_ok-fresh.ensures.view
    (c.asks_plain_sync.ensures c.if-not-asks_plain_sync.false) (c.asks_full_scrub.ensures c.if-not-asks_full_scrub.false) (c.asks_full_scrub-2.ensures c.if-not-asks_full_scrub-2.false)
    synced.ran same.left (same.copies ∙ c.copies-copies.ensures) (c.in_ok-failing.ensures.same ∙ one.picked ∙ sym same.picked) c.in_ok-broke.ensures three once calm some
    last.ran less last.faults last.calm last.ended
