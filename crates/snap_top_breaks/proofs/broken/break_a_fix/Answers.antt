use Rattle.std.proofs.Common.{◌≡◌, ◌≢◌, List, ℕ, [], map, sym, ◌∙◌, subst, arith}
use Rattle.disk_memory.specs.Folder.{folder_view}
use Rattle.disk_memory.specs.Sink.{sink_view}
use Rattle.disk_memory.specs.Vault.{vault_value, vault_view}
use Rattle.disk_memory.specs.declared.folder.MemFolder.{MemFolder}
use Rattle.snap_top_breaks.specs.Broken.{FailedOnce}
use Rattle.snap_top_breaks.proofs.BrokenLemmas.{front_printed}
use Rattle.snap_top_breaks.proofs.broken.break_a_fix.Goals as goal

pub returns : goal.returns
returns g c =
    let one = c.in_ok-one.ensures in
    let same = c.in_ok-same.ensures in
    let last = c.in_ok-last.ensures in
    let broke = c.in_ok-broke.broke in
    let three : broke.status ≡ 3 = omega (arith, c.if-status-ne3.false) in
    let faults : (vault_view broke.vault).faults ≡ 0 = omega (arith, c.faults.ensures, c.if-faults-gt0.false) in
    let some : broke.printed.items ≢ [] = λ none. c.says_else.ensures c.if-not-says_else.false (c.as_slice.ensures.value ∙ none) in
    let less : broke.printed.items ≢ c.in_ok-last.last.printed.items
    = λ as_much. c.says_else-2.ensures c.if-not-says_else-2.false (c.as_slice-3.ensures.value ∙ as_much ∙ sym c.as_slice-4.ensures.value) in
    let failed : FailedOnce (map folder_view broke.folders.items)
    = subst (λ (folders : List MemFolder). FailedOnce (map folder_view folders)) c.as_slice-2.ensures.value (c.failed_once.ensures c.if-not-failed_once.false) in
    front_printed _ folder_view vault_view sink_view _ _ _ _ _ _ (vault_value c.in_ok-one.one) (vault_value c.in_ok-same.same)
    _ _ _ _ _ _ _ _ c.a_broken_run_reads_the_same_first.ensures.reads_right c.a_broken_run_reads_the_same_first.ensures.fixes c.a_broken_run_prints_a_front.ensures.seen_fixes
    (c.asks_fix_of_all.ensures c.if-not-asks_fix_of_all.false) (c.asks_fix_of_all-2.ensures c.if-not-asks_fix_of_all-2.false) (same.picked ∙ sym one.picked)
    c.in_ok-lost.ensures c.in_ok-lost_again.ensures c.in_ok-broke.ensures three faults some less failed last.ran last.faults last.calm last.ended
