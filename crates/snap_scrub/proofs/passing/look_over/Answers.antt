use Rattle.std.proofs.Common.{length, sym, ap, ◌∙◌, arith}
use Rattle.std.proofs.lemmas.List.{length-map}
use Rattle.disk_model.proofs.UntouchedLemmas.{same_levels}
use Rattle.snap_scrub.proofs.PassingLemmas.{underway_none, underway_more, underway_all}
use Rattle.snap_scrub.proofs.passing.look_over.Goals as goal

pub loop-done-init : goal.loop-done-init
loop-done-init g c = record {
  under = underway_none _ _ _ c.args.table.now c.args.work.now c.fetch_first.new.work _ _ _ _ _ _ c.fetch_first.ensures.rest c.fetch_first.ensures.ready c.fetch_first.ensures.fetched c.fetch_first.ensures.vault;
  kept = record { stripes = ap (λ it. it.stripes) c.fetch_first.ensures.rest; room = c.fetch_first.ensures.ready.is_work.room; verdicts = ap (λ it. length it.verdicts.items) c.fetch_first.ensures.rest };
  folders = sym (length-map c.fetch_first.new.folders g.F.Folder.view) ∙ c.fetch_first.ensures.fetched.read.folders ∙ length-map c.args.folders.now g.F.Folder.view ∙ c.requires.folders;
  levels = same_levels _ _ c.fetch_first.ensures.vault ∙ c.requires.levels;
}

pub turn_window-more-requires-clause-ready : goal.turn_window-more-requires-clause-ready
turn_window-more-requires-clause-ready g c κs lives = c.loop-done.invariant.under.ready

pub turn_window-more-requires-clause-unhashed : goal.turn_window-more-requires-clause-unhashed
turn_window-more-requires-clause-unhashed g c κs lives = c.loop-done.invariant.under.fetched.unhashed

pub turn_window-more-requires-clause-cells : goal.turn_window-more-requires-clause-cells
turn_window-more-requires-clause-cells g c κs lives = c.loop-done.invariant.under.fetched.cells

pub loop-done-preserved : goal.loop-done-preserved
loop-done-preserved g c =
    let so_far = c.loop-done.invariant in
    let turn = c.turn_window-more in
    let more = underway_more _ _ _ c.args.table.now c.loop-done.work turn.new.work c.swap_windows.new.work c.loop-done.done c.count-count.result c.loop-done.findings turn.result c.saturating_add-findings.result _ _ _ _ _ _
    so_far.under (length-map c.loop-done.folders g.F.Folder.view ∙ so_far.folders) turn.ensures.work turn.ensures.fetched turn.ensures.looks c.count-count.ensures (omega (arith, c.saturating_add-findings.ensures)) c.swap_windows.ensures in
    record {
      under = more;
      kept = record {
        stripes = ap (λ it. it.stripes) c.swap_windows.ensures ∙ ap (λ it. it.stripes) turn.ensures.work.rest ∙ so_far.kept.stripes;
        room = more.ready.is_work.room;
        verdicts = ap (λ it. length it.verdicts.items) c.swap_windows.ensures ∙ turn.ensures.work.verdicts ∙ so_far.kept.verdicts;
      };
      folders = sym (length-map turn.new.folders g.F.Folder.view) ∙ turn.ensures.fetched.read.folders ∙ length-map c.loop-done.folders g.F.Folder.view ∙ so_far.folders;
      levels = more.looks.looks.levels.goes_on.levels ∙ c.requires.levels;
    }

pub returns-clause-looks : goal.returns-clause-looks
returns-clause-looks g c =
    let so_far = c.loop-done.invariant in
    underway_all _ _ _ c.args.table.now c.args.work.now c.loop-done.work c.loop-done.done c.loop-done.findings _ _ _ _
    (omega (arith, c.len.ensures, c.loop-done-test.false)) (length-map c.loop-done.folders g.F.Folder.view ∙ so_far.folders) so_far.kept so_far.under
