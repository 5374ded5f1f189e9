use Rattle.std.proofs.Common.{arith, refl, sym, ◌∙◌}
use Rattle.std.proofs.lemmas.List.{length-map}
use Rattle.disk_model.proofs.UntouchedLemmas.{same_levels}
use Rattle.stripe_examiner.proofs.AskingLemmas.{is_for_still}
use Rattle.snap_fix.proofs.CheckWindowLemmas.{checking_all, checking_begun, checking_more}
use Rattle.snap_fix.proofs.checking.check_stripes.Goals as goal

pub loop-done-init : goal.loop-done-init
loop-done-init g c = record {
  under = checking_begun _ _ _ c.args.task.now.table.now c.args.work.now c.fetch_first.new.work c.args.far.now _ _ _ _ _ _ _ _
      c.fetch_first.ensures.vault c.requires.work c.requires.far.0 c.requires.far.1 c.fetch_first.ensures.rest c.fetch_first.ensures.fetched c.fetch_first.ensures.cells (record { found = refl; left = refl });
  folders = sym (length-map c.fetch_first.new.folders g.F.Folder.view) ∙ c.fetch_first.ensures.fetched.read.folders ∙ length-map c.args.folders.now g.F.Folder.view ∙ c.requires.folders;
  levels = same_levels _ _ c.fetch_first.ensures.vault ∙ c.requires.levels;
}

pub check_window-more-requires-clause-ready : goal.check_window-more-requires-clause-ready
check_window-more-requires-clause-ready g c = λ lifetimes outlive. c.loop-done.invariant.under.ready

pub check_window-more-requires-clause-spare : goal.check_window-more-requires-clause-spare
check_window-more-requires-clause-spare g c = λ lifetimes outlive.
    is_for_still c.args.task.now.table.now.shape (g.P.Spare.holding c.args.spare.now) (g.P.Spare.holding c.loop-done.spare) c.loop-done.invariant.under.looks.spare.same c.requires.spare

pub loop-done-preserved : goal.loop-done-preserved
loop-done-preserved g c =
    let so_far = c.loop-done.invariant in
    let turn = c.check_window-more in
    let more = checking_more _ _ _ c.args.task.now.table.now c.args.work.now c.loop-done.work turn.new.work c.swap_windows.new.work c.loop-done.far turn.new.far c.swap_windows.new.far c.loop-done.done c.count-count.result
    c.loop-done.counts turn.result c.and-counts.result _ _ _ _ _ _
    so_far.under (length-map c.loop-done.folders g.F.Folder.view ∙ so_far.folders) turn.ensures.rest turn.ensures.room turn.ensures.far turn.ensures.fetched turn.ensures.cells turn.ensures.looks c.and-counts.ensures c.count-count.ensures
    c.swap_windows.ensures.near c.swap_windows.ensures.far in
    record {
      under = more;
      folders = sym (length-map turn.new.folders g.F.Folder.view) ∙ turn.ensures.fetched.read.folders ∙ length-map c.loop-done.folders g.F.Folder.view ∙ so_far.folders;
      levels = more.looks.levels.goes_on.levels ∙ c.requires.levels;
    }

pub returns-clause-checks : goal.returns-clause-checks
returns-clause-checks g c =
    let so_far = c.loop-done.invariant in
    checking_all _ _ _ c.args.task.now.table.now c.args.work.now c.loop-done.work c.loop-done.far c.loop-done.done c.loop-done.counts _ _ _ _
    (omega (arith, c.len.ensures, c.loop-done-test.false)) (length-map c.loop-done.folders g.F.Folder.view ∙ so_far.folders) so_far.under

pub returns-clause-work : goal.returns-clause-work
returns-clause-work g c = c.loop-done.invariant.under.kept
