use Rattle.std.proofs.Common.{◌≡◌, ◌&&◌, Bool, not, refl, sym, ap, ◌∙◌}
use Rattle.repair_scope.specs.declared.entry.Entry.{Entry}
use Rattle.repair_scope.specs.Plan.{seen}
use Rattle.snap_fix.proofs.AnswerLemmas.{on_err}
use Rattle.snap_fix.proofs.EndingRecordLemmas.{can_finish, ends_done, ends_kept, ends_not}
use Rattle.snap_fix.proofs.ending.end_record.Goals as goal

by_entry : (entry here : Entry) (b : Bool) → here ≡ entry → b ≡ (here.selected && not here.blocked) → b ≡ (entry.selected && not entry.blocked)
by_entry entry here b same is = is ∙ ap (λ (e : Entry). e.selected && not e.blocked) same

pub returns-then-not-is_finished-clause-ended : goal.returns-then-not-is_finished-clause-ended
returns-then-not-is_finished-clause-ended g c =
    ends_kept (seen c.args.plan.now) c.args.d c.args.i _ _ _ _ _ _ _ _ _
    (sym (by_entry _ c.at-entry.result c.is_finished.result c.at-entry.ensures c.is_finished.ensures) ∙ c.if-not-is_finished.true) c.requires.can (record { found = refl; left = refl })

pub finish_record-requires-after_bounds : goal.finish_record-requires-after_bounds
finish_record-requires-after_bounds g c κs within =
    can_finish (seen c.args.plan.now) c.args.d c.args.i _ _ _ _
    (sym (by_entry _ c.at-entry.result c.is_finished.result c.at-entry.ensures c.is_finished.ensures) ∙ c.if-not-is_finished.false)
    (ap (λ e. e.listed) c.at-entry.ensures) (g.F.Folder.well_formed _).tree c.requires.can

pub returns-in_err-finish-clause-failed : goal.returns-in_err-finish-clause-failed
returns-in_err-finish-clause-failed g c =
    on_err c.from_residual.result _
    (ends_not (seen c.args.plan.now) c.args.d c.args.i _ _ _ _ _ _ _ _ c.at-entry.result.listed _ _ _
    (sym (by_entry _ c.at-entry.result c.is_finished.result c.at-entry.ensures c.is_finished.ensures) ∙ c.if-not-is_finished.false)
    (ap (λ e. e.listed) c.at-entry.ensures) c.in_err-finish.ensures.failed)

pub returns-clause-ended : goal.returns-clause-ended
returns-clause-ended g c =
    ends_done (seen c.args.plan.now) c.args.d c.args.i _ _ _ _ _ _ _ _ c.at-entry.result.listed c.in_ok-finish.finish _ _ _ _ _ _
    (sym (by_entry _ c.at-entry.result c.is_finished.result c.at-entry.ensures c.is_finished.ensures) ∙ c.if-not-is_finished.false)
    (ap (λ e. e.listed) c.at-entry.ensures) c.in_ok-finish.ensures.finished c.tell_finish.ensures.told c.tell_finish.ensures.counts
