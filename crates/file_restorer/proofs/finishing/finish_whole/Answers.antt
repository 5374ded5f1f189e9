use Rattle.std.proofs.Common.{sym, ◌∙◌}
use Rattle.disk_model.specs.declared.fault.FileFault.{FileFault}
use Rattle.file_restorer.specs.Finishing.{IsWholeCall, whole_calls}
use Rattle.file_restorer.specs.FinishSteps.{BreaksBy}
use Rattle.file_restorer.proofs.FinishStepsLemmas.{is_fit, whole_kept, whole_not_set_up, whole_not_sized, whole_not_stamped, whole_stamped}
use Rattle.file_restorer.proofs.GoesOnLemmas.{handed_on}
use Rattle.file_restorer.proofs.finishing.finish_whole.Goals as goal

pub returns-in_err-set_up-clause-broke : goal.returns-in_err-set_up-clause-broke
returns-in_err-set_up-clause-broke g c =
    let path = c.args.path.now in
    let old = g.F.Folder.view c.args.folder.now in
    let new = g.F.Folder.view c.set_up.new.folder in
    let fault = c.in_err-set_up.field-0.0 in
    handed_on c.from_residual.result (λ (f : FileFault). BreaksBy f (IsWholeCall c.args.listed c.args.start c.args.state path c.args.meta) (whole_calls c.args.listed c.args.start c.args.state path c.args.meta) old new) fault c.from_residual.ensures.1
    (whole_not_set_up path c.args.listed c.args.meta c.args.start c.args.state fault old new c.in_err-set_up.ensures.broke)

pub returns-in_err-fit_size-clause-broke : goal.returns-in_err-fit_size-clause-broke
returns-in_err-fit_size-clause-broke g c =
    let path = c.args.path.now in
    let old = g.F.Folder.view c.args.folder.now in
    let mid = g.F.Folder.view c.set_up.new.folder in
    let new = g.F.Folder.view c.fit_size.new.folder in
    let fault = c.in_err-fit_size.field-0.0 in
    handed_on c.from_residual-in_err-fit_size.result (λ (f : FileFault). BreaksBy f (IsWholeCall c.args.listed c.args.start c.args.state path c.args.meta) (whole_calls c.args.listed c.args.start c.args.state path c.args.meta) old new) fault
    c.from_residual-in_err-fit_size.ensures.1
    (whole_not_sized path c.args.listed c.args.meta c.args.start c.args.state fault old mid new c.in_ok-set_up.ensures.set_up c.in_err-fit_size.ensures.broke)

pub returns-then-not-needs_stamp-clause-finished : goal.returns-then-not-needs_stamp-clause-finished
returns-then-not-needs_stamp-clause-finished g c =
    let path = c.args.path.now in
    let old = g.F.Folder.view c.args.folder.now in
    let mid = g.F.Folder.view c.set_up.new.folder in
    let new = g.F.Folder.view c.fit_size.new.folder in
    let fit = is_fit path c.args.listed c.args.meta c.args.start c.args.state old mid new c.requires c.in_ok-set_up.ensures.set_up c.in_ok-fit_size.ensures.sized in
    whole_kept path c.args.listed c.args.meta c.args.start c.args.state c.is_changed-changed.result old new fit c.is_changed-changed.ensures (sym c.needs_stamp.ensures ∙ c.if-not-needs_stamp.true)

pub returns-in_err-stamped-clause-broke : goal.returns-in_err-stamped-clause-broke
returns-in_err-stamped-clause-broke g c =
    let path = c.args.path.now in
    let old = g.F.Folder.view c.args.folder.now in
    let mid = g.F.Folder.view c.set_up.new.folder in
    let sized = g.F.Folder.view c.fit_size.new.folder in
    let new = g.F.Folder.view c.set_stamp.new.self in
    let fault = c.in_err-stamped.field-0.0 in
    let fit = is_fit path c.args.listed c.args.meta c.args.start c.args.state old mid sized c.requires c.in_ok-set_up.ensures.set_up c.in_ok-fit_size.ensures.sized in
    handed_on c.from_residual-in_err-stamped.result (λ (f : FileFault). BreaksBy f (IsWholeCall c.args.listed c.args.start c.args.state path c.args.meta) (whole_calls c.args.listed c.args.start c.args.state path c.args.meta) old new) fault
    c.from_residual-in_err-stamped.ensures.1
    (whole_not_stamped fault path c.args.listed c.args.meta c.args.start c.args.state c.is_changed-changed.result old sized new (g.F.Folder.well_formed _) fit c.is_changed-changed.ensures
    (sym c.needs_stamp.ensures ∙ c.if-not-needs_stamp.false) c.in_err-stamped.ensures.call c.in_err-stamped.ensures.missing)

pub returns-clause-finished : goal.returns-clause-finished
returns-clause-finished g c =
    let path = c.args.path.now in
    let old = g.F.Folder.view c.args.folder.now in
    let mid = g.F.Folder.view c.set_up.new.folder in
    let sized = g.F.Folder.view c.fit_size.new.folder in
    let new = g.F.Folder.view c.set_stamp.new.self in
    let fit = is_fit path c.args.listed c.args.meta c.args.start c.args.state old mid sized c.requires c.in_ok-set_up.ensures.set_up c.in_ok-fit_size.ensures.sized in
    whole_stamped path c.args.listed c.args.meta c.args.start c.args.state c.is_changed-changed.result c.in_ok-stamped.stamped c.stamped_finish.result old sized new (g.F.Folder.well_formed _) fit
    c.is_changed-changed.ensures (sym c.needs_stamp.ensures ∙ c.if-not-needs_stamp.false) c.in_ok-stamped.ensures.call c.in_ok-stamped.ensures.kept c.stamped_finish.ensures
