use Rattle.std.proofs.Common.{sym, ◌∙◌}
use Rattle.disk_model.specs.declared.fault.FileFault.{FileFault}
use Rattle.file_restorer.specs.Finishing.{lost_calls}
use Rattle.file_restorer.specs.FinishSteps.{BreaksBy, IsLostCall}
use Rattle.file_restorer.proofs.FinishStepsLemmas.{lost_kept, lost_renamed, lost_not_renamed}
use Rattle.file_restorer.proofs.FinishTreeLemmas.{may_lose}
use Rattle.file_restorer.proofs.GoesOnLemmas.{handed_on}
use Rattle.file_restorer.proofs.finishing.finish_lost.Goals as goal

pub rename-requires : goal.rename-requires
rename-requires g c = may_lose c.requires (sym c.stands.ensures ∙ c.if-not-stands.false)

pub returns-in_err-rename-clause-broke : goal.returns-in_err-rename-clause-broke
returns-in_err-rename-clause-broke g c =
    let old = g.F.Folder.view c.args.folder.now in
    let new = g.F.Folder.view c.rename.new.self in
    let fault = c.in_err-rename.field-0.0 in
    handed_on c.from_residual.result (λ (f : FileFault). BreaksBy f (IsLostCall c.args.start c.args.state c.args.path.now) (lost_calls c.args.start c.args.state c.args.path.now) old new) fault c.from_residual.ensures.1
    (lost_not_renamed fault c.args.path.now c.args.start c.args.state old new (g.F.Folder.well_formed _) c.requires (sym c.stands.ensures ∙ c.if-not-stands.false)
    c.in_err-rename.ensures.call c.in_err-rename.ensures.missing)

pub returns-clause-finished : goal.returns-clause-finished
returns-clause-finished g c meta =
    lost_renamed c.args.path.now meta c.args.start c.args.state (g.F.Folder.view c.args.folder.now) (g.F.Folder.view c.rename.new.self) (g.F.Folder.well_formed _) c.requires
    (sym c.stands.ensures ∙ c.if-not-stands.false) c.in_ok-rename.ensures.call

pub returns-then-not-stands-clause-finished : goal.returns-then-not-stands-clause-finished
returns-then-not-stands-clause-finished g c meta =
    lost_kept c.args.path.now meta c.args.start c.args.state (g.F.Folder.view c.args.folder.now) (sym c.stands.ensures ∙ c.if-not-stands.true)
