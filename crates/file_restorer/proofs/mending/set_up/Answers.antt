use Rattle.std.proofs.Common.{Bool, sym, ap, ◌∙◌, subst}
use Rattle.disk_model.specs.Answer.{plain}
use Rattle.disk_model.specs.Folder.{Make}
use Rattle.disk_model.specs.Writing.{IsFolderWrite}
use Rattle.stripe_reader.specs.declared.starts.Place.{Place}
use Rattle.file_restorer.specs.State.{stands}
use Rattle.file_restorer.proofs.GoesOnLemmas.{handed_on, sets_up_nothing, sets_up_renamed, sets_up_made, rename_ends, make_fails}
use Rattle.file_restorer.proofs.mending.set_up.Goals as goal

pub returns-in-Plain-clause-set_up : goal.returns-in-Plain-clause-set_up
returns-in-Plain-clause-set_up g c =
    let touched = c.args.state.now.touched in
    sets_up_nothing c.args.path.now c.args.start.now c.args.state.now (g.F.Folder.view c.args.folder.now) (ap (λ (place : Place). stands place touched) c.in-Plain.is)

pub returns-else-not-state-clause-set_up : goal.returns-else-not-state-clause-set_up
returns-else-not-state-clause-set_up g c =
    let touched = c.args.state.now.touched in
    sets_up_nothing c.args.path.now c.args.start.now c.args.state.now (g.F.Folder.view c.args.folder.now)
    (ap (λ (place : Place). stands place touched) c.in-Nowhere.is ∙ c.if-not-state.false)

pub returns-in_err-rename-in-Lost-clause-fault : goal.returns-in_err-rename-in-Lost-clause-fault
returns-in_err-rename-in-Lost-clause-fault g c =
    handed_on c.from_residual.result _ c.in_err-rename-in-Lost.field-0.0 c.from_residual.ensures.1
    (rename_ends _ _ _ _ c.requires c.in_err-rename-in-Lost.field-0.0 _ (g.F.Folder.well_formed _) c.in-Lost.is c.in_err-rename-in-Lost.ensures.call c.in_err-rename-in-Lost.ensures.missing)

pub returns-in_ok-rename-in-Lost-clause-set_up : goal.returns-in_ok-rename-in-Lost-clause-set_up
returns-in_ok-rename-in-Lost-clause-set_up g c =
    sets_up_renamed _ _ _ _ _ (g.F.Folder.well_formed _) c.in-Lost.is c.in_ok-rename-in-Lost.ensures.call

pub returns-else-is_err-clause-set_up : goal.returns-else-is_err-clause-set_up
returns-else-is_err-clause-set_up g c =
    sets_up_made _ _ _ _ _ (g.F.Folder.well_formed _) c.in-Nowhere.is c.if-not-state.true
    (subst (λ (failed : Bool). IsFolderWrite (Make c.args.path.now) (plain failed) (g.F.Folder.view c.args.folder.now) (g.F.Folder.view c.make.new.self)) (sym c.if-is_err.ensures.value) c.make.ensures.call)

pub returns-then-is_err-clause-fault : goal.returns-then-is_err-clause-fault
returns-then-is_err-clause-fault g c =
    make_fails _ _ _ _ c.requires _ (g.F.Folder.well_formed _) c.in-Nowhere.is c.if-not-state.true
    (subst (λ (failed : Bool). IsFolderWrite (Make c.args.path.now) (plain failed) (g.F.Folder.view c.args.folder.now) (g.F.Folder.view c.make.new.self)) (sym c.if-is_err.ensures.value) c.make.ensures.call)
