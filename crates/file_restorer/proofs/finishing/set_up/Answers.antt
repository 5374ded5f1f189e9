use Rattle.std.proofs.Common.{◌≡◌, false, sym, ◌∙◌}
use Rattle.file_restorer.specs.State.{stands}
use Rattle.file_restorer.proofs.FinishStepsLemmas.{sets_up_nothing, sets_up_back, breaks_back, breaks_new, sets_up_new}
use Rattle.file_restorer.proofs.finishing.set_up.Goals as goal

pub returns-in-Lost-clause-set_up : goal.returns-in-Lost-clause-set_up
returns-in-Lost-clause-set_up g c =
    sets_up_back c.args.path.now c.args.place c.args.touched c.rename.result (g.F.Folder.view c.args.folder.now) (g.F.Folder.view c.rename.new.self)
    (g.F.Folder.well_formed _) c.requires c.in-Lost.is c.rename.ensures.call

pub returns-in-Lost-clause-broke : goal.returns-in-Lost-clause-broke
returns-in-Lost-clause-broke g c =
    breaks_back c.args.path.now c.args.place c.args.touched c.rename.result (g.F.Folder.view c.args.folder.now) (g.F.Folder.view c.rename.new.self)
    (g.F.Folder.well_formed _) c.requires c.in-Lost.is
    c.rename.ensures.call c.rename.ensures.missing

pub returns-in-Ok : goal.returns-in-Ok
returns-in-Ok g c =
    let absent : stands c.args.place c.args.touched ≡ false = sym c.stands.ensures ∙ c.if-stands.false in
    record {
      set_up = sets_up_new c.args.path.now c.args.place c.args.touched (g.F.Folder.view c.args.folder.now) (g.F.Folder.view c.make.new.self) (g.F.Folder.well_formed _) c.requires absent c.in-Plain.is c.in-Ok.ensures.call;
      broke = tt;
    }

pub returns-in-Err : goal.returns-in-Err
returns-in-Err g c =
    let absent : stands c.args.place c.args.touched ≡ false = sym c.stands.ensures ∙ c.if-stands.false in
    record {
      set_up = tt;
      broke = breaks_new c.args.path.now c.args.place c.args.touched (g.F.Folder.view c.args.folder.now) (g.F.Folder.view c.make.new.self) (g.F.Folder.well_formed _) absent c.in-Plain.is c.in-Err.ensures.call;
    }

pub returns-then-stands-clause-set_up : goal.returns-then-stands-clause-set_up
returns-then-stands-clause-set_up g c =
    sets_up_nothing c.args.path.now c.args.place c.args.touched (g.F.Folder.view c.args.folder.now) c.requires (sym c.stands.ensures ∙ c.if-stands.true)
