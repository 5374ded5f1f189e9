use Rattle.std.proofs.Common.{List, ℕ, ◌∙◌, subst, arith}
use Rattle.std.proofs.lemmas.List.{take_all}
use Rattle.std.proofs.lemmas.List.Elements.{All-set}
use Rattle.stripe_examiner.specs.MarkedWindow.{ReadsLevelsOf}
use Rattle.stripe_examiner.specs.Surveyed.{plan_in}
use Rattle.stripe_examiner.specs.Room.{IsStripeRoomFor}
use Rattle.stripe_examiner.proofs.ReadSteps.{levels_of_more, levels_of_none}
use Rattle.stripe_examiner.proofs.beside.read_levels_of.Goals as goal

pub loop-k-init : goal.loop-k-init
loop-k-init g c = record { read = levels_of_none _ _ _; rooms = c.requires.rooms.each; levels = c.requires.levels }

pub loop-k-preserved : goal.loop-k-preserved
loop-k-preserved g c =
    let plan = plan_in c.args.survey.now in
    let so_far = c.loop-k.invariant in
    let one = c.read_searched.ensures in
    let own = c.read_searched.new.own in
    let more = levels_of_more plan c.args.survey.now.stripes.now c.loop-k.k c.loop-k.rooms own _ _ _
    (omega arith) (omega (arith, c.loop-k.auto.rooms, c.requires.rooms.as_many)) one.room.levels one.count one.places one.read so_far.read in
    record { read = more; rooms = All-set (IsStripeRoomFor c.args.survey.now.plan.table.now) c.loop-k.rooms c.loop-k.k own one.room so_far.rooms; levels = more.read.goes_on.levels ∙ c.requires.levels }

pub returns : goal.returns
returns g c = record {
  rooms_are = record { as_many = c.loop-k.auto.rooms ∙ c.requires.rooms.as_many; each = c.loop-k.invariant.rooms };
  read = subst (λ (numbers : List ℕ). ReadsLevelsOf (plan_in c.args.survey.now) numbers c.loop-k.rooms (g.V.Vault.view c.args.vault.now) (g.V.Vault.view c.loop-k.vault))
      (take_all c.loop-k.k c.args.survey.now.stripes.now (omega arith)) c.loop-k.invariant.read;
}
