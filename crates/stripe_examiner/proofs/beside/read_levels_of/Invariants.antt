use Rattle.std.proofs.Common.{◌≡◌, All, take}
use Rattle.stripe_examiner.specs.MarkedWindow.{ReadsLevelsOf}
use Rattle.stripe_examiner.specs.Surveyed.{plan_in}
use Rattle.stripe_examiner.specs.Room.{IsStripeRoomFor}
use Rattle.stripe_examiner.proofs.beside.read_levels_of.Given as goal

-- the levels of the stripes so far were read
abbrev pub invariant-loop-k : goal.invariant-loop-k
invariant-loop-k g l = record {
  read : ReadsLevelsOf (plan_in l.survey) (take l.k l.survey.stripes.now) l.rooms (g.V.Vault.view l.fn.vault) (g.V.Vault.view l.vault);
  rooms : All (IsStripeRoomFor l.survey.plan.table.now) l.rooms;
  levels : (g.V.Vault.view l.vault).levels ≡ l.survey.plan.table.now.shape.levels;
}
