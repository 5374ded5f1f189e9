use Rattle.std.proofs.Common.{◌+◌}
use Rattle.stripe_examiner.specs.FirstChoice.{MakesFirst}
use Rattle.stripe_examiner.specs.MarkedWindow.{number_at}
use Rattle.stripe_examiner.specs.Surveyed.{plan_in}
use Rattle.stripe_examiner.proofs.FirstRooms.{ChangesFirst}
use Rattle.stripe_examiner.proofs.first_choice.make_first_blocks.Given as goal

abbrev pub invariant-loop-k : goal.invariant-loop-k
invariant-loop-k l =
    ChangesFirst (λ k. MakesFirst (plan_in l.survey) (number_at l.survey.stripes.now (l.start + k)) (l.start + k) l.window) l.k l.fn.rooms l.rooms
