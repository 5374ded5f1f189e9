use Rattle.parity_split_tests.proofs.tests.stopping.play.Goals as goal

pub one_level-requires-clause-settled : goal.one_level-requires-clause-settled
one_level-requires-clause-settled c = λ lifetimes. c.stop_after.ensures.settled c.in_ok-base.ensures
