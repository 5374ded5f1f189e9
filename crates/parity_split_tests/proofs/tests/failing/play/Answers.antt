use Rattle.parity_split_tests.proofs.tests.failing.play.Goals as goal

pub one_level-requires-clause-settled : goal.one_level-requires-clause-settled
one_level-requires-clause-settled c = λ lifetimes. c.fail_at.ensures.settled c.in_ok-base.ensures
