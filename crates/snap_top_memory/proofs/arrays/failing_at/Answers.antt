use Rattle.snap_top_memory.proofs.arrays.failing_at.Goals as goal

pub returns-clause-settled : goal.returns-clause-settled
returns-clause-settled c = c.fail_at.ensures.settled c.requires.settled
