use Rattle.snap_top_memory.proofs.arrays.limited.Goals as goal

pub returns-clause-settled : goal.returns-clause-settled
returns-clause-settled c = c.stop_after.ensures.settled c.requires.settled
