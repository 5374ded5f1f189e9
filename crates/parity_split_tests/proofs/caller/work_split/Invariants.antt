use Rattle.parity_split_tests.proofs.caller.work_split.Given as goal

abbrev pub ghosts-work_shaped : goal.ghosts-work_shaped
ghosts-work_shaped g a = record { counts = a.parts.items; capacity = a.capacity }
