use Rattle.snap_top.proofs.running.work_by_levels.Given as goal

abbrev pub ghosts-work_split : goal.ghosts-work_split
ghosts-work_split g a = record { counts = a.parts.items; capacity = a.job.now.setup.split }
