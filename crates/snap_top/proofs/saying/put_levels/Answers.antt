use Rattle.snap_top.proofs.saying.put_levels.Goals as goal

pub returns : goal.returns
returns g c = rw (← c.from.ensures, ← c.from-2.ensures) c.put_all.ensures
