use Rattle.snap_top.proofs.saying.put_names.Goals as goal

pub returns : goal.returns
returns g c = rw (← c.from.ensures) c.put_all.ensures
