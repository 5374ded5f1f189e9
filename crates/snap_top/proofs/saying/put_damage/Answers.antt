use Rattle.snap_top.proofs.saying.put_damage.Goals as goal

pub returns : goal.returns
returns g c = rw (← c.from.ensures, ← c.from-2.ensures, ← c.as_str.ensures) c.put_all.ensures
