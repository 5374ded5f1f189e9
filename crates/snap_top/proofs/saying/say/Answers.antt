use Rattle.snap_top.proofs.saying.say.Goals as goal

pub returns : goal.returns
returns g c = record { failed = c.write_end-failed.result; told = c.write_end-failed.ensures }
