use Rattle.snap_scrub.proofs.levels.tell_level.Goals as goal

pub tell-requires : goal.tell-requires
tell-requires g c = c.in-Some.ensures.fits c.args.table.now.columns
