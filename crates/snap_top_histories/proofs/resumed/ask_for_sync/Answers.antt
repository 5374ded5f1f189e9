use Rattle.snap_top_histories.proofs.resumed.ask_for_sync.Goals as goal

pub returns-in-Sync : goal.returns-in-Sync
returns-in-Sync c says = record { asked = c.in-Ok.asked; way = _; words = c.in-Ok.ensures.answers; command_is = c.in-Sync.is; setup = c.says_setup.ensures says }
