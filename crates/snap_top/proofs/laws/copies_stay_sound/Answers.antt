use Rattle.snap_top.proofs.HistoryLemmas.{history_sound}
use Rattle.snap_top.proofs.laws.copies_stay_sound.Goals as goal

pub returns : goal.returns
returns g c = history_sound g.O.Opener.view g.F.Folder.view g.V.Vault.view g.W.Sink.view
