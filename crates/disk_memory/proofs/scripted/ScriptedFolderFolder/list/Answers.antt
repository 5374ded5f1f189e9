use Rattle.disk_memory.proofs.ScriptedLemmas.{plays_exactly}
use Rattle.disk_model.specs.Answer.{listing_answer}
use Rattle.disk_model.specs.Folder.{ListFiles, IsFolderReading}
use Rattle.disk_memory.proofs.scripted.ScriptedFolderFolder.list.Goals as goal

pub returns-clause-played : goal.returns-clause-played
returns-clause-played c = plays_exactly c.args.self.now c.turn.new.self (record { calls = c.turn.ensures.calls; view = c.turn.ensures.turned; script = c.turn.ensures.script; plan = c.turn.ensures.plan })
    (IsFolderReading (ListFiles) (listing_answer c.list.result)) (listing_answer c.list.result) c.list.new.self c.list.ensures.call c.list.ensures.scheduled
