use Rattle.disk_memory.proofs.ScriptedLemmas.{plays_exactly}
use Rattle.disk_model.specs.Answer.{file_answer}
use Rattle.disk_model.specs.Folder.{Look, IsFolderReading}
use Rattle.disk_model.specs.declared.answer.Answer.TheVariants.{Saw}
use Rattle.disk_memory.proofs.scripted.ScriptedFolderFolder.look.Goals as goal

pub returns-clause-played : goal.returns-clause-played
returns-clause-played c = plays_exactly c.args.self.now c.turn.new.self (record { calls = c.turn.ensures.calls; view = c.turn.ensures.turned; script = c.turn.ensures.script; plan = c.turn.ensures.plan })
    (IsFolderReading (Look c.args.path.now c.args.lost) (file_answer Saw c.look.result)) (file_answer Saw c.look.result) c.look.new.self c.look.ensures.call c.look.ensures.scheduled
