use Rattle.disk_memory.proofs.ScriptedLemmas.{plays_exactly}
use Rattle.disk_model.specs.Answer.{file_answer}
use Rattle.disk_model.specs.Folder.{ReadAt, IsFolderReading}
use Rattle.disk_model.specs.declared.answer.Answer.TheVariants.{Bytes}
use Rattle.std.proofs.Common.{length}
use Rattle.disk_memory.proofs.scripted.ScriptedFolderFolder.read_at.Goals as goal

pub returns-clause-played : goal.returns-clause-played
returns-clause-played c = plays_exactly c.args.self.now c.turn.new.self (record { calls = c.turn.ensures.calls; view = c.turn.ensures.turned; script = c.turn.ensures.script; plan = c.turn.ensures.plan })
    (IsFolderReading (ReadAt c.args.path.now c.args.lost c.args.at (length c.args.out.now)) (file_answer Bytes c.read_at.result)) (file_answer Bytes c.read_at.result) c.read_at.new.self c.read_at.ensures.call c.read_at.ensures.scheduled
