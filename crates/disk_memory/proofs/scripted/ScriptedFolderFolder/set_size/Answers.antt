use Rattle.disk_memory.proofs.ScriptedLemmas.{plays_unless}
use Rattle.disk_calm.specs.Files.{IsShorter}
use Rattle.disk_model.specs.Answer.{done_answer}
use Rattle.disk_model.specs.Folder.{SetSize}
use Rattle.disk_model.specs.Tree.{Tree}
use Rattle.disk_model.specs.Writing.{IsFolderWrite}
use Rattle.disk_memory.proofs.scripted.ScriptedFolderFolder.set_size.Goals as goal

pub returns-clause-played : goal.returns-clause-played
returns-clause-played c = plays_unless c.args.self.now c.turn.new.self (record { calls = c.turn.ensures.calls; view = c.turn.ensures.turned; script = c.turn.ensures.script; plan = c.turn.ensures.plan })
    (IsFolderWrite (SetSize c.args.path.now c.args.size) (done_answer c.set_size.result)) (done_answer c.set_size.result) c.set_size.new.self (λ (tree : Tree). IsShorter tree c.args.path.now (c.args.size)) c.set_size.ensures.call c.set_size.ensures.scheduled
