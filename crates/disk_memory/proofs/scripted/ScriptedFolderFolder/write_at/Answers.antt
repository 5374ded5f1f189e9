use Rattle.disk_memory.proofs.ScriptedLemmas.{plays_unless}
use Rattle.disk_calm.specs.Files.{IsShorter}
use Rattle.disk_model.specs.Answer.{done_answer}
use Rattle.disk_model.specs.Folder.{WriteAt}
use Rattle.disk_model.specs.Tree.{Tree}
use Rattle.disk_model.specs.Writing.{IsFolderWrite}
use Rattle.std.proofs.Common.{◌+◌, length}
use Rattle.disk_memory.proofs.scripted.ScriptedFolderFolder.write_at.Goals as goal

pub returns-clause-played : goal.returns-clause-played
returns-clause-played c = plays_unless c.args.self.now c.turn.new.self (record { calls = c.turn.ensures.calls; view = c.turn.ensures.turned; script = c.turn.ensures.script; plan = c.turn.ensures.plan })
    (IsFolderWrite (WriteAt c.args.path.now c.args.at c.args.bytes.now) (done_answer c.write_at.result)) (done_answer c.write_at.result) c.write_at.new.self (λ (tree : Tree). IsShorter tree c.args.path.now (c.args.at + length c.args.bytes.now)) c.write_at.ensures.call c.write_at.ensures.scheduled
