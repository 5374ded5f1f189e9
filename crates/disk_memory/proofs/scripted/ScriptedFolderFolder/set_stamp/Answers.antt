use Rattle.std.proofs.Common.{◌≡◌, Bool, IfOk, ap, subst}
use Rattle.disk_memory.proofs.ScriptedLemmas.{plays_exactly}
use Rattle.disk_model.specs.Answer.{file_answer}
use Rattle.disk_model.specs.Folder.{FolderView, SetStamp}
use Rattle.disk_model.specs.Writing.{IsFolderWrite}
use Rattle.disk_model.specs.declared.answer.Answer.TheVariants.{Kept}
use Rattle.disk_memory.proofs.scripted.ScriptedFolderFolder.set_stamp.Goals as goal

-- which stamps are kept stays, whatever the script does
pub returns-clause-kept : goal.returns-clause-kept
returns-clause-kept c = subst (λ (b : Bool). IfOk c.set_stamp.result (λ kept. kept ≡ b)) (ap (λ (v : FolderView). v.keeps c.args.stamp) c.turn.ensures.turned) c.set_stamp.ensures.kept

pub returns-clause-played : goal.returns-clause-played
returns-clause-played c = plays_exactly c.args.self.now c.turn.new.self (record { calls = c.turn.ensures.calls; view = c.turn.ensures.turned; script = c.turn.ensures.script; plan = c.turn.ensures.plan })
    (IsFolderWrite (SetStamp c.args.path.now c.args.stamp) (file_answer Kept c.set_stamp.result)) (file_answer Kept c.set_stamp.result) c.set_stamp.new.self c.set_stamp.ensures.call c.set_stamp.ensures.scheduled
