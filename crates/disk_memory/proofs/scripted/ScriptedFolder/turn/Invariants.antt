use Rattle.disk_memory.proofs.ScriptedLemmas.{Turning}
use Rattle.disk_memory.proofs.scripted.ScriptedFolder.turn.Given as goal

abbrev pub invariant-loop : goal.invariant-loop
invariant-loop l = Turning l.initial.self l.self l.counter l.end
