use Rattle.std.proofs.Common.{◌≡◌, map, take}
use Rattle.snap_config.proofs.words.texts_of.Given as goal

abbrev pub invariant-loop-value : goal.invariant-loop-value
invariant-loop-value l = l.texts.items ≡ map (λ s. s.now) (take l.value-index l.values)
