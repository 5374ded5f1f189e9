use Rattle.std.proofs.Common.{◌≡◌, ◌∷◌, drop, if◌then◌else◌}
use Rattle.array_setup.specs.Pattern.{has_pair}
use Rattle.array_setup.proofs.pattern.has_two.Given as goal

-- a pair is left to be found where one is in what follows, behind the byte where it stood just before
abbrev pub invariant-loop-b : goal.invariant-loop-b
invariant-loop-b l =
    has_pair l.byte l.bytes ≡ has_pair l.byte (if l.before then l.byte ∷ drop l.b-index l.bytes else drop l.b-index l.bytes)
