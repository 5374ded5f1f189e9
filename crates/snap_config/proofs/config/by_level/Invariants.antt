use Rattle.std.proofs.Common.{◌≡◌, length, map}
use Rattle.std.specs.List.{flat_map}
use Rattle.snap_config.proofs.ConfigLemmas.{files_below}
use Rattle.snap_config.proofs.config.by_level.Given as goal

abbrev pub invariant-loop-level : goal.invariant-loop-level
invariant-loop-level l = record {
  files : l.files.items ≡ flat_map (λ files. files) (files_below l.parities l.level);
  parts : l.parts.items ≡ map length (files_below l.parities l.level);
}
