use Rattle.std.proofs.Common.{◌≡◌, map, take, true}
use Rattle.std.specs.List.{list_all}
use Rattle.array_setup.specs.Pattern.{is_pattern}
use Rattle.snap_config.proofs.option_values.read_patterns.Given as goal

-- the patterns so far
abbrev pub invariant-loop-text : goal.invariant-loop-text
invariant-loop-text l = record {
  read : l.patterns.items ≡ map (λ s. s.now) (take l.text-index l.texts);
  good : list_all is_pattern (map (λ s. s.now) (take l.text-index l.texts)) ≡ true;
}
