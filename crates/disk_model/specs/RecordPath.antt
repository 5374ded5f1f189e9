-- The parts of a path that a record may have.
use Rattle.std.specs.Prelude.{ℕ, List}
use Rattle.std.specs.List.{AllByRecursion}
use Rattle.disk_model.specs.Path.{EndsWith, lost_suffix, components}

-- no part between slashes ends as the name of a lost file does
abbrev pub HasNoLostPart : List ℕ → Type 0
HasNoLostPart bytes = AllByRecursion (λ (part : List ℕ). ¬ (EndsWith lost_suffix part)) (components bytes)
