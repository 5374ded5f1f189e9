use Rattle.std.proofs.Common.{false, replicate, ap, ◌∙◌}
use Rattle.file_table.specs.declared.shape.Shape.{Shape}
use Rattle.snap_fix.proofs.repairs.progress_before.Goals as goal

pub returns-clause-first : goal.returns-clause-first
returns-clause-first c = record {
  valid = c.shape.ensures.valid;
  states = c.in_ok-states.ensures;
  written = c.in_ok-written.ensures.items_if_clones_equal (λ y same. same) ∙ ap (λ (shape : Shape). replicate shape.levels false) c.shape.ensures.shape;
}
