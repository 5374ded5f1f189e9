use Rattle.array_scan.proofs.KeepingLemmas.{layout_keeps}
use Rattle.array_scan.proofs.laws.a_layout_keeps_its_stripes.Goals as goal

pub returns : goal.returns
returns c = λ table kept valid.
    layout_keeps c.a_cell_stands_at_its_position.ensures.found c.a_cell_stands_at_its_position.ensures.only c.a_cell_stands_at_its_position.ensures.none table valid kept
