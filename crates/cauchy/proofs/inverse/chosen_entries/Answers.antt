use Rattle.std.proofs.Common.{get_or, arith, ap, ◌∙◌, List, ℕ, below_more, sym}
use Rattle.cauchy.proofs.RowsLemmas.{row_before, row_here, HasShape-push}
use Rattle.cauchy.proofs.inverse.chosen_entries.Goals as goal

pub loop-i-preserved : goal.loop-i-preserved
loop-i-preserved c =
    let sofar = c.loop-i.invariant in
    let row = c.level_entries.result in
    let new = c.push.new.self in
    record {
      shape = HasShape-push c.loop-i.rows new row c.push.ensures.items _ _ sofar.shape c.level_entries.ensures.long;
      made = below_more _ _
          (λ i h j hj.
          ap (λ (r : List ℕ). get_or r j 0) (row_before c.loop-i.rows new row c.push.ensures.items i (omega (arith, sofar.shape.row_count)))
          ∙ sofar.made i h j hj)
          (λ j hj.
          ap (λ (r : List ℕ). get_or r j 0) (row_here c.loop-i.rows new row c.push.ensures.items c.loop-i.i (sym sofar.shape.row_count))
          ∙ c.level_entries.ensures.made j hj);
    }
