use Rattle.std.proofs.Common.{◌≡◌, map}
use Rattle.std.specs.List.{filter, range_with_len}
use Rattle.file_table.specs.Cells.{cell_view}
use Rattle.file_table.specs.Table.{column_at}
use Rattle.stripe_examiner.specs.Facts.{wanted_by}
use Rattle.stripe_examiner.specs.Marks.{is_marked_missing, column_mark}
use Rattle.stripe_examiner.proofs.knowing.wanted_blocks.Given as goal

-- those of the columns so far
abbrev pub invariant-loop-d : goal.invariant-loop-d
invariant-loop-d l =
    l.wanted.items
    ≡ map (λ d. wanted_by l.survey.plan.table.now.shape d (cell_view (column_at l.survey.plan.table.now.columns d) l.stripe))
    (filter (λ d. is_marked_missing (column_mark l.marks d)) (range_with_len 0 l.d))
