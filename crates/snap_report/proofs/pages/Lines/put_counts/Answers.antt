use Rattle.snap_report.proofs.PutsLemmas.{puts_then, puts_nothing, puts_same}
use Rattle.snap_report.proofs.pages.Lines.put_counts.Goals as goal

pub returns : goal.returns
returns g c = puts_same _ _ _ _ _ (puts_then _ _ _ _ _ _ c.put_number_line.ensures
    (puts_then _ _ _ _ _ _ c.put_number_line-2.ensures
    (puts_then _ _ _ _ _ _ c.put_number_line-3.ensures
    (puts_then _ _ _ _ _ _ c.put_number_line-4.ensures
    (puts_then _ _ _ _ _ _ c.put_number_line-5.ensures
    (puts_then _ _ _ _ _ _ c.put_number_line-6.ensures
    (puts_then _ _ _ _ _ _ c.put_number_line-7.ensures
    (puts_nothing _ _))))))))
    (rw (
      c.from.ensures,
      c.totals_of-totals.ensures.files,
      c.totals_of-totals.ensures.bytes,
      c.from-2.ensures,
      c.length.ensures.count,
      c.from-3.ensures,
      c.marks_of-marks.ensures.synced,
      c.from-4.ensures,
      c.marks_of-marks.ensures.pending,
      c.from-5.ensures,
      c.marks_of-marks.ensures.fresh,
      c.from-6.ensures,
      c.marks_of-marks.ensures.bad,
    ))
