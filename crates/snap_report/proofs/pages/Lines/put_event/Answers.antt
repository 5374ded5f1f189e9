use Rattle.snap_report.proofs.pages.Lines.put_event.Goals as goal

pub returns-in-Lost : goal.returns-in-Lost
returns-in-Lost g c = rw c.in-Lost.is (rw c.new-in-Lost.ensures at c.put_block-in-Lost.ensures)
