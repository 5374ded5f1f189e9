use Rattle.std.proofs.Common.{ℕ, All, get_or, sym, ap, subst}
use Rattle.file_table.specs.declared.shape.Shape.{Shape}
use Rattle.parity_writer.specs.Summing.{AreSumsOf, HaveSize}
use Rattle.snap_sync.proofs.turning.sum_near.Goals as goal

pub sum_window-requires-clause-room : goal.sum_window-requires-clause-room
sum_window-requires-clause-room g c κs lives =
    subst (λ (n : ℕ). All (HaveSize n) c.args.sums.now) (sym c.requires.holds.fits.block_size) c.requires.room

pub returns-clause-room : goal.returns-clause-room
returns-clause-room g c =
    let made = c.sum_window.new.sums in
    record {
      as_many = c.sum_window.ensures.count;
      each = λ k other below. subst (λ (n : ℕ). HaveSize n (get_or made k other)) c.requires.holds.fits.block_size (c.sum_window.ensures.sums k other below).size;
    }

pub returns-clause-sums : goal.returns-clause-sums
returns-clause-sums g c =
    subst (λ (n : ℕ). AreSumsOf c.args.window.now n c.sum_window.new.sums) (ap (λ (it : Shape). it.levels) c.shape-levels.ensures.shape) c.sum_window.ensures.sums
