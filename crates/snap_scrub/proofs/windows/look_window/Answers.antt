use Rattle.std.proofs.Common.{ℕ, ◌<◌, List, All, length, get_or, refl, sym, ap, ◌∙◌, subst, arith}
use Rattle.file_table.specs.declared.shape.Shape.{Shape}
use Rattle.parity_writer.specs.WindowRow.{row_at}
use Rattle.parity_writer.specs.declared.summing.Sums.{Sums}
use Rattle.parity_writer.specs.Summing.{HoldSums}
use Rattle.parity_writer.specs.Summing.{HaveSize}
use Rattle.snap_scrub.proofs.OverLemmas.{whole_back}
use Rattle.snap_scrub.proofs.windows.look_window.Goals as goal

pub sum_window-requires-clause-room : goal.sum_window-requires-clause-room
sum_window-requires-clause-room g c κs lives =
    let look = c.requires.look in
    subst (λ (all : List Sums). All (HaveSize c.hash_near.new.window.block_size) all) (sym c.as_mut_slice-sums.ensures.value)
    (subst (λ (n : ℕ). All (HaveSize n) c.args.check.now.sums.items) (sym c.hash_near.ensures.holds.fits.block_size) look.check.sums)

pub look_into-requires-clause-check : goal.look_into-requires-clause-check
look_into-requires-clause-check g c κs lives =
    let look = c.requires.look in
    let new = c.sum_window.new.sums in
    let back = whole_back c.args.check.now.sums.len c.args.check.now.sums.items new (c.sum_window.ensures.count ∙ c.as_mut_slice-sums.ensures.len) in
    record {
      levels = look.check.levels;
      sums = subst (λ (all : List Sums). All (HaveSize c.args.round.now.table.now.shape.block_size) all) (sym back)
          (λ k other below. subst (λ (n : ℕ). HaveSize n (get_or new k other)) c.hash_near.ensures.holds.fits.block_size (c.sum_window.ensures.sums k other below).size);
    }

pub look_into-requires-clause-sums : goal.look_into-requires-clause-sums
look_into-requires-clause-sums g c κs lives =
    λ i below.
    let look = c.requires.look in
    let table = c.args.round.now.table.now in
    let window = c.hash_near.new.window in
    let new = c.sum_window.new.sums in
    let levels = ap (λ (it : Shape). it.levels) c.shape-levels.ensures.shape in
    let back = whole_back c.args.check.now.sums.len c.args.check.now.sums.items new (c.sum_window.ensures.count ∙ c.as_mut_slice-sums.ensures.len) in
    let within : i < length new = omega (arith, below, look.sums, ap length c.as_mut_slice-sums.ensures.value, c.sum_window.ensures.count) in
    record {
      there = omega (arith, within, ap length back);
      hold = λ other. subst (λ (all : List Sums). HoldSums table.shape.block_size (row_at window i) table.shape.levels (get_or all i other).blocks.items) (sym back)
          (subst (λ (n : ℕ). HoldSums n (row_at window i) table.shape.levels (get_or new i other).blocks.items) c.hash_near.ensures.holds.fits.block_size
          (subst (λ (n : ℕ). HoldSums window.block_size (row_at window i) n (get_or new i other).blocks.items) levels
          ((c.sum_window.ensures.sums i other within).hold (omega (arith, below, c.hash_near.ensures.holds.count)))));
    }

pub returns-clause-check : goal.returns-clause-check
returns-clause-check g c =
    let new = c.sum_window.new.sums in
    let back = whole_back c.args.check.now.sums.len c.args.check.now.sums.items new (c.sum_window.ensures.count ∙ c.as_mut_slice-sums.ensures.len) in
    record {
      room = c.look_into.ensures.check.room;
      as_many = ap (λ sums. length sums.items) c.look_into.ensures.check.sums ∙ ap length back ∙ c.sum_window.ensures.count ∙ ap length c.as_mut_slice-sums.ensures.value;
    }
