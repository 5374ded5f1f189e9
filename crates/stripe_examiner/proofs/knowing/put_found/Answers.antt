use Rattle.std.proofs.Common.{◌≡◌, ◌+◌, ◌-◌, ◌*◌, ℕ, [], take, drop, get_or, set, sym, ◌∙◌, ap₂, arith}
use Rattle.parity_writer.specs.Parity.{Row}
use Rattle.parity_writer.specs.WindowRow.{row_at}
use Rattle.stripe_examiner.specs.declared.search.Wanted.{Wanted}
use Rattle.stripe_examiner.proofs.KnowFilled.{filled_more, stripe_more, others_more}
use Rattle.stripe_examiner.proofs.knowing.put_found.Goals as goal

pub loop-j-preserved : goal.loop-j-preserved
loop-j-preserved c =
    let so_far = c.loop-j.invariant in
    let put = c.put_block.ensures in
    let wanted = c.args.wanted.now in
    let blocks = c.args.blocks.now in
    let j = c.loop-j.j in
    let start = j * c.args.size in
    let other : Wanted = record { column = 0; length = 0; hash = record { 0 = [] } } in
    let one : Wanted = get_or wanted j other in
    let real : start + one.length - start ≡ one.length = omega arith in
    record {
      row = put.row ∙ ap₂ (λ (row : Row) (n : ℕ). set row one.column (take n (drop start blocks))) so_far.row real
          ∙ sym (filled_more c.args.size blocks wanted (row_at c.args.window.now c.args.i) j other c.loop-j-test.true);
      changes = stripe_more c.args.i one.column c.args.window.now c.loop-j.window c.put_block.new.window so_far.changes put.changes;
      others = others_more c.args.i wanted j other c.args.window.now c.loop-j.window c.put_block.new.window c.loop-j-test.true so_far.others put.changes;
    }
