use Rattle.std.proofs.Common.{rules, ℕ, All, ap, subst}
use Rattle.file_table.specs.declared.shape.Shape.{Shape}
use Rattle.parity_writer.specs.Summing.{HaveSize}
use Rattle.snap_sync.proofs.room.Room.make.Goals as goal

pub returns : goal.returns
returns c = record {
  starts = search rules;
  some = search rules;
  size = search rules;
  near = search rules;
  far = search rules;
  as_much = search rules;
  chosen = search rules;
  sums = record {
    as_many = search rules;
    each = subst (λ (n : ℕ). All (HaveSize n) c.in_ok-sums.sums.items) (ap (λ (it : Shape). it.block_size) c.shape-block_size.ensures.shape) c.in_ok-sums.ensures.each;
  };
  piece = search rules;
}
