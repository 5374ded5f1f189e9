use Rattle.std.proofs.Common.{rules, ℕ, All, ap, subst, arith}
use Rattle.file_table.specs.declared.shape.Shape.{Shape}
use Rattle.parity_writer.specs.Summing.{HaveSize}
use Rattle.snap_scrub.proofs.room.Room.make.Goals as goal

pub returns-clause-room : goal.returns-clause-room
returns-clause-room c = record {
  starts = search rules;
  near = search rules;
  far = search rules;
  check = record {
    levels = search rules;
    sums = subst (λ (n : ℕ). All (HaveSize n) c.in_ok-make_sums.field-0.items) (ap (λ (it : Shape). it.block_size) c.shape-block_size.ensures.shape) c.in_ok-make_sums.ensures.each;
  };
  near_sums = search rules;
  far_sums = search rules;
  piece = search rules;
}

pub returns-clause-enough : goal.returns-clause-enough
returns-clause-enough c = record {
  first = λ some. omega (arith, c.in_ok-make.ensures.room, c.min-near.ensures, c.stripe_count-most.ensures.some, some);
  more = λ left. omega (arith, c.in_ok-make.ensures.room, c.in_ok-make-2.ensures.room, c.min-near.ensures, c.min-far.ensures, c.stripe_count-most.ensures.some, left);
}
