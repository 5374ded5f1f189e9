use Rattle.std.proofs.Common.{arith}
use Rattle.parity_writer.proofs.ClosingLemmas.{closed_sound}
use Rattle.parity_writer.proofs.laws.closing_a_written_stripe_stays_sound.Goals as goal

pub returns : goal.returns
returns c = λ table files snapshot is_changed closing levels rows sound closes enough holds is_row.
    closed_sound c.closing_a_stripe_leaves_the_others.ensures closing table files snapshot is_changed sound closes (λ level below. holds.level level closing.stripe closing.row (omega (arith, below, enough)) is_row)
