use Rattle.std.proofs.Common.{get_or, arith}
use Rattle.parity_writer.specs.Closing.{Closing}
use Rattle.parity_writer.proofs.ClosingLemmas.{all_closed_sound}
use Rattle.parity_writer.proofs.laws.closing_written_stripes_stays_sound.Goals as goal

pub returns : goal.returns
returns c = λ table files snapshot is_changed closings levels rows sound once close enough holds are_rows.
    all_closed_sound c.closing_a_stripe_leaves_the_others.ensures c.closing_a_stripe_gives_its_hashes.ensures closings table files snapshot is_changed once close
    (λ k d below level within. let closing : Closing = get_or closings k d in holds.level level closing.stripe closing.row (omega (arith, within, enough)) (are_rows k d below)) sound
