use Rattle.std.proofs.Common.{◌≡◌, ◌≤◌, ℕ, length, take, sym, ◌∙◌, ap, subst, arith}
use Rattle.std.specs.List.{All}
use Rattle.std.proofs.lemmas.List.{length-map, length-take}
use Rattle.cauchy.specs.System.{AreDistinctBelow}
use Rattle.file_table.specs.declared.shape.Shape.{Shape}
use Rattle.parity_writer.specs.WindowRow.{bytes_in, row_at}
use Rattle.stripe_examiner.specs.declared.search.Wanted.{Wanted}
use Rattle.stripe_examiner.specs.Known.{whole_level}
use Rattle.stripe_examiner.proofs.FindLemmas.{distinct_below}
use Rattle.stripe_examiner.proofs.FirstLemmas.{first_fits, made_at}
use Rattle.stripe_examiner.proofs.KnowLemmas.{passed_distinct}
use Rattle.stripe_examiner.proofs.finding.make_first.Goals as goal

pub follow-requires-clause-room : goal.follow-requires-clause-room
follow-requires-clause-room c =
    let shape = c.shape-shape.result in
    let table = c.args.table.now in
    let size_is : shape.block_size ≡ table.shape.block_size = ap (λ (s : Shape). s.block_size) c.shape-shape.ensures.shape in
    let valid = c.shape-shape.ensures.valid in
    record {
      some = c.requires.some;
      block = omega (arith, size_is, valid.shape.block_size.least);
      at_most = omega (arith, size_is, valid.shape.block_size.most);
      lengths = subst (λ (n : ℕ). All (λ (one : Wanted). one.length ≤ n) c.args.wanted.now) (sym size_is) c.requires.can.missing.lengths;
      remainder_bytes = c.fill_in_turn.ensures.long;
      work_bytes = omega (arith, size_is, c.requires.room.blocks_are);
    }

pub follow-requires-clause-choice : goal.follow-requires-clause-choice
follow-requires-clause-choice c =
    let levels = c.args.levels.now in
    let read = take levels.count levels.levels in
    first_fits c.args.wanted.now c.deref.result.now c.requires.some
    (distinct_below (length (row_at c.args.window.now c.args.i)) 251 _
    (omega (arith, length-map c.args.window.now.lanes (bytes_in c.args.i), c.requires.can.fits.lanes, c.shape-shape.ensures.valid.columns.few)) c.requires.can.missing.distinct)
    (subst (AreDistinctBelow 6) (sym (c.deref.ensures.0 ∙ c.whole_levels-whole.ensures))
    (passed_distinct (whole_level read) (length read) 6 (omega (arith, length-take levels.count levels.levels, c.requires.can.levels_fit.count, c.shape-shape.ensures.valid.shape.levels.most))))
    (omega (arith, ap length c.deref.ensures.0))

pub returns-clause-made : goal.returns-clause-made
returns-clause-made c is =
    let table = c.args.table.now in
    let levels = c.args.levels.now in
    made_at table.shape c.shape-shape.result c.args.wanted.now (row_at c.args.window.now c.args.i) (take levels.count levels.levels) c.fill_in_turn.new.remainders c.follow.new.work
    c.deref.result.now c.shape-shape.ensures.shape (c.deref.ensures.0 ∙ c.whole_levels-whole.ensures) c.fill_in_turn.ensures
    (omega (arith, ap length c.deref.ensures.0)) c.follow.ensures.blocks
