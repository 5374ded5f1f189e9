use Rattle.std.proofs.Common.{◌≡◌, ◌<◌, ◌≤◌, ℕ, refl, length, take, sym, ◌∙◌, ap, subst, arith}
use Rattle.std.specs.List.{All}
use Rattle.std.proofs.lemmas.Bool.Decides.{nat_tests}
use Rattle.std.proofs.lemmas.List.{length-map, length-take}
use Rattle.cauchy.specs.System.{AreDistinctBelow}
use Rattle.file_table.specs.declared.shape.Shape.{Shape}
use Rattle.parity_writer.specs.WindowRow.{bytes_in, row_at}
use Rattle.stripe_examiner.specs.declared.search.Wanted.{Wanted}
use Rattle.stripe_examiner.specs.Judged.{AreMissingIn}
use Rattle.stripe_examiner.specs.Known.{AreRemainders, whole_level}
use Rattle.stripe_examiner.specs.Restorable.{filled}
use Rattle.stripe_examiner.specs.Search.{found_in}
use Rattle.stripe_examiner.proofs.FindLemmas.{columns_below, distinct_below, left_at_shape}
use Rattle.stripe_examiner.proofs.FirstLemmas.{ready_at}
use Rattle.stripe_examiner.proofs.JudgedLemmas.{known_whole, left_whole}
use Rattle.stripe_examiner.proofs.KnowLemmas.{passed_distinct}
use Rattle.stripe_examiner.proofs.KnowRemainders.{known_none, known_some}
use Rattle.stripe_examiner.proofs.finding.find.Goals as goal

pub returns-then-is_empty-clause-known : goal.returns-then-is_empty-clause-known
returns-then-is_empty-clause-known c =
    known_whole c.args.table.now.shape c.args.wanted.now _ _ c.args.blocks.now (grind (arith, nat_tests, c.is_empty.ensures, c.if-is_empty.true))

pub returns-then-is_empty-clause-left : goal.returns-then-is_empty-clause-left
returns-then-is_empty-clause-left c is =
    let table = c.args.table.now in
    let levels = c.args.levels.now in
    let size_is : c.shape-shape.result.block_size ≡ table.shape.block_size = ap (λ (s : Shape). s.block_size) c.shape-shape.ensures.shape in
    left_whole table.shape table.shape.block_size c.args.wanted.now (row_at c.args.window.now c.args.i) (take levels.count levels.levels) c.args.blocks.now c.fill.new.remainders
    (grind (arith, nat_tests, c.is_empty.ensures, c.if-is_empty.true))
    (rw (sym size_is) c.fill.ensures.are)

pub search_on-requires-clause-room : goal.search_on-requires-clause-room
search_on-requires-clause-room c =
    let shape = c.shape-shape.result in
    let table = c.args.table.now in
    let size_is : shape.block_size ≡ table.shape.block_size = ap (λ (s : Shape). s.block_size) c.shape-shape.ensures.shape in
    let valid = c.shape-shape.ensures.valid in
    record {
      some = grind (arith, nat_tests, c.is_empty.ensures, c.if-is_empty.false);
      block = omega (arith, size_is, valid.shape.block_size.least);
      at_most = omega (arith, size_is, valid.shape.block_size.most);
      lengths = subst (λ (n : ℕ). All (λ (one : Wanted). one.length ≤ n) c.args.wanted.now) (sym size_is) c.requires.can.missing.lengths;
      remainder_bytes = c.fill.ensures.are.long;
      work_bytes = omega (arith, size_is, c.requires.room.blocks_are);
    }

pub search_on-requires-clause-columns : goal.search_on-requires-clause-columns
search_on-requires-clause-columns c =
    distinct_below (length (row_at c.args.window.now c.args.i)) 251 _
    (omega (arith, length-map c.args.window.now.lanes (bytes_in c.args.i), c.requires.can.fits.lanes, c.shape-shape.ensures.valid.columns.few)) c.requires.can.missing.distinct

pub search_on-requires-clause-levels : goal.search_on-requires-clause-levels
search_on-requires-clause-levels c =
    let levels = c.args.levels.now in
    let read = take levels.count levels.levels in
    subst (AreDistinctBelow 6) (sym (c.deref.ensures.0 ∙ c.whole_levels-whole.ensures))
    (passed_distinct (whole_level read) (length read) 6 (omega (arith, length-take levels.count levels.levels, c.requires.can.levels_fit.count, c.shape-shape.ensures.valid.shape.levels.most)))

pub returns-then-not-search_on-clause-known : goal.returns-then-not-search_on-clause-known
returns-then-not-search_on-clause-known c =
    let levels = c.args.levels.now in
    let wanted = c.args.wanted.now in
    let some : 0 < length wanted = grind (arith, nat_tests, c.is_empty.ensures, c.if-is_empty.false) in
    known_none c.args.table.now.shape c.shape-shape.result wanted wanted (row_at c.args.window.now c.args.i) (take levels.count levels.levels) c.deref.result.now c.fill.new.remainders
    c.shape-shape.ensures.shape refl (c.deref.ensures.0 ∙ c.whole_levels-whole.ensures) some c.fill.ensures.are (c.search_on.ensures.none c.if-not-search_on.true)

pub take_found-requires-clause-columns : goal.take_found-requires-clause-columns
take_found-requires-clause-columns c =
    columns_below (row_at c.args.window.now c.args.i) c.args.table.now.shape.block_size 251 c.args.wanted.now
    (omega (arith, length-map c.args.window.now.lanes (bytes_in c.args.i), c.requires.can.fits.lanes, c.shape-shape.ensures.valid.columns.few)) c.requires.can.missing

pub take_found-requires-clause-lengths : goal.take_found-requires-clause-lengths
take_found-requires-clause-lengths c =
    let size_is : c.shape-shape.result.block_size ≡ c.args.table.now.shape.block_size = ap (λ (s : Shape). s.block_size) c.shape-shape.ensures.shape in
    subst (λ (n : ℕ). All (λ (one : Wanted). one.length ≤ n) c.args.wanted.now) (sym size_is) c.requires.can.missing.lengths

pub returns-clause-known : goal.returns-clause-known
returns-clause-known c =
    let table = c.args.table.now in
    let levels = c.args.levels.now in
    let wanted = c.args.wanted.now in
    let row = row_at c.args.window.now c.args.i in
    let work = c.search_on.new.work in
    let some : 0 < length wanted = grind (arith, nat_tests, c.is_empty.ensures, c.if-is_empty.false) in
    known_some table.shape c.shape-shape.result wanted wanted row (take levels.count levels.levels) c.deref.result.now c.fill.new.remainders
    c.shape-shape.ensures.shape refl (c.deref.ensures.0 ∙ c.whole_levels-whole.ensures) some c.fill.ensures.are
    (found_in c.shape-shape.result wanted work) (filled table.shape.block_size (found_in table.shape wanted work) wanted row)
    (c.search_on.ensures.found c.if-not-search_on.false)
    (ap (λ (s : Shape). filled s.block_size (found_in s wanted work) wanted row) (sym c.shape-shape.ensures.shape))

pub returns-clause-left : goal.returns-clause-left
returns-clause-left c is =
    let table = c.args.table.now in
    let levels = c.args.levels.now in
    let wanted = c.args.wanted.now in
    let row = row_at c.args.window.now c.args.i in
    let shape = c.shape-shape.result in
    let size_is : shape.block_size ≡ table.shape.block_size = ap (λ (s : Shape). s.block_size) c.shape-shape.ensures.shape in
    let missing : AreMissingIn row shape.block_size wanted = subst (λ (n : ℕ). AreMissingIn row n wanted) (sym size_is) c.requires.can.missing in
    left_at_shape table.shape shape wanted (length wanted) c.search_on.new.work c.take_found.new.remainders row (take levels.count levels.levels) c.shape-shape.ensures.shape refl
    (c.take_found.ensures.left row missing c.fill.ensures.are)

pub fill-requires-clause-made : goal.fill-requires-clause-made
fill-requires-clause-made c is =
    let table = c.args.table.now in
    let size_is : c.shape-shape.result.block_size ≡ table.shape.block_size = ap (λ (s : Shape). s.block_size) c.shape-shape.ensures.shape in
    let levels = c.args.levels.now in
    subst (λ (n : ℕ). AreRemainders n (row_at c.args.window.now c.args.i) (take levels.count levels.levels) c.args.remainders.now) (sym size_is)
    (c.requires.first.made is).are

pub search_on-requires-clause-ready : goal.search_on-requires-clause-ready
search_on-requires-clause-ready c =
    let table = c.args.table.now in
    let levels = c.args.levels.now in
    let wanted = c.args.wanted.now in
    let shape = c.shape-shape.result in
    ready_at table.shape shape wanted (row_at c.args.window.now c.args.i) (take levels.count levels.levels) c.args.first.now c.args.remainders.now c.args.blocks.now
    c.fill.new.remainders c.deref.result.now c.shape-shape.ensures.shape (c.deref.ensures.0 ∙ c.whole_levels-whole.ensures) c.fill.ensures.kept c.requires.first
