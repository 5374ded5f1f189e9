use Rattle.std.proofs.Common.{◌≡◌, ◌<◌, ◌≤◌, ◌*◌, ℕ, Bool, List, length, take, sym, ◌∙◌, ap, subst, arith}
use Rattle.std.specs.List.{All, range_with_len, filter}
use Rattle.std.proofs.Math.Nat.{mul-le-mul_right}
use Rattle.std.proofs.lemmas.Bool.{and_parts}
use Rattle.std.proofs.lemmas.List.{length-take-le}
use Rattle.file_table.specs.declared.shape.Shape.{Shape}
use Rattle.parity_writer.specs.WindowRow.{row_at}
use Rattle.stripe_examiner.specs.declared.search.Wanted.{Wanted}
use Rattle.stripe_examiner.specs.Marks.{is_marked_missing, column_mark, wanted_marked}
use Rattle.stripe_examiner.specs.Restorable.{filled}
use Rattle.repair_scope.specs.Plan.{seen_at, is_synced}
use Rattle.stripe_examiner.specs.Surveyed.{plan_in}
use Rattle.stripe_examiner.proofs.KnowLemmas.{wanted_lengths, wanted_within}
use Rattle.stripe_examiner.proofs.MarkSteps.{puts_found, puts_nothing, searched_where_known}
use Rattle.stripe_examiner.proofs.putting.put_stripe.Goals as goal

pub returns-then-not-own-clause-put : goal.returns-then-not-own-clause-put
returns-then-not-own-clause-put c =
    puts_nothing (plan_in c.args.survey.now) c.args.stripe c.args.i c.args.window.now c.args.own.now c.if-not-own.true

pub wanted_blocks-requires-clause-synced : goal.wanted_blocks-requires-clause-synced
wanted_blocks-requires-clause-synced c =
    let plan = plan_in c.args.survey.now in
    (and_parts (is_synced plan c.args.stripe) _
    (searched_where_known plan c.args.stripe c.args.i c.args.window.now c.args.own.now c.requires.judged c.if-not-own.false)).0

pub put_found-requires-clause-can : goal.put_found-requires-clause-can
put_found-requires-clause-can c =
    let table = c.args.survey.now.plan.table.now in
    let plan = plan_in c.args.survey.now in
    let marks = c.args.own.now.marks.items in
    let size = c.shape-size.result.block_size in
    let p : ℕ → Bool = λ d. is_marked_missing (column_mark marks d) in
    let missing = filter p (range_with_len 0 (length table.columns)) in
    let size_is : size ≡ table.shape.block_size = ap (λ (s : Shape). s.block_size) c.shape-size.ensures.shape in
    let wanted_are : c.deref-2.result.now ≡ wanted_marked plan c.args.stripe marks = c.deref-2.ensures.0 ∙ c.in-Some.ensures.value ∙ ap (wanted_marked plan c.args.stripe) c.deref.ensures.value in
    let many : c.len.result ≡ length c.deref-2.result.now = c.len.ensures.value ∙ ap length (sym c.deref-2.ensures.0) in
    let few : c.len.result * size ≤ 6 * size = mul-le-mul_right {m = c.len.result} {n = 6} size (omega (arith, many, c.deref-2.ensures.1)) in
    let inside : c.len.result * size ≤ length c.deref-3.result.now =
    omega (arith, few, size_is, ap (λ (xs : List ℕ). length xs) c.deref-3.ensures.value, c.requires.can.room.blocks) in
    record {
      size_is = size_is ∙ sym c.requires.can.can.fits.block_size;
      columns = subst (All (λ (one : Wanted). one.column < length c.args.window.now.lanes)) (sym wanted_are)
          (subst (λ (n : ℕ). All (λ (one : Wanted). one.column < n) (wanted_marked plan c.args.stripe marks)) (sym c.requires.can.can.fits.lanes)
          (wanted_within table.shape (seen_at plan c.args.stripe) p (length table.columns)));
      lengths = subst (All (λ (one : Wanted). one.length ≤ size)) (sym wanted_are)
          (subst (λ (n : ℕ). All (λ (one : Wanted). one.length ≤ n) (wanted_marked plan c.args.stripe marks)) (sym size_is)
          (wanted_lengths table.shape (seen_at plan c.args.stripe) missing));
      bytes = length-take-le (c.len.result * size) c.deref-3.result.now inside ∙ ap (λ (n : ℕ). n * size) many;
    }

pub returns-clause-put : goal.returns-clause-put
returns-clause-put c =
    let table = c.args.survey.now.plan.table.now in
    let plan = plan_in c.args.survey.now in
    let size_is : c.shape-size.result.block_size ≡ table.shape.block_size = ap (λ (s : Shape). s.block_size) c.shape-size.ensures.shape in
    puts_found plan c.args.stripe c.args.i c.args.window.now c.put_found.new.window c.args.own.now c.shape-size.result.block_size c.len.result c.deref-2.result.now c.if-not-own.false
    size_is (c.deref-2.ensures.0 ∙ c.in-Some.ensures.value ∙ ap (wanted_marked plan c.args.stripe) c.deref.ensures.value) (c.len.ensures.value ∙ ap length (sym c.deref-2.ensures.0)) (c.put_found.ensures.row
    ∙ ap (λ (blocks : List ℕ). filled c.shape-size.result.block_size (take (c.len.result * c.shape-size.result.block_size) blocks) c.deref-2.result.now (row_at c.args.window.now c.args.i)) c.deref-3.ensures.value)
    c.put_found.ensures.others
