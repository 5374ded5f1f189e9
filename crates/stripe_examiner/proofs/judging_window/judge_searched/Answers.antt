use Rattle.std.proofs.Common.{◌≡◌, ◌<◌, ◌≤◌, refl, length, take, sym, ◌∙◌, ap, subst, arith}
use Rattle.std.proofs.lemmas.Bool.Decides.{nat_tests}
use Rattle.std.proofs.lemmas.Bool.{false≢true}
use Rattle.std.proofs.lemmas.List.{length-take, with_items_is}
use Rattle.file_table.specs.declared.shape.Shape.{Shape}
use Rattle.parity_writer.specs.WindowRow.{row_at}
use Rattle.stripe_examiner.specs.Judged.{AreMissingIn}
use Rattle.stripe_examiner.specs.Marks.{wanted_marked}
use Rattle.stripe_examiner.specs.Surveyed.{plan_in}
use Rattle.stripe_examiner.proofs.FirstRooms.{first_as}
use Rattle.stripe_examiner.proofs.JudgedLemmas.{judges, judges_as_found, judges_whole, missing_in_row, none_wrong}
use Rattle.stripe_examiner.proofs.JudgingLemmas.{none_selected}
use Rattle.stripe_examiner.proofs.KnowRemainders.{none_of_many}
use Rattle.stripe_examiner.proofs.judging_window.judge_searched.Goals as goal

pub returns-in_default-clause-judged : goal.returns-in_default-clause-judged
returns-in_default-clause-judged c =
    let table = c.args.survey.now.plan.table.now in
    let plan = plan_in c.args.survey.now in
    let levels = c.args.own.now.levels in
    let count = c.requires.can.count c.requires.searched in
    let most : levels.count ≤ 6 = omega (arith, count, c.shape.ensures.valid.shape.levels.most) in
    judges plan c.args.stripe c.args.i c.args.window.now _ c.requires.searched
    (omega (arith, c.see_levels.ensures, count, ap (λ (s : Shape). s.levels) c.shape.ensures.shape))
    (none_of_many table.shape _ (row_at c.args.window.now c.args.i) (take levels.count levels.levels)
    (omega (arith, length-take levels.count levels.levels, most)) (subst (λ marks. 6 < length (wanted_marked plan c.args.stripe marks)) c.deref.ensures.value c.in_default.ensures.value))
    (λ known. absurd (false≢true known))
    (none_wrong plan c.args.stripe levels most)

pub returns-then-not-is_judged-clause-judged : goal.returns-then-not-is_judged-clause-judged
returns-then-not-is_judged-clause-judged c =
    let table = c.args.survey.now.plan.table.now in
    let plan = plan_in c.args.survey.now in
    let levels = c.args.own.now.levels in
    let count = c.requires.can.count c.requires.searched in
    let none : length c.in-Some.wanted.items ≡ 0 = grind (arith, nat_tests, c.is_empty.ensures, c.if-is_empty.true) in
    let wanteds : c.in-Some.wanted.items ≡ wanted_marked plan c.args.stripe c.args.own.now.marks.items =
    c.in-Some.ensures.value ∙ ap (wanted_marked plan c.args.stripe) c.deref.ensures.value in
    judges_whole plan c.args.stripe c.args.i c.args.window.now _ c.requires.searched
    (omega (arith, c.see_levels.ensures, count, ap (λ (s : Shape). s.levels) c.shape.ensures.shape))
    refl (sym (ap length wanteds) ∙ none)
    (none_selected plan c.args.stripe levels _ (sym c.has_selected_level-is_judged.ensures ∙ c.if-not-is_judged.true) count (omega (arith, count, c.shape.ensures.valid.shape.levels.most)))

pub find-known-requires-clause-can : goal.find-known-requires-clause-can
find-known-requires-clause-can c =
    let table = c.args.survey.now.plan.table.now in
    let plan = plan_in c.args.survey.now in
    let count = c.requires.can.count c.requires.searched in
    record {
      number = c.requires.can.can.number;
      fits = c.requires.can.can.fits;
      levels_fit = record {
        count = count;
        room = omega (arith, c.see_levels.ensures, count, ap (λ (s : Shape). s.levels) c.shape.ensures.shape);
        block_size = c.requires.can.room.levels;
      };
      few = omega (arith, c.deref-2.ensures.1);
      missing = subst (AreMissingIn (row_at c.args.window.now c.args.i) table.shape.block_size)
          (sym (c.deref-2.ensures.0 ∙ c.in-Some.ensures.value ∙ ap (wanted_marked plan c.args.stripe) c.deref.ensures.value))
          (missing_in_row plan c.args.stripe c.args.i c.args.window.now c.args.own.now c.requires.can);
    }

pub find-known-requires-clause-first : goal.find-known-requires-clause-first
find-known-requires-clause-first c =
    let plan = plan_in c.args.survey.now in
    let own = c.args.own.now in
    first_as plan c.args.stripe c.args.i c.args.window.now own c.deref-2.result.now _ _
    (c.deref-2.ensures.0 ∙ c.in-Some.ensures.value ∙ ap (wanted_marked plan c.args.stripe) c.deref.ensures.value)
    c.deref_mut.ensures.value c.deref_mut-2.ensures.value c.requires.first

pub returns-then-is_judged-clause-judged : goal.returns-then-is_judged-clause-judged
returns-then-is_judged-clause-judged c =
    let table = c.args.survey.now.plan.table.now in
    let plan = plan_in c.args.survey.now in
    let own = c.args.own.now in
    let count = c.requires.can.count c.requires.searched in
    let wanteds : c.deref-2.result.now ≡ wanted_marked plan c.args.stripe own.marks.items =
    c.deref-2.ensures.0 ∙ c.in-Some.ensures.value ∙ ap (wanted_marked plan c.args.stripe) c.deref.ensures.value in
    let remainders_are = c.deref-then-is_judged.ensures.value ∙ with_items_is own.remainders c.find-known.new.remainders (c.find-known.ensures.room.remainders_are ∙ sym c.requires.can.room.remainders ∙ sym own.remainders.ok.0) in
    let blocks_are = with_items_is own.blocks c.find-known.new.blocks (c.find-known.ensures.room.blocks_are ∙ sym c.requires.can.room.blocks ∙ sym own.blocks.ok.0) in
    judges_as_found plan c.args.stripe c.args.i c.args.window.now _ c.requires.searched
    (omega (arith, c.see_levels.ensures, count, ap (λ (s : Shape). s.levels) c.shape.ensures.shape))
    c.find-known.result c.deref-2.result.now c.find-known.new.blocks refl wanteds blocks_are
    c.find-known.ensures.known
    (omega (arith, c.deref-2.ensures.1))
    (c.wrong_levels-own.ensures _ (λ known. rw (remainders_are) (c.find-known.ensures.left known)))

pub returns-else-is_judged-clause-judged : goal.returns-else-is_judged-clause-judged
returns-else-is_judged-clause-judged c =
    let table = c.args.survey.now.plan.table.now in
    let plan = plan_in c.args.survey.now in
    let own = c.args.own.now in
    let count = c.requires.can.count c.requires.searched in
    let wanteds : c.deref-2.result.now ≡ wanted_marked plan c.args.stripe own.marks.items =
    c.deref-2.ensures.0 ∙ c.in-Some.ensures.value ∙ ap (wanted_marked plan c.args.stripe) c.deref.ensures.value in
    let blocks_are = with_items_is own.blocks c.find-known.new.blocks (c.find-known.ensures.room.blocks_are ∙ sym c.requires.can.room.blocks ∙ sym own.blocks.ok.0) in
    judges_as_found plan c.args.stripe c.args.i c.args.window.now _ c.requires.searched
    (omega (arith, c.see_levels.ensures, count, ap (λ (s : Shape). s.levels) c.shape.ensures.shape))
    c.find-known.result c.deref-2.result.now c.find-known.new.blocks refl wanteds blocks_are
    c.find-known.ensures.known
    (omega (arith, c.deref-2.ensures.1))
    (none_selected plan c.args.stripe own.levels _ (sym c.has_selected_level-is_judged.ensures ∙ c.if-is_judged.false) count (omega (arith, count, c.shape.ensures.valid.shape.levels.most)))
