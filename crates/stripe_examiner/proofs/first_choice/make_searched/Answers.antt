use Rattle.std.proofs.Common.{sym, ◌∙◌, ap, subst, arith}
use Rattle.file_table.specs.declared.shape.Shape.{Shape}
use Rattle.parity_writer.specs.WindowRow.{row_at}
use Rattle.stripe_examiner.specs.Judged.{AreMissingIn}
use Rattle.stripe_examiner.specs.Marks.{wanted_marked}
use Rattle.stripe_examiner.specs.Surveyed.{plan_in}
use Rattle.stripe_examiner.proofs.JudgedLemmas.{missing_in_row}
use Rattle.stripe_examiner.proofs.first_choice.make_searched.Goals as goal

pub make_first-requires-clause-can : goal.make_first-requires-clause-can
make_first-requires-clause-can c =
    let table = c.args.survey.now.plan.table.now in
    let plan = plan_in c.args.survey.now in
    let count = c.requires.can.count c.requires.searched in
    record {
      number = c.requires.can.can.number;
      fits = c.requires.can.can.fits;
      levels_fit = record {
        count = count;
        room = omega (arith, c.see_levels.ensures, count, ap (λ (s : Shape). s.levels) c.shape-shape.ensures.shape);
        block_size = c.requires.can.room.levels;
      };
      few = omega (arith, c.deref-2.ensures.1);
      missing = subst (AreMissingIn (row_at c.args.window.now c.args.i) table.shape.block_size)
          (sym (c.deref-2.ensures.0 ∙ c.in-Some.ensures.value ∙ ap (wanted_marked plan c.args.stripe) c.deref.ensures.value))
          (missing_in_row plan c.args.stripe c.args.i c.args.window.now c.args.own.now c.requires.can);
    }
