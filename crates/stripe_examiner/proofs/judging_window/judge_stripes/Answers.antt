use Rattle.std.proofs.Common.{◌+◌, sym, subst, arith}
use Rattle.stripe_examiner.specs.Judged.{CanJudge}
use Rattle.stripe_examiner.specs.MarkedWindow.{number_at}
use Rattle.stripe_examiner.specs.Surveyed.{plan_in}
use Rattle.stripe_examiner.proofs.FirstRooms.{judged_at}
use Rattle.stripe_examiner.proofs.judging_window.judge_stripes.Goals as goal

pub for_each_chunk_mut-requires-clause-accepts : goal.for_each_chunk_mut-requires-clause-accepts
for_each_chunk_mut-requires-clause-accepts g c κs outlive start some chunk = (
  omega (arith, chunk.in_bounds, c.requires.count),
  λ k other below.
      let plan = plan_in c.args.survey.now in
      let i = start + k in
      subst (CanJudge plan (number_at c.args.survey.now.stripes.now i) i c.args.window.now) (sym (chunk.elements k other below))
      (c.requires.can i other (omega (arith, below, chunk.in_bounds, c.requires.count))),
)

pub returns-clause-judged : goal.returns-clause-judged
returns-clause-judged g c k other below =
    let plan = plan_in c.args.survey.now in
    let at = (c.for_each_chunk_mut.ensures.by_index k other (omega (arith, below, c.requires.count))).1 in
    judged_at plan c.args.survey.now.stripes.now c.args.window.now at.start at.offset k _ _ _ _ at.start_plus_offset at.old_element at.new_element (at.call at.offset other at.offset_in_chunk)
