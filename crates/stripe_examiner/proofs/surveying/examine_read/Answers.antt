use Rattle.std.proofs.Common.{◌≡◌, ◌<◌, ◌≤◌, ℕ, length, get_or, sym, ap, ◌∙◌, subst, arith}
use Rattle.stripe_examiner.specs.declared.room.StripeRoom.{StripeRoom}
use Rattle.stripe_examiner.specs.Facts.{StripeFacts}
use Rattle.stripe_examiner.specs.Judged.{CanJudge}
use Rattle.stripe_examiner.specs.Looking.{facts_at}
use Rattle.stripe_examiner.specs.MarkedWindow.{number_at}
use Rattle.stripe_examiner.specs.Marks.{levels_read}
use Rattle.repair_scope.specs.Plan.{is_searched}
use Rattle.stripe_examiner.specs.Surveyed.{plan_in}
use Rattle.stripe_examiner.specs.Shown.{ShowsStripe}
use Rattle.stripe_examiner.proofs.JudgedLemmas.{can_kept}
use Rattle.stripe_examiner.proofs.MarkSteps.{holds_as_large}
use Rattle.stripe_examiner.proofs.WindowShown.{are_shown, asked_shown, can_judge, fact_from, facts_from, fits_as_large, long_from, numbers_from, slots_shown, stripe_shown}
use Rattle.stripe_examiner.proofs.surveying.examine_read.Goals as goal

pub judge_stripes-requires-clause-can : goal.judge_stripes-requires-clause-can
judge_stripes-requires-clause-can g c κs outlive k other below =
    let table = c.args.survey.now.plan.table.now in
    let plan = plan_in c.args.survey.now in
    let numbers = c.args.survey.now.stripes.now in
    let read = c.args.window.now in
    let marked = c.mark_stripes.new.window in
    let marks = c.mark_stripes.ensures in
    can_judge plan (number_at numbers k) k read marked (get_or c.args.rooms.now k other) (get_or c.mark_stripes.new.rooms k other)
    c.requires.can.entries (fits_as_large table read marked marks.marks.large c.requires.can.fits)
    (c.requires.can.within k 0 below) (omega (arith, below, marks.marks.large.count, c.requires.can.number))
    (λ d there. holds_as_large table numbers read marked marks.marks.large c.requires.can.cells d there k below)
    (marks.marks.rooms_are.each k other (omega (arith, below, marks.marks.rooms_are.as_many)))
    (marks.marks.marked k other below) (marks.marks.levels k other below) (c.requires.counts k other below)

pub put_stripes-requires-clause-can : goal.put_stripes-requires-clause-can
put_stripes-requires-clause-can g c k other below =
    let table = c.args.survey.now.plan.table.now in
    let plan = plan_in c.args.survey.now in
    let numbers = c.args.survey.now.stripes.now in
    let read = c.args.window.now in
    let marked = c.mark_stripes.new.window in
    let marks = c.mark_stripes.ensures in
    let judged = c.judge_stripes.ensures in
    can_kept plan (number_at numbers k) k marked (get_or c.mark_stripes.new.rooms k other) (get_or c.judge_stripes.new.rooms k other)
    (can_judge plan (number_at numbers k) k read marked (get_or c.args.rooms.now k other) (get_or c.mark_stripes.new.rooms k other)
    c.requires.can.entries (fits_as_large table read marked marks.marks.large c.requires.can.fits)
    (c.requires.can.within k 0 below) (omega (arith, below, marks.marks.large.count, c.requires.can.number))
    (λ d there. holds_as_large table numbers read marked marks.marks.large c.requires.can.cells d there k below)
    (marks.marks.rooms_are.each k other (omega (arith, below, marks.marks.rooms_are.as_many)))
    (marks.marks.marked k other below) (marks.marks.levels k other below) (c.requires.counts k other below))
    (judged.judged k other below).kept (judged.judged k other below).room

pub returns-clause-examined : goal.returns-clause-examined
returns-clause-examined g c =
    let table = c.args.survey.now.plan.table.now in
    let plan = plan_in c.args.survey.now in
    let numbers = c.args.survey.now.stripes.now in
    let read = c.args.window.now in
    let marked = c.mark_stripes.new.window in
    let final = c.put_stripes.new.window in
    let first = c.args.rooms.now in
    let noted = c.mark_stripes.new.rooms in
    let rooms = c.judge_stripes.new.rooms in
    let marks = c.mark_stripes.ensures in
    let judged = c.judge_stripes.ensures in
    let puts = c.put_stripes.ensures in
    let many : length rooms ≡ length numbers = omega (arith, judged.count, marks.marks.rooms_are.as_many) in
    let stripes = facts_from plan read final 0 numbers rooms in
    let long = long_from plan read final numbers rooms many in
    let fact = fact_from plan read final numbers rooms many in
    let most : table.shape.levels ≤ 6 = c.shape-shape.ensures.valid.shape.levels.most in
    let lanes : length read.lanes ≡ length table.columns = c.requires.can.fits.lanes in
    let can : (k : ℕ) (other : StripeRoom) → k < length numbers → CanJudge plan (number_at numbers k) k marked (get_or rooms k other) = λ k other below.
    can_kept plan (number_at numbers k) k marked (get_or noted k other) (get_or rooms k other)
    (can_judge plan (number_at numbers k) k read marked (get_or first k other) (get_or noted k other)
    c.requires.can.entries (fits_as_large table read marked marks.marks.large c.requires.can.fits)
    (c.requires.can.within k 0 below) (omega (arith, below, marks.marks.large.count, c.requires.can.number))
    (λ d there. holds_as_large table numbers read marked marks.marks.large c.requires.can.cells d there k below)
    (marks.marks.rooms_are.each k other (omega (arith, below, marks.marks.rooms_are.as_many)))
    (marks.marks.marked k other below) (marks.marks.levels k other below) (c.requires.counts k other below))
    (judged.judged k other below).kept (judged.judged k other below).room in
    let each : (k : ℕ) (other : StripeRoom) → k < length stripes → ShowsStripe plan (facts_at stripes k) k final (get_or rooms k other) = λ k other below.
    let within : k < length numbers = omega (arith, below, long) in
    subst (λ (facts : StripeFacts). ShowsStripe plan facts k final (get_or rooms k other)) (sym (fact k other within))
    (stripe_shown plan (number_at numbers k) k read marked final (get_or noted k other) (get_or rooms k other) (can k other within) most lanes
    (judged.judged k other within).kept.found (judged.judged k other within).kept.marks (marks.marks.marked k other within) (judged.judged k other within).judged (puts.put k other within)) in
    record {
      stripes = stripes;
      numbers_are = numbers_from plan read final 0 numbers rooms many;
      slots = slots_shown plan numbers read final rooms many;
      are = are_shown plan stripes final rooms (many ∙ sym long) each;
      each = each;
      levels = λ k other below.
          ap (λ (it : StripeFacts). it.levels) (fact k other below)
          ∙ ap (levels_read (is_searched plan (number_at numbers k))) ((judged.judged k other below).kept.levels ∙ marks.marks.levels k other below);
      asked = asked_shown plan numbers read marked final noted rooms many _ _ marks.asks
          (λ k other below. (judged.judged k other below).kept.marks) puts.put;
      rooms_are = record { as_many = many; each = λ k other within. (judged.judged k other (omega (arith, within, many))).room };
      large = record {
        room = puts.window.room ∙ marks.marks.large.room;
        block_size = puts.window.block_size ∙ marks.marks.large.block_size;
        count = puts.window.count ∙ marks.marks.large.count;
        lanes = puts.window.lanes ∙ marks.marks.large.lanes;
        cells = puts.window.cells ∙ marks.marks.large.cells;
      };
    }
