use Rattle.std.proofs.Common.{◌≡◌, List, Option, length, refl, ap, ◌∙◌, sym, subst}
use Rattle.std.specs.Vec.{with_items}
use Rattle.std.proofs.lemmas.List.{with_items_is}
use Rattle.snap_report.specs.declared.events.Event.{Event}
use Rattle.stripe_reader.specs.WindowValue.{slot_at}
use Rattle.stripe_examiner.specs.declared.marking.SlotMark.{SlotMark}
use Rattle.stripe_examiner.specs.AskedCell.{AsksMarked}
use Rattle.stripe_examiner.specs.MarkedWindow.{HasMarks}
use Rattle.stripe_examiner.specs.Surveyed.{plan_in}
use Rattle.stripe_examiner.specs.Shown.{IsFound, found_at}
use Rattle.stripe_examiner.proofs.CellFactsLemmas.{has_marks}
use Rattle.stripe_examiner.proofs.marking_window.mark_stripe.Goals as goal

pub returns-clause-marks : goal.returns-clause-marks
returns-clause-marks g c =
    let plan = plan_in c.args.survey.now in
    let own = c.args.own.now in
    let window = c.args.window.now in
    let marks = c.mark_cells.new.marks in
    let found = c.mark_cells.new.found in
    let cells = c.mark_cells.ensures.marked in
    let marks_are : (with_items own.marks marks).items ≡ marks = with_items_is own.marks marks (cells.as_many ∙ sym c.requires.room.marks ∙ sym own.marks.ok.0) in
    let found_are : (with_items own.found found).items ≡ found = with_items_is own.found found (c.mark_cells.ensures.count ∙ ap (λ (xs : List (Option Event)). length xs) c.deref_mut.ensures.value ∙ sym own.found.ok.0) in
    record {
      room = record {
        found = ap (λ (xs : List (Option Event)). length xs) found_are ∙ c.mark_cells.ensures.count ∙ ap (λ (xs : List (Option Event)). length xs) c.deref_mut.ensures.value ∙ c.requires.room.found;
        marks = ap (λ (xs : List SlotMark). length xs) marks_are ∙ cells.as_many;
        levels = c.requires.room.levels;
        remainders = c.requires.room.remainders;
        blocks = c.requires.room.blocks;
      };
      levels = refl;
      marked = record {
        cells = subst (λ (all : List SlotMark). HasMarks plan c.args.stripe c.args.i window all c.mark_cells.new.window) (sym marks_are)
            (has_marks plan c.args.stripe c.args.i window c.mark_cells.new.window marks cells);
        found = λ d below.
            subst (λ (all : List (Option Event)). IsFound plan c.args.stripe (slot_at window c.args.i d) d (found_at all d)) (sym found_are) (c.mark_cells.ensures.found d below);
      };
      changes = cells.changes;
    }

pub returns-clause-asks : goal.returns-clause-asks
returns-clause-asks g c =
    let plan = plan_in c.args.survey.now in
    let own = c.args.own.now in
    let marks = c.mark_cells.new.marks in
    let marks_are : (with_items own.marks marks).items ≡ marks = with_items_is own.marks marks (c.mark_cells.ensures.marked.as_many ∙ sym c.requires.room.marks ∙ sym own.marks.ok.0) in
    subst (λ (all : List SlotMark). AsksMarked plan c.args.stripe c.args.i c.args.window.now all (g.P.Spare.holding c.args.spare.now) (g.P.Spare.holding c.mark_cells.new.spare))
    (sym marks_are) c.mark_cells.ensures.asks
