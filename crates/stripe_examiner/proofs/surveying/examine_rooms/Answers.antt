use Rattle.std.proofs.Common.{length, length-append, drop, ◌∙◌, arith}
use Rattle.std.proofs.lemmas.List.{length-drop, length-take}
use Rattle.stripe_examiner.specs.Surveyed.{plan_in}
use Rattle.stripe_examiner.proofs.FrontLemmas.{all_rooms, levels_as_read, shown_in_front}
use Rattle.stripe_examiner.proofs.MarkSteps.{holds_as_large}
use Rattle.stripe_examiner.proofs.WindowShown.{fits_as_large}
use Rattle.stripe_examiner.proofs.surveying.examine_rooms.Goals as goal

pub examine_read-requires-clause-can : goal.examine_read-requires-clause-can
examine_read-requires-clause-can g c κs outlive = record {
  entries = c.requires.can.entries;
  within = c.requires.can.read.within;
  fits = c.read_beside.ensures.window;
  number = c.read_beside.ensures.read.count;
  cells = c.read_beside.ensures.cells;
}

pub returns-clause-examined : goal.returns-clause-examined
returns-clause-examined g c =
    let table = c.args.survey.now.plan.table.now in
    let plan = plan_in c.args.survey.now in
    let numbers = c.args.survey.now.stripes.now in
    let reads = c.read_beside.ensures in
    let ex = c.examine_read.ensures.examined in
    let all = c.args.all.now in
    record {
      stripes = ex.stripes;
      numbers_are = ex.numbers_are;
      window = c.read_beside.new.window;
      read = reads.read;
      slots = ex.slots;
      are = ex.are;
      each = shown_in_front plan numbers _ _ _ c.examine_read.new.rooms (drop (length numbers) all) _ _ ex;
      levels = levels_as_read plan numbers ex.stripes _ _ _ reads.levels.rooms_are.as_many ex.numbers_are ex.levels reads.levels.read;
      asked = ex.asked;
      as_many = omega (arith, ex.rooms_are.as_many, length-append c.examine_read.new.rooms (drop (length numbers) all));
      rooms_are = all_rooms table (length numbers) c.examine_read.new.rooms all ex.rooms_are c.requires.can.as_many c.requires.can.each;
      fits = fits_as_large table c.read_beside.new.window c.examine_read.new.window ex.large reads.window;
      as_large = ex.large.room ∙ reads.read.room;
      count = ex.large.count ∙ reads.read.count;
      cells = holds_as_large table numbers c.read_beside.new.window c.examine_read.new.window ex.large reads.cells;
    }

pub returns-clause-count : goal.returns-clause-count
returns-clause-count g c =
    let numbers = c.args.survey.now.stripes.now in
    let rooms = c.examine_read.new.rooms in
    omega (
      arith,
      length-append rooms (drop (length numbers) c.args.all.now),
      length-drop (length numbers) c.args.all.now,
      length-take (length numbers) c.args.all.now,
      c.examine_read.ensures.examined.rooms_are.as_many,
      c.requires.can.as_many,
    )
