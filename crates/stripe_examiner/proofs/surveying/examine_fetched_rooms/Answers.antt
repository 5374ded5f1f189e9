use Rattle.std.proofs.Common.{length, length-append, drop, sym, ap, ◌∙◌, subst, arith}
use Rattle.std.proofs.lemmas.List.{length-drop, length-take}
use Rattle.stripe_reader.specs.Fetched.{hashed_window}
use Rattle.stripe_reader.specs.Held.{HoldsCells}
use Rattle.stripe_reader.specs.WindowValue.{Fits, WindowValue}
use Rattle.stripe_examiner.specs.Marks.{slots_at}
use Rattle.stripe_examiner.specs.Surveyed.{plan_in}
use Rattle.stripe_reader.proofs.HashedLemmas.{fits_hashed}
use Rattle.stripe_examiner.proofs.FrontLemmas.{all_rooms, levels_as_read, shown_in_front}
use Rattle.stripe_examiner.proofs.WindowShown.{fits_as_large}
use Rattle.stripe_examiner.proofs.surveying.examine_fetched_rooms.Goals as goal

pub hash_beside-requires-clause-size : goal.hash_beside-requires-clause-size
hash_beside-requires-clause-size g c κs outlive = c.requires.can.fits.block_size

pub examine_read-requires-clause-can : goal.examine_read-requires-clause-can
examine_read-requires-clause-can g c κs outlive = record {
  entries = c.requires.can.entries;
  within = c.requires.can.within;
  fits = subst (Fits c.args.survey.now.plan.table.now) (sym c.hash_beside.ensures.window) (fits_hashed c.args.survey.now.plan.table.now c.args.survey.now.plan.table.now.shape c.args.window.now c.requires.can.fits);
  number = ap (λ (it : WindowValue). it.count) c.hash_beside.ensures.window ∙ c.requires.can.number;
  cells = subst (HoldsCells c.args.survey.now.plan.table.now c.args.survey.now.stripes.now) (sym c.hash_beside.ensures.window) c.requires.can.cells;
}

pub returns-clause-examined : goal.returns-clause-examined
returns-clause-examined g c =
    let table = c.args.survey.now.plan.table.now in
    let plan = plan_in c.args.survey.now in
    let numbers = c.args.survey.now.stripes.now in
    let hashed = c.hash_beside.ensures in
    let ex = c.examine_read.ensures.examined in
    let all = c.args.all.now in
    record {
      stripes = ex.stripes;
      numbers_are = ex.numbers_are;
      slots = λ k below. ex.slots k below ∙ ap (λ (it : WindowValue). slots_at it k) hashed.window;
      are = ex.are;
      each = shown_in_front plan numbers _ _ _ c.examine_read.new.rooms (drop (length numbers) all) _ _ ex;
      levels = levels_as_read plan numbers ex.stripes _ _ _ hashed.levels.rooms_are.as_many ex.numbers_are ex.levels hashed.levels.read;
      asked = ex.asked;
      rooms_are = all_rooms table (length numbers) c.examine_read.new.rooms all ex.rooms_are c.requires.can.as_many c.requires.can.each;
      fits = fits_as_large table (hashed_window table.shape c.args.window.now) c.examine_read.new.window
          (rw (sym hashed.window) ex.large) (fits_hashed table table.shape c.args.window.now c.requires.can.fits);
      as_large = ex.large.room ∙ ap (λ (it : WindowValue). it.room) hashed.window;
    }

pub returns-clause-count : goal.returns-clause-count
returns-clause-count g c =
    let numbers = c.args.survey.now.stripes.now in
    let rooms = c.examine_read.new.rooms in
    omega (
      arith,
      length-append rooms (drop (length numbers) c.args.all.now),
      length-drop (length numbers) c.args.all.now,
      length-take (length numbers) c.args.all.now,
      c.examine_read.ensures.examined.rooms_are.as_many,
      c.requires.can.as_many,
    )
