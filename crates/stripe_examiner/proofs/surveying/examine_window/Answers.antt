use Rattle.std.proofs.Common.{◌≡◌, List, ℕ, length, sym, ◌∙◌, ap, subst}
use Rattle.std.specs.List.{All}
use Rattle.std.specs.Vec.{with_items}
use Rattle.std.proofs.lemmas.List.{with_items_is}
use Rattle.stripe_examiner.specs.declared.room.StripeRoom.{StripeRoom}
use Rattle.stripe_examiner.specs.Room.{IsStripeRoomFor}
use Rattle.stripe_examiner.specs.Surveyed.{plan_in}
use Rattle.stripe_examiner.proofs.WindowShown.{room_after}
use Rattle.stripe_examiner.proofs.surveying.examine_window.Goals as goal

pub returns : goal.returns
returns g c =
    let table = c.args.survey.now.plan.table.now in
    let plan = plan_in c.args.survey.now in
    let room = c.args.room.now in
    let ex = c.examine_rooms.ensures.examined in
    let rooms = c.examine_rooms.new.all in
    let block = c.examine_rooms.new.block in
    let rooms_are : (with_items room.stripes rooms).items ≡ rooms =
    with_items_is room.stripes rooms (c.examine_rooms.ensures.count ∙ ap (λ (xs : List StripeRoom). length xs) c.deref_mut-2.ensures.value ∙ sym room.stripes.ok.0) in
    let block_is : (with_items room.block block).items ≡ block =
    with_items_is room.block block (c.examine_rooms.ensures.block ∙ ap (λ (xs : List ℕ). length xs) c.deref_mut.ensures.value ∙ sym room.block.ok.0) in
    record {
      stripes = ex.stripes;
      numbers_are = ex.numbers_are;
      window = ex.window;
      read = ex.read;
      slots = ex.slots;
      are = ex.are;
      each = λ k other below.
          rw (rooms_are) (ex.each k other below);
      levels = ex.levels;
      asked = ex.asked;
      room = room_after table room _ c.requires.can.room_is
          (ap (λ (xs : List StripeRoom). length xs) rooms_are ∙ c.examine_rooms.ensures.count ∙ ap (λ (xs : List StripeRoom). length xs) c.deref_mut-2.ensures.value)
          (subst (All (IsStripeRoomFor table)) (sym rooms_are) ex.rooms_are) ex.fits ex.as_large
          (ap (λ (xs : List ℕ). length xs) block_is ∙ c.examine_rooms.ensures.block ∙ ap (λ (xs : List ℕ). length xs) c.deref_mut.ensures.value);
      as_large = ex.as_large;
      count = ex.count;
      cells = ex.cells;
    }
