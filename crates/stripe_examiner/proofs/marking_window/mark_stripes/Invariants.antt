use Rattle.std.proofs.Common.{◌≡◌, ℕ, ◌<◌, ◌≤◌, All, take, get_or}
use Rattle.stripe_reader.specs.WindowValue.{slot_at}
use Rattle.stripe_examiner.specs.declared.room.StripeRoom.{StripeRoom}
use Rattle.stripe_examiner.specs.MarkedWindow.{AsksForMarked, IsAsLarge, MarksStripe, number_at}
use Rattle.stripe_examiner.specs.Surveyed.{plan_in}
use Rattle.stripe_examiner.specs.Room.{IsStripeRoomFor}
use Rattle.stripe_examiner.proofs.marking_window.mark_stripes.Given as goal

-- the stripes so far are marked, and those behind them are as they were
abbrev pub invariant-loop-i : goal.invariant-loop-i
invariant-loop-i g l = record {
  rooms : All (IsStripeRoomFor l.survey.plan.table.now) l.rooms;
  levels : (k : ℕ) (other : StripeRoom) → (get_or l.rooms k other).levels ≡ (get_or l.fn.rooms k other).levels;
  large : IsAsLarge l.fn.window l.window;
  later : (k d : ℕ) → l.i ≤ k → slot_at l.window k d ≡ slot_at l.fn.window k d;
  marked : (k : ℕ) (other : StripeRoom) → k < l.i
      → MarksStripe (plan_in l.survey) (number_at l.survey.stripes.now k) k l.fn.window l.window (get_or l.rooms k other);
  asks : AsksForMarked (plan_in l.survey) (take l.i l.survey.stripes.now) l.fn.window l.window l.rooms (g.P.Spare.holding l.fn.spare) (g.P.Spare.holding l.spare);
}
