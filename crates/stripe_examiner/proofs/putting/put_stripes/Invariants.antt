use Rattle.std.proofs.Common.{◌≡◌, ℕ, ◌<◌, ◌≤◌, get_or}
use Rattle.stripe_reader.specs.WindowValue.{slot_at}
use Rattle.stripe_examiner.specs.declared.room.StripeRoom.{StripeRoom}
use Rattle.stripe_examiner.specs.MarkedWindow.{IsAsLarge, PutsStripe, number_at}
use Rattle.stripe_examiner.specs.Surveyed.{plan_in}
use Rattle.stripe_examiner.proofs.putting.put_stripes.Given as goal

-- what was found of the stripes so far is put, and those behind them are as they were
abbrev pub invariant-loop-i : goal.invariant-loop-i
invariant-loop-i l = record {
  large : IsAsLarge l.fn.window l.window;
  later : (k d : ℕ) → l.i ≤ k → slot_at l.window k d ≡ slot_at l.fn.window k d;
  put : (k : ℕ) (other : StripeRoom) → k < l.i
      → PutsStripe (plan_in l.survey) (number_at l.survey.stripes.now k) k l.fn.window l.window (get_or l.rooms k other);
}
