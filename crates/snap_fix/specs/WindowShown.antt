-- What a window and the rooms of its stripes show, once it was examined.
use Rattle.std.specs.Prelude.{◌≡◌, ℕ, ◌<◌, ◌≤◌, List, length, slice_index_or}
use Rattle.stripe_reader.specs.Held.{HoldsCells}
use Rattle.stripe_reader.specs.WindowValue.{Fits, WindowValue}
use Rattle.stripe_examiner.specs.declared.room.StripeRoom.{StripeRoom}
use Rattle.stripe_examiner.specs.Facts.{StripeFacts}
use Rattle.stripe_examiner.specs.Looking.{facts_at, numbers_of}
use Rattle.repair_scope.specs.Plan.{FixPlan}
use Rattle.stripe_examiner.specs.Shown.{ShowsStripe}

-- these are the facts of the stripe of this number
pub record ShowsFactsOf (plan : FixPlan) (facts : StripeFacts) (stripe i : ℕ) (window : WindowValue) (own : StripeRoom) : Type 0 where
  pub stripe_is : facts.stripe ≡ stripe
  pub shows : ShowsStripe plan facts i window own

-- these are the facts of all stripes of the window, which keeps their cells
pub record ShowsAll (plan : FixPlan) (all : List StripeFacts) (numbers : List ℕ) (window : WindowValue)
    (rooms : List StripeRoom) : Type 0 where
  pub numbers_are : numbers_of all ≡ numbers
  pub fits : Fits plan.table window
  pub count : window.count ≡ length numbers
  pub cells : HoldsCells plan.table numbers window
  pub enough : length numbers ≤ length rooms
  pub each : (k : ℕ) (other : StripeRoom) → k < length all
      → ShowsStripe plan (facts_at all k) k window (slice_index_or rooms k other)
