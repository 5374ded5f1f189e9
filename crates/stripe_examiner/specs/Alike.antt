-- Stripes of which the same was read, by plans that see the same.
use Rattle.std.specs.Prelude.{◌≡◌}
use Rattle.stripe_examiner.specs.Facts.{StripeFacts}
use Rattle.repair_scope.specs.Plan.{FixPlan, is_audit}

-- two plans are of one table, and parity is looked at by both or by neither: so are a check and a fix of one array
pub record SeeAlike (plan other : FixPlan) : Type 0 where
  pub table : plan.table ≡ other.table
  pub audits : is_audit plan.scope.mode ≡ is_audit other.scope.mode

-- the same was read of the cells and levels of a stripe, and the spare gave the same; nothing is said of its row
pub record AreReadAlike (one other : StripeFacts) : Type 0 where
  pub stripe : one.stripe ≡ other.stripe
  pub slots : one.slots ≡ other.slots
  pub gifts : one.gifts ≡ other.gifts
  pub levels : one.levels ≡ other.levels
