-- What stripes are examined by, and what has to hold before their cells are read and marked.
use Rattle.std.specs.Prelude.{◌≡◌, ℕ, ◌<◌, List, length, All}
use Rattle.stripe_reader.specs.Held.{HoldsCells}
use Rattle.stripe_reader.specs.WindowValue.{WindowValue, Fits}
use Rattle.stripe_examiner.specs.declared.survey.Survey.{Survey}
use Rattle.repair_scope.specs.Plan.{FixPlan, EntriesFit, seen}

-- the plan that stripes are examined by
abbrev pub plan_in : Survey → FixPlan
plan_in survey = seen survey.plan

-- stripes of these numbers were read into a window, and can be marked there
pub record CanMark (plan : FixPlan) (numbers : List ℕ) (window : WindowValue) : Type 0 where
  pub entries : EntriesFit plan.table plan.entries
  pub within : All (λ stripe. stripe < length plan.table.infos) numbers
  pub fits : Fits plan.table window
  pub number : window.count ≡ length numbers
  pub cells : HoldsCells plan.table numbers window
