-- The plan of a check and that of a fix of the same selection: they look at the same stripes, know the same of them and find the same.
use Rattle.std.proofs.Common.{◌≡◌, ℕ, List, Bool, sym, ap, ◌∙◌, subst}
use Rattle.folder_listing.specs.Kept.{ListedFile}
use Rattle.file_table.specs.Table.{TableValue}
use Rattle.array_setup.specs.declared.ways.Selection.{Selection}
use Rattle.repair_scope.specs.declared.entry.Entry.{Entry}
use Rattle.repair_scope.specs.declared.scope.Mode.{Mode}
use Rattle.repair_scope.specs.declared.scope.Mode.TheVariants.{Check, Fix}
use Rattle.repair_scope.specs.declared.scope.Scope.{Scope}
use Rattle.snap_fix.specs.Course.{IsPlan, check_events}
use Rattle.stripe_examiner.specs.Facts.{StripeFacts}
use Rattle.snap_fix.specs.Found.{DifferInMode}
use Rattle.stripe_examiner.specs.Known.{AreFacts}
use Rattle.repair_scope.specs.Plan.{FixPlan, stripes_of}

-- a plan with another mode
abbrev plan_in : FixPlan → Mode → FixPlan
plan_in plan mode = record { scope = record { mode = mode; only_bad = plan.scope.only_bad; levels = plan.scope.levels }; table = plan.table; entries = plan.entries }

module _ (check fix : FixPlan) (differ : DifferInMode check fix) where
  scopes : (record { mode = Fix; only_bad = check.scope.only_bad; levels = check.scope.levels }) ≡ fix.scope
  scopes =
      ap (λ (mode : Mode). (let scope : Scope = record { mode = mode; only_bad = check.scope.only_bad; levels = check.scope.levels } in scope)) (sym differ.fixes)
      ∙ ap (λ (bad : Bool). (let scope : Scope = record { mode = fix.scope.mode; only_bad = bad; levels = check.scope.levels } in scope)) differ.only_bad
      ∙ ap (λ (levels : List Bool). (let scope : Scope = record { mode = fix.scope.mode; only_bad = fix.scope.only_bad; levels = levels } in scope)) differ.levels

  as_check : plan_in check Check ≡ check
  as_check = ap (plan_in check) (sym differ.checks)

  as_fix : plan_in check Fix ≡ fix
  as_fix =
      ap (λ (scope : Scope). (let plan : FixPlan = record { scope = scope; table = check.table; entries = check.entries } in plan)) scopes
      ∙ ap (λ (table : TableValue). (let plan : FixPlan = record { scope = fix.scope; table = table; entries = check.entries } in plan)) differ.table
      ∙ ap (λ (entries : List (List Entry)). (let plan : FixPlan = record { scope = fix.scope; table = fix.table; entries = entries } in plan)) differ.entries

  pub same_stripes : stripes_of check ≡ stripes_of fix
  same_stripes = sym (ap stripes_of as_check) ∙ ap stripes_of as_fix

  pub same_events : (stripes : List StripeFacts) → check_events check stripes ≡ check_events fix stripes
  same_events stripes = sym (ap (λ (plan : FixPlan). check_events plan stripes) as_check) ∙ ap (λ (plan : FixPlan). check_events plan stripes) as_fix

  -- the facts of a stripe depend on the mode only by whether parity is looked at
  there : (facts : StripeFacts) → AreFacts (plan_in check Check) facts → AreFacts (plan_in check Fix) facts
  there facts are = record {
    within = are.within;
    slots = are.slots;
    gifts = are.gifts;
    given = λ d below. record { is = (are.given d below).is; asked = (are.given d below).asked };
    tried = are.tried;
  }

  back : (facts : StripeFacts) → AreFacts (plan_in check Fix) facts → AreFacts (plan_in check Check) facts
  back facts are = record {
    within = are.within;
    slots = are.slots;
    gifts = are.gifts;
    given = λ d below. record { is = (are.given d below).is; asked = (are.given d below).asked };
    tried = are.tried;
  }

  pub facts_of_fix : (facts : StripeFacts) → AreFacts check facts → AreFacts fix facts
  facts_of_fix facts are =
      subst (λ (plan : FixPlan). AreFacts plan facts) as_fix (there facts (subst (λ (plan : FixPlan). AreFacts plan facts) (sym as_check) are))

  pub facts_of_check : (facts : StripeFacts) → AreFacts fix facts → AreFacts check facts
  facts_of_check facts are =
      subst (λ (plan : FixPlan). AreFacts plan facts) as_check (back facts (subst (λ (plan : FixPlan). AreFacts plan facts) (sym as_fix) are))

-- the plans of a check and of a fix, by what the same folders list
pub plans_differ : (selection : Selection) (names : List (List ℕ)) (table : TableValue) (lists : List (List ListedFile)) (check fix : FixPlan)
    → IsPlan Check selection names table lists check → IsPlan Fix selection names table lists fix → DifferInMode check fix
plans_differ selection names table lists check fix one other = record {
  checks = one.scope.mode_is;
  fixes = other.scope.mode_is;
  only_bad = one.scope.only_bad ∙ sym other.scope.only_bad;
  levels = one.scope.levels ∙ sym other.scope.levels;
  table = one.table_is ∙ sym other.table_is;
  entries = one.entries ∙ sym other.entries;
}
