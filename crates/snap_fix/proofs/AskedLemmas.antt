-- How the spare was asked for some stripes, and then for others.
use Rattle.std.proofs.Common.{◌≡◌, ℕ, ◌+◌, List, [], ◌++◌, All, is_some, true, refl, ap, ◌∙◌, subst, arith}
use Rattle.std.specs.List.{sum_by}
use Rattle.std.proofs.lemmas.List.Elements.{All-nil, All-append}
use Rattle.std.proofs.lemmas.List.Sums.{sum_by-append}
use Rattle.stripe_examiner.specs.Asking.{AsksSpare, is_held, withheld_in}
use Rattle.stripe_examiner.specs.Facts.{StripeFacts, gift_of}
use Rattle.repair_scope.specs.Plan.{FixPlan}
use Rattle.stripe_examiner.specs.Spare.{SpareView}

-- what it gave is what it holds
abbrev pub Gave : FixPlan → SpareView → StripeFacts → Type 0
Gave plan spare facts = (d : ℕ) → is_some (gift_of facts d) ≡ true → is_held spare plan facts d ≡ true

pub asks_none : (plan : FixPlan) (s : SpareView) → AsksSpare plan [] s s
asks_none plan s = record { later = omega arith; same = refl; gave = λ told. All-nil (Gave plan s); withheld = λ told. omega arith }

pub asks_then : (plan : FixPlan) (xs ys : List StripeFacts) (old mid new : SpareView) → AsksSpare plan xs old mid → AsksSpare plan ys mid new → AsksSpare plan (xs ++ ys) old new
asks_then plan xs ys old mid new one two =
    let tells : mid.tells ≡ old.tells = ap (λ (s : SpareView). s.tells) one.same in
    let counts = ap (λ (s : SpareView). sum_by (withheld_in s plan) ys) one.same in
    let counted : sum_by (withheld_in old plan) (xs ++ ys) ≡ sum_by (withheld_in old plan) xs + sum_by (withheld_in old plan) ys = sum_by-append (withheld_in old plan) xs ys in
    record {
      later = omega (arith, one.later, two.later);
      same = two.same ∙ ap (λ (s : SpareView). let t : SpareView = record s { faults = new.faults } in t) one.same;
      gave = λ told. All-append (Gave plan old) xs ys (one.gave told) (subst (λ (s : SpareView). All (Gave plan s) ys) one.same (two.gave (tells ∙ told)));
      withheld = λ told.
          let first = one.withheld told in
          let more = two.withheld (tells ∙ told) in
          omega (arith, counted, counts, first, more);
    }
