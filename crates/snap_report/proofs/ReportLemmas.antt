-- Some events after others, given to reports.
use Rattle.std.proofs.Common.{◌≡◌, ℕ, ◌+◌, ◌<◌, ◌≤◌, List, [], ◌++◌, Bool, true, false, length, get_or, arith, refl, sym, ◌∙◌, ap, subst, append_assoc}
use Rattle.std.proofs.lemmas.List.{append-nil}
use Rattle.disk_model.specs.Cause.{Rose}
use Rattle.snap_report.specs.declared.events.Event.{Event}
use Rattle.snap_report.specs.Report.{ReportView, Given, AllGiven}
use Rattle.snap_report.proofs.TellingLemmas.{nothing_appended, part_of_first, part_of_both}

module _ {R : Type 0} (standing : R → ReportView) (stands : R → List Event → Type 0) where
  rose_after : (a b c : ℕ) → a ≤ b → Rose b c → Rose a c
  rose_after a b c later rose = omega (arith, later, rose)

  -- by whether the report has failed after the first
  by_first : (first second : List ℕ) (front back : List Event) (old mid new : R) (failed : Bool) → (standing mid).failed ≡ failed → Given standing stands first front old mid → Given standing stands second back mid new → Given standing stands (first ++ second) (front ++ back) old new
  by_first first second front back old mid new true failed one two =
      let same : new ≡ mid = two.stays failed in
      subst (λ r. Given standing stands (first ++ second) (front ++ back) old r) (sym same) (record {
        later = one.later;
        steady = one.steady;
        stays = one.stays;
        told = λ no. absurd (let e : true ≡ false = sym failed ∙ no in cc);
        unfailed = λ no. absurd (let e : true ≡ false = sym failed ∙ no in cc);
        cause = one.cause;
        never = one.never;
        tells = one.tells;
        whole = λ no. absurd (let e : true ≡ false = sym failed ∙ no in cc);
        part = λ told. part_of_first [] first second (standing old).written (standing mid).written (one.part told);
      })
  by_first first second front back old mid new false failed one two = record {
    later = omega (arith, one.later, two.later);
    steady = two.steady ∙ one.steady;
    stays = λ was. absurd (let e : false ≡ true = sym failed ∙ ap (λ r. (standing r).failed) (one.stays was) ∙ was in cc);
    told = λ no before stood. subst (λ events. stands new events) (append_assoc before front back) (two.told no (before ++ front) (one.told failed before stood));
    unfailed = λ no. two.unfailed no ∙ one.unfailed failed;
    cause = λ _ now. rose_after _ _ _ one.later (two.cause failed now);
    never = λ is no. two.never (one.steady ∙ is) failed;
    tells = two.tells ∙ one.tells;
    whole = λ no told. two.whole no (one.tells ∙ told) ∙ ap (λ text. text ++ second) (one.whole failed told) ∙ append_assoc (standing old).written first second;
    part = λ told. part_of_both [] first second (standing old).written (standing mid).written [] (standing new).written (append-nil (standing mid).written ∙ one.whole failed told) (one.part told) (two.part (one.tells ∙ told));
  }

  pub given_then : (first second : List ℕ) (front back : List Event) (old mid new : R) → Given standing stands first front old mid → Given standing stands second back mid new → Given standing stands (first ++ second) (front ++ back) old new
  given_then first second front back old mid new one two = by_first first second front back old mid new (standing mid).failed refl one two

  -- no events
  pub given_nothing : (r : R) → Given standing stands [] [] r r
  given_nothing r = record {
    later = omega arith;
    steady = refl;
    stays = λ _. refl;
    told = λ _ before stood. subst (λ events. stands r events) (sym (append-nil before)) stood;
    unfailed = λ _. refl;
    cause = λ no yes. absurd (let e : false ≡ true = sym no ∙ yes in cc);
    never = λ _ no. no;
    tells = refl;
    whole = λ _ _. sym (append-nil (standing r).written);
    part = λ _. nothing_appended [] (standing r).written;
  }

  pub all_given_then : (first second : List ℕ) (front back : List Event) (olds mids news : List R) → AllGiven standing stands first front olds mids → AllGiven standing stands second back mids news → AllGiven standing stands (first ++ second) (front ++ back) olds news
  all_given_then first second front back olds mids news one two = record {
    places = two.places ∙ one.places;
    each = λ i none within. given_then first second front back _ _ _ (one.each i none within) (two.each i none (subst (λ n. i < n) (sym one.places) within));
  }

  pub all_given_nothing : (rs : List R) → AllGiven standing stands [] [] rs rs
  all_given_nothing rs = record { places = refl; each = λ i none _. given_nothing (get_or rs i none) }

  -- the same lines in other words
  pub all_given_same : (text other : List ℕ) (events : List Event) (olds news : List R) → AllGiven standing stands text events olds news → text ≡ other → AllGiven standing stands other events olds news
  all_given_same text other events olds news given same = subst (λ t. AllGiven standing stands t events olds news) same given
