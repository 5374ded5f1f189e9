-- What the window and the room of one stripe show, where all of them show the facts of the window's stripes.
use Rattle.std.proofs.Common.{◌≡◌, ℕ, ◌<◌, List, length, get_or, sym, ap, ◌∙◌, subst}
use Rattle.std.proofs.Math.ListN.{get_or-map}
use Rattle.std.proofs.lemmas.List.{length-map}
use Rattle.stripe_reader.specs.WindowValue.{WindowValue}
use Rattle.stripe_examiner.specs.declared.room.StripeRoom.{StripeRoom}
use Rattle.stripe_examiner.specs.Facts.{StripeFacts}
use Rattle.stripe_examiner.specs.Looking.{facts_at, no_facts, numbers_of}
use Rattle.repair_scope.specs.Plan.{FixPlan}
use Rattle.stripe_examiner.specs.Shown.{ShowsStripe}
use Rattle.snap_fix.specs.FixRun.{AreAscending}
use Rattle.snap_fix.specs.WindowShown.{ShowsAll, ShowsFactsOf}

module _ (plan : FixPlan) (all : List StripeFacts) (numbers : List ℕ) (window : WindowValue) (rooms : List StripeRoom) (shows : ShowsAll plan all numbers window rooms) where
  pub many_shown : length all ≡ length numbers
  many_shown = sym (length-map all (λ (it : StripeFacts). it.stripe)) ∙ ap (λ (ns : List ℕ). length ns) shows.numbers_are

  pub ascending_shown : AreAscending numbers → AreAscending (numbers_of all)
  ascending_shown ascending = subst AreAscending (sym shows.numbers_are) ascending

  pub shows_at : (i : ℕ) → i < length all → (own : StripeRoom) → own ≡ get_or rooms i own → ShowsFactsOf plan (facts_at all i) (get_or numbers i 0) i window own
  shows_at i within own is = record {
    stripe_is = sym (get_or-map (λ (it : StripeFacts). it.stripe) all i no_facts) ∙ ap (λ (ns : List ℕ). get_or ns i 0) shows.numbers_are;
    shows = subst (ShowsStripe plan (facts_at all i) i window) (sym is) (shows.each i own within);
  }
