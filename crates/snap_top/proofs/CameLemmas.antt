-- Stripes of which the same blocks came, and the first stripes of a fix by the plan of one that broke off.
use Rattle.std.proofs.Common.{◌≡◌, ℕ, ◌<◌, List, ◌++◌, length, take, get_or, None, refl, sym, ap, ap₂, ◌∙◌, subst, arith}
use Rattle.std.specs.Prelude.{All}
use Rattle.std.proofs.lemmas.List.{ext_get_or, get_or-map, get_or-take, length-map}
use Rattle.snap_fix.specs.Fixing.{facts_of}
use Rattle.snap_fix.specs.Mended.{Mended}
use Rattle.stripe_examiner.specs.Facts.{StripeFacts}
use Rattle.stripe_examiner.specs.Known.{AreFacts}
use Rattle.stripe_examiner.specs.Looking.{facts_at, no_facts, numbers_of}
use Rattle.repair_scope.specs.Plan.{FixPlan, stripes_of}
use Rattle.snap_top.specs.Alike.{BlocksAlike}
use Rattle.snap_top.specs.BrokeOff.{FixBrokeOff}
use Rattle.snap_top.specs.Restoring.{EndsFixed}
use Rattle.snap_top.specs.Entry.{Entry, Exit}
use Rattle.snap_top.proofs.FirstsLemmas.{all_take, facts_take, map_take, take_front}
use Rattle.snap_top.proofs.MendedAlikeLemmas.{CameToSame}
use Rattle.snap_top.proofs.SeenLemmas.{NoGifts}

-- ---- the same stripes, of which the same blocks came

module _ (plan : FixPlan) (ones others : List StripeFacts) (are : All (AreFacts plan) ones) (are_then : All (AreFacts plan) others) (none : All NoGifts ones) (none_then : All NoGifts others)
    (numbers : numbers_of ones ≡ numbers_of others) where
  pub as_long : length ones ≡ length others
  as_long = sym (length-map ones (λ (facts : StripeFacts). facts.stripe)) ∙ ap length numbers ∙ length-map others (λ (facts : StripeFacts). facts.stripe)

  pub came_to_same : ((k : ℕ) → k < length ones → BlocksAlike (facts_at ones k) (facts_at others k)) → (k : ℕ) → k < length ones → CameToSame (facts_at ones k) (facts_at others k)
  came_to_same came k within =
      let near : k < length others = omega (arith, within, as_long) in
      let its = are k no_facts within in
      let its_then = are_then k no_facts near in
      record {
        stripe = sym (get_or-map (λ (facts : StripeFacts). facts.stripe) ones k no_facts 0 within) ∙ ap (λ (ns : List ℕ). get_or ns k 0) numbers
            ∙ get_or-map (λ (facts : StripeFacts). facts.stripe) others k no_facts 0 near;
        slots = (came k within).cells;
        gifts = ext_get_or None (facts_at ones k).gifts (facts_at others k).gifts (its.gifts ∙ sym its_then.gifts) (λ d below. none k no_facts within d ∙ sym (none_then k no_facts near d));
        levels = (came k within).levels;
      }

-- ---- the first stripes of a fix, as many as one looked at that broke off

module _ (before before_then : Entry) (exit exit_then : Exit) (status_then : ℕ) (off : FixBrokeOff before exit) (other : EndsFixed before_then exit_then status_then) (plans : off.fix.course.plan ≡ other.run.plan) where
  abbrev plan : FixPlan
  plan = off.fix.course.plan

  abbrev stripes : List Mended
  stripes = off.fix.course.stripes

  abbrev all : List Mended
  all = other.run.stripes

  abbrev firsts : List Mended
  firsts = take (length stripes) all

  long : length (facts_of stripes) ≡ length stripes
  long = length-map stripes (λ (mended : Mended). mended.facts)

  pub numbers_are : numbers_of (facts_of stripes) ++ off.fix.behind ≡ numbers_of (facts_of all)
  numbers_are = sym off.fix.numbers ∙ ap stripes_of plans ∙ sym other.fixed.numbers

  pub numbers_first : numbers_of (facts_of stripes) ≡ numbers_of (facts_of firsts)
  numbers_first =
      sym (take_front (numbers_of (facts_of stripes)) off.fix.behind)
      ∙ ap₂ (λ (n : ℕ) (ns : List ℕ). take n ns) (length-map (facts_of stripes) (λ (facts : StripeFacts). facts.stripe) ∙ long) numbers_are
      ∙ sym (map_take (λ (facts : StripeFacts). facts.stripe) (length stripes) (facts_of all))
      ∙ ap numbers_of (sym (facts_take (length stripes) all))

  pub first_all : (P : StripeFacts → Type 0) → All P (facts_of all) → All P (facts_of firsts)
  first_all P each = subst (All P) (sym (facts_take (length stripes) all)) (all_take P (length stripes) (facts_of all) each)

  pub first_are : All (AreFacts plan) (facts_of firsts)
  first_are = first_all (AreFacts plan) (subst (λ (p : FixPlan). All (AreFacts p) (facts_of all)) (sym plans) other.is_fix.over.finds.are)

  pub first_gifts : All NoGifts (facts_of firsts)
  first_gifts = first_all NoGifts other.is_fix.over.no_gifts

  pub first_at : (k : ℕ) → k < length (facts_of stripes) → facts_at (facts_of firsts) k ≡ facts_at (facts_of all) k
  first_at k within =
      ap (λ (its : List StripeFacts). facts_at its k) (facts_take (length stripes) all)
      ∙ get_or-take (length stripes) (facts_of all) k no_facts (omega (arith, within, long))
