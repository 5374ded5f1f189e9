-- A window whose stripes are looked at one after another.
use Rattle.std.proofs.Common.{◌≡◌, ◌⊎◌, inl, inr, ℕ, ◌+◌, ◌<◌, ◌≤◌, List, [], ◌∷◌, ◌++◌, length, map, take, get_or, Bool, true, false, refl, sym, ap, ap₂, ◌∙◌, subst, arith}
use Rattle.std.proofs.Math.ListN.{get_or-map}
use Rattle.std.proofs.lemmas.Bool.{cases_lt}
use Rattle.std.proofs.lemmas.List.Elements.{All-nil, All-cons}
use Rattle.stripe_examiner.specs.Known.{AreFacts, IsTried}
use Rattle.std.proofs.lemmas.List.{ext_get_or, map-append, length-map, length-append, get_or_append_left, get_or_push, get_or-take, take_more, append-nil, length-take-le}
use Rattle.disk_model.specs.Sink.{SinkView}
use Rattle.disk_model.specs.Vault.{VaultView, GoesOn}
use Rattle.parity_writer.specs.LevelReading.{ReadsLevels, calls_of}
use Rattle.parity_writer.specs.LevelsValue.{LevelValue, LevelsValue, no_level}
use Rattle.snap_report.specs.Report.{ReportView}
use Rattle.snap_report.specs.Told.{Told}
use Rattle.snap_report.specs.declared.events.Event.{Event}
use Rattle.stripe_reader.specs.SlotValue.{SlotValue}
use Rattle.stripe_reader.specs.WindowValue.{WindowValue, slot_at, no_slot}
use Rattle.stripe_examiner.specs.declared.counts.Counts.{Counts}
use Rattle.stripe_examiner.specs.Asking.{AsksSpare}
use Rattle.stripe_examiner.specs.Counts.{AreCounts}
use Rattle.stripe_examiner.specs.Examining.{ReadsTried, ReadsNothing}
use Rattle.stripe_examiner.specs.Facts.{StripeFacts}
use Rattle.stripe_examiner.specs.Findings.{stripe_events}
use Rattle.stripe_examiner.specs.Looking.{AreLevelsOf, LevelsAreRead, Scene, LooksAt, LooksInto, facts_at, no_facts}
use Rattle.stripe_examiner.specs.Marks.{slots_at, levels_read}
use Rattle.repair_scope.specs.Plan.{FixPlan, is_searched}
use Rattle.stripe_examiner.proofs.LookingLemmas.{looks_none, looks_then}

-- ---- the levels of one stripe

levels_one_tried : (plan : FixPlan) (facts : StripeFacts) (levels : LevelsValue) (old new : VaultView) → levels.block_size ≡ plan.table.shape.block_size → length facts.levels ≡ levels.count
    → facts.levels ≡ take levels.count levels.levels → ReadsLevels levels.block_size facts.stripe levels.count levels.levels old new → LevelsAreRead plan (facts ∷ []) old new
levels_one_tried plan facts levels old new size many are_levels reads =
    let one : AreLevelsOf levels.block_size facts.stripe facts.levels old reads.readings = record {
      as_many = reads.as_many ∙ sym many;
      are_kept = λ r below.
          let near : r < levels.count = omega (arith, below, many) in
          ap (λ (xs : List LevelValue). get_or xs r no_level) are_levels ∙ get_or-take levels.count levels.levels r no_level near ∙ reads.are_kept r near;
      are_of = λ r below. reads.are_of r (omega (arith, below, many));
    } in
    record {
      readings = reads.readings ∷ [];
      are = (subst (λ (n : ℕ). AreLevelsOf n facts.stripe facts.levels old reads.readings) size one, tt);
      unread = omega (arith, reads.unread);
      goes_on = subst (λ (n : ℕ). GoesOn old new (calls_of n facts.stripe reads.readings ++ [])) size
          (subst (GoesOn old new) (sym (append-nil (calls_of levels.block_size facts.stripe reads.readings))) reads.goes_on);
      changes = reads.changes;
      drafts = reads.drafts;
    }

levels_one_untried : (plan : FixPlan) (facts : StripeFacts) (old new : VaultView) → facts.levels ≡ [] → ReadsNothing old new → LevelsAreRead plan (facts ∷ []) old new
levels_one_untried plan facts old new none reads = record {
  readings = [] ∷ [];
  are = (
    record {
      as_many = sym (ap (λ (xs : List LevelValue). length xs) none);
      are_kept = λ r below. absurd (omega (arith, below, ap (λ (xs : List LevelValue). length xs) none));
      are_of = λ r below. absurd (omega (arith, below, ap (λ (xs : List LevelValue). length xs) none));
    },
    tt,
  );
  unread = omega (arith, reads.goes_on.later);
  goes_on = reads.goes_on;
  changes = reads.changes;
  drafts = reads.drafts;
}

pub levels_one : (plan : FixPlan) (facts : StripeFacts) (searched : Bool) (levels : LevelsValue) (old new : VaultView) → levels.block_size ≡ plan.table.shape.block_size → (searched ≡ true → length facts.levels ≡ levels.count)
    → facts.levels ≡ levels_read searched levels → ReadsTried searched facts.stripe levels old new → LevelsAreRead plan (facts ∷ []) old new
levels_one plan facts true levels old new size many are reads = levels_one_tried plan facts levels old new size (many refl) are reads
levels_one plan facts false levels old new size many are reads = levels_one_untried plan facts old new are reads

-- where a recovery is tried, each level has a place
tried_by : (plan : FixPlan) (facts : StripeFacts) (searched : Bool) → searched ≡ true → IsTried plan facts searched → length facts.levels ≡ plan.table.shape.levels
tried_by plan facts true sure tried = tried.0
tried_by plan facts false sure tried = absurd (let clash : false ≡ true = sure in cc)

pub length_tried : (plan : FixPlan) (facts : StripeFacts) → is_searched plan facts.stripe ≡ true → AreFacts plan facts → length facts.levels ≡ plan.table.shape.levels
length_tried plan facts sure are = tried_by plan facts (is_searched plan facts.stripe) sure are.tried

-- ---- the slots of one more stripe

-- what a window keeps of a stripe is kept by another, where each of its slots is
pub slots_same : (one other : WindowValue) (k : ℕ) → length one.lanes ≡ length other.lanes → ((d : ℕ) → slot_at one k d ≡ slot_at other k d) → slots_at one k ≡ slots_at other k
slots_same one other k lanes same =
    let slot = λ (lane : List SlotValue). get_or lane k no_slot in
    ext_get_or no_slot (map slot one.lanes) (map slot other.lanes)
    (length-map one.lanes slot ∙ lanes ∙ sym (length-map other.lanes slot))
    (λ d below. get_or-map slot one.lanes d [] ∙ same d ∙ sym (get_or-map slot other.lanes d []))

module _ {W R : Type 0} (view : W → SinkView) (standing : R → ReportView) (stands : R → List Event → Type 0) (plan : FixPlan) where
  -- one stripe that was examined
  pub looks_one : (facts : StripeFacts) (counts : Counts) (old new : Scene W R) → AreFacts plan facts → LevelsAreRead plan (facts ∷ []) old.vault new.vault → AsksSpare plan (facts ∷ []) old.spare new.spare
      → Told view standing stands plan.table.columns (stripe_events plan facts) old.lines new.lines old.reports new.reports → AreCounts (stripe_events plan facts) counts
      → LooksAt view standing stands plan (facts ∷ []) counts old new
  looks_one facts counts old new are levels spare told counted =
      let only : stripe_events plan facts ++ [] ≡ stripe_events plan facts = append-nil (stripe_events plan facts) in
      record {
        are = All-cons (AreFacts plan) facts [] are (All-nil (AreFacts plan));
        levels = levels;
        spare = spare;
        told = rw (only) told;
        counts_are = rw (only) counted;
      }

  pub into_none : (numbers : List ℕ) (window : WindowValue) (counts : Counts) (s : Scene W R) → numbers ≡ [] → AreCounts [] counts → LooksInto view standing stands plan numbers window counts s s
  into_none numbers window counts s none counted = record {
    stripes = [];
    numbers_are = sym none;
    slots = λ k below. absurd (omega (arith, below));
    looks = looks_none view standing stands plan counts s counted;
  }

  -- the stripe of a number of the window was examined, after those before it
  pub into_more : (all : List ℕ) (i : ℕ) (first window after : WindowValue) (facts : StripeFacts) (one two both : Counts) (old mid new : Scene W R)
      → i < length all → facts.stripe ≡ get_or all i 0 → facts.slots ≡ slots_at window i → length window.lanes ≡ length first.lanes → ((d : ℕ) → slot_at window i d ≡ slot_at first i d)
      → ((events others : List Event) → AreCounts events one → AreCounts others two → AreCounts (events ++ others) both)
      → LooksInto view standing stands plan (take i all) first one old mid → LooksAt view standing stands plan (facts ∷ []) two mid new
      → LooksInto view standing stands plan (take (i + 1) all) first both old new
  into_more all i first window after facts one two both old mid new within number slots lanes same and so_far more = record {
    stripes = so_far.stripes ++ facts ∷ [];
    numbers_are = map-append (λ (it : StripeFacts). it.stripe) so_far.stripes (facts ∷ []) ∙ ap₂ (λ (xs : List ℕ) (x : ℕ). xs ++ x ∷ []) so_far.numbers_are number ∙ sym (take_more all i 0 within);
    slots = λ k below. at k below (cases_lt k i);
    looks = looks_then view standing stands plan so_far.stripes (facts ∷ []) one two both old mid new and so_far.looks more;
  }
    where
      many : length so_far.stripes ≡ i
      many = sym (length-map so_far.stripes (λ (it : StripeFacts). it.stripe)) ∙ ap (λ (xs : List ℕ). length xs) so_far.numbers_are ∙ length-take-le i all (omega (arith, within))

      at : (k : ℕ) → k < length (so_far.stripes ++ facts ∷ []) → (k < i) ⊎ (i ≤ k) → (facts_at (so_far.stripes ++ facts ∷ []) k).slots ≡ slots_at first k
      at k below (inl near) =
          ap (λ (it : StripeFacts). it.slots) (get_or_append_left so_far.stripes (facts ∷ []) no_facts k (omega (arith, near, many))) ∙ so_far.slots k (omega (arith, near, many))
      at k below (inr far) =
          let here : k ≡ i = omega (arith, below, far, many, length-append so_far.stripes (facts ∷ [])) in
          ap (λ (it : StripeFacts). it.slots) (get_or_push so_far.stripes facts no_facts k (many ∙ sym here)) ∙ slots ∙ slots_same window first i lanes same ∙ ap (slots_at first) (sym here)
