-- The levels of the stripes of a window are read, one stripe after another; and what is known of stripes is said of others that agree.
use Rattle.std.proofs.Common.{◌≡◌, ◌≢◌, inl, inr, ℕ, suc, ◌+◌, ◌<◌, ◌≤◌, List, [], ◌∷◌, ◌++◌, length, take, get_or, set, Bool, true, None, refl, sym, ap, ap₂, ◌∙◌, subst, arith}
use Rattle.std.specs.Prelude.{is_some}
use Rattle.std.specs.List.{sum_by}
use Rattle.std.proofs.lemmas.Bool.{cases_lt}
use Rattle.std.proofs.lemmas.List.{get_or-set_other, get_or-set_same, get_or-take, get_or_append_left, get_or_push, length-map, length-take-le, map-append, take_more}
use Rattle.std.proofs.lemmas.List.Elements.{All-from_get_or}
use Rattle.std.proofs.lemmas.List.Sums.{sum_by-append}
use Rattle.disk_model.specs.Cause.{RoseBy}
use Rattle.disk_model.specs.Vault.{VaultView, VaultDone, GoesOn}
use Rattle.parity_writer.specs.LevelReading.{LevelReading, calls_of}
use Rattle.parity_writer.specs.LevelsValue.{LevelValue}
use Rattle.stripe_examiner.specs.declared.room.StripeRoom.{StripeRoom}
use Rattle.stripe_examiner.specs.Asking.{AsksSpare, is_held, withheld_in}
use Rattle.stripe_examiner.specs.Examining.{ReadsTried}
use Rattle.stripe_examiner.specs.Facts.{StripeFacts, gift_of}
use Rattle.stripe_examiner.specs.Looking.{AreAllLevelsOf, AreLevelsOf, LevelsAreRead, level_reads, facts_at, no_facts, numbers_of}
use Rattle.stripe_examiner.specs.MarkedWindow.{ReadsLevelsOf, number_at}
use Rattle.stripe_examiner.specs.Marks.{levels_read}
use Rattle.repair_scope.specs.Plan.{FixPlan, is_searched}
use Rattle.stripe_examiner.specs.Spare.{SpareView}
use Rattle.stripe_examiner.proofs.LookingLemmas.{levels_none, levels_then}
use Rattle.stripe_examiner.proofs.StripeLemmas.{levels_as_many}
use Rattle.stripe_examiner.proofs.WindowLemmas.{levels_one}

-- ---- lists of stripes, one more at their end

pub facts_before : (xs : List StripeFacts) (facts : StripeFacts) (k : ℕ) → k < length xs → facts_at (xs ++ facts ∷ []) k ≡ facts_at xs k
facts_before xs facts k near = get_or_append_left xs (facts ∷ []) no_facts k near

pub facts_last : (xs : List StripeFacts) (facts : StripeFacts) (k : ℕ) → k ≡ length xs → facts_at (xs ++ facts ∷ []) k ≡ facts
facts_last xs facts k here = get_or_push xs facts no_facts k (sym here)

pub as_many_of : (numbers : List ℕ) (i : ℕ) (xs : List StripeFacts) → i ≤ length numbers → numbers_of xs ≡ take i numbers → length xs ≡ i
as_many_of numbers i xs within are =
    sym (length-map xs (λ (it : StripeFacts). it.stripe)) ∙ ap (λ (ns : List ℕ). length ns) are ∙ length-take-le i numbers within

pub numbers_one : (numbers : List ℕ) (i : ℕ) (xs : List StripeFacts) (facts : StripeFacts) → i < length numbers → numbers_of xs ≡ take i numbers → facts.stripe ≡ number_at numbers i
    → numbers_of (xs ++ facts ∷ []) ≡ take (i + 1) numbers
numbers_one numbers i xs facts within are number =
    map-append (λ (it : StripeFacts). it.stripe) xs (facts ∷ [])
    ∙ ap₂ (λ (ns : List ℕ) (n : ℕ). ns ++ n ∷ []) are number
    ∙ sym (take_more numbers i 0 within)

pub number_of_first : (numbers : List ℕ) (i k : ℕ) → k < i → number_at (take i numbers) k ≡ number_at numbers k
number_of_first numbers i k less = get_or-take i numbers k 0 less

-- ---- the levels of one stripe more

pub levels_of_none : (plan : FixPlan) (rooms : List StripeRoom) (v : VaultView) → ReadsLevelsOf plan [] rooms v v
levels_of_none plan rooms v = record {
  stripes = [];
  numbers_are = refl;
  are = λ k other below. absurd (omega (arith, below));
  counts = λ k other below searched. absurd (omega (arith, below));
  read = levels_none plan v;
}

module _ (plan : FixPlan) (numbers : List ℕ) (i : ℕ) (rooms : List StripeRoom) (own : StripeRoom) (old mid new : VaultView)
    (within : i < length numbers) (many : i < length rooms) (size : own.levels.block_size ≡ plan.table.shape.block_size)
    (count : is_searched plan (number_at numbers i) ≡ true → own.levels.count ≡ plan.table.shape.levels)
    (places : is_searched plan (number_at numbers i) ≡ true → own.levels.count ≤ length own.levels.levels)
    (reads : ReadsTried (is_searched plan (number_at numbers i)) (number_at numbers i) own.levels mid new)
    (so_far : ReadsLevelsOf plan (take i numbers) rooms old mid) where
  abbrev stripe : ℕ
  stripe = number_at numbers i

  abbrev searched : Bool
  searched = is_searched plan stripe

  abbrev facts : StripeFacts
  facts = record { stripe = stripe; slots = []; gifts = []; levels = levels_read searched own.levels; row = None }

  abbrev rooms_after : List StripeRoom
  rooms_after = set rooms i own

  long : length (take i numbers) ≡ i
  long = length-take-le i numbers (omega (arith, within))

  before_many : length so_far.stripes ≡ i
  before_many = as_many_of numbers i so_far.stripes (omega (arith, within)) so_far.numbers_are

  levels_long : searched ≡ true → length facts.levels ≡ own.levels.count
  levels_long sure = ap (λ (b : Bool). length (levels_read b own.levels)) sure ∙ levels_as_many own.levels (places sure)

  one : LevelsAreRead plan (facts ∷ []) mid new
  one = levels_one plan facts searched own.levels mid new size levels_long refl reads

  after_long : length (take (i + 1) numbers) ≡ i + 1
  after_long = length-take-le (i + 1) numbers (omega (arith, within))

  pub levels_of_more : ReadsLevelsOf plan (take (i + 1) numbers) rooms_after old new
  levels_of_more = record {
    stripes = so_far.stripes ++ facts ∷ [];
    numbers_are = numbers_one numbers i so_far.stripes facts within so_far.numbers_are refl;
    are = λ k other below. elim (cases_lt k i) [
      | inl near ↦
          let apart : k ≢ i = omega (arith, near) in
          ap (λ (it : StripeFacts). it.levels) (facts_before so_far.stripes facts k (omega (arith, near, before_many)))
          ∙ so_far.are k other (omega (arith, near, long))
          ∙ ap₂ (λ (n : ℕ) (it : StripeRoom). levels_read (is_searched plan n) it.levels)
          (number_of_first numbers i k near ∙ sym (number_of_first numbers (i + 1) k (omega (arith, near))))
          (sym (get_or-set_other rooms i k own other apart))
      | inr far ↦
          let here : k ≡ i = omega (arith, far, below, after_long) in
          ap (λ (it : StripeFacts). it.levels) (facts_last so_far.stripes facts k (here ∙ sym before_many))
          ∙ ap₂ (λ (n : ℕ) (it : StripeRoom). levels_read (is_searched plan n) it.levels)
          (ap (number_at numbers) (sym here) ∙ sym (number_of_first numbers (i + 1) k (omega (arith, here))))
          (sym (get_or-set_same rooms i own other many) ∙ ap (λ (n : ℕ). get_or rooms_after n other) (sym here))
    ];
    counts = λ k other below sure. elim (cases_lt k i) [
      | inl near ↦
          let apart : k ≢ i = omega (arith, near) in
          ap (λ (it : StripeRoom). it.levels.count) (get_or-set_other rooms i k own other apart)
          ∙ so_far.counts k other (omega (arith, near, long))
          (ap (is_searched plan) (number_of_first numbers i k near ∙ sym (number_of_first numbers (i + 1) k (omega (arith, near)))) ∙ sure)
      | inr far ↦
          let here : k ≡ i = omega (arith, far, below, after_long) in
          ap (λ (n : ℕ). (get_or rooms_after n other).levels.count) here
          ∙ ap (λ (it : StripeRoom). it.levels.count) (get_or-set_same rooms i own other many)
          ∙ count (ap (is_searched plan) (ap (number_at numbers) (sym here) ∙ sym (number_of_first numbers (i + 1) k (omega (arith, here)))) ∙ sure)
    ];
    read = levels_then plan so_far.stripes (facts ∷ []) old mid new so_far.read one;
  }

-- ---- stripes with the same levels

abbrev SameLevels : List StripeFacts → List StripeFacts → Type 0
SameLevels xs ys =
    (k : ℕ) → k < length xs → ((facts_at xs k).stripe ≡ (facts_at ys k).stripe) × ((facts_at xs k).levels ≡ (facts_at ys k).levels)

later : (x y : StripeFacts) (xs ys : List StripeFacts) → SameLevels (x ∷ xs) (y ∷ ys) → SameLevels xs ys
later x y xs ys same k below = same (suc k) (omega (arith, below))

module _ (size : ℕ) (v : VaultView) where
  all_levels_same : (xs ys : List StripeFacts) (readings : List (List LevelReading)) → length xs ≡ length ys → SameLevels xs ys
      → AreAllLevelsOf size v xs readings → AreAllLevelsOf size v ys readings
  all_levels_same [] [] readings long same are = are
  all_levels_same [] (y ∷ ys) readings long same are = absurd (omega (arith, long))
  all_levels_same (x ∷ xs) [] readings long same are = absurd (omega (arith, long))
  all_levels_same (x ∷ xs) (y ∷ ys) [] long same are = absurd are
  all_levels_same (x ∷ xs) (y ∷ ys) (of ∷ readings) long same (first, rest) =
      let here = same 0 (omega arith) in (
        subst (λ (levels : List LevelValue). AreLevelsOf size y.stripe levels v of) here.1
            (subst (λ (n : ℕ). AreLevelsOf size n x.levels v of) here.0 first),
        all_levels_same xs ys readings (omega (arith, long)) (later x y xs ys same) rest,
      )

reads_same : (size : ℕ) (xs ys : List StripeFacts) (readings : List (List LevelReading)) → length xs ≡ length ys → SameLevels xs ys
    → level_reads size xs readings ≡ level_reads size ys readings
reads_same size [] [] readings long same = refl
reads_same size [] (y ∷ ys) readings long same = absurd (omega (arith, long))
reads_same size (x ∷ xs) [] readings long same = absurd (omega (arith, long))
reads_same size (x ∷ xs) (y ∷ ys) [] long same = refl
reads_same size (x ∷ xs) (y ∷ ys) (of ∷ readings) long same =
    ap₂ (λ (n : ℕ) (calls : List VaultDone). calls_of size n of ++ calls) (same 0 (omega arith)).0
    (reads_same size xs ys readings (omega (arith, long)) (later x y xs ys same))

pub levels_same : (plan : FixPlan) (xs ys : List StripeFacts) (old new : VaultView) → length xs ≡ length ys → SameLevels xs ys
    → LevelsAreRead plan xs old new → LevelsAreRead plan ys old new
levels_same plan xs ys old new long same read =
    let size = plan.table.shape.block_size in
    record {
      readings = read.readings;
      are = all_levels_same size old xs ys read.readings long same read.are;
      unread = read.unread;
      goes_on = subst (GoesOn old new) (reads_same size xs ys read.readings long same) read.goes_on;
      changes = read.changes;
      drafts = read.drafts;
    }

-- ---- stripes with the same gifts of the spare

abbrev asked_part : StripeFacts → StripeFacts
asked_part facts = record facts { levels = []; row = None }

abbrev SameAsked : List StripeFacts → List StripeFacts → Type 0
SameAsked xs ys = (k : ℕ) → k < length xs → asked_part (facts_at xs k) ≡ asked_part (facts_at ys k)

sum_same : (f : StripeFacts → ℕ) → ((facts : StripeFacts) → f facts ≡ f (asked_part facts)) → (xs ys : List StripeFacts) → length xs ≡ length ys → SameAsked xs ys
    → sum_by f xs ≡ sum_by f ys
sum_same f part [] [] long same = refl
sum_same f part [] (y ∷ ys) long same = absurd (omega (arith, long))
sum_same f part (x ∷ xs) [] long same = absurd (omega (arith, long))
sum_same f part (x ∷ xs) (y ∷ ys) long same =
    sum_by-append f (x ∷ []) xs
    ∙ ap₂ (λ (n m : ℕ). 0 + n + m) (part x ∙ ap f (same 0 (omega arith)) ∙ sym (part y))
    (sum_same f part xs ys (omega (arith, long)) (λ k below. same (suc k) (omega (arith, below))))
    ∙ sym (sum_by-append f (y ∷ []) ys)

abbrev Gave : FixPlan → SpareView → StripeFacts → Type 0
Gave plan old facts = (d : ℕ) → is_some (gift_of facts d) ≡ true → is_held old plan facts d ≡ true

pub asks_same : (plan : FixPlan) (xs ys : List StripeFacts) (old new : SpareView) → length xs ≡ length ys → SameAsked xs ys
    → AsksSpare plan xs old new → AsksSpare plan ys old new
asks_same plan xs ys old new long same asks = record {
  later = asks.later;
  same = asks.same;
  gave = λ tells.
      All-from_get_or (Gave plan old) ys no_facts
      (λ k below.
      let within : k < length xs = omega (arith, below, long) in
      subst (Gave plan old) (same k within) (asks.gave tells k no_facts within));
  withheld = λ tells.
      let counted : sum_by (withheld_in old plan) xs ≡ sum_by (withheld_in old plan) ys = sum_same (withheld_in old plan) (λ facts. refl) xs ys long same in
      subst (λ (n : ℕ). RoseBy n old.faults new.faults) counted (asks.withheld tells);
}
