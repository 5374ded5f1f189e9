-- Two fixes by one plan of which the same came: they write the same, and tell the same of their stripes.
use Rattle.std.proofs.Common.{◌≡◌, ℕ, suc, ◌*◌, ◌<◌, ◌&&◌, List, [], ◌∷◌, ◌++◌, length, get_or, cond, Bool, true, false, if◌then◌else◌, ⊎_elim, Option, None, Some, refl, sym, ap, ap₂, ◌∙◌, subst, arith}
use Rattle.std.specs.Prelude.{All, count_by, is_some, not, sum_by}
use Rattle.std.specs.List.{flat_map, range_with_len}
use Rattle.std.proofs.lemmas.Bool.{cases_lt}
use Rattle.std.proofs.lemmas.List.{ext_get_or, get_or-map, get_or_past, length-map}
use Rattle.std.proofs.lemmas.List.FromFn.{get_or-range_with_len, length-range_with_len}
use Rattle.std.proofs.lemmas.List.Sums.{sum_by-cons}
use Rattle.folder_listing.specs.Kept.{ListedFile}
use Rattle.disk_model.specs.Bytes.{read_from}
use Rattle.disk_model.specs.Files.{Files, parity_of}
use Rattle.disk_model.specs.Tree.{Tree}
use Rattle.file_table.specs.Valid.{IsValid}
use Rattle.file_table.specs.declared.block.Cell.{Cell}
use Rattle.parity_writer.specs.LevelReading.{kept_level}
use Rattle.parity_writer.specs.LevelsValue.{LevelValue, no_level}
use Rattle.snap_exercise.proofs.HeldLemmas.{CameAsHeld, held_slot}
use Rattle.snap_exercise.proofs.SeenLemmas.{IsDetermined, KeptAlike, NoGifts, damaged_same, is_mid, kept_both, kept_same, told_same}
use Rattle.snap_fix.specs.Fixing.{facts_of}
use Rattle.snap_fix.specs.Mended.{Mended, all_level_news, all_mended_events, answer_of, cell_news, fixed_event, is_blocked_cell, is_of, is_repaired, is_written, is_wrong_level, mended_event, mended_events, write_of, writes_in, writes_of, wrong_in, written_in}
use Rattle.snap_report.specs.declared.events.Event.{Event}
use Rattle.stripe_examiner.specs.Facts.{StripeFacts, slot_of}
use Rattle.stripe_examiner.specs.Known.{AreFacts, IsTried}
use Rattle.stripe_examiner.specs.Looking.{facts_at, no_facts, numbers_of}
use Rattle.repair_scope.specs.Plan.{FixPlan, cell_at, is_searched, seen_at, selects_cell}
use Rattle.stripe_examiner.specs.Showing.{known_block}
use Rattle.stripe_reader.specs.WindowValue.{no_slot}

-- ---- lists

sum_same : (f g : ℕ → ℕ) (xs : List ℕ) → ((k : ℕ) → k < length xs → f (get_or xs k 0) ≡ g (get_or xs k 0)) → sum_by f xs ≡ sum_by g xs
sum_same f g [] each = refl
sum_same f g (x ∷ xs) each =
    let here : f x ≡ g x = each 0 (omega arith) in
    let rest : sum_by f xs ≡ sum_by g xs = sum_same f g xs (λ k within. each (suc k) (omega (arith, within))) in
    omega (arith, sum_by-cons f x xs, sum_by-cons g x xs, here, rest)

flat_same : (f g : ℕ → List Event) (xs : List ℕ) → ((k : ℕ) → k < length xs → f (get_or xs k 0) ≡ g (get_or xs k 0)) → flat_map f xs ≡ flat_map g xs
flat_same f g [] each = refl
flat_same f g (x ∷ xs) each =
    ap₂ (λ (first rest : List Event). first ++ rest) (each 0 (omega arith)) (flat_same f g xs (λ k within. each (suc k) (omega (arith, within))))

pub in_range : (n k : ℕ) → k < length (range_with_len 0 n) → (get_or (range_with_len 0 n) k 0 ≡ k) × (k < n)
in_range n k within =
    let few : k < n = omega (arith, within, length-range_with_len 0 n) in
    (omega (arith, get_or-range_with_len 0 n k 0 few), few)

count_range : (p q : ℕ → Bool) (n : ℕ) → ((k : ℕ) → k < n → p k ≡ q k) → count_by p (range_with_len 0 n) ≡ count_by q (range_with_len 0 n)
count_range p q n each = sum_same (λ (k : ℕ). cond (p k) 1 0) (λ (k : ℕ). cond (q k) 1 0) (range_with_len 0 n) (λ k within.
    let it = in_range n k within in
    ap (λ (j : ℕ). cond (p j) 1 0) it.0 ∙ ap (λ (b : Bool). cond b 1 0) (each k it.1) ∙ sym (ap (λ (j : ℕ). cond (q j) 1 0) it.0))

flat_range : (f g : ℕ → List Event) (n : ℕ) → ((k : ℕ) → k < n → f k ≡ g k) → flat_map f (range_with_len 0 n) ≡ flat_map g (range_with_len 0 n)
flat_range f g n each = flat_same f g (range_with_len 0 n) (λ k within.
    let it = in_range n k within in
    ap f it.0 ∙ each k it.1 ∙ sym (ap g it.0))

-- ---- answers

both_and : (a b x y : Bool) → a ≡ b → (a ≡ true → x ≡ true) → (b ≡ true → y ≡ true) → (a && x) ≡ (b && y)
both_and true true x y same one other = one refl ∙ sym (other refl)
both_and true false x y same one other = absurd (let clash : true ≡ false = same in cc)
both_and false true x y same one other = absurd (let clash : false ≡ true = same in cc)
both_and false false x y same one other = refl

news_by : (repaired answer : Bool) (stripe d : ℕ) (cell : Option Cell) → (repaired ≡ true → answer ≡ true) → (if repaired then mended_event stripe d cell answer else []) ≡ (if repaired then fixed_event stripe d cell else [])
news_by true answer stripe d cell says = ap (λ (b : Bool). mended_event stripe d cell b) (says refl)
news_by false answer stripe d cell says = refl

-- ---- a stripe

module _ (determined : IsDetermined) (plan : FixPlan) (valid : IsValid plan.table) (one other : Mended) (are : AreFacts plan one.facts) (are_then : AreFacts plan other.facts)
    (stripe : one.facts.stripe ≡ other.facts.stripe) (alike : (d : ℕ) → KeptAlike (slot_of one.facts d) (slot_of other.facts d)) (gifts : one.facts.gifts ≡ other.facts.gifts) (none : NoGifts other.facts)
    (levels : one.facts.levels ≡ other.facts.levels) (fits : (d : ℕ) → d < length plan.table.columns → is_repaired plan one.facts d ≡ true → answer_of one d ≡ true)
    (fits_then : (d : ℕ) → d < length plan.table.columns → is_repaired plan other.facts d ≡ true → answer_of other d ≡ true) where
  abbrev many : ℕ
  many = length plan.table.columns

  mid_is : one.facts ≡ record other.facts { slots = one.facts.slots }
  mid_is = is_mid determined plan valid one.facts other.facts are are_then stripe alike gifts none levels

  repaired : (d : ℕ) → is_repaired plan one.facts d ≡ is_repaired plan other.facts d
  repaired d =
      ap (λ (facts : StripeFacts). is_repaired plan facts d) mid_is
      ∙ ap (λ (damaged : Bool). selects_cell plan other.facts.stripe d && damaged && is_some (known_block plan other.facts d) && not (is_blocked_cell plan d (cell_at plan other.facts.stripe d)))
      (damaged_same plan.table.shape.kind (seen_at plan other.facts.stripe d) (slot_of one.facts d) (slot_of other.facts d) (alike d))

  is_written_same : (d : ℕ) → d < many → is_written plan one d ≡ is_written plan other d
  is_written_same d below = both_and (is_repaired plan one.facts d) (is_repaired plan other.facts d) (answer_of one d) (answer_of other d) (repaired d) (fits d below) (fits_then d below)

  pub written_same : written_in plan one ≡ written_in plan other
  written_same = count_range (is_written plan one) (is_written plan other) many is_written_same

  pub writes_same : (d i : ℕ) → d < many → writes_in plan d i one ≡ writes_in plan d i other
  writes_same d i below =
      ap (λ (b : Bool). if is_of i (cell_at plan one.facts.stripe d) && b then write_of plan d one.facts (cell_at plan one.facts.stripe d) else []) (is_written_same d below)
      ∙ ap (λ (facts : StripeFacts). if is_of i (cell_at plan facts.stripe d) && is_written plan other d then write_of plan d facts (cell_at plan facts.stripe d) else []) mid_is

  pub wrong_same : wrong_in plan one ≡ wrong_in plan other
  wrong_same = ap (λ (facts : StripeFacts). count_by (is_wrong_level plan facts) (range_with_len 0 (length facts.levels))) mid_is

  news_same : (d : ℕ) → d < many → cell_news plan one d ≡ cell_news plan other d
  news_same d below =
      news_by (is_repaired plan one.facts d) (answer_of one d) one.facts.stripe d (cell_at plan one.facts.stripe d) (fits d below)
      ∙ ap₂ (λ (b : Bool) (s : ℕ). if b then fixed_event s d (cell_at plan s d) else []) (repaired d) stripe
      ∙ sym (news_by (is_repaired plan other.facts d) (answer_of other d) other.facts.stripe d (cell_at plan other.facts.stripe d) (fits_then d below))

  pub events_same : mended_events plan one ≡ mended_events plan other
  events_same = ap₂ (λ (found mended : List Event). found ++ mended)
      (told_same determined plan valid one.facts other.facts are are_then stripe alike gifts none levels)
      (ap₂ (λ (cells wrong : List Event). cells ++ wrong) (flat_range (cell_news plan one) (cell_news plan other) many news_same) (ap (λ (facts : StripeFacts). all_level_news plan facts) mid_is))

-- ---- stripes of which the same came

module _ (plan : FixPlan) (lists : List (List ListedFile)) (trees : List Tree) (files : Files) (ones others : List StripeFacts)
    (are : All (AreFacts plan) ones) (are_then : All (AreFacts plan) others) (none : All NoGifts ones) (none_then : All NoGifts others) (numbers : numbers_of ones ≡ numbers_of others)
    (came : CameAsHeld plan.table lists trees files ones) (came_then : CameAsHeld plan.table lists trees files others) where
  abbrev number : StripeFacts → ℕ
  number facts = facts.stripe

  abbrev size : ℕ
  size = plan.table.shape.block_size

  pub as_many : length ones ≡ length others
  as_many = sym (length-map ones number) ∙ ap length numbers ∙ length-map others number

  module _ (k : ℕ) (within : k < length ones) where
    abbrev one : StripeFacts
    one = facts_at ones k

    abbrev other : StripeFacts
    other = facts_at others k

    pub within_then : k < length others
    within_then = omega (arith, within, as_many)

    pub its : AreFacts plan one
    its = are k no_facts within

    pub its_then : AreFacts plan other
    its_then = are_then k no_facts within_then

    pub stripe_same : one.stripe ≡ other.stripe
    stripe_same = sym (get_or-map number ones k no_facts 0 within) ∙ ap (λ (ns : List ℕ). get_or ns k 0) numbers ∙ get_or-map number others k no_facts 0 within_then

    pub slot_alike : (d : ℕ) → KeptAlike (slot_of one d) (slot_of other d)
    slot_alike d = ⊎_elim
        (λ below. kept_both (slot_of one d) (slot_of other d) (held_slot plan.table lists trees d one.stripe)
        (came.slots k d within below)
        (subst (λ (s : ℕ). KeptAlike (slot_of other d) (held_slot plan.table lists trees d s)) (sym stripe_same) (came_then.slots k d within_then below)))
        (λ past. kept_same (slot_of one d) (slot_of other d)
        (get_or_past one.slots d no_slot (omega (arith, past, its.slots)) ∙ sym (get_or_past other.slots d no_slot (omega (arith, past, its_then.slots)))))
        (cases_lt d (length plan.table.columns))

    pub gifts_same : one.gifts ≡ other.gifts
    gifts_same = ext_get_or None one.gifts other.gifts (its.gifts ∙ sym its_then.gifts) (λ d below. none k no_facts within d ∙ sym (none_then k no_facts within_then d))

    -- as many levels, by whether a recovery is tried
    level_count : (b : Bool) → IsTried plan one b → IsTried plan other b → length one.levels ≡ length other.levels
    level_count true a b = a.0 ∙ sym b.0
    level_count false a b = ap (λ (levels : List LevelValue). length levels) (a.1 ∙ sym b.1)

    pub levels_same : one.levels ≡ other.levels
    levels_same =
        let many : length one.levels ≡ length other.levels
        = level_count (is_searched plan one.stripe) its.tried (subst (λ (s : ℕ). IsTried plan other (is_searched plan s)) (sym stripe_same) its_then.tried) in
        ext_get_or no_level one.levels other.levels many
        (λ r below.
        came.levels k r within below
        ∙ ap (λ (s : ℕ). kept_level size (Some (read_from (parity_of files r) (s * size) size))) stripe_same
        ∙ sym (came_then.levels k r within_then (omega (arith, below, many))))

-- ---- fixes

-- What is known of a fix by this plan of what these files and these levels hold: the facts of its stripes, and that each cell that was to be written was.
pub record IsSeen (plan : FixPlan) (lists : List (List ListedFile)) (trees : List Tree) (files : Files) (stripes : List Mended) : Type 0 where
  pub are : All (AreFacts plan) (facts_of stripes)
  pub none : All NoGifts (facts_of stripes)
  pub came : CameAsHeld plan.table lists trees files (facts_of stripes)
  pub answered : All (λ (mended : Mended). (d : ℕ) → d < length plan.table.columns → is_repaired plan mended.facts d ≡ true → answer_of mended d ≡ true) stripes

sum_both : (f : Mended → ℕ) (xs ys : List Mended) (e : Mended) → length xs ≡ length ys → ((k : ℕ) → k < length xs → f (get_or xs k e) ≡ f (get_or ys k e)) → sum_by f xs ≡ sum_by f ys
sum_both f [] [] e long each = refl
sum_both f [] (y ∷ ys) e long each = absurd (omega (arith, long))
sum_both f (x ∷ xs) [] e long each = absurd (omega (arith, long))
sum_both f (x ∷ xs) (y ∷ ys) e long each =
    let here : f x ≡ f y = each 0 (omega arith) in
    let rest : sum_by f xs ≡ sum_by f ys = sum_both f xs ys e (omega (arith, long)) (λ k within. each (suc k) (omega (arith, within))) in
    omega (arith, sum_by-cons f x xs, sum_by-cons f y ys, here, rest)

module _ {X : Type 0} where
  flat_both : (f : Mended → List X) (xs ys : List Mended) (e : Mended) → length xs ≡ length ys → ((k : ℕ) → k < length xs → f (get_or xs k e) ≡ f (get_or ys k e)) → flat_map f xs ≡ flat_map f ys
  flat_both f [] [] e long each = refl
  flat_both f [] (y ∷ ys) e long each = absurd (omega (arith, long))
  flat_both f (x ∷ xs) [] e long each = absurd (omega (arith, long))
  flat_both f (x ∷ xs) (y ∷ ys) e long each =
      ap₂ (λ (first rest : List X). first ++ rest) (each 0 (omega arith)) (flat_both f xs ys e (omega (arith, long)) (λ k within. each (suc k) (omega (arith, within))))

abbrev no_mended : Mended
no_mended = record { facts = no_facts; answers = [] }

abbrev facts_in : Mended → StripeFacts
facts_in mended = mended.facts

module _ (determined : IsDetermined) (plan : FixPlan) (valid : IsValid plan.table) (lists : List (List ListedFile)) (trees : List Tree) (files : Files) (ones others : List Mended)
    (numbers : numbers_of (facts_of ones) ≡ numbers_of (facts_of others)) (seen : IsSeen plan lists trees files ones) (seen_then : IsSeen plan lists trees files others) where
  many_facts : length (facts_of ones) ≡ length (facts_of others)
  many_facts = as_many plan lists trees files (facts_of ones) (facts_of others) seen.are seen_then.are seen.none seen_then.none numbers seen.came seen_then.came

  pub as_many_mended : length ones ≡ length others
  as_many_mended = sym (length-map ones facts_in) ∙ many_facts ∙ length-map others facts_in

  module _ (k : ℕ) (within : k < length ones) where
    of : k < length (facts_of ones)
    of = omega (arith, within, length-map ones facts_in)

    of_then : k < length others
    of_then = omega (arith, within, as_many_mended)

    abbrev its_one : Mended
    its_one = get_or ones k no_mended

    abbrev its_other : Mended
    its_other = get_or others k no_mended

    one_is : facts_at (facts_of ones) k ≡ its_one.facts
    one_is = get_or-map facts_in ones k no_mended no_facts within

    other_is : facts_at (facts_of others) k ≡ its_other.facts
    other_is = get_or-map facts_in others k no_mended no_facts of_then

    are_one : AreFacts plan its_one.facts
    are_one = subst (AreFacts plan) one_is (seen.are k no_facts of)

    are_other : AreFacts plan its_other.facts
    are_other = subst (AreFacts plan) other_is (seen_then.are k no_facts (omega (arith, of, many_facts)))

    none_other : NoGifts its_other.facts
    none_other = subst NoGifts other_is (seen_then.none k no_facts (omega (arith, of, many_facts)))

    stripe_one : its_one.facts.stripe ≡ its_other.facts.stripe
    stripe_one = ap (λ (facts : StripeFacts). facts.stripe) (sym one_is)
        ∙ stripe_same plan lists trees files (facts_of ones) (facts_of others) seen.are seen_then.are seen.none seen_then.none numbers seen.came seen_then.came k of
        ∙ ap (λ (facts : StripeFacts). facts.stripe) other_is

    alike_one : (d : ℕ) → KeptAlike (slot_of its_one.facts d) (slot_of its_other.facts d)
    alike_one d =
        subst (λ (facts : StripeFacts). KeptAlike (slot_of facts d) (slot_of its_other.facts d)) one_is
        (subst (λ (facts : StripeFacts). KeptAlike (slot_of (facts_at (facts_of ones) k) d) (slot_of facts d)) other_is
        (slot_alike plan lists trees files (facts_of ones) (facts_of others) seen.are seen_then.are seen.none seen_then.none numbers seen.came seen_then.came k of d))

    gifts_one : its_one.facts.gifts ≡ its_other.facts.gifts
    gifts_one = ap (λ (facts : StripeFacts). facts.gifts) (sym one_is)
        ∙ gifts_same plan lists trees files (facts_of ones) (facts_of others) seen.are seen_then.are seen.none seen_then.none numbers seen.came seen_then.came k of
        ∙ ap (λ (facts : StripeFacts). facts.gifts) other_is

    levels_one : its_one.facts.levels ≡ its_other.facts.levels
    levels_one = ap (λ (facts : StripeFacts). facts.levels) (sym one_is)
        ∙ levels_same plan lists trees files (facts_of ones) (facts_of others) seen.are seen_then.are seen.none seen_then.none numbers seen.came seen_then.came k of
        ∙ ap (λ (facts : StripeFacts). facts.levels) other_is

    fits_one : (d : ℕ) → d < length plan.table.columns → is_repaired plan its_one.facts d ≡ true → answer_of its_one d ≡ true
    fits_one = seen.answered k no_mended within

    fits_other : (d : ℕ) → d < length plan.table.columns → is_repaired plan its_other.facts d ≡ true → answer_of its_other d ≡ true
    fits_other = seen_then.answered k no_mended of_then

    written_at : written_in plan its_one ≡ written_in plan its_other
    written_at = written_same determined plan valid its_one its_other are_one are_other stripe_one alike_one gifts_one none_other levels_one fits_one fits_other

    wrong_at : wrong_in plan its_one ≡ wrong_in plan its_other
    wrong_at = wrong_same determined plan valid its_one its_other are_one are_other stripe_one alike_one gifts_one none_other levels_one fits_one fits_other

    events_at : mended_events plan its_one ≡ mended_events plan its_other
    events_at = events_same determined plan valid its_one its_other are_one are_other stripe_one alike_one gifts_one none_other levels_one fits_one fits_other

    writes_at : (d i : ℕ) → d < length plan.table.columns → writes_in plan d i its_one ≡ writes_in plan d i its_other
    writes_at = writes_same determined plan valid its_one its_other are_one are_other stripe_one alike_one gifts_one none_other levels_one fits_one fits_other

  pub all_written : sum_by (written_in plan) ones ≡ sum_by (written_in plan) others
  all_written = sum_both (written_in plan) ones others no_mended as_many_mended written_at

  pub all_wrong : sum_by (wrong_in plan) ones ≡ sum_by (wrong_in plan) others
  all_wrong = sum_both (wrong_in plan) ones others no_mended as_many_mended wrong_at

  pub all_events : all_mended_events plan ones ≡ all_mended_events plan others
  all_events = flat_both (mended_events plan) ones others no_mended as_many_mended events_at

  pub all_writes : (d i : ℕ) → d < length plan.table.columns → writes_of plan ones d i ≡ writes_of plan others d i
  all_writes d i below = flat_both (writes_in plan d i) ones others no_mended as_many_mended (λ k within. writes_at k within d i below)
