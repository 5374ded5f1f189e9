-- What was read of a stripe determines its row: the remainders of the levels that were read whole, the first choice of them whose blocks
-- are right, and these blocks.
use Rattle.std.proofs.Common.{◌≡◌, inl, inr, ℕ, zero, suc, ◌+◌, ◌*◌, ◌<◌, ◌≤◌, ◌&&◌, not, List, [], ◌∷◌, ◌++◌, length, take, drop, get_or, Bool, true, false, Option, None, Some, refl, sym, ap, ap₂, ◌∙◌, subst, arith}
use Rattle.std.specs.List.{All, range_with_len}
use Rattle.std.proofs.lemmas.Bool.{cases_lt}
use Rattle.std.proofs.lemmas.Grind.{same_number_lists}
use Rattle.std.proofs.lemmas.List.{drop-drop, ext_get_or, get_or-append-add, get_or_append_left, length-append, length-drop, take-append-drop}
use Rattle.std.proofs.lemmas.List.Elements.{All-filter, All-head, All-tail, All-weaker, filter_passes}
use Rattle.std.proofs.lemmas.List.FromFn.{get_or-range_with_len, length-range_with_len}
use Rattle.cauchy.specs.System.{AreDistinctBelow, IsChoice, SolvesBlocks}
use Rattle.file_table.specs.Table.{TableValue, info_at, is_synced_mark}
use Rattle.file_table.specs.Valid.{IsValid}
use Rattle.file_table.specs.declared.shape.Shape.{Shape}
use Rattle.parity_writer.specs.LevelsValue.{LevelValue}
use Rattle.parity_writer.specs.Parity.{Row}
use Rattle.stripe_reader.specs.SlotValue.{SlotValue}
use Rattle.stripe_examiner.specs.declared.search.Wanted.{Wanted}
use Rattle.stripe_examiner.specs.Alike.{AreReadAlike, SeeAlike}
use Rattle.stripe_examiner.specs.Facts.{StripeFacts, is_missing, missing_in, row_before, wanted_in}
use Rattle.stripe_examiner.specs.Known.{AreFacts, AreRemainders, IsKnown, IsTried, SearchEnds, whole_level, whole_levels}
use Rattle.stripe_examiner.specs.Looking.{facts_at, no_facts}
use Rattle.repair_scope.specs.Plan.{FixPlan, is_audit, is_searched, plan_of, seen_at}
use Rattle.stripe_examiner.specs.Restorable.{filled}
use Rattle.stripe_examiner.specs.Search.{FindsAmong, IsAcceptable, IsAccepted, block_in, choices, columns_of, given}
use Rattle.stripe_examiner.proofs.KnowLemmas.{passed_distinct, wanted_columns}
use Rattle.stripe_examiner.proofs.SearchAccepted.{HasOneSolution, length-columns_of, length-solved, same_block}
use Rattle.stripe_examiner.proofs.SearchBlocks.{block_byte, length-block_in}
use Rattle.stripe_examiner.proofs.SearchChoices.{HasSome, choices_fit, choices_sublists, sublist_all}

-- ---- blocks that stand end to end

-- the same blocks are the same bytes
same_of_blocks : (size n : ℕ) (one other : List ℕ) → length one ≡ n * size → length other ≡ n * size
    → ((j : ℕ) → j < n → block_in size one j ≡ block_in size other j) → one ≡ other
same_of_blocks size zero one other long many each =
    same_number_lists one other (long ∙ sym many) (λ k below. let none : 0 * size ≡ 0 = omega arith in absurd (omega (arith, below, long, none)))
same_of_blocks size (suc n) one other long many each =
    let none : 0 * size ≡ 0 = omega arith in
    let more : suc n * size ≡ size + n * size = omega arith in
    let first : take size one ≡ take size other =
    sym (ap (λ (m : ℕ). take size (drop m one)) none) ∙ each 0 (omega arith) ∙ ap (λ (m : ℕ). take size (drop m other)) none in
    let next : (xs : List ℕ) (j : ℕ) → block_in size (drop size xs) j ≡ block_in size xs (suc j) = λ xs j.
    let there : size + j * size ≡ suc j * size = omega arith in
    ap (take size) (drop-drop (j * size) size xs ∙ ap (λ (m : ℕ). drop m xs) there) in
    let rest : drop size one ≡ drop size other =
    same_of_blocks size n (drop size one) (drop size other)
    (omega (arith, length-drop size one, long, more)) (omega (arith, length-drop size other, many, more))
    (λ j below. next one j ∙ each (suc j) (omega (arith, below)) ∙ sym (next other j)) in
    sym (take-append-drop size one) ∙ ap₂ (λ (xs ys : List ℕ). xs ++ ys) first rest ∙ take-append-drop size other

-- ---- the remainders of one row

module _ (size : ℕ) (row : Row) (levels : List LevelValue) (ones others : List ℕ) (one : AreRemainders size row levels ones)
    (other : AreRemainders size row levels others) (few : length levels ≤ 6) where
  abbrev HasSameBlock : ℕ → Type 0
  HasSameBlock r = block_in size ones r ≡ block_in size others r

  block_same : (r : ℕ) → r < length levels → whole_level levels r ≡ true → HasSameBlock r
  block_same r inside whole =
      let below : r < 6 = omega (arith, inside, few) in
      let one_long = length-block_in size 6 ones r one.long below in
      let other_long = length-block_in size 6 others r other.long below in
      same_number_lists (block_in size ones r) (block_in size others r) (one_long ∙ sym other_long)
      (λ p near.
      let within : p < size = omega (arith, near, one_long) in
      block_byte size ones r p within
      ∙ one.bytes r p inside whole within
      ∙ sym (other.bytes r p inside whole within)
      ∙ sym (block_byte size others r p within))

  each_same : All HasSameBlock (whole_levels levels)
  each_same k other inside =
      let n = length levels in
      let numbers = range_with_len 0 n in
      let below : All (λ r. r < n) (whole_levels levels) =
      All-filter (whole_level levels) (λ r. r < n) numbers
      (λ j default inside.
      let near : j < n = omega (arith, inside, length-range_with_len 0 n) in
      omega (arith, near, get_or-range_with_len 0 n j default near)) in
      block_same (get_or (whole_levels levels) k other) (below k other inside) (filter_passes (whole_level levels) numbers k other inside)

  given_same : (choice : List ℕ) → All HasSameBlock choice → given size ones choice ≡ given size others choice
  given_same [] each = refl
  given_same (r ∷ rs) each =
      ap₂ (λ (xs ys : List ℕ). xs ++ ys) (All-head HasSameBlock r rs each) (given_same rs (All-tail HasSameBlock r rs each))

  pub all_given_same : (n : ℕ) → All (λ (choice : List ℕ). given size ones choice ≡ given size others choice) (choices n (whole_levels levels))
  all_given_same n =
      All-weaker (HasSome n (whole_levels levels)) (λ (choice : List ℕ). given size ones choice ≡ given size others choice)
      (λ choice is. given_same choice (sublist_all HasSameBlock is.1 each_same))
      (choices n (whole_levels levels)) (choices_sublists n (whole_levels levels))

-- ---- one search

-- the choice of a search stands behind those that it passed over
chosen_at : (earlier : List (List ℕ)) (choice : List ℕ) (later : List (List ℕ)) → get_or (earlier ++ choice ∷ later) (length earlier) [] ≡ choice
chosen_at earlier choice later =
    let here : length earlier ≡ length earlier + 0 = omega arith in
    ap (λ (n : ℕ). get_or (earlier ++ choice ∷ later) n []) here ∙ get_or-append-add earlier (choice ∷ later) 0 []

module _ (shape : Shape) (wanteds : List Wanted) (tried : List (List ℕ)) where
  abbrev pub GiveSame : List ℕ → List ℕ → Type 0
  GiveSame ones others = All (λ (choice : List ℕ). given shape.block_size ones choice ≡ given shape.block_size others choice) tried

  accepted_by : (ones others choice blocks : List ℕ) → given shape.block_size ones choice ≡ given shape.block_size others choice
      → IsAccepted shape wanteds ones choice blocks → IsAccepted shape wanteds others choice blocks
  accepted_by ones others choice blocks same accepted = record {
    solves = subst (λ (sums : List ℕ). SolvesBlocks (columns_of wanteds) choice shape.block_size sums blocks) same accepted.solves;
    right = accepted.right;
  }

  module _ (ones others : List ℕ) (same : GiveSame ones others) (blocks : List ℕ) (found : FindsAmong shape wanteds ones tried blocks) where
    pub place : ℕ
    place = length found.earlier

    pub chosen_is : get_or tried (length found.earlier) [] ≡ found.choice
    chosen_is = ap (λ (all : List (List ℕ)). get_or all (length found.earlier) []) found.parts ∙ chosen_at found.earlier found.choice found.later

    pub within : length found.earlier < length tried
    within = omega (arith, ap (λ (all : List (List ℕ)). length all) found.parts, length-append found.earlier (found.choice ∷ found.later))

    -- it is accepted by the other remainders too
    pub accepted_too : IsAccepted shape wanteds others found.choice blocks
    accepted_too =
        accepted_by ones others found.choice blocks
        (subst (λ (choice : List ℕ). given shape.block_size ones choice ≡ given shape.block_size others choice) chosen_is (same (length found.earlier) [] within))
        found.accepted

    -- so another search does not pass it over
    pub not_passed : (blocks_too : List ℕ) (too : FindsAmong shape wanteds others tried blocks_too) → length found.earlier < length too.earlier → ⊥
    not_passed blocks_too too before =
        let there : get_or too.earlier (length found.earlier) [] ≡ found.choice =
        sym (get_or_append_left too.earlier (too.choice ∷ too.later) [] (length found.earlier) before)
        ∙ sym (ap (λ (all : List (List ℕ)). get_or all (length found.earlier) []) too.parts)
        ∙ chosen_is in
        too.none_before (length found.earlier) [] before
        (subst (λ (choice : List ℕ). IsAcceptable shape wanteds others choice) (sym there) (blocks, accepted_too))

    pub not_none : All (λ (choice : List ℕ). IsAcceptable shape wanteds others choice → ⊥) tried → ⊥
    not_none none =
        none (length found.earlier) [] within (subst (λ (choice : List ℕ). IsAcceptable shape wanteds others choice) (sym chosen_is) (blocks, accepted_too))

-- two searches among the same choices find the same blocks
module _ (shape : Shape) (wanteds : List Wanted) (tried : List (List ℕ)) (only : HasOneSolution) (fits : All (IsChoice (columns_of wanteds)) tried) (ones others : List ℕ)
    (long : length others ≡ 6 * shape.block_size) (same : GiveSame shape wanteds tried ones others) (back : GiveSame shape wanteds tried others ones) where
  one_answer : (choice one other : List ℕ) → IsChoice (columns_of wanteds) choice → IsAccepted shape wanteds others choice one → IsAccepted shape wanteds others choice other → one ≡ other
  one_answer choice one other is first second =
      let size = shape.block_size in
      let sums_long = sym first.solves.same_length ∙ length-solved wanteds size others choice one is long first.solves in
      same_of_blocks size (length wanteds) one other
      (length-solved wanteds size others choice one is long first.solves)
      (length-solved wanteds size others choice other is long second.solves)
      (same_block (columns_of wanteds) choice size (length wanteds) (given size others choice) one other only is (sym (length-columns_of wanteds)) sums_long first.solves second.solves)

  pub found_same : (one other : List ℕ) → FindsAmong shape wanteds ones tried one → FindsAmong shape wanteds others tried other → one ≡ other
  found_same one other first second = elim (cases_lt (length first.earlier) (length second.earlier)) [
    | inl before ↦ absurd (not_passed shape wanteds tried ones others same one first other second before)
    | inr behind ↦ elim (cases_lt (length second.earlier) (length first.earlier)) [
      | inl before ↦ absurd (not_passed shape wanteds tried others ones back other second one first before)
      | inr far ↦
          let here : length first.earlier ≡ length second.earlier = omega (arith, behind, far) in
          let choices_are : first.choice ≡ second.choice =
          sym (chosen_is shape wanteds tried ones others same one first)
          ∙ ap (λ (n : ℕ). get_or tried n []) here
          ∙ chosen_is shape wanteds tried others ones back other second in
          let is : IsChoice (columns_of wanteds) second.choice =
          subst (IsChoice (columns_of wanteds)) (chosen_is shape wanteds tried others ones back other second)
          (fits (length second.earlier) [] (within shape wanteds tried others ones back other second)) in
          one_answer second.choice one other is
          (subst (λ (choice : List ℕ). IsAccepted shape wanteds others choice one) choices_are (accepted_too shape wanteds tried ones others same one first))
          second.accepted
    ]
  ]

  pub ends_same : (row : Row) (levels : List ℕ) → tried ≡ choices (length wanteds) levels → (one other : Option Row)
      → SearchEnds shape wanteds row levels ones one → SearchEnds shape wanteds row levels others other → one ≡ other
  ends_same row levels are None None first second = refl
  ends_same row levels are None (Some known) none (blocks, found, is) =
      absurd (not_none shape wanteds tried others ones back blocks
      (subst (λ (all : List (List ℕ)). FindsAmong shape wanteds others all blocks) (sym are) found)
      (subst (All (λ (choice : List ℕ). IsAcceptable shape wanteds ones choice → ⊥)) (sym are) none))
  ends_same row levels are (Some known) None (blocks, found, is) none =
      absurd (not_none shape wanteds tried ones others same blocks
      (subst (λ (all : List (List ℕ)). FindsAmong shape wanteds ones all blocks) (sym are) found)
      (subst (All (λ (choice : List ℕ). IsAcceptable shape wanteds others choice → ⊥)) (sym are) none))
  ends_same row levels are (Some known) (Some known_too) (blocks, found, is) (blocks_too, too, is_too) =
      let blocks_are : blocks ≡ blocks_too =
      found_same blocks blocks_too (subst (λ (all : List (List ℕ)). FindsAmong shape wanteds ones all blocks) (sym are) found)
      (subst (λ (all : List (List ℕ)). FindsAmong shape wanteds others all blocks_too) (sym are) too) in
      ap (λ (it : Row). let row_is : Option Row = Some it in row_is)
      (is ∙ ap (λ (found_are : List ℕ). filled shape.block_size found_are wanteds row) blocks_are ∙ sym is_too)

-- ---- one row

-- what is searched for by the same levels is found or not, and is the same
module _ (only : HasOneSolution) (shape : Shape) (row : Row) (levels : List LevelValue) (few : length levels ≤ 6) where
  pub known_same : (wanteds : List Wanted) → AreDistinctBelow 251 (columns_of wanteds) → (one other : Option Row)
      → IsKnown shape wanteds row levels one → IsKnown shape wanteds row levels other → one ≡ other
  known_same [] distinct one other first second = first ∙ sym second
  known_same (wanted ∷ wanteds) distinct one other first second =
      let all : List Wanted = wanted ∷ wanteds in
      let whole = whole_levels levels in
      let tried = choices (length all) whole in
      let many = length-columns_of all in
      let fits : All (IsChoice (columns_of all)) tried =
      subst (λ (n : ℕ). All (IsChoice (columns_of all)) (choices n whole)) many
      (choices_fit (columns_of all) whole (omega (arith, many)) distinct (passed_distinct (whole_level levels) (length levels) 6 few)) in
      ends_same shape all tried only fits first.remainders second.remainders second.are.long
      (all_given_same shape.block_size row levels first.remainders second.remainders first.are second.are few (length all))
      (all_given_same shape.block_size row levels second.remainders first.remainders second.are first.are few (length all))
      row whole refl one other first.ends second.ends

-- ---- the facts of one stripe

-- by what was read of it
abbrev read_as : Option Row → ℕ → List SlotValue → List (Option (List ℕ)) → List LevelValue → StripeFacts
read_as row stripe slots gifts levels = record { stripe = stripe; slots = slots; gifts = gifts; levels = levels; row = row }

alike_is : (one other : StripeFacts) → AreReadAlike one other → other ≡ read_as other.row one.stripe one.slots one.gifts one.levels
alike_is one other alike =
    ap₂ (λ (n : ℕ) (slots : List SlotValue). read_as other.row n slots other.gifts other.levels) (sym alike.stripe) (sym alike.slots)
    ∙ ap₂ (λ (gifts : List (Option (List ℕ))) (levels : List LevelValue). read_as other.row one.stripe one.slots gifts levels) (sym alike.gifts) (sym alike.levels)

module _ (only : HasOneSolution) (plan : FixPlan) (valid : IsValid plan.table) where
  distinct_wanted : (facts : StripeFacts) → AreDistinctBelow 251 (columns_of (wanted_in plan facts))
  distinct_wanted facts =
      subst (AreDistinctBelow 251) (sym (wanted_columns plan.table.shape (seen_at plan facts.stripe) (missing_in plan facts)))
      (passed_distinct (is_missing plan facts) (length plan.table.columns) 251 (omega (arith, valid.columns.few)))

  row_same : (facts : StripeFacts) (row : Option Row) (b : Bool) → IsTried plan facts b
      → IsTried plan (read_as row facts.stripe facts.slots facts.gifts facts.levels) b → facts.row ≡ row
  row_same facts row false first second = first.2 ∙ sym second.2
  row_same facts row true first second =
      known_same only plan.table.shape (row_before plan facts) facts.levels (omega (arith, first.0, valid.shape.levels.most))
      (wanted_in plan facts) (distinct_wanted facts) facts.row row first.1 second.1

  pub alike_same : (other : FixPlan) (facts others : StripeFacts) → SeeAlike plan other → AreFacts plan facts → AreFacts other others → AreReadAlike facts others → facts ≡ others
  alike_same other facts others see are too alike =
      let is = alike_is facts others alike in
      let searched : is_searched other others.stripe ≡ is_searched plan facts.stripe =
      ap₂ (λ (table : TableValue) (n : ℕ). is_synced_mark (info_at table.infos n).mark && not (is_audit other.scope.mode)) (sym see.table) (sym alike.stripe)
      ∙ ap (λ (audits : Bool). is_synced_mark (info_at plan.table.infos facts.stripe).mark && not audits) (sym see.audits) in
      let tried : IsTried plan others (is_searched plan facts.stripe) =
      subst (λ (b : Bool). IsTried plan others b) searched
      (subst (λ (table : TableValue). IsTried (plan_of plan.scope table plan.entries) others (is_searched other others.stripe)) (sym see.table) too.tried) in
      let row : facts.row ≡ others.row =
      row_same facts others.row (is_searched plan facts.stripe) are.tried
      (subst (λ (it : StripeFacts). IsTried plan it (is_searched plan facts.stripe)) is tried) in
      ap (λ (it : Option Row). read_as it facts.stripe facts.slots facts.gifts facts.levels) row ∙ sym is

  -- the same of stripes, one after another
  pub all_alike_same : (other : FixPlan) (stripes others : List StripeFacts) → SeeAlike plan other → All (AreFacts plan) stripes → All (AreFacts other) others
      → length stripes ≡ length others → ((k : ℕ) → k < length stripes → AreReadAlike (facts_at stripes k) (facts_at others k)) → stripes ≡ others
  all_alike_same other stripes others see are too long alike =
      ext_get_or no_facts stripes others long
      (λ k below. alike_same other (facts_at stripes k) (facts_at others k) see (are k no_facts below) (too k no_facts (omega (arith, below, long))) (alike k below))
