-- When a choice of levels gives back the snapshot's blocks, and when some choice does.
use Rattle.std.proofs.Common.{◌≡◌, ◌↔◌, ℕ, ◌-◌, ◌*◌, ◌<◌, Bool, true, List, [], ◌∷◌, length, get_or, take, replicate, IsTrue, refl, sym, ap, ◌∙◌, subst, inl, inr, arith}
use Rattle.std.specs.List.{All, Contains, flat_map}
use Rattle.std.proofs.lemmas.Bool.{cases_lt}
use Rattle.std.proofs.lemmas.List.{get_or-take, get_or-append_right, get_or_append_left, get_or_past, get_or-replicate, length-append, length-replicate, length-take}
use Rattle.std.proofs.lemmas.List.Elements.{All-contains, All-contains_itself, All-from_get_or, All-get_or, Contains-append_right}
use Rattle.std.proofs.lemmas.Grind.{same_number_lists}
use Rattle.cauchy.specs.Matrix.{byte_of}
use Rattle.cauchy.specs.Recovery.{HoldsColumns}
use Rattle.cauchy.specs.System.{AreDistinctBelow, IsChoice, IsSolution, byte_in}
use Rattle.disk_model.specs.Bytes.{resized}
use Rattle.stripe_examiner.specs.Restorable.{AgreesOutside, Accepts, AreBlocksOf, CanAccept, CandidatesAreGenuine, Follows, IsIntact, IsLost, IsOneOf, IsRestorable, IsSnapshotOf, LostStripe, SearchFinds, SearchFindsNone, SomeAccepted, TellsIntact}
use Rattle.stripe_examiner.specs.Search.{block_in, choices, columns_of, given, wanted_at, IsRightBlock}
use Rattle.stripe_examiner.proofs.SearchAccepted.{HasOneSolution, column_at, length-columns_of}
use Rattle.stripe_examiner.proofs.SearchBlocks.{block_byte, joined_byte, length-block_in, length-given, length-joined}
use Rattle.stripe_examiner.proofs.SearchChoices.{HasSome, choices_fit, choices_sublists, sublist_all}
use Rattle.stripe_examiner.proofs.RestorableCounts.{passing_choice, sublist_count}
use Rattle.stripe_examiner.proofs.RestorableFilling.{chosen_sum-holds, has_levels, remainder_is, remainder_of}

-- ---- padded blocks

zero_at : (n k : ℕ) → get_or (replicate {A = ℕ} n 0) k 0 ≡ 0
zero_at n k =
    elim (cases_lt k n) [
      | inl near ↦ get_or-replicate n k 0 0 near
      | inr far ↦ get_or_past (replicate {A = ℕ} n 0) k 0 (omega (arith, far, length-replicate {A = ℕ} n 0))
    ]

resized_byte : (block : List ℕ) (size p : ℕ) → p < size → get_or (resized block size) p 0 ≡ get_or block p 0
resized_byte block size p below =
    elim (cases_lt p (length block)) [
      | inl within ↦
          get_or_append_left (take size block) (replicate (size - length block) 0) 0 p (omega (arith, below, within, length-take size block))
          ∙ get_or-take size block p 0 below
      | inr past ↦
          let long : length (take size block) ≡ length block = omega (arith, below, past, length-take size block) in
          get_or-append_right (take size block) (replicate (size - length block) 0) (length block) p 0 long past
          ∙ zero_at (size - length block) (p - length block)
          ∙ sym (get_or_past block p 0 past)
    ]

length-resized : (block : List ℕ) (size : ℕ) → length (resized block size) ≡ size
length-resized block size =
    omega (arith, length-append (take size block) (replicate (size - length block) 0), length-take size block, length-replicate {A = ℕ} (size - length block) 0)

-- the row's blocks in some columns, end to end
abbrev padded_at : ℕ → List (List ℕ) → ℕ → List ℕ
padded_at size row column = resized (get_or row column []) size

abbrev blocks_at : ℕ → List (List ℕ) → List ℕ → List ℕ
blocks_at size row columns = flat_map (padded_at size row) columns

each_padded : (size : ℕ) (row : List (List ℕ)) (columns : List ℕ) → All (λ column. length (padded_at size row column) ≡ size) columns
each_padded size row columns = λ k d hk. length-resized (get_or row (get_or columns k d) []) size

holds_blocks : (size : ℕ) (row : List (List ℕ)) (columns : List ℕ) → HoldsColumns row columns size (blocks_at size row columns)
holds_blocks size row columns j p hj hp =
    joined_byte (padded_at size row) size columns (each_padded size row columns) j p hj hp ∙ resized_byte (get_or row (get_or columns j 0) []) size p hp

-- ---- a choice of a lost stripe's levels

module _ (lost : LostStripe) (is : IsLost lost) (choice : List ℕ) (one : IsOneOf lost choice) where
  abbrev size : ℕ
  size = lost.shape.block_size

  abbrev columns : List ℕ
  columns = columns_of lost.wanteds

  pub has_some : HasSome (length lost.wanteds) lost.levels choice
  has_some = All-contains (HasSome (length lost.wanteds) lost.levels) (choices (length lost.wanteds) lost.levels) choice (choices_sublists (length lost.wanteds) lost.levels) one

  is_choice : IsChoice columns choice
  is_choice =
      let count = length-columns_of lost.wanteds in
      let each = subst (λ (n : ℕ). All (IsChoice columns) (choices n lost.levels)) count
      (choices_fit columns lost.levels (omega (arith, count, is.some)) is.each_column is.each_level) in
      All-contains (IsChoice columns) (choices (length lost.wanteds) lost.levels) choice each one

  below : All (λ r. r < 6) choice
  below = All-from_get_or (λ r. r < 6) choice 0 is_choice.each_level.below

  pub among : All (Contains lost.levels) choice
  among = sublist_all (Contains lost.levels) has_some.1 (All-contains_itself lost.levels)

  follows_long : (blocks : List ℕ) → Follows lost choice blocks → length blocks ≡ length lost.wanteds * lost.shape.block_size
  follows_long blocks solved =
      solved.same_length ∙ length-given size lost.remainders choice is.remainder_bytes below ∙ ap (λ (n : ℕ). n * size) has_some.0

  pub accepted_long : (blocks : List ℕ) → Accepts lost choice blocks → length blocks ≡ length lost.wanteds * lost.shape.block_size
  accepted_long blocks accepted = follows_long blocks accepted.solves

  pub levels_of_blocks : (blocks : List ℕ) (row : List (List ℕ)) → Follows lost choice blocks → AgreesOutside lost.shape.block_size (columns_of lost.wanteds) row lost.row
      → HoldsColumns row (columns_of lost.wanteds) lost.shape.block_size blocks → All (IsIntact lost row) choice
  levels_of_blocks blocks row = has_levels lost is choice below among blocks row

  module _ (snapshot : List (List ℕ)) (has : IsSnapshotOf lost snapshot) where
    -- where the blocks are the snapshot's, the chosen levels are intact
    pub intact_from_blocks : (blocks : List ℕ) → Follows lost choice blocks → AreBlocksOf lost snapshot blocks → All (IsIntact lost snapshot) choice
    intact_from_blocks blocks solved holds = levels_of_blocks blocks snapshot solved has.others holds

    within : AreDistinctBelow (length snapshot) columns
    within = record { below = λ j hj. omega (arith, is.within j hj, has.others.as_many); distinct = is.each_column.distinct }

    -- where the chosen levels are intact, the snapshot's blocks are a solution
    snapshot_solves : All (IsIntact lost snapshot) choice → (p : ℕ) → p < size
        → IsSolution columns choice (byte_in size (given size lost.remainders choice) p) (λ j. byte_of snapshot (get_or columns j 0) p)
    snapshot_solves intact p hp =
        record {
          are_bytes = λ j hj. has.are_bytes (get_or columns j 0) p;
          sums = λ i hi.
              remainder_is lost snapshot (get_or choice i 0) p hp within has.others (All-get_or (IsIntact lost snapshot) choice i 0 hi intact p hp)
              ∙ sym (remainder_of lost is choice below among i p hi hp);
        }

    -- so they are what follows from these levels
    pub blocks_from_intact : HasOneSolution → (blocks : List ℕ) → Follows lost choice blocks → All (IsIntact lost snapshot) choice → AreBlocksOf lost snapshot blocks
    blocks_from_intact only blocks solved intact j p hj hp =
        only columns choice is_choice (byte_in size (given size lost.remainders choice) p) (byte_in size blocks p) (λ k. byte_of snapshot (get_or columns k 0) p)
        (solved.every_byte p hp) (snapshot_solves intact p hp) j hj

    -- and they are right
    right_blocks : (blocks : List ℕ) → length blocks ≡ length lost.wanteds * size → AreBlocksOf lost snapshot blocks
        → (j : ℕ) → j < length lost.wanteds → IsRightBlock lost.shape (wanted_at lost.wanteds j) (block_in size blocks j)
    right_blocks blocks long holds j hj =
        let column = (wanted_at lost.wanteds j).column in
        let block = get_or snapshot column [] in
        let block_long = length-block_in size (length lost.wanteds) blocks j long hj in
        let same : resized block size ≡ block_in size blocks j =
        same_number_lists (resized block size) (block_in size blocks j) (length-resized block size ∙ sym block_long)
        (λ p hp.
        let less : p < size = omega (arith, length-resized block size) in
        resized_byte block size p less ∙ ap (λ (c : ℕ). byte_of snapshot c p) (sym (column_at lost.wanteds j hj))
        ∙ sym (holds j p (omega (arith, length-columns_of lost.wanteds)) less) ∙ sym (block_byte size blocks j p less)) in
        subst (λ (found : List ℕ). IsRightBlock lost.shape (wanted_at lost.wanteds j) found) same (has.recorded j hj)

    pub accepted_from_blocks : (blocks : List ℕ) → Follows lost choice blocks → AreBlocksOf lost snapshot blocks → Accepts lost choice blocks
    accepted_from_blocks blocks solved holds =
        record { solves = solved; right = right_blocks blocks (follows_long blocks solved) holds }

    snapshot_follows : All (IsIntact lost snapshot) choice → Follows lost choice (blocks_at size snapshot columns)
    snapshot_follows intact =
        let blocks = blocks_at size snapshot columns in
        record {
          same_length =
              length-joined (padded_at size snapshot) size columns (each_padded size snapshot columns)
              ∙ ap (λ (n : ℕ). n * size) is_choice.same_count ∙ sym (length-given size lost.remainders choice is.remainder_bytes below);
          every_byte = λ p hp.
              let solution = snapshot_solves intact p hp in
              record {
                are_bytes = λ j hj. subst (λ (byte : ℕ). byte < 256) (sym (holds_blocks size snapshot columns j p hj hp)) (solution.are_bytes j hj);
                sums = λ i hi. chosen_sum-holds (get_or choice i 0) size columns blocks snapshot p hp (holds_blocks size snapshot columns) ∙ solution.sums i hi;
              };
        }

    pub can_accept : All (IsIntact lost snapshot) choice → CanAccept lost choice
    can_accept intact =
        (blocks_at size snapshot columns, accepted_from_blocks (blocks_at size snapshot columns) (snapshot_follows intact) (holds_blocks size snapshot columns))

    -- under the premise accepted blocks are the snapshot's
    module _ (genuine : CandidatesAreGenuine lost snapshot) where
      pub blocks_from_accepted : (blocks : List ℕ) → Accepts lost choice blocks → AreBlocksOf lost snapshot blocks
      blocks_from_accepted blocks accepted j p hj hp =
          let near : j < length lost.wanteds = omega (arith, length-columns_of lost.wanteds) in
          genuine choice blocks one accepted.solves j near (accepted.right j near) p hp
          ∙ ap (λ (c : ℕ). byte_of snapshot c p) (sym (column_at lost.wanteds j near))

      pub intact_from_accepted : CanAccept lost choice → All (IsIntact lost snapshot) choice
      intact_from_accepted some = intact_from_blocks some.0 some.1.solves (blocks_from_accepted some.0 some.1)

-- ---- some choice

module _ (lost : LostStripe) (is : IsLost lost) (snapshot : List (List ℕ)) (has : IsSnapshotOf lost snapshot) (is_intact : ℕ → Bool)
    (tells : TellsIntact lost snapshot is_intact) where
  abbrev Says : ℕ → Type 0
  Says r = IsTrue (is_intact r) ↔ IsIntact lost snapshot r

  pub accepted_from_count : IsRestorable lost is_intact → SomeAccepted lost
  accepted_from_count enough =
      let found = passing_choice is_intact (length lost.wanteds) lost.levels enough in
      let choice = found.0 in
      let inside = among lost is choice found.1 in
      let intact : All (IsIntact lost snapshot) choice =
      All-from_get_or (IsIntact lost snapshot) choice 0
      (λ i hi. (All-contains Says lost.levels (get_or choice i 0) tells (inside i 0 hi)).0 (found.2 i 0 hi)) in
      (choice, found.1, can_accept lost is choice found.1 snapshot has intact)

  pub count_from_accepted : CandidatesAreGenuine lost snapshot → SomeAccepted lost → IsRestorable lost is_intact
  count_from_accepted genuine some =
      let choice = some.0 in
      let part = has_some lost is choice some.1 in
      let inside = among lost is choice some.1 in
      let intact = intact_from_accepted lost is choice some.1 snapshot has genuine some.2 in
      let passes : All (λ r. is_intact r ≡ true) choice =
      All-from_get_or (λ r. is_intact r ≡ true) choice 0
      (λ i hi. (All-contains Says lost.levels (get_or choice i 0) tells (inside i 0 hi)).1 (intact i 0 hi)) in
      let less = sublist_count is_intact part.1 passes in
      omega (arith, part.0, less)

-- ---- how the search ends

pub found_choice : (lost : LostStripe) (blocks : List ℕ) → SearchFinds lost blocks → (choice : List ℕ) × IsOneOf lost choice × Accepts lost choice blocks
found_choice lost blocks found =
    let last = Contains-append_right found.earlier (found.choice ∷ found.later) found.choice (0, omega arith, refl) in
    (found.choice, subst (λ (tried : List (List ℕ)). Contains tried found.choice) (sym found.parts) last, found.accepted)

pub none_accepted : (lost : LostStripe) → SearchFindsNone lost → SomeAccepted lost → ⊥
none_accepted lost none some =
    All-contains (λ (choice : List ℕ). CanAccept lost choice → ⊥) (choices (length lost.wanteds) lost.levels) some.0 none some.1 some.2
