-- What is marked of each stripe goes on with each column, record and block.
use Rattle.std.proofs.Common.{◌≡◌, ◌≢◌, ◌⊎◌, inl, inr, ℕ, ◌+◌, ◌<◌, List, [], ◌∷◌, ◌++◌, length, refl, sym, ap, ◌∙◌, subst, arith, Bool, true, false, IsSome, is_some, append-nil}
use Rattle.std.specs.List.{All, Contains}
use Rattle.std.proofs.lemmas.List.{map_push, length_push, get_or_push, take_at}
use Rattle.std.proofs.lemmas.List.Elements.{All-push, All-take, All-same, Contains-append_left, Contains-push, Contains-push_cases}
use Rattle.std.proofs.lemmas.Bool.Decides.{eqb_tells}
use Rattle.disk_model.specs.declared.meta.Meta.{Meta}
use Rattle.file_table.specs.declared.block.Block.{Block}
use Rattle.file_table.specs.Table.{Record, Column, column_blocks, blocks_of, positions_of, no_column}
use Rattle.file_table.specs.Valid.{IsHashedAt}
use Rattle.file_table.specs.Building.{last_column, with_column, with_record, with_block, Uses}
use Rattle.file_table.specs.Marks.{AreUsers, AreLacking}
use Rattle.file_table.proofs.ListFacts.{last_of_push}
use Rattle.file_table.proofs.BuildingLemmas.{blocks_in-push, blocks_in-with_block, last_column-with_last, length-with_last}

eq_or_not : (a b : ℕ) → (a ≡ b) ⊎ (a ≢ b)
eq_or_not a b = elim (eqb_tells a b) [ inl same ↦ inl same.1 | inr other ↦ inr other.1 ]

-- nothing is used by a new column
pub AreUsers-column : (columns : List Column) (the_length : ℕ) (used : ℕ → ℕ) (name : List ℕ) → AreUsers columns the_length used → AreUsers (with_column columns name) the_length used
AreUsers-column columns the_length used name are =
    let column : Column = record { name = name; records = [] } in
    let long : length (with_column columns name) ≡ length columns + 1 = length_push columns column in
    let last : last_column (with_column columns name) ≡ column = last_of_push columns column no_column in
    record {
      within = λ position. omega (arith, are.within position);
      here = λ position some is. absurd (omega (arith, are.within position));
      nowhere_else = λ position some below uses.
          let empty : Contains [] position = subst (λ (c : Column). Uses c position) last uses in
          absurd (omega (arith, empty.1));
    }

-- the positions of the last column stay with one more record
pub AreUsers-record : (columns : List Column) (the_length : ℕ) (used : ℕ → ℕ) (path : List ℕ) (meta : Meta) → 0 < length columns → AreUsers columns the_length used → AreUsers (with_record columns path meta) the_length used
AreUsers-record columns the_length used path meta some are =
    let kept : Record = record { path = path; meta = meta; blocks = [] } in
    let column : Column = record { name = (last_column columns).name; records = (last_column columns).records ++ kept ∷ [] } in
    let long : length (with_record columns path meta) ≡ length columns = length-with_last columns column some in
    let last : last_column (with_record columns path meta) ≡ column = last_column-with_last columns column in
    let same : column_blocks (last_column (with_record columns path meta)) ≡ column_blocks (last_column columns) =
    ap column_blocks last ∙ blocks_in-push (last_column columns).records kept ∙ append-nil (column_blocks (last_column columns)) in
    record {
      within = λ position. omega (arith, are.within position);
      here = λ position has is. subst (λ (bs : List Block). Contains (positions_of bs) position) (sym same) (are.here position some (omega arith));
      nowhere_else = λ position has below uses. are.nowhere_else position some below (subst (λ (bs : List Block). Contains (positions_of bs) position) same uses) ∙ sym long;
    }

-- the position of a new block is marked as the last column's
pub AreUsers-block : (columns : List Column) (the_length : ℕ) (used new : ℕ → ℕ) (block : Block) → 0 < length columns → 0 < length (last_column columns).records → block.position < the_length
    → new block.position ≡ length columns → ((position : ℕ) → position ≢ block.position → new position ≡ used position)
    → AreUsers columns the_length used → AreUsers (with_block columns block) the_length new
AreUsers-block columns the_length used new block some has below set_here other are =
    let column : Column = last_column (with_block columns block) in
    let long : length (with_block columns block) ≡ length columns = length-with_last columns _ some in
    let old : List ℕ = positions_of (column_blocks (last_column columns)) in
    let positions : positions_of (column_blocks column) ≡ old ++ block.position ∷ [] =
    ap (λ (c : Column). positions_of (column_blocks c)) (last_column-with_last columns _)
    ∙ ap positions_of (blocks_in-with_block (last_column columns).records block has)
    ∙ map_push (λ (b : Block). b.position) (column_blocks (last_column columns)) block in
    let same : (position : ℕ) → position ≡ block.position → new position ≡ length columns = λ position is. ap new is ∙ set_here in
    record {
      within = λ position. elim (eq_or_not position block.position) [
        | inl is ↦ omega (arith, same position is)
        | inr is ↦ omega (arith, other position is, are.within position)
      ];
      here = λ position has_some is. subst (λ (ps : List ℕ). Contains ps position) (sym positions) (elim (eq_or_not position block.position) [
        | inl same_position ↦ subst (Contains (old ++ block.position ∷ [])) (sym same_position) (Contains-push old block.position)
        | inr not ↦ Contains-append_left old (block.position ∷ []) position (are.here position some (sym (other position not) ∙ is ∙ long))
      ]);
      nowhere_else = λ position has_some inside uses. elim (eq_or_not position block.position) [
        | inl is ↦ same position is ∙ sym long
        | inr is ↦ elim (Contains-push_cases old block.position position (subst (λ (ps : List ℕ). Contains ps position) positions uses)) [
          | inl before ↦ other position is ∙ are.nowhere_else position some inside before ∙ sym long
          | inr here ↦ absurd (is (sym here))
        ]
      ];
    }

-- what holds of all of a list holds of its front and of its last element
All-front : {X : Type 0} (P : X → Type 0) (xs : List X) (y : X) → All P (xs ++ y ∷ []) → All P xs
All-front P xs y all = All-same P xs _ (sym (take_at xs (y ∷ []) (length xs) refl)) (All-take P (length xs) (xs ++ y ∷ []) all)

All-end : {X : Type 0} (P : X → Type 0) (xs : List X) (y : X) → All P (xs ++ y ∷ []) → P y
All-end P xs y all =
    let more : length (xs ++ y ∷ []) ≡ length xs + 1 = length_push xs y in
    subst P (get_or_push xs y y (length xs) refl) (all (length xs) y (omega arith))

-- hashes stay as they are with a column or a record
pub AreLacking-same : (columns more : List Column) (the_length : ℕ) (unhashed : ℕ → Bool) → blocks_of more ≡ blocks_of columns → AreLacking columns the_length unhashed → AreLacking more the_length unhashed
AreLacking-same columns more the_length unhashed same are = record {
  lacks = λ stripe is hashed. are.lacks stripe is (subst (All (λ (b : Block). b.position ≡ stripe → IsSome b.hash)) same hashed);
  has = λ stripe below is. subst (All (λ (b : Block). b.position ≡ stripe → IsSome b.hash)) (sym same) (are.has stripe below is);
}

-- a stripe lacks a hash where it did before, and at a block without one
pub AreLacking-block : (columns more : List Column) (the_length : ℕ) (unhashed new : ℕ → Bool) (block : Block) (lacks : Bool)
    → blocks_of more ≡ blocks_of columns ++ block ∷ [] → block.position < the_length
    → (lacks ≡ true → (unhashed block.position ≡ true) ⊎ (is_some block.hash ≡ false))
    → (lacks ≡ false → (unhashed block.position ≡ false) × (is_some block.hash ≡ true))
    → new block.position ≡ lacks → ((stripe : ℕ) → stripe ≢ block.position → new stripe ≡ unhashed stripe)
    → AreLacking columns the_length unhashed → AreLacking more the_length new
AreLacking-block columns more the_length unhashed new block lacks grows below when unless set_here other are =
    let same : (stripe : ℕ) → stripe ≡ block.position → new stripe ≡ lacks = λ stripe is. ap new is ∙ set_here in
    let hashed : (stripe : ℕ) → IsHashedAt more stripe → All (λ (b : Block). b.position ≡ stripe → IsSome b.hash) (blocks_of columns ++ block ∷ []) =
    λ stripe all. subst (All (λ (b : Block). b.position ≡ stripe → IsSome b.hash)) grows all in
    let before : (stripe : ℕ) → IsHashedAt more stripe → IsHashedAt columns stripe =
    λ stripe all. All-front (λ (b : Block). b.position ≡ stripe → IsSome b.hash) (blocks_of columns) block (hashed stripe all) in
    let here : IsHashedAt more block.position → IsSome block.hash =
    λ all. All-end (λ (b : Block). b.position ≡ block.position → IsSome b.hash) (blocks_of columns) block (hashed block.position all) refl in
    let after : (stripe : ℕ) → IsHashedAt columns stripe → (block.position ≡ stripe → IsSome block.hash) → IsHashedAt more stripe =
    λ stripe all one. subst (All (λ (b : Block). b.position ≡ stripe → IsSome b.hash)) (sym grows) (All-push (λ (b : Block). b.position ≡ stripe → IsSome b.hash) (blocks_of columns) block all one) in
    record {
      lacks = λ stripe is all. elim (eq_or_not stripe block.position) [
        | inl equal ↦
            let all_here : IsHashedAt more block.position = subst (IsHashedAt more) equal all in
            elim (when (sym (same stripe equal) ∙ is)) [
              | inl old ↦ are.lacks block.position old (before block.position all_here)
              | inr without ↦ let some : is_some block.hash ≡ true = here all_here in cc
            ]
        | inr not ↦ are.lacks stripe (sym (other stripe not) ∙ is) (before stripe all)
      ];
      has = λ stripe inside is. elim (eq_or_not stripe block.position) [
        | inl equal ↦
            let both = unless (sym (same stripe equal) ∙ is) in
            after stripe (are.has stripe inside (ap unhashed equal ∙ both.0)) (λ _. both.1)
        | inr not ↦ after stripe (are.has stripe inside (sym (other stripe not) ∙ is)) (λ at. absurd (not (sym at)))
      ];
    }
