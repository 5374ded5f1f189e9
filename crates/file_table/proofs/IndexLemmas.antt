-- The positions of a column with their places, in order.
use Rattle.std.proofs.Common.{◌≡◌, ◌≢◌, inl, inr, ℕ, ◌+◌, ◌<◌, zero, suc, List, [], ◌∷◌, ◌++◌, length, get_or, take, refl, sym, ap, ◌∙◌, subst, arith}
use Rattle.std.specs.List.{All, Contains}
use Rattle.std.specs.List.Sorted.{IsPartitionPoint}
use Rattle.std.specs.Ordering.{nat_cmp}
use Rattle.std.specs.declared.cmp.Ordering.TheVariants.{Less, Equal, Greater}
use Rattle.std.proofs.lemmas.List.Sorted.{IsPermutation-sym, All-permutation, Contains-permutation}
use Rattle.std.proofs.lemmas.Cmp.{nat_cmp_total, tied_itself}
use Rattle.std.proofs.lemmas.Bool.{cases_lt}
use Rattle.std.proofs.lemmas.List.{length-map, length-take, map_push, take_more}
use Rattle.file_table.specs.declared.block.Block.{Block}
use Rattle.file_table.specs.declared.index.Spot.{Spot}
use Rattle.file_table.specs.Table.{positions_of, no_block}
use Rattle.file_table.specs.Index.{spots_from, IsIndex}

pub length-spots_from : (place : ℕ) (positions : List ℕ) → length (spots_from place positions) ≡ length positions
length-spots_from place [] = refl
length-spots_from place (position ∷ positions) = ap suc (length-spots_from (place + 1) positions)

-- the spot of a place
spot_at : (place : ℕ) (positions : List ℕ) (k : ℕ) (d : Spot) → k < length positions → get_or (spots_from place positions) k d ≡ (let spot : Spot = record { position = get_or positions k 0; place = place + k } in spot)
spot_at place [] k d within = absurd (omega arith)
spot_at place (position ∷ positions) zero d within =
    let same : place ≡ place + 0 = omega arith in ap (λ (n : ℕ). let spot : Spot = record { position = position; place = n } in spot) same
spot_at place (position ∷ positions) (suc k) d within =
    let same : (place + 1) + k ≡ place + suc k = omega arith in
    spot_at (place + 1) positions k d (omega arith) ∙ ap (λ (n : ℕ). let spot : Spot = record { position = get_or positions k 0; place = n } in spot) same

-- one more position at the end
pub spots_from-push : (place : ℕ) (positions : List ℕ) (position : ℕ) → spots_from place (positions ++ position ∷ []) ≡ spots_from place positions ++ (let spot : Spot = record { position = position; place = place + length positions } in spot) ∷ []
spots_from-push place [] position =
    let same : place ≡ place + 0 = omega arith in ap (λ (n : ℕ). let spot : Spot = record { position = position; place = n } in spot ∷ []) same
spots_from-push place (first ∷ positions) position =
    let same : (place + 1) + length positions ≡ place + suc (length positions) = omega arith in
    let here : Spot = record { position = first; place = place } in
    ap (λ (spots : List Spot). here ∷ spots)
    (spots_from-push (place + 1) positions position ∙ ap (λ (n : ℕ). spots_from (place + 1) positions ++ (let spot : Spot = record { position = position; place = n } in spot) ∷ []) same)

-- a spot of an index tells a place and the position there
pub place_of_spot : (positions : List ℕ) (spots : List Spot) (spot : Spot) → IsIndex positions spots → Contains spots spot → (spot.place < length positions) × (get_or positions spot.place 0 ≡ spot.position)
place_of_spot positions spots spot is held =
    let there = Contains-permutation spots (spots_from 0 positions) spot (IsPermutation-sym (spots_from 0 positions) spots is) held in
    let within : there.0 < length positions = omega (arith, length-spots_from 0 positions, there.1) in
    let read = sym (spot_at 0 positions there.0 spot within) ∙ there.2 in
    let place : 0 + there.0 ≡ spot.place = ap (λ (s : Spot). s.place) read in
    let at : get_or positions there.0 0 ≡ spot.position = ap (λ (s : Spot). s.position) read in
    let same : there.0 ≡ spot.place = omega arith in
    (subst (λ (n : ℕ). n < length positions) same within, subst (λ (n : ℕ). get_or positions n 0 ≡ spot.position) same at)

-- where no spot has a position, it stands nowhere
pub no_spot : (positions : List ℕ) (spots : List Spot) (position : ℕ) → IsIndex positions spots → All (λ (spot : Spot). spot.position ≢ position) spots → (k : ℕ) → k < length positions → get_or positions k 0 ≢ position
no_spot positions spots position is none k within at =
    let all : All (λ (spot : Spot). spot.position ≢ position) (spots_from 0 positions) = All-permutation (λ (spot : Spot). spot.position ≢ position) spots (spots_from 0 positions) (IsPermutation-sym (spots_from 0 positions) spots is) none in
    let d : Spot = record { position = 0; place = 0 } in
    let inside : k < length (spots_from 0 positions) = omega (arith, length-spots_from 0 positions) in
    all k d inside (ap (λ (s : Spot). s.position) (spot_at 0 positions k d within) ∙ at)

-- a search that finds nothing among rising positions: none is the one that is sought
pub none_found : (spots : List Spot) (position place : ℕ) → IsPartitionPoint (λ (spot : Spot). nat_cmp spot.position position ≡ Less) (λ (spot : Spot). nat_cmp spot.position position ≡ Greater) spots place → All (λ (spot : Spot). spot.position ≢ position) spots
none_found spots position place splits k d within at =
    let tied : nat_cmp (get_or spots k d).position position ≡ Equal = ap (λ (n : ℕ). nat_cmp (get_or spots k d).position n) (sym at) ∙ tied_itself nat_cmp_total (get_or spots k d).position in
    elim (cases_lt k place) [
      | inl less ↦ let below : nat_cmp (get_or spots k d).position position ≡ Less = splits.0 k d (omega arith) less in cc
      | inr ge ↦ let above : nat_cmp (get_or spots k d).position position ≡ Greater = splits.1 k d ge within in cc
    ]

-- the spots of one more block
pub spots_more : (blocks : List Block) (place : ℕ) → place < length blocks
    → spots_from 0 (positions_of (take place blocks)) ++ (let spot : Spot = record { position = (get_or blocks place no_block).position; place = place } in spot) ∷ [] ≡ spots_from 0 (positions_of (take (place + 1) blocks))
spots_more blocks place within =
    let block : Block = get_or blocks place no_block in
    let more : take (place + 1) blocks ≡ take place blocks ++ block ∷ [] = take_more blocks place no_block within in
    let positions : positions_of (take (place + 1) blocks) ≡ positions_of (take place blocks) ++ block.position ∷ [] = ap positions_of more ∙ map_push (λ (b : Block). b.position) (take place blocks) block in
    let long : 0 + length (positions_of (take place blocks)) ≡ place = omega (arith, length-map (take place blocks) (λ (b : Block). b.position), length-take place blocks) in
    sym (ap (spots_from 0) positions ∙ spots_from-push 0 (positions_of (take place blocks)) block.position
    ∙ ap (λ (n : ℕ). spots_from 0 (positions_of (take place blocks)) ++ (let spot : Spot = record { position = block.position; place = n } in spot) ∷ []) long)
