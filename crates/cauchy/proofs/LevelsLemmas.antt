-- All levels of a row, column by column and part by part.
use Rattle.std.proofs.Common.{◌≡◌, ◌≢◌, ℕ, ◌+◌, ◌-◌, ◌*◌, ◌<◌, ◌≤◌, List, [], ◌∷◌, ◌++◌, length, get_or, get_or-set_other, get_or-set_same, replicate, set, length-set, take, drop, refl, sym, ap, ◌∙◌, subst, inl, inr, arith}
use Rattle.std.specs.Borrow.{Bor}
use Rattle.std.specs.Int.Bits.{bit_xor, xor_zero_r}
use Rattle.std.proofs.lemmas.Bool.{cases_lt, cases_eq}
use Rattle.std.proofs.lemmas.List.{get_or-map, length-map, take_more, get_or_past, get_or-replicate, length-replicate, get_or-take, get_or-drop, length-take, length-drop}
use Rattle.gf256.specs.Field.{product}
use Rattle.gf256.proofs.Theorems.{one_times, product-zero}
use Rattle.cauchy.specs.Lanes.{HasLanes, StoresFrom}
use Rattle.cauchy.specs.Levels.{blocks_of, HoldLanes, HoldsLevel, FillsWithin}
use Rattle.cauchy.specs.Matrix.{entry_of, parity_byte}
use Rattle.cauchy.specs.System.{byte_in}
use Rattle.cauchy.proofs.ParityLemmas.{parity_byte-push, parity_of-bytes}
use Rattle.cauchy.proofs.SolvingLemmas.{apart_places, block_within}

-- one more byte is stored
pub StoresFrom-more : (start width : ℕ) (values : ℕ → ℕ) (old half : List ℕ) → start + width < length half
    → StoresFrom start width values old half → StoresFrom start (width + 1) values old (set half (start + width) (values width))
StoresFrom-more start width values old half within sofar =
    record {
      same_length = length-set half (start + width) (values width) ∙ sofar.same_length;
      within = λ k h.
          elim (cases_lt k width) [
            | inl earlier ↦
                let other : start + k ≢ start + width = omega arith in
                get_or-set_other half (start + width) (start + k) (values width) 0 other ∙ sofar.within k earlier
            | inr last ↦
                let same : width ≡ k = omega arith in
                ap (λ (p : ℕ). get_or (set half (start + width) (values width)) (start + p) 0) (sym same)
                ∙ get_or-set_same half (start + width) (values width) 0 within ∙ ap values same
          ];
      before = λ k h.
          let other : k ≢ start + width = omega arith in get_or-set_other half (start + width) k (values width) 0 other ∙ sofar.before k h;
      after = λ k h.
          let other : k ≢ start + width = omega arith in
          get_or-set_other half (start + width) k (values width) 0 other ∙ sofar.after k (omega arith);
    }

-- nothing is stored yet
pub StoresFrom-none : (start : ℕ) (values : ℕ → ℕ) (old : List ℕ) → StoresFrom start 0 values old old
StoresFrom-none start values old =
    record { same_length = refl; within = λ k h. absurd (omega arith); before = λ k h. refl; after = λ k h. refl }

-- what holds of each element before a place, and of the one that is put there
pub made_more : {X : Type 0} (P : ℕ → List X → Type 0) (xs : List (List X)) (i : ℕ) (x : List X) → i < length xs → ((q : ℕ) → q < i → P q (get_or xs q [])) → P i x
    → (q : ℕ) → q < i + 1 → P q (get_or (set xs i x) q [])
made_more {X} P xs i x within sofar this q h =
    elim (cases_lt q i) [
      | inl earlier ↦ let other : q ≢ i = omega arith in subst (P q) (sym (get_or-set_other xs i q x [] other)) (sofar q earlier)
      | inr last ↦
          let same : i ≡ q = omega arith in
          subst (λ (k : ℕ). P k (get_or (set xs i x) k [])) same (subst (P i) (sym (get_or-set_same xs i x [] within)) this)
    ]

-- ---- the columns of a row

-- the columns before one that is there
pub count_of_front : (blocks : List (Bor (List ℕ))) (c : ℕ) → c < length blocks → length (take c (blocks_of blocks)) ≡ c
count_of_front blocks c within = omega (arith, within, length-take c (blocks_of blocks), length-map blocks (λ (block : Bor (List ℕ)). block.now))

-- the next column is the next block
pub next_block_of : (blocks : List (Bor (List ℕ))) (c : ℕ) (d : Bor (List ℕ)) → c < length blocks
    → take (c + 1) (blocks_of blocks) ≡ take c (blocks_of blocks) ++ (get_or blocks c d).now ∷ []
next_block_of blocks c d within =
    take_more (blocks_of blocks) c [] (omega (arith, within, length-map blocks (λ (block : Bor (List ℕ)). block.now)))
    ∙ ap (λ (block : List ℕ). take c (blocks_of blocks) ++ block ∷ []) (get_or-map (λ (block : Bor (List ℕ)). block.now) blocks c d [] within)

-- ---- one column more

-- the products of its lanes with the entry are its part of a level
pub lanes_more : (level : ℕ) (row : List (List ℕ)) (block : List ℕ) (start : ℕ) (old bytes parts new : List ℕ) → HasLanes old (λ k. parity_byte level row (start + k))
    → HasLanes bytes (λ k. get_or block (start + k) 0) → HasLanes parts (λ k. product (entry_of level (length row)) (get_or bytes k 0))
    → HasLanes new (λ k. bit_xor (get_or old k 0) (get_or parts k 0)) → HasLanes new (λ k. parity_byte level (row ++ block ∷ []) (start + k))
lanes_more level row block start old bytes parts new was loaded multiplied summed =
    record {
      long = summed.long;
      each = λ k l.
          summed.each k l ∙ ap (λ (x : ℕ). bit_xor x (get_or parts k 0)) (was.each k l)
          ∙ ap (bit_xor (parity_byte level row (start + k))) (multiplied.each k l ∙ ap (product (entry_of level (length row))) (loaded.each k l))
          ∙ sym (parity_byte-push level row block (start + k));
    }

-- the entries of level 0 are 1
pub lanes_of_one : (column : ℕ) (bytes : List ℕ) → length bytes ≡ 32 → ((k : ℕ) → k < 32 → get_or bytes k 0 < 256) → HasLanes bytes (λ k. product (entry_of 0 column) (get_or bytes k 0))
unfolding entry_of
lanes_of_one column bytes long small = record { long = long; each = λ k l. sym (one_times (get_or bytes k 0) (small k l)) }

-- of a column without bytes at these places nothing is added
pub lanes_past : (count start : ℕ) (row : List (List ℕ)) (block : List ℕ) (lanes : List (List ℕ)) → length block ≤ start → HoldLanes count start row lanes
    → HoldLanes count start (row ++ block ∷ []) lanes
lanes_past count start row block lanes past holds =
    record {
      long = holds.long;
      each = λ r h.
          let was = holds.each r h in
          record {
            long = was.long;
            each = λ k l.
                was.each k l
                ∙ sym (parity_byte-push r row block (start + k)
                ∙ ap (λ (x : ℕ). bit_xor (parity_byte r row (start + k)) (product (entry_of r (length row)) x)) (get_or_past block (start + k) 0 (omega arith))
                ∙ ap (bit_xor (parity_byte r row (start + k))) (product-zero (entry_of r (length row)))
                ∙ xor_zero_r (parity_byte r row (start + k)));
          };
    }

-- no column is added yet
pub lanes_none : (count start : ℕ) → HoldLanes count start [] (replicate count (replicate 32 0))
unfolding parity_byte
lanes_none count start =
    record {
      long = length-replicate count (replicate 32 0);
      each = λ r h.
          subst (λ (lanes : List ℕ). HasLanes lanes (λ k. 0)) (sym (get_or-replicate count r (replicate 32 0) [] h))
          (record { long = length-replicate {A = ℕ} 32 0; each = λ k l. get_or-replicate {A = ℕ} 32 k 0 0 l });
    }

-- of so many levels the column is added, and the others are as they were
pub record AddedTo (done count start : ℕ) (row : List (List ℕ)) (block : List ℕ) (lanes : List (List ℕ)) : Type 0 where
  pub long : length lanes ≡ count
  pub added : (r : ℕ) → r < done → HasLanes (get_or lanes r []) (λ k. parity_byte r (row ++ block ∷ []) (start + k))
  pub others : (r : ℕ) → done ≤ r → r < count → HasLanes (get_or lanes r []) (λ k. parity_byte r row (start + k))

pub AddedTo-none : (count start : ℕ) (row : List (List ℕ)) (block : List ℕ) (lanes : List (List ℕ)) → HoldLanes count start row lanes → AddedTo 0 count start row block lanes
AddedTo-none count start row block lanes holds =
    record { long = holds.long; added = λ r h. absurd (omega arith); others = λ r from h. holds.each r h }

pub AddedTo-more : (done count start : ℕ) (row : List (List ℕ)) (block : List ℕ) (lanes : List (List ℕ)) (new : List ℕ) → done < count → AddedTo done count start row block lanes
    → HasLanes new (λ k. parity_byte done (row ++ block ∷ []) (start + k)) → AddedTo (done + 1) count start row block (set lanes done new)
AddedTo-more done count start row block lanes new more sofar made =
    record {
      long = length-set lanes done new ∙ sofar.long;
      added = λ r h.
          elim (cases_lt r done) [
            | inl earlier ↦
                let other : r ≢ done = omega arith in
                subst (λ (v : List ℕ). HasLanes v (λ k. parity_byte r (row ++ block ∷ []) (start + k))) (sym (get_or-set_other lanes done r new [] other)) (sofar.added r earlier)
            | inr last ↦
                let same : done ≡ r = omega arith in
                let within : done < length lanes = omega (arith, sofar.long) in
                subst (λ (q : ℕ). HasLanes (get_or (set lanes done new) q []) (λ k. parity_byte q (row ++ block ∷ []) (start + k))) same
                (subst (λ (v : List ℕ). HasLanes v (λ k. parity_byte done (row ++ block ∷ []) (start + k))) (sym (get_or-set_same lanes done new [] within)) made)
          ];
      others = λ r from h.
          let other : r ≢ done = omega arith in
          subst (λ (v : List ℕ). HasLanes v (λ k. parity_byte r row (start + k))) (sym (get_or-set_other lanes done r new [] other)) (sofar.others r (omega arith) h);
    }

pub AddedTo-all : (done count start : ℕ) (row : List (List ℕ)) (block : List ℕ) (lanes : List (List ℕ)) → count ≤ done → AddedTo done count start row block lanes → HoldLanes count start (row ++ block ∷ []) lanes
AddedTo-all done count start row block lanes all sofar = record { long = sofar.long; each = λ r h. sofar.added r (omega arith) }

-- ---- one part of each level more

pub FillsWithin-none : (start end count size : ℕ) (row : List (List ℕ)) (old : List ℕ) → FillsWithin start end 0 count size row old old
FillsWithin-none start end count size row old =
    record { same_length = refl; within = λ r p hr low high. absurd (omega arith); before = λ r p hr hp. refl }

pub FillsWithin-all : (start end done count size : ℕ) (row : List (List ℕ)) (old new : List ℕ) → count ≤ done → FillsWithin start end done count size row old new
    → FillsWithin start end count count size row old new
FillsWithin-all start end done count size row old new all sofar =
    record { same_length = sofar.same_length; within = λ r p hr low high. sofar.within r p (omega arith) low high; before = sofar.before }

module _ (start width size j count : ℕ) (row : List (List ℕ)) (old half new : List ℕ) (values : ℕ → ℕ) (fits : start + width ≤ size)
    (stored : StoresFrom (j * size + start) width values half new) where
  other_block : (p k : ℕ) → p < size → k ≢ j → byte_in size new p k ≡ byte_in size half p k
  other_block p k hp apart =
      elim (apart_places size j k start p width fits hp apart) [
        | inl below ↦ stored.before (k * size + p) below
        | inr above ↦ stored.after (k * size + p) above
      ]

  pub FillsWithin-more : ((k : ℕ) → k < width → values k ≡ parity_byte j row (start + k)) → FillsWithin start (start + width) j count size row old half
      → FillsWithin start (start + width) (j + 1) count size row old new
  FillsWithin-more made sofar =
      record {
        same_length = stored.same_length ∙ sofar.same_length;
        within = λ r p hr low high.
            elim (cases_lt r j) [
              | inl earlier ↦
                  let apart : r ≢ j = omega arith in
                  other_block p r (omega arith) apart ∙ sofar.within r p earlier low high
              | inr last ↦
                  let same : j ≡ r = omega arith in
                  let k : ℕ = p - start in
                  let here : start + k ≡ p = omega arith in
                  let place : j * size + start + k ≡ j * size + p = omega arith in
                  let made_here : byte_in size new p j ≡ parity_byte j row p =
                  ap (λ (x : ℕ). get_or new x 0) (sym place) ∙ stored.within k (omega arith) ∙ made k (omega arith) ∙ ap (parity_byte j row) here in
                  subst (λ (q : ℕ). byte_in size new p q ≡ parity_byte q row p) same made_here
            ];
        before = λ r p hr hp.
            elim (cases_eq r j) [
              | inl same ↦ stored.before (r * size + p) (rw same (omega arith)) ∙ sofar.before r p hr hp
              | inr apart ↦ other_block p r (omega arith) apart ∙ sofar.before r p hr hp
            ];
      }

-- the bytes of each level before a place are filled
pub record FilledBelow (end count size : ℕ) (row : List (List ℕ)) (out : List ℕ) : Type 0 where
  pub room : count * size ≤ length out
  pub bytes : (r p : ℕ) → r < count → p < end → p < size → byte_in size out p r ≡ parity_byte r row p

pub FilledBelow-none : (count size : ℕ) (row : List (List ℕ)) (out : List ℕ) → count * size ≤ length out → FilledBelow 0 count size row out
FilledBelow-none count size row out room = record { room = room; bytes = λ r p hr hp hs. absurd (omega arith) }

pub FilledBelow-more : (start end next count size : ℕ) (row : List (List ℕ)) (old new : List ℕ) → ((p : ℕ) → p < next → p < size → p < end) → FilledBelow start count size row old
    → FillsWithin start end count count size row old new → FilledBelow next count size row new
FilledBelow-more start end next count size row old new reach sofar filled =
    record {
      room = omega (arith, filled.same_length, sofar.room);
      bytes = λ r p hr hp hs.
          elim (cases_lt p start) [
            | inl earlier ↦ filled.before r p hr earlier ∙ sofar.bytes r p hr earlier hs
            | inr later ↦ filled.within r p hr later (reach p hp hs)
          ];
    }

-- a level is known by its bytes
pub FilledBelow-level : (end count size : ℕ) (row : List (List ℕ)) (out : List ℕ) (r : ℕ) → size ≤ end → r < count → FilledBelow end count size row out → HoldsLevel size row r out
FilledBelow-level end count size row out r all hr filled =
    parity_of-bytes r size row (take (r * size + size - r * size) (drop (r * size) out)) long
    (λ p hp.
    get_or-take (r * size + size - r * size) (drop (r * size) out) p 0 (omega arith)
    ∙ get_or-drop (r * size) out p 0 ∙ filled.bytes r p hr (omega arith) hp)
  where
    long : length (take (r * size + size - r * size) (drop (r * size) out)) ≡ size
    long =
        omega (arith, block_within size r count hr, filled.room, length-drop (r * size) out, length-take (r * size + size - r * size) (drop (r * size) out))
