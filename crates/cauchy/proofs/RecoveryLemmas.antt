-- Exactly one row agrees with a row outside the missing columns and has the given levels.
use Rattle.std.proofs.Common.{◌≡◌, ℕ, ◌<◌, ◌≤◌, Bool, true, false, cond, List, [], length, get_or, map, refl, sym, ap, ◌∙◌, inl, inr, zero-add, add-one, length-append, suc, ◌∷◌, ◌++◌, arith}
use Rattle.std.specs.List.{range_with_len}
use Rattle.std.specs.Int.Bits.{bit_xor, xor_assoc, xor_self, xor_zero_r}
use Rattle.std.proofs.lemmas.Nat.{xor_lt}
use Rattle.std.proofs.lemmas.Bool.{cases_lt}
use Rattle.std.proofs.lemmas.List.{same_lists, get_or_default, get_or_append_left}
use Rattle.std.proofs.Math.Seq.{get_or-append_seam}
use Rattle.std.proofs.lemmas.Grind.{same_number_lists}
use Rattle.std.proofs.Math.ListN.{get_or-eq_default}
use Rattle.std.proofs.lemmas.List.FromFn.{length-map-range_with_len, get_or-map-range_with_len}
use Rattle.gf256.specs.Field.{sum_below, product}
use Rattle.gf256.proofs.Theorems.{product_lt}
use Rattle.cauchy.specs.Matrix.{entry_of, byte_of, parity_of}
use Rattle.cauchy.specs.System.{IsChoice, IsSolution, SolvesBlocks, chosen_sum, byte_in}
use Rattle.cauchy.specs.Recovery.{AreBytes, IsRow, IsPart, IsRecovered, HoldsRemainders, HoldsColumns, is_among, others_sum}
use Rattle.cauchy.proofs.Sums.{sum_below-same, sum_below-lt}
use Rattle.cauchy.proofs.EliminationLemmas.{move}
use Rattle.cauchy.proofs.MatrixLemmas.{solution_exists, solution_only, entry_lt}
use Rattle.cauchy.proofs.ParityLemmas.{get_or-parity_of, parity_of-bytes}
use Rattle.cauchy.proofs.RowLemmas.{index_of, among_index, among_at, index_at, parity_byte-split}

-- a sum added twice is gone
added_twice : (a b : ℕ) → bit_xor (bit_xor a b) b ≡ a
added_twice a b = xor_assoc a b b ∙ ap (bit_xor a) (xor_self b) ∙ xor_zero_r a

-- ---- the sum over the other columns

others_sum-same : (level : ℕ) (missing : List ℕ) (one other : List (List ℕ)) (p : ℕ) → length one ≡ length other
    → ((c : ℕ) → c < length other → is_among missing c ≡ false → get_or one c [] ≡ get_or other c []) → others_sum level missing one p ≡ others_sum level missing other p
others_sum-same level missing one other p same agree =
    ap (sum_below (λ c. cond (is_among missing c) 0 (product (entry_of level c) (byte_of one c p)))) same
    ∙ sum_below-same (λ c. cond (is_among missing c) 0 (product (entry_of level c) (byte_of one c p))) (λ c. cond (is_among missing c) 0 (product (entry_of level c) (byte_of other c p))) (length other)
    (λ c hc.
    (elim (is_among missing c) as (λ (b : Bool). is_among missing c ≡ b → cond b 0 (product (entry_of level c) (byte_of one c p)) ≡ cond b 0 (product (entry_of level c) (byte_of other c p))) [
      | true ↦ λ there. refl
      | false ↦ λ absent. ap (λ (block : List ℕ). product (entry_of level c) (get_or block p 0)) (agree c hc absent)
    ]) refl)

others_sum-lt : (level : ℕ) (missing : List ℕ) (row : List (List ℕ)) (p : ℕ) → level < 6 → length row ≤ 251 → ((c : ℕ) → byte_of row c p < 256) → others_sum level missing row p < 256
others_sum-lt level missing row p hl most bytes =
    sum_below-lt (λ c. cond (is_among missing c) 0 (product (entry_of level c) (byte_of row c p))) (length row)
    (λ c hc.
    elim (is_among missing c) as (λ (b : Bool). cond b 0 (product (entry_of level c) (byte_of row c p)) < 256) [
      | true ↦ omega arith
      | false ↦ product_lt (entry_of level c) (byte_of row c p) (entry_lt level c hl (omega arith)) (bytes c)
    ])

-- one more column
others_sum-push : (level : ℕ) (missing : List ℕ) (row : List (List ℕ)) (block : List ℕ) (p : ℕ)
    → others_sum level missing (row ++ block ∷ []) p
    ≡ bit_xor (others_sum level missing row p) (cond (is_among missing (length row)) 0 (product (entry_of level (length row)) (get_or block p 0)))
others_sum-push level missing row block p =
    let term = λ (longer : List (List ℕ)) (c : ℕ). cond (is_among missing c) 0 (product (entry_of level c) (byte_of longer c p)) in
    let longer : length (row ++ block ∷ []) ≡ suc (length row) = length-append row (block ∷ []) ∙ add-one (length row) in
    ap (sum_below (term (row ++ block ∷ []))) longer
    ∙ ap (λ (x : ℕ). bit_xor x (term (row ++ block ∷ []) (length row)))
    (sum_below-same (term (row ++ block ∷ [])) (term row) (length row)
    (λ c hc. ap (λ (b : List ℕ). cond (is_among missing c) 0 (product (entry_of level c) (get_or b p 0))) (get_or_append_left row (block ∷ []) [] c hc)))
    ∙ ap (λ (b : List ℕ). bit_xor (others_sum level missing row p) (cond (is_among missing (length row)) 0 (product (entry_of level (length row)) (get_or b p 0))))
    (get_or-append_seam row block [] [])

-- a missing column adds nothing to it, and another column its term
pub missing_column : (level : ℕ) (missing : List ℕ) (row : List (List ℕ)) (block : List ℕ) (p : ℕ) → is_among missing (length row) ≡ true
    → others_sum level missing (row ++ block ∷ []) p ≡ others_sum level missing row p
missing_column level missing row block p there =
    others_sum-push level missing row block p
    ∙ ap (λ (b : Bool). bit_xor (others_sum level missing row p) (cond b 0 (product (entry_of level (length row)) (get_or block p 0)))) there
    ∙ xor_zero_r (others_sum level missing row p)

pub other_column : (level : ℕ) (missing : List ℕ) (row : List (List ℕ)) (block : List ℕ) (p : ℕ) → is_among missing (length row) ≡ false
    → others_sum level missing (row ++ block ∷ []) p ≡ bit_xor (others_sum level missing row p) (product (entry_of level (length row)) (get_or block p 0))
other_column level missing row block p absent =
    others_sum-push level missing row block p
    ∙ ap (λ (b : Bool). bit_xor (others_sum level missing row p) (cond b 0 (product (entry_of level (length row)) (get_or block p 0)))) absent

-- ---- the columns of a row are the solution of its remainders

pub columns_hold : (row : List (List ℕ)) (missing levels : List ℕ) (block : ℕ) (old new : List ℕ) → IsChoice missing levels → IsPart missing row → AreBytes row
    → SolvesBlocks missing levels block old new → HoldsRemainders row missing levels block old → HoldsColumns row missing block new
columns_hold row missing levels block old new choice part rows solved remainders j p hj hp =
    solution_only missing levels choice (byte_in block old p) (byte_in block new p) (λ k. byte_of row (get_or missing k 0) p) (solved.every_byte p hp)
    record {
      are_bytes = λ k hk. rows (get_or missing k 0) p;
      sums = λ i hi.
          sym (remainders i p hi hp
          ∙ ap (λ (x : ℕ). bit_xor x (others_sum (get_or levels i 0) missing row p))
          (parity_byte-split (get_or levels i 0) missing row p choice.each_column.distinct part.within)
          ∙ added_twice (chosen_sum (get_or levels i 0) missing (λ k. byte_of row (get_or missing k 0) p)) (others_sum (get_or levels i 0) missing row p));
    } j hj

-- ---- one recovered row

module _ (size : ℕ) (row : List (List ℕ)) (missing levels : List ℕ) (given : List (List ℕ)) (choice : IsChoice missing levels) (part : IsPart missing row) (rows : IsRow size row)
    (blocks : IsRow size given) (count : length given ≡ length levels) where
  -- what the missing columns have to give
  target : ℕ → ℕ → ℕ
  target p i = bit_xor (byte_of given i p) (others_sum (get_or levels i 0) missing row p)

  target_lt : (p i : ℕ) → i < length levels → target p i < 256
  unfolding target
  target_lt p i hi =
      xor_lt 8 (byte_of given i p) (others_sum (get_or levels i 0) missing row p) (blocks.are_bytes i p)
      (others_sum-lt (get_or levels i 0) missing row p (choice.each_level.below i hi) part.at_most (λ c. rows.are_bytes c p))

  -- the missing columns of a recovered row are a solution
  columns_solve : (recovered : List (List ℕ)) → IsRecovered size row missing levels given recovered → (p : ℕ) → p < size
      → IsSolution missing levels (target p) (λ j. byte_of recovered (get_or missing j 0) p)
  unfolding target
  columns_solve recovered is p hp =
      record {
        are_bytes = λ j hj. is.is_row.are_bytes (get_or missing j 0) p;
        sums = λ i hi.
            let level = get_or levels i 0 in
            move (chosen_sum level missing (λ j. byte_of recovered (get_or missing j 0) p)) (others_sum level missing recovered p) (byte_of given i p)
            (sym (parity_byte-split level missing recovered p choice.each_column.distinct (λ j hj. omega (arith, is.same_count, part.within j hj)))
            ∙ sym (get_or-parity_of level size recovered p hp) ∙ ap (λ (xs : List ℕ). get_or xs p 0) (is.given_levels i hi))
            ∙ ap (bit_xor (byte_of given i p)) (others_sum-same level missing recovered row p is.same_count is.others);
      }

  same_block : (one other : List (List ℕ)) → IsRecovered size row missing levels given one → IsRecovered size row missing levels given other
      → (c : ℕ) → c < length row → get_or one c [] ≡ get_or other c []
  same_block one other first second c hc =
      (elim (is_among missing c) as (λ (b : Bool). is_among missing c ≡ b → get_or one c [] ≡ get_or other c []) [
        | true ↦ λ there.
            let found = among_index missing c there in
            let one_long : length (get_or one c []) ≡ size = first.is_row.sizes c (omega (arith, first.same_count)) in
            let other_long : length (get_or other c []) ≡ size = second.is_row.sizes c (omega (arith, second.same_count)) in
            same_number_lists (get_or one c []) (get_or other c []) (one_long ∙ sym other_long)
            (λ p hp.
            let within : p < size = omega arith in
            let same = solution_only missing levels choice (target p) (λ j. byte_of one (get_or missing j 0) p) (λ j. byte_of other (get_or missing j 0) p)
            (columns_solve one first p within) (columns_solve other second p within) (index_of missing c) found.0 in
            ap (λ (k : ℕ). byte_of one k p) (sym found.1) ∙ same ∙ ap (λ (k : ℕ). byte_of other k p) found.1)
        | false ↦ λ absent. first.others c hc absent ∙ sym (second.others c hc absent)
      ]) refl

  pub only_recovered : (one other : List (List ℕ)) → IsRecovered size row missing levels given one → IsRecovered size row missing levels given other → one ≡ other
  only_recovered one other first second =
      same_lists one other (first.same_count ∙ sym second.same_count)
      (λ c d hc.
      let within : c < length row = omega (arith, first.same_count) in
      let within_other : c < length other = omega (arith, first.same_count, second.same_count) in
      get_or_default one c d [] hc ∙ same_block one other first second c within ∙ get_or_default other c [] d within_other)

  -- the bytes that the missing columns get at a place
  found_bytes : ℕ → ℕ → ℕ
  found_bytes p = (solution_exists missing levels choice (target p) (target_lt p)).0

  found_solve : (p : ℕ) → IsSolution missing levels (target p) (found_bytes p)
  unfolding found_bytes
  found_solve p = (solution_exists missing levels choice (target p) (target_lt p)).1

  -- a block of the recovered row
  block_at : ℕ → List ℕ
  block_at c = cond (is_among missing c) (map (λ p. found_bytes p (index_of missing c)) (range_with_len 0 size)) (get_or row c [])

  block_at-found : (c : ℕ) → is_among missing c ≡ true → block_at c ≡ map (λ p. found_bytes p (index_of missing c)) (range_with_len 0 size)
  unfolding block_at
  block_at-found c there = ap (λ (b : Bool). cond b (map (λ p. found_bytes p (index_of missing c)) (range_with_len 0 size)) (get_or row c [])) there

  block_at-kept : (c : ℕ) → is_among missing c ≡ false → block_at c ≡ get_or row c []
  unfolding block_at
  block_at-kept c absent = ap (λ (b : Bool). cond b (map (λ p. found_bytes p (index_of missing c)) (range_with_len 0 size)) (get_or row c [])) absent

  length-block_at : (c : ℕ) → c < length row → length (block_at c) ≡ size
  length-block_at c hc =
      (elim (is_among missing c) as (λ (b : Bool). is_among missing c ≡ b → length (block_at c) ≡ size) [
        | true ↦ λ there. ap length (block_at-found c there) ∙ length-map-range_with_len (λ p. found_bytes p (index_of missing c)) 0 size
        | false ↦ λ absent. ap length (block_at-kept c absent) ∙ rows.sizes c hc
      ]) refl

  block_at-lt : (c p : ℕ) → get_or (block_at c) p 0 < 256
  block_at-lt c p =
      (elim (is_among missing c) as (λ (b : Bool). is_among missing c ≡ b → get_or (block_at c) p 0 < 256) [
        | true ↦ λ there.
            let made_of = λ (q : ℕ). found_bytes q (index_of missing c) in
            let is : get_or (block_at c) p 0 ≡ get_or (map made_of (range_with_len 0 size)) p 0 = ap (λ (xs : List ℕ). get_or xs p 0) (block_at-found c there) in
            elim (cases_lt p size) [
              | inl within ↦
                  let byte = get_or-map-range_with_len made_of 0 size p p 0 within (zero-add p) in
                  omega (arith, is, byte, (found_solve p).are_bytes (index_of missing c) (among_index missing c there).0)
              | inr past ↦
                  let zero = get_or-eq_default (map made_of (range_with_len 0 size)) 0 {n = p} (omega (arith, length-map-range_with_len made_of 0 size)) in
                  omega (arith, is, zero)
            ]
        | false ↦ λ absent. omega (arith, ap (λ (xs : List ℕ). get_or xs p 0) (block_at-kept c absent), rows.are_bytes c p)
      ]) refl

  made : List (List ℕ)
  made = map block_at (range_with_len 0 (length row))

  length-made : length made ≡ length row
  unfolding made
  length-made = length-map-range_with_len block_at 0 (length row)

  made_at : (c : ℕ) → c < length row → get_or made c [] ≡ block_at c
  unfolding made
  made_at c hc = get_or-map-range_with_len block_at 0 (length row) c c [] hc (zero-add c)

  made_lt : (c p : ℕ) → byte_of made c p < 256
  made_lt c p =
      elim (cases_lt c (length row)) [
        | inl within ↦ omega (arith, ap (λ (xs : List ℕ). get_or xs p 0) (made_at c within), block_at-lt c p)
        | inr past ↦
            let empty = get_or-eq_default made [] {n = c} (omega (arith, length-made)) in
            let zero : byte_of made c p ≡ 0 = ap (λ (xs : List ℕ). get_or xs p 0) empty in
            omega (arith, zero)
      ]

  -- the missing columns of the made row
  made_column : (p j : ℕ) → p < size → j < length missing → byte_of made (get_or missing j 0) p ≡ found_bytes p j
  made_column p j hp hj =
      let c = get_or missing j 0 in
      let there : is_among missing c ≡ true = among_at missing j hj in
      ap (λ (xs : List ℕ). get_or xs p 0) (made_at c (part.within j hj) ∙ block_at-found c there)
      ∙ get_or-map-range_with_len (λ q. found_bytes q (index_of missing c)) 0 size p p 0 hp (zero-add p)
      ∙ ap (found_bytes p) (index_at missing choice.each_column.distinct j hj)

  made_others : (c : ℕ) → c < length row → is_among missing c ≡ false → get_or made c [] ≡ get_or row c []
  made_others c hc absent = made_at c hc ∙ block_at-kept c absent

  made_levels : (i : ℕ) → i < length levels → parity_of (get_or levels i 0) size made ≡ get_or given i []
  unfolding target
  made_levels i hi =
      let level = get_or levels i 0 in
      sym (parity_of-bytes level size made (get_or given i []) (blocks.sizes i (omega (arith, count)))
      (λ p hp.
      sym (parity_byte-split level missing made p choice.each_column.distinct (λ j hj. omega (arith, length-made, part.within j hj))
      ∙ ap (λ (x : ℕ). bit_xor x (others_sum level missing made p))
      (sum_below-same (λ j. product (entry_of level (get_or missing j 0)) (byte_of made (get_or missing j 0) p)) (λ j. product (entry_of level (get_or missing j 0)) (found_bytes p j)) (length missing)
      (λ j hj. ap (product (entry_of level (get_or missing j 0))) (made_column p j hp hj))
      ∙ (found_solve p).sums i hi)
      ∙ ap (bit_xor (bit_xor (byte_of given i p) (others_sum level missing row p))) (others_sum-same level missing made row p length-made made_others)
      ∙ added_twice (byte_of given i p) (others_sum level missing row p))))

  pub some_recovered : (recovered : List (List ℕ)) × IsRecovered size row missing levels given recovered
  some_recovered = (
    made,
    record {
      is_row = record { sizes = λ c hc. let within : c < length row = omega (arith, length-made) in ap length (made_at c within) ∙ length-block_at c within; are_bytes = made_lt };
      same_count = length-made;
      others = made_others;
      given_levels = made_levels;
    },
  )
