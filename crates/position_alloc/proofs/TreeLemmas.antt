-- The root of the tree has the lowest free position.
use Rattle.std.proofs.Common.{◌≡◌, ◌≢◌, ℕ, zero, suc, ◌+◌, ◌-◌, ◌*◌, ◌/◌, ◌%◌, ◌<◌, ◌≤◌, true, false, eqb, List, length, get_or, min, sym, ap, ◌∙◌, inl, inr, arith}
use Rattle.std.proofs.lemmas.Bool.{cases_lt, eq-eqb}
use Rattle.std.specs.Int.{bit_at}
use Rattle.position_alloc.specs.Lowest.{IsLowestFree}
use Rattle.position_alloc.specs.Words.{is_taken, taken_of, NodesHoldBut, IsTree}
use Rattle.position_alloc.proofs.WordLemmas.{contains-taken_of, free_past}

-- no node has less than the root
root_le : (fuel count : ℕ) (tree : List ℕ) → NodesHoldBut 0 count tree → (i : ℕ) → i ≤ fuel → 1 ≤ i → i < 2 * count → get_or tree 1 0 ≤ get_or tree i 0
root_le zero count tree nodes i few low high = absurd (omega arith)
root_le (suc fuel) count tree nodes i few low high =
    elim (cases_lt 1 i) [
      | inl inner ↦
          let above = root_le fuel count tree nodes (i / 2) (omega arith) (omega arith) (omega arith) in
          let lesser = nodes (i / 2) (omega arith) (omega arith) (let other : i / 2 ≢ 0 = omega arith in other) in
          elim (cases_lt (i % 2) 1) [
            | inl even ↦ let child : 2 * (i / 2) ≡ i = omega arith in omega (arith, ap (λ (k : ℕ). get_or tree k 0) child)
            | inr odd ↦ let child : 2 * (i / 2) + 1 ≡ i = omega arith in omega (arith, ap (λ (k : ℕ). get_or tree k 0) child)
          ]
      | inr root ↦ let same : i ≡ 1 = omega arith in omega (arith, ap (λ (k : ℕ). get_or tree k 0) same)
    ]

-- each node has what some leaf has
node_of_leaf : (fuel count : ℕ) (tree : List ℕ) → NodesHoldBut 0 count tree → (i : ℕ) → 2 * count ≤ i + fuel → 1 ≤ i → i < 2 * count
    → (w : ℕ) × (w < count) × (get_or tree i 0 ≡ get_or tree (count + w) 0)
node_of_leaf zero count tree nodes i few low high = absurd (omega arith)
node_of_leaf (suc fuel) count tree nodes i few low high =
    elim (cases_lt i count) [
      | inl inner ↦
          let lesser = nodes i low inner (let other : i ≢ 0 = omega arith in other) in
          elim (cases_lt (get_or tree (2 * i + 1) 0) (get_or tree (2 * i) 0)) [
            | inl right ↦
                let leaf = node_of_leaf fuel count tree nodes (2 * i + 1) (omega arith) (omega arith) (omega arith) in
                (leaf.0, leaf.1, omega (arith, leaf.2))
            | inr left ↦
                let leaf = node_of_leaf fuel count tree nodes (2 * i) (omega arith) (omega arith) (omega arith) in
                (leaf.0, leaf.1, omega (arith, leaf.2))
          ]
      | inr leaf ↦ let here : i ≡ count + (i - count) = omega arith in (i - count, omega arith, ap (λ (k : ℕ). get_or tree k 0) here)
    ]

module _ (words tree : List ℕ) (is : IsTree words tree) (some : 0 < length words) where
  -- all positions before the root's are taken
  taken_before : (q : ℕ) → q < get_or tree 1 0 → q < 64 * length words → is_taken words q ≡ true
  taken_before q before within =
      let w : ℕ = q / 64 in
      let root = root_le (2 * length words) (length words) tree is.nodes (length words + w) (omega arith) (omega arith) (omega arith) in
      eq-eqb (bit_at (get_or words w 0) (q % 64)) 1 ((is.leaves w (omega arith)).below (q % 64) (omega arith) (omega arith))

  -- and the root's is free
  root_free : get_or tree 1 0 < 64 * length words → is_taken words (get_or tree 1 0) ≡ false
  root_free within =
      let leaf = node_of_leaf (2 * length words) (length words) tree is.nodes 1 (omega arith) (omega arith) (omega arith) in
      let x : ℕ = get_or tree 1 0 in
      let same : get_or tree (length words + leaf.0) 0 ≡ x = sym leaf.2 in
      let open_bit = (is.leaves leaf.0 leaf.1).free (omega (arith, is.small)) in
      let here : x / 64 ≡ leaf.0 = ap (λ (k : ℕ). k / 64) (sym same) ∙ open_bit.0 in
      let bit : bit_at (get_or words (x / 64) 0) (x % 64) ≡ 0 =
      ap (λ (k : ℕ). bit_at (get_or words (x / 64) 0) (k % 64)) (sym same) ∙ ap (λ (k : ℕ). bit_at (get_or words k 0) (get_or tree (length words + leaf.0) 0 % 64)) here ∙ open_bit.1 in
      ap (λ (b : ℕ). eqb b 1) bit

  pub root_is_lowest : IsLowestFree (taken_of words) (min (get_or tree 1 0) (64 * length words))
  root_is_lowest =
      record {
        free =
            contains-taken_of words (min (get_or tree 1 0) (64 * length words))
            ∙ elim (cases_lt (get_or tree 1 0) (64 * length words)) [
              | inl within ↦
                  let root : min (get_or tree 1 0) (64 * length words) ≡ get_or tree 1 0 = omega arith in ap (is_taken words) root ∙ root_free within
              | inr past ↦
                  let end : min (get_or tree 1 0) (64 * length words) ≡ 64 * length words = omega arith in ap (is_taken words) end ∙ free_past words (64 * length words) (omega arith)
            ];
        below = λ q h. contains-taken_of words q ∙ taken_before q (omega arith) (omega arith);
      }
