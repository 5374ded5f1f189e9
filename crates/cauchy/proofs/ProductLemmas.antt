-- Products that are added to a level part by part.
use Rattle.std.proofs.Common.{◌≡◌, ℕ, ◌+◌, ◌-◌, ◌≤◌, List, length, get_or, refl, sym, ap, ◌∙◌, inl, inr, arith}
use Rattle.std.specs.Int.Bits.{bit_xor}
use Rattle.std.proofs.lemmas.Bool.{cases_lt}
use Rattle.gf256.specs.Field.{product}
use Rattle.cauchy.specs.Lanes.{HasLanes, StoresFrom}
use Rattle.cauchy.specs.Matrix.{entry_of, AddsTerm}
use Rattle.cauchy.specs.Products.{with_product, AddsWithin, AddsProducts}

-- nothing is added yet
pub AddsWithin-none : (start coefficient : ℕ) (block old : List ℕ) → AddsWithin start start coefficient block old old
AddsWithin-none start coefficient block old =
    record { same_length = refl; within = λ i low high. absurd (omega arith); before = λ i h. refl; after = λ i h. refl }

-- one part, and the next
pub AddsWithin-then : (start middle end coefficient : ℕ) (block old half new : List ℕ) → start ≤ middle → middle ≤ end
    → AddsWithin start middle coefficient block old half → AddsWithin middle end coefficient block half new → AddsWithin start end coefficient block old new
AddsWithin-then start middle end coefficient block old half new low high first second =
    record {
      same_length = second.same_length ∙ first.same_length;
      within = λ i from to.
          elim (cases_lt i middle) [
            | inl below ↦ second.before i below ∙ first.within i from below
            | inr above ↦
                second.within i above to ∙ ap (λ (x : ℕ). bit_xor x (product coefficient (get_or block i 0))) (first.after i above)
          ];
      before = λ i h. second.before i (omega arith) ∙ first.before i h;
      after = λ i h. second.after i h ∙ first.after i (omega arith);
    }

-- the next 32 bytes of the block, their products, and the sums with the level, which are put in their place
module _ (start end coefficient : ℕ) (block old half new : List ℕ) (bytes level parts sums : List ℕ) (loaded : HasLanes bytes (λ k. get_or block (start + k) 0))
    (level_loaded : HasLanes level (λ k. get_or half (start + k) 0)) (multiplied : HasLanes parts (λ k. product coefficient (get_or bytes k 0)))
    (summed : HasLanes sums (λ k. bit_xor (get_or level k 0) (get_or parts k 0))) (stored : StoresFrom start 32 (λ k. get_or sums k 0) half new) (next : end ≡ start + 32) where
  sum_lanes : HasLanes sums (λ k. with_product coefficient block half (start + k))
  sum_lanes =
      record {
        long = summed.long;
        each = λ k l.
            summed.each k l ∙ ap (λ (x : ℕ). bit_xor x (get_or parts k 0)) (level_loaded.each k l)
            ∙ ap (bit_xor (get_or half (start + k) 0)) (multiplied.each k l ∙ ap (product coefficient) (loaded.each k l));
      }

  these_lanes : AddsWithin start end coefficient block half new
  these_lanes =
      record {
        same_length = stored.same_length;
        within = λ i low high.
            let k : ℕ = i - start in
            let here : start + k ≡ i = omega arith in
            ap (λ (p : ℕ). get_or new p 0) (sym here) ∙ stored.within k (omega arith) ∙ sum_lanes.each k (omega arith)
            ∙ ap (with_product coefficient block half) here;
        before = stored.before;
        after = λ i h. stored.after i (omega arith);
      }

  pub AddsWithin-lanes : AddsWithin 0 start coefficient block old half → AddsWithin 0 end coefficient block old new
  AddsWithin-lanes sofar = AddsWithin-then 0 start end coefficient block old half new (omega arith) (omega arith) sofar these_lanes

-- every byte has its part
pub AddsProducts-whole : (coefficient : ℕ) (block old new : List ℕ) → AddsWithin 0 (length old) coefficient block old new → AddsProducts coefficient block old new
AddsProducts-whole coefficient block old new added =
    record { same_length = added.same_length; bytes = λ i h. added.within i (omega arith) h }

-- the products of an entry are the term of its column
pub AddsTerm-products : (level column : ℕ) (block old new : List ℕ) → AddsProducts (entry_of level column) block old new → AddsTerm level column block old new
AddsTerm-products level column block old new added = record { same_length = added.same_length; bytes = added.bytes }
