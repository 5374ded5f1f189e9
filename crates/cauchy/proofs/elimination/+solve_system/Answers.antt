use Rattle.std.proofs.Common.{◌≡◌, ◌-◌, ◌<◌, ℕ, suc, List, [], ◌∷◌, length, get_or, ap, sym, subst, ◌∙◌, arith}
use Rattle.std.specs.Int.Bits.{bit_xor}
use Rattle.std.proofs.lemmas.Bool.{eqb-false}
use Rattle.std.proofs.lemmas.List.{get_or_append_left}
use Rattle.std.proofs.Math.Seq.{get_or-append_seam}
use Rattle.gf256.specs.Field.{product}
use Rattle.arrayvec.specs.ArrayVec.{array_vec_len}
use Rattle.cauchy.specs.Elimination.{entries, HasShape, IsMatrix, IsVector, IsEliminable, Solves, row_sum}
use Rattle.cauchy.proofs.EliminationLemmas.{rest_eliminable, rest_given, solved_step, IsVector-more}
use Rattle.cauchy.proofs.elimination.+solve_system.Goals as goal

pub solve_system-values-requires : goal.solve_system-values-requires
solve_system-values-requires t c =
    let m = entries c.args.matrix.now in
    let k : ℕ = c.len-last.result - 1 in
    let b : ℕ → ℕ = λ i. get_or c.args.given.now.items i 0 in
    let rest_m = entries c.reduced_matrix-rest.result in
    let rest_b : ℕ → ℕ = λ i. get_or c.reduced_sums-rest_given.result.items i 0 in
    let size : array_vec_len c.args.given.now ≡ suc k = omega (arith, c.len-last.ensures.value, eqb-false _ _ (sym c.is_empty.ensures ∙ c.if-is_empty.false)) in
    let count : k ≡ array_vec_len c.reduced_sums-rest_given.result = sym c.reduced_sums-rest_given.ensures.long in
    let elements : IsMatrix (suc k) m = subst (λ (n : ℕ). IsMatrix n m) size c.requires.elements in
    let pivots : IsEliminable (suc k) m = subst (λ (n : ℕ). IsEliminable n m) size c.requires.pivots in
    let sums : IsVector (suc k) b = subst (λ (n : ℕ). IsVector n b) size c.requires.sums in
    let rest = rest_eliminable k m rest_m elements pivots c.reduced_matrix-rest.ensures.made in (
      omega arith,
      (
        subst (λ (n : ℕ). HasShape n n c.reduced_matrix-rest.result) count c.reduced_matrix-rest.ensures.shape,
        (
          omega arith,
          (
            subst (λ (n : ℕ). IsMatrix n rest_m) count rest.0,
            (
              subst (λ (n : ℕ). IsEliminable n rest_m) count rest.1,
              subst (λ (n : ℕ). IsVector n rest_b) count (rest_given k m b rest_b elements sums c.reduced_sums-rest_given.ensures.made),
            ),
          ),
        ),
      ),
    )

pub returns : goal.returns
returns t c =
    let m = entries c.args.matrix.now in
    let k : ℕ = c.len-last.result - 1 in
    let b : ℕ → ℕ = λ i. get_or c.args.given.now.items i 0 in
    let rest_b : ℕ → ℕ = λ i. get_or c.reduced_sums-rest_given.result.items i 0 in
    let values : List ℕ = c.solve_system-values.result.items in
    let z : ℕ → ℕ = λ i. get_or values i 0 in
    let x : ℕ = c.div-value.result in
    let y : ℕ → ℕ = λ i. get_or c.push.new.self.items i 0 in
    let size : array_vec_len c.args.given.now ≡ suc k = omega (arith, c.len-last.ensures.value, eqb-false _ _ (sym c.is_empty.ensures ∙ c.if-is_empty.false)) in
    let elements : IsMatrix (suc k) m = subst (λ (n : ℕ). IsMatrix n m) size c.requires.elements in
    let pivots : IsEliminable (suc k) m = subst (λ (n : ℕ). IsEliminable n m) size c.requires.pivots in
    let sums : IsVector (suc k) b = subst (λ (n : ℕ). IsVector n b) size c.requires.sums in
    let rest_long : array_vec_len c.reduced_sums-rest_given.result ≡ k = c.reduced_sums-rest_given.ensures.long in
    let long : length values ≡ k = c.solve_system-values.ensures.long ∙ rest_long in
    let z_elements : IsVector k z = subst (λ (n : ℕ). IsVector n z) rest_long c.solve_system-values.ensures.elements in
    let z_solves : Solves k (entries c.reduced_matrix-rest.result) rest_b z =
    subst (λ (n : ℕ). Solves n (entries c.reduced_matrix-rest.result) rest_b z) rest_long c.solve_system-values.ensures.solves in
    let before : (j : ℕ) → j < k → y j ≡ z j = λ j hj.
    ap (λ (l : List ℕ). get_or l j 0) c.push.ensures.items ∙ get_or_append_left values (x ∷ []) 0 j (omega arith) in
    let here : y k ≡ x =
    ap (λ (n : ℕ). get_or c.push.new.self.items n 0) (sym long) ∙ ap (λ (l : List ℕ). get_or l (length values) 0) c.push.ensures.items ∙ get_or-append_seam values x [] 0 in
    let others : c.sum_of_products-others.result ≡ row_sum m k z k = c.sum_of_products-others.ensures ∙ ap (λ (n : ℕ). row_sum m n z k) long in
    let last : product x (m k k) ≡ bit_xor (b k) (row_sum m k z k) =
    ap (product x) (sym c.coefficient.ensures) ∙ c.div-value.ensures.product_is
    ∙ ap (λ (l : List ℕ). bit_xor (get_or l k 0) c.sum_of_products-others.result) c.deref.ensures.0 ∙ ap (bit_xor (b k)) others in
    record {
      long = omega (arith, c.push.ensures.len);
      elements = subst (λ (n : ℕ). IsVector n y) (sym size) (IsVector-more k z y x z_elements before here c.div-value.type_inv);
      solves = subst (λ (n : ℕ). Solves n m b y) (sym size)
          (solved_step k m (entries c.reduced_matrix-rest.result) b rest_b z y x elements pivots.0 sums
          z_elements c.reduced_matrix-rest.ensures.made c.reduced_sums-rest_given.ensures.made z_solves c.div-value.type_inv last before here);
    }
