use Rattle.std.proofs.Common.{◌≡◌, ◌<◌, ℕ, List, length, get_or, sym, subst, ◌∙◌, arith, below_more}
use Rattle.arrayvec.specs.ArrayVec.{array_vec_len}
use Rattle.cauchy.specs.Elimination.{entries, unit, IsEliminable, IsVector, Solves}
use Rattle.cauchy.specs.System.{chosen}
use Rattle.cauchy.proofs.EliminationLemmas.{IsEliminable-same, Solves-same}
use Rattle.cauchy.proofs.MatrixLemmas.{chosen_lt, chosen_pivots}
use Rattle.cauchy.proofs.RowsLemmas.{row_before, row_here, HasShape-push}
use Rattle.cauchy.proofs.inverse.inverse_columns.Goals as goal

pub solve_system-requires-clause-elements : goal.solve_system-requires-clause-elements
solve_system-requires-clause-elements c =
    λ i j hi hj.
    let row : i < length c.args.levels.now = omega (arith, c.unit_vector.ensures.long) in
    let column : j < length c.args.levels.now = omega (arith, c.unit_vector.ensures.long) in
    omega (arith, c.chosen_entries-matrix.ensures.made i j row (omega (arith, c.requires.same_count)), chosen_lt c.args.columns.now c.args.levels.now c.requires i j row column)

pub solve_system-requires-clause-pivots : goal.solve_system-requires-clause-pivots
solve_system-requires-clause-pivots c =
    subst (λ (n : ℕ). IsEliminable n (entries c.chosen_entries-matrix.result)) (sym c.unit_vector.ensures.long)
    (IsEliminable-same (length c.args.levels.now) (chosen c.args.columns.now c.args.levels.now) (entries c.chosen_entries-matrix.result)
    (λ i j hi hj. c.chosen_entries-matrix.ensures.made i j hi (omega (arith, c.requires.same_count)))
    (chosen_pivots c.args.columns.now c.args.levels.now c.requires))

pub loop-i-preserved : goal.loop-i-preserved
loop-i-preserved c =
    let sofar = c.loop-i.invariant in
    let n = length c.args.levels.now in
    let old = c.loop-i.rows in
    let new = c.push.new.self in
    let row = c.solve_system.result in
    let m = chosen c.args.columns.now c.args.levels.now in
    let count : array_vec_len c.unit_vector.result ≡ n = c.unit_vector.ensures.long in
    let earlier = λ (i : ℕ) (h : i < c.loop-i.i). row_before old new row c.push.ensures.items i (omega (arith, sofar.shape.row_count)) in
    let here = row_here old new row c.push.ensures.items c.loop-i.i (sym sofar.shape.row_count) in
    record {
      shape = HasShape-push old new row c.push.ensures.items _ _ sofar.shape (c.solve_system.ensures.long ∙ count);
      elements = below_more _ _
          (λ i h. subst (λ (r : List ℕ). IsVector n (λ j. get_or r j 0)) (sym (earlier i h)) (sofar.elements i h))
          (subst (λ (r : List ℕ). IsVector n (λ j. get_or r j 0)) (sym here)
          (subst (λ (n : ℕ). IsVector n (λ j. get_or row.items j 0)) count c.solve_system.ensures.elements));
      units = below_more _ _
          (λ i h. subst (λ (r : List ℕ). Solves n m (unit i) (λ j. get_or r j 0)) (sym (earlier i h)) (sofar.units i h))
          (subst (λ (r : List ℕ). Solves n m (unit c.loop-i.i) (λ j. get_or r j 0)) (sym here)
          (Solves-same n m (entries c.chosen_entries-matrix.result) (unit c.loop-i.i) (λ k. get_or c.unit_vector.result.items k 0) (λ j. get_or row.items j 0)
          (λ i j hi hj. c.chosen_entries-matrix.ensures.made i j hi (omega (arith, c.requires.same_count))) c.unit_vector.ensures.made
          (subst (λ (n : ℕ). Solves n (entries c.chosen_entries-matrix.result) (λ k. get_or c.unit_vector.result.items k 0) (λ j. get_or row.items j 0)) count c.solve_system.ensures.solves)));
    }
