-- What was counted, tested and read: what the lemmas of this crate share.
use Rattle.std.proofs.Common.{◌≡◌, ℕ, zero, suc, ◌<◌, ◌&&◌, List, [], ◌∷◌, length, get_or, Bool, true, false, cond, Option, None, Some, refl, arith}
use Rattle.std.specs.Prelude.{count_by, sum_by}
use Rattle.std.specs.List.{All, Contains, filter, range_with_len}
use Rattle.std.proofs.lemmas.List.Elements.{All-filter, filter_passes}
use Rattle.std.proofs.lemmas.List.FromFn.{get_or-range_with_len, length-range_with_len}
use Rattle.std.proofs.lemmas.List.Sums.{sum_by-cons}
use Rattle.file_table.specs.declared.block.Cell.{Cell}
use Rattle.parity_writer.specs.declared.levels.LevelRead.{LevelRead}
use Rattle.parity_writer.specs.declared.levels.LevelRead.TheVariants as here
use Rattle.stripe_examiner.specs.Known.{is_whole}
use Rattle.repair_scope.specs.Plan.{FixPlan, has_selected}
use Rattle.snap_top.specs.Undamaged.{is_read}

-- ---- what a sum or a count has counted

pub some_summed : {X : Type 0} (f : X → ℕ) (xs : List X) → 0 < sum_by f xs → (x : X) × Contains xs x × (0 < f x)
some_summed f [] some = absurd (let none : sum_by f [] ≡ 0 = refl in omega (arith, some, none))
some_summed {X} f (y ∷ ys) some = by (f y) refl (λ more. some_summed f ys more)
  where
    by : (n : ℕ) → f y ≡ n → (0 < sum_by f ys → (x : X) × Contains ys x × (0 < f x)) → (x : X) × Contains (y ∷ ys) x × (0 < f x)
    by zero is rest =
        let more = rest (omega (arith, some, is, sum_by-cons f y ys)) in
        (more.0, (suc more.1.0, omega (arith, more.1.1), more.1.2), more.2)
    by (suc n) is rest = (y, (0, omega arith, refl), omega (arith, is))

pub positive : (b : Bool) → 0 < cond b 1 0 → b ≡ true
positive true more = refl
positive false more = absurd (omega (arith, more))

pub some_counted : {X : Type 0} (p : X → Bool) (xs : List X) → 0 < count_by p xs → (x : X) × Contains xs x × (p x ≡ true)
some_counted {X} p xs some =
    let one = some_summed (λ (x : X). cond (p x) 1 0) xs some in
    (one.0, one.1, positive (p one.0) one.2)

-- ---- tests that hold

pub first_of : (a b : Bool) → (a && b) ≡ true → a ≡ true
first_of true b is = refl
first_of false b is = absurd (let clash : false ≡ true = is in cc)

pub second_of : (a b : Bool) → (a && b) ≡ true → b ≡ true
second_of true b is = is
second_of false b is = absurd (let clash : false ≡ true = is in cc)

pub cell_selected : (plan : FixPlan) (d : ℕ) (found : Option Cell) → has_selected plan d found ≡ true → (cell : Cell) × (found ≡ Some cell)
cell_selected plan d None is = absurd (let clash : false ≡ true = is in cc)
cell_selected plan d (Some cell) is = (cell, refl)

-- ---- levels and numbers

-- a level that was read whole was read
pub whole_is_read : (state : LevelRead) → is_whole state ≡ true → is_read state ≡ true
whole_is_read here.Bytes is = refl
whole_is_read here.Short is = absurd (let clash : false ≡ true = is in cc)
whole_is_read here.Unread is = absurd (let clash : false ≡ true = is in cc)

-- numbers that pass a test
pub passing : (p : ℕ → Bool) (n k other : ℕ) → k < length (filter p (range_with_len 0 n))
    → (get_or (filter p (range_with_len 0 n)) k other < n) × (p (get_or (filter p (range_with_len 0 n)) k other) ≡ true)
passing p n k other within =
    let numbers : All (λ (e : ℕ). e < n) (range_with_len 0 n) = λ j d inside.
    let below : j < n = omega (arith, inside, length-range_with_len 0 n) in
    omega (arith, below, get_or-range_with_len 0 n j d below) in
    (All-filter p (λ (e : ℕ). e < n) (range_with_len 0 n) numbers k other within, filter_passes p (range_with_len 0 n) k other within)
