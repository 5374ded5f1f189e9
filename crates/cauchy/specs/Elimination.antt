-- Systems of n linear equations over the field. The unknown n is eliminated with the equation n, from the last on down.
use Rattle.std.specs.Prelude.{◌≡◌, ℕ, zero, suc, ◌<◌, ◌==◌, List, [], map, length, slice_index, slice_index_or, if◌then◌else◌}
use Rattle.arrayvec.specs.ArrayVec.{ArrayVec, array_vec_len}
use Rattle.gf256.specs.Field.{field_sum, sum_below, product}

-- the entry of a matrix at a row and a column
abbrev pub cell : List (List ℕ) → ℕ → ℕ → ℕ
cell matrix i j = slice_index (slice_index_or matrix i []) j

-- the rows of a matrix as lists
abbrev pub rows_of : ArrayVec (ArrayVec ℕ) → List (List ℕ)
rows_of matrix = map (λ row. row.items) matrix.items

-- the coefficients of a matrix
abbrev pub entries : ArrayVec (ArrayVec ℕ) → ℕ → ℕ → ℕ
entries matrix = cell (rows_of matrix)

-- so many rows, each with so many entries
pub record HasShape (rows columns : ℕ) (matrix : ArrayVec (ArrayVec ℕ)) : Type 0 where
  pub row_count : array_vec_len matrix ≡ rows
  pub lengths : (i : ℕ) → i < rows → length (slice_index_or (rows_of matrix) i []) ≡ columns

-- what equation i becomes, so that the unknown n is gone: M(n,n) times equation i plus M(i,n) times equation n
abbrev pub reduced : (ℕ → ℕ → ℕ) → ℕ → ℕ → ℕ → ℕ
reduced m n i j = field_sum (product (m n n) (m i j)) (product (m i n) (m n j))

-- and the other side of it
abbrev pub reduced_given : (ℕ → ℕ → ℕ) → ℕ → (ℕ → ℕ) → ℕ → ℕ
reduced_given m n b i = field_sum (product (m n n) (b i)) (product (m i n) (b n))

-- no pivot of the elimination is 0
abbrev pub IsEliminable : ℕ → (ℕ → ℕ → ℕ) → Type 0
IsEliminable zero m = Unit {0}
IsEliminable (suc n) m = (0 < m n n) × IsEliminable n (reduced m n)

-- a matrix of elements
abbrev pub IsMatrix : ℕ → (ℕ → ℕ → ℕ) → Type 0
IsMatrix n m = (i j : ℕ) → i < n → j < n → m i j < 256

-- a list of elements
abbrev pub IsVector : ℕ → (ℕ → ℕ) → Type 0
IsVector n z = (j : ℕ) → j < n → z j < 256

-- one side of equation i, with the values z for the unknowns
abbrev pub row_sum : (ℕ → ℕ → ℕ) → ℕ → (ℕ → ℕ) → ℕ → ℕ
row_sum m n z i = sum_below (λ j. product (m i j) (z j)) n

-- each equation holds
abbrev pub Solves : ℕ → (ℕ → ℕ → ℕ) → (ℕ → ℕ) → (ℕ → ℕ) → Type 0
Solves n m b z = (i : ℕ) → i < n → row_sum m n z i ≡ b i

-- 1 at i, and 0 elsewhere
abbrev pub unit : ℕ → ℕ → ℕ
unit i k = if k == i then 1 else 0
