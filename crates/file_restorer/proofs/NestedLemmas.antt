-- Lists of lists as vectors of vectors: an element of one, and one that is replaced.
use Rattle.std.proofs.Common.{◌≡◌, ℕ, ◌<◌, List, [], length, map, get_or, set, Vec, Global, sym, ap, ◌∙◌, arith}
use Rattle.std.proofs.lemmas.List.{length-map, get_or-map, get_or_default, map-set}

module _ {X : Type 0} (columns : List (Vec X Global)) (rows : List (List X)) (rows_are : map (λ (c : Vec X Global). c.items) columns ≡ rows) (d i : ℕ) (within : d < length rows)
    (column : Vec X Global) (column_is : column ≡ get_or columns d column) where
  columns_within : d < length columns
  columns_within = let same = ap length rows_are in omega (arith, same, length-map columns (λ (c : Vec X Global). c.items), within)

  -- the row of a column
  pub row_is : get_or rows d [] ≡ column.items
  row_is = ap (λ (rs : List (List X)). get_or rs d []) (sym rows_are) ∙ get_or-map (λ (c : Vec X Global). c.items) columns d column [] columns_within ∙ ap (λ (c : Vec X Global). c.items) (sym column_is)

  pub element_is : (x nothing : X) → x ≡ get_or column.items i x → i < length (get_or rows d []) → x ≡ get_or (get_or rows d []) i nothing
  element_is x nothing is below = is ∙ ap (λ (row : List X). get_or row i x) (sym row_is) ∙ get_or_default (get_or rows d []) i x nothing below

  pub rows_set : (x : X) (after : Vec X Global) → after.items ≡ set column.items i x → map (λ (c : Vec X Global). c.items) (set columns d after) ≡ set rows d (set (get_or rows d []) i x)
  rows_set x after is = map-set (λ (c : Vec X Global). c.items) columns d after ∙ ap (λ (rs : List (List X)). set rs d after.items) rows_are
      ∙ ap (set rows d) (is ∙ ap (λ (row : List X). set row i x) (sym row_is))
