-- Cells that are looked up, stripe after stripe and column after column.
use Rattle.std.proofs.Common.{◌≡◌, ◌≢◌, below_more, ℕ, ◌+◌, ◌<◌, List, [], length, set, get_or, Option, None, Some, sym, ◌∙◌, subst, arith}
use Rattle.std.proofs.lemmas.List.{get_or-set_same, get_or-set_other}
use Rattle.file_table.specs.Cells.{cell_in}
use Rattle.file_table.specs.Table.{Column, TableValue, column_at}
use Rattle.file_table.specs.declared.block.Cell.{Cell}
use Rattle.file_table.proofs.CellInLemmas.{cell_in-Some}
use Rattle.stripe_reader.specs.LookedUp.{IsLookedUp, IsOfRecord}

-- a cell that was looked up is of a record
pub of_record : (table : TableValue) (d position : ℕ) (found : Option Cell) → found ≡ cell_in (column_at table.columns d) position → IsOfRecord table d found
of_record table d position None is = tt
of_record table d position (Some cell) is = (cell_in-Some (column_at table.columns d) position cell (sym is)).within

-- the cell at one more stripe
pub cell_more : (column : Column) (stripes : List ℕ) (cells : List (Option Cell)) (i : ℕ) (found : Option Cell) → i < length cells → found ≡ cell_in column (get_or stripes i 0)
    → ((j : ℕ) → j < i → get_or cells j None ≡ cell_in column (get_or stripes j 0))
    → (j : ℕ) → j < i + 1 → get_or (set cells i found) j None ≡ cell_in column (get_or stripes j 0)
cell_more column stripes cells i found there is so_far =
    below_more (λ (j : ℕ). get_or (set cells i found) j None ≡ cell_in column (get_or stripes j 0)) i
    (λ j below. let apart : j ≢ i = omega (arith, below) in get_or-set_other cells i j found None apart ∙ so_far j below)
    (get_or-set_same cells i found None there ∙ is)

-- the cells of one more column
pub column_more : (table : TableValue) (stripes : List ℕ) (cells : List (List (Option Cell))) (d : ℕ) (column : List (Option Cell)) → d < length cells → IsLookedUp table d stripes column
    → ((k : ℕ) → k < d → IsLookedUp table k stripes (get_or cells k []))
    → (k : ℕ) → k < d + 1 → IsLookedUp table k stripes (get_or (set cells d column) k [])
column_more table stripes cells d column there looked so_far =
    below_more (λ (k : ℕ). IsLookedUp table k stripes (get_or (set cells d column) k [])) d
    (λ k below. let apart : k ≢ d = omega (arith, below) in subst (IsLookedUp table k stripes) (sym (get_or-set_other cells d k column [] apart)) (so_far k below))
    (subst (IsLookedUp table d stripes) (sym (get_or-set_same cells d column [] there)) looked)

-- other names for the same cells
pub looked_as : (table : TableValue) (d : ℕ) (stripes : List ℕ) (cells same : List (Option Cell)) → cells ≡ same → IsLookedUp table d stripes same → IsLookedUp table d stripes cells
looked_as table d stripes cells same is looked = subst (IsLookedUp table d stripes) (sym is) looked
