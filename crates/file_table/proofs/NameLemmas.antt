-- What the search for a disk's name tells of a table's columns.
use Rattle.std.proofs.Common.{◌≡◌, ◌≢◌, ℕ, ◌↔◌, List, Bool, true, false, IsTrue, subst, sym, get_or}
use Rattle.std.specs.List.{All, Any}
use Rattle.std.proofs.lemmas.List.{get_or_default}
use Rattle.file_table.specs.Table.{Column}

-- where the search for a name finds none, each column has another
pub no_column_named : (columns seen : List Column) (name text : List ℕ) (found : Bool) → seen ≡ columns → text ≡ name
    → (IsTrue found ↔ Any (λ (column : Column). column.name ≡ text) seen) → found ≡ false → All (λ (column : Column). column.name ≢ name) columns
no_column_named columns seen name text found same_columns same_name is none k d within same =
    let held : Any (λ (column : Column). column.name ≡ name) columns = (k, get_or columns k d, within, get_or_default columns k (get_or columns k d) d within, same) in
    let there : found ≡ true = is.1 (subst (λ (n : List ℕ). Any (λ (column : Column). column.name ≡ n) seen) (sym same_name) (subst (Any (λ (column : Column). column.name ≡ name)) (sym same_columns) held)) in
    cc
