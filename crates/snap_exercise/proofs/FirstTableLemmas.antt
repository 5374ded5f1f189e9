-- The table of the array before its first sync, as it is built.
use Rattle.std.proofs.Common.{◌≡◌, ℕ, ◌≤◌, List, [], ◌∷◌, length, map, take, refl, ap, ◌∙◌}
use Rattle.std.specs.Prelude.{Result, Ok, Err, IfOk}
use Rattle.std.proofs.lemmas.List.{take_all}
use Rattle.file_table.specs.Building.{BuildingValue, Finishes, new_building}
use Rattle.file_table.specs.Table.{Column, TableValue}
use Rattle.snap_exercise.specs.Generated.{column_of, first_table, table_of}

mapped_twice : {X : Type 0} (name_of : X → List ℕ) (xs : List X) → map (λ x. column_of (name_of x)) xs ≡ map column_of (map name_of xs)
mapped_twice name_of [] = refl
mapped_twice name_of (x ∷ xs) = λ i. column_of (name_of x) ∷ mapped_twice name_of xs i

-- it has a column for each name that was pushed
pub table_made : {X E : Type 0} (name_of : X → List ℕ) (xs : List X) (count : ℕ) (start builder : BuildingValue) (result : Result TableValue E) → length xs ≤ count
    → start ≡ new_building first_table.shape 0 → builder ≡ record start { columns = map (λ x. column_of (name_of x)) (take count xs) } → IfOk result (Finishes builder)
    → IfOk result (λ table. table ≡ table_of (map name_of xs))
table_made name_of xs count start builder (Ok table) all begun pushed finishes =
    finishes.table_is ∙ ap (λ (b : BuildingValue). let t : TableValue = record { shape = b.shape; columns = b.columns; infos = b.infos } in t) pushed
    ∙ ap (λ (b : BuildingValue). let t : TableValue = record { shape = b.shape; columns = map (λ x. column_of (name_of x)) (take count xs); infos = b.infos } in t) begun
    ∙ ap (λ (columns : List Column). let t : TableValue = record { shape = first_table.shape; columns = columns; infos = [] } in t)
    (ap (map (λ x. column_of (name_of x))) (take_all count xs all) ∙ mapped_twice name_of xs)
table_made name_of xs count start builder (Err fault) all begun pushed finishes = tt
