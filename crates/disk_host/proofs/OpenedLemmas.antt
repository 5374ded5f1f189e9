-- Lemmas on what an opener that tells nothing gives.
use Rattle.std.proofs.Common.{◌≡◌, ℕ, suc, ◌<◌, List, [], ◌∷◌, length, map, replicate, false, get_or, refl, arith}
use Rattle.std.specs.List.{All}
use Rattle.std.proofs.lemmas.List.{length-map}
use Rattle.std.proofs.lemmas.List.Elements.{All-map, All-get_or}
use Rattle.disk_model.specs.Folder.{FolderView, quiet_folder}
use Rattle.disk_model.specs.Opener.{FolderIsGiven}

-- a folder as an opener gives it that tells nothing
abbrev pub IsNew : FolderView → Type 0
IsNew given = FolderIsGiven false (quiet_folder 0 false) given

-- folders that are new each, are new in each column
pub new_in_each_column : {X : Type 0} (view : X → FolderView) (folders : List X) → All (λ folder. IsNew (view folder)) folders → (column : ℕ) (other : FolderView) → column < length folders → IsNew (get_or (map view folders) column other)
new_in_each_column view folders new column other within =
    All-get_or IsNew (map view folders) column other (rw length-map within) (All-map IsNew view folders new)

-- what is the same of each, as a list
pub same_of_each : {X Y : Type 0} (f : X → Y) (xs : List X) (y : Y) → All (λ x. f x ≡ y) xs → map f xs ≡ replicate (length xs) y
same_of_each f [] y each = refl
same_of_each f (x ∷ xs) y each =
    let first : f x ≡ y = each 0 x (omega arith) in
    let rest : map f xs ≡ replicate (length xs) y = same_of_each f xs y (λ k d within. each (suc k) d (omega arith)) in
    cc
