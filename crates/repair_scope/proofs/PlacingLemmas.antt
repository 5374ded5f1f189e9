-- The listed files of a column, and what is known of them, column by column.
use Rattle.std.proofs.Common.{◌≡◌, ℕ, ◌+◌, ◌<◌, List, [], ◌∷◌, ◌++◌, map, length, get_or, Bool, true, false, cond, sym, ap, ◌∙◌, subst, arith, append_assoc, All}
use Rattle.std.proofs.lemmas.List.{append-nil, map-append, get_or-map, length-map}
use Rattle.std.proofs.lemmas.List.FromFn.{map-range_with_len_more}
use Rattle.disk_model.specs.Path.{lost_suffix}
use Rattle.disk_model.specs.Tree.{IsListing, path_of}
use Rattle.folder_listing.specs.Kept.{files_of, lists_of, each_column}
use Rattle.folder_listing.specs.declared.listing.Listing.{Listing}
use Rattle.array_setup.specs.Setup.{SetupValue}
use Rattle.array_setup.specs.declared.setup.Disk.{Disk}
use Rattle.repair_scope.specs.Plan.{names_of}

-- what stands behind PATH in the front of the paths below it, or below PATH`.unrecoverable`
pub directory_bytes : (path rest : List ℕ) (lost : Bool) → rest ≡ cond lost (lost_suffix ++ 47 ∷ []) (47 ∷ []) → path ++ rest ≡ path_of path lost ++ 47 ∷ []
directory_bytes path rest true is = ap (λ (xs : List ℕ). path ++ xs) is ∙ sym (append_assoc path lost_suffix (47 ∷ []))
directory_bytes path rest false is = ap (λ (xs : List ℕ). path ++ xs) is ∙ ap (λ (xs : List ℕ). xs ++ 47 ∷ []) (sym (append-nil path))

-- the files that the folder of a column listed
pub list_at : (lists : List Listing) (d : ℕ) (e : Listing) → d < length lists → get_or (lists_of lists) d [] ≡ files_of (get_or lists d e)
list_at lists d e within = get_or-map files_of lists d e [] within

pub listing_at : (lists : List Listing) (d : ℕ) (e : Listing) → All IsListing (lists_of lists) → d < length lists → IsListing (files_of (get_or lists d e))
listing_at lists d e all within = let long : length (lists_of lists) ≡ length lists = length-map lists files_of in subst IsListing (list_at lists d e within) (all d [] (omega arith))

-- the name of the disk of a column
pub name_at : (setup : SetupValue) (disks : List Disk) (d : ℕ) (e : Disk) → disks ≡ setup.disks → d < length disks → get_or (names_of setup) d [] ≡ (get_or disks d e).name
name_at setup disks d e same within =
    ap (λ (all : List Disk). get_or (map (λ (one : Disk). one.name) all) d []) (sym same) ∙ get_or-map (λ (one : Disk). one.name) disks d e [] within

-- what is made of one column more
pub column_more : {V X : Type 0} (items : V → List X) (of : ℕ → List X) (columns after : List V) (made : V) (d : ℕ) → after ≡ columns ++ made ∷ []
    → map items columns ≡ each_column of d → items made ≡ of d → map items after ≡ each_column of (d + 1)
column_more {V} {X} items of columns after made d more before is =
    ap (map items) more
    ∙ map-append items columns (made ∷ [])
    ∙ ap (λ (xs : List (List X)). xs ++ items made ∷ []) before
    ∙ ap (λ (x : List X). each_column of d ++ x ∷ []) is
    ∙ sym (map-range_with_len_more of 0 d d (omega arith))
