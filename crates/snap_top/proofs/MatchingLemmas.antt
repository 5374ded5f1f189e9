-- Names that are the same.
use Rattle.std.proofs.Common.{◌≡◌, ℕ, zero, suc, ◌<◌, ◌≤◌, List, [], ◌∷◌, length, slice_get, None, Some, refl, ap₂, arith}
use Rattle.std.proofs.lemmas.List.{length-map}
use Rattle.file_table.specs.Table.{TableValue}
use Rattle.array_setup.specs.Setup.{SetupValue}
use Rattle.snap_top.specs.Array.{column_names, disk_names}

-- lists that have the same at each place are the same
pub same_by_places : (a b : List (List ℕ)) (n : ℕ) → length a ≤ n → length b ≤ n → ((k : ℕ) → k < n → slice_get a k ≡ slice_get b k) → a ≡ b
same_by_places [] [] n one other same = refl
same_by_places [] (y ∷ b) n one other same = absurd (let first : None ≡ Some y = same 0 (omega (arith, other)) in cc)
same_by_places (x ∷ a) [] n one other same = absurd (let first : Some x ≡ None = same 0 (omega (arith, one)) in cc)
same_by_places (x ∷ a) (y ∷ b) zero one other same = absurd (omega (arith, one))
same_by_places (x ∷ a) (y ∷ b) (suc n) one other same =
    let first : Some x ≡ Some y = same 0 (omega arith) in
    let heads : x ≡ y = cc in
    ap₂ (λ (z : List ℕ) (zs : List (List ℕ)). z ∷ zs) heads (same_by_places a b n (omega (arith, one)) (omega (arith, other)) (λ k below. same (suc k) (omega (arith, below))))

pub length-columns : (table : TableValue) → length (column_names table) ≡ length table.columns
length-columns table = length-map _ _

pub length-disks : (setup : SetupValue) → length (disk_names setup) ≡ length setup.disks
length-disks setup = length-map _ _
