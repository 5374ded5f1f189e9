-- What an opener gives is what it held.
use Rattle.std.proofs.Common.{◌≡◌, ℕ, zero, suc, ◌<◌, List, [], ◌∷◌, length, get_or, map, Option, Some, All, true, false, sym, ap, arith}
use Rattle.disk_model.specs.Folder.{FolderView, quiet_folder}
use Rattle.disk_model.specs.Opener.{FolderIsGiven}
use Rattle.disk_memory.specs.Opener.{folders_left}

-- each folder that is seen is open
all_open : {F : Type 0} (view : F → FolderView) (folders : List F) → All (λ f. (view f).closed ≡ false) folders → (column : ℕ) → column < length folders → (get_or (map view folders) column (quiet_folder 0 false)).closed ≡ false
all_open view [] are_open column below = absurd (omega arith)
all_open view (f ∷ folders) are_open zero below = are_open 0 f (omega arith)
all_open view (f ∷ folders) are_open (suc column) below = all_open view folders (λ k d lt. are_open (suc k) d (omega arith)) column (omega arith)

pub given_as_held : {A F : Type 0} (view : F → FolderView) (folders_of : A → List F) (held : Option A) (opened : A)
    → held ≡ Some opened → All (λ f. (view f).closed ≡ false) (folders_of opened) → (column : ℕ) → column < length (folders_of opened)
    → FolderIsGiven true (get_or (folders_left (λ o. map view (folders_of o)) held) column (quiet_folder 0 false)) (get_or (map view (folders_of opened)) column (quiet_folder 0 false))
given_as_held view folders_of held opened is are_open column below =
    let same = sym (ap (λ h. get_or (folders_left (λ o. map view (folders_of o)) h) column (quiet_folder 0 false)) is) in
    record {
      faults = ap (λ (v : FolderView). v.faults) same;
      writes = ap (λ (v : FolderView). v.writes) same;
      is_open = all_open view (folders_of opened) are_open column below;
      whole = λ told. same;
    }
