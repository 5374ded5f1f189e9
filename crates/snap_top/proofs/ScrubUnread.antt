-- Each cell that a scrub could not read was counted as a fault of its folder.
use Rattle.std.proofs.Common.{◌≡◌, ℕ, ◌+◌, ◌<◌, List, [], ◌∷◌, length, map, count_by, cond, Bool, refl, sym, ap, ap₂, ◌∙◌, subst}
use Rattle.disk_model.specs.Cause.{RoseBy}
use Rattle.disk_model.specs.Folder.{FolderView}
use Rattle.file_table.specs.Table.{TableValue}
use Rattle.file_table.specs.declared.shape.Shape.{Shape}
use Rattle.snap_fix.proofs.FixCountLemmas.{count_cons}
use Rattle.stripe_findings.specs.Reading.{AreRead, StripeReading, is_unread as is_unread_found, slot_of, unread_cells}
use Rattle.stripe_reader.specs.Columns.{folder_at}
use Rattle.stripe_reader.specs.Reading.{Beyond, CellReading, Gone, NoBlock, Nowhere, Part, Unread, Whole, is_unread}
use Rattle.stripe_reader.specs.Slot.{kept}
use Rattle.stripe_reader.specs.SlotValue.{SlotValue}

count_made : {X Y : Type 0} (p : Y → Bool) (f : X → Y) (q : X → Bool) → ((x : X) → p (f x) ≡ q x) → (xs : List X) → count_by p (map f xs) ≡ count_by q xs
count_made p f q same [] = refl
count_made {X} {Y} p f q same (x ∷ xs) =
    count_cons p (f x) (map f xs)
    ∙ ap₂ (λ (one rest : ℕ). one + rest) one_same (count_made p f q same xs)
    ∙ sym (count_cons q x xs)
  where
    one_same : count_by p (f x ∷ []) ≡ count_by q (x ∷ [])
    one_same = ap (λ (b : Bool). 0 + cond b 1 0) (same x)

-- what a slot keeps tells whether the cell was read
kept_unread : (shape : Shape) (cell : CellReading) → is_unread_found (kept shape cell).cell.found ≡ is_unread cell
kept_unread shape NoBlock = refl
kept_unread shape Nowhere = refl
kept_unread shape Beyond = refl
kept_unread shape (Unread seen) = refl
kept_unread shape (Gone seen) = refl
kept_unread shape (Part seen got) = refl
kept_unread shape (Whole seen bytes) = refl

pub unread_counted : (table : TableValue) (readings : List StripeReading) (olds news : List FolderView) → AreRead table readings olds news → (d : ℕ) → d < length olds
    → RoseBy (unread_cells d readings) (folder_at olds d).faults (folder_at news d).faults
unread_counted table readings olds news read d below =
    let its = read.each d below in
    let unread_slot : SlotValue → Bool = λ slot. is_unread_found slot.cell.found in
    let same : unread_cells d readings ≡ count_by is_unread its.readings
    = sym (count_made unread_slot (slot_of d) (λ (reading : StripeReading). unread_slot (slot_of d reading)) (λ reading. refl) readings)
    ∙ ap (count_by unread_slot) its.are_kept
    ∙ count_made unread_slot (kept table.shape) is_unread (kept_unread table.shape) its.readings in
    subst (λ (n : ℕ). RoseBy n (folder_at olds d).faults (folder_at news d).faults) (sym same) its.unread
