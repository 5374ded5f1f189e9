-- How a list of bytes picks one of the images of a vault.
use Rattle.std.specs.Prelude.{ℕ, ◌-◌, min, max, List, [], ◌∷◌, length, map, take, drop, get_or, slice_index, Option, None, Some, IfSome, ◌+◌, ◌<◌, ◌^◌, if◌then◌else◌, nat_le, nat_eq}
use Rattle.std.specs.List.{range_with_len}
use Rattle.std.specs.Int.{w64, from_le_bytes}
use Rattle.disk_model.specs.Files.{Files, parity_of, content_of}
use Rattle.disk_model.specs.Machine.{Machine, Loose, replay}
use Rattle.disk_model.specs.Unsynced.{Unsynced, is_touched}
use Rattle.disk_model.specs.Vault.{VaultDone}

-- the number that eight bytes tell, the lowest first, 0 where fewer are left
abbrev pub number_in : List ℕ → ℕ
number_in choice = if nat_le 8 (length choice) then from_le_bytes w64 (take 8 choice) else 0

-- the length that the number picks, between the least and the greatest
abbrev pub length_in : Unsynced → List ℕ → ℕ
length_in file choice = max file.least (min (number_in choice) file.greatest)

-- these bytes at the places that were touched, elsewhere those that a read gives
abbrev pub mixed : Unsynced → ℕ → List ℕ → List ℕ
mixed file len bytes = map (λ i. if is_touched file.touched i then slice_index bytes i else slice_index file.read i) (range_with_len 0 len)

-- a parity file: its length, and then a byte for each place
abbrev pub level_image : Unsynced → List ℕ → List ℕ
level_image file choice = mixed file (length_in file choice) (drop 8 choice)

abbrev pub after_level : Unsynced → List ℕ → List ℕ
after_level file choice = drop (length_in file choice) (drop 8 choice)

abbrev pub levels_image : List Unsynced → List ℕ → List (List ℕ)
levels_image [] choice = []
levels_image (file ∷ files) choice = level_image file choice ∷ levels_image files (after_level file choice)

abbrev pub after_levels : List Unsynced → List ℕ → List ℕ
after_levels [] choice = choice
after_levels (file ∷ files) choice = after_levels files (after_level file choice)

-- any content: 0 stands for no file, and else one more than the number of its bytes, and then these
abbrev pub any_content : ℕ → List ℕ → Option (List ℕ)
any_content number bytes = if nat_eq number 0 then None else Some (take (number - 1) bytes)

-- a copy: any content at all, or one of those that are left, by its number
abbrev pub copy_image : Loose → List ℕ → Option (List ℕ)
copy_image copy choice = if copy.any then any_content (number_in choice) (drop 8 choice) else get_or (copy.read ∷ copy.others) (number_in choice) copy.read

abbrev pub after_copy : Loose → List ℕ → List ℕ
after_copy copy choice = if copy.any then drop (number_in choice - 1) (drop 8 choice) else drop 8 choice

abbrev pub copies_image : List Loose → List ℕ → List (Option (List ℕ))
copies_image [] choice = []
copies_image (copy ∷ copies) choice = copy_image copy choice ∷ copies_image copies (after_copy copy choice)

abbrev pub after_copies : List Loose → List ℕ → List ℕ
after_copies [] choice = choice
after_copies (copy ∷ copies) choice = after_copies copies (after_copy copy choice)

-- the image that the bytes pick: each parity file in order, and then each copy
abbrev pub image_of : Machine → List ℕ → Files
image_of m choice = record { parities = levels_image m.levels choice; contents = copies_image m.copies (after_levels m.levels choice) }

-- the image that the bytes pick of a vault that was opened so: the first eight tell after how many of its calls the stop came
abbrev pub picked_image : Machine → List VaultDone → List ℕ → Files
picked_image opened calls choice = image_of (replay opened (take (number_in choice) calls)) (drop 8 choice)

-- eight bytes can count what each of the files holds
pub record CanBeCounted (files : Files) : Type 0 where
  pub parities : (level : ℕ) → length (parity_of files level) < 2 ^ 64
  pub contents : (copy : ℕ) → IfSome (content_of files copy) (λ bytes. length bytes + 1 < 2 ^ 64)
