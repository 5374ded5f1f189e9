-- What a stop may leave of a parity file, by what was done to it since its last sync.
use Rattle.std.specs.Prelude.{◌≡◌, ℕ, ◌+◌, ◌<◌, ◌≤◌, min, max, List, [], ◌∷◌, length, slice_index, Bool, true, false, ◌&&◌, ◌||◌, nat_le, nat_lt}
use Rattle.disk_model.specs.Bytes.{AreBytes}

-- what it reads as; the ranges that were written, cut off or added since its last sync; the least and the greatest length since then
pub record Unsynced : Type 0 where
  pub read : List ℕ
  pub touched : List (ℕ × ℕ)
  pub least : ℕ
  pub greatest : ℕ

-- the place is in one of the ranges
abbrev pub is_touched : List (ℕ × ℕ) → ℕ → Bool
is_touched [] i = false
is_touched (range ∷ ranges) i = (nat_le range.0 i && nat_lt i range.1) || is_touched ranges i

-- any bytes at the places that were touched, elsewhere the bytes of a read, any length between the least and the greatest
pub record IsFileImage (file : Unsynced) (image : List ℕ) : Type 0 where
  pub bytes : AreBytes image
  pub same : (i : ℕ) → i < length image → is_touched file.touched i ≡ false → slice_index image i ≡ slice_index file.read i
  pub no_shorter : file.least ≤ length image
  pub no_longer : length image ≤ file.greatest

-- just synced
abbrev pub synced : List ℕ → Unsynced
synced read = record { read = read; touched = []; least = length read; greatest = length read }

-- n bytes were written at a place, or only some of them, and it reads so now
abbrev pub written : ℕ → ℕ → List ℕ → Unsynced → Unsynced
written at n read file = record { read = read; touched = (min at (length file.read), at + n) ∷ file.touched; least = file.least; greatest = max file.greatest (at + n) }

-- its length was changed, or is about to be, and it reads so now
abbrev pub stretched : ℕ → List ℕ → Unsynced → Unsynced
stretched len read file = record { read = read; touched = (min (length file.read) len, max (length file.read) len) ∷ file.touched; least = min file.least len; greatest = max file.greatest len }

-- what holds of each such file: what it reads as is an image, and all places between the two lengths were touched
pub record IsUnsynced (file : Unsynced) : Type 0 where
  pub bytes : AreBytes file.read
  pub least : file.least ≤ length file.read
  pub greatest : length file.read ≤ file.greatest
  pub between : (i : ℕ) → file.least ≤ i → i < file.greatest → is_touched file.touched i ≡ true
