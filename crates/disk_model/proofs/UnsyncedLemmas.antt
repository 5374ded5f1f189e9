-- What a stop may leave of an unsynced file goes on as a vault's calls say.
use Rattle.std.proofs.Common.{◌≡◌, ◌⊎◌, inl, inr, ⊎_elim, ℕ, ◌+◌, ◌<◌, ◌≤◌, min, max, List, ◌∷◌, length, map, cond, Bool, true, false, refl, sym, ◌∙◌, ap, arith, subst, slice_index}
use Rattle.std.specs.List.{range_with_len}
use Rattle.std.proofs.lemmas.List.FromFn.{length-map-range_with_len, get_or-map-range_with_len}
use Rattle.std.proofs.lemmas.List.{ext_get_or}
use Rattle.std.proofs.lemmas.List.Elements.{All-from_get_or}
use Rattle.std.proofs.lemmas.Bool.{cases_lt}
use Rattle.std.proofs.lemmas.Bool.Decides.{nat_tests}
use Rattle.disk_model.specs.Bytes.{AreBytes, Torn, Stretched}
use Rattle.disk_model.specs.Unsynced.{Unsynced, is_touched, IsFileImage, synced, written, stretched, IsUnsynced}
use Rattle.disk_model.proofs.BytesLemmas.{byte_at}

-- the image before, from one after: its own bytes where touched before, else those of a read
before : Unsynced → ℕ → List ℕ → List ℕ
before file len image = map (λ i. cond (is_touched file.touched i) (slice_index image i) (slice_index file.read i)) (range_with_len 0 len)

length-before : (file : Unsynced) (len : ℕ) (image : List ℕ) → length (before file len image) ≡ len
unfolding before
length-before file len image = length-map-range_with_len _ 0 len

before_at : (file : Unsynced) (len : ℕ) (image : List ℕ) (i : ℕ) → i < len → slice_index (before file len image) i ≡ cond (is_touched file.touched i) (slice_index image i) (slice_index file.read i)
unfolding before
before_at file len image i below = get_or-map-range_with_len _ 0 len i i 0 below (omega arith)

either : (b : Bool) (x y : ℕ) → x < 256 → y < 256 → cond b x y < 256
either true x y one two = one
either false x y one two = two

before_bytes : (file : Unsynced) (len : ℕ) (image : List ℕ) → AreBytes file.read → AreBytes image → AreBytes (before file len image)
before_bytes file len image one two = All-from_get_or (λ byte. byte < 256) (before file len image) 0 (λ i below.
    let within : i < len = omega (arith, below, length-before file len image) in
    subst (λ byte. byte < 256) (sym (before_at file len image i within))
    (either (is_touched file.touched i) (slice_index image i) (slice_index file.read i) (byte_at image two i) (byte_at file.read one i)))

before_is_image : (file : Unsynced) (len : ℕ) (image : List ℕ) → AreBytes file.read → AreBytes image → file.least ≤ len → len ≤ file.greatest → IsFileImage file (before file len image)
before_is_image file len image one two low high =
    let long = length-before file len image in
    record {
      bytes = before_bytes file len image one two;
      same = λ i below free. before_at file len image i (omega (arith, below, long)) ∙ ap (λ b. cond b (slice_index image i) (slice_index file.read i)) free;
      no_shorter = omega (arith, long);
      no_longer = omega (arith, long);
    }

-- a place is touched, or it isn't
touched_or : (b : Bool) → (b ≡ true) ⊎ (b ≡ false)
touched_or true = inl refl
touched_or false = inr refl

-- an untouched place of an image is below the length of a read
untouched_below : (file : Unsynced) → IsUnsynced file → (i : ℕ) → i < file.greatest → is_touched file.touched i ≡ false → i < length file.read
untouched_below file is i below free = elim (cases_lt i (length file.read)) [
  | inl low ↦ low
  | inr high ↦ let touched = is.between i (let l = is.least in omega (arith, l, high)) below in absurd (let clash : true ≡ false = sym touched ∙ free in cc)
]

outside : (low high : ℕ) (ranges : List (ℕ × ℕ)) (i : ℕ) → (i < low) ⊎ (high ≤ i) → is_touched ranges i ≡ false → is_touched ((low, high) ∷ ranges) i ≡ false
outside low high ranges i (inl under) free = grind (arith, nat_tests)
outside low high ranges i (inr over) free = grind (arith, nat_tests)

-- an image after a write comes from one before it
pub write_follows : (file : Unsynced) (at n : ℕ) (read : List ℕ) → IsUnsynced file
    → ((i : ℕ) → i < length file.read → (i < at) ⊎ (at + n ≤ i) → slice_index read i ≡ slice_index file.read i)
    → (image : List ℕ) → IsFileImage (written at n read file) image → (old : List ℕ) × IsFileImage file old × Torn at n old image
write_follows file at n read is reads image left =
    let len = min (length image) file.greatest in
    let long = length-before file len image in
    let l1 = is.least in let l2 = is.greatest in let l3 = left.no_shorter in let l4 = left.no_longer in (
      before file len image,
      before_is_image file len image is.bytes left.bytes (omega arith) (omega arith),
      record {
        same = λ i below apart.
            let within : i < len = omega (arith, below, long) in
            ⊎_elim
            (λ touched. sym (before_at file len image i within ∙ ap (λ b. cond b (slice_index image i) (slice_index file.read i)) touched))
            (λ free.
            let low = untouched_below file is i (omega arith) free in
            left.same i (omega arith) (outside (min at (length file.read)) (at + n) file.touched i (⊎_elim (λ under. inl (omega (arith, under, low))) (λ over. inr over) apart) free)
            ∙ reads i low apart
            ∙ sym (before_at file len image i within ∙ ap (λ b. cond b (slice_index image i) (slice_index file.read i)) free))
            (touched_or (is_touched file.touched i));
        no_shorter = omega (arith, long);
        no_longer = omega (arith, long);
      },
    )

-- and so after a change of the length
pub stretch_follows : (file : Unsynced) (len : ℕ) (read : List ℕ) → IsUnsynced file
    → ((i : ℕ) → i < length file.read → i < len → slice_index read i ≡ slice_index file.read i)
    → (image : List ℕ) → IsFileImage (stretched len read file) image → (old : List ℕ) × IsFileImage file old × Stretched len old image
stretch_follows file len read is reads image left =
    let size = max file.least (min (length image) file.greatest) in
    let long = length-before file size image in
    let l1 = is.least in let l2 = is.greatest in let l3 = left.no_shorter in let l4 = left.no_longer in (
      before file size image,
      before_is_image file size image is.bytes left.bytes (omega arith) (omega arith),
      record {
        same = λ i below now under.
            let within : i < size = omega (arith, below, long) in
            ⊎_elim
            (λ touched. sym (before_at file size image i within ∙ ap (λ b. cond b (slice_index image i) (slice_index file.read i)) touched))
            (λ free.
            let low = untouched_below file is i (omega arith) free in
            left.same i now (outside (min (length file.read) len) (max (length file.read) len) file.touched i (inl (omega (arith, low, under))) free)
            ∙ reads i low under
            ∙ sym (before_at file size image i within ∙ ap (λ b. cond b (slice_index image i) (slice_index file.read i)) free))
            (touched_or (is_touched file.touched i));
        no_shorter = omega (arith, long);
        no_longer = omega (arith, long);
      },
    )

-- what it reads as is an image
pub reads_as_image : (file : Unsynced) → IsUnsynced file → IsFileImage file file.read
reads_as_image file is = record { bytes = is.bytes; same = λ i below free. refl; no_shorter = is.least; no_longer = is.greatest }

-- after a sync nothing else is
pub synced_is_read : (read image : List ℕ) → IsFileImage (synced read) image → image ≡ read
synced_is_read read image left = let low = left.no_shorter in let high = left.no_longer in ext_get_or 0 image read (omega arith) (λ i below. left.same i below refl)

in_either : (low high : ℕ) (ranges : List (ℕ × ℕ)) (i : ℕ) → ((low ≤ i) × (i < high)) ⊎ (is_touched ranges i ≡ true) → is_touched ((low, high) ∷ ranges) i ≡ true
in_either low high ranges i (inl within) = let l = within.0 in let h = within.1 in grind (arith, nat_tests)
in_either low high ranges i (inr touched) = grind (arith, nat_tests)

pub synced_steady : (read : List ℕ) → AreBytes read → IsUnsynced (synced read)
synced_steady read bytes = record { bytes = bytes; least = omega arith; greatest = omega arith; between = λ i low high. absurd (omega (arith, low, high)) }

-- a write, whatever a read shows of it
pub written_steady : (at n : ℕ) (read : List ℕ) (file : Unsynced) → IsUnsynced file → AreBytes read → length file.read ≤ length read → length read ≤ max (length file.read) (at + n)
    → IsUnsynced (written at n read file)
written_steady at n read file is bytes low high = record {
  bytes = bytes;
  least = let l = is.least in omega (arith, l, low);
  greatest = let g = is.greatest in omega (arith, g, high);
  between = λ i from to. in_either (min at (length file.read)) (at + n) file.touched i (split i from to (cases_lt i file.greatest));
}
  where
    split : (i : ℕ) → file.least ≤ i → i < max file.greatest (at + n) → (i < file.greatest) ⊎ (file.greatest ≤ i) → ((min at (length file.read) ≤ i) × (i < at + n)) ⊎ (is_touched file.touched i ≡ true)
    split i from to (inl under) = inr (is.between i from under)
    split i from to (inr over) = let g = is.greatest in inl (omega (arith, g, over), omega (arith, to, over))

-- a change of the length
pub stretched_steady : (len : ℕ) (read : List ℕ) (file : Unsynced) → IsUnsynced file → AreBytes read → min (length file.read) len ≤ length read → length read ≤ max (length file.read) len
    → IsUnsynced (stretched len read file)
stretched_steady len read file is bytes low high = record {
  bytes = bytes;
  least = let l = is.least in omega (arith, l, low);
  greatest = let g = is.greatest in omega (arith, g, high);
  between = λ i from to. in_either (min (length file.read) len) (max (length file.read) len) file.touched i (split i from to (cases_lt i file.greatest) (cases_lt i file.least));
}
  where
    split : (i : ℕ) → min file.least len ≤ i → i < max file.greatest len → (i < file.greatest) ⊎ (file.greatest ≤ i) → (i < file.least) ⊎ (file.least ≤ i)
        → ((min (length file.read) len ≤ i) × (i < max (length file.read) len)) ⊎ (is_touched file.touched i ≡ true)
    split i from to (inl under) (inr above) = inr (is.between i above under)
    split i from to (inl under) (inl below) = let l = is.least in inl (omega (arith, l, from, below), omega (arith, l, below))
    split i from to (inr over) apart = let g = is.greatest in inl (omega (arith, g, over), omega (arith, to, over))
