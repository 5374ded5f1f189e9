-- What bytes pick of a vault is an image, and each image is picked by some bytes.
use Rattle.std.proofs.Common.{◌≡◌, ◌⊎◌, inl, inr, ⊎_elim, ℕ, zero, suc, ◌+◌, ◌-◌, ◌/◌, ◌^◌, ◌<◌, List, [], ◌∷◌, ◌++◌, length, take, drop, get_or, if◌then◌else◌, nat_le, nat_eq, Option, None, Some, IfSome, Bool, true, false, refl, sym, ◌∙◌, ap, subst, arith, slice_index, append_assoc, length-append}
use Rattle.std.specs.Int.{w64, from_le_bytes, to_le_bytes, byte_at as number_byte, bytes_low_first}
use Rattle.std.proofs.lemmas.List.FromFn.{length-map-range_with_len, get_or-map-range_with_len, map-range_with_len_more}
use Rattle.std.proofs.lemmas.List.{ext_get_or, get_or_append_left, get_or_past, take-append-le, drop-append-le, take_all, drop_all, append-nil, get_or_default, take_more}
use Rattle.std.proofs.lemmas.List.Elements.{All-take, All-drop, All-from_get_or, All-append, All-nil, All-cons}
use Rattle.std.proofs.lemmas.Nat.{from_le_bytes-to_le_bytes_8}
use Rattle.std.proofs.Math.Nat.{mod-lt}
use Rattle.std.proofs.Math.Seq.{drop-append_seam}
use Rattle.std.proofs.lemmas.Bool.{le-leb, cases_lt}
use Rattle.std.proofs.lemmas.Bool.Decides.{nat_tests}
use Rattle.disk_model.specs.Bytes.{AreBytes}
use Rattle.disk_model.proofs.BytesLemmas.{byte_at}
use Rattle.disk_model.specs.Files.{Files}
use Rattle.disk_model.specs.Machine.{Machine, Loose, IsImage, IsCopyImage, IsOneOf, settled, no_file, replay}
use Rattle.disk_model.specs.Vault.{VaultDone}
use Rattle.disk_model.specs.Unsynced.{Unsynced, is_touched, IsFileImage, IsUnsynced}
use Rattle.disk_memory.specs.Choice.{number_in, length_in, mixed, level_image, after_level, levels_image, after_levels, any_content, copy_image, after_copy, copies_image, after_copies, image_of, picked_image, CanBeCounted}

-- ---- one after another

levels_image_push : (files : List Unsynced) (file : Unsynced) (choice : List ℕ) → levels_image (files ++ file ∷ []) choice ≡ levels_image files choice ++ level_image file (after_levels files choice) ∷ []
levels_image_push [] file choice = refl
levels_image_push (f ∷ files) file choice = ap (λ (xs : List (List ℕ)). level_image f choice ∷ xs) (levels_image_push files file (after_level f choice))

after_levels_push : (files : List Unsynced) (file : Unsynced) (choice : List ℕ) → after_levels (files ++ file ∷ []) choice ≡ after_level file (after_levels files choice)
after_levels_push [] file choice = refl
after_levels_push (f ∷ files) file choice = after_levels_push files file (after_level f choice)

copies_image_push : (copies : List Loose) (copy : Loose) (choice : List ℕ) → copies_image (copies ++ copy ∷ []) choice ≡ copies_image copies choice ++ copy_image copy (after_copies copies choice) ∷ []
copies_image_push [] copy choice = refl
copies_image_push (c ∷ copies) copy choice = ap (λ (xs : List (Option (List ℕ))). copy_image c choice ∷ xs) (copies_image_push copies copy (after_copy c choice))

after_copies_push : (copies : List Loose) (copy : Loose) (choice : List ℕ) → after_copies (copies ++ copy ∷ []) choice ≡ after_copy copy (after_copies copies choice)
after_copies_push [] copy choice = refl
after_copies_push (c ∷ copies) copy choice = after_copies_push copies copy (after_copy c choice)

-- one more of a list
one_more : {A : Type 0} (xs : List A) (i : ℕ) (x : A) → i < length xs → x ≡ get_or xs i x → take (i + 1) xs ≡ take i xs ++ x ∷ []
one_more xs i x within is = take_more xs i x within ∙ ap (λ y. take i xs ++ y ∷ []) (sym is)

-- the bytes that are left, and the images, after one more of a list
module _ (files : List Unsynced) (i : ℕ) (file : Unsynced) (choice rest : List ℕ) (within : i < length files) (is : file ≡ get_or files i file) (left : rest ≡ after_levels (take i files) choice) where
  pub after_levels_more : after_level file rest ≡ after_levels (take (i + 1) files) choice
  after_levels_more = ap (after_level file) left ∙ sym (ap (λ (fs : List Unsynced). after_levels fs choice) (one_more files i file within is) ∙ after_levels_push (take i files) file choice)

  pub levels_image_more : (images : List (List ℕ)) (image : List ℕ) → images ≡ levels_image (take i files) choice → image ≡ level_image file rest → images ++ image ∷ [] ≡ levels_image (take (i + 1) files) choice
  levels_image_more images image so_far picked =
      ap (λ (xs : List (List ℕ)). xs ++ image ∷ []) so_far
      ∙ ap (λ (x : List ℕ). levels_image (take i files) choice ++ x ∷ []) (picked ∙ ap (level_image file) left)
      ∙ sym (ap (λ (fs : List Unsynced). levels_image fs choice) (one_more files i file within is) ∙ levels_image_push (take i files) file choice)

module _ (copies : List Loose) (i : ℕ) (copy : Loose) (choice rest : List ℕ) (within : i < length copies) (is : copy ≡ get_or copies i copy) (left : rest ≡ after_copies (take i copies) choice) where
  pub after_copies_more : after_copy copy rest ≡ after_copies (take (i + 1) copies) choice
  after_copies_more = ap (after_copy copy) left ∙ sym (ap (λ (cs : List Loose). after_copies cs choice) (one_more copies i copy within is) ∙ after_copies_push (take i copies) copy choice)

  pub copies_image_more : (images : List (Option (List ℕ))) (image : Option (List ℕ)) → images ≡ copies_image (take i copies) choice → image ≡ copy_image copy rest
      → images ++ image ∷ [] ≡ copies_image (take (i + 1) copies) choice
  copies_image_more images image so_far picked =
      ap (λ (xs : List (Option (List ℕ))). xs ++ image ∷ []) so_far
      ∙ ap (λ (x : Option (List ℕ)). copies_image (take i copies) choice ++ x ∷ []) (picked ∙ ap (copy_image copy) left)
      ∙ sym (ap (λ (cs : List Loose). copies_image cs choice) (one_more copies i copy within is) ∙ copies_image_push (take i copies) copy choice)

-- one more byte
pub mixed_more : (file : Unsynced) (n : ℕ) (bytes : List ℕ)
    → mixed file (n + 1) bytes ≡ mixed file n bytes ++ (if is_touched file.touched n then slice_index bytes n else slice_index file.read n) ∷ []
mixed_more file n bytes = map-range_with_len_more (λ i. if is_touched file.touched i then slice_index bytes i else slice_index file.read i) 0 n n (omega arith)

-- ---- each image is picked

-- the bytes of a number, before others
module _ (n : ℕ) (rest : List ℕ) (fits : n < 2 ^ 64) where
  told : List ℕ
  told = to_le_bytes w64 n ++ rest

  eight : length (to_le_bytes w64 n) ≡ 8
  eight = refl

  number_told : number_in (to_le_bytes w64 n ++ rest) ≡ n
  number_told =
      let front : take 8 (to_le_bytes w64 n ++ rest) ≡ to_le_bytes w64 n = take-append-le 8 (to_le_bytes w64 n) rest (omega (arith, eight)) ∙ take_all 8 (to_le_bytes w64 n) (omega (arith, eight)) in
      let long : nat_le 8 (length (to_le_bytes w64 n ++ rest)) ≡ true = le-leb 8 _ (omega (arith, eight, length-append (to_le_bytes w64 n) rest)) in
      ap (λ (b : Bool). if b then from_le_bytes w64 (take 8 (to_le_bytes w64 n ++ rest)) else 0) long ∙ ap (from_le_bytes w64) front ∙ from_le_bytes-to_le_bytes_8 n fits

  rest_told : drop 8 (to_le_bytes w64 n ++ rest) ≡ rest
  rest_told = drop-append-le 8 (to_le_bytes w64 n) rest (omega (arith, eight)) ∙ ap (λ (xs : List ℕ). xs ++ rest) (drop_all 8 (to_le_bytes w64 n) (omega (arith, eight)))

either : (b : Bool) → (b ≡ true) ⊎ (b ≡ false)
either true = inl refl
either false = inr refl

-- some bytes pick this, and leave what follows them
abbrev Picks : {A : Type 0} → (List ℕ → A) → (List ℕ → List ℕ) → A → Type 0
Picks image after chosen = (front : List ℕ) × AreBytes front × ((rest : List ℕ) → (image (front ++ rest) ≡ chosen) × (after (front ++ rest) ≡ rest))

byte_below : (i n : ℕ) → number_byte i n < 256
byte_below zero n = mod-lt n (omega arith)
byte_below (suc i) n = mod-lt (n / 256 ^ suc i) (omega arith)

low_bytes : (i k n : ℕ) → AreBytes (bytes_low_first i k n)
low_bytes i zero n = All-nil (λ byte. byte < 256)
low_bytes i (suc k) n = All-cons (λ byte. byte < 256) (number_byte i n) (bytes_low_first (suc i) k n) (byte_below i n) (low_bytes (suc i) k n)

number_bytes : (n : ℕ) → AreBytes (to_le_bytes w64 n)
number_bytes n = low_bytes 0 8 n

picks_level : (file : Unsynced) (image : List ℕ) → IsFileImage file image → length image < 2 ^ 64 → Picks (level_image file) (after_level file) image
picks_level file image is fits = (
  to_le_bytes w64 (length image) ++ image,
  All-append (λ byte. byte < 256) (to_le_bytes w64 (length image)) image (number_bytes (length image)) is.bytes,
  λ rest. (picked rest, left rest),
)
  where
    whole : (rest : List ℕ) → List ℕ
    whole rest = (to_le_bytes w64 (length image) ++ image) ++ rest

    split : (rest : List ℕ) → (to_le_bytes w64 (length image) ++ image) ++ rest ≡ to_le_bytes w64 (length image) ++ (image ++ rest)
    split rest = append_assoc (to_le_bytes w64 (length image)) image rest

    long : (rest : List ℕ) → length_in file (to_le_bytes w64 (length image) ++ (image ++ rest)) ≡ length image
    long rest = let n = number_told (length image) (image ++ rest) fits in let low = is.no_shorter in let high = is.no_longer in omega (arith, n, low, high)

    mixed_is : (rest : List ℕ) → mixed file (length image) (image ++ rest) ≡ image
    mixed_is rest = ext_get_or 0 (mixed file (length image) (image ++ rest)) image (length-map-range_with_len _ 0 (length image)) (λ i below.
        let inside : i < length image = omega (arith, below, length-map-range_with_len (λ k. if is_touched file.touched k then slice_index (image ++ rest) k else slice_index file.read k) 0 (length image)) in
        get_or-map-range_with_len (λ k. if is_touched file.touched k then slice_index (image ++ rest) k else slice_index file.read k) 0 (length image) i i 0 inside (omega arith)
        ∙ ⊎_elim
        (λ touched. ap (λ b. if b then slice_index (image ++ rest) i else slice_index file.read i) touched ∙ get_or_append_left image rest 0 i inside)
        (λ free. ap (λ b. if b then slice_index (image ++ rest) i else slice_index file.read i) free ∙ sym (is.same i inside free))
        (either (is_touched file.touched i)))

    picked : (rest : List ℕ) → level_image file ((to_le_bytes w64 (length image) ++ image) ++ rest) ≡ image
    picked rest =
        ap (level_image file) (split rest)
        ∙ ap (λ n. mixed file n (drop 8 (to_le_bytes w64 (length image) ++ (image ++ rest)))) (long rest)
        ∙ ap (mixed file (length image)) (rest_told (length image) (image ++ rest) fits)
        ∙ mixed_is rest

    left : (rest : List ℕ) → after_level file ((to_le_bytes w64 (length image) ++ image) ++ rest) ≡ rest
    left rest =
        ap (after_level file) (split rest)
        ∙ ap (λ n. drop n (drop 8 (to_le_bytes w64 (length image) ++ (image ++ rest)))) (long rest)
        ∙ ap (drop (length image)) (rest_told (length image) (image ++ rest) fits)
        ∙ drop-append_seam image rest

-- one pick after another
picks_then : {A : Type 0} (image : List ℕ → A) (after : List ℕ → List ℕ) (chosen : A) (images : List ℕ → List A) (afters : List ℕ → List ℕ) (many : List A)
    → Picks image after chosen → Picks images afters many → Picks (λ choice. image choice ∷ images (after choice)) (λ choice. afters (after choice)) (chosen ∷ many)
picks_then image after chosen images afters many one more = (
  one.0 ++ more.0,
  All-append (λ byte. byte < 256) one.0 more.0 one.1 more.1,
  λ rest.
      let first = one.2 (more.0 ++ rest) in
      let second = more.2 rest in
      let split : (one.0 ++ more.0) ++ rest ≡ one.0 ++ (more.0 ++ rest) = append_assoc one.0 more.0 rest in
      let left : after ((one.0 ++ more.0) ++ rest) ≡ more.0 ++ rest = ap after split ∙ first.1 in (
        ap (λ x. x ∷ images (after ((one.0 ++ more.0) ++ rest))) (ap image split ∙ first.0) ∙ ap (λ xs. chosen ∷ xs) (ap images left ∙ second.0),
        ap afters left ∙ second.1,
      ),
)

picks_none : {A : Type 0} → Picks {A = List A} (λ choice. []) (λ choice. choice) []
picks_none = ([], All-nil (λ byte. byte < 256), λ rest. (refl, refl))

pub picks_levels : (files : List Unsynced) (images : List (List ℕ)) → length images ≡ length files
    → ((k : ℕ) → k < length files → IsFileImage (get_or files k no_file) (get_or images k [])) → ((k : ℕ) → length (get_or images k []) < 2 ^ 64)
    → Picks (levels_image files) (after_levels files) images
picks_levels [] [] long are fit = picks_none
picks_levels [] (image ∷ images) long are fit = absurd (omega (arith, long))
picks_levels (file ∷ files) [] long are fit = absurd (omega (arith, long))
picks_levels (file ∷ files) (image ∷ images) long are fit =
    picks_then (level_image file) (after_level file) image (levels_image files) (after_levels files) images
    (picks_level file image (are 0 (omega arith)) (fit 0))
    (picks_levels files images (omega (arith, long)) (λ k below. are (suc k) (omega (arith, below))) (λ k. fit (suc k)))

-- the place of one of several
place_of_one : (others : List (Option (List ℕ))) (content d : Option (List ℕ)) → IsOneOf others content → (k : ℕ) × (k < length others) × (get_or others k d ≡ content)
place_of_one [] content d is = absurd is
place_of_one (other ∷ others) content d (inl same) = (0, omega arith, sym same)
place_of_one (other ∷ others) content d (inr more) = let rest = place_of_one others content d more in (suc rest.0, omega (arith, rest.1), rest.2)

picks_any : (copy : Loose) (content : Option (List ℕ)) → copy.any ≡ true → IfSome content AreBytes → IfSome content (λ bytes. length bytes + 1 < 2 ^ 64) → Picks (copy_image copy) (after_copy copy) content
picks_any copy None any are fits = (
  to_le_bytes w64 0,
  number_bytes 0,
  λ rest.
      let n = number_told 0 rest (omega arith) in
      let left = rest_told 0 rest (omega arith) in (
        ap (λ b. if b then any_content (number_in (to_le_bytes w64 0 ++ rest)) (drop 8 (to_le_bytes w64 0 ++ rest)) else get_or (copy.read ∷ copy.others) (number_in (to_le_bytes w64 0 ++ rest)) copy.read) any
            ∙ ap (λ m. any_content m (drop 8 (to_le_bytes w64 0 ++ rest))) n,
        ap (λ b. if b then drop (number_in (to_le_bytes w64 0 ++ rest) - 1) (drop 8 (to_le_bytes w64 0 ++ rest)) else drop 8 (to_le_bytes w64 0 ++ rest)) any
            ∙ ap (λ m. drop (m - 1) (drop 8 (to_le_bytes w64 0 ++ rest))) n
            ∙ left,
      ),
)
picks_any copy (Some bytes) any are fits = (
  to_le_bytes w64 (length bytes + 1) ++ bytes,
  All-append (λ byte. byte < 256) (to_le_bytes w64 (length bytes + 1)) bytes (number_bytes (length bytes + 1)) are,
  λ rest.
      let split = append_assoc (to_le_bytes w64 (length bytes + 1)) bytes rest in
      let n = number_told (length bytes + 1) (bytes ++ rest) fits in
      let left = rest_told (length bytes + 1) (bytes ++ rest) fits in
      let back : (length bytes + 1) - 1 ≡ length bytes = omega arith in
      let some : nat_eq (length bytes + 1) 0 ≡ false = not_none (length bytes) in
      let whole = to_le_bytes w64 (length bytes + 1) ++ (bytes ++ rest) in (
        ap (copy_image copy) split
            ∙ ap (λ b. if b then any_content (number_in whole) (drop 8 whole) else get_or (copy.read ∷ copy.others) (number_in whole) copy.read) any
            ∙ ap (λ m. any_content m (drop 8 whole)) n
            ∙ ap (any_content (length bytes + 1)) left
            ∙ ap (λ b. if b then None else Some (take ((length bytes + 1) - 1) (bytes ++ rest))) some
            ∙ ap (λ m. Some (take m (bytes ++ rest))) back
            ∙ ap Some (take-append-le (length bytes) bytes rest (omega arith) ∙ take_all (length bytes) bytes (omega arith)),
        ap (after_copy copy) split
            ∙ ap (λ b. if b then drop (number_in whole - 1) (drop 8 whole) else drop 8 whole) any
            ∙ ap (λ m. drop (m - 1) (drop 8 whole)) n
            ∙ ap (drop ((length bytes + 1) - 1)) left
            ∙ ap (λ m. drop m (bytes ++ rest)) back
            ∙ drop-append_seam bytes rest,
      ),
)
  where
    not_none : (k : ℕ) → nat_eq (k + 1) 0 ≡ false
    not_none k = grind (arith, nat_tests)

picks_left : (copy : Loose) (content : Option (List ℕ)) → copy.any ≡ false → IsOneOf (copy.read ∷ copy.others) content → length copy.others + 1 < 2 ^ 64 → Picks (copy_image copy) (after_copy copy) content
picks_left copy content any is fits =
    let place = place_of_one (copy.read ∷ copy.others) content copy.read is in (
      to_le_bytes w64 place.0,
      number_bytes place.0,
      λ rest.
          let small : place.0 < 2 ^ 64 = omega (arith, place.1, fits) in
          let n = number_told place.0 rest small in
          let whole = to_le_bytes w64 place.0 ++ rest in (
            ap (λ b. if b then any_content (number_in whole) (drop 8 whole) else get_or (copy.read ∷ copy.others) (number_in whole) copy.read) any
                ∙ ap (λ m. get_or (copy.read ∷ copy.others) m copy.read) n
                ∙ place.2,
            ap (λ b. if b then drop (number_in whole - 1) (drop 8 whole) else drop 8 whole) any
                ∙ rest_told place.0 rest small,
          ),
    )

picks_copy : (copy : Loose) (content : Option (List ℕ)) → IsCopyImage copy content → length copy.others + 1 < 2 ^ 64 → IfSome content (λ bytes. length bytes + 1 < 2 ^ 64) → Picks (copy_image copy) (after_copy copy) content
picks_copy copy content image few fits = elim (either copy.any) [
  | inl any ↦ picks_any copy content any image.bytes fits
  | inr none ↦ picks_left copy content none (⊎_elim (λ any. absurd (let clash : false ≡ true = sym none ∙ any in cc)) (λ one. one) image.is) few
]

-- so few others are left of each copy that eight bytes can count them
abbrev pub AreFew : List Loose → Type 0
AreFew copies = (k : ℕ) → length (get_or copies k (settled None)).others + 1 < 2 ^ 64

pub picks_copies : (copies : List Loose) (contents : List (Option (List ℕ))) → length contents ≡ length copies
    → ((k : ℕ) → k < length copies → IsCopyImage (get_or copies k (settled None)) (get_or contents k None)) → AreFew copies → ((k : ℕ) → IfSome (get_or contents k None) (λ bytes. length bytes + 1 < 2 ^ 64))
    → Picks (copies_image copies) (after_copies copies) contents
picks_copies [] [] long are few fit = picks_none
picks_copies [] (content ∷ contents) long are few fit = absurd (omega (arith, long))
picks_copies (copy ∷ copies) [] long are few fit = absurd (omega (arith, long))
picks_copies (copy ∷ copies) (content ∷ contents) long are few fit =
    picks_then (copy_image copy) (after_copy copy) content (copies_image copies) (after_copies copies) contents
    (picks_copy copy content (are 0 (omega arith)) (few 0) (fit 0))
    (picks_copies copies contents (omega (arith, long)) (λ k below. are (suc k) (omega (arith, below))) (λ k. few (suc k)) (λ k. fit (suc k)))

-- each image whose files and other contents eight bytes can count
pub picks_files : (m : Machine) (files : Files) → IsImage m files → AreFew m.copies → CanBeCounted files → (choice : List ℕ) × AreBytes choice × (image_of m choice ≡ files)
picks_files m files image few counted =
    let levels = picks_levels m.levels files.parities image.levels image.parities counted.parities in
    let copies = picks_copies m.copies files.contents image.copies image.contents few counted.contents in
    let all = levels.2 copies.0 in
    let rest = copies.2 [] in
    let none : copies.0 ++ [] ≡ copies.0 = append-nil copies.0 in (
      levels.0 ++ copies.0,
      All-append (λ byte. byte < 256) levels.0 copies.0 levels.1 copies.1,
      ap (λ (ps : List (List ℕ)). let f : Files = record { parities = ps; contents = copies_image m.copies (after_levels m.levels (levels.0 ++ copies.0)) } in f) all.0
          ∙ ap (λ (cs : List (Option (List ℕ))). let f : Files = record { parities = files.parities; contents = cs } in f)
          (ap (copies_image m.copies) (all.1 ∙ sym none) ∙ rest.0),
    )

-- with the moment before it
pub picks_moment : (opened : Machine) (calls : List VaultDone) (k : ℕ) (files : Files) → k < 2 ^ 64 → (choice : List ℕ) × AreBytes choice × (image_of (replay opened (take k calls)) choice ≡ files)
    → (choice : List ℕ) × AreBytes choice × (picked_image opened calls choice ≡ files)
picks_moment opened calls k files fits picks = (
  to_le_bytes w64 k ++ picks.0,
  All-append (λ byte. byte < 256) (to_le_bytes w64 k) picks.0 (number_bytes k) picks.1,
  ap (λ (n : ℕ). image_of (replay opened (take n calls)) (drop 8 (to_le_bytes w64 k ++ picks.0))) (number_told k picks.0 fits)
      ∙ ap (image_of (replay opened (take k calls))) (rest_told k picks.0 fits)
      ∙ picks.2,
)

-- ---- what is picked is an image

pub length-levels_image : (files : List Unsynced) (choice : List ℕ) → length (levels_image files choice) ≡ length files
length-levels_image [] choice = refl
length-levels_image (file ∷ files) choice = ap suc (length-levels_image files (after_level file choice))

pub length-copies_image : (copies : List Loose) (choice : List ℕ) → length (copies_image copies choice) ≡ length copies
length-copies_image [] choice = refl
length-copies_image (copy ∷ copies) choice = ap suc (length-copies_image copies (after_copy copy choice))

pick_bytes : (b : Bool) (x y : ℕ) → x < 256 → y < 256 → (if b then x else y) < 256
pick_bytes true x y one two = one
pick_bytes false x y one two = two

level_is_image : (file : Unsynced) (choice : List ℕ) → AreBytes choice → IsUnsynced file → IsFileImage file (level_image file choice)
level_is_image file choice are is =
    let len = length_in file choice in
    let bytes = drop 8 choice in
    let chosen = λ (k : ℕ). if is_touched file.touched k then slice_index bytes k else slice_index file.read k in
    let long : length (mixed file len bytes) ≡ len = length-map-range_with_len chosen 0 len in
    let at = λ (i : ℕ) (below : i < length (mixed file len bytes)). get_or-map-range_with_len chosen 0 len i i 0 (omega (arith, below, long)) (omega arith) in
    let low = is.least in let high = is.greatest in
    record {
      bytes = All-from_get_or (λ byte. byte < 256) (mixed file len bytes) 0 (λ i below. subst (λ byte. byte < 256) (sym (at i below))
          (pick_bytes (is_touched file.touched i) (slice_index bytes i) (slice_index file.read i) (byte_at bytes (All-drop (λ byte. byte < 256) 8 choice are) i) (byte_at file.read is.bytes i)));
      same = λ i below free. at i below ∙ ap (λ b. if b then slice_index bytes i else slice_index file.read i) free;
      no_shorter = omega (arith, long);
      no_longer = omega (arith, long, low, high);
    }

after_level_bytes : (file : Unsynced) (choice : List ℕ) → AreBytes choice → AreBytes (after_level file choice)
after_level_bytes file choice are = All-drop (λ byte. byte < 256) (length_in file choice) (drop 8 choice) (All-drop (λ byte. byte < 256) 8 choice are)

pub levels_are_images : (files : List Unsynced) (choice : List ℕ) → AreBytes choice → ((k : ℕ) → IsUnsynced (get_or files k no_file)) → (k : ℕ) → k < length files → IsFileImage (get_or files k no_file) (get_or (levels_image files choice) k [])
levels_are_images [] choice are is k below = absurd (omega (arith, below))
levels_are_images (file ∷ files) choice are is zero below = level_is_image file choice are (is 0)
levels_are_images (file ∷ files) choice are is (suc k) below = levels_are_images files (after_level file choice) (after_level_bytes file choice are) (λ j. is (suc j)) k (omega (arith, below))

pub after_levels_bytes : (files : List Unsynced) (choice : List ℕ) → AreBytes choice → AreBytes (after_levels files choice)
after_levels_bytes [] choice are = are
after_levels_bytes (file ∷ files) choice are = after_levels_bytes files (after_level file choice) (after_level_bytes file choice are)

-- the contents that a copy may have are bytes
pub record HasBytes (copy : Loose) : Type 0 where
  pub read : IfSome copy.read AreBytes
  pub others : (k : ℕ) → IfSome (get_or copy.others k None) AreBytes

one_at : (others : List (Option (List ℕ))) (k : ℕ) (d : Option (List ℕ)) → k < length others → IsOneOf others (get_or others k d)
one_at [] k d below = absurd (omega (arith, below))
one_at (other ∷ others) zero d below = inl refl
one_at (other ∷ others) (suc k) d below = inr (one_at others k d (omega (arith, below)))

left_at : (copy : Loose) (n : ℕ) → HasBytes copy → IfSome (get_or (copy.read ∷ copy.others) n copy.read) AreBytes × IsOneOf (copy.read ∷ copy.others) (get_or (copy.read ∷ copy.others) n copy.read)
left_at copy zero has = (has.read, inl refl)
left_at copy (suc k) has = elim (cases_lt k (length copy.others)) [
  | inl within ↦ (
    subst (λ (c : Option (List ℕ)). IfSome c AreBytes) (get_or_default copy.others k None copy.read within) (has.others k),
    inr (one_at copy.others k copy.read within),
  )
  | inr past ↦
      let is = get_or_past copy.others k copy.read past in (
        subst (λ (c : Option (List ℕ)). IfSome c AreBytes) (sym is) has.read,
        inl is,
      )
]

any_bytes : (n : ℕ) (bytes : List ℕ) → AreBytes bytes → IfSome (any_content n bytes) AreBytes
any_bytes n bytes are = by (nat_eq n 0)
  where
    by : (b : Bool) → IfSome (if b then None else Some (take (n - 1) bytes)) AreBytes
    by true = tt
    by false = All-take (λ byte. byte < 256) (n - 1) bytes are

copy_is_image : (copy : Loose) (choice : List ℕ) → AreBytes choice → HasBytes copy → IsCopyImage copy (copy_image copy choice)
copy_is_image copy choice are has = by copy.any refl
  where
    by : (b : Bool) → copy.any ≡ b → IsCopyImage copy (copy_image copy choice)
    by true any =
        let is : copy_image copy choice ≡ any_content (number_in choice) (drop 8 choice) = ap (λ b. if b then any_content (number_in choice) (drop 8 choice) else get_or (copy.read ∷ copy.others) (number_in choice) copy.read) any in
        record { bytes = subst (λ (c : Option (List ℕ)). IfSome c AreBytes) (sym is) (any_bytes (number_in choice) (drop 8 choice) (All-drop (λ byte. byte < 256) 8 choice are)); is = inl any }
    by false none =
        let is : copy_image copy choice ≡ get_or (copy.read ∷ copy.others) (number_in choice) copy.read = ap (λ b. if b then any_content (number_in choice) (drop 8 choice) else get_or (copy.read ∷ copy.others) (number_in choice) copy.read) none in
        let left = left_at copy (number_in choice) has in
        record { bytes = subst (λ (c : Option (List ℕ)). IfSome c AreBytes) (sym is) left.0; is = inr (subst (IsOneOf (copy.read ∷ copy.others)) (sym is) left.1) }

after_copy_bytes : (copy : Loose) (choice : List ℕ) → AreBytes choice → AreBytes (after_copy copy choice)
after_copy_bytes copy choice are = by copy.any
  where
    rest : AreBytes (drop 8 choice)
    rest = All-drop (λ byte. byte < 256) 8 choice are

    by : (b : Bool) → AreBytes (if b then drop (number_in choice - 1) (drop 8 choice) else drop 8 choice)
    by true = All-drop (λ byte. byte < 256) (number_in choice - 1) (drop 8 choice) rest
    by false = rest

pub copies_are_images : (copies : List Loose) (choice : List ℕ) → AreBytes choice → ((k : ℕ) → HasBytes (get_or copies k (settled None))) → (k : ℕ) → k < length copies → IsCopyImage (get_or copies k (settled None)) (get_or (copies_image copies choice) k None)
copies_are_images [] choice are has k below = absurd (omega (arith, below))
copies_are_images (copy ∷ copies) choice are has zero below = copy_is_image copy choice are (has 0)
copies_are_images (copy ∷ copies) choice are has (suc k) below = copies_are_images copies (after_copy copy choice) (after_copy_bytes copy choice are) (λ j. has (suc j)) k (omega (arith, below))

pub picked_is_image : (m : Machine) (choice : List ℕ) → AreBytes choice → ((level : ℕ) → IsUnsynced (get_or m.levels level no_file)) → ((copy : ℕ) → HasBytes (get_or m.copies copy (settled None))) → IsImage m (image_of m choice)
picked_is_image m choice are levels copies = record {
  levels = length-levels_image m.levels choice;
  copies = length-copies_image m.copies (after_levels m.levels choice);
  parities = levels_are_images m.levels choice are levels;
  contents = copies_are_images m.copies (after_levels m.levels choice) (after_levels_bytes m.levels choice are) copies;
}
