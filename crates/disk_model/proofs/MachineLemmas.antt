-- What a stop may leave of a vault, by its list of calls, goes on as the trait's clauses say.
use Rattle.std.proofs.Common.{◌≡◌, ◌≢◌, ◌⊎◌, inl, inr, ℕ, ◌+◌, ◌<◌, List, [], ◌∷◌, ◌++◌, length, Option, None, Some, IfSome, Bool, true, false, IsTrue, refl, sym, ◌∙◌, ap, subst, arith, slice_index, length-append}
use Rattle.std.proofs.lemmas.List.{length-map, get_or-map, take_all, take-append-le, length-set, get_or-set_same, get_or-set_other, set-set, set-get_or}
use Rattle.std.proofs.lemmas.Bool.{cases_eq, cases_lt}
use Rattle.disk_model.specs.Bytes.{AreBytes, resized, Torn, Stretched}
use Rattle.disk_model.specs.Files.{Files, parity_of, content_of, with_parity, with_content, TearsParity, StretchesParity, MayPublish}
use Rattle.disk_model.specs.Moments.{Images, MayLeave, ComesBy, LeavesBy, Remembers}
use Rattle.disk_model.specs.Unsynced.{Unsynced, IsFileImage, synced, IsUnsynced}
use Rattle.disk_model.specs.Answer.{is_failure}
use Rattle.disk_model.specs.Vault.{VaultDone, ParityWrite, ParitySetLen, ParitySync, Publish, is_sealed}
use Rattle.disk_model.specs.Machine.{Machine, Loose, no_file, settled, level_of, copy_of, draft_in, staged_in, files_of, with_level, published, after, replay, IsImage, IsCopyImage, IsOneOf, IsSteady, images_of}
use Rattle.disk_model.proofs.BytesLemmas.{torn_by_put, stretched_by_resized, length-resized}
use Rattle.disk_model.proofs.UnsyncedLemmas.{write_follows, stretch_follows, reads_as_image, synced_is_read}

-- an image after all calls is one that a stop now may leave
pub left_now : (told : Bool) (opened : Machine) (calls : List VaultDone) (files : Files) → IsImage (replay opened calls) files → MayLeave (images_of told opened calls) files
left_now told opened calls files image = (length calls, omega arith, omega arith, subst (λ cs. IsImage (replay opened cs) files) (sym (take_all (length calls) calls (omega arith))) image)

-- one call more
pub call_leaves : (step : Files → Files → Type 0) (told now_told : Bool) (opened : Machine) (calls : List VaultDone) (done : VaultDone)
    → (IsTrue now_told → IsTrue told)
    → ((files : Files) → IsImage (replay opened (calls ++ done ∷ [])) files → (before : Files) × IsImage (replay opened calls) before × step before files)
    → LeavesBy step (images_of told opened calls) (images_of now_told opened (calls ++ done ∷ []))
call_leaves step told now_told opened calls done still follows = record {
  told = still;
  later = λ t. omega (arith, length-append calls (done ∷ []));
  within = λ t from files le left. elim (cases_lt left.0 (length calls + 1)) [
    | inl early ↦ inl (left.0, left.1, omega (arith, early), subst (λ cs. IsImage (replay opened cs) files) (take-append-le left.0 calls (done ∷ []) (omega (arith, early))) left.3)
    | inr late ↦ inr (comes files (subst (λ cs. IsImage (replay opened cs) files) (take_all left.0 (calls ++ done ∷ []) (omega (arith, late, length-append calls (done ∷ [])))) left.3))
  ];
  at_end = λ t files left. comes files (subst (λ cs. IsImage (replay opened cs) files) (take_all left.0 (calls ++ done ∷ []) left.1) left.3);
}
  where
    comes : (files : Files) → IsImage (replay opened (calls ++ done ∷ [])) files → ComesBy step (images_of told opened calls) files
    comes files image = let from = follows files image in (from.0, left_now told opened calls from.0 from.1, from.2)

-- the images of a vault of which one level is another file
module _ (m : Machine) (level : ℕ) (file : Unsynced) (within : level < length m.levels) where
  other_level : (r : ℕ) → r ≢ level → level_of (with_level m level file) r ≡ level_of m r
  other_level r other = get_or-set_other m.levels level r file no_file other

  this_level : level_of (with_level m level file) level ≡ file
  this_level = get_or-set_same m.levels level file no_file within

  pub level_follows : (R : List ℕ → List ℕ → Type 0) → ((image : List ℕ) → IsFileImage file image → (old : List ℕ) × IsFileImage (level_of m level) old × R old image)
      → (files : Files) → IsImage (with_level m level file) files → (before : Files) × IsImage m before × R (parity_of before level) (parity_of files level) × (files ≡ with_parity before level (parity_of files level))
  level_follows R follows files image =
      let here : IsFileImage file (parity_of files level) = subst (λ f. IsFileImage f (parity_of files level)) this_level (image.parities level (omega (arith, within, length-set m.levels level file))) in
      let from = follows (parity_of files level) here in
      let before = with_parity files level from.0 in
      let long : level < length files.parities = omega (arith, image.levels, within, length-set m.levels level file) in
      let is : parity_of before level ≡ from.0 = get_or-set_same files.parities level from.0 [] long in (
        before,
        record {
          levels = length-set files.parities level from.0 ∙ image.levels ∙ length-set m.levels level file;
          copies = image.copies;
          parities = λ r below. elim (cases_eq r level) [
            | inl same ↦ subst (λ k. IsFileImage (level_of m k) (parity_of before k)) (sym same) (subst (λ xs. IsFileImage (level_of m level) xs) (sym is) from.1)
            | inr other ↦ subst (λ xs. IsFileImage (level_of m r) xs) (sym (get_or-set_other files.parities level r from.0 [] other))
                (subst (λ f. IsFileImage f (parity_of files r)) (other_level r other) (image.parities r (omega (arith, below, length-set m.levels level file))))
          ];
          contents = image.contents;
        },
        subst (λ xs. R xs (parity_of files level)) (sym is) from.2,
        ap (λ ps. record files { parities = ps }) (sym (set-set files.parities level from.0 (parity_of files level) ∙ set-get_or files.parities level [])),
      )

resized_under : (file : List ℕ) (len : ℕ) (i : ℕ) → i < length file → i < len → slice_index (resized file len) i ≡ slice_index file i
resized_under file len i below under = (stretched_by_resized file len).same i below (omega (arith, under, length-resized file len)) under

-- a write, done or not
pub write_leaves : (m : Machine) (level at : ℕ) (bytes : List ℕ) (failed : Bool) → level < length m.levels → IsUnsynced (level_of m level)
    → (files : Files) → IsImage (after m (ParityWrite level at bytes) failed) files → (before : Files) × IsImage m before × TearsParity level at (length bytes) before files
write_leaves m level at bytes false within is files image =
    let from = level_follows m level _ within (Torn at (length bytes)) (write_follows (level_of m level) at (length bytes) _ is (torn_by_put (level_of m level).read at bytes).same) files image in
    (from.0, from.1, record { file = parity_of files level; torn = from.2; rest = from.3 })
write_leaves m level at bytes true within is files image =
    let from = level_follows m level _ within (Torn at (length bytes)) (write_follows (level_of m level) at (length bytes) _ is (λ i below apart. refl)) files image in
    (from.0, from.1, record { file = parity_of files level; torn = from.2; rest = from.3 })

pub set_len_leaves : (m : Machine) (level len : ℕ) (failed : Bool) → level < length m.levels → IsUnsynced (level_of m level)
    → (files : Files) → IsImage (after m (ParitySetLen level len) failed) files → (before : Files) × IsImage m before × StretchesParity level len before files
set_len_leaves m level len false within is files image =
    let from = level_follows m level _ within (Stretched len) (stretch_follows (level_of m level) len _ is (resized_under (level_of m level).read len)) files image in
    (from.0, from.1, record { file = parity_of files level; stretched = from.2; rest = from.3 })
set_len_leaves m level len true within is files image =
    let from = level_follows m level _ within (Stretched len) (stretch_follows (level_of m level) len _ is (λ i below under. refl)) files image in
    (from.0, from.1, record { file = parity_of files level; stretched = from.2; rest = from.3 })

-- after a sync each image is one before, and the level is what it reads as
pub sync_leaves : (m : Machine) (level : ℕ) → level < length m.levels → IsUnsynced (level_of m level)
    → (files : Files) → IsImage (after m (ParitySync level) false) files → IsImage m files × (parity_of files level ≡ (level_of m level).read)
sync_leaves m level within is files image =
    let file = synced (level_of m level).read in
    let here : IsFileImage file (parity_of files level) = subst (λ f. IsFileImage f (parity_of files level)) (get_or-set_same m.levels level file no_file within) (image.parities level (omega (arith, within, length-set m.levels level file))) in
    let same = synced_is_read (level_of m level).read (parity_of files level) here in (
      record {
        levels = image.levels ∙ length-set m.levels level file;
        copies = image.copies;
        parities = λ r below. elim (cases_eq r level) [
          | inl at ↦ subst (λ k. IsFileImage (level_of m k) (parity_of files k)) (sym at) (subst (λ xs. IsFileImage (level_of m level) xs) (sym same) (reads_as_image (level_of m level) is))
          | inr other ↦ subst (λ f. IsFileImage f (parity_of files r)) (get_or-set_other m.levels level r file no_file other) (image.parities r (omega (arith, below, length-set m.levels level file)))
        ];
        contents = image.contents;
      },
      same,
    )

abbrev CameFrom : Bool → List ℕ → Loose → Option (List ℕ) → Type 0
CameFrom seal bytes was content = (old : Option (List ℕ)) × IsCopyImage was old × (IsTrue seal → (content ≡ old) ⊎ (content ≡ Some bytes))

as_read : (was : Loose) → IfSome was.read AreBytes → IsCopyImage was was.read
as_read was fits = record { bytes = fits; is = inr (inl refl) }

-- a copy before, from one after
came_from : (seal failed : Bool) (bytes : List ℕ) (was : Loose) → IfSome was.read AreBytes → (content : Option (List ℕ)) → IsCopyImage (published seal failed bytes was) content → CameFrom seal bytes was content
came_from seal failed bytes was fits content image = by seal failed image.is
  where
    by : (seal failed : Bool) → IsTrue (published seal failed bytes was).any ⊎ IsOneOf ((published seal failed bytes was).read ∷ (published seal failed bytes was).others) content → CameFrom seal bytes was content
    by true false (inl any) = absurd (let clash : false ≡ true = any in cc)
    by true false (inr (inl new)) = (was.read, as_read was fits, λ t. inr new)
    by true false (inr (inr none)) = absurd none
    by true true (inl any) = (content, record { bytes = image.bytes; is = inl any }, λ t. inl refl)
    by true true (inr (inl read)) = (content, record { bytes = image.bytes; is = inr (inl read) }, λ t. inl refl)
    by true true (inr (inr (inl new))) = (was.read, as_read was fits, λ t. inr new)
    by true true (inr (inr (inr other))) = (content, record { bytes = image.bytes; is = inr (inr other) }, λ t. inl refl)
    by false false left = (was.read, as_read was fits, λ t. absurd (let clash : false ≡ true = t in cc))
    by false true left = (was.read, as_read was fits, λ t. absurd (let clash : false ≡ true = t in cc))

-- a publish, done or not
pub publish_leaves : (m : Machine) (copy : ℕ) (failed : Bool) → copy < length m.copies → IfSome (copy_of m copy).read AreBytes
    → (files : Files) → IsImage (after m (Publish copy) failed) files → (before : Files) × IsImage m before × MayPublish copy (is_sealed (draft_in m copy)) (staged_in m copy) before files
publish_leaves m copy failed within fits files image =
    let seal = is_sealed (draft_in m copy) in
    let bytes = staged_in m copy in
    let next = published seal failed bytes (copy_of m copy) in
    let here : IsCopyImage next (content_of files copy) = subst (λ k. IsCopyImage k (content_of files copy)) (get_or-set_same m.copies copy next (settled None) within) (image.contents copy (omega (arith, within, length-set m.copies copy next))) in
    let from = came_from seal failed bytes (copy_of m copy) fits (content_of files copy) here in
    let before = with_content files copy from.0 in
    let long : copy < length files.contents = omega (arith, image.copies, within, length-set m.copies copy next) in
    let is : content_of before copy ≡ from.0 = get_or-set_same files.contents copy from.0 None long in (
      before,
      record {
        levels = image.levels;
        copies = length-set files.contents copy from.0 ∙ image.copies ∙ length-set m.copies copy next;
        parities = image.parities;
        contents = λ c below. elim (cases_eq c copy) [
          | inl same ↦ subst (λ k. IsCopyImage (copy_of m k) (content_of before k)) (sym same) (subst (λ x. IsCopyImage (copy_of m copy) x) (sym is) from.1)
          | inr other ↦ subst (λ x. IsCopyImage (copy_of m c) x) (sym (get_or-set_other files.contents copy c from.0 None other))
              (subst (λ k. IsCopyImage k (content_of files c)) (get_or-set_other m.copies copy c next (settled None) other) (image.contents c (omega (arith, below, length-set m.copies copy next))))
        ];
      },
      record {
        content = content_of files copy;
        whole = λ t. subst (λ x. (content_of files copy ≡ x) ⊎ (content_of files copy ≡ Some bytes)) (sym is) (from.2 t);
        rest = ap (λ cs. record files { contents = cs }) (sym (set-set files.contents copy from.0 (content_of files copy) ∙ set-get_or files.contents copy None));
      },
    )

-- the last call of a list
pub replay_push : (m : Machine) (calls : List VaultDone) (done : VaultDone) → replay m (calls ++ done ∷ []) ≡ after (replay m calls) done.call (is_failure done.answer)
replay_push m [] done = refl
replay_push m (first ∷ calls) done = replay_push (after m first.call (is_failure first.answer)) calls done

-- what reads give is an image
pub files_are_image : (m : Machine) → IsSteady m → IsImage m (files_of m)
files_are_image m steady = record {
  levels = length-map m.levels (λ (file : Unsynced). file.read);
  copies = length-map m.copies (λ (copy : Loose). copy.read);
  parities = λ level below. subst (λ xs. IsFileImage (level_of m level) xs) (sym (get_or-map (λ (file : Unsynced). file.read) m.levels level no_file [] below)) (reads_as_image (level_of m level) (steady.levels level));
  contents = λ copy below. subst (λ x. IsCopyImage (copy_of m copy) x) (sym (get_or-map (λ (c : Loose). c.read) m.copies copy (settled None) None below)) (as_read (copy_of m copy) (steady.copies copy));
}

-- images go on by the machine's steps
pub steps_leave : (step : Files → Files → Type 0) (told now_told : Bool) (opened : Machine) (calls : List VaultDone) (done : VaultDone)
    → (IsTrue now_told → IsTrue told)
    → ((files : Files) → IsImage (after (replay opened calls) done.call (is_failure done.answer)) files → (before : Files) × IsImage (replay opened calls) before × step before files)
    → LeavesBy step (images_of told opened calls) (images_of now_told opened (calls ++ done ∷ []))
steps_leave step told now_told opened calls done still follows =
    call_leaves step told now_told opened calls done still (λ files image. follows files (subst (λ m. IsImage m files) (replay_push opened calls done) image))

pub machine_remembers : (told now_told : Bool) (opened : Machine) (calls : List VaultDone) (done : VaultDone) → Remembers (images_of told opened calls) (images_of now_told opened (calls ++ done ∷ []))
machine_remembers told now_told opened calls done t from files le left = (
  left.0,
  left.1,
  omega (arith, left.2, length-append calls (done ∷ [])),
  subst (λ cs. IsImage (replay opened cs) files) (sym (take-append-le left.0 calls (done ∷ []) left.2)) left.3,
)

-- of one that tells its images no more
pub untold_leaves : (step : Files → Files → Type 0) (old new : Images) → new.told ≡ false → LeavesBy step old new
untold_leaves step old new untold = record {
  told = λ t. absurd (never t);
  later = λ t. absurd (never t);
  within = λ t. absurd (never t);
  at_end = λ t. absurd (never t);
}
  where
    never : IsTrue new.told → ⊥
    never t = let clash : false ≡ true = sym untold ∙ t in cc
