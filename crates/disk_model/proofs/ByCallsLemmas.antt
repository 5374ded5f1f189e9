-- A vault that keeps its calls, and tells what a stop may leave by them, meets the clauses of the trait.
use Rattle.std.proofs.Common.{◌≡◌, ◌⊎◌, inl, inr, ℕ, ◌<◌, List, [], ◌∷◌, ◌++◌, length, take, map, Option, None, Some, IfSome, Bool, true, false, IsTrue, refl, sym, ◌∙◌, ap, subst, arith}
use Rattle.std.proofs.lemmas.List.{map-set, set-get_or, get_or-map, get_or_past, length-map, length-set, get_or-set_same, take_all, map-id, ext_get_or}
use Rattle.std.proofs.lemmas.Simd.{map-map}
use Rattle.std.proofs.lemmas.Bool.{cases_lt}
use Rattle.disk_model.specs.Bytes.{AreBytes, Torn, Stretched}
use Rattle.disk_model.specs.Files.{Files, parity_of, content_of, with_parity, with_content, TearsParity, StretchesParity}
use Rattle.disk_model.specs.Machine.{Machine, Loose, no_file, settled, level_of, copy_of, draft_in, staged_in, files_of, with_level, with_copy, published, after, replay, IsImage, IsCopyImage, IsOneOf, IsSteady, AllGiveBytes, IsWithin, step_of, by_calls, opened_with, images_of}
use Rattle.disk_model.specs.Moments.{MayLeave, Remembers}
use Rattle.disk_model.specs.Unsynced.{Unsynced, IsFileImage, synced}
use Rattle.disk_model.specs.Answer.{is_failure}
use Rattle.disk_model.specs.Vault.{plain_done, VaultCall, VaultDone, ParityLen, ParityRead, ParityWrite, ParitySetLen, ParitySync, ContentSize, ContentRead, DraftBegin, DraftAppend, DraftSeal, Publish, HasFiles, IsWellFormed, IsSettled, ChangesBy, Holds, is_sealed}
use Rattle.disk_model.specs.declared.draft.Draft.TheVariants.{Sealed}
use Rattle.disk_model.proofs.BytesLemmas.{no_bytes, torn_by_put, torn_not, stretched_by_resized, stretched_not}
use Rattle.disk_model.proofs.MachineLemmas.{left_now, replay_push, files_are_image, steps_leave, machine_remembers, write_leaves, set_len_leaves, sync_leaves, publish_leaves}
use Rattle.disk_model.proofs.UnsyncedLemmas.{synced_is_read}
use Rattle.disk_model.proofs.SteadyLemmas.{steady_replay, levels_stay, copies_stay, opened_level, opened_copy}

-- ---- images have the shape of the vault

image_parity : (m : Machine) (files : Files) → IsImage m files → (level : ℕ) → AreBytes (parity_of files level)
image_parity m files image level = elim (cases_lt level (length m.levels)) [
  | inl within ↦ (image.parities level within).bytes
  | inr past ↦ subst AreBytes (sym (get_or_past files.parities level [] (omega (arith, past, image.levels)))) no_bytes
]

image_content : (m : Machine) (files : Files) → IsImage m files → (copy : ℕ) → IfSome (content_of files copy) AreBytes
image_content m files image copy = elim (cases_lt copy (length m.copies)) [
  | inl within ↦ (image.contents copy within).bytes
  | inr past ↦ subst (λ content. IfSome content AreBytes) (sym (get_or_past files.contents copy None (omega (arith, past, image.copies)))) tt
]

pub image_shape : (m : Machine) (levels copies : ℕ) (files : Files) → length m.levels ≡ levels → length m.copies ≡ copies → IsImage m files → HasFiles levels copies files
image_shape m levels copies files as_levels as_copies image = record {
  parities = image.levels ∙ as_levels;
  contents = image.copies ∙ as_copies;
  parity_bytes = image_parity m files image;
  content_bytes = image_content m files image;
}

pub well_formed_by_calls : (opened : Machine) (calls : List VaultDone) (told : Bool) (faults : ℕ) → IsSteady opened → AllGiveBytes calls → IsWellFormed (by_calls opened calls told faults)
well_formed_by_calls opened calls told faults steady gives =
    let now = replay opened calls in
    let stays = steady_replay opened calls steady gives in
    record {
      tells = λ t. refl;
      shape = λ t. record {
        files = image_shape now (length now.levels) (length now.drafts) (files_of now) refl (sym stays.one_draft_each) (files_are_image now stays);
        staged = stays.one_staged_each ∙ sym stays.one_draft_each;
        staged_bytes = stays.staged;
      };
      leaves_shape = λ t from files left.
          let then = replay opened (take left.0 calls) in
          image_shape then (length now.levels) (length now.drafts) files
          (levels_stay opened (take left.0 calls) ∙ sym (levels_stay opened calls))
          (copies_stay opened (take left.0 calls) ∙ sym (copies_stay opened calls) ∙ sym stays.one_draft_each)
          left.3;
      leaves_files = λ t. left_now told opened calls (files_of now) (files_are_image now stays);
      earlier = λ t from until files le left. (left.0, omega (arith, le, left.1), left.2, left.3);
    }

-- ---- what reads give, after another level or copy

level_reads : (m : Machine) (level : ℕ) → parity_of (files_of m) level ≡ (level_of m level).read
level_reads m level = elim (cases_lt level (length m.levels)) [
  | inl within ↦ get_or-map (λ (file : Unsynced). file.read) m.levels level no_file [] within
  | inr past ↦
      get_or_past (map (λ (file : Unsynced). file.read) m.levels) level [] (omega (arith, past, length-map m.levels (λ (file : Unsynced). file.read)))
      ∙ ap (λ (file : Unsynced). file.read) (sym (get_or_past m.levels level no_file past))
]

copy_reads : (m : Machine) (copy : ℕ) → content_of (files_of m) copy ≡ (copy_of m copy).read
copy_reads m copy = elim (cases_lt copy (length m.copies)) [
  | inl within ↦ get_or-map (λ (c : Loose). c.read) m.copies copy (settled None) None within
  | inr past ↦
      get_or_past (map (λ (c : Loose). c.read) m.copies) copy None (omega (arith, past, length-map m.copies (λ (c : Loose). c.read)))
      ∙ ap (λ (c : Loose). c.read) (sym (get_or_past m.copies copy (settled None) past))
]

with_level_reads : (m : Machine) (level : ℕ) (file : Unsynced) → files_of (with_level m level file) ≡ with_parity (files_of m) level file.read
with_level_reads m level file = ap (λ (ps : List (List ℕ)). let f : Files = record { parities = ps; contents = map (λ (c : Loose). c.read) m.copies } in f) (map-set (λ (f : Unsynced). f.read) m.levels level file)

with_copy_reads : (m : Machine) (copy : ℕ) (loose : Loose) → files_of (with_copy m copy loose) ≡ with_content (files_of m) copy loose.read
with_copy_reads m copy loose = ap (λ (cs : List (Option (List ℕ))). let f : Files = record { parities = map (λ (f : Unsynced). f.read) m.levels; contents = cs } in f) (map-set (λ (c : Loose). c.read) m.copies copy loose)

torn_reads : (m : Machine) (level at n : ℕ) (file : Unsynced) → Torn at n (level_of m level).read file.read → TearsParity level at n (files_of m) (files_of (with_level m level file))
torn_reads m level at n file torn = record { file = file.read; torn = subst (λ old. Torn at n old file.read) (sym (level_reads m level)) torn; rest = with_level_reads m level file }

stretched_reads : (m : Machine) (level len : ℕ) (file : Unsynced) → Stretched len (level_of m level).read file.read → StretchesParity level len (files_of m) (files_of (with_level m level file))
stretched_reads m level len file stretch = record { file = file.read; stretched = subst (λ old. Stretched len old file.read) (sym (level_reads m level)) stretch; rest = with_level_reads m level file }

-- a sync shows nothing
synced_reads : (m : Machine) (level : ℕ) → files_of (with_level m level (synced (level_of m level).read)) ≡ files_of m
synced_reads m level =
    with_level_reads m level (synced (level_of m level).read) ∙ ap (with_parity (files_of m) level) (sym (level_reads m level))
    ∙ ap (λ (ps : List (List ℕ)). let f : Files = record { parities = ps; contents = map (λ (c : Loose). c.read) m.copies } in f) (set-get_or (files_of m).parities level [])

published_is : (seal failed : Bool) (bytes : List ℕ) (copy : Loose) → IsTrue seal → ((published seal failed bytes copy).read ≡ copy.read) ⊎ ((published seal failed bytes copy).read ≡ Some bytes)
published_is true false bytes copy t = inr refl
published_is true true bytes copy t = inl refl
published_is false failed bytes copy t = absurd (let clash : false ≡ true = t in cc)

publish_reads : (m : Machine) (copy : ℕ) (failed : Bool) → step_of m (Publish copy) (files_of m) (files_of (after m (Publish copy) failed))
publish_reads m copy failed =
    let seal = is_sealed (draft_in m copy) in
    let bytes = staged_in m copy in
    let next = published seal failed bytes (copy_of m copy) in
    record {
      content = next.read;
      whole = λ t. subst (λ was. (next.read ≡ was) ⊎ (next.read ≡ Some bytes)) (sym (copy_reads m copy)) (published_is seal failed bytes (copy_of m copy) t);
      rest = with_copy_reads m copy next;
    }

-- ---- what a call does to what reads give, and to each image

reads_step : (m : Machine) (call : VaultCall) (failed : Bool) → step_of m call (files_of m) (files_of (after m call failed))
reads_step m (ParityLen level) failed = refl
reads_step m (ParityRead level at n) failed = refl
reads_step m (ParityWrite level at bytes) false = torn_reads m level at (length bytes) _ (torn_by_put (level_of m level).read at bytes)
reads_step m (ParityWrite level at bytes) true = torn_reads m level at (length bytes) _ (torn_not (level_of m level).read at (length bytes))
reads_step m (ParitySetLen level len) false = stretched_reads m level len _ (stretched_by_resized (level_of m level).read len)
reads_step m (ParitySetLen level len) true = stretched_reads m level len _ (stretched_not (level_of m level).read len)
reads_step m (ParitySync level) false = synced_reads m level
reads_step m (ParitySync level) true = refl
reads_step m (ContentSize copy) failed = refl
reads_step m (ContentRead copy at n) failed = refl
reads_step m (DraftBegin copy) failed = refl
reads_step m (DraftAppend copy bytes) failed = refl
reads_step m (DraftSeal copy) failed = refl
reads_step m (Publish copy) failed = publish_reads m copy failed

abbrev ComesFrom : Machine → VaultCall → Files → Type 0
ComesFrom m call files = (before : Files) × IsImage m before × step_of m call before files

image_step : (m : Machine) (call : VaultCall) (failed : Bool) → IsSteady m → IsWithin m call → (files : Files) → IsImage (after m call failed) files → ComesFrom m call files
image_step m (ParityLen level) failed steady within files image = (files, image, refl)
image_step m (ParityRead level at n) failed steady within files image = (files, image, refl)
image_step m (ParityWrite level at bytes) failed steady within files image = write_leaves m level at bytes failed within (steady.levels level) files image
image_step m (ParitySetLen level len) failed steady within files image = set_len_leaves m level len failed within (steady.levels level) files image
image_step m (ParitySync level) false steady within files image = (files, (sync_leaves m level within (steady.levels level) files image).0, refl)
image_step m (ParitySync level) true steady within files image = (files, image, refl)
image_step m (ContentSize copy) failed steady within files image = (files, image, refl)
image_step m (ContentRead copy at n) failed steady within files image = (files, image, refl)
image_step m (DraftBegin copy) failed steady within files image = (files, record { levels = image.levels; copies = image.copies; parities = image.parities; contents = image.contents }, refl)
image_step m (DraftAppend copy bytes) failed steady within files image = (files, record { levels = image.levels; copies = image.copies; parities = image.parities; contents = image.contents }, refl)
image_step m (DraftSeal copy) failed steady within files image = (files, record { levels = image.levels; copies = image.copies; parities = image.parities; contents = image.contents }, refl)
image_step m (Publish copy) failed steady within files image = publish_leaves m copy failed within (steady.copies copy) files image

module _ (opened : Machine) (calls : List VaultDone) (done : VaultDone) (steady : IsSteady opened) (gives : AllGiveBytes calls) where
  pub changes_by_call : (told now_told : Bool) (faults now_faults : ℕ) → IsWithin (replay opened calls) done.call → (IsTrue now_told → IsTrue told)
      → ChangesBy (step_of (replay opened calls) done.call) (by_calls opened calls told faults) (by_calls opened (calls ++ done ∷ []) now_told now_faults)
  changes_by_call told now_told faults now_faults within still = record {
    reads = λ t. subst (λ m. step_of (replay opened calls) done.call (files_of (replay opened calls)) (files_of m)) (sym (replay_push opened calls done)) (reads_step (replay opened calls) done.call (is_failure done.answer));
    leaves = steps_leave (step_of (replay opened calls) done.call) told now_told opened calls done still
        (image_step (replay opened calls) done.call (is_failure done.answer) (steady_replay opened calls steady gives) within);
  }

  -- after it, no image that might have been left before is forgotten
  pub remembers_by_call : (told now_told : Bool) → Remembers (images_of told opened calls) (images_of now_told opened (calls ++ done ∷ []))
  remembers_by_call told now_told = machine_remembers told now_told opened calls done

-- ---- what surely stands after a sync, a publish and an opening

left_is_image : (told : Bool) (opened : Machine) (calls : List VaultDone) (files : Files) → MayLeave (images_of told opened calls) files → IsImage (replay opened calls) files
left_is_image told opened calls files left = subst (λ (cs : List VaultDone). IsImage (replay opened cs) files) (take_all left.0 calls left.1) left.3

-- P of what reads give and of each image
holds_after : (P : Files → Type 0) (opened : Machine) (calls : List VaultDone) (done : VaultDone) (told : Bool) (faults : ℕ)
    → P (files_of (after (replay opened calls) done.call (is_failure done.answer)))
    → ((files : Files) → IsImage (after (replay opened calls) done.call (is_failure done.answer)) files → P files)
    → Holds P (by_calls opened (calls ++ done ∷ []) told faults)
holds_after P opened calls done told faults reads images = record {
  reads = λ t. subst (λ (m : Machine). P (files_of m)) (sym (replay_push opened calls done)) reads;
  leaves = λ t files left. images files (subst (λ (m : Machine). IsImage m files) (replay_push opened calls done) (left_is_image told opened (calls ++ done ∷ []) files left));
}

-- a level that was synced
pub holds_synced : (opened : Machine) (calls : List VaultDone) (level : ℕ) (told : Bool) (faults : ℕ) → IsSteady opened → AllGiveBytes calls → level < length (replay opened calls).levels
    → Holds (λ files. parity_of files level ≡ parity_of (files_of (replay opened calls)) level) (by_calls opened (calls ++ plain_done (ParitySync level) false ∷ []) told faults)
holds_synced opened calls level told faults steady gives within =
    let m = replay opened calls in
    let is = (steady_replay opened calls steady gives).levels level in
    holds_after (λ files. parity_of files level ≡ parity_of (files_of m) level) opened calls (plain_done (ParitySync level) false) told faults
    (ap (λ files. parity_of files level) (synced_reads m level))
    (λ files image. (sync_leaves m level within is files image).1 ∙ sym (level_reads m level))

only_new : (bytes : List ℕ) (content : Option (List ℕ)) → IsCopyImage (settled (Some bytes)) content → content ≡ Some bytes
only_new bytes content image = by image.is
  where
    by : IsTrue false ⊎ IsOneOf (Some bytes ∷ []) content → content ≡ Some bytes
    by (inl any) = absurd (let clash : false ≡ true = any in cc)
    by (inr (inl new)) = new
    by (inr (inr none)) = absurd none

-- a copy of which a sealed draft was published
pub holds_published : (opened : Machine) (calls : List VaultDone) (copy : ℕ) (told : Bool) (faults : ℕ) → copy < length (replay opened calls).copies → draft_in (replay opened calls) copy ≡ Sealed
    → Holds (λ files. content_of files copy ≡ Some (staged_in (replay opened calls) copy)) (by_calls opened (calls ++ plain_done (Publish copy) false ∷ []) told faults)
holds_published opened calls copy told faults within is_sealed_now =
    let m = replay opened calls in
    let bytes = staged_in m copy in
    let next = published (is_sealed (draft_in m copy)) false bytes (copy_of m copy) in
    let is : next ≡ settled (Some bytes) = ap (λ draft. published (is_sealed draft) false bytes (copy_of m copy)) is_sealed_now in
    let put : copy_of (with_copy m copy next) copy ≡ settled (Some bytes) = get_or-set_same m.copies copy next (settled None) within ∙ is in
    holds_after (λ files. content_of files copy ≡ Some bytes) opened calls (plain_done (Publish copy) false) told faults
    (copy_reads (after m (Publish copy) false) copy ∙ ap (λ (c : Loose). c.read) put)
    (λ files image. only_new bytes (content_of files copy)
    (subst (λ (c : Loose). IsCopyImage c (content_of files copy)) put (image.contents copy (omega (arith, within, length-set m.copies copy next)))))

module _ (files : Files) where
  opened_parities : (files_of (opened_with files)).parities ≡ files.parities
  opened_parities = map-map (λ (f : Unsynced). f.read) synced files.parities ∙ map-id files.parities

  opened_contents : (files_of (opened_with files)).contents ≡ files.contents
  opened_contents = map-map (λ (c : Loose). c.read) settled files.contents ∙ map-id files.contents

  -- an opened vault reads as what it was opened with
  pub opened_reads : files_of (opened_with files) ≡ files
  opened_reads = ap (λ (ps : List (List ℕ)). let f : Files = record { parities = ps; contents = (files_of (opened_with files)).contents } in f) opened_parities
      ∙ ap (λ (cs : List (Option (List ℕ))). let f : Files = record { parities = files.parities; contents = cs } in f) opened_contents

  only_read : (read content : Option (List ℕ)) → IsCopyImage (settled read) content → content ≡ read
  only_read read content image = by image.is
    where
      by : IsTrue false ⊎ IsOneOf (read ∷ []) content → content ≡ read
      by (inl any) = absurd (let clash : false ≡ true = any in cc)
      by (inr (inl same)) = same
      by (inr (inr none)) = absurd none

  one_image : (image : Files) → IsImage (opened_with files) image → image ≡ files_of (opened_with files)
  one_image image is =
      let parities : image.parities ≡ files.parities = ext_get_or [] image.parities files.parities (is.levels ∙ length-map files.parities synced)
      (λ level below. synced_is_read (parity_of files level) (parity_of image level)
      (subst (λ (f : Unsynced). IsFileImage f (parity_of image level)) (opened_level files level) (is.parities level (omega (arith, below, is.levels))))) in
      let contents : image.contents ≡ files.contents = ext_get_or None image.contents files.contents (is.copies ∙ length-map files.contents settled)
      (λ copy below. only_read (content_of files copy) (content_of image copy)
      (subst (λ (c : Loose). IsCopyImage c (content_of image copy)) (opened_copy files copy) (is.contents copy (omega (arith, below, is.copies))))) in
      ap (λ (ps : List (List ℕ)). let f : Files = record { parities = ps; contents = image.contents } in f) parities
      ∙ ap (λ (cs : List (Option (List ℕ))). let f : Files = record { parities = files.parities; contents = cs } in f) contents
      ∙ sym opened_reads

  -- and a stop leaves just that
  pub opened_is_settled : (told : Bool) (faults : ℕ) → IsSettled (by_calls (opened_with files) [] told faults)
  opened_is_settled told faults t image left = one_image image (left_is_image told (opened_with files) [] image left)
