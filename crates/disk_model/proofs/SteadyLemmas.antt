-- A vault by its calls stays in order: its levels, its bytes, and how many copies and drafts it has.
use Rattle.std.proofs.Common.{◌≡◌, inl, inr, ℕ, List, [], ◌∷◌, length, map, get_or, set, None, IfSome, Bool, true, false, refl, sym, ◌∙◌, ap, subst, arith}
use Rattle.std.proofs.lemmas.List.{length-set, set_past, get_or-set_same, get_or-set_other, get_or-map, get_or_past, length-map, length-replicate, get_or-replicate}
use Rattle.std.proofs.lemmas.List.Elements.{All-head, All-tail}
use Rattle.std.proofs.lemmas.Bool.{cases_eq, cases_lt}
use Rattle.disk_model.specs.Bytes.{AreBytes, put, resized}
use Rattle.disk_model.specs.Files.{Files, parity_of, content_of}
use Rattle.disk_model.specs.Machine.{Machine, Loose, no_file, settled, level_of, copy_of, draft_in, staged_in, with_level, with_copy, with_draft, published, after, replay, opened_with, IsSteady, GivesBytes, AllGiveBytes}
use Rattle.disk_model.specs.Unsynced.{Unsynced, IsUnsynced, synced}
use Rattle.disk_model.specs.Answer.{is_failure}
use Rattle.disk_model.specs.Vault.{VaultCall, VaultDone, ParityLen, ParityRead, ParityWrite, ParitySetLen, ParitySync, ContentSize, ContentRead, DraftBegin, DraftAppend, DraftSeal, Publish, HasFiles, is_sealed}
use Rattle.disk_model.specs.declared.draft.Draft.{Draft}
use Rattle.disk_model.specs.declared.draft.Draft.TheVariants.{Absent}
use Rattle.disk_model.proofs.BytesLemmas.{no_bytes, bytes-append, bytes-put, bytes-resized, length-put, length-resized}
use Rattle.disk_model.proofs.UnsyncedLemmas.{synced_steady, written_steady, stretched_steady}

-- what holds of each element and of a new one holds of each after it was set
set_keeps : {A : Type 0} (P : A → Type 0) (xs : List A) (i : ℕ) (a d : A) → P a → (k : ℕ) → P (get_or xs k d) → P (get_or (set xs i a) k d)
set_keeps P xs i a d new k old = elim (cases_eq k i) [
  | inl same ↦ elim (cases_lt i (length xs)) [
    | inl within ↦ subst P (sym (ap (λ j. get_or (set xs i a) j d) same ∙ get_or-set_same xs i a d within)) new
    | inr past ↦ subst P (sym (ap (λ ys. get_or ys k d) (set_past xs i a past))) old
  ]
  | inr other ↦ subst P (sym (get_or-set_other xs i k a d other)) old
]

-- with another level, copy or draft

steady_level : (m : Machine) (level : ℕ) (file : Unsynced) → IsSteady m → IsUnsynced file → IsSteady (with_level m level file)
steady_level m level file steady is = record {
  levels = λ r. set_keeps IsUnsynced m.levels level file no_file is r (steady.levels r);
  copies = steady.copies;
  staged = steady.staged;
  one_draft_each = steady.one_draft_each;
  one_staged_each = steady.one_staged_each;
}

abbrev ReadsBytes : Loose → Type 0
ReadsBytes copy = IfSome copy.read AreBytes

steady_copy : (m : Machine) (copy : ℕ) (loose : Loose) → IsSteady m → ReadsBytes loose → IsSteady (with_copy m copy loose)
steady_copy m copy loose steady is = record {
  levels = steady.levels;
  copies = λ k. set_keeps ReadsBytes m.copies copy loose (settled None) is k (steady.copies k);
  staged = steady.staged;
  one_draft_each = steady.one_draft_each ∙ sym (length-set m.copies copy loose);
  one_staged_each = steady.one_staged_each ∙ sym (length-set m.copies copy loose);
}

steady_draft : (m : Machine) (copy : ℕ) (draft : Draft) (bytes : List ℕ) → IsSteady m → AreBytes bytes → IsSteady (with_draft m copy draft bytes)
steady_draft m copy draft bytes steady is = record {
  levels = steady.levels;
  copies = steady.copies;
  staged = λ k. set_keeps AreBytes m.staged copy bytes [] is k (steady.staged k);
  one_draft_each = length-set m.drafts copy draft ∙ steady.one_draft_each;
  one_staged_each = length-set m.staged copy bytes ∙ steady.one_staged_each;
}

published_bytes : (seal failed : Bool) (bytes : List ℕ) (copy : Loose) → AreBytes bytes → ReadsBytes copy → ReadsBytes (published seal failed bytes copy)
published_bytes true false bytes copy new was = new
published_bytes true true bytes copy new was = was
published_bytes false false bytes copy new was = new
published_bytes false true bytes copy new was = was

-- after each call

pub steady_after : (m : Machine) (call : VaultCall) (failed : Bool) → IsSteady m → GivesBytes call → IsSteady (after m call failed)
steady_after m (ParityLen level) failed steady gives = steady
steady_after m (ParityRead level at n) failed steady gives = steady
steady_after m (ParityWrite level at bytes) false steady gives =
    let file = level_of m level in
    let is = steady.levels level in
    let long = length-put file.read at bytes in
    steady_level m level _ steady (written_steady at (length bytes) (put file.read at bytes) file is (bytes-put file.read at bytes is.bytes gives) (omega (arith, long)) (omega (arith, long)))
steady_after m (ParityWrite level at bytes) true steady gives =
    let file = level_of m level in
    let is = steady.levels level in
    steady_level m level _ steady (written_steady at (length bytes) file.read file is is.bytes (omega arith) (omega arith))
steady_after m (ParitySetLen level len) false steady gives =
    let file = level_of m level in
    let is = steady.levels level in
    let long = length-resized file.read len in
    steady_level m level _ steady (stretched_steady len (resized file.read len) file is (bytes-resized file.read len is.bytes) (omega (arith, long)) (omega (arith, long)))
steady_after m (ParitySetLen level len) true steady gives =
    let file = level_of m level in
    let is = steady.levels level in
    steady_level m level _ steady (stretched_steady len file.read file is is.bytes (omega arith) (omega arith))
steady_after m (ParitySync level) false steady gives = steady_level m level _ steady (synced_steady (level_of m level).read (steady.levels level).bytes)
steady_after m (ParitySync level) true steady gives = steady
steady_after m (ContentSize copy) failed steady gives = steady
steady_after m (ContentRead copy at n) failed steady gives = steady
steady_after m (DraftBegin copy) failed steady gives = steady_draft m copy _ [] steady no_bytes
steady_after m (DraftAppend copy bytes) false steady gives = steady_draft m copy _ _ steady (bytes-append (staged_in m copy) bytes (steady.staged copy) gives)
steady_after m (DraftAppend copy bytes) true steady gives = steady_draft m copy _ [] steady no_bytes
steady_after m (DraftSeal copy) false steady gives = steady_draft m copy _ _ steady (steady.staged copy)
steady_after m (DraftSeal copy) true steady gives = steady_draft m copy _ [] steady no_bytes
steady_after m (Publish copy) failed steady gives =
    steady_draft _ copy _ [] (steady_copy m copy _ steady (published_bytes (is_sealed (draft_in m copy)) failed (staged_in m copy) (copy_of m copy) (steady.staged copy) (steady.copies copy))) no_bytes

pub steady_replay : (m : Machine) (calls : List VaultDone) → IsSteady m → AllGiveBytes calls → IsSteady (replay m calls)
steady_replay m [] steady gives = steady
steady_replay m (done ∷ calls) steady gives =
    steady_replay (after m done.call (is_failure done.answer)) calls (steady_after m done.call (is_failure done.answer) steady (All-head (λ (d : VaultDone). GivesBytes d.call) done calls gives))
    (All-tail (λ (d : VaultDone). GivesBytes d.call) done calls gives)

-- how many levels and drafts it has

levels_after : (m : Machine) (call : VaultCall) (failed : Bool) → length (after m call failed).levels ≡ length m.levels
levels_after m (ParityLen level) failed = refl
levels_after m (ParityRead level at n) failed = refl
levels_after m (ParityWrite level at bytes) false = length-set m.levels level _
levels_after m (ParityWrite level at bytes) true = length-set m.levels level _
levels_after m (ParitySetLen level len) false = length-set m.levels level _
levels_after m (ParitySetLen level len) true = length-set m.levels level _
levels_after m (ParitySync level) false = length-set m.levels level _
levels_after m (ParitySync level) true = refl
levels_after m (ContentSize copy) failed = refl
levels_after m (ContentRead copy at n) failed = refl
levels_after m (DraftBegin copy) failed = refl
levels_after m (DraftAppend copy bytes) failed = refl
levels_after m (DraftSeal copy) failed = refl
levels_after m (Publish copy) failed = refl

copies_after : (m : Machine) (call : VaultCall) (failed : Bool) → length (after m call failed).copies ≡ length m.copies
copies_after m (ParityLen level) failed = refl
copies_after m (ParityRead level at n) failed = refl
copies_after m (ParityWrite level at bytes) false = refl
copies_after m (ParityWrite level at bytes) true = refl
copies_after m (ParitySetLen level len) false = refl
copies_after m (ParitySetLen level len) true = refl
copies_after m (ParitySync level) false = refl
copies_after m (ParitySync level) true = refl
copies_after m (ContentSize copy) failed = refl
copies_after m (ContentRead copy at n) failed = refl
copies_after m (DraftBegin copy) failed = refl
copies_after m (DraftAppend copy bytes) failed = refl
copies_after m (DraftSeal copy) failed = refl
copies_after m (Publish copy) failed = length-set m.copies copy _

pub levels_stay : (m : Machine) (calls : List VaultDone) → length (replay m calls).levels ≡ length m.levels
levels_stay m [] = refl
levels_stay m (done ∷ calls) = levels_stay (after m done.call (is_failure done.answer)) calls ∙ levels_after m done.call (is_failure done.answer)

pub copies_stay : (m : Machine) (calls : List VaultDone) → length (replay m calls).copies ≡ length m.copies
copies_stay m [] = refl
copies_stay m (done ∷ calls) = copies_stay (after m done.call (is_failure done.answer)) calls ∙ copies_after m done.call (is_failure done.answer)

-- one that was just opened

module _ (files : Files) where
  pub opened_level : (level : ℕ) → level_of (opened_with files) level ≡ synced (parity_of files level)
  opened_level level = elim (cases_lt level (length files.parities)) [
    | inl within ↦ get_or-map synced files.parities level [] no_file within
    | inr past ↦ get_or_past (map synced files.parities) level no_file (omega (arith, past, length-map files.parities synced)) ∙ ap synced (sym (get_or_past files.parities level [] past))
  ]

  pub opened_copy : (copy : ℕ) → copy_of (opened_with files) copy ≡ settled (content_of files copy)
  opened_copy copy = elim (cases_lt copy (length files.contents)) [
    | inl within ↦ get_or-map settled files.contents copy None (settled None) within
    | inr past ↦ get_or_past (map settled files.contents) copy (settled None) (omega (arith, past, length-map files.contents settled)) ∙ ap settled (sym (get_or_past files.contents copy None past))
  ]

  no_staged : (copy : ℕ) → staged_in (opened_with files) copy ≡ []
  no_staged copy = elim (cases_lt copy (length files.contents)) [
    | inl within ↦ get_or-replicate (length files.contents) copy [] [] within
    | inr past ↦ get_or_past (opened_with files).staged copy [] (omega (arith, past, length-replicate {A = List ℕ} (length files.contents) []))
  ]

  pub steady_opened : (levels copies : ℕ) → HasFiles levels copies files → IsSteady (opened_with files)
  steady_opened levels copies has = record {
    levels = λ level. subst IsUnsynced (sym (opened_level level)) (synced_steady (parity_of files level) (has.parity_bytes level));
    copies = λ copy. subst ReadsBytes (sym (opened_copy copy)) (has.content_bytes copy);
    staged = λ copy. subst AreBytes (sym (no_staged copy)) no_bytes;
    one_draft_each = length-replicate {A = Draft} (length files.contents) Absent ∙ sym (length-map files.contents settled);
    one_staged_each = length-replicate {A = List ℕ} (length files.contents) [] ∙ sym (length-map files.contents settled);
  }
