-- What a stop may leave of a vault at each moment, from what it held when it was opened and its list of calls alone.
use Rattle.std.specs.Prelude.{◌≡◌, ◌⊎◌, ℕ, ◌<◌, ◌≤◌, List, [], ◌∷◌, ◌++◌, length, map, take, replicate, get_or, set, Option, None, Some, IfSome, Bool, true, false, IsTrue, if◌then◌else◌, All}
use Rattle.disk_model.specs.Answer.{is_failure}
use Rattle.disk_model.specs.Bytes.{put, resized, AreBytes}
use Rattle.disk_model.specs.Cause.{exactly}
use Rattle.disk_model.specs.Files.{Files, parity_of, content_of, TearsParity, StretchesParity, MayPublish, Stays}
use Rattle.disk_model.specs.Unsynced.{Unsynced, IsFileImage, synced, written, stretched, IsUnsynced}
use Rattle.disk_model.specs.Vault.{VaultView, VaultCall, VaultDone, vault_writes, ParityLen, ParityRead, ParityWrite, ParitySetLen, ParitySync, ContentSize, ContentRead, DraftBegin, DraftAppend, DraftSeal, Publish, is_sealed}
use Rattle.disk_model.specs.Moments.{Images}
use Rattle.disk_model.specs.declared.draft.Draft.{Draft}
use Rattle.disk_model.specs.declared.draft.Draft.TheVariants.{Absent, Open, Sealed}

-- a content copy: what it reads as, what else a stop may leave of it after calls that failed, and whether that is anything at all
pub record Loose : Type 0 where
  pub read : Option (List ℕ)
  pub others : List (Option (List ℕ))
  pub any : Bool

abbrev pub IsOneOf : List (Option (List ℕ)) → Option (List ℕ) → Type 0
IsOneOf [] content = ⊥
IsOneOf (other ∷ others) content = (content ≡ other) ⊎ IsOneOf others content

-- what it reads as, another that is left, or any bytes or no file
pub record IsCopyImage (copy : Loose) (content : Option (List ℕ)) : Type 0 where
  pub bytes : IfSome content AreBytes
  pub is : IsTrue copy.any ⊎ IsOneOf (copy.read ∷ copy.others) content

-- a vault by its calls
pub record Machine : Type 0 where
  pub levels : List Unsynced
  pub copies : List Loose
  pub drafts : List Draft
  pub staged : List (List ℕ)

abbrev pub no_file : Unsynced
no_file = synced []

-- a copy of which a stop leaves what it reads as
abbrev pub settled : Option (List ℕ) → Loose
settled read = record { read = read; others = []; any = false }

abbrev pub level_of : Machine → ℕ → Unsynced
level_of m level = get_or m.levels level no_file

abbrev pub copy_of : Machine → ℕ → Loose
copy_of m copy = get_or m.copies copy (settled None)

abbrev pub draft_in : Machine → ℕ → Draft
draft_in m copy = get_or m.drafts copy Absent

abbrev pub staged_in : Machine → ℕ → List ℕ
staged_in m copy = get_or m.staged copy []

-- what reads give
abbrev pub files_of : Machine → Files
files_of m = record { parities = map (λ (file : Unsynced). file.read) m.levels; contents = map (λ (copy : Loose). copy.read) m.copies }

abbrev pub with_level : Machine → ℕ → Unsynced → Machine
with_level m level file = record m { levels = set m.levels level file }

abbrev pub with_copy : Machine → ℕ → Loose → Machine
with_copy m copy loose = record m { copies = set m.copies copy loose }

abbrev pub with_draft : Machine → ℕ → Draft → List ℕ → Machine
with_draft m copy draft bytes = record m { drafts = set m.drafts copy draft; staged = set m.staged copy bytes }

-- the copy after a publish, by whether the draft was sealed and whether the call failed
abbrev pub published : Bool → Bool → List ℕ → Loose → Loose
published true false bytes copy = settled (Some bytes)
published true true bytes copy = record copy { others = Some bytes ∷ copy.others }
published false false bytes copy = record { read = Some bytes; others = []; any = true }
published false true bytes copy = record copy { any = true }

-- after a call, which did nothing that reads show where it failed
abbrev pub after : Machine → VaultCall → Bool → Machine
after m (ParityLen level) failed = m
after m (ParityRead level at n) failed = m
after m (ParityWrite level at bytes) false = with_level m level (written at (length bytes) (put (level_of m level).read at bytes) (level_of m level))
after m (ParityWrite level at bytes) true = with_level m level (written at (length bytes) (level_of m level).read (level_of m level))
after m (ParitySetLen level len) false = with_level m level (stretched len (resized (level_of m level).read len) (level_of m level))
after m (ParitySetLen level len) true = with_level m level (stretched len (level_of m level).read (level_of m level))
after m (ParitySync level) false = with_level m level (synced (level_of m level).read)
after m (ParitySync level) true = m
after m (ContentSize copy) failed = m
after m (ContentRead copy at n) failed = m
after m (DraftBegin copy) failed = with_draft m copy (if failed then Absent else Open) []
after m (DraftAppend copy bytes) failed = with_draft m copy (if failed then Absent else Open) (if failed then [] else (staged_in m copy ++ bytes))
after m (DraftSeal copy) failed = with_draft m copy (if failed then Absent else Sealed) (if failed then [] else staged_in m copy)
after m (Publish copy) failed = with_draft (with_copy m copy (published (is_sealed (draft_in m copy)) failed (staged_in m copy) (copy_of m copy))) copy Absent []

abbrev pub replay : Machine → List VaultDone → Machine
replay m [] = m
replay m (done ∷ calls) = replay (after m done.call (is_failure done.answer)) calls

-- the files are an image of the vault: one choice for all levels and copies
pub record IsImage (m : Machine) (files : Files) : Type 0 where
  pub levels : length files.parities ≡ length m.levels
  pub copies : length files.contents ≡ length m.copies
  pub parities : (level : ℕ) → level < length m.levels → IsFileImage (level_of m level) (parity_of files level)
  pub contents : (copy : ℕ) → copy < length m.copies → IsCopyImage (copy_of m copy) (content_of files copy)

-- The images at each moment: a stop within a call leaves what a stop before it or after it may.
abbrev pub images_of : Bool → Machine → List VaultDone → Images
images_of told opened calls = record {
  told = told;
  moment = length calls;
  since = λ t files. (k : ℕ) × (t ≤ k) × (k ≤ length calls) × IsImage (replay opened (take k calls)) files;
}

-- a vault that was opened with these files: nothing is unsynced, and there is no draft
abbrev pub opened_with : Files → Machine
opened_with files = record {
  levels = map synced files.parities;
  copies = map settled files.contents;
  drafts = replicate (length files.contents) Absent;
  staged = replicate (length files.contents) [];
}

-- what holds of each such vault: its levels are in order, its bytes are bytes, and there are as many drafts as copies
pub record IsSteady (m : Machine) : Type 0 where
  pub levels : (level : ℕ) → IsUnsynced (level_of m level)
  pub copies : (copy : ℕ) → IfSome (copy_of m copy).read AreBytes
  pub staged : (copy : ℕ) → AreBytes (staged_in m copy)
  pub one_draft_each : length m.drafts ≡ length m.copies
  pub one_staged_each : length m.staged ≡ length m.copies

-- what a call writes is bytes
abbrev pub GivesBytes : VaultCall → Type 0
GivesBytes (ParityLen level) = Unit {0}
GivesBytes (ParityRead level at n) = Unit {0}
GivesBytes (ParityWrite level at bytes) = AreBytes bytes
GivesBytes (ParitySetLen level len) = Unit {0}
GivesBytes (ParitySync level) = Unit {0}
GivesBytes (ContentSize copy) = Unit {0}
GivesBytes (ContentRead copy at n) = Unit {0}
GivesBytes (DraftBegin copy) = Unit {0}
GivesBytes (DraftAppend copy bytes) = AreBytes bytes
GivesBytes (DraftSeal copy) = Unit {0}
GivesBytes (Publish copy) = Unit {0}

-- what each of the calls writes
abbrev pub AllGiveBytes : List VaultDone → Type 0
AllGiveBytes calls = All (λ (done : VaultDone). GivesBytes done.call) calls

-- the call names a level or a copy of the vault
abbrev pub IsWithin : Machine → VaultCall → Type 0
IsWithin m (ParityLen level) = level < length m.levels
IsWithin m (ParityRead level at n) = level < length m.levels
IsWithin m (ParityWrite level at bytes) = level < length m.levels
IsWithin m (ParitySetLen level len) = level < length m.levels
IsWithin m (ParitySync level) = level < length m.levels
IsWithin m (ContentSize copy) = copy < length m.copies
IsWithin m (ContentRead copy at n) = copy < length m.copies
IsWithin m (DraftBegin copy) = copy < length m.copies
IsWithin m (DraftAppend copy bytes) = copy < length m.copies
IsWithin m (DraftSeal copy) = copy < length m.copies
IsWithin m (Publish copy) = copy < length m.copies

-- how a call changes the files, as they read and in each image, whatever it answers
abbrev pub step_of : Machine → VaultCall → Files → Files → Type 0
step_of m (ParityLen level) = Stays
step_of m (ParityRead level at n) = Stays
step_of m (ParityWrite level at bytes) = TearsParity level at (length bytes)
step_of m (ParitySetLen level len) = StretchesParity level len
step_of m (ParitySync level) = Stays
step_of m (ContentSize copy) = Stays
step_of m (ContentRead copy at n) = Stays
step_of m (DraftBegin copy) = Stays
step_of m (DraftAppend copy bytes) = Stays
step_of m (DraftSeal copy) = Stays
step_of m (Publish copy) = MayPublish copy (is_sealed (draft_in m copy)) (staged_in m copy)

-- the vault that was opened so and to which just these calls were made
abbrev pub by_calls : Machine → List VaultDone → Bool → ℕ → VaultView
by_calls opened calls told faults = record {
  faults = faults;
  writes = exactly (vault_writes calls);
  levels = length (replay opened calls).levels;
  drafts = (replay opened calls).drafts;
  tells = true;
  files = files_of (replay opened calls);
  staged = (replay opened calls).staged;
  tells_calls = told;
  calls = calls;
  images = images_of told opened calls;
}
