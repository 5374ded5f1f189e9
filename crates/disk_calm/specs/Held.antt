-- Files and drafts as lists of bytes.
use Rattle.std.specs.Prelude.{ℕ, List, [], get_or, Option, None, IfSome}
use Rattle.disk_model.specs.Bytes.{AreBytes}
use Rattle.disk_model.specs.Files.{Files, parity_of, content_of}
use Rattle.disk_model.specs.declared.draft.Draft.{Draft}

-- parity files and copies, the state of the draft of each copy, and its bytes
pub record Held : Type 0 where
  pub files : Files
  pub drafts : List Draft
  pub staged : List (List ℕ)

abbrev pub held_of : List (List ℕ) → List (Option (List ℕ)) → List Draft → List (List ℕ) → Held
held_of parities contents drafts staged = record { files = record { parities = parities; contents = contents }; drafts = drafts; staged = staged }

-- parity files and copies of bytes
pub record AreFiles (parities : List (List ℕ)) (contents : List (Option (List ℕ))) : Type 0 where
  pub parities_are : (level : ℕ) → AreBytes (get_or parities level [])
  pub contents_are : (copy : ℕ) → IfSome (get_or contents copy None) AreBytes

-- they are bytes
pub record HoldsBytes (h : Held) : Type 0 where
  pub parities : (level : ℕ) → AreBytes (parity_of h.files level)
  pub contents : (copy : ℕ) → IfSome (content_of h.files copy) AreBytes
  pub staged : (copy : ℕ) → AreBytes (get_or h.staged copy [])
