-- A vault of which a level is several levels of its base.
use Rattle.std.specs.Prelude.{◌≡◌, ℕ, ◌^◌, ◌<◌, List, [], length, false}
use Rattle.std.specs.List.{sum, All}
use Rattle.disk_model.specs.Cause.{WriteCount}
use Rattle.disk_model.specs.Files.{Files}
use Rattle.disk_model.specs.Moments.{Images}
use Rattle.disk_model.specs.Vault.{VaultView}
use Rattle.parity_split.specs.Joined.{seen, first_part, part_count}
use Rattle.parity_split.specs.Parts.{InStep}
use Rattle.parity_split.specs.Works.{HoldsOf}
use Rattle.parity_split.specs.declared.parts.Parts.{Parts}

abbrev pub seen_images : List ℕ → ℕ → Images → Images
seen_images counts capacity images = record {
  told = images.told;
  moment = images.moment;
  since = λ t files. (base : Files) × images.since t base × (files ≡ seen counts capacity base);
}

-- of calls of which each is several of others, or none
abbrev pub loosely : WriteCount → WriteCount
loosely writes = record { exact = false; count = writes.count }

-- A level reads, and a stop leaves it, as its parts are joined. It tells no calls: one call is several of the base. So its count of writing
-- calls is that of the base, which a call that only reads leaves, and which one that writes need not raise: it may find nothing to write,
-- or fail where it looks for its place.
abbrev pub split_view : List ℕ → ℕ → VaultView → VaultView
split_view counts capacity v = record {
  faults = v.faults;
  writes = loosely v.writes;
  levels = length counts;
  drafts = v.drafts;
  tells = v.tells;
  files = seen counts capacity v.files;
  staged = v.staged;
  tells_calls = false;
  calls = [];
  images = seen_images counts capacity v.images;
}

-- the parts of a level among those of the base
abbrev pub parts_at : List ℕ → ℕ → ℕ → Parts
parts_at counts capacity level = record { first = first_part counts level; count = part_count counts level; capacity = capacity }

-- so many parts for each level, of all files of the base
pub record AreParts (counts : List ℕ) (capacity files : ℕ) : Type 0 where
  pub each : All (λ count. 0 < count) counts
  pub all : sum counts ≡ files
  pub fit : files < 2 ^ 32
  pub some : 0 < capacity

-- the parts of each level keep in step
abbrev pub AllInStep : List ℕ → ℕ → VaultView → Type 0
AllInStep counts capacity v = (level : ℕ) → level < length counts → HoldsOf (parts_at counts capacity level) (InStep capacity) v
