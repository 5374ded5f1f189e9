-- Which block was added first for each hash and length.
use Rattle.std.specs.Prelude.{◌≡◌, ℕ, ◌==◌, ◌&&◌, List, find, Option, Bool, true, false, bytes_eq}
use Rattle.std.specs.Option.{option_map}
use Rattle.std.specs.Ordering.{nat_cmp, ordering_then}
use Rattle.std.specs.Cmp.Lexicographic.{slice_cmp}
use Rattle.std.specs.BTreeMap.{get}
use Rattle.std.specs.declared.cmp.Ordering.{Ordering}
use Rattle.block_hash.specs.contracts.KindOrd.TheImpl as kind_ord
use Rattle.block_hash.specs.declared.Kind.{Kind}
use Rattle.block_hash.specs.declared.Kind.TheVariants.{Md5, Sha256}
use Rattle.hash_index.specs.declared.block_index.Hash.{Hash}
use Rattle.hash_index.specs.declared.block_index.Entry.{Entry}
use Rattle.hash_index.specs.declared.block_index.BlockIndex.{BlockIndex}

-- two kinds are one
abbrev pub same_kind : Kind → Kind → Bool
same_kind Md5 Md5 = true
same_kind Sha256 Sha256 = true
same_kind _ _ = false

-- an entry is of this hash and length
abbrev pub is_for : Hash → ℕ → Entry → Bool
is_for asked long entry =
    (same_kind entry.hash.kind asked.kind && bytes_eq entry.hash.digest.0 asked.digest.0) && entry.length == long

-- a key of the map, and the order of keys
abbrev pub Key : Type 0
Key = Hash × ℕ

abbrev pub kind_cmp : Kind → Kind → Ordering
kind_cmp = (kind_ord.ghosts).cmp

abbrev pub hash_cmp : Hash → Hash → Ordering
hash_cmp a b = ordering_then (kind_cmp a.kind b.kind) (slice_cmp nat_cmp a.digest.0 b.digest.0)

abbrev pub key_cmp : Key → Key → Ordering
key_cmp a b = ordering_then (hash_cmp a.0 b.0) (nat_cmp a.1 b.1)

-- file and number of an entry
abbrev pub spot_of : Entry → ℕ × ℕ
spot_of entry = (entry.file, entry.index)

-- for each hash and length it has the first of these
abbrev pub Keeps : BlockIndex → List Entry → Type 0
Keeps index added = (asked : Hash) (long : ℕ) → get key_cmp index.firsts (asked, long) ≡ option_map spot_of (find (is_for asked long) added)

-- the entry that it has for a hash and a length
abbrev pub entry_by : Hash → ℕ → ℕ × ℕ → Entry
entry_by asked long spot = record { hash = asked; length = long; file = spot.0; index = spot.1 }

abbrev pub first_in : BlockIndex → Hash → ℕ → Option Entry
first_in index asked long = option_map (entry_by asked long) (get key_cmp index.firsts (asked, long))
