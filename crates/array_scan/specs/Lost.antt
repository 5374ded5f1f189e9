-- The vanished records of a column that no new file has taken yet, first come first.
use Rattle.std.specs.Prelude.{◌≡◌, ℕ, ℤ, ◌<◌, List, [], ◌∷◌, length, drop, slice_index_or, slice_get, Bool, true, false, if◌then◌else◌, Option, None, Some}
use Rattle.std.specs.Ordering.{nat_cmp, int_cmp, ordering_then}
use Rattle.std.specs.BTreeMap.{get}
use Rattle.std.specs.declared.cmp.Ordering.{Ordering}
use Rattle.disk_model.specs.declared.meta.Meta.{Meta}
use Rattle.array_scan.specs.declared.lost.Node.{Node}
use Rattle.array_scan.specs.declared.lost.Lost.{Lost}
use Rattle.folder_listing.specs.Kept.{same_meta}
use Rattle.array_scan.specs.Fates.{may_move}

-- size and stamp as a key of a map, and the order of such keys
abbrev pub Key : Type 0
Key = ℕ × ℤ × ℕ

abbrev pub key_of : Meta → Key
key_of meta = (meta.size, meta.stamp.seconds, meta.stamp.nanos)

abbrev pub key_cmp : Key → Key → Ordering
key_cmp a b = ordering_then (ordering_then (nat_cmp a.0 b.0) (int_cmp a.1 b.1)) (nat_cmp a.2 b.2)

abbrev pub no_node : Node
no_node = record { rec = 0; next = None }

abbrev pub node_at : List Node → ℕ → Node
node_at nodes at = slice_index_or nodes at no_node

-- from a node on, each node names the next: these records stand in the chain
abbrev pub IsChain : List Node → Option ℕ → List ℕ → Type 0
IsChain nodes None [] = Unit {0}
IsChain nodes None (rec ∷ recs) = ⊥
IsChain nodes (Some at) [] = ⊥
IsChain nodes (Some at) (rec ∷ recs) = (at < length nodes) × ((node_at nodes at).rec ≡ rec) × IsChain nodes (node_at nodes at).next recs

-- of each size and stamp that a file may move by, these records are left
abbrev pub Offers : Lost → (Meta → List ℕ) → Type 0
Offers lost records = (meta : Meta) → may_move meta ≡ true → IsChain lost.nodes.items (get key_cmp lost.heads (key_of meta)) (records meta)

-- the same with one record more at the front of those of its size and stamp, and without the first of these
abbrev pub with_first : (Meta → List ℕ) → ℕ → Meta → Meta → List ℕ
with_first records rec meta other = if same_meta meta other then rec ∷ records other else records other

abbrev pub without_first : (Meta → List ℕ) → Meta → Meta → List ℕ
without_first records meta other = if same_meta meta other then drop 1 (records other) else records other

-- what a new file of a size and stamp takes, and what it leaves
abbrev pub source_in : (Meta → List ℕ) → Meta → Option ℕ
source_in records meta = if may_move meta then slice_get (records meta) 0 else None

abbrev pub left_by : Bool → (Meta → List ℕ) → Meta → Meta → List ℕ
left_by true records meta = without_first records meta
left_by false records meta = records
