-- Of a folder that tells its tree no block is found changed: the files of its column are those of the tree.
use Rattle.std.proofs.Common.{◌≡◌, ℕ, zero, suc, ◌+◌, ◌-◌, ◌*◌, ◌/◌, ◌%◌, ◌<◌, ◌≤◌, ◌==◌, min, cond, List, [], ◌∷◌, length, map, drop, get_or, Bool, true, false, if◌then◌else◌, Option, None, Some, refl, sym, ap, ◌∙◌, subst, mul_comm, arith}
use Rattle.std.specs.List.{All, AllPairs, flat_map}
use Rattle.std.specs.Option.{option_map}
use Rattle.std.specs.FinMap as finite_map
use Rattle.std.specs.FinMap.{find, get-entries}
use Rattle.std.specs.Ordering.{nat_cmp, is_eq, ordering_reverse}
use Rattle.std.specs.Cmp.Lexicographic.{slice_cmp, nat_list_cmp_total}
use Rattle.std.specs.declared.cmp.Ordering.{Ordering}
use Rattle.std.specs.declared.cmp.Ordering.TheVariants.{Less, Greater}
use Rattle.std.proofs.lemmas.Bool.{eq-eqb, le-leb, both_ways}
use Rattle.std.proofs.lemmas.Cmp.{int_eq_equiv, tied_itself}
use Rattle.std.proofs.lemmas.Nat.{mul-le}
use Rattle.std.proofs.lemmas.List.{append-nil, get_or-map, length-drop, length-map, length-take}
use Rattle.std.proofs.lemmas.List.Elements.{All-append, All-cons, All-nil}
use Rattle.folder_listing.specs.Kept.{same_meta}
use Rattle.folder_listing.specs.Kept.{ListedFile}
use Rattle.block_hash.specs.declared.Digest16.{Digest16}
use Rattle.disk_model.specs.Bytes.{read_from}
use Rattle.disk_model.specs.Tree.{Tree, File, file_of, meta_of, listing_of, IsListing, IsListedBefore}
use Rattle.disk_model.specs.declared.meta.Meta.{Meta}
use Rattle.file_table.specs.Cells.{CellView}
use Rattle.file_table.specs.Table.{block_count}
use Rattle.file_table.specs.declared.block.Cell.{Cell}
use Rattle.file_table.specs.declared.shape.Shape.{Shape}
use Rattle.snap_report.specs.declared.events.Event.{Event}
use Rattle.snap_report.specs.declared.events.Event.TheVariants.{ChangedBlock, Silent, Io}
use Rattle.stripe_reader.specs.Reading.{CellReading, NoBlock, Nowhere, Beyond, Gone, Part, Whole, Known, Fetch, block_length, given_by, given_of, is_unread as failed}
use Rattle.stripe_reader.specs.Slot.{kept}
use Rattle.stripe_reader.specs.SlotValue.{SlotValue}
use Rattle.snap_sync.specs.Ended.{NotAChangedBlock}
use Rattle.stripe_findings.specs.Findings.{silent_event, wrong_event, block_events}
use Rattle.stripe_findings.specs.Reading.{is_unread, is_recorded, is_right}
use Rattle.snap_sync.proofs.CellLemmas.{seen_task}

abbrev path_cmp : List ℕ → List ℕ → Ordering
path_cmp = slice_cmp nat_cmp

-- ---- the entries of a tree

abbrev entry_of : (List ℕ × File) → ListedFile
entry_of e = (e.0, meta_of e.1)

-- entries in order are found by their paths
find_at : (es : List (List ℕ × File)) (i : ℕ) (d : List ℕ × File) → AllPairs (λ (a b : ListedFile). IsListedBefore a.0 b.0) (map entry_of es) → i < length es
    → find path_cmp (get_or es i d).0 es ≡ Some (get_or es i d).1
find_at [] i d order below = absurd (omega arith)
find_at (e ∷ es) zero d order below = ap (λ (o : Ordering). cond (is_eq o) (Some e.1) (find path_cmp e.0 es)) (tied_itself nat_list_cmp_total e.0)
find_at (e ∷ es) (suc i) d order below =
    let within : i < length es = omega arith in
    let later : suc i < length (map entry_of (e ∷ es)) = omega (arith, within, length-map es entry_of) in
    let listed : IsListedBefore e.0 (get_or (map entry_of es) i (entry_of d)).0 = order 0 (suc i) (entry_of d) (omega arith) later in
    let here : get_or (map entry_of es) i (entry_of d) ≡ entry_of (get_or es i d) = get_or-map entry_of es i d (entry_of d) within in
    let less : path_cmp e.0 (get_or es i d).0 ≡ Less = subst (λ (f : ListedFile). path_cmp e.0 f.0 ≡ Less) here listed.less in
    let greater : path_cmp (get_or es i d).0 e.0 ≡ Greater = nat_list_cmp_total.antisymm (get_or es i d).0 e.0 ∙ ap ordering_reverse less in
    ap (λ (o : Ordering). cond (is_eq o) (Some e.1) (find path_cmp (get_or es i d).0 es)) greater
    ∙ find_at es i d (λ a b f before within_all. order (suc a) (suc b) f (omega arith) (omega arith)) within

-- a tree holds a file as it is listed
abbrev pub IsTold : Tree → ListedFile → Type 0
IsTold tree file = option_map meta_of (file_of tree file.0) ≡ Some file.1

pub told_of_listing : (tree : Tree) → IsListing (listing_of tree) → All (IsTold tree) (listing_of tree)
told_of_listing tree listing i d below =
    let es = finite_map.entries tree in
    let within : i < length es = omega (arith, below, length-map es entry_of) in
    let e = some_of es within in
    let here : get_or (listing_of tree) i d ≡ entry_of (get_or es i e) = get_or-map entry_of es i e d within in
    let found : file_of tree (get_or es i e).0 ≡ Some (get_or es i e).1 = get-entries tree (get_or es i e).0 ∙ find_at es i e listing.order within in
    subst (IsTold tree) (sym here) (ap (option_map meta_of) found)
  where
    some_of : (es : List (List ℕ × File)) → i < length es → List ℕ × File
    some_of [] within = absurd (omega arith)
    some_of (e ∷ es) within = e

-- ---- a block of a file that the tree holds

pub same_meta_itself : (meta : Meta) → same_meta meta meta ≡ true
same_meta_itself meta = rw (eq-eqb meta.size meta.size refl, int_eq_equiv.refl meta.stamp.seconds, eq-eqb meta.stamp.nanos meta.stamp.nanos refl)

-- the block ends within the file
pub block_ends : (size file_size index : ℕ) → 0 < size → index < block_count size file_size → index * size + block_length size file_size index ≤ file_size
block_ends size file_size index some below =
    let q : ℕ = file_size / size in
    let parts : size * q + file_size % size ≡ file_size = omega arith in
    let most : index ≤ q = at_most (file_size % size == 0) below in
    let fits : index * size ≤ q * size = mul-le index size q size most (omega arith) in
    let turned : q * size ≡ size * q = mul_comm q size in
    omega (arith, parts, fits, turned)
  where
    at_most : (b : Bool) → index < file_size / size + (if b then 0 else 1) → index ≤ file_size / size
    at_most true less = omega arith
    at_most false less = omega arith

-- what the tree gives of it is whole, of the file as it was recorded
module _ (shape : Shape) (tree : Tree) (cell : CellView) (file : File) (held : file_of tree cell.path ≡ Some file) (meta_is : meta_of file ≡ cell.meta)
    (within : cell.index * shape.block_size + block_length shape.block_size cell.meta.size cell.index ≤ cell.meta.size) where
  abbrev place : ℕ
  place = cell.index * shape.block_size

  abbrev n : ℕ
  n = block_length shape.block_size cell.meta.size cell.index

  abbrev bytes : List ℕ
  bytes = read_from file.bytes place n

  all_come : length bytes ≡ n
  all_come =
      let long : length file.bytes ≡ cell.meta.size = ap (λ (meta : Meta). meta.size) meta_is in
      let first : length bytes ≡ min n (length (drop place file.bytes)) = length-take n (drop place file.bytes) in
      let rest : length (drop place file.bytes) ≡ length file.bytes - place = length-drop place file.bytes in
      omega (arith, long, first, rest, within)

  given_is : given_by tree (seen_task shape.block_size (Some cell)) ≡ Whole cell.meta bytes
  given_is =
      ap (λ (b : Bool). given_by tree (if b then Fetch cell.path false place n else Known Beyond)) (le-leb (place + n) cell.meta.size within)
      ∙ ap (λ (path : List ℕ). given_of (file_of tree path) place n) (append-nil cell.path)
      ∙ ap (λ (one : Option File). given_of one place n) held
      ∙ ap (λ (b : Bool). if b then Whole (meta_of file) bytes else Part (meta_of file) (length bytes)) (eq-eqb (length bytes) n all_come)
      ∙ ap (λ (meta : Meta). Whole meta bytes) meta_is

  pub given_recorded : is_recorded cell.meta (kept shape (given_by tree (seen_task shape.block_size (Some cell)))) ≡ true
  given_recorded = ap (λ (reading : CellReading). is_recorded cell.meta (kept shape reading)) given_is ∙ same_meta_itself cell.meta

-- a slot says whether the folder failed
pub unread_kept : (shape : Shape) (reading : CellReading) → is_unread (kept shape reading).cell.found ≡ failed reading
unread_kept shape NoBlock = refl
unread_kept shape Nowhere = refl
unread_kept shape Beyond = refl
unread_kept shape (Gone seen) = refl
unread_kept shape (Part seen got) = refl
unread_kept shape (Whole seen whole) = refl
unread_kept shape other = refl

-- ---- the events of a cell

-- whatever holds of what each gives, holds of all
pub All-joined : {X A : Type 0} (P : A → Type 0) (f : X → List A) (xs : List X) → All (λ x. All P (f x)) xs → All P (flat_map f xs)
All-joined P f [] each = All-nil P
All-joined P f (x ∷ xs) each = All-append P (f x) (flat_map f xs) (each 0 x (omega arith)) (All-joined P f xs (λ k d within. each (suc k) d (omega arith)))

All-one : (P : Event → Type 0) (event : Event) → P event → All P (event ∷ [])
All-one P event is = All-cons P event [] is (All-nil P)

module _ (d stripe j : ℕ) where
  silent_not : (cell : Cell) (recorded came_digest : Option Digest16) → All (NotAChangedBlock d) (silent_event stripe j cell recorded came_digest)
  silent_not cell None came_digest = All-nil (NotAChangedBlock d)
  silent_not cell (Some recorded) None = All-nil (NotAChangedBlock d)
  silent_not cell (Some recorded) (Some it) = All-one (NotAChangedBlock d) (Silent stripe j cell.rec cell.index recorded it) tt

  -- a block is not found changed, if it is of another column or as it was recorded where the folder did not fail
  pub block_not : (cell : Cell) (seen : CellView) (slot : SlotValue) → (j ≡ d → is_unread slot.cell.found ≡ false → is_recorded seen.meta slot ≡ true)
      → All (NotAChangedBlock d) (block_events stripe j cell seen slot)
  block_not cell seen slot recorded = by_right (is_right (Some seen) slot)
    where
      by_record : (b : Bool) → is_recorded seen.meta slot ≡ b → is_unread slot.cell.found ≡ false
          → All (NotAChangedBlock d) (if b then silent_event stripe j cell seen.hash slot.digest else ChangedBlock stripe j cell.rec cell.index slot.cell.seen slot.cell.got ∷ [])
      by_record true is came_all = silent_not cell seen.hash slot.digest
      by_record false is came_all = All-one (NotAChangedBlock d) (ChangedBlock stripe j cell.rec cell.index slot.cell.seen slot.cell.got)
          (λ here. both_ways (is_recorded seen.meta slot) is (recorded here came_all))

      by_reading : (b : Bool) → is_unread slot.cell.found ≡ b
          → All (NotAChangedBlock d) (if b then Io stripe j cell.rec cell.index ∷ [] else (if is_recorded seen.meta slot then silent_event stripe j cell seen.hash slot.digest
          else ChangedBlock stripe j cell.rec cell.index slot.cell.seen slot.cell.got ∷ []))
      by_reading true is = All-one (NotAChangedBlock d) (Io stripe j cell.rec cell.index) tt
      by_reading false is = by_record (is_recorded seen.meta slot) refl is

      by_right : (b : Bool) → All (NotAChangedBlock d) (if b then [] else wrong_event stripe j cell seen slot)
      by_right true = All-nil (NotAChangedBlock d)
      by_right false = by_reading (is_unread slot.cell.found) refl
