-- A selected cell whose stripe is restorable holds its block of the row after a fix, whether it was damaged or not.
use Rattle.std.proofs.Common.{◌≡◌, inr, ℕ, ◌+◌, ◌*◌, ◌<◌, ◌&&◌, List, [], length, get_or, not, Bool, true, false, Option, None, Some, IsTrue, is_some, refl, sym, ap, ap₂, ◌∙◌, subst, arith}
use Rattle.std.specs.List.{Contains}
use Rattle.std.specs.Option.{option_map}
use Rattle.std.proofs.lemmas.Bool.{and_parts}
use Rattle.std.proofs.lemmas.List.{get_or-map, length-map}
use Rattle.std.proofs.lemmas.Slice.Eq.{bytes_eq-Decides}
use Rattle.block_hash.specs.Hash.{hash}
use Rattle.block_hash.specs.declared.Digest16.{Digest16}
use Rattle.cauchy.specs.Matrix.{byte_of}
use Rattle.cauchy.specs.Recovery.{AreBytes as AreRowBytes}
use Rattle.disk_model.specs.Bytes.{read_from}
use Rattle.disk_model.specs.Folder.{FolderView}
use Rattle.disk_model.specs.Tree.{File, Tree, file_of, path_of}
use Rattle.disk_model.specs.declared.meta.Meta.{Meta}
use Rattle.file_restorer.specs.State.{bytes_or, bytes_placed, record_path}
use Rattle.file_restorer.specs.declared.finishing.Finish.{Finish}
use Rattle.file_table.specs.Cells.{CellView, cell_seen, cell_view, stripe_view}
use Rattle.file_table.specs.Table.{Column, column_at, no_column, record_at, records_in}
use Rattle.file_table.specs.declared.block.Cell.{Cell}
use Rattle.file_table.specs.declared.shape.Shape.{Shape}
use Rattle.parity_writer.specs.Keeps.{HasByte}
use Rattle.parity_writer.specs.Parity.{Row}
use Rattle.parity_writer.specs.Sound.{IsBlockAt, IsRowOf}
use Rattle.parity_writer.specs.WindowRow.{bytes_of}
use Rattle.snap_exercise.proofs.SeenLemmas.{KeptAlike, bytes_same}
use Rattle.snap_exercise.proofs.UndamagedLemmas.{CameOf, given_came, read_byte}
use Rattle.snap_fix.specs.Fixing.{facts_of}
use Rattle.snap_fix.specs.Genuine.{HasGenuineFacts, IsRestorableStripe, TellsIntactLevels}
use Rattle.snap_fix.specs.Mended.{Mended, answer_of, has_lost, is_blocked_cell}
use Rattle.snap_fix.specs.Restored.{HasFixed, HasFixedRecord, HoldsCell, IsNotWritten, RestoresGenuine}
use Rattle.snap_sync.proofs.CellLemmas.{IsWhole, whole_of}
use Rattle.stripe_examiner.proofs.CellFactsLemmas.{given_found}
use Rattle.stripe_reader.specs.Agreeing.{matches_digest}
use Rattle.stripe_examiner.specs.Facts.{IsGift, StripeFacts, damaged_at, is_damaged, slot_of}
use Rattle.repair_scope.specs.Plan.{FixPlan, cell_at, entry_at, seen_at, selects_cell}
use Rattle.stripe_examiner.specs.Present.{IsPresent}
use Rattle.stripe_examiner.specs.Showing.{known_block}
use Rattle.stripe_reader.specs.Columns.{folder_at}
use Rattle.stripe_reader.specs.Reading.{Beyond, CellReading, Fetch, Gone, Known, Nowhere, Whole, block_length, cell_task, file_task, given_by, given_of, is_unread, task_at}
use Rattle.stripe_reader.specs.Slot.{kept}
use Rattle.stripe_reader.specs.SlotValue.{SlotValue}
use Rattle.stripe_reader.specs.Starts.{StartsValue, start_in, starts_at}
use Rattle.stripe_reader.specs.WindowValue.{no_slot}
use Rattle.stripe_reader.specs.declared.starts.Place.{Place}
use Rattle.stripe_reader.specs.declared.starts.Place.TheVariants as place
use Rattle.stripe_reader.specs.declared.starts.Start.{Start}
use Rattle.std.specs.Prelude.{if◌then◌else◌, nat_le}

-- what snap_fix says of the bytes that a fix leaves
abbrev pub LeavesBytes : Type 0
LeavesBytes = (plan : FixPlan) (starts : StartsValue) (stripes : List Mended) (finishes : List (List Finish)) (firsts news : List FolderView) (d i index p b : ℕ)
    → HasFixedRecord plan starts stripes finishes firsts news d i → p < block_length plan.table.shape.block_size (record_at plan.table.columns d i).meta.size index
    → IsNotWritten plan stripes d (let cell : Cell = record { rec = i; index = index } in cell)
    → HasByte (bytes_placed (folder_at firsts d).tree (record_path (records_in plan.table d) i)) (index * plan.table.shape.block_size + p) b
    → HasByte (bytes_placed (folder_at news d).tree (record_path (records_in plan.table d) i)) (index * plan.table.shape.block_size + p) b

-- ---- what came of a file

-- it is of what stands in the place of the record, where no file has the other name
placed_came : (stood : Place) (size : ℕ) (path : List ℕ) (at n : ℕ) (tree : Tree) (seen : Meta) (bytes : List ℕ) → file_of tree (path_of path true) ≡ None → given_by tree (file_task stood size path at n) ≡ Whole seen bytes
    → (bytes ≡ read_from (bytes_placed tree path) at n) × (length bytes ≡ n)
placed_came place.Nowhere size path at n tree seen bytes none is = let clash : Nowhere ≡ Whole seen bytes = is in absurd cc
placed_came place.Plain size path at n tree seen bytes none is = by (nat_le (at + n) size) is
  where
    by : (b : Bool) → given_by tree (if b then Fetch path false at n else Known Beyond) ≡ Whole seen bytes → (bytes ≡ read_from (bytes_placed tree path) at n) × (length bytes ≡ n)
    by true it =
        let came : CameOf (file_of tree (path_of path false)) at n seen bytes = given_came (file_of tree (path_of path false)) at n seen bytes it in
        (came.bytes_are ∙ sym (ap (λ (found : Option File). read_from (bytes_or found (bytes_or (file_of tree (path_of path true)) [])) at n) came.there), came.long)
    by false it = let clash : Beyond ≡ Whole seen bytes = it in absurd cc
placed_came place.Lost size path at n tree seen bytes none is = by (nat_le (at + n) size) is
  where
    by : (b : Bool) → given_by tree (if b then Fetch path true at n else Known Beyond) ≡ Whole seen bytes → (bytes ≡ read_from (bytes_placed tree path) at n) × (length bytes ≡ n)
    by true it = let clash : Gone None ≡ Whole seen bytes = sym (ap (λ (found : Option File). given_of found at n) none) ∙ it in absurd cc
    by false it = let clash : Beyond ≡ Whole seen bytes = it in absurd cc

not_false : (b : Bool) → not b ≡ false → b ≡ true
not_false true is = refl
not_false false is = absurd (let clash : true ≡ false = is in cc)

agreed : (recorded came : Option Digest16) (mine its : Digest16) → recorded ≡ Some mine → came ≡ Some its → matches_digest recorded came ≡ true → recorded ≡ Some its
agreed recorded came mine its recorded_is came_is is =
    let both : matches_digest (Some mine) (Some its) ≡ true = sym (ap₂ (λ (a b : Option Digest16). matches_digest a b) recorded_is came_is) ∙ is in
    let same : mine.0 ≡ its.0 = (bytes_eq-Decides mine.0 its.0).0 both in
    recorded_is ∙ ap (λ (bytes : List ℕ). let digest : Digest16 = record { 0 = bytes } in Some digest) same

unwritten_by : (selected damaged known free answer : Bool) → damaged ≡ false → ((selected && damaged && known && free) && answer) ≡ false
unwritten_by true false known free answer is = refl
unwritten_by false false known free answer is = refl
unwritten_by selected true known free answer is = absurd (let clash : true ≡ false = is in cc)

module _ (restores : RestoresGenuine) (leaves : LeavesBytes) (plan : FixPlan) (starts : StartsValue) (stripes : List Mended) (finishes : List (List Finish)) (firsts news : List FolderView)
    (fixed : HasFixed plan starts stripes finishes firsts news) (d : ℕ) (below : d < length plan.table.columns) (tells : IsTrue (folder_at firsts d).tells)
    (facts : StripeFacts) (one : Contains (facts_of stripes) facts) (cell : Cell) (cell_is : cell_at plan facts.stripe d ≡ Some cell) (inside : cell.rec < length (records_in plan.table d))
    (selected : selects_cell plan facts.stripe d ≡ true) (free : (entry_at plan d cell.rec).blocked ≡ false) (whole_file : has_lost plan stripes d cell.rec ≡ false)
    (row : Row) (genuine : HasGenuineFacts plan starts firsts row facts) (exactly : IsRowOf plan.table.shape (stripe_view plan.table facts.stripe) row) (bytes : AreRowBytes row) (is_intact : ℕ → Bool) (intact : TellsIntactLevels plan facts row is_intact) (can : IsRestorableStripe plan facts is_intact)
    (no_lost : file_of (folder_at firsts d).tree (path_of (record_path (records_in plan.table d) cell.rec) true) ≡ None)
    (alike : (mended : Mended) → Contains stripes mended → cell_at plan mended.facts.stripe d ≡ Some cell → damaged_at plan mended.facts d ≡ damaged_at plan facts d)
    (file : File) (there : file_of (folder_at news d).tree (path_of (record_path (records_in plan.table d) cell.rec) false) ≡ Some file) where
  abbrev path : List ℕ
  path = record_path (records_in plan.table d) cell.rec

  abbrev shape : Shape
  shape = plan.table.shape

  abbrev size : ℕ
  size = plan.table.shape.block_size

  abbrev column : Column
  column = column_at plan.table.columns d

  abbrev here : CellView
  here = cell_seen column cell

  abbrev slot : SlotValue
  slot = slot_of facts d

  abbrev n : ℕ
  n = block_length size here.meta.size cell.index

  abbrev first : Tree
  first = (folder_at firsts d).tree

  abbrev HasIt : List ℕ → ℕ → Type 0
  HasIt its p = HasByte its (cell.index * size + p) (byte_of row d p)

  seen_is : seen_at plan facts.stripe d ≡ Some here
  seen_is = ap (option_map (cell_seen column)) cell_is

  -- it was damaged: it was written
  by_restored : damaged_at plan facts d ≡ true → (p : ℕ) → p < n → HasIt file.bytes p
  by_restored damaged p under =
      let holds : HoldsCell plan.table d cell (has_lost plan stripes d cell.rec) (byte_of row d) (folder_at news d).tree
      = restores plan starts stripes finishes firsts news facts d cell row is_intact fixed (record { one = one; column = below; cell_is = cell_is; selected = selected; damaged = damaged }) genuine bytes intact free tells (record { sought = (and_parts _ _ genuine.searched).0; had = inr can }) in
      let plain : HoldsCell plan.table d cell false (byte_of row d) (folder_at news d).tree = subst (λ (b : Bool). HoldsCell plan.table d cell b (byte_of row d) (folder_at news d).tree) whole_file holds in
      let both : Some plain.file ≡ Some file = sym plain.there ∙ there in
      let same : plain.file ≡ file = cc in
      subst (λ (its : File). HasIt its.bytes p) same (plain.bytes p under)

  -- it was not: it came whole, and nothing was written to it
  module _ (right : damaged_at plan facts d ≡ false) where
    present : IsPresent shape (folder_at firsts d) (task_at plan.table starts d facts.stripe) slot
    present = genuine.present 0 facts (omega arith) d below

    passes : (is_some slot.digest && matches_digest here.hash slot.digest) ≡ true
    passes = not_false (is_some slot.digest && matches_digest here.hash slot.digest) (ap (λ (v : Option CellView). is_damaged plan.table.shape.kind v slot) (sym seen_is) ∙ right)

    whole : IsWhole present.reading
    whole = whole_of shape present.reading (ap (λ (digest : Option Digest16). is_some digest) (sym present.digest) ∙ (and_parts (is_some slot.digest) (matches_digest here.hash slot.digest) passes).0)

    abbrev its_start : Start
    its_start = start_in (starts_at starts.columns d) cell.rec

    given : given_by first (file_task its_start.place its_start.size path (cell.index * size) n) ≡ Whole whole.seen whole.bytes
    given = sym (present.is_of.given tells (ap is_unread whole.is) ∙ ap (λ (found : Option Cell). given_by first (cell_task size column (starts_at starts.columns d) found)) cell_is) ∙ whole.is

    placed : (whole.bytes ≡ read_from (bytes_placed first path) (cell.index * size) n) × (length whole.bytes ≡ n)
    placed = placed_came its_start.place its_start.size path (cell.index * size) n first whole.seen whole.bytes no_lost given

    kept_alike : KeptAlike slot (kept shape present.reading)
    kept_alike = record { found = present.found; got = present.got; digest = present.digest; block = present.block }

    bytes_are : bytes_of slot ≡ whole.bytes
    bytes_are = bytes_same slot (kept shape present.reading) kept_alike ∙ ap (λ (its : CellReading). bytes_of (kept shape its)) whole.is ∙ given_found size whole.bytes no_slot (omega (arith, placed.1))

    abbrev its_digest : Digest16
    its_digest = record { 0 = hash shape.kind shape.seed whole.bytes }

    was : IsBlockAt shape (Some here) (get_or row d [])
    was =
        let long : length (stripe_view plan.table facts.stripe).cells ≡ length plan.table.columns = length-map plan.table.columns (λ (its : Column). cell_view its facts.stripe) in
        subst (λ (v : Option CellView). IsBlockAt shape v (get_or row d [])) (get_or-map (λ (its : Column). cell_view its facts.stripe) plan.table.columns d no_column None below ∙ seen_is) (exactly.blocks d (omega (arith, below, long)))

    hash_is : here.hash ≡ Some its_digest
    hash_is = agreed here.hash slot.digest _ its_digest was.hash (present.digest ∙ ap (λ (its : CellReading). (kept shape its).digest) whole.is) (and_parts (is_some slot.digest) (matches_digest here.hash slot.digest) passes).1

    gift : IsGift shape here (bytes_of slot)
    gift = subst (IsGift shape here) (sym bytes_are) (record { long = placed.1; hash_is = hash_is })

    value : (p : ℕ) → p < n → get_or whole.bytes p 0 ≡ byte_of row d p
    value p under = sym (ap (λ (bs : List ℕ). get_or bs p 0) bytes_are) ∙ genuine.genuine.present d here below seen_is gift p (omega (arith, under))

    unwritten : IsNotWritten plan stripes d cell
    unwritten mended among its =
        unwritten_by (selects_cell plan mended.facts.stripe d) (damaged_at plan mended.facts d) (is_some (known_block plan mended.facts d)) (not (is_blocked_cell plan d (cell_at plan mended.facts.stripe d))) (answer_of mended d)
        (alike mended among its ∙ right)

    by_left : (p : ℕ) → p < n → HasIt file.bytes p
    by_left p under =
        let had : HasIt (bytes_placed first path) p = subst (HasByte (bytes_placed first path) (cell.index * size + p)) (value p under) (read_byte (bytes_placed first path) (cell.index * size) n p whole.bytes placed.0 placed.1 under) in
        let left : HasIt (bytes_placed (folder_at news d).tree path) p
        = leaves plan starts stripes finishes firsts news d cell.rec cell.index p (byte_of row d p) (record { fixed = fixed; tells = tells; column = below; inside = inside }) under unwritten had in
        subst (λ (bs : List ℕ). HasIt bs p) (ap (λ (found : Option File). bytes_or found (bytes_or (file_of (folder_at news d).tree (path_of path true)) [])) there) left

  pub byte_at : (p : ℕ) → p < n → HasByte file.bytes (cell.index * size + p) (byte_of row d p)
  byte_at = by (damaged_at plan facts d) refl
    where
      by : (b : Bool) → damaged_at plan facts d ≡ b → (p : ℕ) → p < n → HasIt file.bytes p
      by true is = by_restored is
      by false is = by_left is
