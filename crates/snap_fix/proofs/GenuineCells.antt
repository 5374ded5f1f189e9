-- Where no hash is met by chance, what came of a cell that is not damaged, and what the spare gave, is the snapshot's block.
use Rattle.std.proofs.Common.{◌≡◌, ℕ, zero, suc, ◌+◌, ◌<◌, ◌≤◌, ◌&&◌, nat_le, List, [], ◌∷◌, length, get_or, Bool, true, false, Option, None, Some, refl, sym, ap, ap₂, ◌∙◌, subst, arith}
use Rattle.std.specs.Prelude.{is_some, not, if◌then◌else◌}
use Rattle.std.specs.Option.{option_map}
use Rattle.std.proofs.lemmas.List.{get_or-map, length-map}
use Rattle.std.proofs.lemmas.Slice.Eq.{bytes_eq-Decides}
use Rattle.block_hash.specs.Hash.{hash}
use Rattle.block_hash.specs.declared.Digest16.{Digest16}
use Rattle.disk_model.specs.Folder.{FolderView}
use Rattle.disk_model.specs.declared.meta.Meta.{Meta}
use Rattle.file_table.specs.Cells.{CellView, cell_in, cell_seen, cell_view}
use Rattle.file_table.specs.Table.{Column, column_at, no_column, record_in}
use Rattle.file_table.specs.declared.block.Cell.{Cell}
use Rattle.file_table.specs.declared.shape.Shape.{Shape}
use Rattle.parity_writer.specs.Parity.{Row}
use Rattle.parity_writer.specs.Sound.{IsBlockAt, IsBlockOf, real_length}
use Rattle.parity_writer.specs.WindowRow.{bytes_found, bytes_of}
use Rattle.stripe_reader.specs.Columns.{folder_at}
use Rattle.stripe_reader.specs.Reading.{CellReading, NoBlock, Nowhere, Beyond, Unread, Gone, Part, Whole, Task, Known, Fetch, IsReadingBy, cell_task, file_task, task_at}
use Rattle.stripe_reader.specs.Slot.{kept}
use Rattle.stripe_reader.specs.SlotValue.{SlotValue}
use Rattle.stripe_reader.specs.Starts.{StartsValue, starts_at, start_in}
use Rattle.stripe_reader.specs.WindowValue.{no_slot}
use Rattle.stripe_reader.specs.declared.slot.Found.{Found}
use Rattle.stripe_reader.specs.declared.starts.Place.{Place}
use Rattle.stripe_reader.specs.declared.starts.Place.TheVariants as place
use Rattle.stripe_reader.specs.Agreeing.{matches_digest}
use Rattle.stripe_examiner.specs.Facts.{StripeFacts, IsGift, IsGiftFor, bytes_before, damaged_at, gift_of, gift_or, is_damaged, is_missing, slot_of}
use Rattle.stripe_examiner.specs.Present.{IsPresent}
use Rattle.snap_fix.specs.Genuine.{IsBlockIn}
use Rattle.snap_fix.proofs.ExactLemmas.{HasExactFacts}
use Rattle.repair_scope.specs.Plan.{FixPlan, seen_at}
use Rattle.stripe_examiner.proofs.CellFactsLemmas.{given_found}

not_false : (b : Bool) → not b ≡ false → b ≡ true
not_false true is = refl
not_false false is = let clash : true ≡ false = is in absurd cc

-- ---- what a slot keeps

-- the bytes of a slot, by the reading that it keeps
present_bytes : (shape : Shape) (first : FolderView) (task : Task) (slot : SlotValue) (is : IsPresent shape first task slot) → bytes_of slot ≡ bytes_of (kept shape is.reading)
present_bytes shape first task slot is =
    ap (λ (found : Found). bytes_found found slot.cell.got slot.block) is.found
    ∙ ap₂ (λ (got : ℕ) (block : List ℕ). bytes_found (kept shape is.reading).cell.found got block) is.got is.block

whole_bytes : (shape : Shape) (seen : Meta) (bytes : List ℕ) → length bytes ≤ shape.block_size → bytes_of (kept shape (Whole seen bytes)) ≡ bytes
whole_bytes shape seen bytes fits = given_found shape.block_size bytes no_slot fits

-- so many bytes of a file are asked for
fetched_long : (stood : Place) (size : ℕ) (path : List ℕ) (at n : ℕ) (seen : Meta) (bytes : List ℕ) → IsReadingBy (file_task stood size path at n) (Whole seen bytes)
    → length bytes ≡ n
fetched_long place.Nowhere size path at n seen bytes by = let clash : Whole seen bytes ≡ Nowhere = by in absurd cc
fetched_long place.Plain size path at n seen bytes by =
    (elim (nat_le (at + n) size) as (λ (b : Bool). IsReadingBy (if b then Fetch path false at n else Known Beyond) (Whole seen bytes) → length bytes ≡ n) [
      | true ↦ λ is. is.size
      | false ↦ λ is. let clash : Whole seen bytes ≡ Beyond = is in absurd cc
    ]) by
fetched_long place.Lost size path at n seen bytes by =
    (elim (nat_le (at + n) size) as (λ (b : Bool). IsReadingBy (if b then Fetch path true at n else Known Beyond) (Whole seen bytes) → length bytes ≡ n) [
      | true ↦ λ is. is.size
      | false ↦ λ is. let clash : Whole seen bytes ≡ Beyond = is in absurd cc
    ]) by

abbrev recorded_as : List ℕ → Option Digest16
recorded_as bytes = Some (record { 0 = bytes })

-- a cell that is not damaged came whole, with its recorded hash
right_cell : (shape : Shape) (cell : CellView) (recorded : Digest16) (reading : CellReading) → cell.hash ≡ Some recorded
    → ((seen : Meta) (bytes : List ℕ) → reading ≡ Whole seen bytes → length bytes ≡ real_length shape cell)
    → is_damaged shape.kind (Some cell) (kept shape reading) ≡ false → IsGift shape cell (bytes_of (kept shape reading))
right_cell shape cell recorded NoBlock is long fine = let clash : true ≡ false = fine in absurd cc
right_cell shape cell recorded Nowhere is long fine = let clash : true ≡ false = fine in absurd cc
right_cell shape cell recorded Beyond is long fine = let clash : true ≡ false = fine in absurd cc
right_cell shape cell recorded (Unread seen) is long fine = let clash : true ≡ false = fine in absurd cc
right_cell shape cell recorded (Gone seen) is long fine = let clash : true ≡ false = fine in absurd cc
right_cell shape cell recorded (Part seen got) is long fine = let clash : true ≡ false = fine in absurd cc
right_cell shape cell recorded (Whole seen bytes) is long fine =
    let came : Digest16 = record { 0 = hash shape.kind shape.seed bytes } in
    let real : length bytes ≡ real_length shape cell = long seen bytes refl in
    let same : matches_digest (Some recorded) (Some came) ≡ true =
    ap (λ (it : Option Digest16). matches_digest it (Some came)) (sym is) ∙ not_false (matches_digest cell.hash (Some came)) fine in
    let alike : recorded.0 ≡ hash shape.kind shape.seed bytes = (bytes_eq-Decides recorded.0 (hash shape.kind shape.seed bytes)).0 same in
    let gift : IsGift shape cell bytes = record { long = real; hash_is = is ∙ ap recorded_as alike } in
    subst (IsGift shape cell) (sym (whole_bytes shape seen bytes (omega (arith, real)))) gift

-- a gift is for a column
given_within : (gifts : List (Option (List ℕ))) (d : ℕ) (bytes : List ℕ) → get_or gifts d None ≡ Some bytes → d < length gifts
given_within [] d bytes is = absurd cc
given_within (gift ∷ gifts) zero bytes is = omega arith
given_within (gift ∷ gifts) (suc d) bytes is = omega (arith, given_within gifts d bytes is)

-- ---- the cells of a stripe

module _ (plan : FixPlan) (starts : StartsValue) (firsts : List FolderView) (snapshot : Row) (facts : StripeFacts)
    (has : HasExactFacts plan starts firsts snapshot facts) where
  abbrev shape : Shape
  shape = plan.table.shape

  abbrev columns : ℕ
  columns = length plan.table.columns

  abbrev seen : ℕ → Option CellView
  seen d = seen_at plan facts.stripe d

  abbrev column : ℕ → Column
  column d = column_at plan.table.columns d

  abbrev task : ℕ → Option Cell → Task
  task d cell = cell_task shape.block_size (column d) (starts_at starts.columns d) cell

  view_here : Column → Option CellView
  view_here it = cell_view it facts.stripe

  -- the snapshot's block of a column, by what is seen of its cell
  pub snapshot_block : (d : ℕ) → d < columns → IsBlockAt shape (seen d) (get_or snapshot d [])
  unfolding view_here
  snapshot_block d below =
      subst (λ (it : Option CellView). IsBlockAt shape it (get_or snapshot d []))
      (get_or-map view_here plan.table.columns d no_column None below)
      (has.was.blocks d (omega (arith, below, length-map plan.table.columns view_here)))

  pub snapshot_long : length snapshot ≡ columns
  unfolding view_here
  snapshot_long = has.was.as_many ∙ length-map plan.table.columns view_here

  present_at : (d : ℕ) → d < columns → IsPresent shape (folder_at firsts d) (task_at plan.table starts d facts.stripe) (slot_of facts d)
  present_at d below = has.present 0 facts (omega arith) d below

  -- of a column without a cell nothing came
  nothing_came : (d : ℕ) → d < columns → seen d ≡ None → bytes_of (slot_of facts d) ≡ []
  nothing_came d below none = by_cell (cell_in (column d) facts.stripe) refl none
    where
      by_cell : (found : Option Cell) → cell_in (column d) facts.stripe ≡ found → option_map (cell_seen (column d)) found ≡ None → bytes_of (slot_of facts d) ≡ []
      by_cell None is nothing =
          let there = present_at d below in
          let known : there.reading ≡ NoBlock = subst (λ (found : Option Cell). IsReadingBy (task d found) there.reading) is there.is_of.by in
          present_bytes shape (folder_at firsts d) (task_at plan.table starts d facts.stripe) (slot_of facts d) there
          ∙ ap (λ (reading : CellReading). bytes_of (kept shape reading)) known
      by_cell (Some cell) is nothing = absurd cc

  -- of a cell that is not damaged its block came
  right_came : (d : ℕ) (cell : CellView) → d < columns → seen d ≡ Some cell → damaged_at plan facts d ≡ false → IsGift shape cell (bytes_of (slot_of facts d))
  right_came d cell below seen_is fine = by_cell (cell_in (column d) facts.stripe) refl seen_is
    where
      by_cell : (found : Option Cell) → cell_in (column d) facts.stripe ≡ found → option_map (cell_seen (column d)) found ≡ Some cell → IsGift shape cell (bytes_of (slot_of facts d))
      by_cell None is some = absurd cc
      by_cell (Some at) is some =
          let there = present_at d below in
          let view : CellView = cell_seen (column d) at in
          let start = start_in (starts_at starts.columns d) at.rec in
          let block : IsBlockOf shape cell (get_or snapshot d []) = subst (λ (it : Option CellView). IsBlockAt shape it (get_or snapshot d [])) seen_is (snapshot_block d below) in
          let view_is : Some view ≡ Some cell = some in
          let same : view ≡ cell = cc in
          let by : IsReadingBy (task d (Some at)) there.reading = subst (λ (found : Option Cell). IsReadingBy (task d found) there.reading) is there.is_of.by in
          let undamaged : is_damaged shape.kind (Some cell) (kept shape there.reading) ≡ false =
          ap (λ (digest : Option Digest16). not (is_some digest && matches_digest cell.hash digest)) (sym there.digest)
          ∙ ap (λ (it : Option CellView). is_damaged shape.kind it (slot_of facts d)) (sym seen_is) ∙ fine in
          subst (IsGift shape cell) (sym (present_bytes shape (folder_at firsts d) (task_at plan.table starts d facts.stripe) (slot_of facts d) there))
          (right_cell shape cell _ there.reading block.hash
          (λ meta bytes reading_is.
          fetched_long start.place start.size (record_in (column d) at.rec).path _ _ meta bytes (subst (IsReadingBy (task d (Some at))) reading_is by)
          ∙ ap (real_length shape) same)
          undamaged)

  -- what the spare gave is the snapshot's block
  pub given_is : (d : ℕ) (bytes : List ℕ) → gift_of facts d ≡ Some bytes → IsBlockIn shape.block_size snapshot d bytes
  given_is d bytes gift_is = by_seen (seen d) refl
    where
      below : d < columns
      below = omega (arith, given_within facts.gifts d bytes gift_is, has.are.gifts)

      for_cell : IsGiftFor shape (seen d) (Some bytes)
      for_cell = subst (IsGiftFor shape (seen d)) gift_is (has.are.given d below).is

      by_seen : (it : Option CellView) → seen d ≡ it → IsBlockIn shape.block_size snapshot d bytes
      by_seen None none = let clash : ⊥ = subst (λ (it : Option CellView). IsGiftFor shape it (Some bytes)) none for_cell in absurd clash
      by_seen (Some cell) is = has.genuine.given d cell bytes below is gift_is (subst (λ (it : Option CellView). IsGiftFor shape it (Some bytes)) is for_cell)

  -- so is what came of a cell that is not damaged, and a column without a cell has zeros
  came_is : (d : ℕ) → d < columns → damaged_at plan facts d ≡ false → IsBlockIn shape.block_size snapshot d (bytes_of (slot_of facts d))
  came_is d below fine = by_seen (seen d) refl
    where
      by_seen : (it : Option CellView) → seen d ≡ it → IsBlockIn shape.block_size snapshot d (bytes_of (slot_of facts d))
      by_seen None none = λ p inside.
          let zeros : IsBlockAt shape None (get_or snapshot d []) = subst (λ (it : Option CellView). IsBlockAt shape it (get_or snapshot d [])) none (snapshot_block d below) in
          ap (λ (bytes : List ℕ). get_or bytes p 0) (nothing_came d below none) ∙ sym (zeros p)
      by_seen (Some cell) is = has.genuine.present d cell below is (right_came d cell below is fine)

  -- so is what stands in the row before the search, where nothing is missing
  pub before_is : (d : ℕ) → d < columns → is_missing plan facts d ≡ false → IsBlockIn shape.block_size snapshot d (bytes_before plan facts d)
  before_is d below there =
      subst (λ (b : Bool). IsBlockIn shape.block_size snapshot d (if b then [] else gift_or (gift_of facts d) (bytes_of (slot_of facts d)))) (sym there)
      (by_gift (gift_of facts d) refl)
    where
      by_gift : (gift : Option (List ℕ)) → gift_of facts d ≡ gift → IsBlockIn shape.block_size snapshot d (gift_or gift (bytes_of (slot_of facts d)))
      by_gift (Some bytes) is = given_is d bytes is
      by_gift None is =
          came_is d below (undamaged (damaged_at plan facts d) (ap (λ (gift : Option (List ℕ)). damaged_at plan facts d && not (is_some gift)) (sym is) ∙ there))
        where
          undamaged : (b : Bool) → (b && true) ≡ false → b ≡ false
          undamaged true is_false = let clash : true ≡ false = is_false in absurd cc
          undamaged false is_false = refl
