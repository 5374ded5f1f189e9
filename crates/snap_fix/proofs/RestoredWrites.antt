-- The bytes that a fix writes to a file stay: all its writes are of blocks, and no block is written twice.
use Rattle.std.proofs.Common.{◌≡◌, ◌≢◌, ◌⊎◌, ℕ, zero, suc, ◌+◌, ◌*◌, ◌<◌, ◌≤◌, ◌&&◌, ◌==◌, List, [], ◌∷◌, ◌++◌, length, drop, get_or, Bool, true, false, Option, None, Some, refl, sym, ap, ap₂, ◌∙◌, subst, inl, inr, arith, length-append}
use Rattle.std.specs.Prelude.{is_some, not, if◌then◌else◌}
use Rattle.std.specs.List.{All, flat_map}
use Rattle.std.specs.Option.{option_map}
use Rattle.std.proofs.lemmas.Bool.{and_parts, eqb-true}
use Rattle.std.proofs.lemmas.Bool.Decides.{eqb_tells}
use Rattle.std.proofs.lemmas.List.{get_or-map, get_or_append_left, get_or-append-add, length-map}
use Rattle.std.proofs.lemmas.List.Elements.{All-append, All-cons, All-head, All-nil, All-tail}
use Rattle.disk_model.specs.Bytes.{put, resized}
use Rattle.disk_model.specs.Folder.{FolderView}
use Rattle.disk_model.proofs.BytesLemmas.{length-put, torn_by_put}
use Rattle.file_table.specs.Cells.{cell_seen}
use Rattle.file_table.specs.Table.{Column, block_in, column_at, record_at}
use Rattle.file_table.specs.declared.block.Cell.{Cell}
use Rattle.file_table.proofs.CellInLemmas.{cell_in-Some}
use Rattle.parity_writer.specs.Keeps.{HasByte}
use Rattle.parity_writer.proofs.ElsewhereLemmas.{length-resized}
use Rattle.parity_writer.proofs.WriteLemmas.{apart}
use Rattle.stripe_reader.specs.Reading.{block_length}
use Rattle.stripe_reader.specs.Starts.{StartsValue}
use Rattle.file_restorer.specs.declared.finishing.Finish.{Finish}
use Rattle.stripe_examiner.specs.Facts.{StripeFacts, damaged_at}
use Rattle.snap_fix.specs.Fixing.{facts_of}
use Rattle.stripe_examiner.specs.Known.{AreFacts}
use Rattle.stripe_examiner.specs.Looking.{no_facts}
use Rattle.snap_fix.specs.Mended.{Mended, answer_of, is_blocked_cell, is_of, is_repaired, is_written, write_of, writes_in, writes_of}
use Rattle.stripe_examiner.specs.Showing.{block_or_none, known_block}
use Rattle.file_restorer.specs.Mending.{block_start}
use Rattle.repair_scope.specs.Plan.{FixPlan, cell_at, is_looked_at, selects_cell, stripes_of}
use Rattle.snap_fix.specs.Restored.{HasFixed}
use Rattle.file_restorer.specs.State.{Write, has_some, puts}
use Rattle.stripe_examiner.proofs.KnowLemmas.{passed_distinct}
use Rattle.stripe_examiner.proofs.ShownLemmas.{known_long}

-- ---- one write, and some writes

abbrev pub Outside : ℕ → Write → Type 0
Outside x write = (x < write.at) ⊎ (write.at + length write.bytes ≤ x)

put_keeps : (file : List ℕ) (write : Write) (x b : ℕ) → HasByte file x b → Outside x write → HasByte (put file write.at write.bytes) x b
put_keeps file write x b has out =
    let torn = torn_by_put file write.at write.bytes in
    record { within = omega (arith, has.within, torn.no_shorter); is = torn.same x has.within out ∙ has.is }

put_has : (file : List ℕ) (at : ℕ) (bytes : List ℕ) (p : ℕ) → p < length bytes → HasByte (put file at bytes) (at + p) (get_or bytes p 0)
put_has file at bytes p less =
    let front = resized file at in
    let rest = drop (at + length bytes) file in
    let here : length front ≡ at = length-resized file at in
    record {
      within = omega (arith, less, length-put file at bytes);
      is = get_or_append_left (front ++ bytes) rest 0 (at + p) (omega (arith, less, length-append front bytes, here))
          ∙ ap (λ (n : ℕ). get_or (front ++ bytes) (n + p) 0) (sym here)
          ∙ get_or-append-add front bytes p 0;
    }

pub puts_keep : (file : List ℕ) (writes : List Write) (x b : ℕ) → HasByte file x b → All (Outside x) writes → HasByte (puts file writes) x b
puts_keep file [] x b has out = has
puts_keep file (write ∷ writes) x b has out =
    puts_keep (put file write.at write.bytes) writes x b (put_keeps file write x b has (All-head (Outside x) write writes out)) (All-tail (Outside x) write writes out)

puts_more : (file : List ℕ) (one other : List Write) → puts file (one ++ other) ≡ puts (puts file one) other
puts_more file [] other = refl
puts_more file (write ∷ one) other = puts_more (put file write.at write.bytes) one other

has_some_left : (one other : List Write) → has_some one ≡ true → has_some (one ++ other) ≡ true
has_some_left [] other some = absurd cc
has_some_left (write ∷ one) other some = refl

has_some_right : (one other : List Write) → has_some other ≡ true → has_some (one ++ other) ≡ true
has_some_right [] other some = some
has_some_right (write ∷ one) other some = refl

-- ---- the writes of stripes, one after another

module _ (f : Mended → List Write) (x : ℕ) (none : Mended) where
  all_outside : (stripes : List Mended) → ((k : ℕ) → k < length stripes → All (Outside x) (f (get_or stripes k none))) → All (Outside x) (flat_map f stripes)
  all_outside [] each = All-nil (Outside x)
  all_outside (mended ∷ stripes) each =
      All-append (Outside x) (f mended) (flat_map f stripes) (each 0 (omega arith)) (all_outside stripes (λ k within. each (suc k) (omega (arith, within))))

  -- what was written in one of them, and not in a later one
  written_then : (b : ℕ) (write : Write) → ((file : List ℕ) → HasByte (put file write.at write.bytes) x b)
      → (stripes : List Mended) (k : ℕ) (file : List ℕ) → k < length stripes → f (get_or stripes k none) ≡ write ∷ []
      → ((j : ℕ) → k < j → j < length stripes → All (Outside x) (f (get_or stripes j none))) → HasByte (puts file (flat_map f stripes)) x b
  written_then b write has [] k file within is later = absurd (omega (arith, within))
  written_then b write has (mended ∷ stripes) zero file within is later =
      subst (λ (bytes : List ℕ). HasByte bytes x b) (sym (puts_more file (f mended) (flat_map f stripes)))
      (subst (λ (writes : List Write). HasByte (puts (puts file writes) (flat_map f stripes)) x b) (sym is)
      (puts_keep (put file write.at write.bytes) (flat_map f stripes) x b (has file)
      (all_outside stripes (λ j inside. later (suc j) (omega arith) (omega (arith, inside))))))
  written_then b write has (mended ∷ stripes) (suc k) file within is later =
      subst (λ (bytes : List ℕ). HasByte bytes x b) (sym (puts_more file (f mended) (flat_map f stripes)))
      (written_then b write has stripes k (puts file (f mended)) (omega (arith, within)) is
      (λ j after inside. later (suc j) (omega (arith, after)) (omega (arith, inside))))

some_written : (f : Mended → List Write) (none : Mended) (stripes : List Mended) (k : ℕ) → k < length stripes → has_some (f (get_or stripes k none)) ≡ true → has_some (flat_map f stripes) ≡ true
some_written f none [] k within some = absurd (omega (arith, within))
some_written f none (mended ∷ stripes) zero within some = has_some_left (f mended) (flat_map f stripes) some
some_written f none (mended ∷ stripes) (suc k) within some = has_some_right (f mended) (flat_map f stripes) (some_written f none stripes k (omega (arith, within)) some)

-- ---- the writes of a fix to the file of a record

-- what is so of each cell that is to be written
pub record IsRepaired (plan : FixPlan) (facts : StripeFacts) (d : ℕ) : Type 0 where
  pub selected : selects_cell plan facts.stripe d ≡ true
  pub damaged : damaged_at plan facts d ≡ true
  pub known : is_some (known_block plan facts d) ≡ true
  pub free : not (is_blocked_cell plan d (cell_at plan facts.stripe d)) ≡ true

pub repaired_parts : (plan : FixPlan) (facts : StripeFacts) (d : ℕ) → is_repaired plan facts d ≡ true → IsRepaired plan facts d
repaired_parts plan facts d is =
    let one = and_parts (selects_cell plan facts.stripe d && damaged_at plan facts d && is_some (known_block plan facts d)) (not (is_blocked_cell plan d (cell_at plan facts.stripe d))) is in
    let two = and_parts (selects_cell plan facts.stripe d && damaged_at plan facts d) (is_some (known_block plan facts d)) one.0 in
    let three = and_parts (selects_cell plan facts.stripe d) (damaged_at plan facts d) two.0 in
    record { selected = three.0; damaged = three.1; known = two.1; free = one.1 }

abbrev pub write_at : FixPlan → ℕ → StripeFacts → Cell → Write
write_at plan d facts cell = record { at = block_start plan.table cell; bytes = block_or_none (known_block plan facts d) }

module _ (plan : FixPlan) (starts : StartsValue) (stripes : List Mended) (finishes : List (List Finish)) (firsts news : List FolderView)
    (has : HasFixed plan starts stripes finishes firsts news) (d : ℕ) (column : d < length plan.table.columns) (none : Mended) where
  abbrev size : ℕ
  size = plan.table.shape.block_size

  abbrev mended : ℕ → Mended
  mended k = get_or stripes k none

  abbrev facts : ℕ → StripeFacts
  facts k = (mended k).facts

  pub facts_are : (k : ℕ) → k < length stripes → AreFacts plan (facts k)
  facts_are k within =
      subst (AreFacts plan) (get_or-map (λ (it : Mended). it.facts) stripes k none no_facts within)
      (has.are k no_facts (omega (arith, within, length-map stripes (λ (it : Mended). it.facts))))

  number_at : (k : ℕ) → k < length stripes → get_or (stripes_of plan) k 0 ≡ (facts k).stripe
  number_at k within =
      ap (λ (ns : List ℕ). get_or ns k 0) (sym has.numbers)
      ∙ get_or-map (λ (it : StripeFacts). it.stripe) (facts_of stripes) k no_facts 0 (omega (arith, within, length-map stripes (λ (it : Mended). it.facts)))
      ∙ ap (λ (it : StripeFacts). it.stripe) (get_or-map (λ (it : Mended). it.facts) stripes k none no_facts within)

  numbers_long : length (stripes_of plan) ≡ length stripes
  numbers_long = ap length (sym has.numbers) ∙ length-map (facts_of stripes) (λ (it : StripeFacts). it.stripe) ∙ length-map stripes (λ (it : Mended). it.facts)

  other_stripe : (j k : ℕ) → j < k → k < length stripes → (facts j).stripe ≢ (facts k).stripe
  other_stripe j k less within same =
      let infos : ℕ = length plan.table.infos in
      (passed_distinct (is_looked_at plan) infos infos (omega arith)).distinct j k less (omega (arith, within, numbers_long))
      (number_at j (omega (arith, less, within)) ∙ same ∙ sym (number_at k within))

  -- two stripes have no cell in common
  other_block : (j k : ℕ) (one other : Cell) → j < k → k < length stripes → cell_at plan (facts j).stripe d ≡ Some one → cell_at plan (facts k).stripe d ≡ Some other
      → other.rec ≡ one.rec → one.index ≢ other.index
  other_block j k one other less within one_is other_is same_rec same_index =
      let at : Column = column_at plan.table.columns d in
      let first = cell_in-Some at (facts j).stripe one one_is in
      let second = cell_in-Some at (facts k).stripe other other_is in
      other_stripe j k less within
      (sym first.position_is
      ∙ ap₂ (λ (i index : ℕ). (block_in (record_at plan.table.columns d i) index).position) (sym same_rec) same_index
      ∙ second.position_is)

  -- the block that is written has its real length
  write_long : (k : ℕ) (cell : Cell) → k < length stripes → cell_at plan (facts k).stripe d ≡ Some cell → is_repaired plan (facts k) d ≡ true
      → length (block_or_none (known_block plan (facts k) d)) ≡ block_length size (record_at plan.table.columns d cell.rec).meta.size cell.index
  write_long k cell within cell_is repaired =
      let parts = repaired_parts plan (facts k) d repaired in
      known_long plan (facts k) (facts_are k within) (omega (arith, has.valid.shape.levels.most)) d (cell_seen (column_at plan.table.columns d) cell) column
      (ap (option_map (cell_seen (column_at plan.table.columns d))) cell_is) parts.damaged parts.known

  -- a write of another cell of the same file is elsewhere
  pub outside_by : (i index k p : ℕ) → k < length stripes → p < size
      → ((other : Cell) → cell_at plan (facts k).stripe d ≡ Some other → other.rec ≡ i → is_written plan (mended k) d ≡ true → index ≢ other.index)
      → All (Outside (index * size + p)) (writes_in plan d i (mended k))
  outside_by i index k p within below differs = by_cell (cell_at plan (facts k).stripe d) refl
    where
      by_cell : (found : Option Cell) → cell_at plan (facts k).stripe d ≡ found
          → All (Outside (index * size + p)) (if is_of i found && is_written plan (mended k) d then write_of plan d (facts k) found else [])
      by_cell None is = All-nil (Outside (index * size + p))
      by_cell (Some other) is = by_written (other.rec == i) (is_written plan (mended k) d) refl refl
        where
          by_written : (same written : Bool) → (other.rec == i) ≡ same → is_written plan (mended k) d ≡ written
              → All (Outside (index * size + p)) (if same && written then write_of plan d (facts k) (Some other) else [])
          by_written false written same_is written_is = All-nil (Outside (index * size + p))
          by_written true false same_is written_is = All-nil (Outside (index * size + p))
          by_written true true same_is written_is =
              let repaired = (and_parts (is_repaired plan (facts k) d) (answer_of (mended k) d) written_is).0 in
              let long = write_long k other within is repaired in
              let out : Outside (index * size + p) (write_at plan d (facts k) other) =
              elim (apart size size index other.index p refl (differs other is (eqb-true other.rec i same_is) written_is) below) [
                | inl before ↦ inl before
                | inr behind ↦ inr (omega (arith, behind, long))
              ] in
              All-cons (Outside (index * size + p)) (write_at plan d (facts k) other) [] out (All-nil (Outside (index * size + p)))

  -- no write is of a byte of a cell that was not written
  pub none_covers : (i index p : ℕ) → p < size
      → ((k : ℕ) (other : Cell) → k < length stripes → cell_at plan (facts k).stripe d ≡ Some other → other.rec ≡ i → is_written plan (mended k) d ≡ true → index ≢ other.index)
      → All (Outside (index * size + p)) (writes_of plan stripes d i)
  none_covers i index p below differs =
      all_outside (writes_in plan d i) (index * size + p) none stripes
      (λ k within. outside_by i index k p within below (λ other is same_rec written. differs k other within is same_rec written))

  -- what is written in a stripe
  write_here : (k : ℕ) (cell : Cell) → cell_at plan (facts k).stripe d ≡ Some cell → is_written plan (mended k) d ≡ true
      → writes_in plan d cell.rec (mended k) ≡ write_at plan d (facts k) cell ∷ []
  write_here k cell cell_is written =
      ap₂ (λ (found : Option Cell) (b : Bool). if is_of cell.rec found && b then write_of plan d (facts k) found else []) cell_is written
      ∙ ap (λ (b : Bool). if b && true then write_of plan d (facts k) (Some cell) else []) (same_rec cell.rec)
    where
      same_rec : (n : ℕ) → (n == n) ≡ true
      same_rec n = elim (eqb_tells n n) [ inl same ↦ same.0 | inr other ↦ absurd (other.1 refl) ]

  pub some_are_written : (k : ℕ) (cell : Cell) → k < length stripes → cell_at plan (facts k).stripe d ≡ Some cell → is_written plan (mended k) d ≡ true
      → has_some (writes_of plan stripes d cell.rec) ≡ true
  some_are_written k cell within cell_is written =
      some_written (writes_in plan d cell.rec) none stripes k within (ap has_some (write_here k cell cell_is written))

  -- its bytes are in the file once all is written
  pub block_is_written : (k : ℕ) (cell : Cell) (file : List ℕ) (p : ℕ) → k < length stripes → cell_at plan (facts k).stripe d ≡ Some cell → is_written plan (mended k) d ≡ true
      → p < block_length size (record_at plan.table.columns d cell.rec).meta.size cell.index
      → HasByte (puts file (writes_of plan stripes d cell.rec)) (block_start plan.table cell + p) (get_or (block_or_none (known_block plan (facts k) d)) p 0)
  block_is_written k cell file p within cell_is written less =
      let bytes : List ℕ = block_or_none (known_block plan (facts k) d) in
      let repaired = (and_parts (is_repaired plan (facts k) d) (answer_of (mended k) d) written).0 in
      let long = write_long k cell within cell_is repaired in
      written_then (writes_in plan d cell.rec) (block_start plan.table cell + p) none (get_or bytes p 0) (write_at plan d (facts k) cell)
      (λ any. put_has any (block_start plan.table cell) bytes p (omega (arith, less, long)))
      stripes k file within (write_here k cell cell_is written)
      (λ j after inside. outside_by cell.rec cell.index j p inside (omega (arith, less))
      (λ other other_is same_rec other_written. other_block k j cell other after inside cell_is other_is same_rec))
