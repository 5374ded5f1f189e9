-- What is written to the file of a record in one stripe more, and the size of a file after some writes.
use Rattle.std.proofs.Common.{◌≡◌, ◌+◌, max, ℕ, List, [], ◌∷◌, ◌++◌, length, Bool, true, false, if◌then◌else◌, Option, Some, refl, ap, ap₂, ◌∙◌}
use Rattle.std.specs.Prelude.{◌&&◌, ◌||◌}
use Rattle.std.proofs.lemmas.Bool.{eq-eqb, ne_eqb}
use Rattle.std.proofs.lemmas.Grind.{flat_map-append}
use Rattle.std.proofs.lemmas.List.{append-nil}
use Rattle.file_table.specs.declared.block.Cell.{Cell}
use Rattle.snap_fix.specs.Mended.{Mended, is_written, is_of, write_of, writes_in, writes_of}
use Rattle.stripe_examiner.specs.Showing.{known_block, block_or_none}
use Rattle.file_restorer.specs.Mending.{block_start}
use Rattle.repair_scope.specs.Plan.{FixPlan, cell_at}
use Rattle.file_restorer.specs.State.{Write, has_some, size_after}

-- ---- some writes, and then others

pub size_after-append : (size : ℕ) (first more : List Write) → size_after size (first ++ more) ≡ size_after (size_after size first) more
size_after-append size [] more = refl
size_after-append size (write ∷ first) more = size_after-append (max size (write.at + length write.bytes)) first more

pub has_some-append : (first more : List Write) → has_some (first ++ more) ≡ (has_some first || has_some more)
has_some-append [] more = refl
has_some-append (write ∷ first) more = or_left (has_some more)
  where
    or_left : (b : Bool) → true ≡ (true || b)
    or_left true = refl
    or_left false = refl

-- ---- one stripe more

module _ (plan : FixPlan) (mended : Mended) (d i : ℕ) where
  pub writes_of-push : (stripes : List Mended) → writes_of plan (stripes ++ mended ∷ []) d i ≡ writes_of plan stripes d i ++ writes_in plan d i mended
  writes_of-push stripes = flat_map-append (writes_in plan d i) stripes (mended ∷ []) ∙ ap (λ (ws : List Write). writes_of plan stripes d i ++ ws) (append-nil (writes_in plan d i mended))

  -- what is written in it, by its cell
  abbrev write_by : Bool → Option Cell → List Write
  write_by written cell = if is_of i cell && written then write_of plan d mended.facts cell else []

  none_by : (b : Bool) (writes : List Write) → (if b && false then writes else []) ≡ []
  none_by true writes = refl
  none_by false writes = refl

  other_by : (b : Bool) (writes : List Write) → (if false && b then writes else []) ≡ []
  other_by true writes = refl
  other_by false writes = refl

  -- nothing, where the cell of the column is not written
  pub writes_in-none : is_written plan mended d ≡ false → writes_in plan d i mended ≡ []
  writes_in-none not_written = ap (λ (b : Bool). write_by b (cell_at plan mended.facts.stripe d)) not_written
      ∙ none_by (is_of i (cell_at plan mended.facts.stripe d)) (write_of plan d mended.facts (cell_at plan mended.facts.stripe d))

  -- and where it is another record's
  pub writes_in-other : (cell : Cell) → cell_at plan mended.facts.stripe d ≡ Some cell → (cell.rec ≡ i → ⊥) → writes_in plan d i mended ≡ []
  writes_in-other cell cell_is other = ap (write_by (is_written plan mended d)) cell_is
      ∙ ap (λ (b : Bool). if b && is_written plan mended d then write_of plan d mended.facts (Some cell) else []) (ne_eqb cell.rec i other)
      ∙ other_by (is_written plan mended d) (write_of plan d mended.facts (Some cell))

  -- its block, where it is the record's
  pub writes_in-here : (cell : Cell) (written : Bool) → cell_at plan mended.facts.stripe d ≡ Some cell → cell.rec ≡ i → is_written plan mended d ≡ written
      → writes_in plan d i mended ≡ (if written then record { at = block_start plan.table cell; bytes = block_or_none (known_block plan mended.facts d) } ∷ [] else [])
  writes_in-here cell written cell_is same written_is = ap₂ write_by written_is cell_is
      ∙ ap (λ (b : Bool). if b && written then write_of plan d mended.facts (Some cell) else []) (eq-eqb cell.rec i same)
      ∙ by written
    where
      by : (b : Bool) → (if true && b then write_of plan d mended.facts (Some cell) else []) ≡ (if b then record { at = block_start plan.table cell; bytes = block_or_none (known_block plan mended.facts d) } ∷ [] else [])
      by true = refl
      by false = refl
