-- There is a full sync of each table whose pending stripes the trees verify, and it leaves the table's shape and length.
use Rattle.std.proofs.Common.{◌≡◌, inl, inr, ⊎_elim, ℕ, ◌+◌, ◌-◌, ◌*◌, ◌/◌, ◌<◌, ◌≤◌, List, [], length, map, get_or, None, Some, Option, refl, sym, ap, ◌∙◌, subst, arith}
use Rattle.std.specs.List.{All, range_with_len}
use Rattle.std.proofs.lemmas.Bool.{cases_lt}
use Rattle.std.proofs.lemmas.List.{get_or_default}
use Rattle.std.proofs.lemmas.List.FromFn.{get_or-map-range_with_len, length-map-range_with_len}
use Rattle.std.proofs.lemmas.Nat.{div-mul-add, row_fits}
use Rattle.std.proofs.Math.Nat.{div-mul-le_self, lt-div-mul-add}
use Rattle.array_scan.specs.Layout.{pending_stripes}
use Rattle.cauchy.specs.Matrix.{parity_byte}
use Rattle.disk_model.specs.Bytes.{resized}
use Rattle.disk_model.specs.Files.{Files, parity_of}
use Rattle.disk_model.specs.Tree.{Tree}
use Rattle.disk_model.proofs.BytesLemmas.{length-resized}
use Rattle.file_table.specs.Table.{TableValue}
use Rattle.parity_writer.specs.Keeps.{HasByte, IsOutside}
use Rattle.parity_writer.specs.Parity.{Row, Rows}
use Rattle.array_setup.specs.Setup.{SetupValue}
use Rattle.snap_sync.specs.Calls.{level_bytes}
use Rattle.snap_sync.specs.Closing.{closed, rows_of}
use Rattle.snap_sync.specs.Images.{HasParity, IsOutsideRows}
use Rattle.snap_sync.specs.Part.{IsFullSync, IsPartSync, IsVerifiedBy, layout_by, readings_by}
use Rattle.snap_sync.proofs.ResumeParity.{no_row_apart}
use Rattle.snap_sync.proofs.SeenLemmas.{infos_closed, shape_closed}
use Rattle.snap_sync.proofs.StillPending.{pending_below}

-- ---- parity with some rows

-- the byte of a level at an offset of a row, or another where there is no row
abbrev row_byte : ℕ → ℕ → Option Row → ℕ → ℕ
row_byte level offset None other = other
row_byte level offset (Some row) other = parity_byte level row offset

module _ (size bytes levels : ℕ) (rows : Rows) (old : Files) where
  abbrev kept_at : ℕ → ℕ → ℕ
  kept_at level i = get_or (resized (parity_of old level) bytes) i 0

  abbrev byte_at : ℕ → ℕ → ℕ
  byte_at level i = row_byte level (i - i / size * size) (rows (i / size)) (kept_at level i)

  abbrev level_file : ℕ → List ℕ
  level_file level = map (byte_at level) (range_with_len 0 bytes)

  abbrev files_with : Files
  files_with = record { parities = map level_file (range_with_len 0 levels); contents = [] }

  level_is : (level : ℕ) → level < levels → parity_of files_with level ≡ level_file level
  level_is level below = get_or-map-range_with_len level_file 0 levels level level [] below (omega arith)

  has_byte : (level i : ℕ) → i < bytes → HasByte (level_file level) i (byte_at level i)
  has_byte level i below = record {
    within = let long : length (level_file level) ≡ bytes = length-map-range_with_len (byte_at level) 0 bytes in omega (arith, below, long);
    is = get_or-map-range_with_len (byte_at level) 0 bytes i i 0 below (omega arith);
  }

  of_row : (level stripe i : ℕ) (row : Row) → i < size → rows stripe ≡ Some row → byte_at level (stripe * size + i) ≡ parity_byte level row i
  of_row level stripe i row inside is =
      let at : (stripe * size + i) / size ≡ stripe = div-mul-add stripe size i inside in
      let place : (stripe * size + i) - (stripe * size + i) / size * size ≡ i = ap (λ (q : ℕ). (stripe * size + i) - q * size) at ∙ back (stripe * size) i in
      ap (λ (found : Option Row). row_byte level ((stripe * size + i) - (stripe * size + i) / size * size) found (kept_at level (stripe * size + i))) (ap rows at ∙ is)
      ∙ ap (λ (offset : ℕ). parity_byte level row offset) place
    where
      back : (a b : ℕ) → (a + b) - a ≡ b
      back a b = omega arith

  of_none : (level i : ℕ) → 0 < size → IsOutsideRows size rows i → byte_at level i ≡ kept_at level i
  of_none level i some apart = by_row (rows (i / size)) refl
    where
      inside : (q : ℕ) → q ≡ i / size → IsOutside size q i → ⊥
      inside q is (inl before) = let low : i / size * size ≤ i = div-mul-le_self i size in let same : q * size ≡ i / size * size = ap (λ (n : ℕ). n * size) is in omega (arith, before, low, same)
      inside q is (inr behind) = let high : i < i / size * size + size = lt-div-mul-add some in let same : q * size ≡ i / size * size = ap (λ (n : ℕ). n * size) is in omega (arith, behind, high, same)

      by_row : (found : Option Row) → rows (i / size) ≡ found → row_byte level (i - i / size * size) (rows (i / size)) (kept_at level i) ≡ kept_at level i
      by_row None is = ap (λ (r : Option Row). row_byte level (i - i / size * size) r (kept_at level i)) is
      by_row (Some row) is = absurd (inside (i / size) refl (apart (i / size) row is))

  -- these files have the rows, where each stands within them
  has_parity : 0 < size → ((stripe : ℕ) (row : Row) → rows stripe ≡ Some row → stripe * size + size ≤ bytes) → HasParity levels size bytes rows old files_with
  has_parity some fits = record {
    lengths = λ level below. ap length (level_is level below) ∙ length-map-range_with_len (byte_at level) 0 bytes;
    rows_held = record {
      level = λ level stripe row below is i inside.
          let room : stripe * size + size ≤ bytes = fits stripe row is in
          subst (λ (file : List ℕ). HasByte file (stripe * size + i) (parity_byte level row i)) (sym (level_is level below))
          (subst (HasByte (level_file level) (stripe * size + i)) (of_row level stripe i row inside is) (has_byte level (stripe * size + i) (omega (arith, room, inside))));
    };
    others = λ level i x below apart has.
        let long : length (resized (parity_of old level) bytes) ≡ bytes = length-resized (parity_of old level) bytes in
        subst (λ (file : List ℕ). HasByte file i x) (sym (level_is level below))
        (subst (HasByte (level_file level) i) (of_none level i some apart ∙ has.is) (has_byte level i (omega (arith, has.within, long))));
  }

-- ---- the full sync

module _ (start : TableValue) (trees : List Tree) where
  abbrev pending : List ℕ
  pending = pending_stripes start.infos

  abbrev full_rows : Rows
  full_rows = rows_of start (readings_by start trees pending)

  -- only stripes of the table have rows
  rows_fit : (stripe : ℕ) (row : Row) → full_rows stripe ≡ Some row → stripe * start.shape.block_size + start.shape.block_size ≤ level_bytes start
  rows_fit stripe row is = ⊎_elim
      (λ below. row_fits stripe start.shape.block_size (length start.infos) start.shape.block_size below (omega arith))
      (λ past. absurd (no_some (sym (no_row_apart start start trees pending stripe (λ k d within same.
      let low : get_or pending k d < length start.infos = pending_below start.infos k d within in omega (arith, past, low, same))) ∙ is)))
      (cases_lt stripe (length start.infos))
    where
      no_some : None ≡ Some row → ⊥
      no_some clash = cc

  pub full_of : (now : ℕ) (files : Files) → 0 < start.shape.block_size → All (IsVerifiedBy start trees) pending
      → (full : Files) × IsPartSync start trees pending now files (closed now start (readings_by start trees pending)) full
  full_of now files some all = (
    files_with start.shape.block_size (level_bytes start) start.shape.levels full_rows files,
    record {
      of_table = record { pending = λ k d within. (k, within, same_default pending k d within); verified = all; is = refl };
      parity = has_parity start.shape.block_size (level_bytes start) start.shape.levels full_rows files some rows_fit;
    },
  )
    where
      same_default : (ns : List ℕ) (k d : ℕ) → k < length ns → get_or ns k (get_or ns k d) ≡ get_or ns k d
      same_default ns k d within = get_or_default ns k (get_or ns k d) d within

-- there is one
pub full_exists : (setup : SetupValue) (table : TableValue) (trees : List Tree) (now : ℕ) (files : Files) → 0 < (layout_by setup table trees).shape.block_size
    → All (IsVerifiedBy (layout_by setup table trees) trees) (pending_stripes (layout_by setup table trees).infos)
    → (full_table : TableValue) × (full : Files) × IsFullSync setup table trees now files full_table full
full_exists setup table trees now files some all =
    let start : TableValue = layout_by setup table trees in
    let full = full_of start trees now files some all in
    (closed now start (readings_by start trees (pending_stripes start.infos)), full.0, full.1)

-- its table has the shape of the layout, and as many stripes
pub full_shape : (setup : SetupValue) (table : TableValue) (trees : List Tree) (now : ℕ) (files : Files) (full_table : TableValue) (full : Files) → IsFullSync setup table trees now files full_table full
    → (full_table.shape ≡ (layout_by setup table trees).shape) × (length full_table.infos ≡ length (layout_by setup table trees).infos)
full_shape setup table trees now files full_table full is =
    let start : TableValue = layout_by setup table trees in
    let readings = readings_by start trees (pending_stripes start.infos) in
    (ap (λ (t : TableValue). t.shape) is.of_table.is ∙ shape_closed start now readings start, ap (λ (t : TableValue). length t.infos) is.of_table.is ∙ infos_closed start now readings start)
