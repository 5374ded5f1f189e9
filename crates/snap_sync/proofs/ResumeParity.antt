-- A sync that was stopped and is begun anew leaves the same parity, outside of what was changed from outside.
use Rattle.std.proofs.Common.{◌≡◌, ◌≢◌, inl, inr, ℕ, zero, suc, ◌+◌, ◌-◌, ◌*◌, ◌<◌, ◌≤◌, List, [], ◌∷◌, ◌++◌, length, take, get_or, replicate, min, Bool, true, false, None, Some, refl, sym, ap, ◌∙◌, subst, arith}
use Rattle.std.specs.List.{All, AllPairs, Contains, filter, range_with_len}
use Rattle.std.proofs.lemmas.Bool.{both_ways, cases_Bool, cases_lt, false_from_ne_true}
use Rattle.std.proofs.lemmas.List.{get_or-map, get_or-take, get_or_append_left, length-append, length-map, length-take}
use Rattle.std.proofs.lemmas.List.Kept.{AllPairs-filter}
use Rattle.std.proofs.lemmas.Nat.{row_fits}
use Rattle.std.proofs.lemmas.List.FromFn.{length-range_with_len, get_or-range_with_len}
use Rattle.array_scan.specs.Layout.{is_pending, pending_stripes}
use Rattle.cauchy.specs.Matrix.{parity_byte}
use Rattle.disk_model.specs.Bytes.{resized}
use Rattle.disk_model.specs.Files.{Files, parity_of}
use Rattle.disk_model.specs.Tree.{Tree}
use Rattle.file_table.specs.Table.{TableValue, info_at}
use Rattle.file_table.specs.declared.info.Info.{Info}
use Rattle.file_table.specs.declared.info.Mark.{Mark}
use Rattle.file_table.specs.declared.info.Mark.TheVariants.{Pending, Synced}
use Rattle.parity_writer.specs.Keeps.{HasByte, IsOutside}
use Rattle.parity_writer.specs.Parity.{Row, Rows, HoldsRows, no_rows}
use Rattle.parity_writer.specs.Sound.{IsSynced, Sound, Closed, last_row}
use Rattle.snap_sync.specs.Calls.{level_bytes}
use Rattle.snap_sync.specs.Closing.{closed, rows_of}
use Rattle.snap_sync.specs.Images.{HasParity, IsOutsideRows, KeepsSynced}
use Rattle.snap_sync.specs.Part.{IsVerifiedBy, reading_by, readings_by, verified_stripes}
use Rattle.stripe_findings.specs.Reading.{StripeReading, is_verified, row_of, stripes_of}
use Rattle.snap_sync.specs.Resumed.{SameParityBut}
use Rattle.snap_sync.proofs.CellLemmas.{FindsCells}
use Rattle.snap_sync.proofs.LeftLemmas.{is_left, left_was, pending_left}
use Rattle.snap_sync.proofs.ListFacts.{All-through, kept_pass}
use Rattle.snap_sync.proofs.StillPending.{pending_distinct}
use Rattle.snap_sync.proofs.ResumeLemmas.{by_left, by_start, open_pass, open_verified, readings_same}
use Rattle.snap_sync.proofs.SeenLemmas.{GivesItsHashes, LeavesTheOthers, row_apart, row_read}

-- ---- places

rows_apart : (a b n : ℕ) → a < b → a * n + n ≤ b * n
rows_apart a b n less = row_fits a n b n less (omega arith)

outside : (n a b i : ℕ) → a ≢ b → i < n → IsOutside n a (b * n + i)
outside n a b i other inside = elim (cases_lt a b) [
  | inl less ↦ let fits : a * n + n ≤ b * n = rows_apart a b n less in inr (omega (arith, fits))
  | inr more ↦ let less : b < a = omega (arith, other, more) in let fits : b * n + n ≤ a * n = rows_apart b a n less in inl (omega (arith, fits, inside))
]

-- a place in a stripe that has no row
outside_rows : (rows : Rows) (n stripe i : ℕ) → rows stripe ≡ None → i < n → IsOutsideRows n rows (stripe * n + i)
outside_rows rows n stripe i none inside other row is = outside n other stripe i (λ same. no_some (sym (subst (λ (s : ℕ). rows s ≡ Some row) same is) ∙ none)) inside
  where
    no_some : Some row ≡ None → ⊥
    no_some is_none = cc

-- a byte below a length is kept where a file gets it
byte_resized : (file : List ℕ) (len i x : ℕ) → i < len → HasByte file i x → HasByte (resized file len) i x
byte_resized file len i x below has =
    let back : List ℕ = replicate (len - length file) 0 in
    let front : length (take len file) ≡ min len (length file) = length-take len file in
    let all : length (take len file ++ back) ≡ length (take len file) + length back = length-append (take len file) back in
    record {
      within = omega (arith, has.within, below, front, all);
      is = get_or_append_left (take len file) back 0 i (omega (arith, has.within, below, front)) ∙ get_or-take len file i 0 below ∙ has.is;
    }

-- ---- rows of what the trees give

made_distinct : (table : TableValue) (trees : List Tree) (ns : List ℕ) → AllPairs (λ (a b : ℕ). a ≢ b) ns → AllPairs (λ (a b : StripeReading). a.stripe ≢ b.stripe) (readings_by table trees ns)
made_distinct table trees ns distinct i j d less below same =
    let long : length (readings_by table trees ns) ≡ length ns = length-map ns (reading_by table trees) in
    let at_i : get_or (readings_by table trees ns) i d ≡ reading_by table trees (get_or ns i 0) = get_or-map (reading_by table trees) ns i 0 d (omega (arith, less, below, long)) in
    let at_j : get_or (readings_by table trees ns) j d ≡ reading_by table trees (get_or ns j 0) = get_or-map (reading_by table trees) ns j 0 d (omega (arith, below, long)) in
    distinct i j 0 less (omega (arith, below, long)) (sym (ap (λ (r : StripeReading). r.stripe) at_i) ∙ same ∙ ap (λ (r : StripeReading). r.stripe) at_j)

-- by the table that verifies them, a stripe among them has its row
pub row_among : (by table : TableValue) (trees : List Tree) (ns : List ℕ) (n : ℕ) → AllPairs (λ (a b : ℕ). a ≢ b) ns → All (λ (reading : StripeReading). is_verified by reading ≡ true) (readings_by table trees ns)
    → Contains ns n → rows_of by (readings_by table trees ns) n ≡ Some (row_of (reading_by table trees n))
row_among by table trees ns n distinct verified has =
    let long : length (readings_by table trees ns) ≡ length ns = length-map ns (reading_by table trees) in
    let inside : has.0 < length (readings_by table trees ns) = omega (arith, has.1, long) in
    let d : StripeReading = reading_by table trees n in
    let at : get_or (readings_by table trees ns) has.0 d ≡ reading_by table trees n = get_or-map (reading_by table trees) ns has.0 n d has.1 ∙ ap (reading_by table trees) has.2 in
    subst (λ (r : StripeReading). rows_of by (readings_by table trees ns) r.stripe ≡ Some (row_of r)) at
    (row_read by (readings_by table trees ns) no_rows has.0 d (made_distinct table trees ns distinct) inside (verified has.0 d inside))

-- and one that is none of them has none
pub no_row_apart : (by table : TableValue) (trees : List Tree) (ns : List ℕ) (n : ℕ) → All (λ (m : ℕ). m ≢ n) ns → rows_of by (readings_by table trees ns) n ≡ None
no_row_apart by table trees ns n apart = row_apart by (readings_by table trees ns) no_rows n (All-through (reading_by table trees) (λ (r : StripeReading). r.stripe ≢ n) ns apart)

-- ---- which stripes pass

pub contains_kept : (p : ℕ → Bool) (ns : List ℕ) (n : ℕ) → Contains ns n → p n ≡ true → Contains (filter p ns) n
contains_kept p [] n has is = absurd (omega (arith, has.1))
contains_kept p (m ∷ ns) n has is = by_place has.0 has.1 has.2 (contains_kept p ns n)
  where
    here : (b : Bool) → p m ≡ b → (p m ≡ true) → m ≡ n → Contains (filter p (m ∷ ns)) n
    here true at passes same = rw at (0, omega arith, same)
    here false at passes same = cc

    later : (b : Bool) → p m ≡ b → Contains (filter p ns) n → Contains (filter p (m ∷ ns)) n
    later true at rest = rw at (suc rest.0, omega (arith, rest.1), rest.2)
    later false at rest = rw at rest

    by_place : (k : ℕ) → k < length (m ∷ ns) → get_or (m ∷ ns) k n ≡ n → (Contains ns n → p n ≡ true → Contains (filter p ns) n) → Contains (filter p (m ∷ ns)) n
    by_place zero within same more = here (p m) refl (ap p same ∙ is) same
    by_place (suc k) within same more = later (p m) refl (more (k, omega arith, same) is)

pending_contains : (infos : List Info) (stripe : ℕ) → stripe < length infos → is_pending (info_at infos stripe).mark ≡ true → Contains (pending_stripes infos) stripe
pending_contains infos stripe below is =
    let long : length (range_with_len 0 (length infos)) ≡ length infos = length-range_with_len 0 (length infos) in
    let at : get_or (range_with_len 0 (length infos)) stripe stripe ≡ stripe = get_or-range_with_len 0 (length infos) stripe stripe below ∙ zero_more stripe in
    contains_kept (λ (s : ℕ). is_pending (info_at infos s).mark) (range_with_len 0 (length infos)) stripe (stripe, omega (arith, below, long), at) is
  where
    zero_more : (n : ℕ) → 0 + n ≡ n
    zero_more n = omega arith

marked_synced : (mark : Mark) → is_pending mark ≡ false → mark ≡ Synced
marked_synced Pending is = cc
marked_synced Synced is = refl

-- one that does not pass is none of those that do
apart_from : (p : ℕ → Bool) (ns : List ℕ) (n : ℕ) → p n ≡ false → All (λ (m : ℕ). m ≢ n) (filter p ns)
apart_from p ns n is = kept_pass p (λ (m : ℕ). m ≢ n) ns (λ k d within passes same. both_ways (p n) is (subst (λ (m : ℕ). p m ≡ true) same passes))

module _ (finds : FindsCells) (leaves : LeavesTheOthers) (gives : GivesItsHashes) (start : TableValue) (trees : List Tree) (before : ℕ) (readings : List StripeReading) (count : ℕ)
    (stripes : stripes_of readings ≡ take count (pending_stripes start.infos)) (again : filter (is_verified start) readings ≡ readings_by start trees (verified_stripes start readings))
    (all : All (IsVerifiedBy start trees) (pending_stripes start.infos)) where
  abbrev left : TableValue
  left = closed before start readings

  abbrev pending : List ℕ
  pending = pending_stripes start.infos

  abbrev is_open : ℕ → Bool
  is_open = is_left leaves gives start before readings count stripes

  abbrev whole_rows : Rows
  whole_rows = rows_of start (readings_by start trees pending)

  abbrev rest_rows : Rows
  rest_rows = rows_of left (readings_by left trees (pending_stripes left.infos))

  rest_is : rest_rows ≡ rows_of left (readings_by start trees (filter is_open pending))
  rest_is =
      ap (λ (ns : List ℕ). rows_of left (readings_by left trees ns)) (pending_left leaves gives start before readings count stripes)
      ∙ ap (rows_of left) (readings_same finds start trees leaves gives before readings count stripes again all (filter is_open pending) (open_pass finds start trees leaves gives before readings count stripes again all))

  row_whole : (stripe : ℕ) → Contains pending stripe → whole_rows stripe ≡ Some (row_of (reading_by start trees stripe))
  row_whole stripe has = row_among start start trees pending stripe (pending_distinct start.infos) (by_start finds start trees leaves gives before readings count stripes again all pending all) has

  row_rest : (stripe : ℕ) → Contains pending stripe → is_open stripe ≡ true → rest_rows stripe ≡ Some (row_of (reading_by start trees stripe))
  row_rest stripe has is = ap (λ (rows : Rows). rows stripe) rest_is ∙
      row_among left start trees (filter is_open pending) stripe
      (AllPairs-filter (λ (a b : ℕ). a ≢ b) is_open pending (pending_distinct start.infos))
      (by_left finds start trees leaves gives before readings count stripes again all (filter is_open pending)
      (open_pass finds start trees leaves gives before readings count stripes again all) (open_verified finds start trees leaves gives before readings count stripes again all))
      (contains_kept is_open pending stripe has is)

  no_rest : (stripe : ℕ) → is_open stripe ≡ false → rest_rows stripe ≡ None
  no_rest stripe is = ap (λ (rows : Rows). rows stripe) rest_is ∙ no_row_apart left start trees (filter is_open pending) stripe (apart_from is_open pending stripe is)

  no_whole : (stripe : ℕ) → is_pending (info_at start.infos stripe).mark ≡ false → whole_rows stripe ≡ None
  no_whole stripe is = no_row_apart start start trees pending stripe (apart_from (λ (s : ℕ). is_pending (info_at start.infos s).mark) (range_with_len 0 (length start.infos)) stripe is)

  -- what stands once the first sync was stopped, and what the two full syncs leave
  module _ (old mid one other : Files) (snapshot : Closed) (is_changed : ℕ → ℕ → Bool) (written : Rows)
      (holds : HoldsRows start.shape.levels start.shape.block_size written mid)
      (is_written : (stripe : ℕ) → Contains pending stripe → is_open stripe ≡ false → written stripe ≡ Some (row_of (reading_by start trees stripe)))
      (keeps : KeepsSynced start old mid) (sound : Sound start old snapshot is_changed)
      (whole : HasParity start.shape.levels start.shape.block_size (level_bytes start) whole_rows old one)
      (rest : HasParity start.shape.levels start.shape.block_size (level_bytes start) rest_rows mid other) where
    abbrev size : ℕ
    size = start.shape.block_size

    in_level : (stripe i : ℕ) → stripe < length start.infos → i < size → stripe * size + i < level_bytes start
    in_level stripe i below inside = let fits : stripe * size + size ≤ length start.infos * size = rows_apart stripe (length start.infos) size below in omega (arith, fits, inside)

    same_is : (one_file other_file : List ℕ) (i x : ℕ) → HasByte one_file i x → HasByte other_file i x → get_or one_file i 0 ≡ get_or other_file i 0
    same_is one_file other_file i x a b = a.is ∙ sym b.is

    -- of a stripe that was not written by the second sync
    stays : (level stripe i x : ℕ) → level < start.shape.levels → stripe < length start.infos → i < size → is_open stripe ≡ false → HasByte (parity_of mid level) (stripe * size + i) x → HasByte (parity_of other level) (stripe * size + i) x
    stays level stripe i x level_in below inside is has =
        rest.others level (stripe * size + i) x level_in (outside_rows rest_rows size stripe i (no_rest stripe is) inside)
        (byte_resized (parity_of mid level) (level_bytes start) (stripe * size + i) x (in_level stripe i below inside) has)

    of_pending : (level stripe i : ℕ) → level < start.shape.levels → stripe < length start.infos → i < size → is_pending (info_at start.infos stripe).mark ≡ true
        → get_or (parity_of one level) (stripe * size + i) 0 ≡ get_or (parity_of other level) (stripe * size + i) 0
    of_pending level stripe i level_in below inside is =
        let has : Contains pending stripe = pending_contains start.infos stripe below is in
        let row : Row = row_of (reading_by start trees stripe) in
        let first : HasByte (parity_of one level) (stripe * size + i) (parity_byte level row i) = whole.rows_held.level level stripe row level_in (row_whole stripe has) i inside in
        elim (cases_Bool (is_open stripe)) [
          | inl opened ↦ same_is (parity_of one level) (parity_of other level) (stripe * size + i) (parity_byte level row i) first
              (rest.rows_held.level level stripe row level_in (row_rest stripe has opened) i inside)
          | inr done ↦ same_is (parity_of one level) (parity_of other level) (stripe * size + i) (parity_byte level row i) first
              (stays level stripe i (parity_byte level row i) level_in below inside done (holds.level level stripe row level_in (is_written stripe has done) i inside))
        ]

    of_synced : (level stripe i : ℕ) → level < start.shape.levels → stripe < length start.infos → i < size → is_changed stripe level ≡ false → is_pending (info_at start.infos stripe).mark ≡ false
        → get_or (parity_of one level) (stripe * size + i) 0 ≡ get_or (parity_of other level) (stripe * size + i) 0
    of_synced level stripe i level_in below inside unchanged is =
        let synced : IsSynced start stripe = record { within = below; mark = marked_synced (info_at start.infos stripe).mark is } in
        let x : ℕ = parity_byte level (last_row snapshot stripe) i in
        let was : HasByte (parity_of old level) (stripe * size + i) x = sound.sums stripe level synced level_in unchanged i inside in
        let first : HasByte (parity_of one level) (stripe * size + i) x =
        whole.others level (stripe * size + i) x level_in (outside_rows whole_rows size stripe i (no_whole stripe is) inside)
        (byte_resized (parity_of old level) (level_bytes start) (stripe * size + i) x (in_level stripe i below inside) was) in
        let between : HasByte (parity_of mid level) (stripe * size + i) x =
        keeps.bytes level (stripe * size + i) x (record { stripe = stripe; synced = synced; behind = omega arith; before = omega (arith, inside) }) was in
        let closed_now : is_open stripe ≡ false = false_from_ne_true (is_open stripe) (λ opened.
        both_ways (is_pending (info_at start.infos stripe).mark) is (left_was leaves gives start before readings count stripes stripe opened).0) in
        same_is (parity_of one level) (parity_of other level) (stripe * size + i) x first (stays level stripe i x level_in below inside closed_now between)

    pub same_parity : SameParityBut start is_changed one other
    same_parity = record {
      lengths = λ level level_in. whole.lengths level level_in ∙ sym (rest.lengths level level_in);
      bytes = λ level stripe i level_in below inside unchanged. elim (cases_Bool (is_pending (info_at start.infos stripe).mark)) [
        | inl is ↦ of_pending level stripe i level_in below inside is
        | inr is ↦ of_synced level stripe i level_in below inside unchanged is
      ];
    }
