-- The copies that a sync leaves are sound with the rows of all stripes that it read. Of each moment of a sync it is known that they are with those of some
-- number of these. Here this is used of other files than the sync began with: copies of the laid out table, over the parity of then. They are sound with
-- the new rows too, since these are of pending stripes; so whichever number it is, the rows are all.
use Rattle.std.proofs.Common.{◌≡◌, ◌≢◌, ◌⊎◌, inl, inr, ℕ, zero, suc, ◌+◌, ◌-◌, ◌*◌, ◌<◌, ◌≤◌, List, [], ◌∷◌, ◌++◌, length, take, drop, min, get_or, replicate, Bool, true, false, All, if◌then◌else◌, Option, None, Some, is_some, refl, sym, ap, ◌∙◌, subst, arith}
use Rattle.std.specs.List.{AllPairs, range_with_len}
use Rattle.std.proofs.lemmas.Bool.{cases_eq, cases_lt, ne_eqb}
use Rattle.std.proofs.lemmas.List.{get_or-append-add, get_or-map, get_or-replicate, get_or-take, get_or_append_left, get_or_default, get_or_past, length-append, length-map, length-replicate, length-take, take-append-drop, take_all}
use Rattle.std.proofs.lemmas.List.Elements.{filter_passes}
use Rattle.std.proofs.lemmas.List.FromFn.{get_or-range_with_len, length-range_with_len}
use Rattle.std.proofs.lemmas.List.Kept.{AllPairs-filter}
use Rattle.std.proofs.lemmas.Nat.{row_fits}
use Rattle.array_scan.specs.Keeping.{KeepsStripes, SameBlock}
use Rattle.array_scan.specs.Layout.{is_pending, pending_stripes}
use Rattle.content_file.specs.Save.{MaySave}
use Rattle.content_file.specs.Spelling.{spelling, HoldsTable}
use Rattle.disk_model.specs.Bytes.{resized}
use Rattle.disk_model.specs.Files.{Files, content_of, parity_of}
use Rattle.disk_model.specs.Folder.{FolderView}
use Rattle.file_table.specs.Cells.{CellView}
use Rattle.file_table.specs.Table.{TableValue, info_at}
use Rattle.file_table.specs.Valid.{IsValid}
use Rattle.file_table.specs.declared.info.Mark.{Mark}
use Rattle.file_table.specs.declared.info.Mark.TheVariants.{Synced}
use Rattle.parity_writer.specs.Keeps.{HasByte, IsOutside}
use Rattle.parity_writer.specs.Parity.{HasLevel, Row, Rows, no_rows, with_row}
use Rattle.parity_writer.proofs.CellsLemmas.{one_more}
use Rattle.parity_writer.specs.Sound.{IsSynced, Sound, Closed, last_row, newest, HasCells}
use Rattle.snap_sync.specs.Calls.{SyncPlan, level_bytes, no_reading}
use Rattle.snap_sync.specs.Closing.{closed, rows_of, rows_with}
use Rattle.snap_sync.specs.Images.{AtWork, IsInSynced, IsOutsideRows, KeepsSynced, MayStand, Opening, rows_after}
use Rattle.snap_sync.specs.Part.{SyncRun}
use Rattle.stripe_findings.specs.Reading.{StripeReading, is_verified, row_of, stripes_of}
use Rattle.snap_sync.specs.Reading.{ReadsFirst}
use Rattle.snap_sync.specs.Soundness.{AreSound, AreSoundAfter, StandsOn, changed_without, in_front, snapshot_with}
use Rattle.snap_top.specs.Sync.{SyncsOver, LeavesSynced}
use Rattle.parity_writer.specs.Closing.{changed_behind}
use Rattle.snap_top.proofs.UnchangedLemmas.{behind_unchanged}

-- what snap_sync says of its moments, and content_file of spellings
abbrev pub MomentsAreSound : Type 0
MomentsAreSound = (plan : SyncPlan) (loaded : TableValue) (readings ahead : List StripeReading) (olds news : List FolderView) (old new : Files) (snapshot : Closed) (is_changed : ℕ → ℕ → Bool)
    → length olds ≡ length plan.start.columns → ReadsFirst plan.start (readings ++ ahead) olds news → StandsOn plan loaded old → AreSound plan.copies old snapshot is_changed
    → MayStand plan readings old new → AreSoundAfter plan readings new snapshot is_changed

abbrev pub OneTable : Type 0
OneTable = (a b : TableValue) (held : Option (List ℕ)) → IsValid a → IsValid b → HoldsTable a held → HoldsTable b held → a ≡ b

-- ---- the rows of readings of distinct stripes

abbrev pub AreApart : ℕ → List StripeReading → Type 0
AreApart stripe readings = All (λ (reading : StripeReading). reading.stripe ≢ stripe) readings

-- a stripe is that of one of the readings, or of none
pub one_or_none : (readings : List StripeReading) (stripe : ℕ) → ((i : ℕ) × (i < length readings) × ((get_or readings i no_reading).stripe ≡ stripe)) ⊎ AreApart stripe readings
one_or_none [] stripe = inr (λ k d within. absurd (omega (arith, within)))
one_or_none (reading ∷ readings) stripe = elim (cases_eq reading.stripe stripe) [
  | inl same ↦ inl (0, omega arith, same)
  | inr other ↦ elim (one_or_none readings stripe) [
    | inl later ↦ inl (suc later.0, omega (arith, later.1), later.2)
    | inr none ↦ inr (apart_more reading readings stripe other none)
  ]
]
  where
    apart_more : (reading : StripeReading) (readings : List StripeReading) (stripe : ℕ) → reading.stripe ≢ stripe → AreApart stripe readings → AreApart stripe (reading ∷ readings)
    apart_more reading readings stripe other none zero d within = other
    apart_more reading readings stripe other none (suc k) d within = none k d (omega (arith, within))

module _ (start : TableValue) where
  abbrev pub step : StripeReading → Rows → Rows
  step reading rows = if is_verified start reading then with_row reading.stripe (row_of reading) rows else rows

  pub rows_append : (xs ys : List StripeReading) (rows : Rows) → rows_with start (xs ++ ys) rows ≡ rows_with start ys (rows_with start xs rows)
  rows_append [] ys rows = refl
  rows_append (x ∷ xs) ys rows = rows_append xs ys (step x rows)

  -- a stripe that was not read has the row that it had
  pub row_apart : (readings : List StripeReading) (rows : Rows) (stripe : ℕ) → AreApart stripe readings → rows_with start readings rows stripe ≡ rows stripe
  row_apart [] rows stripe apart = refl
  row_apart (x ∷ xs) rows stripe apart = row_apart xs (step x rows) stripe (λ k d within. apart (suc k) d (omega (arith, within))) ∙ by (is_verified start x)
    where
      by : (b : Bool) → (if b then with_row x.stripe (row_of x) rows else rows) stripe ≡ rows stripe
      by true = ap (λ (same : Bool). if same then Some (row_of x) else rows stripe) (ne_eqb stripe x.stripe (λ same. apart 0 x (omega arith) (sym same)))
      by false = refl

  -- a row that some of the readings give, all of them do
  row_stays : (readings : List StripeReading) → AllPairs (λ (a b : StripeReading). a.stripe ≢ b.stripe) readings → (count stripe : ℕ) (row : Row)
      → rows_of start (take count readings) stripe ≡ Some row → rows_of start readings stripe ≡ Some row
  row_stays readings distinct count stripe row is = elim (one_or_none (take count readings) stripe) [
    | inr none ↦ let clash : None ≡ Some row = sym (row_apart (take count readings) no_rows stripe none) ∙ is in absurd (no_some row clash)
    | inl one ↦
        let first : List StripeReading = take count readings in
        let rest : List StripeReading = drop count readings in
        let all : first ++ rest ≡ readings = take-append-drop count readings in
        let long : length (first ++ rest) ≡ length first + length rest = length-append first rest in
        let apart : AreApart stripe rest = λ k d within same.
        let here : get_or (first ++ rest) one.0 no_reading ≡ get_or first one.0 no_reading = get_or_append_left first rest no_reading one.0 one.1 in
        let there : get_or (first ++ rest) (length first + k) d ≡ get_or rest k d = get_or-append-add first rest k d in
        subst (λ (rs : List StripeReading). AllPairs (λ (a b : StripeReading). a.stripe ≢ b.stripe) rs) (sym all) distinct one.0 (length first + k) d (omega (arith, one.1)) (omega (arith, within, long))
        (ap (λ (r : StripeReading). r.stripe) (get_or_default (first ++ rest) one.0 d no_reading (omega (arith, one.1, long)) ∙ here) ∙ one.2 ∙ sym same ∙ ap (λ (r : StripeReading). r.stripe) (sym there)) in
        ap (λ (rs : List StripeReading). rows_of start rs stripe) (sym all)
        ∙ ap (λ (rows : Rows). rows stripe) (rows_append first rest no_rows)
        ∙ row_apart rest (rows_of start first) stripe apart ∙ is
  ]
    where
      no_some : (row : Row) → None ≡ Some row → ⊥
      no_some row is_none = cc

-- ---- pending stripes

range_distinct : (n : ℕ) → AllPairs (λ (a b : ℕ). a ≢ b) (range_with_len 0 n)
range_distinct n i j d less below same =
    let long : length (range_with_len 0 n) ≡ n = length-range_with_len 0 n in
    let at_i : get_or (range_with_len 0 n) i d ≡ 0 + i = get_or-range_with_len 0 n i d (omega (arith, less, below, long)) in
    let at_j : get_or (range_with_len 0 n) j d ≡ 0 + j = get_or-range_with_len 0 n j d (omega (arith, below, long)) in
    omega (arith, less, at_i, at_j, same)

not_synced : (mark : Mark) → is_pending mark ≡ true → mark ≡ Synced → ⊥
not_synced mark is same = absurd (let clash : false ≡ true = ap is_pending (sym same) ∙ is in cc)

module _ (start : TableValue) (readings : List StripeReading) (all : stripes_of readings ≡ pending_stripes start.infos) where
  pub stripe_is : (i : ℕ) (d : StripeReading) → i < length readings → (get_or readings i d).stripe ≡ get_or (pending_stripes start.infos) i 0
  stripe_is i d within = sym (get_or-map (λ (r : StripeReading). r.stripe) readings i d 0 within) ∙ ap (λ (ns : List ℕ). get_or ns i 0) all

  pub many : length (pending_stripes start.infos) ≡ length readings
  many = ap length (sym all) ∙ length-map readings (λ (r : StripeReading). r.stripe)

  pub distinct : AllPairs (λ (a b : StripeReading). a.stripe ≢ b.stripe) readings
  distinct i j d less below same =
      AllPairs-filter (λ (a b : ℕ). a ≢ b) (λ (stripe : ℕ). is_pending (info_at start.infos stripe).mark) (range_with_len 0 (length start.infos)) (range_distinct (length start.infos)) i j 0 less (omega (arith, below, many))
      (sym (stripe_is i d (omega (arith, less, below))) ∙ same ∙ stripe_is j d below)

  -- none of them is a stripe that the table calls synced
  apart_synced : (stripe : ℕ) → IsSynced start stripe → AreApart stripe readings
  apart_synced stripe synced k d within same =
      not_synced (info_at start.infos stripe).mark
      (subst (λ (s : ℕ). is_pending (info_at start.infos s).mark ≡ true) (sym (stripe_is k d within) ∙ same)
      (filter_passes (λ (s : ℕ). is_pending (info_at start.infos s).mark) (range_with_len 0 (length start.infos)) k 0 (omega (arith, within, many))))
      synced.mark

-- ---- places

rows_apart : (a b n : ℕ) → a < b → a * n + n ≤ b * n
rows_apart a b n less = row_fits a n b n less (omega arith)

pub outside : (n a b i : ℕ) → a ≢ b → b * n ≤ i → i < b * n + n → IsOutside n a i
outside n a b i other behind before = elim (cases_lt a b) [
  | inl less ↦ let fits : a * n + n ≤ b * n = rows_apart a b n less in inr (omega (arith, fits, behind))
  | inr more ↦ let less : b < a = omega (arith, other, more) in let fits : b * n + n ≤ a * n = rows_apart b a n less in inl (omega (arith, fits, before))
]

-- a byte below a length is kept where a file gets it
byte_resized : (file : List ℕ) (len i x : ℕ) → i < len → HasByte file i x → HasByte (resized file len) i x
byte_resized file len i x below has =
    let back : List ℕ = replicate (len - length file) 0 in
    let front : length (take len file) ≡ min len (length file) = length-take len file in
    let long : length (take len file ++ back) ≡ length (take len file) + length back = length-append (take len file) back in
    record {
      within = omega (arith, has.within, below, front, long);
      is = get_or_append_left (take len file) back 0 i (omega (arith, has.within, below, front)) ∙ get_or-take len file i 0 below ∙ has.is;
    }

-- ---- a table keeps its own stripes

same_itself : (seen : Option CellView) → SameBlock seen seen
same_itself None = tt
same_itself (Some cell) = (refl, refl, refl)

keeps_itself : (table : TableValue) → KeepsStripes table table
keeps_itself table = record { shape = refl; columns = refl; synced = λ stripe synced. synced; blocks = λ stripe d synced below. same_itself _ }

-- ---- the end of a sync

module _ (one_table : OneTable) (moments : MomentsAreSound) (run : SyncRun) (copies : ℕ) (old new : Files) (over : SyncsOver copies old run) (all : stripes_of run.readings ≡ pending_stripes run.plan.start.infos)
    (leaves : LeavesSynced run old new) (snapshot : Closed) (is_changed : ℕ → ℕ → Bool) (are : AreSound run.plan.copies old snapshot is_changed) where
  abbrev plan : SyncPlan
  plan = run.plan

  abbrev start : TableValue
  start = run.plan.start

  abbrev count : ℕ
  count = length run.readings

  abbrev rows : Rows
  rows = rows_after plan run.readings count

  long : length run.listed ≡ length start.columns
  long = over.listed.as_many ∙ over.listed.folders ∙ sym over.stands.keeps.columns

  whole : take count run.readings ≡ run.readings
  whole = take_all count run.readings (omega arith)

  rows_are : (stripe : ℕ) → rows stripe ≡ rows_of start run.readings stripe
  rows_are stripe = ap (λ (rs : List StripeReading). rows_of start rs stripe) whole

  -- a stripe that the laid out table calls synced got no row
  no_row : (stripe : ℕ) → IsSynced start stripe → rows stripe ≡ None
  no_row stripe synced = rows_are stripe ∙ row_apart start run.readings no_rows stripe (apart_synced start run.readings all stripe synced)

  snapshot_is : (stripe : ℕ) → IsSynced start stripe → last_row (snapshot_with rows snapshot) stripe ≡ last_row snapshot stripe
  snapshot_is stripe synced = ap (λ (row : Option Row). newest (in_front row (snapshot stripe))) (no_row stripe synced)

  changed_is : (stripe level : ℕ) → IsSynced start stripe → changed_without start.shape.levels rows is_changed stripe level ≡ is_changed stripe level
  changed_is stripe level synced = ap (λ (row : Option Row). if is_some row then changed_behind start.shape.levels is_changed stripe level else is_changed stripe level) (no_row stripe synced)

  -- copies of the laid out table, over the parity of the beginning
  abbrev laid_with : List (List ℕ) → Files
  laid_with parities = record { parities = parities; contents = replicate (plan.copies + length old.contents) (Some (spelling start)) }

  laid_spells : (parities : List (List ℕ)) (copy : ℕ) → copy < plan.copies + length old.contents → content_of (laid_with parities) copy ≡ Some (spelling start)
  laid_spells parities copy below = get_or-replicate (plan.copies + length old.contents) copy (Some (spelling start)) None below

  may_save : MaySave (spelling start) old (laid_with old.parities)
  may_save = record {
    parities = refl;
    contents = λ copy. elim (cases_lt copy (plan.copies + length old.contents)) [
      | inl below ↦ inr (laid_spells old.parities copy below)
      | inr past ↦
          let many : length (laid_with old.parities).contents ≡ plan.copies + length old.contents = length-replicate (plan.copies + length old.contents) (Some (spelling start)) in
          inl (get_or_past (laid_with old.parities).contents copy None (omega (arith, past, many)) ∙ sym (get_or_past old.contents copy None (omega (arith, past))))
    ];
  }

  -- they are sound
  laid_sound : (copy : ℕ) → copy < plan.copies → Sound start (laid_with old.parities) snapshot is_changed
  laid_sound copy below =
      let after = moments plan run.loaded [] (run.readings ++ run.ahead) run.listed run.ended old (laid_with old.parities) snapshot is_changed long over.listed.reads over.stands are (Opening may_save) in
      none_read after.count after.within (after.sound copy start below over.stands.laid (laid_spells old.parities copy (omega (arith, below))))
    where
      none_read : (n : ℕ) → n ≤ 0 → Sound start (laid_with old.parities) (snapshot_with (rows_after plan [] n) snapshot) (changed_without start.shape.levels (rows_after plan [] n) is_changed)
          → Sound start (laid_with old.parities) snapshot is_changed
      none_read zero none sound = sound
      none_read (suc n) none sound = absurd (omega (arith, none))

  -- and with the new rows too, also over the first levels alone
  abbrev laid : Files
  laid = laid_with (take start.shape.levels old.parities)

  level_is : (level : ℕ) → level < start.shape.levels → parity_of laid level ≡ parity_of old level
  level_is level below = get_or-take start.shape.levels old.parities level [] below

  laid_with_rows : AreSound plan.copies laid (snapshot_with rows snapshot) (changed_without start.shape.levels rows is_changed)
  laid_with_rows copy table below valid spells =
      let laid_out = laid_spells (take start.shape.levels old.parities) copy (omega (arith, below)) in
      subst (λ (t : TableValue). Sound t laid (snapshot_with rows snapshot) (changed_without start.shape.levels rows is_changed)) (sym (one_table table start (content_of laid copy) valid over.stands.laid spells laid_out)) with_rows
    where
      with_rows : Sound start laid (snapshot_with rows snapshot) (changed_without start.shape.levels rows is_changed)
      with_rows = let sound = laid_sound copy below in record {
        was_closed = λ stripe synced. subst (λ (row : Option Row). 0 < length (in_front row (snapshot stripe))) (sym (no_row stripe synced)) (sound.was_closed stripe synced);
        rows = λ stripe cells synced is. subst (λ (row : Row). HasCells start.shape cells row) (sym (snapshot_is stripe synced)) (sound.rows stripe cells synced is);
        sums = λ stripe level synced within unchanged.
            subst (λ (row : Row). HasLevel start.shape.block_size level stripe row (parity_of laid level)) (sym (snapshot_is stripe synced))
            (subst (HasLevel start.shape.block_size level stripe (last_row snapshot stripe)) (sym (level_is level within))
            (sound.sums stripe level synced within (sym (changed_is stripe level synced) ∙ unchanged)));
      }

  stands : (copy : ℕ) → copy < plan.copies → StandsOn plan start laid
  stands copy below = record {
    valid = over.stands.laid;
    is_loaded = inl (copy, below, laid_spells (take start.shape.levels old.parities) copy (omega (arith, below)));
    laid = over.stands.laid;
    keeps = keeps_itself start;
    in_time = over.stands.in_time;
  }

  -- the sync from there leaves what this one left
  keeps_synced : KeepsSynced start laid new
  keeps_synced = record {
    bytes = λ level i x is has. elim (cases_lt level start.shape.levels) [
      | inl below ↦ leaves.parity.others level i x below (out i is)
          (byte_resized (parity_of old level) (level_bytes start) i x (in_level i is) (subst (λ (file : List ℕ). HasByte file i x) (level_is level below) has))
      | inr past ↦
          let short : length (take start.shape.levels old.parities) ≡ min start.shape.levels (length old.parities) = length-take start.shape.levels old.parities in
          let none : parity_of laid level ≡ [] = get_or_past (take start.shape.levels old.parities) level [] (omega (arith, past, short)) in
          absurd (no_byte i x (subst (λ (file : List ℕ). HasByte file i x) none has))
    ];
  }
    where
      no_byte : (i x : ℕ) → HasByte [] i x → ⊥
      no_byte i x has = let within = has.within in omega (arith, within)

      in_level : (i : ℕ) → IsInSynced start i → i < level_bytes start
      in_level i is =
          let fits : is.stripe * start.shape.block_size + start.shape.block_size ≤ length start.infos * start.shape.block_size
          = rows_apart is.stripe (length start.infos) start.shape.block_size is.synced.within in
          omega (arith, fits, is.before)

      out : (i : ℕ) → IsInSynced start i → IsOutsideRows start.shape.block_size rows i
      out i is stripe row has = outside start.shape.block_size stripe is.stripe i (λ same.
          none_some row (sym (no_row is.stripe is.synced) ∙ subst (λ (s : ℕ). rows s ≡ Some row) same has)) is.behind is.before
        where
          none_some : (row : Row) → None ≡ Some row → ⊥
          none_some row clash = cc

  moment : MayStand plan run.readings laid new
  moment = AtWork count count (record {
    order = omega arith;
    within = omega arith;
    copies = λ copy below. inl (leaves.saved copy below ∙ ap (λ (rs : List StripeReading). Some (spelling (closed plan.now start rs))) (sym whole));
    rows = leaves.parity.rows_held;
    kept = keeps_synced;
  })

  -- so whichever number of the stripes it is known for, the rows of all count
  same_row : (some stripe : ℕ) → last_row (snapshot_with (rows_after plan run.readings some) (snapshot_with rows snapshot)) stripe ≡ last_row (snapshot_with rows snapshot) stripe
  same_row some stripe = by (rows_after plan run.readings some stripe) refl
    where
      by : (found : Option Row) → rows_after plan run.readings some stripe ≡ found → newest (in_front found (snapshot_with rows snapshot stripe)) ≡ last_row (snapshot_with rows snapshot) stripe
      by None is = refl
      by (Some row) is = sym (ap (λ (found : Option Row). newest (in_front found (snapshot stripe))) (rows_are stripe ∙ row_stays start run.readings (distinct start run.readings all) some stripe row is))

  -- a stripe that has a row with the rows of some once more, has one without
  closed_before : (some stripe : ℕ) → 0 < length (snapshot_with (rows_after plan run.readings some) (snapshot_with rows snapshot) stripe) → 0 < length (snapshot_with rows snapshot stripe)
  closed_before some stripe has = by (rows_after plan run.readings some stripe) refl has
    where
      by : (found : Option Row) → rows_after plan run.readings some stripe ≡ found → 0 < length (in_front found (snapshot_with rows snapshot stripe)) → 0 < length (snapshot_with rows snapshot stripe)
      by None is there = there
      by (Some row) is there =
          subst (λ (found : Option Row). 0 < length (in_front found (snapshot stripe)))
          (sym (rows_are stripe ∙ row_stays start run.readings (distinct start run.readings all) some stripe row is)) (one_more row (snapshot stripe))

  unchanged_so : (some stripe level : ℕ) → changed_without start.shape.levels rows is_changed stripe level ≡ false → changed_without start.shape.levels (rows_after plan run.readings some) (changed_without start.shape.levels rows is_changed) stripe level ≡ false
  unchanged_so some stripe level is = by (rows_after plan run.readings some stripe)
    where
      by : (found : Option Row) → (if is_some found then changed_behind start.shape.levels (changed_without start.shape.levels rows is_changed) stripe level else changed_without start.shape.levels rows is_changed stripe level) ≡ false
      by None = is
      by (Some row) = behind_unchanged start.shape.levels (changed_without start.shape.levels rows is_changed) stripe level is

  with_all : (table : TableValue) (some : ℕ)
      → Sound table new (snapshot_with (rows_after plan run.readings some) (snapshot_with rows snapshot)) (changed_without start.shape.levels (rows_after plan run.readings some) (changed_without start.shape.levels rows is_changed))
      → Sound table new (snapshot_with rows snapshot) (changed_without start.shape.levels rows is_changed)
  with_all table some sound = record {
    was_closed = λ stripe synced. closed_before some stripe (sound.was_closed stripe synced);
    rows = λ stripe cells synced is. subst (λ (row : Row). HasCells table.shape cells row) (same_row some stripe) (sound.rows stripe cells synced is);
    sums = λ stripe level synced within unchanged.
        subst (λ (row : Row). HasLevel table.shape.block_size level stripe row (parity_of new level)) (same_row some stripe)
        (sound.sums stripe level synced within (unchanged_so some stripe level unchanged));
  }

  pub all_count : AreSound plan.copies new (snapshot_with rows snapshot) (changed_without start.shape.levels rows is_changed)
  all_count copy table below valid spells =
      let after = moments plan start run.readings run.ahead run.listed run.ended laid new (snapshot_with rows snapshot) (changed_without start.shape.levels rows is_changed) long over.listed.reads (stands copy below) laid_with_rows moment in
      with_all table after.count (after.sound copy table below valid spells)
