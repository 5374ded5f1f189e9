-- Where every copy spells the table of all that a sync read, the rows that parity has are those of all: behind them nothing was verified.
use Rattle.std.proofs.Common.{◌≡◌, ◌≢◌, ◌↔◌, inl, inr, ⊎_elim, ℕ, zero, suc, ◌+◌, ◌<◌, ◌≤◌, ◌==◌, List, [], ◌∷◌, length, take, drop, get_or, Bool, true, false, All, if◌then◌else◌, Option, None, Some, Result, Ok, Err, refl, sym, ap, ◌∙◌, subst, arith, nat_lt}
use Rattle.std.specs.List.{AllPairs, Contains, filter}
use Rattle.std.proofs.lemmas.Bool.Decides.{Decides-eqb}
use Rattle.std.proofs.lemmas.List.{get_or-drop, get_or-map, get_or-take, get_or_default, length-drop, length-map, length-take, take-append-drop, take_all}
use Rattle.std.proofs.lemmas.List.Elements.{All-filter}
use Rattle.array_scan.specs.Layout.{pending_stripes}
use Rattle.content_file.specs.Save.{HasSaved}
use Rattle.content_file.specs.Spelling.{spelling}
use Rattle.disk_model.specs.Files.{Files, content_of}
use Rattle.file_table.specs.Table.{TableValue}
use Rattle.file_table.specs.Valid.{IsValid}
use Rattle.parity_writer.specs.Parity.{Rows, no_rows, with_row}
use Rattle.snap_config.specs.Builder.{BuilderValue, no_lines}
use Rattle.snap_config.specs.Config.{Refusal, at_line, finish, lacks_level, read_lines, read_setup, setup_of, then_read}
use Rattle.snap_config.specs.Line.{lines_of}
use Rattle.array_setup.specs.Setup.{SetupValue}
use Rattle.snap_config.specs.declared.why.Why.TheVariants.{NoContent, NoData, NoParity, TooLong}
use Rattle.snap_sync.specs.Calls.{no_reading}
use Rattle.snap_sync.specs.Closing.{closed, rows_of, rows_with}
use Rattle.snap_sync.specs.Images.{StandsBy, rows_after}
use Rattle.snap_sync.specs.Part.{IsToldRun, SyncRun, layout_by, run_table, run_trees, run_verified}
use Rattle.stripe_findings.specs.Reading.{StripeReading, is_verified, row_of, stripes_of}
use Rattle.snap_top.specs.Sync.{BeginsAmong, SyncsOver, end_table}
use Rattle.snap_top.proofs.KeptLemmas.{kept_in, made_in}
use Rattle.snap_top.proofs.MomentLemmas.{LayoutIsOfTrees}
use Rattle.snap_top.proofs.OneSizeLemmas.{SavesValidTables}
use Rattle.snap_top.proofs.SyncedLemmas.{AreApart, OneTable, distinct, many, row_apart, rows_append, step, stripe_is}

-- what snap_sync says of what is left to be read, and of a saved table that is laid out again
abbrev pub WhatIsLeft : Type 0
WhatIsLeft = (run : SyncRun) (count : ℕ) → IsToldRun run → count ≤ length run.readings → (stripe : ℕ)
    → (Contains (pending_stripes (run_table run count).infos) stripe ↔ (Contains (pending_stripes run.plan.start.infos) stripe × (¬ (Contains (run_verified run count) stripe))))

abbrev pub IsLaidAsItIs : Type 0
IsLaidAsItIs = (run : SyncRun) (count : ℕ) → IsToldRun run → IsValid (run_table run count) → layout_by run.setup (run_table run count) (run_trees run) ≡ run_table run count

-- ---- lists

-- where none of them is of a stripe, the stripe is not among theirs
apart_not : (readings : List StripeReading) (stripe : ℕ) → AreApart stripe readings → ¬ (Contains (stripes_of readings) stripe)
apart_not readings stripe apart has =
    let long : length (stripes_of readings) ≡ length readings = length-map readings (λ (r : StripeReading). r.stripe) in
    let within : has.0 < length readings = omega (arith, has.1, long) in
    apart has.0 no_reading within (sym (get_or-map (λ (r : StripeReading). r.stripe) readings has.0 no_reading stripe within) ∙ has.2)

-- ---- rows

module _ (start : TableValue) where
  -- those that are not verified give none
  rows_none : (xs : List StripeReading) (rows : Rows) → All (λ (r : StripeReading). is_verified start r ≡ false) xs → rows_with start xs rows ≡ rows
  rows_none [] rows none = refl
  rows_none (x ∷ xs) rows none =
      ap (λ (b : Bool). rows_with start xs (if b then with_row x.stripe (row_of x) rows else rows)) (none 0 x (omega arith)) ∙ rows_none xs rows (λ k d within. none (suc k) d (omega (arith, within)))

  -- one that is verified gives its row
  row_read : (xs : List StripeReading) → AllPairs (λ (a b : StripeReading). a.stripe ≢ b.stripe) xs → (rows : Rows) (i : ℕ) (d : StripeReading) → i < length xs → is_verified start (get_or xs i d) ≡ true
      → rows_with start xs rows (get_or xs i d).stripe ≡ Some (row_of (get_or xs i d))
  row_read [] apart rows i d within is = absurd (omega (arith, within))
  row_read (x ∷ xs) apart rows zero d within is =
      row_apart start xs (step start x rows) x.stripe (λ k e below same. apart 0 (suc k) e (omega arith) (omega (arith, below)) (sym same))
      ∙ ap (λ (b : Bool). (if b then with_row x.stripe (row_of x) rows else rows) x.stripe) is
      ∙ ap (λ (same : Bool). if same then Some (row_of x) else rows x.stripe) ((Decides-eqb x.stripe x.stripe).1 refl)
  row_read (x ∷ xs) apart rows (suc i) d within is =
      row_read xs (λ a b e less below. apart (suc a) (suc b) e (omega (arith, less)) (omega (arith, below))) (step start x rows) i d (omega (arith, within)) is

-- ---- a configuration names a content file

has_content : (log : Option (List ℕ)) (builder : BuilderValue) (setup : SetupValue) → at_line 0 (finish log builder) ≡ Ok setup → 0 < length setup.contents
has_content log builder setup is = by (lacks_level builder.parities) (length builder.contents == 0) (length builder.disks == 0) refl is
  where
    positive : (n : ℕ) → (n == 0) ≡ false → 0 < n
    positive zero none = absurd cc
    positive (suc n) some = omega arith

    by : (lacks none no_disk : Bool) → (length builder.contents == 0) ≡ none
        → at_line 0 (if lacks then Err NoParity else if none then Err NoContent else if no_disk then Err NoData else Ok (setup_of log builder)) ≡ Ok setup → 0 < length setup.contents
    by true none no_disk at it = absurd cc
    by false true no_disk at it = absurd cc
    by false false true at it = absurd cc
    by false false false at it =
        let same : setup_of log builder ≡ setup = cc in
        subst (λ (s : SetupValue). 0 < length s.contents) same (positive (length builder.contents) at)

pub some_content : (bytes : List ℕ) (log : Option (List ℕ)) (setup : SetupValue) → read_setup bytes log ≡ Ok setup → 0 < length setup.contents
some_content bytes log setup is = by (nat_lt 1048576 (length bytes)) is
  where
    from : (read : Result BuilderValue Refusal) → then_read read (λ builder. at_line 0 (finish log builder)) ≡ Ok setup → 0 < length setup.contents
    from (Ok builder) it = has_content log builder setup it
    from (Err why) it = absurd cc

    by : (b : Bool) → (if b then Err (record { line = 0; why = TooLong }) else then_read (read_lines 1 no_lines (lines_of bytes)) (λ builder. at_line 0 (finish log builder))) ≡ Ok setup
        → 0 < length setup.contents
    by true it = absurd cc
    by false it = from (read_lines 1 no_lines (lines_of bytes)) it

-- ---- a sync whose table every copy spells

module _ (left : WhatIsLeft) (laid_again : IsLaidAsItIs) (laid : LayoutIsOfTrees) (saves_valid : SavesValidTables) (one_table : OneTable) (run : SyncRun) (copies : ℕ) (seed : List ℕ) (old new : Files)
    (over : SyncsOver copies old run) (told : IsToldRun run) (begins : BeginsAmong run.setup seed copies old run.loaded) (all : stripes_of run.readings ≡ pending_stripes run.plan.start.infos) where
  abbrev start : TableValue
  start = run.plan.start

  abbrev n : ℕ
  n = length run.readings

  whole : take n run.readings ≡ run.readings
  whole = take_all n run.readings (omega arith)

  end_is : run_table run n ≡ end_table run
  end_is = ap (closed run.plan.now start) whole

  valid_after : (k : ℕ) → k ≤ n → IsValid (run_table run k)
  valid_after k within =
      saves_valid run.plan run.readings run.ahead run.listed run.ended k (over.listed.as_many ∙ over.listed.folders ∙ sym over.stands.keeps.columns) over.listed.reads over.stands.laid over.stands.in_time within

  -- where the table after some stripes is that after all, none is verified behind them
  none_behind : (k : ℕ) → k ≤ n → run_table run k ≡ run_table run n → (i : ℕ) (d : StripeReading) → k ≤ i → i < n → is_verified start (get_or run.readings i d) ≡ false
  none_behind k k_in same i d behind within = by (is_verified start (get_or run.readings i d)) refl
    where
      s : ℕ
      s = (get_or run.readings i d).stripe

      among : Contains (pending_stripes start.infos) s
      among =
          let long = many start run.readings all in
          (i, omega (arith, within, long), get_or_default (pending_stripes start.infos) i s 0 (omega (arith, within, long)) ∙ sym (stripe_is start run.readings all i d within))

      verified_in_all : is_verified start (get_or run.readings i d) ≡ true → Contains (run_verified run n) s
      verified_in_all is = subst (λ (rs : List StripeReading). Contains (stripes_of (filter (is_verified start) rs)) s) (sym whole)
          (made_in (λ (r : StripeReading). r.stripe) (filter (is_verified start) run.readings) (get_or run.readings i d)
          (kept_in (is_verified start) run.readings (get_or run.readings i d) (i, within, get_or_default run.readings i (get_or run.readings i d) d within) is))

      -- it is of no stripe that was read before
      apart_before : AreApart s (take k run.readings)
      apart_before m e below same =
          let long = length-take k run.readings in
          distinct start run.readings all m i d (omega (arith, below, behind, long)) within
          (ap (λ (r : StripeReading). r.stripe) (get_or_default run.readings m d e (omega (arith, below, long, k_in)) ∙ sym (get_or-take k run.readings m e (omega (arith, below, long)))) ∙ same)

      not_before : ¬ (Contains (run_verified run k) s)
      not_before = apart_not (filter (is_verified start) (take k run.readings)) s (All-filter (is_verified start) (λ (r : StripeReading). r.stripe ≢ s) (take k run.readings) apart_before)

      clash : is_verified start (get_or run.readings i d) ≡ true → ⊥
      clash is =
          let is_open : Contains (pending_stripes (run_table run k).infos) s = (left run k told k_in s).1 (among, not_before) in
          let still : Contains (pending_stripes (run_table run n).infos) s = subst (λ (t : TableValue). Contains (pending_stripes t.infos) s) same is_open in
          ((left run n told (omega arith) s).0 still).1 (verified_in_all is)

      by : (b : Bool) → is_verified start (get_or run.readings i d) ≡ b → is_verified start (get_or run.readings i d) ≡ false
      by false is = is
      by true is = absurd (clash is)

  -- and then the rows of any more of them are those of all
  same_rows : (k : ℕ) → k ≤ n → run_table run k ≡ run_table run n → (m : ℕ) → k ≤ m → m ≤ n → rows_after run.plan run.readings m ≡ rows_after run.plan run.readings n
  same_rows k k_in same m more m_in = sym (
      ap (rows_of start) whole
      ∙ ap (rows_of start) (sym (take-append-drop m run.readings))
      ∙ rows_append start (take m run.readings) (drop m run.readings) no_rows
      ∙ rows_none start (drop m run.readings) (rows_of start (take m run.readings)) (λ i d within.
      let long = length-drop m run.readings in
      subst (λ (r : StripeReading). is_verified start r ≡ false) (sym (get_or-drop m run.readings i d))
      (none_behind k k_in same (m + i) d (omega (arith, more)) (omega (arith, within, long)))))

  -- a copy that spells both spells one table
  pub all_closed : 0 < copies → HasSaved copies (spelling (end_table run)) new → (count : ℕ) → StandsBy run.plan run.readings count old new
      → rows_after run.plan run.readings count ≡ rows_after run.plan run.readings n
  all_closed some saved count (inr (c, work)) = ⊎_elim
      (λ first. same_rows c (omega (arith, work.order, work.within)) (one_table (run_table run c) (run_table run n) (content_of new 0) (valid_after c (omega (arith, work.order, work.within))) (valid_after n (omega arith)) first (spelled 0 some)) count work.order work.within)
      (λ second. same_rows count work.within (one_table (run_table run count) (run_table run n) (content_of new 0) (valid_after count work.within) (valid_after n (omega arith)) second (spelled 0 some)) count (omega arith) work.within)
      (work.copies 0 (omega (arith, some, over.copies_are)))
    where
      spelled : (copy : ℕ) → copy < copies → content_of new copy ≡ Some (spelling (run_table run n))
      spelled copy below = saved copy below ∙ ap (λ (t : TableValue). Some (spelling t)) (sym end_is)
  all_closed some saved count (inl (none, saves)) =
      ap (rows_after run.plan run.readings) none ∙ same_rows 0 (omega arith) (starts begins) 0 (omega arith) (omega arith)
    where
      spelled : (copy : ℕ) → copy < copies → content_of new copy ≡ Some (spelling (run_table run n))
      spelled copy below = saved copy below ∙ ap (λ (t : TableValue). Some (spelling t)) (sym end_is)

      by_start : (copy : ℕ) → copy < copies → content_of new copy ≡ Some (spelling start) → start ≡ run_table run n
      by_start copy below is = one_table start (run_table run n) (content_of new copy) over.stands.laid (valid_after n (omega arith)) is (spelled copy below)

      by_loaded : run.loaded ≡ run_table run n → start ≡ run_table run n
      by_loaded same = laid run told ∙ ap (λ (t : TableValue). layout_by run.setup t (run_trees run)) same ∙ laid_again run n told (valid_after n (omega arith))

      no_bytes : (bytes : List ℕ) (found : Option (List ℕ)) → found ≡ None → found ≡ Some bytes → ⊥
      no_bytes bytes found is also = let clash : None ≡ Some bytes = sym is ∙ also in cc

      starts : BeginsAmong run.setup seed copies old run.loaded → run_table run 0 ≡ run_table run n
      starts (inl (copy, below, spells)) = ⊎_elim
          (λ same. by_loaded (one_table run.loaded (run_table run n) (content_of new copy) over.stands.valid (valid_after n (omega arith)) (same ∙ spells) (spelled copy below)))
          (λ is. by_start copy below is)
          (saves.contents copy)
      starts (inr (no_copy, empty)) = ⊎_elim
          (λ same. absurd (no_bytes (spelling (run_table run n)) (content_of new 0) (same ∙ no_copy 0 some) (spelled 0 some)))
          (λ is. by_start 0 some is)
          (saves.contents 0)

  -- the row of each that is verified
  pub row_given : (i : ℕ) (d : StripeReading) → i < n → is_verified start (get_or run.readings i d) ≡ true
      → rows_after run.plan run.readings n (get_or run.readings i d).stripe ≡ Some (row_of (get_or run.readings i d))
  row_given i d within is =
      ap (λ (rs : List StripeReading). rows_of start rs (get_or run.readings i d).stripe) whole
      ∙ row_read start run.readings (distinct start run.readings all) no_rows i d within is
