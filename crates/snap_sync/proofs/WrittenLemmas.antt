-- A window is written.
use Rattle.std.proofs.Common.{◌≡◌, ◌≢◌, inl, ⊎_elim, ℕ, zero, suc, ◌+◌, ◌*◌, ◌<◌, ◌≤◌, List, ◌++◌, length, take, get_or, true, false, None, Some, IsTrue, refl, sym, ◌∙◌, ap, ap₂, subst, length-append, arith}
use Rattle.std.proofs.lemmas.List.{take-append-le, get_or-take, length-take}
use Rattle.std.proofs.lemmas.Nat.{row_fits}
use Rattle.std.proofs.Math.Seq.{take-length}
use Rattle.disk_model.specs.Files.{Files}
use Rattle.disk_model.specs.Ran.{RanAll, RanUpTo, log_of}
use Rattle.disk_model.specs.Vault.{VaultView, VaultCall, IsWellFormed, SomeCalls, ChangesBy, Reads, Holds, state_of}
use Rattle.disk_model.proofs.VaultLemmas.{calls_then}
use Rattle.file_table.specs.Table.{TableValue}
use Rattle.content_file.specs.Save.{HasSaved}
use Rattle.content_file.specs.Spelling.{spelling}
use Rattle.parity_writer.specs.Chosen.{Choice, IsChosen, window_calls, rows_with as window_rows}
use Rattle.parity_writer.specs.Parity.{Row, Rows, no_rows, HoldsRows, WritesBlocks}
use Rattle.parity_writer.specs.Sound.{IsSynced}
use Rattle.stripe_reader.specs.WindowValue.{WindowValue}
use Rattle.snap_sync.specs.Calls.{SyncPlan, RanOpened, level_bytes, no_reading, stripe_calls}
use Rattle.snap_sync.specs.Closing.{closed, rows_of, rows_with}
use Rattle.snap_sync.specs.Images.{IsInSynced, MayStand, AtWork, HasParityAfter, HasParity, table_after, rows_after}
use Rattle.stripe_findings.specs.Reading.{StripeReading}
use Rattle.snap_sync.specs.Work.{IsPlanFor, VaultBroke}
use Rattle.snap_sync.proofs.BrokeLemmas.{broke_after}
use Rattle.snap_sync.proofs.StepLemmas.{changes_by, holds_on}
use Rattle.snap_sync.proofs.OpenedLemmas.{opened_then}
use Rattle.snap_sync.proofs.OpeningLemmas.{kept_then, saved_kept}
use Rattle.snap_sync.proofs.RowsLemmas.{HasRow, rows_append, rows_stay, verified_has_row, row_is_of, IsWindowOf, window_rows_are, other_rows_kept, synced_kept, parity_more}
use Rattle.snap_sync.proofs.CallsLemmas.{behind}
use Rattle.snap_sync.proofs.PendingLemmas.{AreNext, next_below, next_not_synced, next_differs}
use Rattle.snap_sync.proofs.StandLemmas.{Stands, IsWritten, IsStopped, kept_of_stand, stand_longer, front_of_all}

module _ (plan : SyncPlan) (readings ws : List StripeReading) (window : WindowValue) (choice : Choice) (c : ℕ) (old mid new : VaultView) (for : IsPlanFor plan old) (of : IsWindowOf plan.start ws window choice)
    (next : AreNext plan.start readings choice.stripes) (under : Stands plan readings c old mid) (formed : IsWellFormed new) (calls : SomeCalls mid new)
    (changes : ChangesBy (WritesBlocks window.block_size (IsChosen choice)) mid new) where
  abbrev start : TableValue
  start = plan.start

  abbrev size : ℕ
  size = start.shape.block_size

  abbrev Writes : Files → Files → Type 0
  Writes = WritesBlocks size (IsChosen choice)

  writes : ChangesBy Writes mid new
  writes = subst (λ (n : ℕ). ChangesBy (WritesBlocks n (IsChosen choice)) mid new) of.block_size changes

  here : (t : ℕ) → (one : IsChosen choice t) → one.i < length ws
  here t one = omega (arith, one.within, of.as_many)

  not_read : (s : ℕ) (row : Row) → rows_after plan readings c s ≡ Some row → (t : ℕ) → IsChosen choice t → s ≢ t
  not_read s row is t one same = ⊎_elim
      (λ there.
      let count = length-take c readings in
      let before : there.0 < c = omega (arith, there.1, count) in
      let within : there.0 < length readings = omega (arith, there.1, count) in
      let stripe : (get_or readings there.0 no_reading).stripe ≡ s = ap (λ (reading : StripeReading). reading.stripe) (sym (get_or-take c readings there.0 no_reading before)) ∙ there.2 in
      next_differs start readings choice.stripes next there.0 one.i within one.within (stripe ∙ same ∙ sym one.stripe_is))
      (λ none. no none)
      (row_is_of start (take c readings) no_rows s row is)
    where
      no : None ≡ Some row → ⊥
      no none = cc

  not_synced : (t : ℕ) → IsChosen choice t → (i : ℕ) → (is : IsInSynced start i) → is.stripe ≢ t
  not_synced t one i is same = next_not_synced start readings choice.stripes next one.i one.within (subst (λ (s : ℕ). IsSynced start s) (same ∙ sym one.stripe_is) is.synced)

  abbrev Known : Files → Type 0
  Known files = HasSaved plan.copies (spelling (table_after plan readings c)) files × HoldsRows start.shape.levels size (rows_after plan readings c) files

  known : Holds Known mid
  known = record { reads = λ told. (under.copies.reads told, under.rows.reads told); leaves = λ told files left. (under.copies.leaves told files left, under.rows.leaves told files left) }

  known_on : (a b : Files) → Known a → Writes a b → Known b
  known_on a b has it = (
    saved_kept plan.copies (spelling (table_after plan readings c)) a b has.0 it.keeps.contents,
    other_rows_kept size (IsChosen choice) a b it start.shape.levels (rows_after plan readings c) not_read has.1,
  )

  at_work : (a b d : Files) → MayStand plan readings a b → Known b → Writes b d → MayStand plan readings a d
  at_work a b d stood has it =
      let still = known_on b d has it in
      AtWork c c (record {
        order = omega arith;
        within = under.order;
        copies = λ copy below. inl (still.0 copy below);
        rows = still.1;
        kept = kept_then start a b d (kept_of_stand plan readings a b stood) (synced_kept size (IsChosen choice) b d it start refl not_synced);
      })

  writing_stands : ChangesBy (MayStand plan (readings ++ ws)) old new
  writing_stands = changes_by (MayStand plan readings) Writes (MayStand plan (readings ++ ws)) Known old mid new formed
      (λ told a b stood. stand_longer plan readings ws a b stood)
      (λ told a b d stood has it. stand_longer plan readings ws a d (at_work a b d stood has it))
      under.calls calls under.changes known writes

  known_now : Holds Known new
  known_now = holds_on Writes Known Known mid new calls known_on writes known

  -- the calls
  as_before : (levels : ℕ) → levels ≡ start.shape.levels → (count : ℕ) → count ≡ length ws → window_calls levels window choice count ≡ window_calls start.shape.levels window choice (length ws)
  as_before levels levels_are count count_is = ap₂ (λ (l n : ℕ). window_calls l window choice n) levels_are count_is

  levels_are : mid.levels ≡ start.shape.levels
  levels_are = under.calls.goes_on.levels ∙ for.levels

  abbrev so_far : List VaultCall
  so_far = stripe_calls plan readings (length readings) ++ window_calls start.shape.levels window choice (length ws)

  -- a call of it failed
  pub stopped_writing : RanOpened plan (stripe_calls plan readings (length readings)) false (state_of old) (log_of (state_of mid))
      → (whole : so_far ++ behind plan (readings ++ ws) (length (readings ++ ws)) ≡ stripe_calls plan (readings ++ ws) (length (readings ++ ws)))
      → (count : ℕ) → count ≡ length ws → RanUpTo (window_calls mid.levels window choice count) (log_of (state_of mid)) (log_of (state_of new)) → VaultBroke mid new → IsStopped plan (readings ++ ws) old new
  stopped_writing before whole count count_is up broke = record {
    calls = calls_then old mid new under.calls calls;
    ran =
        front_of_all plan (readings ++ ws) so_far (behind plan (readings ++ ws) (length (readings ++ ws))) old new whole
        (opened_then plan (stripe_calls plan readings (length readings)) (window_calls start.shape.levels window choice (length ws)) true (state_of old) (log_of (state_of mid)) (log_of (state_of new))
        before (subst (λ cs. RanUpTo cs (log_of (state_of mid)) (log_of (state_of new))) (as_before mid.levels levels_are count count_is) up));
    broke = broke_after old mid new under.calls calls broke;
    changes = writing_stands;
  }

  -- all of it went well
  pub written : RanOpened plan (stripe_calls plan readings (length readings)) false (state_of old) (log_of (state_of mid))
      → (whole : so_far ++ behind plan (readings ++ ws) (length (readings ++ ws)) ≡ stripe_calls plan (readings ++ ws) (length (readings ++ ws)))
      → (count : ℕ) → count ≡ length ws → RanAll (window_calls mid.levels window choice count) (log_of (state_of mid)) (log_of (state_of new))
      → ((rows : Rows) → Reads (HoldsRows mid.levels window.block_size rows) mid → Reads (HoldsRows mid.levels window.block_size (window_rows window choice count rows)) new) → IsWritten plan (readings ++ ws) c old new
  written before whole count count_is ran holds = record {
    stands = record {
      order = omega (arith, under.order, length-append readings ws);
      calls = calls_then old mid new under.calls calls;
      changes = writing_stands;
      copies = record {
        reads = λ told copy below. (known_now.reads told).0 copy below ∙ same_table;
        leaves = λ told files left copy below. (known_now.leaves told files left).0 copy below ∙ same_table;
      };
      rows = record {
        reads = λ told. subst (λ (xs : List StripeReading). HoldsRows start.shape.levels size (rows_of start xs) new.files) (sym firsts) (known_now.reads told).1;
        leaves = λ told files left. subst (λ (xs : List StripeReading). HoldsRows start.shape.levels size (rows_of start xs) files) (sym firsts) (known_now.leaves told files left).1;
      };
      parity = parity_now;
    };
    so_far = so_far;
    whole = whole;
    ran = opened_then plan (stripe_calls plan readings (length readings)) (window_calls start.shape.levels window choice (length ws)) false (state_of old) (log_of (state_of mid)) (log_of (state_of new))
        before (subst (λ cs. RanAll cs (log_of (state_of mid)) (log_of (state_of new))) (as_before mid.levels levels_are count count_is) ran);
  }
    where
      firsts : take c (readings ++ ws) ≡ take c readings
      firsts = take-append-le c readings ws under.order

      same_table : Some (spelling (table_after plan readings c)) ≡ Some (spelling (table_after plan (readings ++ ws) c))
      same_table = ap (λ (xs : List StripeReading). Some (spelling (closed plan.now start xs))) (sym firsts)

      -- the rows of all stripes that were read by now
      all_rows : window_rows window choice count (rows_after plan readings (length readings)) ≡ rows_of start (readings ++ ws)
      all_rows =
          ap₂ (λ (n : ℕ) (xs : List StripeReading). window_rows window choice n (rows_of start xs)) count_is (take-length readings)
          ∙ window_rows_are start ws window choice of (rows_of start readings) (length ws) (omega arith)
          ∙ ap (λ (xs : List StripeReading). rows_with start xs (rows_of start readings)) (take-length ws)
          ∙ sym (rows_append start readings ws no_rows)

      sizes : (rows : Rows) (files : Files) → HoldsRows start.shape.levels size rows files → HoldsRows mid.levels window.block_size rows files
      sizes rows files has = subst (λ (l : ℕ). HoldsRows l window.block_size rows files) (sym levels_are) (subst (λ (n : ℕ). HoldsRows start.shape.levels n rows files) (sym of.block_size) has)

      back : (rows : Rows) (files : Files) → HoldsRows mid.levels window.block_size rows files → HoldsRows start.shape.levels size rows files
      back rows files has = subst (λ (l : ℕ). HoldsRows l size rows files) levels_are (subst (λ (n : ℕ). HoldsRows mid.levels n rows files) of.block_size has)

      some_size : (n bytes : ℕ) → 0 < n * bytes → 0 < bytes
      some_size n zero full = absurd (omega (arith, full))
      some_size n (suc bytes) full = omega arith

      end_of : (t : ℕ) → IsChosen choice t → t * size + size ≤ level_bytes start
      end_of t one = row_fits t size (length start.infos) size (subst (λ (s : ℕ). s < length start.infos) one.stripe_is (next_below start readings choice.stripes next one.i one.within)) (omega arith)

      has_row : (t : ℕ) → IsChosen choice t → HasRow (rows_of start (readings ++ ws)) t
      has_row t one =
          let verified = sym (of.chosen one.i (here t one)) ∙ one.chosen in
          let stripe = sym (of.stripes one.i (here t one)) ∙ one.stripe_is in
          subst (λ (rows : Rows). HasRow rows t) (sym (rows_append start readings ws no_rows))
          (subst (λ (s : ℕ). HasRow (rows_with start ws (rows_of start readings)) s) stripe (verified_has_row start ws (rows_of start readings) one.i (here t one) verified))

      row_still : (s : ℕ) → HasRow (rows_after plan readings (length readings)) s → HasRow (rows_of start (readings ++ ws)) s
      row_still s has =
          subst (λ (rows : Rows). HasRow rows s) (sym (rows_append start readings ws no_rows))
          (rows_stay start ws (rows_of start readings) s (subst (λ (xs : List StripeReading). HasRow (rows_of start xs) s) (take-length readings) has))

      parity_now : Reads (HasParityAfter plan (readings ++ ws) (length (readings ++ ws)) old.files) new
      parity_now told =
          let was : IsTrue mid.tells = sym calls.goes_on.tells ∙ told in
          let before_it = under.parity was in
          let held = back (window_rows window choice count (rows_after plan readings (length readings))) new.files (holds (rows_after plan readings (length readings)) (λ t. sizes (rows_after plan readings (length readings)) mid.files (under.parity t).rows_held) told) in
          subst (λ (xs : List StripeReading). HasParity start.shape.levels size (level_bytes start) (rows_of start xs) old.files new.files) (sym (take-length (readings ++ ws)))
          (parity_more size (IsChosen choice) mid.files new.files (writes.reads was) start.shape.levels (level_bytes start) old.files (rows_after plan readings (length readings)) (rows_of start (readings ++ ws))
          before_it (subst (λ (rows : Rows). HoldsRows start.shape.levels size rows new.files) all_rows held)
          (some_size (length start.infos) size) end_of has_row row_still)
