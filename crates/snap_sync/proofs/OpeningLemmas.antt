-- A sync that opens: the laid out table is saved, and then the levels get their lengths.
use Rattle.std.proofs.Common.{◌≡◌, ℕ, ◌<◌, ◌==◌, List, [], ◌∷◌, ◌++◌, length, map, get_or, All, Bool, true, false, if◌then◌else◌, Option, None, Some, IsTrue, Result, Ok, Err, is_err, OnOk, OnErr, inl, refl, sym, ◌∙◌, ap, ap₂, subst, arith}
use Rattle.std.specs.List.{range_with_len, flat_map}
use Rattle.std.proofs.lemmas.List.{append-nil}
use Rattle.std.proofs.lemmas.List.Elements.{All-append, All-nil, All-cons, All-head, All-tail}
use Rattle.std.proofs.lemmas.Nat.{row_fits}
use Rattle.disk_model.specs.Bytes.{resized}
use Rattle.disk_model.specs.Answer.{is_failure}
use Rattle.disk_model.specs.Calls.{WentWell, WentWellAs, Makes, FailsBy, MakesThese, FailsAmong}
use Rattle.disk_model.specs.Files.{Files, parity_of}
use Rattle.disk_model.specs.Ran.{RanAll, RanLog, RanUpTo, log_of}
use Rattle.disk_model.specs.Vault.{VaultView, VaultCall, VaultDone, VaultOutcome, ParityLen, ParitySetLen, IsWellFormed, SomeCalls, ChangesBy, Reads, Holds, copies_of, state_of}
use Rattle.disk_model.specs.declared.fault.Failed.{Failed}
use Rattle.disk_model.proofs.RanLemmas.{ran_then, ran_front, ran_of_these, ran_of_among}
use Rattle.disk_model.proofs.VaultLemmas.{calls_then}
use Rattle.disk_model.proofs.BytesLemmas.{length-resized}
use Rattle.file_table.specs.Table.{TableValue}
use Rattle.content_file.specs.Save.{MaySave, HasSaved, piecewise_calls}
use Rattle.content_file.specs.Spelling.{spelling}
use Rattle.parity_writer.specs.Calls.{IsLengthCall, level_calls, length_calls}
use Rattle.parity_writer.specs.Keeps.{HasByte, KeepsAt}
use Rattle.parity_writer.specs.Parity.{Row, no_rows, HoldsRows}
use Rattle.parity_writer.specs.Rows.{HasLengths}
use Rattle.parity_writer.proofs.LengthCalls.{same_level_calls}
use Rattle.snap_sync.specs.Calls.{SyncPlan, AreLengthCalls, RanOpened, opening_calls, level_bytes}
use Rattle.snap_sync.specs.Images.{IsInSynced, KeepsSynced, IsAtWork, MayStand, Opening, AtWork, HasParityAfter}
use Rattle.snap_sync.specs.Work.{IsPlanFor, IsUnderway}
use Rattle.snap_sync.proofs.StepLemmas.{changes_by, changes_looser, holds_on}

-- no stripe has a row
pub no_rows_held : (levels block_size : ℕ) (files : Files) → HoldsRows levels block_size no_rows files
no_rows_held levels block_size files = record { level = λ level stripe row below is. absurd (no row is) }
  where
    no : (row : Row) → None ≡ Some row → ⊥
    no row is = cc

-- a place in a synced stripe is below the length of the levels
pub synced_below : (table : TableValue) (i : ℕ) → IsInSynced table i → i < level_bytes table
synced_below table i is =
    let fits = row_fits is.stripe table.shape.block_size (length table.infos) table.shape.block_size is.synced.within (omega arith) in
    omega (arith, fits, is.before)

pub kept_below : (table : TableValue) (a b : Files) → KeepsAt (λ i. i < level_bytes table) a b → KeepsSynced table a b
kept_below table a b keeps = record { bytes = λ level i x is has. keeps.bytes level i x (synced_below table i is) has }

pub kept_by_save : (table : TableValue) (bytes : List ℕ) (a b : Files) → MaySave bytes a b → KeepsSynced table a b
kept_by_save table bytes a b may = record { bytes = λ level i x is has. subst (λ (parities : List (List ℕ)). HasByte (get_or parities level []) i x) (sym may.parities) has }

pub kept_then : (table : TableValue) (a b c : Files) → KeepsSynced table a b → KeepsSynced table b c → KeepsSynced table a c
kept_then table a b c one two = record { bytes = λ level i x is has. two.bytes level i x is (one.bytes level i x is has) }

-- copies stay where the contents do
pub saved_kept : (copies : ℕ) (bytes : List ℕ) (a b : Files) → HasSaved copies bytes a → b.contents ≡ a.contents → HasSaved copies bytes b
saved_kept copies bytes a b has same copy below = ap (λ (contents : List (Option (List ℕ))). get_or contents copy None) same ∙ has copy below

-- ---- the calls

-- what was called
abbrev calls_in : List VaultDone → List VaultCall
calls_in done = map (λ (one : VaultDone). one.call) done

went_as_called : (P : VaultCall → Type 0) (done : List VaultDone) → All (WentWell P) done → WentWellAs (calls_in done) done
went_as_called P [] all = refl
went_as_called P (one ∷ done) all =
    let well : is_failure one.answer ≡ false = (All-head (WentWell P) one done all).unfailed in
    ap₂ (λ (failed : Bool) (others : List VaultOutcome). (let o : VaultOutcome = record { call = one.call; failed = failed } in o) ∷ others) well
    (went_as_called P done (All-tail (WentWell P) one done all))

calls_are : (P : VaultCall → Type 0) (done : List VaultDone) → All (WentWell P) done → All P (calls_in done)
calls_are P [] all = All-nil P
calls_are P (one ∷ done) all = All-cons P one.call (calls_in done) (All-head (WentWell P) one done all).is (calls_are P done (All-tail (WentWell P) one done all))

-- all calls for the lengths of these files are that
level_lengths : (bytes : ℕ) (files : Files) (level : ℕ) → All (IsLengthCall bytes) (level_calls bytes files level)
level_lengths bytes files level =
    All-cons (IsLengthCall bytes) (ParityLen level) (if length (parity_of files level) == bytes then [] else ParitySetLen level bytes ∷ []) tt (by (length (parity_of files level) == bytes))
  where
    by : (b : Bool) → All (IsLengthCall bytes) (if b then [] else ParitySetLen level bytes ∷ [])
    by true = All-nil (IsLengthCall bytes)
    by false = All-cons (IsLengthCall bytes) (ParitySetLen level bytes) [] refl (All-nil (IsLengthCall bytes))

all_lengths : (bytes : ℕ) (files : Files) (levels : List ℕ) → All (IsLengthCall bytes) (flat_map (level_calls bytes files) levels)
all_lengths bytes files [] = All-nil (IsLengthCall bytes)
all_lengths bytes files (level ∷ levels) =
    All-append (IsLengthCall bytes) (level_calls bytes files level) (flat_map (level_calls bytes files) levels) (level_lengths bytes files level) (all_lengths bytes files levels)

lengths_as_read : (plan : SyncPlan) (old : VaultView) → AreLengthCalls plan (state_of old) (length_calls plan.start.shape.levels (level_bytes plan.start) old.files)
lengths_as_read plan old = record { each = all_lengths (level_bytes plan.start) old.files (range_with_len 0 plan.start.shape.levels); as_read = λ told. refl }

-- of a vault that does not tell its files
lengths_untold : (plan : SyncPlan) (old : VaultView) (calls : List VaultCall) → All (IsLengthCall (level_bytes plan.start)) calls → old.tells ≡ false → AreLengthCalls plan (state_of old) calls
lengths_untold plan old calls each silent = record { each = each; as_read = λ told. absurd (let clash : false ≡ true = sym silent ∙ told in cc) }

same_lengths : (bytes : ℕ) (files others : Files) (levels : List ℕ) → files.parities ≡ others.parities → flat_map (level_calls bytes files) levels ≡ flat_map (level_calls bytes others) levels
same_lengths bytes files others [] same = refl
same_lengths bytes files others (level ∷ levels) same =
    ap₂ (λ (first back : List VaultCall). first ++ back)
    (same_level_calls bytes level files others (ap (λ (parities : List (List ℕ)). get_or parities level []) same)) (same_lengths bytes files others levels same)

module _ (plan : SyncPlan) (old mid : VaultView) (for : IsPlanFor plan old) (saving : SomeCalls old mid) (saves : ChangesBy (MaySave (spelling plan.start)) old mid) where
  -- the lengths that are asked are those before
  lengths_asked : IsTrue old.tells → length_calls mid.levels (level_bytes plan.start) mid.files ≡ length_calls plan.start.shape.levels (level_bytes plan.start) old.files
  lengths_asked told =
      ap (λ n. length_calls n (level_bytes plan.start) mid.files) (saving.goes_on.levels ∙ for.levels)
      ∙ same_lengths (level_bytes plan.start) mid.files old.files (range_with_len 0 plan.start.shape.levels) (saves.reads told).parities

  abbrev pieces : List VaultCall
  pieces = piecewise_calls plan.piece plan.copies (spelling plan.start)

  -- the copies, and then these calls for the lengths
  opens_by : (new : VaultView) (failed : Bool) (lengths : List VaultCall) → AreLengthCalls plan (state_of old) lengths → RanAll pieces (log_of (state_of old)) (log_of (state_of mid))
      → RanLog lengths failed (log_of (state_of mid)) (log_of (state_of new)) → RanOpened plan [] failed (state_of old) (log_of (state_of new))
  opens_by new failed lengths are saved more = record {
    lengths = lengths;
    are = are;
    ran = subst (λ calls. RanLog calls failed (log_of (state_of old)) (log_of (state_of new))) (sym (append-nil (opening_calls plan lengths)))
        (ran_then pieces lengths failed (log_of (state_of old)) (log_of (state_of mid)) (log_of (state_of new)) saved more);
  }

  pub opens_in_order : (new : VaultView) → SomeCalls mid new → RanAll pieces (log_of (state_of old)) (log_of (state_of mid))
      → (IsTrue mid.tells → MakesThese (length_calls mid.levels (level_bytes plan.start) mid.files) mid new) → Makes (IsLengthCall (level_bytes plan.start)) mid new
      → RanOpened plan [] false (state_of old) (log_of (state_of new))
  opens_in_order new more saved these made = by old.tells refl
    where
      by : (b : Bool) → old.tells ≡ b → RanOpened plan [] false (state_of old) (log_of (state_of new))
      by true told =
          opens_by new false (length_calls plan.start.shape.levels (level_bytes plan.start) old.files) (lengths_as_read plan old) saved
          (subst (λ calls. RanAll calls (log_of (state_of mid)) (log_of (state_of new))) (lengths_asked told)
          (ran_of_these (length_calls mid.levels (level_bytes plan.start) mid.files) mid new more (these (saving.goes_on.tells ∙ told))))
      by false silent =
          opens_by new false (calls_in made.done) (lengths_untold plan old (calls_in made.done) (calls_are (IsLengthCall (level_bytes plan.start)) made.done made.each) silent) saved
          (record { later = more.goes_on.later; done = made.done; are = went_as_called (IsLengthCall (level_bytes plan.start)) made.done made.each; grown = made.grown })

  pub opens_up_to : (new : VaultView) → SomeCalls mid new → RanAll pieces (log_of (state_of old)) (log_of (state_of mid))
      → (IsTrue mid.tells → FailsAmong (length_calls mid.levels (level_bytes plan.start) mid.files) mid new) → FailsBy (IsLengthCall (level_bytes plan.start)) mid new
      → RanOpened plan [] true (state_of old) (log_of (state_of new))
  opens_up_to new more saved among fails = by old.tells refl
    where
      by : (b : Bool) → old.tells ≡ b → RanOpened plan [] true (state_of old) (log_of (state_of new))
      by true told =
          opens_by new true (length_calls plan.start.shape.levels (level_bytes plan.start) old.files) (lengths_as_read plan old) saved
          (subst (λ calls. RanUpTo calls (log_of (state_of mid)) (log_of (state_of new))) (lengths_asked told)
          (ran_of_among (length_calls mid.levels (level_bytes plan.start) mid.files) mid new more (among (saving.goes_on.tells ∙ told))))
      by false silent =
          opens_by new true (calls_in fails.earlier ++ fails.call ∷ [])
          (lengths_untold plan old (calls_in fails.earlier ++ fails.call ∷ [])
          (All-append (IsLengthCall (level_bytes plan.start)) (calls_in fails.earlier) (fails.call ∷ []) (calls_are (IsLengthCall (level_bytes plan.start)) fails.earlier fails.each) (All-cons (IsLengthCall (level_bytes plan.start)) fails.call [] fails.is (All-nil (IsLengthCall (level_bytes plan.start))))) silent) saved
          (record {
            rose = fails.rose;
            earlier = calls_in fails.earlier;
            call = fails.call;
            later = [];
            whole = refl;
            done = fails.earlier;
            are = went_as_called (IsLengthCall (level_bytes plan.start)) fails.earlier fails.each;
            grown = record { told = more.goes_on.calls.told; more = fails.made };
          })

  -- ---- the files

  at_work : (a b c : Files) → MaySave (spelling plan.start) a b → HasSaved plan.copies (spelling plan.start) b → KeepsAt (λ i. i < level_bytes plan.start) b c → IsAtWork plan [] 0 0 a c
  at_work a b c may has keeps = record {
    order = omega arith;
    within = omega arith;
    copies = λ copy below. inl (saved_kept plan.copies (spelling plan.start) b c has keeps.contents copy below);
    rows = no_rows_held plan.start.shape.levels plan.start.shape.block_size c;
    kept = kept_then plan.start a b c (kept_by_save plan.start (spelling plan.start) a b may) (kept_below plan.start b c keeps);
  }

  pub saving_stands : ChangesBy (MayStand plan []) old mid
  saving_stands = changes_looser (MaySave (spelling plan.start)) (MayStand plan []) old mid (λ a b may. Opening may) saves

  module _ (new : VaultView) (formed : IsWellFormed new) (more : SomeCalls mid new) (saved : Holds (HasSaved plan.copies (spelling plan.start)) mid)
      (stretches : ChangesBy (KeepsAt (λ i. i < level_bytes plan.start)) mid new) where
    pub opening_stands : ChangesBy (MayStand plan []) old new
    opening_stands =
        changes_by (MaySave (spelling plan.start)) (KeepsAt (λ i. i < level_bytes plan.start)) (MayStand plan []) (HasSaved plan.copies (spelling plan.start)) old mid new formed
        (λ told a b may. Opening may)
        (λ told a b c may has keeps. AtWork 0 0 (at_work a b c may has keeps))
        saving more saves saved stretches

    parity_opened : (Reads (HasLengths mid.levels (level_bytes plan.start) mid.files) new) → Reads (HasParityAfter plan [] 0 old.files) new
    parity_opened set told = record {
      lengths = λ level below. ap length (at level below) ∙ length-resized (parity_of old.files level) (level_bytes plan.start);
      rows_held = no_rows_held plan.start.shape.levels plan.start.shape.block_size new.files;
      others = λ level i x below out has. subst (λ file. HasByte file i x) (sym (at level below)) has;
    }
      where
        was : IsTrue old.tells
        was = sym saving.goes_on.tells ∙ sym more.goes_on.tells ∙ told

        at : (level : ℕ) → level < plan.start.shape.levels → parity_of new.files level ≡ resized (parity_of old.files level) (level_bytes plan.start)
        at level below =
            set told level (omega (arith, below, saving.goes_on.levels, for.levels))
            ∙ ap (λ (parities : List (List ℕ)). resized (get_or parities level []) (level_bytes plan.start)) (saves.reads was).parities

    pub opened : RanOpened plan [] false (state_of old) (log_of (state_of new)) → Reads (HasLengths mid.levels (level_bytes plan.start) mid.files) new → IsUnderway plan [] 0 0 old new
    opened ran set = record {
      order = omega arith;
      within = omega arith;
      calls = calls_then old mid new saving more;
      ran = ran;
      changes = opening_stands;
      copies = holds_on (KeepsAt (λ i. i < level_bytes plan.start)) (HasSaved plan.copies (spelling plan.start)) (HasSaved plan.copies (spelling plan.start)) mid new more
          (λ a b has keeps. saved_kept plan.copies (spelling plan.start) a b has keeps.contents) stretches saved;
      rows = record {
        reads = λ told. no_rows_held plan.start.shape.levels plan.start.shape.block_size new.files;
        leaves = λ told files left. no_rows_held plan.start.shape.levels plan.start.shape.block_size files;
      };
      parity = parity_opened set;
    }

-- ---- what the code does, of a table and by pieces of a size

-- a table was saved to so many copies
pub record SavedFirst (table : TableValue) (size copies : ℕ) (old mid : VaultView) : Type 0 where
  pub calls : SomeCalls old mid
  pub changes : ChangesBy (MaySave (spelling table)) old mid
  pub ran : RanAll (piecewise_calls size copies (spelling table)) (log_of (state_of old)) (log_of (state_of mid))
  pub saved : Holds (HasSaved copies (spelling table)) mid

-- the levels got so many bytes, or this failed
pub record SetsLengths {T : Type 0} (bytes : ℕ) (result : Result T Failed) (mid new : VaultView) : Type 0 where
  pub calls : SomeCalls mid new
  pub changes : ChangesBy (KeepsAt (λ i. i < bytes)) mid new
  pub ordered : OnOk result (IsTrue mid.tells → MakesThese (length_calls mid.levels bytes mid.files) mid new)
  pub failed : OnErr result (IsTrue mid.tells → FailsAmong (length_calls mid.levels bytes mid.files) mid new)
  pub made : OnOk result (Makes (IsLengthCall bytes) mid new)
  pub cause : OnErr result (FailsBy (IsLengthCall bytes) mid new)
  pub set : OnOk result (Reads (HasLengths mid.levels bytes mid.files) new)

pub saves_stand : (plan : SyncPlan) (table : TableValue) (old mid : VaultView) → plan.start ≡ table → IsPlanFor plan old → SomeCalls old mid → ChangesBy (MaySave (spelling table)) old mid → ChangesBy (MayStand plan []) old mid
saves_stand plan table old mid start_is for calls changes = saving_stands plan old mid for calls (subst (λ (t : TableValue). ChangesBy (MaySave (spelling t)) old mid) (sym start_is) changes)

pub saves_up_to : (plan : SyncPlan) (table : TableValue) (size : ℕ) (old new : VaultView) → plan.start ≡ table → plan.piece ≡ size → IsPlanFor plan old
    → RanUpTo (piecewise_calls size (copies_of old) (spelling table)) (log_of (state_of old)) (log_of (state_of new)) → RanOpened plan [] true (state_of old) (log_of (state_of new))
saves_up_to plan table size old new start_is piece_is for up =
    let log = λ (t : TableValue) (n c : ℕ). RanUpTo (piecewise_calls n c (spelling t)) (log_of (state_of old)) (log_of (state_of new)) in
    let lengths = length_calls plan.start.shape.levels (level_bytes plan.start) old.files in
    record {
      lengths = lengths;
      are = lengths_as_read plan old;
      ran = subst (λ calls. RanUpTo calls (log_of (state_of old)) (log_of (state_of new))) (sym (append-nil (opening_calls plan lengths)))
          (ran_front (piecewise_calls plan.piece plan.copies (spelling plan.start)) lengths (log_of (state_of old)) (log_of (state_of new))
          (subst (λ (t : TableValue). log t plan.piece plan.copies) (sym start_is) (subst (λ (n : ℕ). log table n plan.copies) (sym piece_is) (subst (λ (c : ℕ). log table size c) for.copies up))));
    }

module _ {T : Type 0} (plan : SyncPlan) (table : TableValue) (size bytes : ℕ) (result : Result T Failed) (old mid new : VaultView) (start_is : plan.start ≡ table) (for : IsPlanFor plan old) (bytes_are : bytes ≡ level_bytes table)
    (first : SavedFirst table size (copies_of old) old mid) (sets : SetsLengths bytes result mid new) (formed : IsWellFormed new) where
  its_first : SavedFirst plan.start size plan.copies old mid
  its_first = subst (λ (t : TableValue). SavedFirst t size plan.copies old mid) (sym start_is) (subst (λ (c : ℕ). SavedFirst table size c old mid) for.copies first)

  its_sets : SetsLengths (level_bytes plan.start) result mid new
  its_sets = subst (λ (n : ℕ). SetsLengths n result mid new) (bytes_are ∙ ap (λ (t : TableValue). level_bytes t) (sym start_is)) sets

  pub open_stands : ChangesBy (MayStand plan []) old new
  open_stands = opening_stands plan old mid for its_first.calls its_first.changes new formed its_sets.calls its_first.saved its_sets.changes

  module _ (piece_is : plan.piece ≡ size) where
    by_pieces : SavedFirst plan.start plan.piece plan.copies old mid
    by_pieces = subst (λ (n : ℕ). SavedFirst plan.start n plan.copies old mid) (sym piece_is) its_first

    pub open_ran : RanOpened plan [] (is_err result) (state_of old) (log_of (state_of new))
    open_ran = by result its_sets.ordered its_sets.failed its_sets.made its_sets.cause
      where
        by : (r : Result T Failed) → OnOk r (IsTrue mid.tells → MakesThese (length_calls mid.levels (level_bytes plan.start) mid.files) mid new)
            → OnErr r (IsTrue mid.tells → FailsAmong (length_calls mid.levels (level_bytes plan.start) mid.files) mid new)
            → OnOk r (Makes (IsLengthCall (level_bytes plan.start)) mid new) → OnErr r (FailsBy (IsLengthCall (level_bytes plan.start)) mid new)
            → RanOpened plan [] (is_err r) (state_of old) (log_of (state_of new))
        by (Ok x) these among made fails = opens_in_order plan old mid for by_pieces.calls by_pieces.changes new its_sets.calls by_pieces.ran these made
        by (Err e) these among made fails = opens_up_to plan old mid for by_pieces.calls by_pieces.changes new its_sets.calls by_pieces.ran among fails

    pub open_opened : OnOk result (IsUnderway plan [] 0 0 old new)
    open_opened = by result open_ran its_sets.set
      where
        by : (r : Result T Failed) → RanOpened plan [] (is_err r) (state_of old) (log_of (state_of new))
            → OnOk r (Reads (HasLengths mid.levels (level_bytes plan.start) mid.files) new) → OnOk r (IsUnderway plan [] 0 0 old new)
        by (Ok x) ran set = opened plan old mid for by_pieces.calls by_pieces.changes new formed its_sets.calls by_pieces.saved its_sets.changes ran set
        by (Err e) ran set = tt

-- of each plan
pub ok_for_each : {T : Type 0} (Fits Fine : SyncPlan → Type 0) (result : Result T Failed) (table : TableValue) (size : ℕ)
    → ((plan : SyncPlan) → plan.start ≡ table → plan.piece ≡ size → Fits plan → OnOk result (Fine plan)) → OnOk result ((plan : SyncPlan) → plan.start ≡ table → plan.piece ≡ size → Fits plan → Fine plan)
ok_for_each Fits Fine (Ok x) table size each = each
ok_for_each Fits Fine (Err e) table size each = tt
