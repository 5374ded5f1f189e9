-- The wrong levels of a stripe, written one after another.
use Rattle.std.proofs.Common.{◌≡◌, inl, inr, ℕ, ◌+◌, ◌*◌, ◌<◌, ◌≤◌, List, [], ◌∷◌, ◌++◌, length, get_or, Bool, true, false, if◌then◌else◌, IsTrue, Option, None, Some, refl, sym, ◌∙◌, ap, ap₂, subst, arith}
use Rattle.std.specs.List.{range_with_len, count_by, flat_map}
use Rattle.std.specs.Prelude.{◌&&◌}
use Rattle.std.proofs.lemmas.Bool.{cases_eq, cases_lt}
use Rattle.std.proofs.lemmas.Grind.{flat_map-append}
use Rattle.std.proofs.lemmas.List.{append-nil, get_or_past, map-append}
use Rattle.cauchy.specs.Matrix.{parity_of as level_of}
use Rattle.disk_model.specs.Cause.{Rose}
use Rattle.disk_model.specs.Bytes.{put}
use Rattle.disk_model.specs.Files.{Files, parity_of, with_parity, TearsParity}
use Rattle.disk_model.specs.Sink.{SinkView}
use Rattle.disk_model.specs.Vault.{plain_done, VaultView, VaultCall, ParityWrite, GoesOn, SomeCalls, ChangesBy, DraftsStay, Reads}
use Rattle.disk_model.proofs.VaultLemmas.{one_call, calls_then, changes_start, changes_then}
use Rattle.file_table.specs.Table.{Column}
use Rattle.parity_writer.specs.LevelsValue.{LevelValue, LevelsValue, level_at, no_level}
use Rattle.parity_writer.specs.declared.levels.LevelRead.{LevelRead}
use Rattle.parity_writer.specs.declared.levels.LevelRead.TheVariants as here
use Rattle.parity_writer.specs.Parity.{Row, HasLevel}
use Rattle.parity_writer.specs.WindowRow.{row_at}
use Rattle.parity_writer.proofs.KeepsLemmas.{other_level}
use Rattle.parity_writer.proofs.Keeping.{drafts_then}
use Rattle.parity_writer.proofs.SumLemmas.{length-level}
use Rattle.snap_report.specs.Report.{ReportView}
use Rattle.snap_report.specs.Told.{Told}
use Rattle.snap_report.specs.declared.events.Event.{Event}
use Rattle.snap_report.specs.declared.events.Event.TheVariants.{FixedParity}
use Rattle.snap_report.specs.declared.pages.Lines.{Lines}
use Rattle.snap_report.proofs.ToldLemmas.{told_then, told_nothing}
use Rattle.stripe_reader.specs.WindowValue.{WindowValue}
use Rattle.snap_fix.specs.BrokenStripe.{FailsAtLevel, HoldsBelow}
use Rattle.stripe_examiner.specs.Facts.{StripeFacts}
use Rattle.stripe_examiner.specs.Findings.{is_wrong, is_wrong_by, may_write_level}
use Rattle.stripe_examiner.specs.Marks.{row_if}
use Rattle.snap_fix.specs.Mended.{is_wrong_level, level_news}
use Rattle.repair_scope.specs.Plan.{FixPlan}
use Rattle.snap_fix.specs.Repairing.{LevelsOutside, ShowsLevels, MendsLevels, MendsNotLevels, levels_outside}
use Rattle.snap_fix.specs.RepairSteps.{WritesLevel, WritesNotLevel}
use Rattle.snap_fix.specs.Underway.{AddsZeros, KeepsLevels, IsMendedLevel, HoldsWrong, done_well, level_write, wrong_write}
use Rattle.stripe_examiner.proofs.LookingLemmas.{vault_goes_on}
use Rattle.folder_listing.proofs.JoinedLemmas.{range_more}
use Rattle.stripe_examiner.proofs.StripeLemmas.{level_of_first, levels_as_many}
use Rattle.stripe_examiner.proofs.TellingLemmas.{events_to, events_to-more, told_as}
use Rattle.snap_fix.proofs.WrittenLevelLemmas.{files_put, keeps_more, keeps_nothing, ran_nothing, ran_write, written_level, zeros_more, zeros_none}
use Rattle.snap_fix.proofs.MendedCounts.{count_to-more, one_if, rose_later, gained_later}

-- ---- one write

module _ {W R : Type 0} (view : W → SinkView) (standing : R → ReportView) (stands : R → List Event → Type 0) (columns : List Column)
    (size stripe r at : ℕ) (row : Row) (bytes : List ℕ) (old new : LevelsOutside W R) (at_is : at ≡ stripe * size) (long : length bytes ≡ size) where
  torn_there : ChangesBy (TearsParity r at (length bytes)) old.vault new.vault → ChangesBy (TearsParity r (stripe * size) size) old.vault new.vault
  torn_there changes =
      subst (λ (n : ℕ). ChangesBy (TearsParity r n size) old.vault new.vault) at_is
      (subst (λ (n : ℕ). ChangesBy (TearsParity r at n) old.vault new.vault) long changes)

  -- a write that went well
  pub level_written : bytes ≡ level_of r size row
      → GoesOn old.vault new.vault (plain_done (ParityWrite r at bytes) false ∷ [])
      → Reads (λ (files : Files). parity_of files r ≡ put (parity_of old.vault.files r) at bytes) new.vault
      → ChangesBy (TearsParity r at (length bytes)) old.vault new.vault → DraftsStay old.vault new.vault
      → Told view standing stands columns (FixedParity stripe r ∷ []) old.lines new.lines old.reports new.reports
      → WritesLevel view standing stands columns size stripe r row old new
  level_written bytes_are goes_on reads changes drafts told =
      let put_as : put (parity_of old.vault.files r) at bytes ≡ put (parity_of old.vault.files r) (stripe * size) (level_of r size row) =
      ap₂ (λ (n : ℕ) (xs : List ℕ). put (parity_of old.vault.files r) n xs) at_is bytes_are in
      record {
        calls = one_call old.vault new.vault _ goes_on;
        ran = ran_write r at bytes (stripe * size) (level_of r size row) false old.vault new.vault at_is bytes_are goes_on;
        drafts = drafts;
        changes = torn_there changes;
        put = λ tells.
            files_put r at (length bytes) bytes old.vault.files new.vault.files (changes.reads tells) (reads (goes_on.tells ∙ tells))
            ∙ ap (with_parity old.vault.files r) put_as;
        written = λ tells. subst (HasLevel size r stripe row) (sym (reads tells ∙ put_as))
            (written_level size r stripe row (parity_of old.vault.files r));
        told = told;
      }

-- a write that failed
module _ {W R : Type 0} (view : W → SinkView) (standing : R → ReportView) (stands : R → List Event → Type 0) (columns : List Column)
    (size stripe r at : ℕ) (row : Row) (bytes : List ℕ) (old new : VaultView) (lines : Lines W) (reports : List R) (at_is : at ≡ stripe * size) (long : length bytes ≡ size) where
  pub level_not_written : bytes ≡ level_of r size row → Rose old.faults new.faults
      → GoesOn old new (plain_done (ParityWrite r at bytes) true ∷ [])
      → ChangesBy (TearsParity r at (length bytes)) old new → DraftsStay old new
      → WritesNotLevel view standing stands columns size stripe r row (levels_outside old lines reports) (levels_outside new lines reports)
  level_not_written bytes_are rose goes_on changes drafts = record {
    rose = rose;
    call = λ tells. record { gained = _; now_is = goes_on.calls.more tells; one = cc };
    calls = one_call old new _ goes_on;
    ran = ran_write r at bytes (stripe * size) (level_of r size row) true old new at_is bytes_are goes_on;
    drafts = drafts;
    changes = torn_there view standing stands columns size stripe r at row bytes (levels_outside old lines reports) (levels_outside new lines reports) at_is long changes;
    told = told_nothing view standing stands columns lines reports;
  }

-- ---- what is wrong

-- a wrong level is one of a row that is known
pub known_where_wrong : (plan : FixPlan) (stripe i r : ℕ) (level : LevelValue) (known : Bool) (window : WindowValue)
    → is_wrong plan stripe level (row_if known window i) r ≡ true → known ≡ true
known_where_wrong plan stripe i r level true window is = refl
known_where_wrong plan stripe i r level false window is = absurd (by (may_write_level plan stripe r) level.state is)
  where
    by : (selected : Bool) (state : LevelRead) → (selected && is_wrong_by plan.table.shape.block_size r state level.block None) ≡ true → ⊥
    by false state holds = cc
    by true here.Unread holds = cc
    by true here.Short holds = cc
    by true here.Bytes holds = cc

-- a level past those of a stripe is not wrong
none_past : (plan : FixPlan) (facts : StripeFacts) (r : ℕ) → length facts.levels ≤ r → is_wrong_level plan facts r ≡ false
none_past plan facts r past =
    ap (λ (level : LevelValue). is_wrong plan facts.stripe level facts.row r) (get_or_past facts.levels r no_level past) ∙ by (may_write_level plan facts.stripe r)
  where
    by : (selected : Bool) → (selected && false) ≡ false
    by false = refl
    by true = refl

-- what is wrong of the facts is wrong of what shows them
pub wrong_shown : (plan : FixPlan) (facts : StripeFacts) (stripe i r : ℕ) (window : WindowValue) (levels : LevelsValue) (known : Bool)
    → ShowsLevels facts stripe i window levels known → r < levels.count
    → is_wrong_level plan facts r ≡ is_wrong plan stripe (level_at levels r) (row_if known window i) r
wrong_shown plan facts stripe i r window levels known shows below =
    ap (λ (s : ℕ). is_wrong plan s (get_or facts.levels r no_level) facts.row r) shows.stripe_is
    ∙ ap (λ (ls : List LevelValue). is_wrong plan stripe (get_or ls r no_level) facts.row r) shows.levels_are
    ∙ ap (λ (l : LevelValue). is_wrong plan stripe l facts.row r) (level_of_first levels r below)
    ∙ ap (λ (row : Option Row). is_wrong plan stripe (level_at levels r) row r) shows.row

-- ---- so many levels

module _ {W R : Type 0} (view : W → SinkView) (standing : R → ReportView) (stands : R → List Event → Type 0) (plan : FixPlan) (facts : StripeFacts) where
  abbrev pub IsOneOf : ℕ → ℕ → Type 0
  IsOneOf = IsMendedLevel plan (facts ∷ [])

  -- the writes of the wrong ones of so many levels
  abbrev pub writes_to : ℕ → List VaultCall
  writes_to n = flat_map (wrong_write plan facts facts.row) (range_with_len 0 n)

  pub record LevelsSoFar (r count : ℕ) (old new : LevelsOutside W R) : Type 0 where
    pub told : Told view standing stands plan.table.columns (events_to (level_news plan facts) r) old.lines new.lines old.reports new.reports
    pub count_is : count ≡ count_by (is_wrong_level plan facts) (range_with_len 0 r)
    pub ran : GoesOn old.vault new.vault (done_well (writes_to r))
    pub changes : ChangesBy (KeepsLevels plan.table.shape.block_size IsOneOf) old.vault new.vault
    pub zeros : IsTrue old.vault.tells → AddsZeros plan.table.shape.block_size IsOneOf old.vault.files new.vault.files
    pub holds : Reads (HoldsBelow plan facts r) new.vault

  abbrev size : ℕ
  size = plan.table.shape.block_size

  -- one more wrong level was written, or its write was cut short
  pub more_changes : (r : ℕ) (old mid new : LevelsOutside W R) → is_wrong_level plan facts r ≡ true → SomeCalls old.vault mid.vault
      → ChangesBy (TearsParity r (facts.stripe * size) size) mid.vault new.vault → ChangesBy (KeepsLevels size IsOneOf) old.vault mid.vault
      → ChangesBy (KeepsLevels size IsOneOf) old.vault new.vault
  more_changes r old mid new wrong calls tears so_far =
      changes_then (KeepsLevels size IsOneOf) (TearsParity r (facts.stripe * size) size) (KeepsLevels size IsOneOf) old.vault mid.vault new.vault
      (λ a b kept. kept)
      (λ a b c kept torn. keeps_more size IsOneOf r facts.stripe (facts, (0, omega arith, refl), refl, wrong) a b c torn kept)
      calls.goes_on.tells so_far tears

  -- the writes of one level more, with what is written of it
  writes_more : (r : ℕ) (more : List VaultCall) → wrong_write plan facts facts.row r ≡ more → done_well (writes_to (r + 1)) ≡ done_well (writes_to r) ++ done_well more
  writes_more r more is =
      ap (λ (ns : List ℕ). done_well (flat_map (wrong_write plan facts facts.row) ns)) (range_more r)
      ∙ ap done_well (flat_map-append (wrong_write plan facts facts.row) (range_with_len 0 r) (r ∷ []))
      ∙ map-append (λ (call : VaultCall). plain_done call false) (writes_to r) (wrong_write plan facts facts.row r ++ [])
      ∙ ap (λ (calls : List VaultCall). done_well (writes_to r) ++ done_well calls) (append-nil (wrong_write plan facts facts.row r) ∙ is)

  not_written : (r : ℕ) (row : Option Row) → is_wrong_level plan facts r ≡ false → wrong_write plan facts row r ≡ []
  not_written r None right = refl
  not_written r (Some row) right = ap (λ (b : Bool). if b then level_write plan facts row r ∷ [] else []) right

  one_written : (r : ℕ) (row : Row) → facts.row ≡ Some row → is_wrong_level plan facts r ≡ true → wrong_write plan facts facts.row r ≡ level_write plan facts row r ∷ []
  one_written r row is wrong =
      ap (λ (of : Option Row). wrong_write plan facts of r) is ∙ ap (λ (b : Bool). if b then level_write plan facts row r ∷ [] else []) wrong

  -- the write of one more wrong level failed
  pub levels_not : (r : ℕ) (row : Row) (old mid new : VaultView) → is_wrong_level plan facts r ≡ true
      → facts.row ≡ Some row → r < length facts.levels → GoesOn old mid (done_well (writes_to r))
      → Reads (HoldsBelow plan facts r) mid → GoesOn mid new (plain_done (level_write plan facts row r) true ∷ [])
      → ChangesBy (TearsParity r (facts.stripe * size) size) mid new → FailsAtLevel plan facts r [] old new
  levels_not r row old mid new wrong row_is below so_far holds fails changes = record {
    within = below;
    wrong = wrong;
    row = row;
    row_is = row_is;
    goes_on = vault_goes_on old mid new (done_well (writes_to r)) (plain_done (level_write plan facts row r) true ∷ [])
        so_far fails;
    holds = λ tells k its near is_wrong is.
        let told_before : IsTrue mid.tells = sym fails.tells ∙ tells in
        let tears = changes.reads told_before in
        subst (HasLevel size k facts.stripe its)
        (sym (other_level r tears.file mid.files new.files tears.rest k (λ same. omega (arith, near, same))))
        (holds told_before k its near is_wrong is);
  }

  pub levels_none : (s : LevelsOutside W R) → LevelsSoFar 0 0 s s
  levels_none s = record {
    told = told_nothing view standing stands plan.table.columns s.lines s.reports;
    count_is = refl;
    ran = ran_nothing s.vault;
    changes = changes_start (KeepsLevels plan.table.shape.block_size IsOneOf) s.vault (keeps_nothing plan.table.shape.block_size IsOneOf);
    zeros = λ tells. zeros_none plan.table.shape.block_size IsOneOf s.vault.files;
    holds = λ tells r row none. absurd (omega arith);
  }

  -- one level more: it is not wrong, so that nothing is done
  pub levels_skip : (r count : ℕ) (old new : LevelsOutside W R) → is_wrong_level plan facts r ≡ false → LevelsSoFar r count old new → LevelsSoFar (r + 1) count old new
  levels_skip r count old new right so_far = record {
    told = told_as view standing stands plan.table.columns (events_to (level_news plan facts) (r + 1)) (events_to (level_news plan facts) r) old.lines new.lines old.reports new.reports
        (events_to-more (level_news plan facts) r
        ∙ ap (λ (b : Bool). events_to (level_news plan facts) r ++ (if b then FixedParity facts.stripe r ∷ [] else [])) right
        ∙ append-nil (events_to (level_news plan facts) r)) so_far.told;
    count_is = omega (arith, so_far.count_is, count_to-more (is_wrong_level plan facts) r, ap one_if right);
    ran = subst (GoesOn old.vault new.vault)
        (sym (writes_more r [] (not_written r facts.row right) ∙ append-nil (done_well (writes_to r)))) so_far.ran;
    changes = so_far.changes;
    zeros = so_far.zeros;
    holds = λ tells k row below wrong is. elim (cases_eq k r) [
      | inl same ↦ absurd (let clash : true ≡ false = sym wrong ∙ ap (is_wrong_level plan facts) same ∙ right in cc)
      | inr other ↦ so_far.holds tells k row (omega (arith, below, other)) wrong is
    ];
  }

  -- or it is wrong, and was written
  pub levels_more : (r count : ℕ) (row : Row) (old mid new : LevelsOutside W R) → is_wrong_level plan facts r ≡ true → facts.row ≡ Some row
      → SomeCalls old.vault mid.vault
      → WritesLevel view standing stands plan.table.columns plan.table.shape.block_size facts.stripe r row mid new
      → LevelsSoFar r count old mid → LevelsSoFar (r + 1) (count + 1) old new
  levels_more r count row old mid new wrong row_is calls writes so_far = record {
    told = told_as view standing stands plan.table.columns (events_to (level_news plan facts) (r + 1)) (events_to (level_news plan facts) r ++ FixedParity facts.stripe r ∷ []) old.lines new.lines old.reports new.reports
        (events_to-more (level_news plan facts) r
        ∙ ap (λ (b : Bool). events_to (level_news plan facts) r ++ (if b then FixedParity facts.stripe r ∷ [] else [])) wrong)
        (told_then view standing stands plan.table.columns (events_to (level_news plan facts) r) (FixedParity facts.stripe r ∷ []) old.lines mid.lines new.lines old.reports mid.reports new.reports so_far.told writes.told);
    count_is = omega (arith, so_far.count_is, count_to-more (is_wrong_level plan facts) r, ap one_if wrong);
    ran = subst (GoesOn old.vault new.vault)
        (sym (writes_more r (level_write plan facts row r ∷ []) (one_written r row row_is wrong)))
        (vault_goes_on old.vault mid.vault new.vault (done_well (writes_to r)) (done_well (level_write plan facts row r ∷ [])) so_far.ran writes.ran);
    changes = more_changes r old mid new wrong calls writes.changes so_far.changes;
    zeros = λ tells. zeros_more size IsOneOf r facts.stripe (level_of r size row) (facts, (0, omega arith, refl), refl, wrong) (length-level r size row)
        old.vault.files mid.vault.files new.vault.files (writes.put (calls.goes_on.tells ∙ tells)) (so_far.zeros tells);
    holds = λ tells k its below is_wrong is. elim (cases_eq k r) [
      | inl same ↦
          let same_row : its ≡ row = (let both : Some its ≡ Some row = sym is ∙ row_is in cc) in
          subst (λ (n : ℕ). HasLevel size n facts.stripe its (parity_of new.vault.files n)) (sym same)
          (subst (λ (it : Row). HasLevel size r facts.stripe it (parity_of new.vault.files r)) (sym same_row) (writes.written tells))
      | inr other ↦
          let told_before : IsTrue mid.vault.tells = sym (writes.calls.goes_on.tells) ∙ tells in
          let tears = writes.changes.reads told_before in
          subst (HasLevel size k facts.stripe its) (sym (other_level r tears.file mid.vault.files new.vault.files tears.rest k other))
          (so_far.holds told_before k its (omega (arith, below, other)) is_wrong is)
    ];
  }

  -- all of them
  pub all_hold : (n : ℕ) (v : VaultView) → length facts.levels ≤ n → Reads (HoldsBelow plan facts n) v → Reads (HoldsWrong plan facts) v
  all_hold n v all holds tells r row wrong is = elim (cases_lt r n) [
    | inl near ↦ holds tells r row near wrong is
    | inr far ↦ absurd (let clash : true ≡ false = sym wrong ∙ none_past plan facts r (omega (arith, all, far)) in cc)
  ]

-- ---- by what shows the facts

module _ {W R : Type 0} (view : W → SinkView) (standing : R → ReportView) (stands : R → List Event → Type 0) (plan : FixPlan) where
  -- one more level was written
  pub mends_more : (facts : StripeFacts) (stripe i : ℕ) (window : WindowValue) (levels : LevelsValue) (known : Bool) → ShowsLevels facts stripe i window levels known
      → (size : ℕ) → size ≡ plan.table.shape.block_size → (r count : ℕ) (old mid new : LevelsOutside W R) → r < levels.count
      → is_wrong plan stripe (level_at levels r) (row_if known window i) r ≡ true → SomeCalls old.vault mid.vault
      → WritesLevel view standing stands plan.table.columns size stripe r (row_at window i) mid new
      → LevelsSoFar view standing stands plan facts r count old mid → LevelsSoFar view standing stands plan facts (r + 1) (count + 1) old new
  mends_more facts stripe i window levels known shows size size_is r count old mid new below wrong calls writes so_far =
      levels_more view standing stands plan facts r count (row_at window i) old mid new
      (wrong_shown plan facts stripe i r window levels known shows below ∙ wrong)
      (shows.row ∙ ap (λ (k : Bool). row_if k window i) (known_where_wrong plan stripe i r (level_at levels r) known window wrong))
      calls
      (subst (λ (n : ℕ). WritesLevel view standing stands plan.table.columns n facts.stripe r (row_at window i) mid new) size_is
      (subst (λ (s : ℕ). WritesLevel view standing stands plan.table.columns size s r (row_at window i) mid new) (sym shows.stripe_is) writes))
      so_far

  -- all were looked at
  pub mends_all : (stripe i : ℕ) (window : WindowValue) (levels : LevelsValue) (known : Bool) (r count : ℕ) (old new : LevelsOutside W R) → levels.count ≡ r
      → levels.count ≤ length levels.levels → SomeCalls old.vault new.vault → DraftsStay old.vault new.vault
      → ((facts : StripeFacts) → ShowsLevels facts stripe i window levels known → LevelsSoFar view standing stands plan facts r count old new)
      → MendsLevels view standing stands plan stripe i window levels known old new count
  mends_all stripe i window levels known r count old new all room calls drafts so_far = record {
    calls = calls;
    drafts = drafts;
    told = λ facts shows. told_as view standing stands plan.table.columns (events_to (level_news plan facts) (length facts.levels)) (events_to (level_news plan facts) r) old.lines new.lines old.reports new.reports
        (ap (events_to (level_news plan facts)) (many facts shows)) (so_far facts shows).told;
    count_is = λ facts shows. (so_far facts shows).count_is ∙ ap (λ (n : ℕ). count_by (is_wrong_level plan facts) (range_with_len 0 n)) (sym (many facts shows));
    ran = λ facts shows. subst (λ (n : ℕ). GoesOn old.vault new.vault (done_well (flat_map (wrong_write plan facts facts.row) (range_with_len 0 n))))
        (sym (many facts shows)) (so_far facts shows).ran;
    changes = λ facts shows. (so_far facts shows).changes;
    zeros = λ facts shows. (so_far facts shows).zeros;
    holds = λ facts shows. all_hold view standing stands plan facts r new.vault (omega (arith, many facts shows)) (so_far facts shows).holds;
  }
    where
      many : (facts : StripeFacts) → ShowsLevels facts stripe i window levels known → length facts.levels ≡ r
      many facts shows = ap (λ (ls : List LevelValue). length ls) shows.levels_are ∙ levels_as_many levels room ∙ all

  -- a write failed
  pub mends_not : (stripe i : ℕ) (window : WindowValue) (levels : LevelsValue) (known : Bool) (size : ℕ) → size ≡ plan.table.shape.block_size
      → (r count : ℕ) (old mid new : LevelsOutside W R) → r < levels.count → levels.count ≤ length levels.levels
      → is_wrong plan stripe (level_at levels r) (row_if known window i) r ≡ true
      → SomeCalls old.vault mid.vault → DraftsStay old.vault mid.vault
      → WritesNotLevel view standing stands plan.table.columns size stripe r (row_at window i) mid new
      → ((facts : StripeFacts) → ShowsLevels facts stripe i window levels known → LevelsSoFar view standing stands plan facts r count old mid)
      → MendsNotLevels view standing stands plan stripe i window levels known old new
  mends_not stripe i window levels known size size_is r count old mid new below room wrong calls drafts fails so_far = record {
    rose = rose_later calls.goes_on.later fails.rose;
    call = λ tells. gained_later calls.goes_on.calls (fails.call tells) (fails.calls.goes_on.calls.told tells);
    calls = calls_then old.vault mid.vault new.vault calls fails.calls;
    drafts = drafts_then old.vault mid.vault new.vault calls.goes_on.tells drafts fails.drafts;
    level = r;
    ran = λ facts shows.
        levels_not view standing stands plan facts r (row_at window i) old.vault mid.vault new.vault (wrong_shown plan facts stripe i r window levels known shows below ∙ wrong)
        (shows.row ∙ ap (λ (k : Bool). row_if k window i) (known_where_wrong plan stripe i r (level_at levels r) known window wrong))
        (omega (arith, below, many facts shows)) (so_far facts shows).ran
        (so_far facts shows).holds
        (subst (λ (n : ℕ). GoesOn mid.vault new.vault (plain_done (ParityWrite r (facts.stripe * n) (level_of r n (row_at window i))) true ∷ [])) size_is
        (subst (λ (s : ℕ). GoesOn mid.vault new.vault (plain_done (ParityWrite r (s * size) (level_of r size (row_at window i))) true ∷ [])) (sym shows.stripe_is) fails.ran))
        (subst (λ (n : ℕ). ChangesBy (TearsParity r (facts.stripe * n) n) mid.vault new.vault) size_is
        (subst (λ (s : ℕ). ChangesBy (TearsParity r (s * size) size) mid.vault new.vault) (sym shows.stripe_is) fails.changes));
    told = λ facts shows.
        told_as view standing stands plan.table.columns (events_to (level_news plan facts) r) (events_to (level_news plan facts) r ++ []) old.lines new.lines old.reports new.reports
        (sym (append-nil (events_to (level_news plan facts) r)))
        (told_then view standing stands plan.table.columns (events_to (level_news plan facts) r) [] old.lines mid.lines new.lines old.reports mid.reports new.reports (so_far facts shows).told fails.told);
    changes = λ facts shows. more_changes view standing stands plan facts r old mid new (wrong_shown plan facts stripe i r window levels known shows below ∙ wrong) calls
        (subst (λ (n : ℕ). ChangesBy (TearsParity r (facts.stripe * n) n) mid.vault new.vault) size_is
        (subst (λ (s : ℕ). ChangesBy (TearsParity r (s * size) size) mid.vault new.vault) (sym shows.stripe_is) fails.changes))
        (so_far facts shows).changes;
  }
    where
      many : (facts : StripeFacts) → ShowsLevels facts stripe i window levels known → length facts.levels ≡ levels.count
      many facts shows = ap (λ (ls : List LevelValue). length ls) shows.levels_are ∙ levels_as_many levels room
