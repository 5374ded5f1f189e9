-- The levels of a stripe that is written anew: none is wrong where no recovery is tried.
use Rattle.std.proofs.Common.{◌≡◌, ℕ, ◌&&◌, ◌||◌, List, [], ◌∷◌, length, get_or, Bool, true, false, None, Some, refl, sym, ap, ◌∙◌, subst}
use Rattle.std.specs.List.{count_by, flat_map, range_with_len}
use Rattle.disk_model.specs.Sink.{SinkView}
use Rattle.disk_model.specs.Vault.{VaultView, VaultCall, GoesOn, DraftsStay}
use Rattle.disk_model.proofs.VaultLemmas.{changes_start, no_calls}
use Rattle.parity_writer.specs.LevelsValue.{LevelValue, LevelsValue, no_level}
use Rattle.parity_writer.specs.declared.levels.LevelRead.{LevelRead}
use Rattle.parity_writer.specs.declared.levels.LevelRead.TheVariants as here
use Rattle.snap_report.specs.Report.{ReportView}
use Rattle.snap_report.specs.declared.events.Event.{Event}
use Rattle.snap_report.specs.declared.pages.Lines.{Lines}
use Rattle.snap_report.proofs.ToldLemmas.{told_nothing}
use Rattle.stripe_reader.specs.WindowValue.{WindowValue}
use Rattle.stripe_examiner.specs.Facts.{StripeFacts}
use Rattle.stripe_examiner.specs.Findings.{is_wrong_by, may_write_level}
use Rattle.snap_fix.specs.FixSteps.{MendsNotParity, MendsParity, ShowsTried}
use Rattle.stripe_examiner.specs.Known.{IsTried}
use Rattle.stripe_examiner.specs.Marks.{levels_read}
use Rattle.snap_fix.specs.Mended.{all_level_news, is_wrong_level, level_news}
use Rattle.repair_scope.specs.Plan.{FixPlan, is_searched}
use Rattle.snap_fix.specs.Repairing.{FlagsWritten, LevelsOutside, MendsLevels, MendsNotLevels, ShowsLevels, levels_outside}
use Rattle.snap_fix.specs.Underway.{IsMendedLevel, KeepsLevels, done_well, wrong_write, wrong_writes}
use Rattle.stripe_examiner.proofs.TellingLemmas.{told_as}
use Rattle.snap_fix.proofs.WrittenLevelLemmas.{keeps_nothing, ran_nothing, zeros_none}

-- what is left where nothing is written
pub drafts_same : (v : VaultView) → DraftsStay v v
drafts_same v = record { state = refl; bytes = λ tells. refl }

-- ---- where no row is known

not_wrong_by : (size r : ℕ) (state : LevelRead) (block : List ℕ) → is_wrong_by size r state block None ≡ false
not_wrong_by size r here.Unread block = refl
not_wrong_by size r here.Short block = refl
not_wrong_by size r here.Bytes block = refl

and_false : (one other : Bool) → other ≡ false → (one && other) ≡ false
and_false true other is = is
and_false false other is = refl

or_false : (one : Bool) → (one || false) ≡ one
or_false true = refl
or_false false = refl

none_wrong : (plan : FixPlan) (facts : StripeFacts) → facts.row ≡ None → (r : ℕ) → is_wrong_level plan facts r ≡ false
none_wrong plan facts none r =
    let size : ℕ = plan.table.shape.block_size in
    let level : LevelValue = get_or facts.levels r no_level in
    and_false (may_write_level plan facts.stripe r) (is_wrong_by size r level.state level.block facts.row)
    (ap (is_wrong_by size r level.state level.block) none ∙ not_wrong_by size r level.state level.block)

-- ---- of a stripe of the window

module _ {W R : Type 0} (view : W → SinkView) (standing : R → ReportView) (stands : R → List Event → Type 0)
    (plan : FixPlan) (stripe i : ℕ) (window : WindowValue) (levels : LevelsValue) (known : Bool) (facts : StripeFacts)
    (shows : ShowsTried plan facts stripe i window levels known) where
  nothing_tried : (searched : Bool) → searched ≡ false → IsTried plan facts searched → (facts.levels ≡ []) × (facts.row ≡ None)
  nothing_tried false sure (gifts, none, no_row) = (none, no_row)
  nothing_tried true sure tried = absurd cc

  not_searched : is_searched plan stripe ≡ false → (facts.levels ≡ []) × (facts.row ≡ None)
  not_searched sure = nothing_tried (is_searched plan facts.stripe) (ap (is_searched plan) shows.stripe_is ∙ sure) shows.are.tried

  none_written : facts.levels ≡ [] → wrong_writes plan facts ≡ []
  none_written none = ap (λ (all : List LevelValue). flat_map (wrong_write plan facts facts.row) (range_with_len 0 (length all))) none

  -- nothing is written
  pub untried : is_searched plan stripe ≡ false → (flags : List Bool) (vault : VaultView) (lines : Lines W) (reports : List R)
      → MendsParity view standing stands plan facts flags flags (levels_outside vault lines reports) (levels_outside vault lines reports) 0
  untried sure flags vault lines reports =
      let none = not_searched sure in
      record {
        calls = no_calls vault;
        ran = subst (λ (calls : List VaultCall). GoesOn vault vault (done_well calls)) (sym (none_written none.0)) (ran_nothing vault);
        drafts = drafts_same vault;
        told = told_as view standing stands plan.table.columns (all_level_news plan facts) [] lines lines reports reports
            (ap (λ (all : List LevelValue). flat_map (level_news plan facts) (range_with_len 0 (length all))) none.0)
            (told_nothing view standing stands plan.table.columns lines reports);
        count_is = sym (ap (λ (all : List LevelValue). count_by (is_wrong_level plan facts) (range_with_len 0 (length all))) none.0);
        changes = changes_start (KeepsLevels plan.table.shape.block_size (IsMendedLevel plan (facts ∷ []))) vault
            (keeps_nothing plan.table.shape.block_size (IsMendedLevel plan (facts ∷ [])));
        zeros = λ tells. zeros_none plan.table.shape.block_size (IsMendedLevel plan (facts ∷ [])) vault.files;
        holds = λ tells r row wrong row_is. let clash : Some row ≡ None = sym row_is ∙ none.1 in absurd cc;
        flags = (
          refl,
          λ r below.
              sym (ap (λ (b : Bool). get_or flags r false || b) (none_wrong plan facts none.1 r) ∙ or_false (get_or flags r false)),
        );
      }

  shown_levels : is_searched plan stripe ≡ true → ShowsLevels facts stripe i window levels known
  shown_levels sure = record {
    stripe_is = shows.stripe_is;
    levels_are = shows.levels_are ∙ ap (λ (searched : Bool). levels_read searched levels) sure;
    row = shows.row;
  }

  -- the levels are written
  pub tried : is_searched plan stripe ≡ true → (before after : List Bool) (old new : LevelsOutside W R) (count : ℕ)
      → MendsLevels view standing stands plan stripe i window levels known old new count
      → ((it : StripeFacts) → ShowsLevels it stripe i window levels known → FlagsWritten plan it before after)
      → MendsParity view standing stands plan facts before after old new count
  tried sure before after old new count mends flags =
      let shown = shown_levels sure in
      record {
        calls = mends.calls;
        ran = mends.ran facts shown;
        drafts = mends.drafts;
        told = mends.told facts shown;
        count_is = mends.count_is facts shown;
        changes = mends.changes facts shown;
        zeros = mends.zeros facts shown;
        holds = mends.holds facts shown;
        flags = flags facts shown;
      }

  -- the vault failed
  pub tried_not : is_searched plan stripe ≡ true → (old new : LevelsOutside W R)
      → MendsNotLevels view standing stands plan stripe i window levels known old new → MendsNotParity view standing stands plan facts old new
  tried_not sure old new mends =
      let shown = shown_levels sure in
      record {
        rose = mends.rose;
        call = mends.call;
        calls = mends.calls;
        drafts = mends.drafts;
        level = mends.level;
        ran = mends.ran facts shown;
        told = mends.told facts shown;
        changes = mends.changes facts shown;
      }

-- ---- of what was answered
