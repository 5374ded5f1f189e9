-- Stripes are looked at, and then others.
use Rattle.std.proofs.Common.{◌≡◌, ℕ, ◌+◌, ◌<◌, List, [], ◌∷◌, ◌++◌, length, Bool, true, false, refl, sym, ap, ap₂, ◌∙◌, subst, arith}
use Rattle.std.specs.Prelude.{if◌then◌else◌}
use Rattle.std.proofs.lemmas.Bool.{ne_eqb, eq-eqb}
use Rattle.std.proofs.lemmas.Grind.{flat_map-append}
use Rattle.std.proofs.lemmas.List.{append-nil, map-append, length-append}
use Rattle.std.proofs.lemmas.List.Elements.{All-nil, All-cons, All-append}
use Rattle.std.proofs.lemmas.List.FromFn.{map-range_with_len_more}
use Rattle.disk_model.specs.Sink.{SinkView}
use Rattle.disk_model.specs.Vault.{VaultView, IsUntouched}
use Rattle.file_table.specs.Table.{TableValue}
use Rattle.snap_report.specs.Report.{ReportView}
use Rattle.snap_report.specs.Told.{Told}
use Rattle.snap_report.specs.declared.events.Event.{Event}
use Rattle.snap_report.specs.declared.pages.Lines.{Lines}
use Rattle.snap_report.proofs.ToldLemmas.{told_then, told_nothing}
use Rattle.stripe_findings.specs.Findings.{stripe_events}
use Rattle.stripe_findings.specs.Reading.{StripeReading, is_verified, reading_at}
use Rattle.stripe_findings.proofs.FindingLemmas.{verified_where_nothing}
use Rattle.stripe_reader.specs.WindowValue.{WindowValue}
use Rattle.parity_writer.specs.declared.summing.Sums.{Sums}
use Rattle.snap_scrub.specs.declared.verdict.Verdict.{Verdict}
use Rattle.snap_scrub.specs.declared.verdict.Found.{Found}
use Rattle.snap_scrub.specs.Findings.{level_events, scrub_events, events_of}
use Rattle.snap_scrub.specs.Looking.{AreFound, Scene, LooksAt, LooksAtOne, LooksInto, scene}
use Rattle.snap_scrub.specs.Marks.{verdict_by, verdict_of, at_most}
use Rattle.snap_scrub.specs.Reading.{ScrubReading, HasLevels}
use Rattle.snap_scrub.proofs.ReadingLemmas.{levels_between, levels_left, levels_none, levels_then}
use Rattle.stripe_findings.proofs.TellingLemmas.{told_as}

-- one of some
pub some_sums : (all : List Sums) (i : ℕ) → i < length all → Sums
some_sums [] i below = absurd (omega (arith, below))
some_sums (x ∷ all) i below = x

nothing_in : (events : List Event) → length events ≡ 0 → events ≡ []
nothing_in [] none = refl
nothing_in (event ∷ events) none = absurd (omega (arith, none))

-- where something is found in the cells of a stripe, no level is read
pub unread_events : (table : TableValue) (cells : StripeReading) → scrub_events table (record { cells = cells; levels = [] }) ≡ stripe_events table cells
unread_events table cells = append-nil (stripe_events table cells)

pub unread_due : (table : TableValue) (cells : StripeReading) (count : ℕ) → count ≡ length (stripe_events table cells) → 0 < count → HasLevels table (record { cells = cells; levels = [] })
unread_due table cells count is some =
    let wrong : is_verified table cells ≡ false = verified_where_nothing table cells ∙ ne_eqb (length (stripe_events table cells)) 0 (λ none. omega (arith, is, some, none)) in
    sym (ap (λ (t : Bool). if t then table.shape.levels else 0) wrong)

-- where nothing is, each is
pub read_due : (table : TableValue) (reading : ScrubReading) (count : ℕ) → count ≡ length (stripe_events table reading.cells) → count ≡ 0 → length reading.levels ≡ table.shape.levels → HasLevels table reading
read_due table reading count is none many =
    let right : is_verified table reading.cells ≡ true = verified_where_nothing table reading.cells ∙ eq-eqb (length (stripe_events table reading.cells)) 0 (sym is ∙ none) in
    many ∙ sym (ap (λ (t : Bool). if t then table.shape.levels else 0) right)

-- and what is found is found in the levels
pub read_events : (table : TableValue) (reading : ScrubReading) (count : ℕ) (levels : List Event) → count ≡ length (stripe_events table reading.cells) → count ≡ 0 → level_events table reading ≡ levels → scrub_events table reading ≡ levels
read_events table reading count levels is none same = ap₂ (λ (front back : List Event). front ++ back) (nothing_in (stripe_events table reading.cells) (sym is ∙ none)) same

module _ {W R : Type 0} (view : W → SinkView) (standing : R → ReportView) (stands : R → List Event → Type 0) (table : TableValue) where
  pub looks_none : (s : Scene W R) → LooksAt view standing stands table [] s s
  looks_none s = record {
    due = All-nil (HasLevels table);
    levels = levels_none table s.vault;
    told = told_nothing view standing stands table.columns s.lines s.reports;
  }

  -- of a vault that stays untouched
  pub looks_left : (old new : VaultView) (lines : Lines W) (reports : List R) → IsUntouched old new → LooksAt view standing stands table [] (scene old lines reports) (scene new lines reports)
  looks_left old new lines reports same = record {
    due = All-nil (HasLevels table);
    levels = levels_left table old new same;
    told = told_nothing view standing stands table.columns lines reports;
  }

  pub looks_then : (xs ys : List ScrubReading) (old mid new : Scene W R) → LooksAt view standing stands table xs old mid → LooksAt view standing stands table ys mid new → LooksAt view standing stands table (xs ++ ys) old new
  looks_then xs ys old mid new first back = record {
    due = All-append (HasLevels table) xs ys first.due back.due;
    levels = levels_then table xs ys old.vault mid.vault new.vault first.levels back.levels;
    told = told_as view standing stands table.columns _ _ old.lines new.lines old.reports new.reports (flat_map-append (scrub_events table) xs ys)
        (told_then view standing stands table.columns (events_of table xs) (events_of table ys) old.lines mid.lines new.lines old.reports mid.reports new.reports first.told back.told);
  }

  -- before the first stripe of a window
  pub into_none : (stripes : List ℕ) (window : WindowValue) (verdicts : List Verdict) (s : Scene W R) → verdicts ≡ [] → LooksInto view standing stands table stripes window 0 verdicts 0 s s
  into_none stripes window verdicts s same = record {
    readings = [];
    cells_are = refl;
    looks = looks_none s;
    verdicts_are = same;
    findings_are = refl;
  }

  -- one stripe that was looked at
  looks_one : {stripes : List ℕ} {window : WindowValue} {i : ℕ} {found : Found} {old new : Scene W R} (one : LooksAtOne view standing stands table stripes window i found old new) → LooksAt view standing stands table (one.reading ∷ []) old new
  looks_one {old = old} {new = new} one = record {
    due = All-cons (HasLevels table) one.reading [] one.due (All-nil (HasLevels table));
    levels = one.levels;
    told = told_as view standing stands table.columns _ _ old.lines new.lines old.reports new.reports (append-nil (scrub_events table one.reading)) one.told;
  }

  -- after so many, one stripe more
  pub into_more : (stripes : List ℕ) (window : WindowValue) (i : ℕ) (so_far after : List Verdict) (verdict : Verdict) (findings more : ℕ) (found : Found) (old mid new : Scene W R)
      → after ≡ so_far ++ verdict ∷ [] → ((events : List Event) → AreFound events found → verdict ≡ verdict_by events) → more ≡ at_most (findings + found.count)
      → LooksInto view standing stands table stripes window i so_far findings old mid → LooksAtOne view standing stands table stripes window i found mid new
      → LooksInto view standing stands table stripes window (i + 1) after more old new
  into_more stripes window i so_far after verdict findings more found old mid new after_is verdict_is more_is into one =
      let xs = into.readings in
      let x = one.reading in
      let events : events_of table (xs ++ x ∷ []) ≡ events_of table xs ++ scrub_events table x = flat_map-append (scrub_events table) xs (x ∷ []) ∙ ap (λ (es : List Event). events_of table xs ++ es) (append-nil (scrub_events table x)) in
      let count : length (events_of table (xs ++ x ∷ [])) ≡ length (events_of table xs) + length (scrub_events table x) = ap length events ∙ length-append (events_of table xs) (scrub_events table x) in
      record {
        readings = xs ++ x ∷ [];
        cells_are =
            map-append (λ (it : ScrubReading). it.cells) xs (x ∷ [])
            ∙ ap₂ (λ (front : List StripeReading) (it : StripeReading). front ++ it ∷ []) into.cells_are one.cells_are
            ∙ sym (map-range_with_len_more (reading_at stripes window) 0 i i (omega arith));
        looks = looks_then xs (x ∷ []) old mid new into.looks (looks_one one);
        verdicts_are =
            after_is
            ∙ ap₂ (λ (front : List Verdict) (it : Verdict). front ++ it ∷ []) into.verdicts_are (verdict_is (scrub_events table x) one.found_are)
            ∙ sym (map-append (verdict_of table) xs (x ∷ []));
        findings_are = omega (arith, more_is, into.findings_are, one.found_are.count, count);
      }

  -- of a vault that is untouched before the first stripe and behind the last one
  pub looks_between : (readings : List ScrubReading) (old mid turned new : VaultView) (lines told : Lines W) (reports stand : List R) → IsUntouched old mid → IsUntouched turned new
      → LooksAt view standing stands table readings (scene mid lines reports) (scene turned told stand) → LooksAt view standing stands table readings (scene old lines reports) (scene new told stand)
  looks_between readings old mid turned new lines told reports stand before behind looks = record {
    due = looks.due;
    levels = levels_between table readings old mid turned new before behind looks.levels;
    told = looks.told;
  }

  -- a window with the same slots
  pub one_as : {stripes : List ℕ} {i : ℕ} {found : Found} {old new : Scene W R} (window other : WindowValue) → window ≡ other → LooksAtOne view standing stands table stripes window i found old new → LooksAtOne view standing stands table stripes other i found old new
  one_as {stripes} {i} {found} {old} {new} window other same one = subst (λ (it : WindowValue). LooksAtOne view standing stands table stripes it i found old new) same one
