-- Events told and counted, one number after another.
use Rattle.std.proofs.Common.{◌≡◌, ℕ, ◌+◌, List, [], ◌∷◌, ◌++◌, sym, ap, ◌∙◌, subst}
use Rattle.std.specs.List.{range_with_len, flat_map}
use Rattle.std.proofs.lemmas.Grind.{flat_map-append}
use Rattle.std.proofs.lemmas.List.{append-nil}
use Rattle.disk_model.specs.Sink.{SinkView}
use Rattle.file_table.specs.Table.{Column}
use Rattle.snap_report.proofs.ToldLemmas.{told_then, told_nothing}
use Rattle.snap_report.specs.declared.events.Event.{Event}
use Rattle.snap_report.specs.declared.pages.Lines.{Lines}
use Rattle.snap_report.specs.Report.{ReportView}
use Rattle.snap_report.specs.Told.{Told}
use Rattle.stripe_examiner.specs.Counts.{AreCounts}
use Rattle.stripe_examiner.specs.declared.counts.Counts.{Counts}
use Rattle.folder_listing.proofs.JoinedLemmas.{range_more}

-- the events of the numbers below one
abbrev pub events_to : (ℕ → List Event) → ℕ → List Event
events_to of n = flat_map of (range_with_len 0 n)

pub events_to-more : (of : ℕ → List Event) (n : ℕ) → events_to of (n + 1) ≡ events_to of n ++ of n
events_to-more of n =
    ap (λ (ns : List ℕ). flat_map of ns) (range_more n)
    ∙ flat_map-append of (range_with_len 0 n) (n ∷ [])
    ∙ ap (λ (events : List Event). events_to of n ++ events) (append-nil (of n))

-- counts that stand for those of two lists of events, one after the other
abbrev pub Joins : Counts → Counts → Counts → Type 0
Joins first second both = (events others : List Event) → AreCounts events first → AreCounts others second → AreCounts (events ++ others) both

module _ {W R : Type 0} (view : W → SinkView) (standing : R → ReportView) (stands : R → List Event → Type 0) (columns : List Column) where
  -- these events were told, and these are their counts
  pub record Tells (events : List Event) (counts : Counts) (old new : Lines W) (olds news : List R) : Type 0 where
    pub told : Told view standing stands columns events old new olds news
    pub counts_are : AreCounts events counts

  pub told_as : (events same : List Event) (old new : Lines W) (olds news : List R) → events ≡ same
      → Told view standing stands columns same old new olds news → Told view standing stands columns events old new olds news
  told_as events same old new olds news is told = subst (λ (es : List Event). Told view standing stands columns es old new olds news) (sym is) told

  pub tells_as : (events same : List Event) (counts : Counts) (old new : Lines W) (olds news : List R) → events ≡ same
      → Tells same counts old new olds news → Tells events counts old new olds news
  tells_as events same counts old new olds news is tells = subst (λ (es : List Event). Tells es counts old new olds news) (sym is) tells

  pub tells_nothing : (counts : Counts) (lines : Lines W) (reports : List R) → AreCounts [] counts → Tells [] counts lines lines reports reports
  tells_nothing counts lines reports none = record { told = told_nothing view standing stands columns lines reports; counts_are = none }

  pub tells_then : (front back : List Event) (first second both : Counts) (old mid new : Lines W) (olds mids news : List R) → Joins first second both
      → Tells front first old mid olds mids → Tells back second mid new mids news → Tells (front ++ back) both old new olds news
  tells_then front back first second both old mid new olds mids news joins one two = record {
    told = told_then view standing stands columns front back old mid new olds mids news one.told two.told;
    counts_are = joins front back one.counts_are two.counts_are;
  }

  -- the events of one number more
  pub tells_more : (of : ℕ → List Event) (n : ℕ) (back : List Event) (first second both : Counts) (old mid new : Lines W) (olds mids news : List R)
      → back ≡ of n → Joins first second both
      → Tells (events_to of n) first old mid olds mids
      → Told view standing stands columns back mid new mids news → AreCounts back second
      → Tells (events_to of (n + 1)) both old new olds news
  tells_more of n back first second both old mid new olds mids news is joins before told counts =
      tells_as (events_to of (n + 1)) (events_to of n ++ of n) both old new olds news (events_to-more of n)
      (tells_then (events_to of n) (of n) first second both old mid new olds mids news joins before
      (tells_as (of n) back second mid new mids news (sym is) (record { told = told; counts_are = counts })))

  -- the events of all numbers below a bound, once that is reached
  pub told_to : (of : ℕ → List Event) (n m : ℕ) (counts : Counts) (old new : Lines W) (olds news : List R) → n ≡ m
      → Tells (events_to of m) counts old new olds news → Told view standing stands columns (events_to of n) old new olds news
  told_to of n m counts old new olds news is tells = (tells_as (events_to of n) (events_to of m) counts old new olds news (ap (events_to of) is) tells).told

  pub counts_to : (of : ℕ → List Event) (n m : ℕ) (counts : Counts) (old new : Lines W) (olds news : List R) → n ≡ m
      → Tells (events_to of m) counts old new olds news → AreCounts (events_to of n) counts
  counts_to of n m counts old new olds news is tells = (tells_as (events_to of n) (events_to of m) counts old new olds news (ap (events_to of) is) tells).counts_are
