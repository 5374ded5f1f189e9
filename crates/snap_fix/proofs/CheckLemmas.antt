-- All stripes of a check, window after window.
use Rattle.std.proofs.Common.{◌≡◌, ℕ, ◌+◌, ◌<◌, List, [], ◌∷◌, ◌++◌, length, take, drop, get_or, sym, ap, ap₂, ◌∙◌, subst}
use Rattle.std.proofs.Math.Seq.{take-add}
use Rattle.std.proofs.lemmas.Grind.{flat_map-append}
use Rattle.std.proofs.lemmas.List.{append-nil, get_or-map, length-map, map-append, take_more}
use Rattle.disk_model.specs.Folder.{FolderView}
use Rattle.disk_model.specs.Sink.{SinkView}
use Rattle.file_table.specs.Table.{TableValue}
use Rattle.snap_report.specs.Report.{ReportView}
use Rattle.snap_report.specs.declared.events.Event.{Event}
use Rattle.stripe_reader.specs.Columns.{ReadsWindow}
use Rattle.stripe_reader.specs.WindowValue.{WindowValue}
use Rattle.snap_fix.specs.declared.beginning.Work.{Work}
use Rattle.stripe_examiner.specs.declared.counts.Counts.{Counts}
use Rattle.stripe_examiner.specs.declared.room.StripeRoom.{StripeRoom}
use Rattle.snap_fix.specs.Checking.{AreShown, KeepsWork, plan_for}
use Rattle.stripe_examiner.specs.Counts.{AreCounts}
use Rattle.stripe_examiner.specs.Facts.{StripeFacts}
use Rattle.stripe_examiner.specs.Findings.{events_of, stripe_events}
use Rattle.stripe_examiner.specs.Looking.{AreRead, LooksAt, LooksInto, Scene, facts_at, no_facts, numbers_of}
use Rattle.repair_scope.specs.Plan.{FixPlan}
use Rattle.stripe_examiner.proofs.LookingLemmas.{looks_then}
use Rattle.snap_fix.proofs.ReadLemmas.{read_then, read_window}

pub keeps_then : (table : TableValue) (one two three : Work) → KeepsWork table one two → KeepsWork table two three → KeepsWork table one three
keeps_then table one two three first next = record {
  rest = next.rest ∙ ap (λ (it : Work). let w : Work = record it { room = three.room } in w) first.rest;
  room = next.room;
}

-- the work of a window is that of the run, but for its room
module _ (table : TableValue) (first work : Work) (kept : KeepsWork table first work) where
  plan_same : plan_for table work ≡ plan_for table first
  plan_same = ap (plan_for table) kept.rest

  pub next_same : (done count : ℕ) → take count (drop done work.stripes.items) ≡ take count (drop done first.stripes.items)
  next_same done count = ap (λ (it : Work). take count (drop done it.stripes.items)) kept.rest

  -- the numbers of the stripes after one window more
  numbers_more : (xs ys : List StripeFacts) (done count : ℕ) → numbers_of xs ≡ take done first.stripes.items
      → numbers_of ys ≡ take count (drop done work.stripes.items) → numbers_of (xs ++ ys) ≡ take (done + count) first.stripes.items
  numbers_more xs ys done count one two =
      map-append (λ (it : StripeFacts). it.stripe) xs ys
      ∙ ap₂ (λ (front back : List ℕ). front ++ back) one (two ∙ next_same done count)
      ∙ sym (take-add done count first.stripes.items)

  -- what was read into a window was read for the run
  read_for : (done count : ℕ) (before window : WindowValue) (olds news : List FolderView) → ReadsWindow table work.starts (take count (drop done work.stripes.items)) before window olds news
      → ReadsWindow table first.starts (take count (drop done work.stripes.items)) before window olds news
  read_for done count before window olds news read =
      subst (λ starts. ReadsWindow table starts (take count (drop done work.stripes.items)) before window olds news) (ap (λ (it : Work). it.starts) kept.rest) read

  module _ {W R : Type 0} (view : W → SinkView) (standing : R → ReportView) (stands : R → List Event → Type 0) where
    looks_for : (ys : List StripeFacts) (counts : Counts) (old new : Scene W R) → LooksAt view standing stands (plan_for table work) ys counts old new → LooksAt view standing stands (plan_for table first) ys counts old new
    looks_for ys counts old new looks = subst (λ (plan : FixPlan). LooksAt view standing stands plan ys counts old new) plan_same looks

    -- one window more was read and looked at
    pub checked_more : (xs : List StripeFacts) (done count : ℕ) (before window : WindowValue) (one two both : Counts) (olds mids news : List FolderView) (old mid new : Scene W R)
        → length before.lanes ≡ length mids → numbers_of xs ≡ take done first.stripes.items → AreRead (plan_for table first) first.starts xs olds mids → LooksAt view standing stands (plan_for table first) xs one old mid
        → ((events others : List Event) → AreCounts events one → AreCounts others two → AreCounts (events ++ others) both)
        → ReadsWindow table work.starts (take count (drop done work.stripes.items)) before window mids news
        → LooksInto view standing stands (plan_for table work) (take count (drop done work.stripes.items)) window two mid new
        → record {
          stripes : List StripeFacts;
          numbers : numbers_of stripes ≡ take (done + count) first.stripes.items;
          read : AreRead (plan_for table first) first.starts stripes olds news;
          looks : LooksAt view standing stands (plan_for table first) stripes both old new;
        }
    checked_more xs done count before window one two both olds mids news old mid new lanes numbers read looks and reads into = record {
      stripes = xs ++ into.stripes;
      numbers = numbers_more xs into.stripes done count numbers into.numbers_are;
      read = read_then (plan_for table first) first.starts xs into.stripes olds mids news read
          (read_window (plan_for table first) first.starts into.stripes (take count (drop done work.stripes.items)) before window mids news into.numbers_are into.slots lanes (read_for done count before window mids news reads));
      looks = looks_then view standing stands (plan_for table first) xs into.stripes one two both old mid new and looks (looks_for into.stripes two mid new into.looks);
    }

-- ---- a window that was examined

module _ (plan : FixPlan) (all : List StripeFacts) (numbers : List ℕ) (window : WindowValue) (rooms : List StripeRoom) (shown : AreShown plan all numbers window rooms) where
  pub as_many_shown : length all ≡ length numbers
  as_many_shown = sym (length-map all (λ (it : StripeFacts). it.stripe)) ∙ ap (λ (ns : List ℕ). length ns) shown.numbers_are

  pub number_shown : (k : ℕ) → k < length all → (facts_at all k).stripe ≡ get_or numbers k 0
  number_shown k below = sym (get_or-map (λ (it : StripeFacts). it.stripe) all k no_facts 0 below) ∙ ap (λ (ns : List ℕ). get_or ns k 0) shown.numbers_are

-- the events of one stripe more
pub events_more : (plan : FixPlan) (all : List StripeFacts) (k : ℕ) → k < length all
    → events_of plan (take (k + 1) all) ≡ events_of plan (take k all) ++ stripe_events plan (facts_at all k)
events_more plan all k below =
    ap (events_of plan) (take_more all k no_facts below)
    ∙ flat_map-append (stripe_events plan) (take k all) (facts_at all k ∷ [])
    ∙ ap (λ (events : List Event). events_of plan (take k all) ++ events) (append-nil (stripe_events plan (facts_at all k)))
