-- Where hashes and infos alone change, events are printed alike and can be named alike.
use Rattle.std.proofs.Common.{◌≡◌, ℕ, List, [], ◌∷◌, ◌++◌, refl, ap, ap₂, subst, arith}
use Rattle.std.specs.Prelude.{codes}
use Rattle.std.specs.Fmt.{decimal}
use Rattle.disk_model.specs.Sink.{SinkView}
use Rattle.disk_model.specs.declared.meta.Meta.{Meta}
use Rattle.file_table.specs.Closing.{DiffersInHashesAndInfos}
use Rattle.file_table.specs.Table.{TableValue, record_at}
use Rattle.snap_report.specs.EventFits.{Fits}
use Rattle.snap_report.specs.EventLines.{joined, event_line, lines_of}
use Rattle.snap_report.specs.EventFits.{IsRecordOf}
use Rattle.snap_report.specs.Report.{ReportView, AllGiven}
use Rattle.snap_report.specs.State.{Puts}
use Rattle.snap_report.specs.Text.{file_text, meta_text, found_text, record_text}
use Rattle.snap_report.specs.Told.{Told}
use Rattle.snap_report.specs.declared.events.Event.{Event}
use Rattle.snap_report.specs.declared.events.Event.TheVariants.{Changed, ChangedBlock, Silent, Io, ParityIo, Parity, Unsynced, Lost, Blocked, Fixed, FixedParity, Restored, Renamed, NoStamp}
use Rattle.snap_report.specs.declared.pages.Lines.{Lines}
use Rattle.snap_sync.specs.Closing.{closed}
use Rattle.stripe_findings.specs.Reading.{StripeReading}
use Rattle.snap_sync.proofs.StaysLemmas.{differs-closed}

module _ (old new : TableValue) (differs : DiffersInHashesAndInfos old new) where
  -- a file is named alike, and is as recorded
  text_same : (disk rec : ℕ) → record_text new.columns disk rec ≡ record_text old.columns disk rec
  text_same disk rec = ap₂ file_text (differs.files disk).name ((differs.files disk).path rec)

  meta_same : (disk rec : ℕ) → (record_at new.columns disk rec).meta ≡ (record_at old.columns disk rec).meta
  meta_same disk rec = (differs.files disk).meta rec

  file_line : (word : List ℕ) (disk rec : ℕ)
      → joined (word ∷ record_text new.columns disk rec ∷ codes "\n" ∷ []) ≡ joined (word ∷ record_text old.columns disk rec ∷ codes "\n" ∷ [])
  file_line word disk rec = ap (λ (text : List ℕ). joined (word ∷ text ∷ codes "\n" ∷ [])) (text_same disk rec)

  block_line : (word : List ℕ) (stripe disk rec index : ℕ)
      → joined (word ∷ decimal stripe ∷ codes " " ∷ record_text new.columns disk rec ∷ codes " " ∷ decimal index ∷ codes "\n" ∷ [])
      ≡ joined (word ∷ decimal stripe ∷ codes " " ∷ record_text old.columns disk rec ∷ codes " " ∷ decimal index ∷ codes "\n" ∷ [])
  block_line word stripe disk rec index =
      ap (λ (text : List ℕ). joined (word ∷ decimal stripe ∷ codes " " ∷ text ∷ codes " " ∷ decimal index ∷ codes "\n" ∷ [])) (text_same disk rec)

  silent_line : (stripe disk rec index : ℕ) (recorded found : List ℕ)
      → joined (codes "silent " ∷ decimal stripe ∷ codes " " ∷ record_text new.columns disk rec ∷ codes " " ∷ decimal index
      ∷ codes " recorded " ∷ recorded ∷ codes " found " ∷ found ∷ codes "\n" ∷ [])
      ≡ joined (codes "silent " ∷ decimal stripe ∷ codes " " ∷ record_text old.columns disk rec ∷ codes " " ∷ decimal index
      ∷ codes " recorded " ∷ recorded ∷ codes " found " ∷ found ∷ codes "\n" ∷ [])
  silent_line stripe disk rec index recorded found =
      ap (λ (text : List ℕ). joined (codes "silent " ∷ decimal stripe ∷ codes " " ∷ text ∷ codes " " ∷ decimal index
      ∷ codes " recorded " ∷ recorded ∷ codes " found " ∷ found ∷ codes "\n" ∷ []))
      (text_same disk rec)

  pub event_line-same : (event : Event) → event_line new.columns event ≡ event_line old.columns event
  event_line-same (Changed disk rec found) =
      ap₂ (λ (text : List ℕ) (meta : Meta). joined (codes "changed " ∷ text ∷ codes " recorded " ∷ meta_text meta ∷ found_text found ∷ codes "\n" ∷ []))
      (text_same disk rec) (meta_same disk rec)
  event_line-same (ChangedBlock stripe disk rec index found got) =
      ap₂ (λ (text : List ℕ) (meta : Meta). joined (codes "changed-block " ∷ decimal stripe ∷ codes " " ∷ text ∷ codes " " ∷ decimal index
      ∷ codes " recorded " ∷ meta_text meta ∷ found_text found ∷ codes " got " ∷ decimal got ∷ codes "\n" ∷ []))
      (text_same disk rec) (meta_same disk rec)
  event_line-same (Silent stripe disk rec index recorded found) = silent_line stripe disk rec index _ _
  event_line-same (Io stripe disk rec index) = block_line (codes "io ") stripe disk rec index
  event_line-same (ParityIo stripe level) = refl
  event_line-same (Parity stripe level) = refl
  event_line-same (Unsynced stripe) = refl
  event_line-same (Lost stripe disk rec index) = block_line (codes "unrecoverable ") stripe disk rec index
  event_line-same (Blocked disk rec) = file_line (codes "blocked ") disk rec
  event_line-same (Fixed stripe disk rec index) = block_line (codes "fixed ") stripe disk rec index
  event_line-same (FixedParity stripe level) = refl
  event_line-same (Restored disk rec) = file_line (codes "restored ") disk rec
  event_line-same (Renamed disk rec) = file_line (codes "renamed ") disk rec
  event_line-same (NoStamp disk rec) = file_line (codes "no-stamp ") disk rec

  pub lines_of-same : (events : List Event) → lines_of new.columns events ≡ lines_of old.columns events
  lines_of-same [] = refl
  lines_of-same (event ∷ events) = ap₂ (λ (here rest : List ℕ). here ++ rest) (event_line-same event) (lines_of-same events)

  -- an event that one table names, the other names
  record_of_new : (disk rec : ℕ) → IsRecordOf old.columns disk rec → IsRecordOf new.columns disk rec
  record_of_new disk rec is = record { column = omega (arith, differs.columns, is.column); within = omega (arith, (differs.files disk).count, is.within) }

  pub fits_new : (event : Event) → Fits old.columns event → Fits new.columns event
  fits_new (Changed disk rec found) is = record_of_new disk rec is
  fits_new (ChangedBlock stripe disk rec index found got) is = record_of_new disk rec is
  fits_new (Silent stripe disk rec index recorded found) is = record_of_new disk rec is
  fits_new (Io stripe disk rec index) is = record_of_new disk rec is
  fits_new (ParityIo stripe level) is = is
  fits_new (Parity stripe level) is = is
  fits_new (Unsynced stripe) is = is
  fits_new (Lost stripe disk rec index) is = record_of_new disk rec is
  fits_new (Blocked disk rec) is = record_of_new disk rec is
  fits_new (Fixed stripe disk rec index) is = record_of_new disk rec is
  fits_new (FixedParity stripe level) is = is
  fits_new (Restored disk rec) is = record_of_new disk rec is
  fits_new (Renamed disk rec) is = record_of_new disk rec is
  fits_new (NoStamp disk rec) is = record_of_new disk rec is

-- ---- after some stripes were read

module _ (now : ℕ) (start : TableValue) (xs : List StripeReading) where
  pub lines_of-closed : (events : List Event) → lines_of (closed now start xs).columns events ≡ lines_of start.columns events
  lines_of-closed events = lines_of-same start (closed now start xs) (differs-closed now start xs) events

  pub fits-closed : (event : Event) → Fits start.columns event → Fits (closed now start xs).columns event
  fits-closed event is = fits_new start (closed now start xs) (differs-closed now start xs) event is

  -- what is told by the table in hand is told by the laid out one
  pub told-closed : {W R : Type 0} (view : W → SinkView) (standing : R → ReportView) (stands : R → List Event → Type 0) (events : List Event) (old new : Lines W) (olds news : List R)
      → Told view standing stands (closed now start xs).columns events old new olds news → Told view standing stands start.columns events old new olds news
  told-closed view standing stands events old new olds news told = record {
    puts = subst (λ (text : List ℕ). Puts view text old new) (lines_of-closed events) told.puts;
    settled = told.settled;
    given = subst (λ (text : List ℕ). AllGiven standing stands text events olds news) (lines_of-closed events) told.given;
  }
