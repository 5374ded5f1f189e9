-- The calls of a folder that write, one after another.
use Rattle.std.proofs.Common.{◌≡◌, List, [], ◌∷◌, ◌++◌, All, map, Bool, true, false, not, filter, if◌then◌else◌, refl, sym, ap, ap₂, ◌∙◌, arith, subst}
use Rattle.std.proofs.lemmas.List.{append-nil, map-append}
use Rattle.std.proofs.lemmas.List.Elements.{All-head, All-tail, All-weaker, filter-append}
use Rattle.disk_model.specs.Folder.{FolderView, FolderCall, FolderDone, FolderGoesOn}
use Rattle.disk_model.specs.Writing.{IsFolderWrite}
use Rattle.disk_model.specs.declared.meta.Stamp.{Stamp}
use Rattle.disk_model.proofs.CountLemmas.{counts_none}
use Rattle.snap_report.specs.Answer.{is_reading}
use Rattle.stripe_reader.specs.Column.{ReadsBy}
use Rattle.stripe_reader.specs.FolderCalls.{AreColumnCalls}
use Rattle.stripe_reader.specs.Reading.{CellReading, Task}
use Rattle.stripe_reader.proofs.FolderLemmas.{goes_on_then}
use Rattle.file_restorer.specs.Order.{FolderWrites, answer_to, is_writing, went_well}
use Rattle.file_restorer.specs.State.{WellCall}
use Rattle.file_restorer.proofs.FolderCallLemmas.{well_column}

-- ---- what a folder gets

pub writes_none : (v : FolderView) → FolderWrites [] v v
writes_none v = record {
  done = [];
  goes_on = record { later = omega arith; writes = counts_none v.writes; keeps = refl; closed = refl; tells = refl; calls = record { told = λ t. t; more = λ t. sym (append-nil v.calls) } };
  are = refl;
}

pub writes_then : (one two : List FolderCall) {old mid new : FolderView} → FolderWrites one old mid → FolderWrites two mid new → FolderWrites (one ++ two) old new
writes_then one two {old = old} {mid = mid} {new = new} first more = record {
  done = first.done ++ more.done;
  goes_on = goes_on_then old mid new first.done more.done first.goes_on more.goes_on;
  are =
      let keeps = old.keeps in
      let later = subst (λ (k : Stamp → Bool). filter is_writing more.done ≡ map (went_well k) two) first.goes_on.keeps more.are in
      filter-append is_writing first.done more.done ∙ ap₂ (λ (a b : List FolderDone). a ++ b) first.are later
      ∙ sym (map-append (went_well keeps) one two);
}

-- one call that writes
pub writes_one : (call : FolderCall) {old new : FolderView} → is_reading call ≡ false → IsFolderWrite call (answer_to old.keeps call) old new
    → FolderWrites (call ∷ []) old new
writes_one call {old = old} writing wrote = record {
  done = went_well old.keeps call ∷ [];
  goes_on = wrote.called.goes_on;
  are = ap (λ (reading : Bool). if not reading then went_well old.keeps call ∷ [] else []) writing;
}

-- calls that only read
abbrev pub Reads : FolderDone → Type 0
Reads done = is_reading done.call ≡ true

pub none_write : (done : List FolderDone) → All Reads done → filter is_writing done ≡ []
none_write [] all = refl
none_write (one ∷ done) all =
    ap (λ (reading : Bool). if not reading then one ∷ filter is_writing done else filter is_writing done) (All-head Reads one done all)
    ∙ none_write done (All-tail Reads one done all)

pub writes_reading : (done : List FolderDone) {old new : FolderView} → All Reads done → FolderGoesOn old new done → FolderWrites [] old new
writes_reading done all goes_on = record { done = done; goes_on = goes_on; are = none_write done all }

-- cells of a column were read
pub column_read : (tasks : List Task) (readings : List CellReading) {old new : FolderView} → ReadsBy (AreColumnCalls tasks readings) old new → FolderWrites [] old new
column_read tasks readings read =
    writes_reading read.done
    (All-weaker (WellCall Reading) Reads (λ (done : FolderDone) is. is.0) read.done (well_column Reading (λ path lost. refl) (λ path lost at n. refl) tasks readings read.done read.are)) read.goes_on
  where
    Reading : FolderCall → Type 0
    Reading call = is_reading call ≡ true
