-- How the calls of a finish break off.
use Rattle.std.proofs.Common.{◌≡◌, ◌≢◌, List, [], ◌∷◌, ◌++◌, ℕ, Bool, true, false, None, IsTrue, Result, Ok, Err, IfOk, IfErr, refl, sym, ◌∙◌}
use Rattle.disk_model.specs.Answer.{file_answer}
use Rattle.disk_model.specs.Folder.{FolderView, FolderCall, IsFolder, MissingExactly}
use Rattle.disk_model.specs.declared.answer.Answer.{Answer}
use Rattle.disk_model.specs.Tree.{file_of}
use Rattle.disk_model.specs.Writing.{IsFolderWrite}
use Rattle.disk_model.specs.declared.fault.FileFault.{FileFault}
use Rattle.disk_model.specs.declared.fault.FileFault.TheVariants.{Missing, Failed}
use Rattle.snap_report.specs.Answer.{is_reading}
use Rattle.file_restorer.specs.FinishSteps.{BreaksBy}
use Rattle.file_restorer.specs.State.{StepMakes}
use Rattle.file_restorer.proofs.FolderCallLemmas.{step_before, step_then, step_wider, step_write}
use Rattle.file_restorer.proofs.FolderFailsLemmas.{fails_one, step_fails_before, step_fails_then, step_fails_wider}

-- after calls that went well
pub breaks_then : (fault : FileFault) (P : FolderCall → Type 0) (ones others : List FolderCall) (old mid new : FolderView) → StepMakes P ones false old mid → BreaksBy fault P others mid new
    → BreaksBy fault P (ones ++ others) old new
breaks_then Failed P ones others old mid new one two = step_fails_then P ones others old mid new one two
breaks_then Missing P ones others old mid new one two = record {
  untold = sym one.goes_on.tells ∙ two.untold;
  makes = step_then P true one two.makes;
  last = two.last;
}

-- before calls that were not made
pub breaks_before : (fault : FileFault) (P : FolderCall → Type 0) (calls more : List FolderCall) (old new : FolderView) → BreaksBy fault P calls old new → BreaksBy fault P (calls ++ more) old new
breaks_before Failed P calls more old new breaks = step_fails_before P calls more breaks
breaks_before Missing P calls more old new breaks = record {
  untold = breaks.untold;
  makes = step_before P calls more breaks.makes;
  last = breaks.last;
}

-- the same calls are of a wider kind
pub breaks_wider : (fault : FileFault) (P Q : FolderCall → Type 0) (calls : List FolderCall) (old new : FolderView) → ((call : FolderCall) → P call → Q call) → BreaksBy fault P calls old new
    → BreaksBy fault Q calls old new
breaks_wider Failed P Q calls old new wider breaks = step_fails_wider P Q calls wider breaks
breaks_wider Missing P Q calls old new wider breaks = record {
  untold = breaks.untold;
  makes = step_wider P Q calls true wider breaks.makes;
  last = (breaks.last.0, wider breaks.last.0 breaks.last.1);
}

not_told : (tells : Bool) → ¬ (IsTrue tells) → tells ≡ false
not_told true none = absurd (none refl)
not_told false none = refl

-- one call on a file that stands failed, or did not find it
pub breaks_one : {T : Type 0} (gives : T → Answer) (result : Result T FileFault) (P : FolderCall → Type 0) (call : FolderCall) (path : List ℕ) (old new : FolderView) → IsFolder new
    → IsFolderWrite call (file_answer gives result) old new → MissingExactly result old path → (IsTrue old.tells → file_of old.tree path ≢ None)
    → is_reading call ≡ false → P call → IfErr result (λ fault. BreaksBy fault P (call ∷ []) old new)
breaks_one gives (Ok _) P call path old new formed wrote missing there writes is = tt
breaks_one gives (Err Failed) P call path old new formed wrote missing there writes is = fails_one P call old new is writes formed wrote
breaks_one gives (Err Missing) P call path old new formed wrote missing there writes is = record {
  untold = not_told old.tells (λ told. there told (missing told));
  makes = step_write P true formed wrote refl refl is;
  last = (call, is);
}

-- a call that did not fail does its work
pub when_ok : {T : Type 0} (gives : T → Answer) (result : Result T FileFault) (call : FolderCall) (old new : FolderView) (P : Type 0)
    → IsFolderWrite call (file_answer gives result) old new → ((given : T) → IsFolderWrite call (gives given) old new → P) → IfOk result (λ _. P)
when_ok gives (Ok given) call old new P wrote does = does given wrote
when_ok gives (Err _) call old new P wrote does = tt
