-- In which order a folder gets the calls of a fix that write.
use Rattle.std.specs.Prelude.{◌≡◌, ℕ, List, [], ◌∷◌, ◌++◌, map, filter, not, Bool, false, if◌then◌else◌}
use Rattle.disk_model.specs.Folder.{FolderView, FolderCall, FolderDone, FolderGoesOn, ListFiles, Look, ReadAt, Make, WriteAt, SetSize, SetStamp, Rename}
use Rattle.disk_model.specs.declared.answer.Answer.{Answer}
use Rattle.disk_model.specs.declared.answer.Answer.TheVariants.{Done, Kept}
use Rattle.disk_model.specs.declared.meta.Stamp.{Stamp}
use Rattle.snap_report.specs.Answer.{is_reading}
use Rattle.stripe_reader.specs.declared.starts.Place.{Place}
use Rattle.stripe_reader.specs.declared.starts.Place.TheVariants.{Plain, Lost, Nowhere}
use Rattle.file_restorer.specs.State.{stands}

-- a call that neither looks at a file nor reads one: it writes, or lists the folder
abbrev pub is_writing : FolderDone → Bool
is_writing done = not (is_reading done.call)

-- what a call that writes answers where it neither fails nor finds no file, in a folder that keeps these stamps
abbrev pub answer_to : (Stamp → Bool) → FolderCall → Answer
answer_to keeps ListFiles = Done
answer_to keeps (Look path lost) = Done
answer_to keeps (ReadAt path lost at n) = Done
answer_to keeps (Make path) = Done
answer_to keeps (WriteAt path at bytes) = Done
answer_to keeps (SetSize path size) = Done
answer_to keeps (SetStamp path stamp) = Kept (keeps stamp)
answer_to keeps (Rename path lost) = Done

abbrev pub went_well : (Stamp → Bool) → FolderCall → FolderDone
went_well keeps call = record { call = call; answer = answer_to keeps call }

-- Of all calls of a folder just these write, in this order, as far as the folder tells its calls. None of them failed,
-- and each found its file.
pub record FolderWrites (calls : List FolderCall) (old new : FolderView) : Type 0 where
  pub done : List FolderDone
  pub goes_on : FolderGoesOn old new done
  pub are : filter is_writing done ≡ map (went_well old.keeps) calls

-- the call that puts a file under PATH, where it has the other name or there is none
abbrev pub set_up_calls : Place → List ℕ → List FolderCall
set_up_calls Plain path = []
set_up_calls Lost path = Rename path false ∷ []
set_up_calls Nowhere path = Make path ∷ []

-- the same, if it does not stand there yet
abbrev pub put_calls : Place → Bool → List ℕ → List FolderCall
put_calls place touched path = if stands place touched then [] else set_up_calls place path

-- the calls that write a block: the file is put under PATH first, if it does not stand there yet
abbrev pub block_calls : Place → Bool → List ℕ → ℕ → List ℕ → List FolderCall
block_calls place touched path at bytes = put_calls place touched path ++ WriteAt path at bytes ∷ []
