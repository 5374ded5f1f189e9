-- Which calls are made of a folder, in which order, and what they answer.
use Rattle.std.specs.Prelude.{◌≡◌, ℕ, List, [], ◌∷◌, ◌++◌, length, Bool, None, Some}
use Rattle.disk_model.specs.Folder.{FolderDone, Look, ReadAt}
use Rattle.disk_model.specs.declared.answer.Answer.{Answer}
use Rattle.disk_model.specs.declared.answer.Answer.TheVariants.{Failed, Missing, Saw, Bytes}
use Rattle.disk_model.specs.declared.meta.Meta.{Meta}
use Rattle.stripe_reader.specs.Reading.{CellReading, NoBlock, Nowhere, Beyond, Unread, Gone, Part, Whole, Task, Known, Fetch}

-- a look at a file, and a reading of n bytes of it, each with its answer
abbrev pub look_gave : List ℕ → Bool → Answer → FolderDone
look_gave path lost answer = record { call = Look path lost; answer = answer }

abbrev pub read_gave : List ℕ → Bool → ℕ → ℕ → Answer → FolderDone
read_gave path lost at n answer = record { call = ReadAt path lost at n; answer = answer }

-- a look at a file, which was seen so, and then a reading of it
abbrev pub look_and_read : List ℕ → Bool → ℕ → ℕ → Meta → Answer → List FolderDone
look_and_read path lost at n seen answer = look_gave path lost (Saw seen) ∷ read_gave path lost at n answer ∷ []

-- The calls for n bytes of a file, by what was read. It is not read where one of them failed, and gone where one of
-- them answered that there is no such file; else so many bytes came as the reading answered. What was seen of the file
-- is what the look of this very cell answered.
abbrev pub AreFetchCalls : List ℕ → Bool → ℕ → ℕ → CellReading → List FolderDone → Type 0
AreFetchCalls path lost at n NoBlock done = ⊥
AreFetchCalls path lost at n Nowhere done = ⊥
AreFetchCalls path lost at n Beyond done = ⊥
AreFetchCalls path lost at n (Unread None) done = done ≡ look_gave path lost Failed ∷ []
AreFetchCalls path lost at n (Unread (Some seen)) done = done ≡ look_and_read path lost at n seen Failed
AreFetchCalls path lost at n (Gone None) done = done ≡ look_gave path lost Missing ∷ []
AreFetchCalls path lost at n (Gone (Some seen)) done = done ≡ look_and_read path lost at n seen Missing
AreFetchCalls path lost at n (Part seen got) done = done ≡ look_and_read path lost at n seen (Bytes got)
AreFetchCalls path lost at n (Whole seen bytes) done = done ≡ look_and_read path lost at n seen (Bytes (length bytes))

-- The calls for one cell: none where the reading is known, else a look at the file, and where one was seen, one
-- reading.
abbrev pub AreCellCalls : Task → CellReading → List FolderDone → Type 0
AreCellCalls (Known known) reading done = done ≡ []
AreCellCalls (Fetch path lost at n) reading done = AreFetchCalls path lost at n reading done

-- the calls for cells of a column, one cell after another
abbrev pub AreColumnCalls : List Task → List CellReading → List FolderDone → Type 0
AreColumnCalls [] readings done = done ≡ []
AreColumnCalls (task ∷ tasks) [] done = ⊥
AreColumnCalls (task ∷ tasks) (reading ∷ readings) done =
    (first : List FolderDone) × (rest : List FolderDone) × (done ≡ first ++ rest)
    × AreCellCalls task reading first × AreColumnCalls tasks readings rest
