use Rattle.std.proofs.Common.{◌≡◌, ℕ, ◌<◌, get_or}
use Rattle.disk_calm.specs.Files.{entry_of}
use Rattle.disk_calm.specs.declared.files.MemFile.{MemFile}
use Rattle.disk_calm.proofs.files.have_same.Given as goal

-- the files so far are the same
abbrev pub invariant-loop-place : goal.invariant-loop-place
invariant-loop-place l = (i : ℕ) (d : MemFile) → i < l.place → entry_of (get_or l.files i d) ≡ entry_of (get_or l.others i d)
