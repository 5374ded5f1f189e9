use Rattle.std.proofs.Common.{◌≡◌, map, take}
use Rattle.disk_model.specs.Tree.{listed}
use Rattle.disk_calm.specs.Files.{info_of}
use Rattle.disk_calm.proofs.files.infos_of.Given as goal

-- the files so far are listed
abbrev pub invariant-loop-file : goal.invariant-loop-file
invariant-loop-file l = listed l.infos.items ≡ map info_of (take l.file-index l.files)
