use Rattle.std.proofs.Common.{false, rules}
use Rattle.disk_model.specs.Folder.{quiet_folder}
use Rattle.disk_model.specs.Opener.{FolderIsGiven}
use Rattle.progress.proofs.ColumnLemmas.{in_each_column}
use Rattle.progress.proofs.opener.MeteredOpenerOpener.open.Goals as goal

pub returns-clause-folders : goal.returns-clause-folders
returns-clause-folders g c = λ column within.
    in_each_column (FolderIsGiven false (quiet_folder 0 false)) _ _ c.metered_all.result.items c.in_ok-folders.field-0.folders.items (quiet_folder 0 false) c.metered_all.ensures
    (λ k below. c.in_ok-folders.ensures.folders k (search rules)) column (search rules)

pub returns-clause-vault : goal.returns-clause-vault
returns-clause-vault g c = rw c.new.ensures c.in_ok-folders.ensures.vault
