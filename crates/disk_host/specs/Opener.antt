-- An opener of which nothing is known but its count.
use Rattle.std.specs.Prelude.{ℕ, [], false}
use Rattle.disk_model.specs.Folder.{quiet_folder}
use Rattle.disk_model.specs.Vault.{quiet_vault}
use Rattle.disk_model.specs.Opener.{OpenerView}

-- one that tells only what is always told; its folders, its vault and a folder to import begin with counts of 0
abbrev pub quiet_opener : ℕ → OpenerView
quiet_opener faults = record {
  faults = faults;
  tells = false;
  config = [];
  folders = [];
  vault = quiet_vault 0 0 0 [];
  import = quiet_folder 0 false;
  tells_calls = false;
  calls = [];
}
