-- The table is saved at the end of a scrub.
use Rattle.std.specs.Prelude.{Result, OnOk}
use Rattle.content_file.specs.Save.{MaySave, HasSaved, HasNoDraft, piecewise_calls, piece_size}
use Rattle.content_file.specs.Spelling.{spelling}
use Rattle.disk_model.specs.Ran.{Ran}
use Rattle.disk_model.specs.Vault.{VaultView, SomeCalls, ChangesBy, Holds, copies_of, state_of}
use Rattle.disk_model.specs.declared.fault.Failed.{Failed}
use Rattle.file_table.specs.Table.{TableValue}

-- A table is saved to every copy, up to the first call that failed.
pub record Saves {T : Type 0} (table : TableValue) (result : Result T Failed) (old new : VaultView) : Type 0 where
  pub calls : SomeCalls old new
  pub ran : Ran (piecewise_calls piece_size (copies_of old) (spelling table)) result (state_of old) (state_of new)
  pub changes : ChangesBy (MaySave (spelling table)) old new
  pub drafts : HasNoDraft old → HasNoDraft new
  pub saved : OnOk result (Holds (HasSaved (copies_of old) (spelling table)) new)
  pub gone : OnOk result (HasNoDraft new)
