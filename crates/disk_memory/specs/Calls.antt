-- The calls that a record keeps, as the traits name them.
use Rattle.std.specs.Prelude.{ℕ, ◌+◌, List, map, Bool, true, false, unwrap_or, position}
use Rattle.std.specs.Option.{option_map}
use Rattle.disk_model.specs.Answer.{is_failure}
use Rattle.disk_model.specs.Vault as vault
use Rattle.disk_model.specs.Vault.{VaultCall, VaultDone}
use Rattle.disk_model.specs.Folder as folder
use Rattle.disk_model.specs.Folder.{FolderCall, FolderDone}
use Rattle.disk_model.specs.Opener.{OpenerCall, OpenerDone, Config as OpenerConfig, Open as OpenerOpen, Import as OpenerImport}
use Rattle.disk_memory.specs.declared.past.Made.{Made}
use Rattle.disk_memory.specs.declared.calls.VaultEntry.{VaultEntry}
use Rattle.disk_memory.specs.declared.calls.VaultEntry.TheVariants.{ParityLen, ParityRead, ParityWrite, ParitySetLen, ParitySync, ContentSize, ContentRead, DraftBegin, DraftAppend, DraftSeal, Publish}
use Rattle.disk_memory.specs.declared.calls.FolderEntry.{FolderEntry}
use Rattle.disk_memory.specs.declared.calls.FolderEntry.TheVariants.{ListFiles, Look, ReadAt, Make, WriteAt, SetSize, SetStamp, Rename}
use Rattle.disk_memory.specs.declared.calls.OpenerEntry.{OpenerEntry}
use Rattle.disk_memory.specs.declared.calls.OpenerEntry.TheVariants.{Config, Open, Import}

-- a call of a vault
abbrev pub vault_call : VaultEntry → VaultCall
vault_call (ParityLen level) = vault.ParityLen level
vault_call (ParityRead level at n) = vault.ParityRead level at n
vault_call (ParityWrite level at bytes) = vault.ParityWrite level at bytes
vault_call (ParitySetLen level len) = vault.ParitySetLen level len
vault_call (ParitySync level) = vault.ParitySync level
vault_call (ContentSize copy) = vault.ContentSize copy
vault_call (ContentRead copy at n) = vault.ContentRead copy at n
vault_call (DraftBegin copy) = vault.DraftBegin copy
vault_call (DraftAppend copy bytes) = vault.DraftAppend copy bytes
vault_call (DraftSeal copy) = vault.DraftSeal copy
vault_call (Publish copy) = vault.Publish copy

-- with what became of it
abbrev pub vault_done : Made VaultEntry → VaultDone
vault_done m = record { call = vault_call m.call; answer = m.answer }

abbrev pub vault_calls : List (Made VaultEntry) → List VaultDone
vault_calls entries = map vault_done entries

-- whether a call is a write to a parity file
abbrev pub is_write : VaultCall → Bool
is_write (vault.ParityWrite level at bytes) = true
is_write (vault.ParityLen level) = false
is_write (vault.ParityRead level at n) = false
is_write (vault.ParitySetLen level len) = false
is_write (vault.ParitySync level) = false
is_write (vault.ContentSize copy) = false
is_write (vault.ContentRead copy at n) = false
is_write (vault.DraftBegin copy) = false
is_write (vault.DraftAppend copy bytes) = false
is_write (vault.DraftSeal copy) = false
is_write (vault.Publish copy) = false

-- the number, from 1, of the first write to a parity file among these calls, 0 where there is none
abbrev pub first_write : List VaultDone → ℕ
first_write calls = unwrap_or (option_map (λ i. i + 1) (position (λ (d : VaultDone). is_write d.call) calls)) 0

-- a call of a folder
abbrev pub folder_call : FolderEntry → FolderCall
folder_call ListFiles = folder.ListFiles
folder_call (Look path lost) = folder.Look path lost
folder_call (ReadAt path lost at n) = folder.ReadAt path lost at n
folder_call (Make path) = folder.Make path
folder_call (WriteAt path at bytes) = folder.WriteAt path at bytes
folder_call (SetSize path size) = folder.SetSize path size
folder_call (SetStamp path stamp) = folder.SetStamp path stamp
folder_call (Rename path lost) = folder.Rename path lost

-- with what became of it
abbrev pub folder_done : Made FolderEntry → FolderDone
folder_done m = record { call = folder_call m.call; answer = m.answer }

abbrev pub folder_calls : List (Made FolderEntry) → List FolderDone
folder_calls entries = map folder_done entries

-- a call of an opener
abbrev pub opener_call : OpenerEntry → OpenerCall
opener_call (Config name) = OpenerConfig name
opener_call (Open places) = OpenerOpen places.dirs.items places.parities.items places.contents.items
opener_call (Import dir) = OpenerImport dir

-- with what became of it
abbrev pub opener_done : Made OpenerEntry → OpenerDone
opener_done m = record { call = opener_call m.call; failed = is_failure m.answer }

abbrev pub opener_calls : List (Made OpenerEntry) → List OpenerDone
opener_calls entries = map opener_done entries
