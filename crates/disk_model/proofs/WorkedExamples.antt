-- What the rules of the disk model leave after some calls, computed.
use Rattle.std.proofs.Common.{◌≡◌, List, [], ◌∷◌, Some, true, false, refl}
use Rattle.disk_model.specs.Files.{Files}
use Rattle.disk_model.specs.Machine.{Machine, level_of, copy_of, draft_in, replay, opened_with}
use Rattle.disk_model.specs.Vault.{plain_done}
use Rattle.disk_model.specs.Vault.{VaultDone, ParityWrite, ParitySetLen, ParitySync, DraftBegin, DraftAppend, DraftSeal, Publish}
use Rattle.disk_model.specs.declared.draft.Draft.TheVariants.{Absent}

-- a level of three bytes, and a copy of one
abbrev small : Files
small = record { parities = (1 ∷ 2 ∷ 3 ∷ []) ∷ []; contents = Some (7 ∷ []) ∷ [] }

abbrev after_calls : List VaultDone → Machine
after_calls calls = replay (opened_with small) calls

-- a write past the end: zeros before it, and all that was added is unsynced
written_past_the_end : level_of (after_calls (plain_done (ParityWrite 0 5 (9 ∷ [])) false ∷ [])) 0 ≡ record { read = 1 ∷ 2 ∷ 3 ∷ 0 ∷ 0 ∷ 9 ∷ []; touched = (3, 6) ∷ []; least = 3; greatest = 6 }
written_past_the_end = refl

-- one that failed shows nothing, and may have been done
failed_write : level_of (after_calls (plain_done (ParityWrite 0 5 (9 ∷ [])) true ∷ [])) 0 ≡ record { read = 1 ∷ 2 ∷ 3 ∷ []; touched = (3, 6) ∷ []; least = 3; greatest = 6 }
failed_write = refl

-- a level that was cut to one byte and grew to four: only its first byte is sure, and it has one to four
cut_and_grown : level_of (after_calls (plain_done (ParitySetLen 0 1) false ∷ plain_done (ParitySetLen 0 4) false ∷ [])) 0 ≡ record { read = 1 ∷ 0 ∷ 0 ∷ 0 ∷ []; touched = (1, 4) ∷ (1, 3) ∷ []; least = 1; greatest = 4 }
cut_and_grown = refl

-- a sync makes it sure, and one that failed doesn't
synced_again : level_of (after_calls (plain_done (ParitySetLen 0 1) false ∷ plain_done (ParitySync 0) false ∷ [])) 0 ≡ record { read = 1 ∷ []; touched = []; least = 1; greatest = 1 }
synced_again = refl

not_synced : level_of (after_calls (plain_done (ParitySetLen 0 1) false ∷ plain_done (ParitySync 0) true ∷ [])) 0 ≡ record { read = 1 ∷ []; touched = (1, 3) ∷ []; least = 1; greatest = 3 }
not_synced = refl

abbrev drafted : List VaultDone → List VaultDone
drafted calls = plain_done (DraftBegin 0) false ∷ plain_done (DraftAppend 0 (8 ∷ [])) false ∷ calls

-- a sealed draft is the copy, or where the publish failed the copy before or the draft
sealed_draft : copy_of (after_calls (drafted (plain_done (DraftSeal 0) false ∷ plain_done (Publish 0) false ∷ []))) 0 ≡ record { read = Some (8 ∷ []); others = []; any = false }
sealed_draft = refl

sealed_draft_failed : copy_of (after_calls (drafted (plain_done (DraftSeal 0) false ∷ plain_done (Publish 0) true ∷ []))) 0 ≡ record { read = Some (7 ∷ []); others = Some (8 ∷ []) ∷ []; any = false }
sealed_draft_failed = refl

-- an unsealed one leaves anything
unsealed_draft : copy_of (after_calls (drafted (plain_done (Publish 0) false ∷ []))) 0 ≡ record { read = Some (8 ∷ []); others = []; any = true }
unsealed_draft = refl

-- a draft is in no image: where its call fails there is none, and the copy is as before
draft_failed : copy_of (after_calls (drafted (plain_done (DraftSeal 0) true ∷ []))) 0 ≡ record { read = Some (7 ∷ []); others = []; any = false }
draft_failed = refl

no_draft_left : draft_in (after_calls (drafted (plain_done (DraftSeal 0) true ∷ []))) 0 ≡ Absent
no_draft_left = refl
