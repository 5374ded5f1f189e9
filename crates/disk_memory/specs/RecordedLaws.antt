-- That a record tells how what is held came about can be shown in one way only.
use Rattle.std.proofs.Common.{◌≡◌, ℕ, List, Option, Bool, true, false, not, IsTrue, refl, ap, ◌∙◌}
use Rattle.std.specs.Coded.{le_prop}
use Rattle.std.proofs.Props.{props}
use Rattle.disk_model.specs.Machine.{GivesBytes, AllGiveBytes, replay}
use Rattle.disk_model.specs.Vault.{VaultCall, VaultDone, ParityLen, ParityRead, ParityWrite, ParitySetLen, ParitySync, ContentSize, ContentRead, DraftBegin, DraftAppend, DraftSeal, Publish}
use Rattle.disk_model.specs.declared.draft.Draft.{Draft}
use Rattle.disk_calm.specs.Held.{Held}
use Rattle.disk_calm.specs.HeldLaws.{AreBytes-prop}
use Rattle.disk_memory.specs.Recorded.{IsRecorded, opened_by, held_by, calls_since}
use Rattle.disk_memory.specs.declared.calls.VaultEntry.{VaultEntry}
use Rattle.disk_memory.specs.declared.past.Made.{Made}

GivesBytes-prop : (call : VaultCall) → IsProp (GivesBytes call)
GivesBytes-prop (ParityLen level) x y i = tt
GivesBytes-prop (ParityRead level at n) x y i = tt
GivesBytes-prop (ParityWrite level at bytes) x y i = AreBytes-prop bytes x y i
GivesBytes-prop (ParitySetLen level len) x y i = tt
GivesBytes-prop (ParitySync level) x y i = tt
GivesBytes-prop (ContentSize copy) x y i = tt
GivesBytes-prop (ContentRead copy at n) x y i = tt
GivesBytes-prop (DraftBegin copy) x y i = tt
GivesBytes-prop (DraftAppend copy bytes) x y i = AreBytes-prop bytes x y i
GivesBytes-prop (DraftSeal copy) x y i = tt
GivesBytes-prop (Publish copy) x y i = tt

AllGiveBytes-prop : (calls : List VaultDone) → IsProp (AllGiveBytes calls)
AllGiveBytes-prop calls x y i = λ k d below. GivesBytes-prop _ (x k d below) (y k d below) i

files_prop : (a b : List (List ℕ)) → IsProp (a ≡ b)
files_prop a b = Prim.hlevel props

copies_prop : (a b : List (Option (List ℕ))) → IsProp (a ≡ b)
copies_prop a b = Prim.hlevel props

drafts_prop : (a b : List Draft) → IsProp (a ≡ b)
drafts_prop a b = Prim.hlevel props

pub IsRecorded-prop : (lost : Bool) (base : ℕ) (entries : List (Made VaultEntry)) (opened now : Held) → IsProp (IsRecorded lost base entries opened now)
IsRecorded-prop lost base entries opened now x y i = record {
  within = le_prop x.within y.within i;
  gives = AllGiveBytes-prop _ x.gives y.gives i;
  parities = λ told. files_prop _ _ (x.parities told) (y.parities told) i;
  contents = λ told. copies_prop _ _ (x.contents told) (y.contents told) i;
  drafts = λ told. drafts_prop _ _ (x.drafts told) (y.drafts told) i;
  staged = λ told. files_prop _ _ (x.staged told) (y.staged told) i;
}

same_held : (a b : Held) → a.files.parities ≡ b.files.parities → a.files.contents ≡ b.files.contents → a.drafts ≡ b.drafts → a.staged ≡ b.staged → a ≡ b
same_held a b one two three four =
    ap (λ (ps : List (List ℕ)). let h : Held = record { files = record { parities = ps; contents = a.files.contents }; drafts = a.drafts; staged = a.staged } in h) one
    ∙ ap (λ (cs : List (Option (List ℕ))). let h : Held = record { files = record { parities = b.files.parities; contents = cs }; drafts = a.drafts; staged = a.staged } in h) two
    ∙ ap (λ (ds : List Draft). let h : Held = record { files = b.files; drafts = ds; staged = a.staged } in h) three
    ∙ ap (λ (bs : List (List ℕ)). let h : Held = record { files = b.files; drafts = b.drafts; staged = bs } in h) four

pub follows : (lost : Bool) (base : ℕ) (entries : List (Made VaultEntry)) (opened now : Held) → IsRecorded lost base entries opened now → lost ≡ false → held_by (replay (opened_by opened) (calls_since base entries)) ≡ now
follows lost base entries opened now is told = same_held (held_by (replay (opened_by opened) (calls_since base entries))) now (is.parities told) (is.contents told) (is.drafts told) (is.staged told)

pub untold : (b : Bool) → IsTrue (not b) → b ≡ false
untold true told = absurd (let clash : false ≡ true = told in cc)
untold false told = refl
