-- All contents that a copy of a vault may have are bytes, and there are no more of them than calls.
use Rattle.std.proofs.Common.{ℕ, ◌+◌, ◌≤◌, zero, suc, List, [], ◌∷◌, length, get_or, Option, None, Some, IfSome, Bool, true, false, arith}
use Rattle.std.proofs.lemmas.List.Elements.{All-head, All-tail}
use Rattle.disk_model.specs.Answer.{is_failure}
use Rattle.disk_model.specs.Bytes.{AreBytes}
use Rattle.disk_model.specs.Machine.{Machine, Loose, settled, copy_of, draft_in, staged_in, published, after, replay, IsSteady, GivesBytes, AllGiveBytes}
use Rattle.disk_model.specs.Vault.{VaultCall, VaultDone, ParityLen, ParityRead, ParityWrite, ParitySetLen, ParitySync, ContentSize, ContentRead, DraftBegin, DraftAppend, DraftSeal, Publish, is_sealed}
use Rattle.disk_model.proofs.SteadyLemmas.{steady_after}
use Rattle.disk_memory.proofs.ChoiceLemmas.{HasBytes}
use Rattle.disk_calm.proofs.StoreLemmas.{each-set}

abbrev pub HaveBytes : Machine → Type 0
HaveBytes m = (copy : ℕ) → HasBytes (copy_of m copy)

published_has : (seal failed : Bool) (bytes : List ℕ) (copy : Loose) → AreBytes bytes → HasBytes copy → HasBytes (published seal failed bytes copy)
published_has true false bytes copy are has = record { read = are; others = λ k. tt }
published_has true true bytes copy are has = record { read = has.read; others = more }
  where
    more : (k : ℕ) → IfSome (get_or (Some bytes ∷ copy.others) k None) AreBytes
    more zero = are
    more (suc k) = has.others k
published_has false false bytes copy are has = record { read = are; others = λ k. tt }
published_has false true bytes copy are has = record { read = has.read; others = has.others }

have_after : (m : Machine) (call : VaultCall) (failed : Bool) → IsSteady m → HaveBytes m → HaveBytes (after m call failed)
have_after m (ParityLen level) failed steady have = have
have_after m (ParityRead level at n) failed steady have = have
have_after m (ParityWrite level at bytes) false steady have = have
have_after m (ParityWrite level at bytes) true steady have = have
have_after m (ParitySetLen level len) false steady have = have
have_after m (ParitySetLen level len) true steady have = have
have_after m (ParitySync level) false steady have = have
have_after m (ParitySync level) true steady have = have
have_after m (ContentSize copy) failed steady have = have
have_after m (ContentRead copy at n) failed steady have = have
have_after m (DraftBegin copy) failed steady have = have
have_after m (DraftAppend copy bytes) failed steady have = have
have_after m (DraftSeal copy) failed steady have = have
have_after m (Publish copy) failed steady have =
    each-set HasBytes m.copies copy (published (is_sealed (draft_in m copy)) failed (staged_in m copy) (copy_of m copy)) (settled None) have
    (published_has (is_sealed (draft_in m copy)) failed (staged_in m copy) (copy_of m copy) (steady.staged copy) (have copy))

pub have_replay : (m : Machine) (calls : List VaultDone) → IsSteady m → HaveBytes m → AllGiveBytes calls → HaveBytes (replay m calls)
have_replay m [] steady have gives = have
have_replay m (done ∷ calls) steady have gives =
    have_replay (after m done.call (is_failure done.answer)) calls (steady_after m done.call (is_failure done.answer) steady (All-head (λ (d : VaultDone). GivesBytes d.call) done calls gives)) (have_after m done.call (is_failure done.answer) steady have)
    (All-tail (λ (d : VaultDone). GivesBytes d.call) done calls gives)

pub settled_has : (content : Option (List ℕ)) → IfSome content AreBytes → HasBytes (settled content)
settled_has content are = record { read = are; others = λ k. tt }

-- at most so many others are left of each copy
abbrev pub AtMost : ℕ → Machine → Type 0
AtMost n m = (copy : ℕ) → length (copy_of m copy).others ≤ n

published_more : (seal failed : Bool) (bytes : List ℕ) (copy : Loose) (n : ℕ) → length copy.others ≤ n → length (published seal failed bytes copy).others ≤ n + 1
published_more true false bytes copy n few = omega arith
published_more true true bytes copy n few = omega (arith, few)
published_more false false bytes copy n few = omega arith
published_more false true bytes copy n few = omega (arith, few)

more_after : (m : Machine) (call : VaultCall) (failed : Bool) (n : ℕ) → AtMost n m → AtMost (n + 1) (after m call failed)
more_after m (ParityLen level) failed n few copy = omega (arith, few copy)
more_after m (ParityRead level at k) failed n few copy = omega (arith, few copy)
more_after m (ParityWrite level at bytes) false n few copy = omega (arith, few copy)
more_after m (ParityWrite level at bytes) true n few copy = omega (arith, few copy)
more_after m (ParitySetLen level len) false n few copy = omega (arith, few copy)
more_after m (ParitySetLen level len) true n few copy = omega (arith, few copy)
more_after m (ParitySync level) false n few copy = omega (arith, few copy)
more_after m (ParitySync level) true n few copy = omega (arith, few copy)
more_after m (ContentSize other) failed n few copy = omega (arith, few copy)
more_after m (ContentRead other at k) failed n few copy = omega (arith, few copy)
more_after m (DraftBegin other) failed n few copy = omega (arith, few copy)
more_after m (DraftAppend other bytes) failed n few copy = omega (arith, few copy)
more_after m (DraftSeal other) failed n few copy = omega (arith, few copy)
more_after m (Publish other) failed n few copy =
    each-set (λ (c : Loose). length c.others ≤ n + 1) m.copies other (published (is_sealed (draft_in m other)) failed (staged_in m other) (copy_of m other)) (settled None) (λ k. omega (arith, few k))
    (published_more (is_sealed (draft_in m other)) failed (staged_in m other) (copy_of m other) n (few other)) copy

pub more_replay : (m : Machine) (calls : List VaultDone) (n : ℕ) → AtMost n m → AtMost (n + length calls) (replay m calls)
more_replay m [] n few copy = omega (arith, few copy)
more_replay m (done ∷ calls) n few copy = omega (arith, more_replay (after m done.call (is_failure done.answer)) calls (n + 1) (more_after m done.call (is_failure done.answer) n few) copy)
