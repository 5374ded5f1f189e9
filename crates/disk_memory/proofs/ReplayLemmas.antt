-- A vault's replay goes on by one call, and keeps the places that were touched.
use Rattle.std.proofs.Common.{◌≡◌, ℕ, ◌+◌, ◌<◌, List, [], ◌∷◌, ◌++◌, length, map, take, get_or, reverse, Bool, true, false, ◌&&◌, ◌||◌, nat_le, nat_lt, refl, sym, ◌∙◌, ap, arith}
use Rattle.std.proofs.lemmas.List.{take_more, map-append, reverse-append}
use Rattle.std.specs.List.{list_any}
use Rattle.disk_model.specs.Answer.{is_failure}
use Rattle.disk_model.specs.Machine.{Machine, after, replay}
use Rattle.disk_model.specs.Unsynced.{is_touched}
use Rattle.disk_model.proofs.MachineLemmas.{replay_push}
use Rattle.disk_memory.specs.Calls.{vault_call, vault_calls, vault_done}
use Rattle.disk_memory.specs.Replay.{places_of, touched_by, holds_place}
use Rattle.disk_memory.specs.declared.calls.VaultEntry.{VaultEntry}
use Rattle.disk_memory.specs.declared.past.Made.{Made}
use Rattle.disk_memory.specs.declared.replay.Range.{Range}

-- one more entry
pub replay_more : (m : Machine) (entries : List (Made VaultEntry)) (i : ℕ) (made : Made VaultEntry) → i < length entries → made ≡ get_or entries i made
    → replay m (vault_calls (take (i + 1) entries)) ≡ after (replay m (vault_calls (take i entries))) (vault_call made.call) (is_failure made.answer)
replay_more m entries i made within is =
    ap (λ (es : List (Made VaultEntry)). replay m (vault_calls es)) (take_more entries i made within ∙ ap (λ (d : Made VaultEntry). take i entries ++ d ∷ []) (sym is))
    ∙ ap (replay m) (map-append vault_done (take i entries) (made ∷ []))
    ∙ replay_push m (vault_calls (take i entries)) (vault_done made)

is_touched-append : (xs ys : List (ℕ × ℕ)) (i : ℕ) → is_touched (xs ++ ys) i ≡ (is_touched xs i || is_touched ys i)
is_touched-append [] ys i = refl
is_touched-append (x ∷ xs) ys i = grind (arith, is_touched-append xs ys i)

or_swap : (a b : Bool) → (a || (b || false)) ≡ (b || a)
or_swap true true = refl
or_swap true false = refl
or_swap false true = refl
or_swap false false = refl

is_touched-reverse : (xs : List (ℕ × ℕ)) (i : ℕ) → is_touched (reverse xs) i ≡ is_touched xs i
is_touched-reverse [] i = refl
is_touched-reverse (x ∷ xs) i =
    ap (λ (ys : List (ℕ × ℕ)). is_touched ys i) (reverse-append (x ∷ []) xs)
    ∙ is_touched-append (reverse xs) (x ∷ []) i
    ∙ ap (λ (b : Bool). b || is_touched (x ∷ []) i) (is_touched-reverse xs i)
    ∙ or_swap (is_touched xs i) (nat_le x.0 i && nat_lt i x.1)

in_order : (ranges : List Range) (place : ℕ) → is_touched (map places_of ranges) place ≡ list_any (λ (range : Range). holds_place range place) ranges
in_order [] place = refl
in_order (range ∷ ranges) place = ap (λ (b : Bool). holds_place range place || b) (in_order ranges place)

-- a place was touched where one of the ranges holds it
pub touched_any : (ranges : List Range) (place : ℕ) → is_touched (touched_by ranges) place ≡ list_any (λ (range : Range). holds_place range place) ranges
touched_any ranges place = is_touched-reverse (map places_of ranges) place ∙ in_order ranges place
