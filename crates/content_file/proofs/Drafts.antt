-- A draft from its beginning to its seal, and its end.
use Rattle.std.proofs.Common.{◌≡◌, inl, inr, ℕ, suc, ◌+◌, ◌*◌, List, [], ◌∷◌, ◌++◌, ◌<◌, ◌≤◌, min, length, take, drop, false, Result, refl, sym, ◌∙◌, ap, subst, append_assoc, set, arith, length-drop, take-append-drop}
use Rattle.std.proofs.lemmas.Bool.{cases_lt}
use Rattle.std.proofs.lemmas.List.{drop-drop, take_min}
use Rattle.std.proofs.Math.ListN.{drop_of_length-le}
use Rattle.std.proofs.Math.Nat.{zero-mul, suc-mul, mul-le-mul_right}
use Rattle.std.proofs.lemmas.Grind.{div_ceil_times}
use Rattle.disk_model.specs.Files.{Stays}
use Rattle.disk_model.specs.Vault.{VaultView, VaultCall, plain_done, DraftAppend, GoesOn, IsCall, SomeCalls, ChangesBy, DraftIs, staged_of, draft_of, copies_of, IsWellFormed}
use Rattle.disk_model.specs.declared.answer.Answer.TheVariants.{Done}
use Rattle.disk_model.specs.declared.draft.Draft.{Draft}
use Rattle.disk_model.specs.declared.draft.Draft.TheVariants.{Absent, Open, Sealed}
use Rattle.disk_model.specs.declared.fault.Failed.{Failed}
use Rattle.disk_model.proofs.VaultLemmas.{no_calls, more_calls, changes_start, stays_then, draft_as_it_is, draft_then, draft_bytes}
use Rattle.disk_model.specs.Calls.{MakesThese}
use Rattle.disk_model.proofs.CallsLemmas.{these_none}
use Rattle.disk_model.proofs.InOrder.{each_of, each_more}
use Rattle.content_file.specs.Save.{piece_count, append_call}

-- what the draft holds and what is still to be written are the bytes; so many pieces were written
pub record Filling (size copy : ℕ) (bytes rest : List ℕ) (old now : VaultView) : Type 0 where
  pub calls : SomeCalls old now
  pub pieces : ℕ
  pub made : MakesThese (each_of (append_call size copy bytes) pieces) old now
  pub rest_is : rest ≡ drop (pieces * size) bytes
  pub within : pieces * size < length bytes + size
  pub changes : ChangesBy Stays old now
  pub written : List ℕ
  pub draft : DraftIs copy Open written old now
  pub left : written ++ rest ≡ staged_of old copy ++ bytes

pub filling_start : (size copy : ℕ) (bytes : List ℕ) (old : VaultView) → 0 < size → draft_of old copy ≡ Open → Filling size copy bytes bytes old old
filling_start size copy bytes old some is_open = record {
  calls = no_calls old;
  pieces = 0;
  made = these_none old;
  rest_is = ap (λ n. drop n bytes) (sym (zero-mul size));
  within = omega (arith, some, zero-mul size);
  changes = changes_start Stays old (λ _. refl);
  written = staged_of old copy;
  draft = subst (λ d. DraftIs copy d (staged_of old copy) old old) is_open (draft_as_it_is copy old);
  left = refl;
}

-- where so many times the size are fewer, so many are fewer
below_times : (size a b : ℕ) → a * size < b * size → a < b
below_times size a b below =
    elim (cases_lt a b) [
      | inl less ↦ less
      | inr past ↦ absurd (let more = mul-le-mul_right size past in omega (arith, below, more))
    ]

-- where bytes are left, fewer pieces were written than there are
rest_is_long : (size k : ℕ) (bytes rest : List ℕ) → rest ≡ drop (k * size) bytes → 0 < length rest → k * size < length bytes
rest_is_long size k bytes rest is more =
    let long : length rest ≡ length (drop (k * size) bytes) = ap length is in
    omega (arith, more, long, length-drop (k * size) bytes)

pub more_pieces : (size copy : ℕ) (bytes rest : List ℕ) (old now : VaultView) → 0 < size → (so_far : Filling size copy bytes rest old now) → 0 < length rest → so_far.pieces < piece_count size bytes
more_pieces size copy bytes rest old now some so_far more =
    let below = rest_is_long size so_far.pieces bytes rest so_far.rest_is more in
    let bounds = div_ceil_times (length bytes) size some in
    below_times size so_far.pieces (piece_count size bytes) (omega (arith, below, bounds.0))

-- where none are left, all were written
pub all_pieces : (size copy : ℕ) (bytes rest : List ℕ) (old now : VaultView) → 0 < size → (so_far : Filling size copy bytes rest old now) → length rest ≡ 0 → so_far.pieces ≡ piece_count size bytes
all_pieces size copy bytes rest old now some so_far none =
    let k = so_far.pieces in
    let count = piece_count size bytes in
    let long : length rest ≡ length (drop (k * size) bytes) = ap length so_far.rest_is in
    let past : length bytes ≤ k * size = omega (arith, long, none, length-drop (k * size) bytes) in
    let bounds = div_ceil_times (length bytes) size some in
    let within = so_far.within in
    let not_more : k < suc count = below_times size k (suc count) (omega (arith, within, bounds.0, suc-mul count size)) in
    let not_less : count < suc k = below_times size count (suc k) (omega (arith, past, bounds.1, suc-mul k size)) in
    omega (arith, not_more, not_less)

-- a piece is cut off where the bytes end, if that comes first
pub front_is : (n m : ℕ) (xs : List ℕ) → m ≡ min n (length xs) → take m xs ≡ take n xs
front_is n m xs is = ap (λ k. take k xs) is ∙ take_min n xs

pub back_is : (n m : ℕ) (xs : List ℕ) → m ≡ min n (length xs) → drop m xs ≡ drop n xs
back_is n m xs is =
    elim (cases_lt (length xs) n) [
      | inl short ↦ drop_of_length-le xs {i = m} (omega (arith, is, short)) ∙ sym (drop_of_length-le xs {i = n} (omega (arith, short)))
      | inr long ↦ (let same : m ≡ n = omega (arith, is, long) in ap (λ k. drop k xs) same)
    ]

-- the piece that an encoder gives to a buffer of this size
pub record IsNextPiece (size : ℕ) (rest piece after : List ℕ) : Type 0 where
  pub front : piece ≡ take size rest
  pub back : after ≡ drop size rest
  pub split : piece ++ after ≡ rest

pub next_piece : (size count : ℕ) (rest piece after buffer : List ℕ) → length buffer ≡ size → count ≡ min (length buffer) (length rest) → piece ≡ take count rest → after ≡ drop count rest → IsNextPiece size rest piece after
next_piece size count rest piece after buffer long is front back =
    let cut : count ≡ min size (length rest) = is ∙ ap (λ n. min n (length rest)) long in
    record {
      front = front ∙ front_is size count rest cut;
      back = back ∙ back_is size count rest cut;
      split = ap (λ xs. xs ++ after) front ∙ ap (λ xs. take count rest ++ xs) back ∙ take-append-drop count rest;
    }

-- the next piece
pub next_call : (size copy : ℕ) (bytes rest piece : List ℕ) (old now : VaultView) → (so_far : Filling size copy bytes rest old now) → piece ≡ take size rest → DraftAppend copy piece ≡ append_call size copy bytes so_far.pieces
next_call size copy bytes rest piece old now so_far is = ap (DraftAppend copy) (is ∙ ap (take size) so_far.rest_is)

-- the next piece is written
pub filling_more : (size copy : ℕ) (bytes rest piece after : List ℕ) (old mid new : VaultView)
    → IsWellFormed mid → copy < copies_of old → piece ++ after ≡ rest → piece ≡ take size rest → after ≡ drop size rest → 0 < length rest
    → Filling size copy bytes rest old mid → GoesOn mid new (plain_done (DraftAppend copy piece) false ∷ []) → ChangesBy Stays mid new → DraftIs copy Open (staged_of mid copy ++ piece) mid new
    → Filling size copy bytes after old new
filling_more size copy bytes rest piece after old mid new formed within split front back more so_far goes_on changes draft =
    let tells = so_far.calls.goes_on.tells in
    let same = so_far.calls.goes_on.copies in
    let next = draft_then copy Open Open so_far.written (staged_of mid copy ++ piece) old mid new tells so_far.draft draft in
    let one : suc so_far.pieces ≡ so_far.pieces + 1 = omega arith in
    let sum : so_far.pieces * size + size ≡ (so_far.pieces + 1) * size = sym (suc-mul so_far.pieces size) ∙ ap (λ n. n * size) one in
    let below = rest_is_long size so_far.pieces bytes rest so_far.rest_is more in
    record {
      calls = more_calls old mid new _ so_far.calls goes_on;
      pieces = so_far.pieces + 1;
      made = each_more (append_call size copy bytes) (DraftAppend copy piece) so_far.pieces Done old mid new (next_call size copy bytes rest piece old mid so_far front) refl so_far.made goes_on;
      rest_is = back ∙ ap (drop size) so_far.rest_is ∙ drop-drop size (so_far.pieces * size) bytes ∙ ap (λ n. drop n bytes) sum;
      within = omega (arith, below, sum);
      changes = stays_then Stays old mid new tells so_far.changes changes (λ _. refl);
      written = so_far.written ++ piece;
      draft = record {
        state = next.state;
        bytes = λ told. next.bytes told ∙ ap (λ xs. set old.staged copy (xs ++ piece)) (draft_bytes copy Open so_far.written old mid (tells ∙ told) tells (omega (arith, same)) formed so_far.draft);
      };
      left = append_assoc so_far.written piece after ∙ ap (λ xs. so_far.written ++ xs) split ∙ so_far.left;
    }

-- an empty draft, and then bytes at its end
pub begun_filled : {T : Type 0} {call : VaultCall} {result : Result T Failed} (copy : ℕ) (bytes : List ℕ) (old mid new : VaultView)
    → IsCall call result old mid → IsWellFormed mid → copy < copies_of old → DraftIs copy Open [] old mid → DraftIs copy Open (staged_of mid copy ++ bytes) mid new → DraftIs copy Open bytes old new
begun_filled copy bytes old mid new call formed within begun filled =
    let tells = call.goes_on.tells in
    let same = call.goes_on.copies in
    let next = draft_then copy Open Open [] (staged_of mid copy ++ bytes) old mid new tells begun filled in
    record {
      state = next.state;
      bytes = λ told. next.bytes told ∙ ap (λ xs. set old.staged copy (xs ++ bytes)) (draft_bytes copy Open [] old mid (tells ∙ told) tells (omega (arith, same)) formed begun);
    }

-- and then its seal
pub filled_sealed : {T : Type 0} {call : VaultCall} {result : Result T Failed} (copy : ℕ) (bytes : List ℕ) (old begun mid : VaultView) {new : VaultView}
    → IsCall call result old begun → SomeCalls begun mid → IsWellFormed mid → copy < copies_of old → DraftIs copy Open bytes old mid
    → DraftIs copy Sealed (staged_of mid copy) mid new → DraftIs copy Sealed bytes old new
filled_sealed copy bytes old begun mid {new} call calls formed within filled sealed =
    let tells = calls.goes_on.tells ∙ call.goes_on.tells in
    let one = call.goes_on.copies in
    let two = calls.goes_on.copies in
    let next = draft_then copy Open Sealed bytes (staged_of mid copy) old mid new tells filled sealed in
    record {
      state = next.state;
      bytes = λ told. next.bytes told ∙ ap (λ xs. set old.staged copy xs) (draft_bytes copy Open bytes old mid (tells ∙ told) tells (omega (arith, one, two)) formed filled);
    }

-- a draft that was made since is gone
pub draft_gone : (copy : ℕ) (draft : Draft) (content : List ℕ) (old mid : VaultView) {new : VaultView}
    → SomeCalls old mid → DraftIs copy draft content old mid → DraftIs copy Absent [] mid new → DraftIs copy Absent [] old new
draft_gone copy draft content old mid {new} calls was gone = draft_then copy draft Absent content [] old mid new calls.goes_on.tells was gone
